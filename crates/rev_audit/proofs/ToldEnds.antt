-- What is told of the end of a revision suffices for its join.
use Rattle.std.proofs.Common.{◌≡◌, ℕ, suc, ◌≤◌, true, false, cond, List, [], ◌∷◌, length, Option, Some, None, refl, sym, ap, ◌∙◌, subst, arith}
use Rattle.std.specs.Prelude.{nat_eq}
use Rattle.std.proofs.lemmas.Bool.Decides.{nat_tests}
use Rattle.rev_num.specs.Path.{Path}
use Rattle.rev_num.specs.declared.value.Value.{Value}
use Rattle.revision_calculus.specs.Program.{Setting}
use Rattle.revision_calculus.specs.State.{Location, Local}
use Rattle.revision_calculus.specs.Join.{join}
use Rattle.determinacy.specs.Ends.{SameWrite, AllSame}
use Rattle.determinacy.proofs.Joining.{join_same}
use Rattle.stated_parts.specs.declared.ends.AloneWrite.{AloneWrite}
use Rattle.stated_parts.specs.declared.ends.AloneEnd.{AloneEnd}
use Rattle.stated_parts.specs.Ends.{write_of, writes_from, untold, told, told_at, behind, told_from}
use Rattle.rev_audit.specs.Alone.{told_state, JoinsEnd}

-- ---- writes

-- the first of these writes, if there is one, is at this number or behind it
abbrev pub IsFrom : ℕ → List AloneWrite → Type 0
IsFrom n [] = Unit {0}
IsFrom n (w ∷ ws) = n ≤ w.location

sooner : (n : ℕ) (ws : List AloneWrite) → IsFrom (suc n) ws → IsFrom n ws
sooner n [] h = tt
sooner n (w ∷ ws) h = omega (arith, h)

writes_behind : (n : ℕ) (ms : List Location) → IsFrom n (writes_from n ms)
writes_behind n [] = tt
writes_behind n (m ∷ ms) = by m.written (writes_behind (suc n) ms)
  where
    by : (o : Option Value) → IsFrom (suc n) (writes_from (suc n) ms)
        → IsFrom n (write_of n m o (writes_from (suc n) ms))
    by None later = sooner n (writes_from (suc n) ms) later
    by (Some x) later = omega arith

-- no write at this number
none_at : (n : ℕ) (ws : List AloneWrite) → IsFrom (suc n) ws → (told_at n ws ≡ untold) × (behind n ws ≡ ws)
none_at n [] h = (refl, refl)
none_at n (w ∷ ws) h =
    let off : nat_eq w.location n ≡ false = grind (arith, nat_tests, h) in
    (ap (λ b. cond b (told w) untold) off, ap (λ b. cond b ws (w ∷ ws)) off)

same_at : (n : ℕ) (w : AloneWrite) (ws : List AloneWrite) → w.location ≡ n
    → (told_at n (w ∷ ws) ≡ told w) × (behind n (w ∷ ws) ≡ ws)
same_at n w ws e =
    let on : nat_eq w.location n ≡ true = grind (arith, nat_tests, e) in
    (ap (λ b. cond b (told w) untold) on, ap (λ b. cond b ws (w ∷ ws)) on)

-- the locations by their writes
pub told_same : (n : ℕ) (js : List Location) → AllSame js (told_from n (length js) (writes_from n js))
told_same n [] = tt
told_same n (j ∷ js) = by j.written refl (told_same (suc n) js)
  where
    by : (o : Option Value) → j.written ≡ o → AllSame js (told_from (suc n) (length js) (writes_from (suc n) js))
        → AllSame (j ∷ js) (told_from n (suc (length js)) (write_of n j o (writes_from (suc n) js)))
    by None is later =
        let ws = writes_from (suc n) js in
        let e = none_at n ws (writes_behind (suc n) js) in
        let first : SameWrite j untold =
        record { written = sym is; base = λ x f. absurd (let g : None ≡ Some x = sym is ∙ f in cc) } in
        (subst (SameWrite j) (sym e.0) first, subst (λ t. AllSame js (told_from (suc n) (length js) t)) (sym e.1) later)
    by (Some x) is later =
        let ws = writes_from (suc n) js in
        let w : AloneWrite = record { location = n; value = x; root = j.base } in
        let e = same_at n w ws refl in
        let first : SameWrite j (told w) = record { written = sym is; base = λ y f. refl } in
        (subst (SameWrite j) (sym e.0) first, subst (λ t. AllSame js (told_from (suc n) (length js) t)) (sym e.1) later)

-- ---- the join

-- the join of a state that is made of what is told is that of each state with this end
pub joins_told : (s : Setting) (r q : Path) (l : Local) (e : AloneEnd) (new : Local)
    → new ≡ join s r l q (told_state (length l.locations) e) → JoinsEnd s r l q e new
joins_told s r q l e new is j count end =
    let shown :
    told_from 0 (length j.locations) (writes_from 0 j.locations) ≡ told_from 0 (length l.locations) e.written.items =
    λ i. told_from 0 (count i) (sym end.written i) in
    is
    ∙ join_same s r q l j (told_state (length l.locations) e)
    (subst (AllSame j.locations) shown (told_same 0 j.locations)) end.text end.fuel (sym end.trap)
