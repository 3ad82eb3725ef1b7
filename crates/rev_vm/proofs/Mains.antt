-- `main` before its first leg.
--   more_copies, start_many   words of variables, one after another
--   main_last, last_main      the last block is `main`, and no other
--   main_called               `main` may begin with no arguments
--   starts_based              a snapshot with the start words stands for the start locations
use Rattle.std.proofs.lemmas.Option.{get_or_from_slice_get}
use Rattle.std.proofs.Common.{◌≡◌, ◌∙◌, ℕ, zero, suc, ◌+◌, ◌-◌, ◌<◌, ◌≤◌, ◌^◌, true, List, [], ◌∷◌, ◌++◌, length, take, drop, replicate, Some, None, refl, sym, ap, subst, arith, true≢false}
use Rattle.std.specs.Prelude.{slice_get, slice_index, nat_le, nat_eq, not, ◌&&◌}
use Rattle.std.specs.List.{list_all}
use Rattle.std.proofs.lemmas.Bool.Decides.{nat_tests}
use Rattle.rev_num.specs.declared.value.ValueKind.{ValueKind}
use Rattle.rev_num.specs.declared.value.ValueKind.TheVariants as k
use Rattle.rev_code.specs.declared.code.Code.{Code}
use Rattle.rev_code.specs.declared.code.CodeBlock.{CodeBlock}
use Rattle.rev_code.specs.declared.code.CodeVar.{CodeVar}
use Rattle.rev_code.specs.State.{Location}
use Rattle.rev_code.specs.Step.{params}
use Rattle.rev_code.specs.Variables.{start_locations}
use Rattle.rev_code.specs.Words.{start_word}
use Rattle.code_rules.specs.Pass.{is_value_class}
use Rattle.code_rules.specs.Tables as rules
use Rattle.code_rules.specs.Tables.{is_main, ends_in_main, fits_class, has_result}
use Rattle.code_rules.proofs.Limits.{small_parts}
use Rattle.code_rules.specs.Verdict.{first_fault}
use Rattle.code_soundness.proofs.Basics.{and_parts, some_eq}
use Rattle.code_soundness.specs.Typed.{IsOfProgram}
use Rattle.code_soundness.specs.AcceptedCode.{IsAccepted, notes_of}
use Rattle.code_soundness.proofs.Accepting.{no_fault_accepted}
use Rattle.code_soundness.proofs.Evaluating.{block_well, var_well}
use Rattle.code_soundness.proofs.Variables.{start_kinds}
use Rattle.block_run.specs.Agreement.{IsWord}
use Rattle.block_run.specs.Standing.{IsSeen}
use Rattle.code_machine.specs.Local.{CodeRun, IsVerified}
use Rattle.block_run.specs.Area.{count}
use Rattle.rev_vm.specs.Opening.{AreShort, StartsWith, words_at_start}
use Rattle.rev_vm.specs.Starts.{IsBase, IsCalled}
use Rattle.rev_vm.proofs.Leaving.{append_three}
use Rattle.code_soundness.proofs.Reaching.{main_runs, main_bare}

-- ---- words, one after another

copies_end : (n w : ℕ) → replicate n w ++ w ∷ [] ≡ replicate (suc n) w
copies_end zero w = refl
copies_end (suc n) w = ap (λ us. w ∷ us) (copies_end n w)

pub more_copies : (xs : List ℕ) (n w : ℕ) → (xs ++ replicate n w) ++ w ∷ [] ≡ xs ++ replicate (n + 1) w
more_copies xs n w =
    append_three xs (replicate n w) (w ∷ [])
    ∙ ap (λ us. xs ++ us) (copies_end n w ∙ (let e : suc n ≡ n + 1 = omega arith in ap (λ m. replicate m w) e))

drop_all : (vs : List CodeVar) (n : ℕ) → length vs ≤ n → drop n vs ≡ []
drop_all [] zero h = refl
drop_all [] (suc n) h = refl
drop_all (v ∷ vs) zero h = absurd (omega (arith, h))
drop_all (v ∷ vs) (suc n) h = drop_all vs n (omega (arith, h))

pub short_more : (xs : List ℕ) (w : ℕ) → AreShort xs → w < 2 ^ 64 → AreShort (xs ++ w ∷ [])
short_more [] w h less zero u is = let e : w ≡ u = some_eq is in subst (λ z. z < 2 ^ 64) e less
short_more [] w h less (suc l) u is = absurd (let z : None ≡ Some u = is in cc)
short_more (x ∷ xs) w h less zero u is = h 0 u is
short_more (x ∷ xs) w h less (suc l) u is = short_more xs w (λ m v at. h (suc m) v at) less l u is

pub starts_with : (vs : List CodeVar) (ws : List ℕ) → ws ≡ words_at_start vs → AreShort ws
    → StartsWith vs (slice_index ws)
starts_with vs ws e short l w is =
    let at : slice_get ws l ≡ Some w = ap (λ us. slice_get us l) e ∙ is in
    (get_or_from_slice_get ws l w 0 at, short l w at)

many_copies : (n w : ℕ) (ws : List ℕ) → length (replicate n w ++ ws) ≡ n + length ws
many_copies zero w ws = let e : length ws ≡ 0 + length ws = omega arith in e
many_copies (suc n) w ws =
    ap suc (many_copies n w ws) ∙ (let e : suc (n + length ws) ≡ suc n + length ws = omega arith in e)

pub start_many : (vs : List CodeVar) → length (words_at_start vs) ≡ count vs
start_many [] = refl
start_many (v ∷ vs) = many_copies v.cells v.start (words_at_start vs) ∙ ap (λ n. v.cells + n) (start_many vs)

-- ---- the main block

main_last : (bs : List CodeBlock) → ends_in_main bs ≡ true → (n : ℕ) (b : CodeBlock) → slice_get bs n ≡ Some b
    → is_main b.class ≡ true → suc n ≡ length bs
main_last [] e n b is m = absurd (true≢false (sym e))
main_last (a ∷ []) e zero b is m = refl
main_last (a ∷ []) e (suc n) b is m = absurd (let z : None ≡ Some b = is in cc)
main_last (a ∷ c ∷ bs) e zero b is m =
    let p = (and_parts (not (is_main a.class)) (ends_in_main (c ∷ bs)) e).0 in
    let q : a ≡ b = some_eq is in
    absurd (true≢false (sym p ∙ ap not (ap (λ (x : CodeBlock). is_main x.class) q ∙ m)))
main_last (a ∷ c ∷ bs) e (suc n) b is m =
    ap suc (main_last (c ∷ bs) (and_parts (not (is_main a.class)) (ends_in_main (c ∷ bs)) e).1 n b is m)

last_main : (bs : List CodeBlock) → ends_in_main bs ≡ true
    → (n : ℕ) × (suc n ≡ length bs) × (b : CodeBlock) × (slice_get bs n ≡ Some b) × (is_main b.class ≡ true)
last_main [] e = absurd (true≢false (sym e))
last_main (a ∷ []) e = (0, refl, a, refl, e)
last_main (a ∷ c ∷ bs) e =
    let q = last_main (c ∷ bs) (and_parts (not (is_main a.class)) (ends_in_main (c ∷ bs)) e).1 in
    (suc q.0, ap suc q.1, q.2, q.3, q.4)

module _ (code : Code) (ok : first_fault code ≡ None) where
  accepted : IsAccepted code (notes_of code)
  accepted = no_fault_accepted code ok

  ends : ends_in_main code.blocks ≡ true
  ends =
      let p = and_parts (rules.blocks_well code && list_all (rules.is_var code) code.vars) (rules.lines_well code)
      accepted.named in
      let q = and_parts (rules.blocks_well code) (list_all (rules.is_var code) code.vars) p.0 in
      (and_parts (ends_in_main code.blocks) (list_all rules.is_block code.blocks) q.0).0

  pub few_blocks : length code.blocks ≤ 65535
  few_blocks = (small_parts code accepted.small).blocks

  pub main_there :
      (b : CodeBlock) × (slice_get code.blocks (length code.blocks - 1) ≡ Some b) × (is_main b.class ≡ true)
  main_there =
      let q = last_main code.blocks ends in
      let e : q.0 ≡ length code.blocks - 1 = let h = q.1 in omega (arith, h) in
      (q.2, ap (slice_get code.blocks) (sym e) ∙ q.3, q.4)

  pub main_one : (n : ℕ) (b : CodeBlock) → slice_get code.blocks n ≡ Some b → is_main b.class ≡ true
      → n ≡ length code.blocks - 1
  main_one n b is m = let q = main_last code.blocks ends n b is m in omega (arith, q)

  no_params : (n : ℕ) (b : CodeBlock) → slice_get code.blocks n ≡ Some b → is_main b.class ≡ true → [] ≡ params b
  no_params n b is m =
      let h = (and_parts (fits_class b.class b.params (has_result b)) (nat_le b.params (length b.locals))
      (block_well code accepted.named n b is)).0 in
      let e = main_bare b.class b.params (has_result b) m h in
      let z : b.params ≡ 0 = grind (arith, nat_tests, e) in
      sym (ap (λ u. take u b.locals) z)

  of_program : (n : ℕ) (b : CodeBlock) → slice_get code.blocks n ≡ Some b → is_main b.class ≡ true → IsOfProgram code n
  of_program n b is m =
      λ y is'. ap (λ (u : CodeBlock). is_value_class u.class) (some_eq (sym is' ∙ is)) ∙ main_runs b.class m

pub main_called : (g : CodeRun) → IsVerified g → (n : ℕ) (b : CodeBlock) → slice_get g.code.blocks n ≡ Some b
    → is_main b.class ≡ true → IsCalled g n b [] []
main_called g ok n b is m =
    record { is = is; program = of_program g.code ok n b is m; kinds = no_params g.code ok n b is m; stand = tt }

-- ---- the start locations

word_starts : (x : ValueKind) (w : ℕ) → rules.is_start x w ≡ true → w < 2 ^ 64 → IsWord (start_word x w) w
word_starts k.Int w h less = (less, refl)
word_starts k.Bool zero h less = refl
word_starts k.Bool (suc zero) h less = refl
word_starts k.Bool (suc (suc w)) h less =
    absurd (let z : nat_le (suc (suc w)) 1 ≡ true = h in grind (arith, nat_tests, z))
word_starts k.Rev zero h less = refl
word_starts k.Rev (suc w) h less = absurd (let z : nat_eq (suc w) 0 ≡ true = h in grind (arith, nat_tests, z))

module _ (base : ℕ → ℕ) where
  cells_seen : (n : ℕ) (v : CodeVar) (cells : ℕ) (ls : List (Location ℕ)) (ws : List ℕ)
      → rules.is_start v.kind v.start ≡ true
      → ((l w : ℕ) → slice_get (replicate cells v.start ++ ws) l ≡ Some w → (base (n + l) ≡ w) × (w < 2 ^ 64))
      → ((m : ℕ) → ((l w : ℕ) → slice_get ws l ≡ Some w → (base (m + l) ≡ w) × (w < 2 ^ 64)) → (l : ℕ) (x : Location ℕ)
      → slice_get ls l ≡ Some x → IsSeen x (base (m + l)) None)
      → (l : ℕ) (x : Location ℕ)
      → slice_get (replicate cells (record { snapshot = start_word v.kind v.start; written = None }) ++ ls) l ≡ Some x
      → IsSeen x (base (n + l)) None
  cells_seen n v zero ls ws starts h later l x is = later n h l x is
  cells_seen n v (suc cells) ls ws starts h later zero x is =
      let q = h 0 v.start refl in
      let y : record { snapshot = start_word v.kind v.start; written = None } ≡ x = some_eq is in
      subst (λ (z : Location ℕ). IsSeen z (base (n + 0)) None) y
      (refl, subst (IsWord (start_word v.kind v.start)) (sym q.0) (word_starts v.kind v.start starts q.1))
  cells_seen n v (suc cells) ls ws starts h later (suc l) x is =
      let e : suc n + l ≡ n + suc l = omega arith in
      subst (λ m. IsSeen x (base m) None) e
      (cells_seen (suc n) v cells ls ws starts
      (λ m w at.
      let f : n + suc m ≡ suc n + m = omega arith in subst (λ z. (base z ≡ w) × (w < 2 ^ 64)) f (h (suc m) w at))
      later l x is)

  all_seen : (vs : List CodeVar)
      → ((j : ℕ) (v : CodeVar) → slice_get vs j ≡ Some v → rules.is_start v.kind v.start ≡ true)
      → (n : ℕ) → ((l w : ℕ) → slice_get (words_at_start vs) l ≡ Some w → (base (n + l) ≡ w) × (w < 2 ^ 64))
      → (l : ℕ) (x : Location ℕ) → slice_get (start_locations vs) l ≡ Some x → IsSeen x (base (n + l)) None
  all_seen [] starts n h l x is = absurd (let z : None ≡ Some x = is in cc)
  all_seen (v ∷ vs) starts n h l x is =
      cells_seen n v v.cells (start_locations vs) (words_at_start vs) (starts 0 v refl) h
      (λ m k. all_seen vs (λ j u at. starts (suc j) u at) m k) l x is

module _ (code : Code) (ok : first_fault code ≡ None) where
  good_starts : (j : ℕ) (v : CodeVar) → slice_get code.vars j ≡ Some v → rules.is_start v.kind v.start ≡ true
  good_starts j v at =
      let q = var_well code (no_fault_accepted code ok).named j v at in
      let r = and_parts (rules.is_name v.name && rules.has_cells v.array v.cells && rules.is_start v.kind v.start)
      (rules.merges_well code v) q in
      (and_parts (rules.is_name v.name && rules.has_cells v.array v.cells) (rules.is_start v.kind v.start) r.0).1

pub starts_based : (g : CodeRun) → IsVerified g → (base : ℕ → ℕ) → StartsWith g.code.vars base
    → IsBase g base (start_locations g.code.vars)
starts_based g ok base h = record {
  kinds = start_kinds ℕ g.code.vars;
  seen = λ l x is.
      let f : l ≡ 0 + l = omega arith in
      subst (λ m. IsSeen x (base m) None) (sym f)
      (all_seen base g.code.vars (good_starts g.code ok) 0
      (λ m w at. let e : m ≡ 0 + m = omega arith in subst (λ z. (base z ≡ w) × (w < 2 ^ 64)) e (h m w at)) l x is);
}
