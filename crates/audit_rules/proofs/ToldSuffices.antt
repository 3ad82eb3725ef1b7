-- What a part tells suffices for the join of its revision.
use Rattle.std.proofs.Common.{◌≡◌, ◌≢◌, ◌⊎◌, inl, inr, ℕ, zero, suc, ◌+◌, ◌<◌, Bool, true, false, cond, ◌&&◌, List, [], ◌∷◌, length, Option, Some, None, refl, sym, ap, ◌∙◌, subst, arith}
use Rattle.std.proofs.lemmas.Bool.{and_from, and_parts, true≢false}
use Rattle.std.specs.Prelude.{nat_le}
use Rattle.rev_num.specs.Path.{Path}
use Rattle.rev_num.specs.Value.{kind_of, same_kind}
use Rattle.rev_num.specs.declared.value.Value.{Value}
use Rattle.rev_num.specs.declared.value.ValueKind.{ValueKind}
use Rattle.rev_num.specs.declared.outcome.Cause.{Cause}
use Rattle.rev_num.specs.declared.outcome.Cause.TheVariants as cause
use Rattle.rev_num.specs.declared.outcome.Trap.{Trap}
use Rattle.name_tables.specs.Names.{Name, same}
use Rattle.typed_programs.specs.Least.{Among}
use Rattle.rev_num.proofs.PostOrder.{same_refl, same-eq}
use Rattle.rev_num.proofs.SameKinds.{same_kind_self, same_kind_is}
use Rattle.revision_calculus.specs.Program.{Setting}
use Rattle.revision_calculus.specs.State.{Location, Phase, running, joining, done, trapped, Local}
use Rattle.revision_calculus.specs.Kinded.{IsOf, IsOfIfAny, location_kinds, LocationsAre, LocationIs}
use Rattle.revision_calculus.specs.KeptBySteps.{IsFaultBelow, IsTrapBelow}
use Rattle.revision_calculus.proofs.LocationKinds.{zero_is}
use Rattle.determinacy.specs.Ends.{SameWrite, AllSame}
use Rattle.trace_diagram.specs.declared.diagram.Part.{Part}
use Rattle.trace_diagram.specs.declared.diagram.Change.{Change}
use Rattle.trace_diagram.specs.declared.diagram.PartEnd.{PartEnd}
use Rattle.trace_diagram.specs.declared.diagram.PartEnd.TheVariants as part_end
use Rattle.trace_diagram.specs.Shown.{cause_shown, end_shown, shown_part}
use Rattle.audit_rules.specs.Parts.{places, change_of, changes, place_at, cause_place, end_at, change_at, location_of, told_locations, number_of, cause_from, phase_with, told_phase, is_known, is_changed, kind_fits, changes_fit, takes_in, takes, IsApart}

-- ---- names

not_same : (p q : List ℕ) → same p q ≡ false → same q p ≡ false
not_same p q e = go (same q p) refl
  where
    go : (b : Bool) → same q p ≡ b → b ≡ false
    go false f = refl
    go true f = absurd (true≢false (sym (subst (λ x. same p x ≡ true) (sym (same-eq q p f)) (same_refl p)) ∙ e))

-- a place that is not known differs from the first one, and is not among the others
unknown_split : (x : List ℕ) (xs : List (List ℕ)) (p : List ℕ) → is_known (x ∷ xs) p ≡ false
    → (same x p ≡ false) × (is_known xs p ≡ false)
unknown_split x xs p e = go (same x p) refl e
  where
    go : (b : Bool) → same x p ≡ b → is_known (x ∷ xs) p ≡ false → (same x p ≡ false) × (is_known xs p ≡ false)
    go true f e = absurd (true≢false (sym (ap (λ b. cond b (true) (is_known xs p)) f) ∙ e))
    go false f e = (f, sym (ap (λ b. cond b (true) (is_known xs p)) f) ∙ e)

-- ---- writes

told_skip : (c : Change) (cs : List Change) (ps : List (List ℕ)) (ts : List ValueKind) → is_known ps c.place ≡ false
    → told_locations ps ts (c ∷ cs) ≡ told_locations ps ts cs
told_skip c cs [] ts e = refl
told_skip c cs (x ∷ xs) [] e = refl
told_skip c cs (x ∷ xs) (t ∷ ts) e =
    let apart = unknown_split x xs c.place e in
    let off : same c.place x ≡ false = not_same x c.place apart.0 in
    let rest : told_locations xs ts (c ∷ cs) ≡ told_locations xs ts cs = told_skip c cs xs ts apart.1 in
    λ i. location_of t (cond (off i) (Some c) (change_at cs x)) ∷ rest i

-- what is written has a known place
unchanged : (p : List ℕ) (ps : List (List ℕ)) (ms : List Location) → is_known ps p ≡ false
    → is_changed (changes ps ms) p ≡ false
unchanged p [] ms e = refl
unchanged p (x ∷ xs) [] e = refl
unchanged p (x ∷ xs) (m ∷ ms) e = let apart = unknown_split x xs p e in go (unchanged p xs ms apart.1) m.written apart
  where
    go : is_changed (changes xs ms) p ≡ false → (w : Option Value) → (same x p ≡ false) × (is_known xs p ≡ false)
        → is_changed (change_of x m w (changes xs ms)) p ≡ false
    go later None apart = later
    go later (Some v) apart = ap (λ b. cond b (true) (is_changed (changes xs ms) p)) apart.0 ∙ later

not_at : (cs : List Change) (p : List ℕ) → is_changed cs p ≡ false → change_at cs p ≡ None
not_at [] p e = refl
not_at (c ∷ cs) p e = go (λ f. not_at cs p f) (same c.place p) refl e
  where
    go : (is_changed cs p ≡ false → change_at cs p ≡ None) → (b : Bool) → same c.place p ≡ b
        → cond b true (is_changed cs p) ≡ false → change_at (c ∷ cs) p ≡ None
    go later true f e = absurd (true≢false e)
    go later false f e = ap (λ b. cond b (Some c) (change_at cs p)) f ∙ later e

pub told_same : (ps : List (List ℕ)) (ts : List ValueKind) (ms : List Location) → IsApart ps → length ms ≡ length ps
    → LocationsAre ts ms → AllSame ms (told_locations ps ts (changes ps ms))
told_same [] ts [] apart size are = tt
told_same [] ts (m ∷ ms) apart size are = absurd (omega arith)
told_same (p ∷ ps) ts [] apart size are = absurd (omega arith)
told_same (p ∷ ps) [] (m ∷ ms) apart size are = absurd are
told_same (p ∷ ps) (t ∷ ts) (m ∷ ms) apart size are = go (told_same ps ts ms apart.1 (omega arith) are.1) m.written refl
  where
    go : AllSame ms (told_locations ps ts (changes ps ms)) → (w : Option Value) → m.written ≡ w
        → AllSame (m ∷ ms) (told_locations (p ∷ ps) (t ∷ ts) (change_of p m w (changes ps ms)))
    go rest None is =
        let none : change_at (changes ps ms) p ≡ None = not_at (changes ps ms) p (unchanged p ps ms apart.0) in
        let first : SameWrite m (location_of t None) =
        record { written = sym is; base = λ x e. (let w : None ≡ Some x = sym is ∙ e in absurd cc) } in
        (subst (λ c. SameWrite m (location_of t c)) (sym none) first, rest)
    go rest (Some x) is =
        let c : Change = record { place = p; value = x; root = m.base } in
        let on : change_at (c ∷ changes ps ms) p ≡ Some c =
        ap (λ b. cond b (Some c) (change_at (changes ps ms) p)) (same_refl p) in
        let first : SameWrite m (location_of t (Some c)) = record { written = sym is; base = λ y e. refl } in (
          subst (λ d. SameWrite m (location_of t d)) (sym on) first,
          subst (AllSame ms) (sym (told_skip c (changes ps ms) ps ts apart.0)) rest,
        )

-- ---- ends

known_at : (ps : List (List ℕ)) (n : ℕ) → n < length ps → is_known ps (place_at ps n) ≡ true
known_at [] n h = absurd (omega arith)
known_at (p ∷ ps) zero h = ap (λ b. cond b (true) (is_known ps p)) (same_refl p)
known_at (p ∷ ps) (suc n) h = go (known_at ps n (omega arith)) (same p (place_at ps n))
  where
    go : is_known ps (place_at ps n) ≡ true → (b : Bool) → cond b true (is_known ps (place_at ps n)) ≡ true
    go later true = refl
    go later false = later

number_at : (ps : List (List ℕ)) (n : ℕ) → IsApart ps → n < length ps → number_of ps (place_at ps n) ≡ Some n
number_at [] n apart h = absurd (omega arith)
number_at (p ∷ ps) zero apart h =
    ap (λ b. cond b (Some zero) (elim (number_of ps p) [ None ↦ None | Some n ↦ Some (suc n) ])) (same_refl p)
number_at (p ∷ ps) (suc n) apart h = go (number_at ps n apart.1 (omega arith)) (same p (place_at ps n)) refl
  where
    less : n < length ps
    less = omega arith

    go : number_of ps (place_at ps n) ≡ Some n → (b : Bool) → same p (place_at ps n) ≡ b
        → number_of (p ∷ ps) (place_at ps n) ≡ Some (suc n)
    go later true e =
        absurd (true≢false (sym (known_at ps n less) ∙ ap (is_known ps) (sym (same-eq p (place_at ps n) e)) ∙ apart.0))
    go later false e =
        ap (λ b. cond b (Some zero) (elim (number_of ps (place_at ps n)) [ None ↦ None | Some k ↦ Some (suc k) ])) e
        ∙ ap (λ o. elim o [ None ↦ None | Some k ↦ Some (suc k) ]) later

told_cause : (ps : List (List ℕ)) (c : Cause) → IsApart ps → IsFaultBelow (length ps) c
    → cause_from c (number_of ps (cause_place ps c)) ≡ Some c
told_cause ps (cause.Merge n f) apart h = ap (cause_from (cause.Merge n f)) (number_at ps n apart h)
told_cause ps cause.Overflow apart h = refl
told_cause ps cause.ZeroDivisor apart h = refl
told_cause ps cause.Index apart h = refl
told_cause ps cause.Assert apart h = refl
told_cause ps cause.JoinNone apart h = refl
told_cause ps cause.CallDepth apart h = refl
told_cause ps cause.Spent apart h = refl

pub told_ended : (ps : List (List ℕ)) (p : Phase) → IsApart ps → IsTrapBelow (length ps) p → p ≢ running
    → ((q : Path) (left : Option Name) → p ≢ joining q left) → told_phase ps (end_at ps p) ≡ Some p
told_ended ps done apart h not_run not_join = refl
told_ended ps (trapped t) apart h not_run not_join = ap (phase_with t) (told_cause ps t.cause apart h)
told_ended ps running apart h not_run not_join = absurd (not_run refl)
told_ended ps (joining q left) apart h not_run not_join = absurd (not_join q left refl)

-- ---- kinds

kind_same : (t : ValueKind) (x : Value) → IsOf t x → same_kind (kind_of x) t ≡ true
kind_same t x e = ap (λ k. same_kind k t) e ∙ same_kind_self t

fit_skip : (p : List ℕ) (ps : List (List ℕ)) (t : ValueKind) (ts : List ValueKind) (cs : List Change)
    → is_changed cs p ≡ false → changes_fit (p ∷ ps) (t ∷ ts) cs ≡ changes_fit ps ts cs
fit_skip p ps t ts [] e = refl
fit_skip p ps t ts (c ∷ cs) e = go (λ f. fit_skip p ps t ts cs f) (same c.place p) refl e
  where
    go : (is_changed cs p ≡ false → changes_fit (p ∷ ps) (t ∷ ts) cs ≡ changes_fit ps ts cs) → (b : Bool)
        → same c.place p ≡ b → cond b true (is_changed cs p) ≡ false
        → changes_fit (p ∷ ps) (t ∷ ts) (c ∷ cs) ≡ changes_fit ps ts (c ∷ cs)
    go later true f e = absurd (true≢false e)
    go later false f e =
        let off : same p c.place ≡ false = not_same c.place p f in
        let rest : changes_fit (p ∷ ps) (t ∷ ts) cs ≡ changes_fit ps ts cs = later e in
        let one : kind_fits (p ∷ ps) (t ∷ ts) c ≡ kind_fits ps ts c =
        ap (λ b. cond b (same_kind (kind_of c.value) t && same_kind (kind_of c.root) t) (kind_fits ps ts c)) off in
        λ i. one i && cond (is_changed cs c.place) false (rest i)

pub true_fits : (ps : List (List ℕ)) (ts : List ValueKind) (ms : List Location) → IsApart ps → LocationsAre ts ms
    → changes_fit ps ts (changes ps ms) ≡ true
true_fits [] ts ms apart h = refl
true_fits (p ∷ ps) ts [] apart h = refl
true_fits (p ∷ ps) [] (m ∷ ms) apart h = absurd h
true_fits (p ∷ ps) (t ∷ ts) (m ∷ ms) apart h =
    go (fit_skip p ps t ts (changes ps ms) (unchanged p ps ms apart.0) ∙ true_fits ps ts ms apart.1 h.1) m.written refl
  where
    go : changes_fit (p ∷ ps) (t ∷ ts) (changes ps ms) ≡ true → (w : Option Value) → m.written ≡ w
        → changes_fit (p ∷ ps) (t ∷ ts) (change_of p m w (changes ps ms)) ≡ true
    go rest None is = rest
    go rest (Some x) is =
        let slot : LocationIs t m = h.0 in
        let of : IsOf t x = subst (IsOfIfAny t) is slot.written in
        let both : (same_kind (kind_of x) t && same_kind (kind_of m.base) t) ≡ true =
        and_from _ _ (kind_same t x of) (kind_same t m.base slot.base) in
        let one : kind_fits (p ∷ ps) (t ∷ ts) (record { place = p; value = x; root = m.base }) ≡ true =
        ap (λ b. cond b (same_kind (kind_of x) t && same_kind (kind_of m.base) t)
        (kind_fits ps ts (record { place = p; value = x; root = m.base })))
        (same_refl p)
        ∙ both in
        and_from _ _ one
        (ap (λ b. cond b (false) (changes_fit (p ∷ ps) (t ∷ ts) (changes ps ms))) (unchanged p ps ms apart.0) ∙ rest)

-- ---- parts with one text

shown_cause : (c : Cause) (k : Option ℕ) → cause_from c k ≡ cause_from (cause_shown c) k
shown_cause (cause.Merge n f) None = refl
shown_cause (cause.Merge n f) (Some k) = refl
shown_cause cause.Overflow k = refl
shown_cause cause.ZeroDivisor k = refl
shown_cause cause.Index k = refl
shown_cause cause.Assert k = refl
shown_cause cause.JoinNone k = refl
shown_cause cause.CallDepth k = refl
shown_cause cause.Spent k = refl

with_shown : (t u : Trap) (c : Option Cause) → u.line ≡ t.line → u.origin ≡ t.origin → phase_with t c ≡ phase_with u c
with_shown t u None e f = refl
with_shown t u (Some c) e f = λ i. Some (trapped (record { cause = c; line = sym e i; origin = sym f i }))

pub told_shown : (ps : List (List ℕ)) (e : PartEnd) → told_phase ps e ≡ told_phase ps (end_shown e)
told_shown ps part_end.Done = refl
told_shown ps (part_end.Trapped t p) =
    ap (phase_with t) (shown_cause t.cause (number_of ps p))
    ∙ with_shown t (record t { cause = cause_shown t.cause }) (cause_from (cause_shown t.cause) (number_of ps p)) refl
    refl

pub takes_shown : (s : Setting) (fuel : ℕ) (r q : Path) (l : Local) (p : Part)
    → takes s fuel r l q p ≡ takes s fuel r l q (shown_part p)
takes_shown s fuel r q l p = go (told_shown (places s) p.end)
  where
    go : told_phase (places s) p.end ≡ told_phase (places s) (end_shown p.end)
        → takes s fuel r l q p ≡ takes s fuel r l q (shown_part p)
    go e = ap (λ o.
        takes_in s r l q p o
        (changes_fit (places s) (location_kinds s) p.written && nat_le (p.fuel + l.fuel + l.forks) fuel))
        e
        ∙ by (told_phase (places s) (end_shown p.end))
        (changes_fit (places s) (location_kinds s) p.written && nat_le (p.fuel + l.fuel + l.forks) fuel)
      where
        by : (o : Option Phase) (b : Bool) → takes_in s r l q p o b ≡ takes_in s r l q (shown_part p) o b
        by None b = refl
        by (Some ph) true = refl
        by (Some ph) false = refl

-- ---- a part that can be taken has values of their kinds

-- each of these that has one of the places is of the kind there
abbrev Fit : List (List ℕ) → List ValueKind → List Change → Type 0
Fit ps ts cs = (c : Change) → Among cs c → is_known ps c.place ≡ true → kind_fits ps ts c ≡ true

all_fit : (ps : List (List ℕ)) (ts : List ValueKind) (cs : List Change) → changes_fit ps ts cs ≡ true → Fit ps ts cs
all_fit ps ts [] e c i k = absurd i
all_fit ps ts (d ∷ cs) e c i k =
    go i (and_parts (kind_fits ps ts d) (cond (is_changed cs d.place) false (changes_fit ps ts cs)) e)
    (λ f j. all_fit ps ts cs f c j k)
  where
    cond_true : (b x : Bool) → cond b false x ≡ true → x ≡ true
    cond_true true x e = absurd (true≢false (sym e))
    cond_true false x e = e

    go : Among (d ∷ cs) c
        → (kind_fits ps ts d ≡ true) × (cond (is_changed cs d.place) false (changes_fit ps ts cs) ≡ true)
        → (changes_fit ps ts cs ≡ true → Among cs c → kind_fits ps ts c ≡ true) → kind_fits ps ts c ≡ true
    go (inl is) both later = subst (λ v. kind_fits ps ts v ≡ true) is both.0
    go (inr j) both later = later (cond_true (is_changed cs d.place) (changes_fit ps ts cs) both.1) j

-- what is found at a place
found_at : (cs : List Change) (p : List ℕ) (c : Change) → change_at cs p ≡ Some c → Among cs c × (same c.place p ≡ true)
found_at [] p c e = absurd cc
found_at (d ∷ cs) p c e = go (same d.place p) refl (λ f. found_at cs p c f) e
  where
    go : (b : Bool) → same d.place p ≡ b → (change_at cs p ≡ Some c → Among cs c × (same c.place p ≡ true))
        → cond b (Some d) (change_at cs p) ≡ Some c → Among (d ∷ cs) c × (same c.place p ≡ true)
    go true f later e = let is : d ≡ c = cc in (inl is, subst (λ v. same v.place p ≡ true) is f)
    go false f later e = let h = later e in (inr h.0, h.1)

pub told_kinded : (ps : List (List ℕ)) (ts : List ValueKind) (cs : List Change) → IsApart ps → length ps ≡ length ts
    → Fit ps ts cs → LocationsAre ts (told_locations ps ts cs)
told_kinded [] [] cs apart size fit = tt
told_kinded [] (t ∷ ts) cs apart size fit = absurd (omega arith)
told_kinded (p ∷ ps) [] cs apart size fit = absurd (omega arith)
told_kinded (p ∷ ps) (t ∷ ts) cs apart size fit =
    (first (change_at cs p) refl, told_kinded ps ts cs apart.1 (omega arith) rest)
  where
    known : (c : Change) → same p c.place ≡ true → kind_fits (p ∷ ps) (t ∷ ts) c ≡ true
        → (same_kind (kind_of c.value) t && same_kind (kind_of c.root) t) ≡ true
    known c e f =
        sym (ap (λ b. cond b (same_kind (kind_of c.value) t && same_kind (kind_of c.root) t) (kind_fits ps ts c)) e) ∙ f

    first : (o : Option Change) → change_at cs p ≡ o → LocationIs t (location_of t o)
    first None e = record { base = zero_is t; written = tt }
    first (Some c) e =
        let h = found_at cs p c e in
        let cp : c.place ≡ p = same-eq c.place p h.1 in
        let pc : same p c.place ≡ true = subst (λ x. same p x ≡ true) (sym cp) (same_refl p) in
        let k : is_known (p ∷ ps) c.place ≡ true = ap (λ b. cond b true (is_known ps c.place)) pc in
        let both =
        and_parts (same_kind (kind_of c.value) t) (same_kind (kind_of c.root) t) (known c pc (fit c h.0 k)) in
        record { base = same_kind_is (kind_of c.root) t both.1; written = same_kind_is (kind_of c.value) t both.0 }

    rest : Fit ps ts cs
    rest c i k = go (same p c.place) refl
      where
        go : (b : Bool) → same p c.place ≡ b → kind_fits ps ts c ≡ true
        go true e = absurd (true≢false (sym k ∙ ap (is_known ps) (sym (same-eq p c.place e)) ∙ apart.0))
        go false e =
            let at : is_known (p ∷ ps) c.place ≡ true = ap (λ b. cond b true (is_known ps c.place)) e ∙ k in
            sym (ap (λ b. cond b (same_kind (kind_of c.value) t && same_kind (kind_of c.root) t) (kind_fits ps ts c)) e)
            ∙ fit c i at

pub taken_kinded : (ps : List (List ℕ)) (ts : List ValueKind) (cs : List Change) → IsApart ps → length ps ≡ length ts
    → changes_fit ps ts cs ≡ true → LocationsAre ts (told_locations ps ts cs)
taken_kinded ps ts cs apart size e = told_kinded ps ts cs apart size (all_fit ps ts cs e)

-- a joinee of which a part tells has ended
pub told_is_ended : (ps : List (List ℕ)) (e : PartEnd) (p : Phase) → told_phase ps e ≡ Some p
    → (p ≡ done) ⊎ ((t : Trap) × (p ≡ trapped t))
told_is_ended ps part_end.Done p e = inl (let is : done ≡ p = cc in sym is)
told_is_ended ps (part_end.Trapped t place) p e = go (cause_from t.cause (number_of ps place)) e
  where
    go : (o : Option Cause) → phase_with t o ≡ Some p → (p ≡ done) ⊎ ((t : Trap) × (p ≡ trapped t))
    go None e = absurd cc
    go (Some c) e = inr (record t { cause = c }, (let is : trapped (record t { cause = c }) ≡ p = cc in sym is))

-- ---- the location of a stated fault

number_below : (ps : List (List ℕ)) (p : List ℕ) (k : ℕ) → number_of ps p ≡ Some k → k < length ps
number_below [] p k e = absurd cc
number_below (x ∷ xs) p k e = go (same x p) (number_of xs p) (number_below xs p) refl e
  where
    go : (b : Bool) (o : Option ℕ) → ((n : ℕ) → number_of xs p ≡ Some n → n < length xs) → number_of xs p ≡ o
        → cond b (Some zero) (elim o [ None ↦ None | Some n ↦ Some (suc n) ]) ≡ Some k → k < suc (length xs)
    go true o later is f = let first : zero ≡ k = cc in omega (arith, first)
    go false None later is f = absurd cc
    go false (Some n) later is f = let less = later n is in let next : suc n ≡ k = cc in omega (arith, less, next)

cause_below : (ps : List (List ℕ)) (place : List ℕ) (c d : Cause) → cause_from c (number_of ps place) ≡ Some d
    → IsFaultBelow (length ps) d
cause_below ps place (cause.Merge n f) d e = go (number_of ps place) refl e
  where
    go : (o : Option ℕ) → number_of ps place ≡ o → cause_from (cause.Merge n f) o ≡ Some d → IsFaultBelow (length ps) d
    go None is g = absurd cc
    go (Some k) is g =
        subst (IsFaultBelow (length ps)) (let same_cause : cause.Merge k f ≡ d = cc in same_cause)
        (number_below ps place k is)
cause_below ps place cause.Overflow d e = subst (IsFaultBelow (length ps)) (let is : cause.Overflow ≡ d = cc in is) tt
cause_below ps place cause.ZeroDivisor d e =
    subst (IsFaultBelow (length ps)) (let is : cause.ZeroDivisor ≡ d = cc in is) tt
cause_below ps place cause.Index d e = subst (IsFaultBelow (length ps)) (let is : cause.Index ≡ d = cc in is) tt
cause_below ps place cause.Assert d e = subst (IsFaultBelow (length ps)) (let is : cause.Assert ≡ d = cc in is) tt
cause_below ps place cause.JoinNone d e = subst (IsFaultBelow (length ps)) (let is : cause.JoinNone ≡ d = cc in is) tt
cause_below ps place cause.CallDepth d e = subst (IsFaultBelow (length ps)) (let is : cause.CallDepth ≡ d = cc in is) tt
cause_below ps place cause.Spent d e = subst (IsFaultBelow (length ps)) (let is : cause.Spent ≡ d = cc in is) tt

-- where a stated part says that a merge faulted, it is that of a location
pub told_below : (ps : List (List ℕ)) (e : PartEnd) (p : Phase) → told_phase ps e ≡ Some p → IsTrapBelow (length ps) p
told_below ps part_end.Done p e = subst (IsTrapBelow (length ps)) (let is : done ≡ p = cc in is) tt
told_below ps (part_end.Trapped t place) p e = go (cause_from t.cause (number_of ps place)) refl e
  where
    go : (o : Option Cause) → cause_from t.cause (number_of ps place) ≡ o → phase_with t o ≡ Some p
        → IsTrapBelow (length ps) p
    go None is f = absurd cc
    go (Some c) is f =
        subst (IsTrapBelow (length ps)) (let same_phase : trapped (record t { cause = c }) ≡ p = cc in same_phase)
        (cause_below ps place t.cause c is)
