-- The writes of a part by the numbers of their locations.
use Rattle.std.proofs.Common.{◌≡◌, ℕ, zero, suc, ◌+◌, ◌<◌, Bool, true, false, ◌&&◌, cond, List, [], ◌∷◌, ◌++◌, length, set, replicate, take, drop, get_or, length-take, Option, Some, None, option_map, refl, sym, ap, ◌∙◌, subst, arith}
use Rattle.std.proofs.lemmas.Bool.{true≢false}
use Rattle.std.proofs.lemmas.List.{take_more}
use Rattle.std.specs.List.{slice_get}
use Rattle.rev_num.specs.Value.{kind_of, same_kind}
use Rattle.rev_num.specs.declared.value.ValueKind.{ValueKind}
use Rattle.rev_num.proofs.PostOrder.{same_refl, same-eq}
use Rattle.name_tables.specs.Names.{same}
use Rattle.name_tables.specs.Table.{Table, added, find}
use Rattle.name_tables.proofs.Tables.{or_else, find-added}
use Rattle.revision_calculus.specs.State.{Location}
use Rattle.revision_calculus.specs.Kinded.{LocationsAre}
use Rattle.stated_parts.specs.declared.ends.AloneWrite.{AloneWrite}
use Rattle.stated_parts.specs.Ends.{write_of, writes_from}
use Rattle.revision_machine.proofs.Paths.{some_inj}
use Rattle.trace_diagram.specs.declared.diagram.Change.{Change}
use Rattle.audit_rules.specs.Parts.{IsApart, change_at, changes_fit, is_changed, is_known, kind_fits, location_of, number_of, told_locations}
use Rattle.audit_rules.proofs.OneOwnRun.{none_some}
use Rattle.stated_parts.specs.Told.{slots_from, with_written, write_to, written_in}

-- ---- numbers of places

-- where the number of a place stands among the rest
abbrev pub later_number : Option ℕ → Option ℕ
later_number o = elim o [ None ↦ None | Some n ↦ Some (suc n) ]

pub record IsLater (o : Option ℕ) (k : ℕ) : Type 0 where
  pub number : ℕ
  pub stands : o ≡ Some number
  pub is : k ≡ suc number

pub later : (o : Option ℕ) (k : ℕ) → later_number o ≡ Some k → IsLater o k
later None k e = none_some e
later (Some n) k e = record { number = n; stands = refl; is = sym (some_inj e) }

pub number_within : (ps : List (List ℕ)) (p : List ℕ) (k : ℕ) → number_of ps p ≡ Some k → k < length ps
number_within [] p k e = none_some e
number_within (x ∷ ps) p k e = go (same x p) e (number_within ps p)
  where
    go : (b : Bool) → cond b (Some zero) (later_number (number_of ps p)) ≡ Some k
        → ((j : ℕ) → number_of ps p ≡ Some j → j < length ps) → k < suc (length ps)
    go true f rest = let is : zero ≡ k = some_inj f in omega arith
    go false f rest =
        let h = later (number_of ps p) k f in let is = h.is in let less = rest h.number h.stands in omega arith

-- with one place more

same_turn : (a b : List ℕ) → same a b ≡ same b a
same_turn a b = go (same a b) refl (same b a) refl
  where
    go : (s : Bool) → same a b ≡ s → (t : Bool) → same b a ≡ t → s ≡ t
    go true e true f = refl
    go false e false f = refl
    go true e false f = absurd (true≢false (sym (subst (λ v. same v a ≡ true) (same-eq a b e) (same_refl a)) ∙ f))
    go false e true f = absurd (true≢false (sym (subst (λ v. same v b ≡ true) (same-eq b a f) (same_refl b)) ∙ e))

later_or : (o : Option ℕ) (b : Bool) (n : ℕ)
    → later_number (or_else o (cond b (Some n) None)) ≡ or_else (later_number o) (cond b (Some (suc n)) None)
later_or None true n = refl
later_or None false n = refl
later_or (Some k) b n = refl

number_last : (ps : List (List ℕ)) (p q : List ℕ)
    → number_of (ps ++ p ∷ []) q ≡ or_else (number_of ps q) (cond (same p q) (Some (length ps)) None)
number_last [] p q = refl
number_last (x ∷ ps) p q = go (same x q) (number_last ps p q)
  where
    go : (b : Bool) → number_of (ps ++ p ∷ []) q ≡ or_else (number_of ps q) (cond (same p q) (Some (length ps)) None)
        → cond b (Some zero) (later_number (number_of (ps ++ p ∷ []) q))
        ≡ or_else (cond b (Some zero) (later_number (number_of ps q))) (cond (same p q) (Some (suc (length ps))) None)
    go true rest = refl
    go false rest = ap later_number rest ∙ later_or (number_of ps q) (same p q) (length ps)

pub number_more : (t : Table ℕ) (ps : List (List ℕ)) (i : ℕ) (p q : List ℕ) → i < length ps → p ≡ get_or ps i p
    → find q t ≡ number_of (take i ps) q → find q (added t p i) ≡ number_of (take (i + 1) ps) q
number_more t ps i p q less is so_far =
    let more : take (i + 1) ps ≡ take i ps ++ p ∷ [] = take_more ps i p less ∙ ap (λ v. take i ps ++ v ∷ []) (sym is) in
    let count : i ≡ length (take i ps) = omega (arith, length-take i ps) in
    find-added q p i t ∙ (λ j. or_else (so_far j) (cond (same_turn q p j) (Some (count j)) None))
    ∙ sym (number_last (take i ps) p q) ∙ ap (λ l. number_of l q) (sym more)

-- ---- slots

pub slot_at : (n : ℕ) (ps : List (List ℕ)) (cs : List Change) (p : List ℕ) (k : ℕ) → number_of ps p ≡ Some k
    → slice_get (slots_from n ps cs) k ≡ Some (option_map (write_to (n + k)) (change_at cs p))
slot_at n [] cs p k e = none_some e
slot_at n (x ∷ ps) cs p k e = go (same x p) refl e (slot_at (suc n) ps cs p)
  where
    go : (b : Bool) → same x p ≡ b → cond b (Some zero) (later_number (number_of ps p)) ≡ Some k
        → ((j : ℕ) → number_of ps p ≡ Some j
        → slice_get (slots_from (suc n) ps cs) j ≡ Some (option_map (write_to (suc n + j)) (change_at cs p)))
        → slice_get (slots_from n (x ∷ ps) cs) k ≡ Some (option_map (write_to (n + k)) (change_at cs p))
    go true is f rest =
        let here : zero ≡ k = some_inj f in
        let at : n + zero ≡ n = omega arith in
        subst (λ j. slice_get (slots_from n (x ∷ ps) cs) j ≡ Some (option_map (write_to (n + j)) (change_at cs p))) here
        (λ i. Some (option_map (write_to (sym at i)) (change_at cs (same-eq x p is i))))
    go false is f rest =
        let h = later (number_of ps p) k f in
        let at : suc n + h.number ≡ n + suc h.number = omega arith in
        subst (λ j. slice_get (slots_from n (x ∷ ps) cs) j ≡ Some (option_map (write_to (n + j)) (change_at cs p)))
        (sym h.is)
        (rest h.number h.stands ∙ ap (λ m. Some (option_map (write_to m) (change_at cs p))) at)

-- a slot is free where its place is not changed
pub free_slot : (n : ℕ) (cs : List Change) (p : List ℕ) → option_map (write_to n) (change_at cs p) ≡ None
    → is_changed cs p ≡ false
free_slot n [] p e = refl
free_slot n (c ∷ cs) p e = go (same c.place p) e (free_slot n cs p)
  where
    go : (b : Bool) → option_map (write_to n) (cond b (Some c) (change_at cs p)) ≡ None
        → (option_map (write_to n) (change_at cs p) ≡ None → is_changed cs p ≡ false)
        → cond b true (is_changed cs p) ≡ false
    go true f rest = none_some (sym f)
    go false f rest = rest f

pub used_slot : (n : ℕ) (cs : List Change) (p : List ℕ) (w : AloneWrite)
    → option_map (write_to n) (change_at cs p) ≡ Some w → is_changed cs p ≡ true
used_slot n [] p w e = none_some e
used_slot n (c ∷ cs) p w e = go (same c.place p) e (used_slot n cs p w)
  where
    go : (b : Bool) → option_map (write_to n) (cond b (Some c) (change_at cs p)) ≡ Some w
        → (option_map (write_to n) (change_at cs p) ≡ Some w → is_changed cs p ≡ true)
        → cond b true (is_changed cs p) ≡ true
    go true f rest = refl
    go false f rest = rest f

-- a change of a place that is none of these
pub unknown_slots : (n : ℕ) (ps : List (List ℕ)) (c : Change) (cs : List Change) → is_known ps c.place ≡ false
    → slots_from n ps (c ∷ cs) ≡ slots_from n ps cs
unknown_slots n [] c cs e = refl
unknown_slots n (x ∷ ps) c cs e = go (same x c.place) refl e (unknown_slots (suc n) ps c cs)
  where
    go : (b : Bool) → same x c.place ≡ b → cond b true (is_known ps c.place) ≡ false
        → (is_known ps c.place ≡ false → slots_from (suc n) ps (c ∷ cs) ≡ slots_from (suc n) ps cs)
        → slots_from n (x ∷ ps) (c ∷ cs) ≡ slots_from n (x ∷ ps) cs
    go true is f rest = absurd (true≢false f)
    go false is f rest =
        let off : same c.place x ≡ false = apart x c.place is in
        λ i. option_map (write_to n) (cond (off i) (Some c) (change_at cs x)) ∷ rest f i
      where
        decide : (a b : List ℕ) (t : Bool) → same a b ≡ t → same b a ≡ false → t ≡ false
        decide a b true e f =
            absurd (true≢false (sym (subst (λ v. same b v ≡ true) (sym (same-eq a b e)) (same_refl b)) ∙ f))
        decide a b false e f = refl

        apart : (a b : List ℕ) → same a b ≡ false → same b a ≡ false
        apart a b e = decide b a (same b a) refl e

-- a change goes to the slot of its place
pub set_slot : (n : ℕ) (ps : List (List ℕ)) (c : Change) (cs : List Change) (k : ℕ) → IsApart ps
    → number_of ps c.place ≡ Some k → slots_from n ps (c ∷ cs) ≡ set (slots_from n ps cs) k (Some (write_to (n + k) c))
set_slot n [] c cs k apart e = none_some e
set_slot n (x ∷ ps) c cs k apart e = go (same x c.place) refl e (λ j f. set_slot (suc n) ps c cs j apart.1 f)
  where
    swapped : (b : Bool) → same x c.place ≡ b → same c.place x ≡ b
    swapped true is = subst (λ v. same v x ≡ true) (same-eq x c.place is) (same_refl x)
    swapped false is = by (same c.place x) refl
      where
        by : (t : Bool) → same c.place x ≡ t → t ≡ false
        by true f = absurd (true≢false
            (sym (subst (λ v. same x v ≡ true) (sym (same-eq c.place x f)) (same_refl x)) ∙ is))
        by false f = refl

    go : (b : Bool) → same x c.place ≡ b → cond b (Some zero) (later_number (number_of ps c.place)) ≡ Some k
        → ((j : ℕ) → number_of ps c.place ≡ Some j
        → slots_from (suc n) ps (c ∷ cs) ≡ set (slots_from (suc n) ps cs) j (Some (write_to (suc n + j) c)))
        → slots_from n (x ∷ ps) (c ∷ cs) ≡ set (slots_from n (x ∷ ps) cs) k (Some (write_to (n + k) c))
    go true is f rest =
        let here : zero ≡ k = some_inj f in
        let at : n + zero ≡ n = omega arith in
        let on : same c.place x ≡ true = swapped true is in
        let none : is_known ps c.place ≡ false = subst (λ v. is_known ps v ≡ false) (same-eq x c.place is) apart.0 in
        let tail : slots_from (suc n) ps (c ∷ cs) ≡ slots_from (suc n) ps cs = unknown_slots (suc n) ps c cs none in
        subst (λ j. slots_from n (x ∷ ps) (c ∷ cs) ≡ set (slots_from n (x ∷ ps) cs) j (Some (write_to (n + j) c))) here
        ((λ i. option_map (write_to n) (cond (on i) (Some c) (change_at cs x)) ∷ tail i)
        ∙ ap (λ m. Some (write_to m c) ∷ slots_from (suc n) ps cs) (sym at))
    go false is f rest =
        let h = later (number_of ps c.place) k f in
        let at : suc n + h.number ≡ n + suc h.number = omega arith in
        let off : same c.place x ≡ false = swapped false is in
        let tail = rest h.number h.stands in
        subst (λ j. slots_from n (x ∷ ps) (c ∷ cs) ≡ set (slots_from n (x ∷ ps) cs) j (Some (write_to (n + j) c)))
        (sym h.is)
        ((λ i. option_map (write_to n) (cond (off i) (Some c) (change_at cs x)) ∷ tail i)
        ∙ ap
        (λ m. option_map (write_to n) (change_at cs x) ∷ set (slots_from (suc n) ps cs) h.number (Some (write_to m c)))
        at)

pub no_changes : (n : ℕ) (ps : List (List ℕ)) → slots_from n ps [] ≡ replicate (length ps) None
no_changes n [] = refl
no_changes n (p ∷ ps) = ap (λ l. None ∷ l) (no_changes (suc n) ps)

pub slots_length : (n : ℕ) (ps : List (List ℕ)) (cs : List Change) → length (slots_from n ps cs) ≡ length ps
slots_length n [] cs = refl
slots_length n (p ∷ ps) cs = ap suc (slots_length (suc n) ps cs)

-- the writes in the slots are those of the locations that are told
pub written_told : (n : ℕ) (ps : List (List ℕ)) (ts : List ValueKind) (cs : List Change) → length ps ≡ length ts
    → written_in (slots_from n ps cs) ≡ writes_from n (told_locations ps ts cs)
written_told n [] ts cs e = refl
written_told n (p ∷ ps) [] cs e = absurd (omega arith)
written_told n (p ∷ ps) (t ∷ ts) cs e =
    go (change_at cs p) (written_told (suc n) ps ts cs (let f : suc (length ps) ≡ suc (length ts) = e in omega arith))
  where
    go : (o : Option Change) → written_in (slots_from (suc n) ps cs) ≡ writes_from (suc n) (told_locations ps ts cs)
        → with_written (option_map (write_to n) o) (written_in (slots_from (suc n) ps cs))
        ≡ write_of n (location_of t o) (location_of t o).written (writes_from (suc n) (told_locations ps ts cs))
    go None rest = rest
    go (Some c) rest = ap (λ l. write_to n c ∷ l) rest

-- ---- kinds

-- the kind of the location of this number
pub kind_at : (ts : List ValueKind) (ms : List Location) (k : ℕ) (m : Location) → LocationsAre ts ms
    → slice_get ms k ≡ Some m → slice_get ts k ≡ Some (kind_of m.base)
kind_at [] [] k m h e = none_some e
kind_at [] (x ∷ ms) k m h e = absurd h
kind_at (t ∷ ts) [] k m h e = absurd h
kind_at (t ∷ ts) (x ∷ ms) zero m h e = ap Some (sym h.0.base ∙ ap (λ v. kind_of v.base) (some_inj e))
kind_at (t ∷ ts) (x ∷ ms) (suc k) m h e = kind_at ts ms k m h.1 e

pub fits_at : (ps : List (List ℕ)) (ts : List ValueKind) (c : Change) (k : ℕ) (t : ValueKind)
    → number_of ps c.place ≡ Some k → slice_get ts k ≡ Some t
    → kind_fits ps ts c ≡ (same_kind (kind_of c.value) t && same_kind (kind_of c.root) t)
fits_at [] ts c k t e f = none_some e
fits_at (x ∷ ps) [] c k t e f = none_some f
fits_at (x ∷ ps) (u ∷ ts) c k t e f = go (same x c.place) e (fits_at ps ts c)
  where
    go : (b : Bool) → cond b (Some zero) (later_number (number_of ps c.place)) ≡ Some k
        → ((j : ℕ) (v : ValueKind) → number_of ps c.place ≡ Some j → slice_get ts j ≡ Some v
        → kind_fits ps ts c ≡ (same_kind (kind_of c.value) v && same_kind (kind_of c.root) v))
        → cond b (same_kind (kind_of c.value) u && same_kind (kind_of c.root) u) (kind_fits ps ts c)
        ≡ (same_kind (kind_of c.value) t && same_kind (kind_of c.root) t)
    go true g rest =
        let here : zero ≡ k = some_inj g in
        let is : u ≡ t = some_inj (subst (λ j. slice_get (u ∷ ts) j ≡ Some t) (sym here) f) in
        ap (λ v. same_kind (kind_of c.value) v && same_kind (kind_of c.root) v) is
    go false g rest =
        let h = later (number_of ps c.place) k g in
        rest h.number t h.stands (subst (λ j. slice_get (u ∷ ts) j ≡ Some t) h.is f)

pub no_fit : (ps : List (List ℕ)) (ts : List ValueKind) (c : Change) → number_of ps c.place ≡ None
    → kind_fits ps ts c ≡ false
no_fit [] ts c e = refl
no_fit (x ∷ ps) [] c e = refl
no_fit (x ∷ ps) (u ∷ ts) c e = go (same x c.place) e (no_fit ps ts c)
  where
    none : (o : Option ℕ) → later_number o ≡ None → o ≡ None
    none None e = refl
    none (Some n) e = none_some (sym e)

    go : (b : Bool) → cond b (Some zero) (later_number (number_of ps c.place)) ≡ None
        → (number_of ps c.place ≡ None → kind_fits ps ts c ≡ false)
        → cond b (same_kind (kind_of c.value) u && same_kind (kind_of c.root) u) (kind_fits ps ts c) ≡ false
    go true g rest = none_some (sym g)
    go false g rest = rest (none (number_of ps c.place) g)

-- ---- changes that fit

-- with one change before the others
pub fits_more : (ps : List (List ℕ)) (ts : List ValueKind) (c : Change) (cs : List Change) → kind_fits ps ts c ≡ true
    → is_changed cs c.place ≡ false → changes_fit ps ts (c ∷ cs) ≡ changes_fit ps ts cs
fits_more ps ts c cs kind free = λ i. kind i && cond (free i) false (changes_fit ps ts cs)

pub unfit_kind : (ps : List (List ℕ)) (ts : List ValueKind) (c : Change) (cs : List Change) → kind_fits ps ts c ≡ false
    → changes_fit ps ts (c ∷ cs) ≡ false
unfit_kind ps ts c cs kind = ap (λ b. b && cond (is_changed cs c.place) false (changes_fit ps ts cs)) kind

pub unfit_twice : (ps : List (List ℕ)) (ts : List ValueKind) (c : Change) (cs : List Change)
    → is_changed cs c.place ≡ true → changes_fit ps ts (c ∷ cs) ≡ false
unfit_twice ps ts c cs used =
    ap (λ b. kind_fits ps ts c && cond b false (changes_fit ps ts cs)) used ∙ none (kind_fits ps ts c)
  where
    none : (b : Bool) → (b && false) ≡ false
    none true = refl
    none false = refl

-- all changes fit only where the last ones do
pub unfit_whole : (ps : List (List ℕ)) (ts : List ValueKind) (cs : List Change) (j : ℕ)
    → changes_fit ps ts (drop j cs) ≡ false → changes_fit ps ts cs ≡ false
unfit_whole ps ts cs zero e = e
unfit_whole ps ts [] (suc j) e = e
unfit_whole ps ts (c ∷ cs) (suc j) e = go (kind_fits ps ts c) (is_changed cs c.place) (unfit_whole ps ts cs j e)
  where
    go : (a b : Bool) → changes_fit ps ts cs ≡ false → (a && cond b false (changes_fit ps ts cs)) ≡ false
    go true true rest = refl
    go true false rest = rest
    go false b rest = refl
