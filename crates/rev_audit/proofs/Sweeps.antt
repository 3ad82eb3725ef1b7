-- The audit of the parts from the last to the first.
use Rattle.std.proofs.Common.{◌≡◌, ◌≢◌, ◌⊎◌, inl, inr, ℕ, zero, suc, ◌+◌, ◌≤◌, ◌<◌, Bool, true, false, cond, MatchBool, replicate, List, [], ◌∷◌, ◌++◌, length, get_or, set, Option, Some, None, refl, sym, ap, ◌∙◌, subst, arith}
use Rattle.std.proofs.lemmas.Bool.{true≢false, cases_order}
use Rattle.std.proofs.lemmas.List.{length-set}
use Rattle.std.proofs.lemmas.Option.{slice_get_read, slice_get_within}
use Rattle.std.specs.List.{slice_get}
use Rattle.rev_num.specs.Path.{Path, child, before}
use Rattle.rev_num.proofs.Lists.{get_set, get_set_other, within_some}
use Rattle.rev_num.proofs.PostOrder.{child_before}
use Rattle.rev_num.proofs.PostOrder.{before_trans, before_irrefl}
use Rattle.rev_num.proofs.PostOrder.{before_total}
use Rattle.typed_programs.specs.Least.{Among}
use Rattle.typed_programs.proofs.Firsts.{last_among}
use Rattle.revision_machine.specs.Machine.{Forks}
use Rattle.revision_machine.proofs.Paths.{some_inj, decide_same}
use Rattle.revision_calculus.specs.Program.{Setting}
use Rattle.revision_calculus.specs.State.{Local}
use Rattle.revision_calculus.specs.Step.{next}
use Rattle.revision_calculus.specs.Calculus.{main, calculus}
use Rattle.revision_calculus.specs.Kinded.{IsAccepted}
use Rattle.revision_calculus.proofs.Meets.{counts}
use Rattle.rev_audit.specs.declared.alone.LocalState.{LocalState}
use Rattle.trace_diagram.specs.Shown.{shown_part}
use Rattle.trace_diagram.specs.declared.diagram.Part.{Part}
use Rattle.audit_rules.specs.Audited.{Computed, absent, made, joined_twice, missing, of_main, of_fork, of_none, of_run, Computes, goes}
use Rattle.audit_rules.specs.Parts.{calculus_parts}
use Rattle.audit_rules.specs.Traces.{InPostOrder, part_at, IsComputedPart, SaysYes, SaysNo}
use Rattle.audit_rules.specs.Verdicts.{computed_part}
use Rattle.audit_rules.specs.declared.verdict.Computed.TheVariants as computed
use Rattle.audit_rules.proofs.OneOwnRun.{none_some, begins_one}
use Rattle.audit_rules.proofs.CalculusMeets.{IsFit, tells}
use Rattle.audit_rules.proofs.TracesAsParts.{each_is_computed}
use Rattle.rev_audit.specs.Own.{BeginsAt, ComesTo}
use Rattle.rev_audit.specs.Sweep.{IsSoonest, sooner_of, Grows, IsSamePart, IsJustified, HasPassed, BeginsUnstated, IsStarts, Holds, BegunFrom, from_main, from_part, AreJustified, Differs, IsKept, ComputedAt, IsSwept, IsAhead, IsBehind}
use Rattle.rev_audit.specs.declared.sweep.Difference.{Difference}
use Rattle.stated_parts.proofs.Finding.{ordered, earlier_number, same_number, part_here, place_of_part}
use Rattle.rev_audit.proofs.OwnRuns.{comes_to, all_children, child_begins}

-- ---- lists

-- what was read there is what stands there
pub stands_there : {A : Type 0} (xs : List A) (i : ℕ) (x y z : A) → i < length xs → x ≡ get_or xs i x → y ≡ x → y ≡ z
    → slice_get xs i ≡ Some z
stands_there xs i x y z less read same is = slice_get_read xs (length xs) i x refl less read ∙ ap Some (sym same ∙ is)

-- ---- what is kept

pub grows_none : (starts : List (Option LocalState)) (unstated : Option LocalState)
    → Grows starts starts unstated unstated
grows_none starts unstated = record { kept = λ k x e. e; sooner = λ r h. h }

pub grows_both : (a b c : List (Option LocalState)) (u v w : Option LocalState) → Grows a b u v → Grows b c v w
    → Grows a c u w
grows_both a b c u v w g h =
    record { kept = λ k x e. h.kept k x (g.kept k x e); sooner = λ r i. h.sooner r (g.sooner r i) }

-- ---- the first of two

pub sooner_which : (x : LocalState) (u : Option LocalState) → (sooner_of x u ≡ Some x) ⊎ (sooner_of x u ≡ u)
sooner_which x None = inl refl
sooner_which x (Some v) = go (before v.path x.path)
  where
    go : (b : Bool) → (cond b (Some v) (Some x) ≡ Some x) ⊎ (cond b (Some v) (Some x) ≡ Some v)
    go true = inr refl
    go false = inl refl

pub sooner_here : (x : LocalState) (u : Option LocalState) → IsSoonest (sooner_of x u) x.path
sooner_here x None = inl refl
sooner_here x (Some v) = go (before v.path x.path) refl
  where
    go : (b : Bool) → before v.path x.path ≡ b → IsSoonest (cond b (Some v) (Some x)) x.path
    go true e = inr e
    go false e = inl refl

pub sooner_kept : (x : LocalState) (u : Option LocalState) (r : Path) → IsSoonest u r → IsSoonest (sooner_of x u) r
sooner_kept x None r i = absurd i
sooner_kept x (Some v) r i = go (before v.path x.path) refl
  where
    from : (before x.path v.path ≡ true) ⊎ (before v.path x.path ≡ true) → before v.path x.path ≡ false
        → (v.path ≡ r) ⊎ (before v.path r ≡ true) → (x.path ≡ r) ⊎ (before x.path r ≡ true)
    from (inr h) e j = absurd (true≢false (sym h ∙ e))
    from (inl h) e (inl is) = inr (subst (λ q. before x.path q ≡ true) is h)
    from (inl h) e (inr more) = inr (before_trans x.path v.path r h more)

    by : (x.path ≡ v.path) ⊎ (x.path ≢ v.path) → before v.path x.path ≡ false → (x.path ≡ r) ⊎ (before x.path r ≡ true)
    by (inl is) e = subst (λ q. (q ≡ r) ⊎ (before q r ≡ true)) (sym is) i
    by (inr apart) e = from (before_total x.path v.path apart) e i

    go : (b : Bool) → before v.path x.path ≡ b → IsSoonest (cond b (Some v) (Some x)) r
    go true e = i
    go false e = by (decide_same x.path v.path) e

no_start : (n k : ℕ) (x : LocalState) → slice_get (replicate n None) k ≡ Some (Some x) → ⊥
no_start zero k x e = none_some e
no_start (suc n) zero x e = none_some (some_inj e)
no_start (suc n) (suc k) x e = no_start n k x e

count_starts : (n : ℕ) → length (replicate {A = Option LocalState} n None) ≡ n
count_starts zero = refl
count_starts (suc n) = ap suc (count_starts n)

module _ (s : Setting) (fuel : ℕ) (parts : List Part) where
  -- nothing is kept at first
  pub none_kept : (n : ℕ) → n ≡ length parts → IsStarts s fuel parts (replicate n None) None
  none_kept n e = record { count = count_starts n ∙ e; begun = λ k p x at f. absurd (no_start n k x f); others = tt }

  -- `main` is the first to begin
  pub main_kept : (a : List (Option LocalState)) (u : Option LocalState) (x : LocalState) → IsStarts s fuel parts a u
      → Holds s fuel parts (length parts) a u x → x.path ≡ [] → x.local ≡ main s fuel
      → IsKept s fuel parts (length parts) a u
  main_kept a u x starts held path local = record { starts_are = starts; holds = holds }
    where
      holds : (y : LocalState) → BegunFrom s fuel parts (length parts) y → Holds s fuel parts (length parts) a u y
      holds y (from_main e f) =
          let paths : x.path ≡ y.path = path ∙ sym e in
          let locals : x.local ≡ y.local = local ∙ sym f in
          let one : x ≡ y = λ i. record { path = paths i; local = locals i } in
          subst (λ z. Holds s fuel parts (length parts) a u z) one held
      holds y (from_part k p first l l' late at begins passes does is) =
          let w = slice_get_within parts k p at in absurd (omega arith)

  pub holds_on : (i : ℕ) (a b : List (Option LocalState)) (u v : Option LocalState) (x : LocalState) → Grows a b u v
      → Holds s fuel parts i a u x → Holds s fuel parts i b v x
  holds_on i a b u v x g h = record {
    stated = λ k p less at is. g.kept k x (h.stated k p less at is);
    others = λ none. g.sooner x.path (h.others none);
  }

  -- one of those to be kept less
  pub hold_more : (out rest : List LocalState) (child x : LocalState) (a b : List (Option LocalState))
      (u v : Option LocalState)
      → out ≡ rest ++ child ∷ [] → Grows a b u v → Holds s fuel parts (length parts) b v child
      → Among out x ⊎ Holds s fuel parts (length parts) a u x → Among rest x ⊎ Holds s fuel parts (length parts) b v x
  hold_more out rest child x a b u v is grows held (inr h) = inr (holds_on (length parts) a b u v x grows h)
  hold_more out rest child x a b u v is grows held (inl i) = go (last_among rest child x (subst (λ l. Among l x) is i))
    where
      go : Among rest x ⊎ (child ≡ x) → Among rest x ⊎ Holds s fuel parts (length parts) b v x
      go (inl j) = inl j
      go (inr e) = inr (subst (λ y. Holds s fuel parts (length parts) b v y) e held)

  pub hold_all : (out : List LocalState) (x : LocalState) (b : List (Option LocalState)) (v : Option LocalState)
      → length out ≡ 0 → Among out x ⊎ Holds s fuel parts (length parts) b v x → Holds s fuel parts (length parts) b v x
  hold_all out x b v none (inr h) = h
  hold_all [] x b v none (inl i) = absurd i
  hold_all (y ∷ out) x b v none (inl i) = absurd (omega arith)

  -- of fewer parts
  pub holds_less : (i j : ℕ) (a : List (Option LocalState)) (u : Option LocalState) (x : LocalState) → i ≤ j
      → Holds s fuel parts j a u x → Holds s fuel parts i a u x
  holds_less i j a u x few h = record { stated = λ k p less at is. h.stated k p (omega arith) at is; others = h.others }

  -- one that was taken out is not of the parts before it
  pub holds_taken : (i : ℕ) (a : List (Option LocalState)) (u : Option LocalState) (x : LocalState)
      → Holds s fuel parts (i + 1) a u x → Holds s fuel parts i (set a i None) u x
  holds_taken i a u x h = record {
    stated = λ k p less at is. get_set_other a k i None (λ e. absurd (omega arith)) ∙ h.stated k p (omega arith) at is;
    others = h.others;
  }

  pub starts_taken : (i : ℕ) (a : List (Option LocalState)) (u : Option LocalState) → IsStarts s fuel parts a u
      → IsStarts s fuel parts (set a i None) u
  starts_taken i a u h = record {
    count = length-set a i None ∙ h.count;
    begun = λ k p x at e. by k p x at e (cases_order k i);
    others = h.others;
  }
    where
      by : (k : ℕ) (p : Part) (x : LocalState) → slice_get parts k ≡ Some p → slice_get (set a i None) k ≡ Some (Some x)
          → (k ≡ i) ⊎ ((k < i) ⊎ (i < k)) → (x.path ≡ p.path) × BeginsAt s fuel parts x.path x.local
      by k p x at e (inr (inl less)) = h.begun k p x at (sym (get_set_other a k i None (λ f. absurd (omega arith))) ∙ e)
      by k p x at e (inr (inr more)) = h.begun k p x at (sym (get_set_other a k i None (λ f. absurd (omega arith))) ∙ e)
      by k p x at e (inl is) = go (slice_get a i) refl
        where
          go : (o : Option (Option LocalState)) → slice_get a i ≡ o
              → (x.path ≡ p.path) × BeginsAt s fuel parts x.path x.local
          go (Some y) f =
              let g : slice_get (set a i None) i ≡ Some (Some x) =
              subst (λ j. slice_get (set a i None) j ≡ Some (Some x)) is e in
              none_some (some_inj (sym (get_set a i None (slice_get_within a i y f)) ∙ g))
          go None f =
              let g : slice_get (set a i None) i ≡ Some (Some x) =
              subst (λ j. slice_get (set a i None) j ≡ Some (Some x)) is e in
              none_some (sym (out a i f) ∙ g)
            where
              out : (ys : List (Option LocalState)) (j : ℕ) → slice_get ys j ≡ None → slice_get (set ys j None) j ≡ None
              out [] j f = refl
              out (y ∷ ys) zero f = none_some (sym f)
              out (y ∷ ys) (suc j) f = out ys j f

  module _ (well : IsAccepted s.program) (order : InPostOrder parts) where
    one_start : (r : Path) (a b : Local) → BeginsAt s fuel parts r a → BeginsAt s fuel parts r b → a ≡ b
    one_start = begins_one (calculus s) (calculus_parts s fuel) (IsFit s) (λ l. l.fuel + l.forks) fuel (counts s)
        (tells s fuel well) (part_at parts) (main s fuel)

    -- the same begins at the same
    same_state : (x y : LocalState) → x.path ≡ y.path → BeginsAt s fuel parts x.path x.local
        → BeginsAt s fuel parts y.path y.local → x ≡ y
    same_state x y path a b =
        let local : x.local ≡ y.local =
        one_start y.path x.local y.local (subst (λ r. BeginsAt s fuel parts r x.local) path a) b in
        λ i. record { path = path i; local = local i }

    -- ---- one revision more that begins

    -- with the part of this number
    pub keep_stated : (a : List (Option LocalState)) (u : Option LocalState) (x : LocalState) (k : ℕ) (p : Part)
        → IsStarts s fuel parts a u → BeginsAt s fuel parts x.path x.local → slice_get parts k ≡ Some p
        → p.path ≡ x.path
        → IsStarts s fuel parts (set a k (Some x)) u × Grows a (set a k (Some x)) u u
        × Holds s fuel parts (length parts) (set a k (Some x)) u x
    keep_stated a u x k p h begins at is = (
      record {
        count = length-set a k (Some x) ∙ h.count;
        begun = λ j q y f e. begun j q y f e (cases_order j k);
        others = h.others;
      },
      record { kept = λ j y e. kept j y e (cases_order j k); sooner = λ r i. i },
      record {
        stated = λ j q less f g. here j q f g;
        others = λ none. none_some (sym none ∙ subst (λ r. part_at parts r ≡ Some p) is (part_here parts k p order at));
      },
    )
      where
        full : (o : Option (Option LocalState)) → slice_get a k ≡ o → (y : Option LocalState) × (slice_get a k ≡ Some y)
        full (Some y) e = (y, e)
        full None e = absurd (beyond a k (let w = slice_get_within parts k p at in let n = h.count in omega arith) e)
          where
            beyond : (ys : List (Option LocalState)) (j : ℕ) → j < length ys → slice_get ys j ≡ None → ⊥
            beyond [] j less f = absurd (omega arith)
            beyond (y ∷ ys) zero less f = none_some (sym f)
            beyond (y ∷ ys) (suc j) less f = beyond ys j (omega arith) f

        stands : slice_get (set a k (Some x)) k ≡ Some (Some x)
        stands = let y = full (slice_get a k) refl in get_set a k (Some x) (slice_get_within a k y.0 y.1)

        begun : (j : ℕ) (q : Part) (y : LocalState) → slice_get parts j ≡ Some q
            → slice_get (set a k (Some x)) j ≡ Some (Some y) → (j ≡ k) ⊎ ((j < k) ⊎ (k < j))
            → (y.path ≡ q.path) × BeginsAt s fuel parts y.path y.local
        begun j q y f e (inr (inl less)) =
            h.begun j q y f (sym (get_set_other a j k (Some x) (λ g. absurd (omega arith))) ∙ e)
        begun j q y f e (inr (inr more)) =
            h.begun j q y f (sym (get_set_other a j k (Some x) (λ g. absurd (omega arith))) ∙ e)
        begun j q y f e (inl same_place) =
            let one : x ≡ y =
            some_inj
            (some_inj (sym stands ∙ subst (λ i. slice_get (set a k (Some x)) i ≡ Some (Some y)) same_place e)) in
            let part : p ≡ q = some_inj (sym at ∙ subst (λ i. slice_get parts i ≡ Some q) same_place f) in (
              sym (ap (λ v. v.path) one) ∙ sym is ∙ ap (λ v. v.path) part,
              subst (λ v. BeginsAt s fuel parts v.path v.local) one begins,
            )

        kept : (j : ℕ) (y : LocalState) → slice_get a j ≡ Some (Some y) → (j ≡ k) ⊎ ((j < k) ⊎ (k < j))
            → slice_get (set a k (Some x)) j ≡ Some (Some y)
        kept j y e (inr (inl less)) = get_set_other a j k (Some x) (λ g. absurd (omega arith)) ∙ e
        kept j y e (inr (inr more)) = get_set_other a j k (Some x) (λ g. absurd (omega arith)) ∙ e
        kept j y e (inl same_place) =
            let old = h.begun k p y at (subst (λ i. slice_get a i ≡ Some (Some y)) same_place e) in
            let one : x ≡ y = same_state x y (sym is ∙ sym old.0) begins old.1 in
            subst (λ i. slice_get (set a k (Some x)) i ≡ Some (Some y)) (sym same_place)
            (stands ∙ ap (λ v. Some (Some v)) one)

        here : (j : ℕ) (q : Part) → slice_get parts j ≡ Some q → q.path ≡ x.path
            → slice_get (set a k (Some x)) j ≡ Some (Some x)
        here j q f g =
            let same_place : j ≡ k = same_number parts j k q p order f at (g ∙ sym is) in
            subst (λ i. slice_get (set a k (Some x)) i ≡ Some (Some x)) (sym same_place) stands

    -- with no part: the one before the other is kept
    pub keep_unstated : (a : List (Option LocalState)) (u v : Option LocalState) (x : LocalState)
        → IsStarts s fuel parts a u → BeginsAt s fuel parts x.path x.local → part_at parts x.path ≡ None
        → (v ≡ Some x) ⊎ (v ≡ u) → IsSoonest v x.path → ((r : Path) → IsSoonest u r → IsSoonest v r)
        → IsStarts s fuel parts a v × Grows a a u v × Holds s fuel parts (length parts) a v x
    keep_unstated a u v x h begins none which here sooner = (
      record { count = h.count; begun = h.begun; others = others which },
      record { kept = λ k y e. e; sooner = sooner },
      record {
        stated = λ k p less at is.
            none_some (sym none ∙ subst (λ r. part_at parts r ≡ Some p) is (part_here parts k p order at));
        others = λ e. here;
      },
    )
      where
        others : (v ≡ Some x) ⊎ (v ≡ u) → BeginsUnstated s fuel parts v
        others (inl e) = subst (BeginsUnstated s fuel parts) (sym e) (begins, none)
        others (inr e) = subst (BeginsUnstated s fuel parts) (sym e) h.others

    -- ---- one part more

    -- what begins the revision of a part comes behind it
    pub begun_behind : (i : ℕ) (p : Part) (a : Local) → slice_get parts i ≡ Some p → BeginsAt s fuel parts p.path a
        → BegunFrom s fuel parts (i + 1) (record { path = p.path; local = a })
    begun_behind i p a at (of_main _ _ e is) = from_main e is
    begun_behind i p a at (of_fork _ _ f first l l' q bg sg pg does is) =
        let h = place_of_part parts f q sg in
        let sooner : before p.path q.path ≡ true =
        subst (λ v. before v q.path ≡ true) (sym is)
        (subst (λ v. before (child v l.forks) q.path ≡ true) h.path (child_before q.path l.forks)) in
        let less = earlier_number parts i h.number p q order at h.stands sooner in
        from_part h.number q first l l' (omega arith) h.stands
        (subst (λ v. BeginsAt s fuel parts v first) (sym h.path) bg)
        (subst (λ v. HasPassed s fuel parts v first l) (sym h.path) pg)
        (subst (λ v. next s v l ≡ Forks l' a) (sym h.path) does)
        (is ∙ ap (λ v. child v l.forks) (sym h.path))

    -- with no start, nothing begins the revision
    pub none_computed : (i : ℕ) (a : List (Option LocalState)) (u : Option LocalState) → IsKept s fuel parts (i + 1) a u
        → slice_get a i ≡ Some None → ComputedAt s fuel parts i absent
    none_computed i a u h e p at = of_none not_begun refl
      where
        not_begun : (b : Local) → BeginsAt s fuel parts p.path b → ⊥
        not_begun b begins =
            let x : LocalState = record { path = p.path; local = b } in
            let held = h.holds x (begun_behind i p b at begins) in
            none_some (some_inj (sym e ∙ held.stated i p (omega arith) at refl))

    -- where there is none, nothing more is begun by it
    pub kept_none : (i : ℕ) (a : List (Option LocalState)) (u : Option LocalState) → IsKept s fuel parts (i + 1) a u
        → slice_get a i ≡ Some None → IsKept s fuel parts i (set a i None) u
    kept_none i a u h e = record { starts_are = starts_taken i a u h.starts_are; holds = holds }
      where
        holds : (x : LocalState) → BegunFrom s fuel parts i x → Holds s fuel parts i (set a i None) u x
        holds x (from_main path is) = holds_taken i a u x (h.holds x (from_main path is))
        holds x (from_part k p first l l' late at begins passes does path) = by (cases_order k i)
          where
            by : (k ≡ i) ⊎ ((k < i) ⊎ (i < k)) → Holds s fuel parts i (set a i None) u x
            by (inr (inl less)) = absurd (omega arith)
            by (inr (inr more)) =
                holds_taken i a u x (h.holds x (from_part k p first l l' (omega arith) at begins passes does path))
            by (inl is) =
                let here : slice_get parts i ≡ Some p = subst (λ j. slice_get parts j ≡ Some p) is at in
                let y : LocalState = record { path = p.path; local = first } in
                let held = h.holds y (begun_behind i p first here begins) in
                none_some (some_inj (sym e ∙ held.stated i p (omega arith) here refl))

    -- its children begin
    pub children_begin : (i : ℕ) (a : List (Option LocalState)) (u : Option LocalState) (first : LocalState)
        (c : Computed Part) (ks : List LocalState)
        → i < length parts → IsKept s fuel parts (i + 1) a u → slice_get a i ≡ Some (Some first)
        → ComesTo s fuel parts first.path first.local c ks → (x : LocalState) → Among ks x
        → BeginsAt s fuel parts x.path x.local
    children_begin i a u first c ks less h e run x among =
        let p = within_some parts i less in
        let known = h.starts_are.begun i p.0 first p.1 e in
        let so : part_at parts first.path ≡ Some p.0 = ap (part_at parts) known.0 ∙ part_here parts i p.0 order p.1 in
        child_begins s fuel parts first.path first.local p.0 so known.1 run.last ks run.goes x among

    -- the computed part of a revision that begins
    pub run_computed : (i : ℕ) (a : List (Option LocalState)) (u : Option LocalState) (first : LocalState)
        (c : Computed Part) (ks : List LocalState)
        → IsKept s fuel parts (i + 1) a u → slice_get a i ≡ Some (Some first)
        → ComesTo s fuel parts first.path first.local c ks → ComputedAt s fuel parts i c
    run_computed i a u first c ks h e run p at =
        let known = h.starts_are.begun i p first at e in
        subst (λ r. IsComputedPart s fuel parts r c) known.0
        (of_run first.local known.1 (comes_to s fuel parts first.path first.local c ks run))

    -- with its children kept
    pub kept_run : (i : ℕ) (a b : List (Option LocalState)) (u v : Option LocalState) (first : LocalState)
        (c : Computed Part) (ks : List LocalState) (q : Part)
        → slice_get parts i ≡ Some q → IsKept s fuel parts (i + 1) a u → slice_get a i ≡ Some (Some first)
        → ComesTo s fuel parts first.path first.local c ks
        → IsStarts s fuel parts b v → Grows (set a i None) b u v
        → ((x : LocalState) → Among ks x → Holds s fuel parts (length parts) b v x) → IsKept s fuel parts i b v
    kept_run i a b u v first c ks q here h e run starts grows hold = record { starts_are = starts; holds = holds }
      where
        before_it : (x : LocalState) → BegunFrom s fuel parts (i + 1) x → Holds s fuel parts i b v x
        before_it x begun = holds_on i (set a i None) b u v x grows (holds_taken i a u x (h.holds x begun))

        within : i ≤ length parts
        within = let w = slice_get_within parts i q here in omega arith

        holds : (x : LocalState) → BegunFrom s fuel parts i x → Holds s fuel parts i b v x
        holds x (from_main path is) = before_it x (from_main path is)
        holds x (from_part k p start l l' late at begins passes does path) = by (cases_order k i)
          where
            by : (k ≡ i) ⊎ ((k < i) ⊎ (i < k)) → Holds s fuel parts i b v x
            by (inr (inl less)) = absurd (omega arith)
            by (inr (inr more)) = before_it x (from_part k p start l l' (omega arith) at begins passes does path)
            by (inl is) =
                let mine : slice_get parts i ≡ Some p = subst (λ j. slice_get parts j ≡ Some p) is at in
                let known = h.starts_are.begun i p first mine e in
                let there : first.path ≡ p.path = known.0 in
                let start_is : start ≡ first.local =
                one_start first.path start first.local (subst (λ r. BeginsAt s fuel parts r start) (sym there) begins)
                known.1 in
                let way : HasPassed s fuel parts first.path first.local l =
                subst (λ m. HasPassed s fuel parts first.path m l) start_is
                (subst (λ r. HasPassed s fuel parts r start l) (sym there) passes) in
                let fork : next s first.path l ≡ Forks l' x.local =
                subst (λ r. next s r l ≡ Forks l' x.local) (sym there) does in
                let y = all_children s fuel parts first.path first.local c ks run l l' x.local way fork in
                let paths : y.0.path ≡ x.path = y.2 ∙ ap (λ r. child r l.forks) there ∙ sym path in
                let locals : y.0.local ≡ x.local = y.3 in
                let one : y.0 ≡ x = λ j. record { path = paths j; local = locals j } in
                holds_less i (length parts) b v x within
                (subst (λ z. Holds s fuel parts (length parts) b v z) one (hold y.0 y.1))

    -- ---- differences

    pub none_yet : AreJustified s fuel parts (length parts) (length parts)
    none_yet k p late less at = absurd (omega arith)

    -- one part more that is the computed one
    pub justified_more : (i j : ℕ) (p : Part) (c : Computed Part) → slice_get parts i ≡ Some p
        → ComputedAt s fuel parts i c → IsSamePart s fuel parts (Some p) c → AreJustified s fuel parts (i + 1) j
        → AreJustified s fuel parts i j
    justified_more i j p c here is same later k q late less at = by (cases_order k i)
      where
        by : (k ≡ i) ⊎ ((k < i) ⊎ (i < k)) → IsJustified s fuel parts q.path
        by (inr (inl fewer)) = absurd (omega arith)
        by (inr (inr more)) = later k q (omega arith) less at
        by (inl place) =
            let one : p ≡ q = some_inj (sym here ∙ subst (λ n. slice_get parts n ≡ Some q) place at) in
            subst (λ v. IsJustified s fuel parts v.path) one
            (record {
              computed = c;
              is = is p here;
              same = subst (λ o. IsSamePart s fuel parts o c) (sym (part_here parts i p order here)) same;
            })

    pub same_more : (i : ℕ) (found : Option Difference) (p : Part) (c : Computed Part) → slice_get parts i ≡ Some p
        → ComputedAt s fuel parts i c → IsSamePart s fuel parts (Some p) c → Differs s fuel parts (i + 1) found
        → Differs s fuel parts i found
    same_more i None p c here is same later = justified_more i (length parts) p c here is same later
    same_more i (Some d) p c here is same later = record {
      part = later.part;
      stands = later.stands;
      late = (let h = later.late in omega arith);
      is = later.is;
      differs = later.differs;
      earlier = justified_more i d.index p c here is same later.earlier;
    }

    pub differs_here : (i : ℕ) (p : Part) (d : Difference) → d.index ≡ i → slice_get parts i ≡ Some p
        → ComputedAt s fuel parts i (computed_part d.computed)
        → (IsSamePart s fuel parts (Some p) (computed_part d.computed) → ⊥) → Differs s fuel parts i (Some d)
    differs_here i p d place here is differs = record {
      part = p;
      stands = ap (slice_get parts) place ∙ here;
      late = omega arith;
      is = is p here;
      differs = differs;
      earlier = λ k q late less at. absurd (omega arith);
    }

    -- ---- verdicts

    all_begun : (r : Path) (a : Local) → BeginsAt s fuel parts r a
        → BegunFrom s fuel parts 0 (record { path = r; local = a })
    all_begun r a (of_main _ _ e is) = from_main e is
    all_begun r a (of_fork _ _ f first l l' q bg sg pg does is) =
        let h = place_of_part parts f q sg in
        from_part h.number q first l l' (omega arith) h.stands
        (subst (λ v. BeginsAt s fuel parts v first) (sym h.path) bg)
        (subst (λ v. HasPassed s fuel parts v first l) (sym h.path) pg)
        (subst (λ v. next s v l ≡ Forks l' a) (sym h.path) does)
        (is ∙ ap (λ v. child v l.forks) (sym h.path))

    -- a revision with no part begins nowhere, or not before the one that is kept
    unstated_or : (a : List (Option LocalState)) (u : Option LocalState) → IsKept s fuel parts 0 a u → (r : Path)
        → part_at parts r ≡ None → IsJustified s fuel parts r ⊎ IsSoonest u r
    unstated_or a u h r none = go (each_is_computed s fuel well parts r).part (each_is_computed s fuel well parts r).is
      where
        go : (c : Computed Part) → IsComputedPart s fuel parts r c → IsJustified s fuel parts r ⊎ IsSoonest u r
        go c (of_none nowhere is) = inl (record {
          computed = absent;
          is = of_none nowhere refl;
          same = subst (λ o. IsSamePart s fuel parts o absent) (sym none) tt;
        })
        go c (of_run b begins run) = inr ((h.holds (record { path = r; local = b }) (all_begun r b begins)).others none)

    -- a revision before the one that is kept, if one is, whose part, if it has one, is the computed one
    justified_by : (a : List (Option LocalState)) (u : Option LocalState) → IsKept s fuel parts 0 a u → (r : Path)
        → ((k : ℕ) (p : Part) → slice_get parts k ≡ Some p → p.path ≡ r → IsJustified s fuel parts p.path)
        → (IsSoonest u r → ⊥) → IsJustified s fuel parts r
    justified_by a u h r stated none_before = go (part_at parts r) refl
      where
        either : IsJustified s fuel parts r ⊎ IsSoonest u r → IsJustified s fuel parts r
        either (inl j) = j
        either (inr i) = absurd (none_before i)

        go : (o : Option Part) → part_at parts r ≡ o → IsJustified s fuel parts r
        go None e = either (unstated_or a u h r e)
        go (Some p) e =
            let x = place_of_part parts r p e in
            subst (IsJustified s fuel parts) x.path (stated x.number p x.stands x.path)

    pub says_yes : IsSwept s fuel parts None None → SaysYes s fuel parts
    says_yes h r =
        justified_by h.starts None h.kept r (λ k p at is. h.first k p (omega arith) (slice_get_within parts k p at) at)
        (λ i. i)

    pub yes_where : (u : Option LocalState) → IsSwept s fuel parts u None → IsAhead s fuel parts u None
        → SaysYes s fuel parts
    yes_where None h ahead = says_yes h
    yes_where (Some x) h ahead = absurd ahead

    pub says_no : (u : Option LocalState) (d : Difference) (p : Part) → IsSwept s fuel parts u (Some d)
        → IsAhead s fuel parts u (Some d) → slice_get parts d.index ≡ Some p
        → SaysNo s fuel parts p.path (Some p) (computed_part d.computed)
    says_no u d p h ahead at = record {
      states = part_here parts d.index p order at;
      is = subst (λ v. IsComputedPart s fuel parts v.path (computed_part d.computed)) one h.first.is;
      differs = subst (λ v. IsSamePart s fuel parts (Some v) (computed_part d.computed) → ⊥) one h.first.differs;
      first = λ r sooner. justified_by h.starts u h.kept r (stated r sooner) (not_before u ahead r sooner);
    }
      where
        one : h.first.part ≡ p
        one = some_inj (sym h.first.stands ∙ at)

        stated : (r : Path) → before r p.path ≡ true → (k : ℕ) (q : Part) → slice_get parts k ≡ Some q → q.path ≡ r
            → IsJustified s fuel parts q.path
        stated r sooner k q f is =
            let less =
            earlier_number parts k d.index q p order f at (subst (λ v. before v p.path ≡ true) (sym is) sooner) in
            h.first.earlier k q (omega arith) less f

        not_before : (u : Option LocalState) → IsAhead s fuel parts u (Some d) → (r : Path) → before r p.path ≡ true
            → IsSoonest u r → ⊥
        not_before None ahead r sooner i = i
        not_before (Some x) ahead r sooner (inl e) =
            before_irrefl r (before_trans r p.path r sooner (subst (λ v. before p.path v ≡ true) e (ahead p at)))
        not_before (Some x) ahead r sooner (inr more) =
            before_irrefl r (before_trans r p.path r sooner (before_trans p.path x.path r (ahead p at) more))

    -- what comes of a run is no absence
    not_absent : (r : Path) (a : Local) (c : Computed Part)
        → Computes (calculus s) (calculus_parts s fuel) (part_at parts) r a c → IsSamePart s fuel parts None c → ⊥
    not_absent r a absent (goes _ b _ step more) same = not_absent r b absent more same
    not_absent r a (made p) run same = same
    not_absent r a joined_twice run same = same
    not_absent r a missing run same = same

    pub says_unstated : (u : LocalState) (found : Option Difference) (c : Computed Part) (ks : List LocalState)
        → IsSwept s fuel parts (Some u) found → IsBehind s fuel parts u found → ComesTo s fuel parts u.path u.local c ks
        → SaysNo s fuel parts u.path None c
    says_unstated u found c ks h behind run = record {
      states = known.1;
      is = of_run u.local known.0 computes;
      differs = not_absent u.path u.local c computes;
      first = λ r sooner.
          justified_by h.starts (Some u) h.kept r (stated found h.first behind r sooner) (not_before r sooner);
    }
      where
        known : BeginsAt s fuel parts u.path u.local × (part_at parts u.path ≡ None)
        known = h.kept.starts_are.others

        computes : Computes (calculus s) (calculus_parts s fuel) (part_at parts) u.path u.local c
        computes = comes_to s fuel parts u.path u.local c ks run

        not_before : (r : Path) → before r u.path ≡ true → IsSoonest (Some u) r → ⊥
        not_before r sooner (inl e) = before_irrefl r (subst (λ v. before r v ≡ true) e sooner)
        not_before r sooner (inr more) = before_irrefl r (before_trans r u.path r sooner more)

        stated : (o : Option Difference) → Differs s fuel parts 0 o → IsBehind s fuel parts u o → (r : Path)
            → before r u.path ≡ true → (k : ℕ) (q : Part) → slice_get parts k ≡ Some q → q.path ≡ r
            → IsJustified s fuel parts q.path
        stated None first b r sooner k q at is = first k q (omega arith) (slice_get_within parts k q at) at
        stated (Some d) first b r sooner k q at is = go (cases_order k d.index)
          where
            mine : before q.path u.path ≡ true
            mine = subst (λ v. before v u.path ≡ true) (sym is) sooner

            late : before first.part.path u.path ≡ false
            late = b first.part first.stands

            go : (k ≡ d.index) ⊎ ((k < d.index) ⊎ (d.index < k)) → IsJustified s fuel parts q.path
            go (inr (inl less)) = first.earlier k q (omega arith) less at
            go (inl place) =
                let one : first.part ≡ q =
                some_inj (sym first.stands ∙ subst (λ n. slice_get parts n ≡ Some q) place at) in
                absurd (true≢false (sym mine ∙ subst (λ v. before v.path u.path ≡ false) one late))
            go (inr (inr more)) =
                absurd (true≢false (sym (before_trans first.part.path q.path u.path
                (ordered parts d.index k first.part q order first.stands at more) mine)
                ∙ late))

  -- ---- which of the two comes first

  pub difference_within : (u : Option LocalState) (d : Difference) → IsSwept s fuel parts u (Some d)
      → d.index < length parts
  difference_within u d h = slice_get_within parts d.index h.first.part h.first.stands

  pub ahead_or : (u : LocalState) (d : Difference) (p : Part) (b : Bool) → slice_get parts d.index ≡ Some p
      → b ≡ before p.path u.path
      → MatchBool b (IsAhead s fuel parts (Some u) (Some d)) (IsBehind s fuel parts u (Some d))
  ahead_or u d p true at is = λ q there. subst (λ v. before v.path u.path ≡ true) (some_inj (sym at ∙ there)) (sym is)
  ahead_or u d p false at is = λ q there. subst (λ v. before v.path u.path ≡ false) (some_inj (sym at ∙ there)) (sym is)

-- ---- whether two parts say the same

pub same_made : (s : Setting) (fuel : ℕ) (parts : List Part) (p own : Part) (b : Bool)
    → MatchBool b (shown_part p ≡ shown_part own) (shown_part p ≢ shown_part own)
    → MatchBool b (IsSamePart s fuel parts (Some p) (made own)) (IsSamePart s fuel parts (Some p) (made own) → ⊥)
same_made s fuel parts p own b h = h

pub not_same : (s : Setting) (fuel : ℕ) (parts : List Part) (p : Part) (x : computed.the_data)
    → (x ≡ computed.Absent) ⊎ ((x ≡ computed.Twice) ⊎ (x ≡ computed.Missing))
    → IsSamePart s fuel parts (Some p) (computed_part x) → ⊥
not_same s fuel parts p x (inl is) h = subst (λ y. IsSamePart s fuel parts (Some p) (computed_part y)) is h
not_same s fuel parts p x (inr (inl is)) h = subst (λ y. IsSamePart s fuel parts (Some p) (computed_part y)) is h
not_same s fuel parts p x (inr (inr is)) h = subst (λ y. IsSamePart s fuel parts (Some p) (computed_part y)) is h
