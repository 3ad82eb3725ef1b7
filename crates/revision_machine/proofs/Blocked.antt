-- No complete run ends with a revision that waits.
use Rattle.std.proofs.Common.{◌≡◌, ◌⊎◌, inl, inr, Bool, true, false, List, [], ◌∷◌, Option, Some, None, refl, sym, ap, ◌∙◌, subst}
use Rattle.std.proofs.lemmas.Bool.{cases_Bool, true≢false}
use Rattle.rev_num.specs.Path.{Path, before}
use Rattle.revision_machine.specs.Machine.{Event, Moves, Forks, Joins, Ended, Machine, Entry, Plain, Joined, Global, Twice, Live, Revisions, start, step, step_at, happens, join_at, join_ended, Final, Reached}
use Rattle.revision_machine.specs.Conditions.{Counts, Handles, HoldsNone}
use Rattle.revision_machine.specs.Laws.{local_of, WellForked, IsOrdered, HandlesPrecede, HandleLaw, IsStanding, AllEnded, NoBlockedEnd, IsIn, Census}
use Rattle.revision_machine.proofs.Paths.{some_inj}
use Rattle.rev_num.proofs.PostOrder.{before_trans, before_irrefl}
use Rattle.rev_num.proofs.Options.{none_some}
use Rattle.revision_machine.proofs.Way.{Way, writes, twice, way}
use Rattle.revision_machine.proofs.Forker.{keeps_forked, start_forked}
use Rattle.revision_machine.proofs.Ends.{along}
use Rattle.revision_machine.proofs.Standing.{standing_law}
use Rattle.revision_machine.proofs.Order.{ordered_step}
use Rattle.revision_machine.proofs.Census.{spending_law, no_cost}

-- among finitely many paths that pass a test, one that none of the others precedes
record Lowest (waits : Path → Bool) (ps : List Path) : Type 0 where
  path : Path
  passes : waits path ≡ true
  first : (q : Path) → IsIn q ps → waits q ≡ true → before q path ≡ false

lowest : (waits : Path → Bool) (ps : List Path) → ((q : Path) → IsIn q ps → waits q ≡ true → ⊥) ⊎ Lowest waits ps
lowest waits [] = inl (λ q i. absurd i)
lowest waits (p ∷ ps) = go (lowest waits ps) (cases_Bool (waits p))
  where
    go : (((q : Path) → IsIn q ps → waits q ≡ true → ⊥) ⊎ Lowest waits ps) → (waits p ≡ true) ⊎ (waits p ≡ false)
        → ((q : Path) → IsIn q (p ∷ ps) → waits q ≡ true → ⊥) ⊎ Lowest waits (p ∷ ps)
    go (inl none) (inr off) = inl none'
      where
        none' : (q : Path) → IsIn q (p ∷ ps) → waits q ≡ true → ⊥
        none' q (inl i) w = true≢false (sym w ∙ ap waits i ∙ off)
        none' q (inr i) w = none q i w
    go (inl none) (inl on) = inr (record { path = p; passes = on; first = first' })
      where
        first' : (q : Path) → IsIn q (p ∷ ps) → waits q ≡ true → before q p ≡ false
        first' q (inl i) w = not_self (before q p) refl
          where
            not_self : (b : Bool) → before q p ≡ b → b ≡ false
            not_self true e = absurd (before_irrefl p (subst (λ v. before v p ≡ true) i e))
            not_self false e = refl
        first' q (inr i) w = absurd (none q i w)
    go (inr low) (inr off) = inr (record { path = low.path; passes = low.passes; first = first' })
      where
        first' : (q : Path) → IsIn q (p ∷ ps) → waits q ≡ true → before q low.path ≡ false
        first' q (inl i) w = absurd (true≢false (sym w ∙ ap waits i ∙ off))
        first' q (inr i) w = low.first q i w
    go (inr low) (inl on) = of_order (cases_Bool (before p low.path))
      where
        of_order : (before p low.path ≡ true) ⊎ (before p low.path ≡ false)
            → ((q : Path) → IsIn q (p ∷ ps) → waits q ≡ true → ⊥) ⊎ Lowest waits (p ∷ ps)
        of_order (inr later) = inr (record { path = low.path; passes = low.passes; first = first' })
          where
            first' : (q : Path) → IsIn q (p ∷ ps) → waits q ≡ true → before q low.path ≡ false
            first' q (inl i) w = subst (λ v. before v low.path ≡ false) (sym i) later
            first' q (inr i) w = low.first q i w
        of_order (inl sooner) = inr (record { path = p; passes = on; first = first' })
          where
            first' : (q : Path) → IsIn q (p ∷ ps) → waits q ≡ true → before q p ≡ false
            first' q i w = not_true (before q p) refl i
              where
                not_true : (b : Bool) → before q p ≡ b → IsIn q (p ∷ ps) → b ≡ false
                not_true false e i = refl
                not_true true e (inl i) = absurd (before_irrefl p (subst (λ v. before v p ≡ true) i e))
                not_true true e (inr i) =
                    absurd (true≢false (sym (before_trans q p low.path e sooner) ∙ low.first q i w))

module _ (M : Machine) where
  keeps_both : (holds : M.Local → Path → Type 0) → Counts M → Handles M holds → (g h : Global M.Local) (r : Path)
      → WellForked M g × HandlesPrecede M holds g → step M g r ≡ Some h → WellForked M h × HandlesPrecede M holds h
  keeps_both holds counts H Twice h r good s = none_some s
  keeps_both holds counts H (Live revs) h r good s =
      (keeps_forked M counts (Live revs) h r good.0 s, by h (way M revs r h s))
    where
      by : (h : Global M.Local) → Way M revs r h → HandlesPrecede M holds h
      by h (writes l l' o e here x) = ordered_step M holds H revs good.0 good.1 r l l' o e here x
      by h (twice l q lq here does there) = tt

  start_ordered : (holds : M.Local → Path → Type 0) (main : M.Local) → HoldsNone M holds main
      → HandlesPrecede M holds (start M main)
  start_ordered holds main none [] q e there held =
      absurd (none q (subst (λ v. holds (local_of v) q) (sym (some_inj there)) held))
  start_ordered holds main none (x ∷ r) q e there held = none_some there

  pub handle_law : (main : M.Local) (holds : M.Local → Path → Type 0) → Counts M → Handles M holds
      → HoldsNone M holds main → HandleLaw M main holds
  handle_law main holds counts H none g reached =
      (along M (λ v. WellForked M v × HandlesPrecede M holds v) (keeps_both holds counts H) reached.by (start M main) g
      (start_forked M main, start_ordered holds main none) reached.runs).1

  -- it has something left to do
  abbrev pub going_on : Event M.Local → Bool
  going_on Ended = false
  going_on (Moves _) = true
  going_on (Forks _ _) = true
  going_on (Joins _) = true

  abbrev pub waits_at : Path → Option (Entry M.Local) → Bool
  waits_at r None = false
  waits_at r (Some (Joined l)) = false
  waits_at r (Some (Plain l)) = going_on (M.next r l)

  pub ended_since : (v : Event M.Local) → going_on v ≡ false → v ≡ Ended
  ended_since Ended e = refl
  ended_since (Moves _) e = absurd (true≢false e)
  ended_since (Forks _ _) e = absurd (true≢false e)
  ended_since (Joins _) e = absurd (true≢false e)

  -- where each that has not ended waits for one before it, there is none
  pub none_waits : (revs : Revisions M) (ps : List Path) → Census revs ps
      → ((r : Path) → waits_at r (revs r) ≡ true → (q : Path) × (waits_at q (revs q) ≡ true) × (before q r ≡ true))
      → (r : Path) → waits_at r (revs r) ≡ true → ⊥
  none_waits revs ps census waits_for r w = go (lowest (λ q. waits_at q (revs q)) ps)
    where
      stands : (q : Path) (e : Option (Entry M.Local)) → revs q ≡ e → waits_at q e ≡ true → IsIn q ps
      stands q None here e = absurd (true≢false (sym e))
      stands q (Some e) here f = census.all q e here

      go : (((q : Path) → IsIn q ps → waits_at q (revs q) ≡ true → ⊥) ⊎ Lowest (λ q. waits_at q (revs q)) ps) → ⊥
      go (inl none) = none r (stands r (revs r) refl w) w
      go (inr low) =
          let f = waits_for low.path low.passes in
          true≢false (sym f.2 ∙ low.first f.0 (stands f.0 (revs f.0) refl f.1) f.1)

  -- so each has ended
  pub all_ended : (main : M.Local) → Counts M → (revs : Revisions M) → Reached M main (Live revs)
      → ((r : Path) → waits_at r (revs r) ≡ true → (q : Path) × (waits_at q (revs q) ≡ true) × (before q r ≡ true))
      → AllEnded M (Live revs)
  all_ended main counts revs reached waits_for = record { main = stands.main; each = each }
    where
      stands : IsStanding M revs
      stands = standing_law M main (Live revs) reached

      of_plain : (r : Path) (l : M.Local) → revs r ≡ Some (Plain l) → (b : Bool) → going_on (M.next r l) ≡ b
          → M.next r l ≡ Ended
      of_plain r l here false e = ended_since (M.next r l) e
      of_plain r l here true e =
          let c = spending_law M main 0 (λ l. 0) counts (no_cost M) (Live revs) reached.by reached.runs in
          absurd (none_waits revs c.1.0 c.1.1 waits_for r (ap (waits_at r) here ∙ e))

      each : (r : Path) (e : Entry M.Local) → revs r ≡ Some e → M.next r (local_of e) ≡ Ended
      each r (Plain l) here = of_plain r l here (going_on (M.next r l)) refl
      each r (Joined l) here = stands.marked r l here

  module _ (holds : M.Local → Path → Type 0) (H : Handles M holds) (revs : Revisions M)
      (ordered : IsOrdered M holds revs) (final : Final M (Live revs)) where
    -- where nothing steps, one that has not ended waits for one before it
    waits_for : (r : Path) → waits_at r (revs r) ≡ true
        → (q : Path) × (waits_at q (revs q) ≡ true) × (before q r ≡ true)
    waits_for r w = of_entry (revs r) refl w
      where
        Found : Type 0
        Found = (q : Path) × (waits_at q (revs q) ≡ true) × (before q r ≡ true)

        of_target : (l : M.Local) (q : Path) → revs r ≡ Some (Plain l) → M.next r l ≡ Joins q → before q r ≡ true
            → (e : Entry M.Local) → revs q ≡ Some e → Found
        of_target l q here does earlier (Joined lq) there =
            none_some (sym (final r) ∙ ap (step_at M revs r) here ∙ ap (happens M revs r l) does
            ∙ ap (join_at M revs r l q) there)
        of_target l q here does earlier (Plain lq) there = of_next (M.next q lq) refl
          where
            found : going_on (M.next q lq) ≡ true → Found
            found e = (q, ap (waits_at q) there ∙ e, earlier)

            of_next : (v : Event M.Local) → M.next q lq ≡ v → Found
            of_next Ended f =
                none_some (sym (final r) ∙ ap (step_at M revs r) here ∙ ap (happens M revs r l) does
                ∙ ap (join_at M revs r l q) there ∙ ap (join_ended M revs r l q lq) f)
            of_next (Moves _) f = found (ap going_on f)
            of_next (Forks _ _) f = found (ap going_on f)
            of_next (Joins _) f = found (ap going_on f)

        of_event : (l : M.Local) → revs r ≡ Some (Plain l) → (v : Event M.Local) → M.next r l ≡ v → going_on v ≡ true
            → Found
        of_event l here Ended f e = absurd (true≢false (sym e))
        of_event l here (Moves _) f e =
            none_some (sym (final r) ∙ ap (step_at M revs r) here ∙ ap (happens M revs r l) f)
        of_event l here (Forks _ _) f e =
            none_some (sym (final r) ∙ ap (step_at M revs r) here ∙ ap (happens M revs r l) f)
        of_event l here (Joins q) f e =
            let b = ordered r q (Plain l) here (H.wants r q l f) in of_target l q here f b.earlier b.entry b.stands

        of_entry : (e : Option (Entry M.Local)) → revs r ≡ e → waits_at r e ≡ true → Found
        of_entry None here e = absurd (true≢false (sym e))
        of_entry (Some (Joined l)) here e = absurd (true≢false (sym e))
        of_entry (Some (Plain l)) here e = of_event l here (M.next r l) refl e

  pub no_blocked_end : (main : M.Local) (holds : M.Local → Path → Type 0) → Counts M → Handles M holds
      → HoldsNone M holds main → NoBlockedEnd M main
  no_blocked_end main holds counts H none Twice reached final = tt
  no_blocked_end main holds counts H none (Live revs) reached final =
      all_ended main counts revs reached
      (waits_for holds H revs (handle_law main holds counts H none (Live revs) reached) final)
