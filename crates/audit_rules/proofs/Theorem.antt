-- A Yes is the trace of the end of every complete run, and such a trace has a Yes.
use Rattle.std.proofs.Common.{◌≡◌, ◌≢◌, ◌⊎◌, inl, inr, ℕ, ◌<◌, true, List, [], ◌∷◌, Option, Some, None, refl, sym, ap, ◌∙◌, subst}
use Rattle.rev_num.specs.Path.{Path, before}
use Rattle.rev_num.proofs.PostOrder.{before_total}
use Rattle.revision_machine.specs.PathMap.{PathMap}
use Rattle.revision_machine.specs.Machine.{Joins, Ended, Machine, Entry, Plain, Joined, Global, Twice, Live, Revisions, start, step, Runs, Complete, Reached}
use Rattle.revision_machine.specs.Conditions.{Counts, Spends, IsKept}
use Rattle.revision_machine.specs.Laws.{local_of, IsIn, AllEnded, NoBlockedEnd}
use Rattle.revision_machine.proofs.Paths.{some_inj, decide_same}
use Rattle.rev_num.proofs.PostOrder.{before_irrefl}
use Rattle.revision_machine.proofs.Way.{put_two, Way, writes, twice, way, Place, own, new, marks, place, ended_apart}
use Rattle.revision_machine.proofs.Diamond.{two_here, two_there}
use Rattle.revision_machine.proofs.Totals.{amount_two}
use Rattle.revision_machine.proofs.KeptByEvents.{kept_law}
use Rattle.revision_machine.proofs.Ends.{along}
use Rattle.audit_rules.specs.Audited.{Telling, Computed, absent, made, joined_twice, missing, JoinedEarlier, IsTwice, taken, Alone, by_move, by_fork, by_join, Passes, at_first, then_by, Computes, ends, at_twice, at_missing, goes, Begins, of_main, of_fork, IsComputed, of_none, of_run, IsSame, Justified, IsYes, IsNo, Shows, IsTraceOf, Tells, YesIsTrue, TraceIsYes, OneComputed, OneVerdict}
use Rattle.audit_rules.proofs.OneOwnRun.{none_some, fork_end, one_result, passes_computes, computes_since, computes_end, made_goes, either_way, Headed, stands, steps, headed, step_goes, forked_since, takes_lists, computed_lists, passes_once, begins_one, in_last, begins_none}
use Rattle.audit_rules.proofs.AfterSteps.{plain_joined, Later, stepper, newborn, joinee, old, later, IsListed, IsListing, listing, on_by_one, Stays, stays, from_twice}

-- what a machine gives to the theorem
pub record Audits (M : Machine) (T : Telling M) (P : Path → M.Local → Type 0) (of : M.Local → ℕ)
    (main : M.Local) : Type 0 where
  pub counts : Counts M
  pub spends : Spends M 0 of
  pub kept : IsKept M P
  pub first : P [] main
  pub tells : Tells M T P of (of main)
  pub lists_none : T.joined main ≡ []
  pub forks_none : M.forks main ≡ 0
  pub unblocked : NoBlockedEnd M main

module _ (M : Machine) (T : Telling M) (P : Path → M.Local → Type 0) (of : M.Local → ℕ) (main : M.Local)
    (A : Audits M T P of main) where
  listing_of : (revs : Revisions M) → Reached M main (Live revs)
      → IsListing M T P of (of main) A.counts A.tells main A.lists_none A.forks_none revs
  listing_of revs reached =
      listing M T P of (of main) A.counts A.tells main A.lists_none A.forks_none (Live revs) reached

  -- the part of an ended joinee can be taken, and gives the join
  takes_part : (revs : Revisions M) → Reached M main (Live revs) → (r q : Path) (l lq : M.Local)
      → revs r ≡ Some (Plain l) → revs q ≡ Some (Plain lq) → M.next r l ≡ Joins q → M.next q lq ≡ Ended
      → T.takes r l q (T.part q lq) ≡ Some (M.join r l q lq)
  takes_part revs reached r q l lq here there does ended =
      let kept = kept_law M main P A.kept A.first (Live revs) reached in
      let apart : r ≢ q =
      ended_apart M revs r q l lq here (λ e. let w : Joins q ≡ Ended = sym does ∙ e in cc) there ended in
      A.tells.true-part r q l lq (kept r (Plain l) here) (kept q (Plain lq) there) does ended
      (amount_two M A.counts main of A.spends revs reached r q l lq here there apart)

  module _ (stated : PathMap T.Part) where
    abbrev Begun : Path → M.Local → Type 0
    Begun = Begins M T main stated

    abbrev Goes_to : Path → M.Local → M.Local → Type 0
    Goes_to = Passes M T stated

    abbrev Makes : Path → M.Local → Computed T.Part → Type 0
    Makes = Computes M T stated

    one_beginning : (r : Path) (a b : M.Local) → Begun r a → Begun r b → a ≡ b
    one_beginning = begins_one M T P of (of main) A.counts A.tells stated main

    -- r at l stands on its own run
    record OnWay (r : Path) (l : M.Local) : Type 0 where
      first : M.Local
      begins : Begun r first
      passes : Goes_to r first l

    abbrev AllOnWay : Global M.Local → Type 0
    AllOnWay Twice = ⊥
    AllOnWay (Live revs) = (r : Path) (e : Entry M.Local) → revs r ≡ Some e → OnWay r (local_of e)

    -- each revision of the next state is on its way, where the stepper's step was a step of its own run
    way_step : (revs : Revisions M) → AllOnWay (Live revs) → (r : Path) (l l' : M.Local) (o : Path) (e : Entry M.Local)
        → revs r ≡ Some (Plain l) → Place M revs r l l' o e → Alone M T stated r l l'
        → ((p : T.Part) × (stated r ≡ Some p)) → AllOnWay (Live (put_two revs r (Plain l') o e))
    way_step revs has r l l' o e here role alone states x f there = go (later M revs r l l' o e role x f there)
      where
        mine : OnWay r l
        mine = has r (Plain l) here

        go : Later M revs r l l' x f → OnWay x (local_of f)
        go (stepper xr fl) =
            let on : OnWay r l' =
            record { first = mine.first; begins = mine.begins; passes = then_by l l' mine.passes alone } in
            subst (λ v. OnWay x (local_of v)) (sym fl) (subst (λ v. OnWay v l') (sym xr) on)
        go (newborn c does a b) =
            let begun : Begun x c = of_fork x c r mine.first l l' states.0 mine.begins states.1 mine.passes does a in
            subst (λ v. OnWay x (local_of v)) (sym b) (record { first = c; begins = begun; passes = at_first })
        go (joinee lq does was ended fl) = subst (λ v. OnWay x (local_of v)) (sym fl) (has x (Plain lq) was)
        go (old was) = has x f was

    start_on_way : AllOnWay (start M main)
    start_on_way [] e there =
        subst (λ v. OnWay [] (local_of v)) (some_inj there)
        (record { first = main; begins = of_main [] main refl refl; passes = at_first })
    start_on_way (n ∷ r) e there = none_some there

    -- ---- computed parts

    one_computed : (r : Path) (c d : Computed T.Part) → IsComputed M T main stated r c → IsComputed M T main stated r d
        → c ≡ d
    one_computed r c d (of_none n e) (of_none m f) = e ∙ sym f
    one_computed r c d (of_none n e) (of_run a b x) = absurd (n a b)
    one_computed r c d (of_run a b x) (of_none n e) = absurd (n a b)
    one_computed r c d (of_run a b x) (of_run a' b' y) =
        one_result M T stated r a c d x (subst (λ v. Makes r v d) (sym (one_beginning r a a' b b')) y)

    not_absent : (r : Path) (l : M.Local) (c : Computed T.Part) → Makes r l c → c ≡ absent → ⊥
    not_absent r l c (ends _ e) f = cc
    not_absent r l c (at_twice _ q e t) f = cc
    not_absent r l c (at_missing _ q e n t) f = cc
    not_absent r l c (goes _ b _ s rest) f = not_absent r b c rest f

    -- the stated part of a revision that begins, which is what comes of its own run
    record IsMade (r : Path) (a : M.Local) : Type 0 where
      said : T.Part
      states : stated r ≡ Some said
      part : T.Part
      makes : Makes r a (made part)
      same : T.text said ≡ T.text part

    made_by : IsYes M T main stated → (r : Path) (a : M.Local) → Begun r a → IsMade r a
    made_by justifies r a begun = go (justifies r)
      where
        of_run_at : (c : Computed T.Part) (b : M.Local) → Begun r b → Makes r b c → (o : Option T.Part) → stated r ≡ o
            → IsSame M T main stated o c → IsMade r a
        of_run_at absent b bb x o so is = absurd (not_absent r b absent x refl)
        of_run_at joined_twice b bb x None so is = absurd is
        of_run_at joined_twice b bb x (Some p) so is = absurd is
        of_run_at missing b bb x None so is = absurd is
        of_run_at missing b bb x (Some p) so is = absurd is
        of_run_at (made c) b bb x None so is = absurd is
        of_run_at (made c) b bb x (Some p) so is = record {
          said = p;
          states = so;
          part = c;
          makes = subst (λ v. Makes r v (made c)) (one_beginning r b a bb begun) x;
          same = is;
        }

        go : Justified M T main stated r → IsMade r a
        go j = by j.computed j.is j.same
          where
            by : (c : Computed T.Part) → IsComputed M T main stated r c → IsSame M T main stated (stated r) c
                → IsMade r a
            by c (of_none n e) is = absurd (n a begun)
            by c (of_run b bb x) is = of_run_at c b bb x (stated r) refl is

    -- ---- a Yes

    module _ (justifies : IsYes M T main stated) where
      made_at : (revs : Revisions M) → AllOnWay (Live revs) → (r : Path) (e : Entry M.Local) → revs r ≡ Some e
          → IsMade r (local_of e)
      made_at revs has r e here =
          let on = has r e here in
          let m = made_by justifies r on.first on.begins in
          record {
            said = m.said;
            states = m.states;
            part = m.part;
            makes = passes_computes M T stated r on.first (local_of e) (made m.part) on.passes m.makes;
            same = m.same;
          }

      -- the stated part of an ended revision is its part
      said_at : (revs : Revisions M) → AllOnWay (Live revs) → (q : Path) (e : Entry M.Local) → revs q ≡ Some e
          → M.next q (local_of e) ≡ Ended
          → (p : T.Part) × (stated q ≡ Some p) × (T.text p ≡ T.text (T.part q (local_of e)))
      said_at revs has q e here ended =
          let m = made_at revs has q e here in
          let same : made m.part ≡ made (T.part q (local_of e)) =
          computes_end M T stated q (local_of e) (made m.part) ended m.makes in
          let is : m.part ≡ T.part q (local_of e) = (let w = same in cc) in
          (m.said, m.states, m.same ∙ ap T.text is)

      -- each step is a step of the stepper's own run
      alone_by : (revs : Revisions M) → Reached M main (Live revs) → AllOnWay (Live revs)
          → (r : Path) (l l' : M.Local) (o : Path) (e : Entry M.Local) → revs r ≡ Some (Plain l)
          → Place M revs r l l' o e → Alone M T stated r l l'
      alone_by revs reached has r l l' o e here (own does a b) = by_move does
      alone_by revs reached has r l l' o e here (new c does a b) = by_fork c does
      alone_by revs reached has r l l' o e here (marks lq does was ended is b) =
          let m = made_at revs has r (Plain l) here in
          let g = made_goes M T stated r l o m.part does m.makes in
          let s = said_at revs has o (Plain lq) was ended in
          by_join o does g.takes.once
          (ap (taken M T stated r l o) s.1 ∙ A.tells.takes-same r o l s.0 (T.part o lq) s.2
          ∙ takes_part revs reached r o l lq here was does ended ∙ ap Some (sym is))

      -- and none joins a revision twice
      never_twice : (revs : Revisions M) → Reached M main (Live revs) → AllOnWay (Live revs)
          → (r q : Path) (l lq : M.Local) → revs r ≡ Some (Plain l) → M.next r l ≡ Joins q → revs q ≡ Some (Joined lq)
          → ⊥
      never_twice revs reached has r q l lq here does there = by ((listing_of revs reached).listed q lq there)
        where
          m : IsMade r l
          m = made_at revs has r (Plain l) here

          by : IsListed M T P of (of main) A.counts A.tells main A.lists_none A.forks_none revs q → ⊥
          by h = go (decide_same h.by r)
            where
              go : (h.by ≡ r) ⊎ (h.by ≢ r) → ⊥
              go (inl is) =
                  let e : h.entry ≡ Plain l = some_inj (sym h.stands ∙ ap revs is ∙ here) in
                  let i : IsIn q (T.joined l) = subst (λ v. IsIn q (T.joined (local_of v))) e h.lists in
                  (made_goes M T stated r l q m.part does m.makes).takes.once (inl i)
              go (inr apart) = of_order (before_total h.by r apart)
                where
                  n : IsMade h.by (local_of h.entry)
                  n = made_at revs has h.by h.entry h.stands

                  on : OnWay h.by (local_of h.entry)
                  on = has h.by h.entry h.stands

                  g-after : IsIn q (T.joins m.part)
                  g-after =
                      let g = made_goes M T stated r l q m.part does m.makes in
                      computed_lists M T P of (of main) A.counts A.tells stated r g.after (made m.part) m.part q refl
                      g.rest (takes_lists M T P of (of main) A.counts A.tells stated r l g.after q does g.takes)

                  of_order : (before h.by r ≡ true) ⊎ (before r h.by ≡ true) → ⊥
                  of_order (inl sooner) =
                      let i : IsIn q (T.joins n.part) =
                      computed_lists M T P of (of main) A.counts A.tells stated h.by (local_of h.entry) (made n.part)
                      n.part q refl n.makes h.lists in
                      let j : JoinedEarlier M T stated r q = record {
                        joiner = h.by;
                        part = n.said;
                        states = n.states;
                        earlier = sooner;
                        lists = subst (IsIn q) (sym (A.tells.joins-same n.said n.part n.same)) i;
                      } in
                      (made_goes M T stated r l q m.part does m.makes).takes.once (inr j)
                  of_order (inr later') =
                      let j : JoinedEarlier M T stated h.by q = record {
                        joiner = r;
                        part = m.said;
                        states = m.states;
                        earlier = later';
                        lists = subst (IsIn q) (sym (A.tells.joins-same m.said m.part m.same)) g-after;
                      } in
                      passes_once M T P of (of main) A.counts A.tells stated h.by on.first (local_of h.entry) q
                      (begins_none M T P of (of main) A.counts A.tells stated main A.lists_none h.by on.first on.begins)
                      on.passes h.lists j

      keeps_way : (g h : Global M.Local) (r : Path) → Reached M main g × AllOnWay g → step M g r ≡ Some h
          → Reached M main h × AllOnWay h
      keeps_way Twice h r has s = none_some s
      keeps_way (Live revs) h r has s = (
        on_by_one M T P of (of main) A.counts A.tells main A.lists_none A.forks_none (Live revs) h r has.0 s,
        by h (way M revs r h s),
      )
        where
          by : (h : Global M.Local) → Way M revs r h → AllOnWay h
          by h (writes l l' o e here x) =
              let m = made_at revs has.1 r (Plain l) here in
              way_step revs has.1 r l l' o e here (place M x) (alone_by revs has.0 has.1 r l l' o e here (place M x))
              (m.said, m.states)
          by h (twice l q lq here does there) = never_twice revs has.0 has.1 r q l lq here does there

      on_way : (g : Global M.Local) → Reached M main g → AllOnWay g
      on_way g reached =
          (along M (λ v. Reached M main v × AllOnWay v) keeps_way reached.by (start M main) g
          (record { by = []; runs = refl }, start_on_way) reached.runs).1

    -- what begins stands in a state where all that stand have ended on their way
    begun_stands : (revs : Revisions M) → Reached M main (Live revs) → AllOnWay (Live revs)
        → ((r : Path) (e : Entry M.Local) → revs r ≡ Some e → M.next r (local_of e) ≡ Ended) → (r : Path) (a : M.Local)
        → Begun r a → (e : Entry M.Local) × (revs r ≡ Some e)
    begun_stands revs reached has over r a (of_main _ _ e f) =
        let root = (listing_of revs reached).root in (root.0, ap revs e ∙ root.1)
    begun_stands revs reached has over r a (of_fork _ _ g first l l' p bg sg pg does at) =
        go (begun_stands revs reached has over g first bg)
      where
        go : (e : Entry M.Local) × (revs g ≡ Some e) → (e : Entry M.Local) × (revs r ≡ Some e)
        go s = by (either_way M T stated g first l k pg passes)
          where
            k : M.Local
            k = local_of s.0

            on : OnWay g k
            on = has g s.0 s.1

            passes : Goes_to g first k
            passes = subst (λ v. Goes_to g v k) (one_beginning g on.first first on.begins bg) on.passes

            ended : M.next g k ≡ Ended
            ended = over g s.0 s.1

            same : l ≡ k → (e : Entry M.Local) × (revs r ≡ Some e)
            same e = fork_end M does (ap (M.next g) e ∙ ended)

            by : Goes_to g l k ⊎ Goes_to g k l → (e : Entry M.Local) × (revs r ≡ Some e)
            by (inl w) = of_way (forked_since M T P of (of main) A.counts A.tells stated g l l' a k does w)
              where
                of_way : (l ≡ k) ⊎ (M.forks l < M.forks k) → (e : Entry M.Local) × (revs r ≡ Some e)
                of_way (inl e) = same e
                of_way (inr less) =
                    let c = (listing_of revs reached).children g (M.forks l) s.0 s.1 less in (c.0, ap revs at ∙ c.1)
            by (inr w) = of_head (headed M T stated g k l w)
              where
                of_head : Headed M T stated g k l → (e : Entry M.Local) × (revs r ≡ Some e)
                of_head (stands e) = same (sym e)
                of_head (steps b t rest) = absurd (step_goes M T stated g k b t ended)

    all_over : (revs : Revisions M) → Reached M main (Live revs) → AllEnded M (Live revs)
        → (r : Path) (e : Entry M.Local) → revs r ≡ Some e → M.next r (local_of e) ≡ Ended
    all_over revs reached done r e here = done.each r e here

    yes_is_true : IsYes M T main stated → (rs : List Path) (g : Global M.Local) → Complete M (start M main) rs g
        → IsTraceOf M T main stated g
    yes_is_true justifies rs g complete =
        by g reached (on_way justifies g reached) (A.unblocked g reached complete.final)
      where
        reached : Reached M main g
        reached = record { by = rs; runs = complete.runs }

        by : (g : Global M.Local) → Reached M main g → AllOnWay g → AllEnded M g → IsTraceOf M T main stated g
        by Twice got has done = has
        by (Live revs) got has done = λ r. at r (revs r) refl (stated r) refl
          where
            over : (r : Path) (e : Entry M.Local) → revs r ≡ Some e → M.next r (local_of e) ≡ Ended
            over = all_over revs got done

            at : (r : Path) (e : Option (Entry M.Local)) → revs r ≡ e → (o : Option T.Part) → stated r ≡ o
                → Shows M T main stated r o e
            at r None here None so = tt
            at r (Some e) here None so =
                let s = said_at justifies revs has r e here (over r e here) in none_some (sym so ∙ s.1)
            at r (Some e) here (Some p) so =
                let s = said_at justifies revs has r e here (over r e here) in
                let is : p ≡ s.0 = some_inj (sym so ∙ s.1) in
                ap T.text is ∙ s.2
            at r None here (Some p) so = from (justifies r)
              where
                from : Justified M T main stated r → ⊥
                from j = by_is j.computed j.is (subst (λ v. IsSame M T main stated v j.computed) so j.same)
                  where
                    by_is : (c : Computed T.Part) → IsComputed M T main stated r c → IsSame M T main stated (Some p) c
                        → ⊥
                    by_is c (of_none n e) is = subst (IsSame M T main stated (Some p)) e is
                    by_is c (of_run a b x) is =
                        let s = begun_stands revs got has over r a b in none_some (sym here ∙ s.1)

    -- ---- the trace of a final state

    module _ (last : Revisions M) (ending : Reached M main (Live last))
        (shows : IsTraceOf M T main stated (Live last)) where
      said_of : (r : Path) (e : Entry M.Local) → last r ≡ Some e
          → (p : T.Part) × (stated r ≡ Some p) × (T.text p ≡ T.text (T.part r (local_of e)))
      said_of r e here = go (stated r) refl (subst (Shows M T main stated r (stated r)) here (shows r))
        where
          go : (o : Option T.Part) → stated r ≡ o → Shows M T main stated r o (Some e)
              → (p : T.Part) × (stated r ≡ Some p) × (T.text p ≡ T.text (T.part r (local_of e)))
          go None so is = absurd is
          go (Some p) so is = (p, so, is)

      stands_of : (r : Path) (p : T.Part) → stated r ≡ Some p
          → (e : Entry M.Local) × (last r ≡ Some e) × (T.text p ≡ T.text (T.part r (local_of e)))
      stands_of r p so = go (last r) refl (subst (λ v. Shows M T main stated r v (last r)) so (shows r))
        where
          go : (e : Option (Entry M.Local)) → last r ≡ e → Shows M T main stated r (Some p) e
              → (e : Entry M.Local) × (last r ≡ Some e) × (T.text p ≡ T.text (T.part r (local_of e)))
          go None here is = absurd is
          go (Some e) here is = (e, here, is)

      -- on the way to it
      alone_to : (revs : Revisions M) → Reached M main (Live revs)
          → (r : Path) (l l' : M.Local) (o : Path) (e : Entry M.Local) → revs r ≡ Some (Plain l)
          → Place M revs r l l' o e
          → ((after : Revisions M) → after ≡ put_two revs r (Plain l') o e
          → Stays M T P of (of main) A.counts A.tells main A.lists_none A.forks_none after last)
          → Alone M T stated r l l'
      alone_to revs reached r l l' o e here (own does a b) rest = by_move does
      alone_to revs reached r l l' o e here (new c does a b) rest = by_fork c does
      alone_to revs reached r l l' o e here (marks lq does was ended is b) rest =
          by_join o does once (ap (taken M T stated r l o) s.1 ∙ A.tells.takes-same r o l s.0 (T.part o lq) s.2
          ∙ takes_part revs reached r o l lq here was does ended ∙ ap Some (sym is))
        where
          after : Revisions M
          after = put_two revs r (Plain l') o e

          apart : r ≢ o
          apart = ended_apart M revs r o l lq here (λ v. let w : Joins o ≡ Ended = sym does ∙ v in cc) was ended

          stay : Stays M T P of (of main) A.counts A.tells main A.lists_none A.forks_none after last
          stay = rest after refl

          at_last : last o ≡ Some (Joined lq)
          at_last = stay.marked o lq (two_there revs r o (Plain l') e apart ∙ ap Some b)

          s : (p : T.Part) × (stated o ≡ Some p) × (T.text p ≡ T.text (T.part o lq))
          s = said_of o (Joined lq) at_last

          listed : IsIn o (T.joined l')
          listed = subst (IsIn o) (sym (ap T.joined is ∙ A.tells.joins r o l lq does ended)) (in_last o (T.joined l))

          once : IsTwice M T stated r l o → ⊥
          once (inl i) = let m = (listing_of revs reached).marked r o (Plain l) here i in plain_joined (sym was ∙ m.1)
          once (inr j) =
              let k = stands_of j.joiner j.part j.states in
              let i : IsIn o (T.joined (local_of k.0)) =
              subst (IsIn o) (A.tells.joins-same j.part (T.part j.joiner (local_of k.0)) k.2
              ∙ A.tells.part-joins j.joiner (local_of k.0))
              j.lists in
              let g = stay.grows r (Plain l') (two_here revs r o (Plain l') e) in
              let same : j.joiner ≡ r = (listing_of last ending).once j.joiner r o k.0 g.0 k.1 g.1 i (g.2 o listed) in
              before_irrefl r (subst (λ v. before v r ≡ true) same j.earlier)

      way_to : (rs : List Path) (g : Global M.Local) → Reached M main g → AllOnWay g → Runs M g rs (Live last)
          → AllOnWay (Live last)
      way_to [] g reached has runs = subst AllOnWay runs has
      way_to (r ∷ rs) Twice reached has runs = absurd has
      way_to (r ∷ rs) (Live revs) reached has runs = by runs.0 refl (way M revs r runs.0 runs.1) (λ m. way_to rs m)
        where
          by : (m : Global M.Local) → m ≡ runs.0 → Way M revs r m
              → ((m : Global M.Local) → Reached M main m → AllOnWay m → Runs M m rs (Live last) → AllOnWay (Live last))
              → AllOnWay (Live last)
          by m is (twice l q lq here does there) rest =
              let w : Twice ≡ Live last =
              from_twice M T P of (of main) A.counts A.tells main A.lists_none A.forks_none rs (Live last)
              (subst (λ v. Runs M v rs (Live last)) (sym is) runs.2) in
              absurd cc
          by m is (writes l l' o e here x) rest =
              let after : Revisions M = put_two revs r (Plain l') o e in
              let more : Runs M (Live after) rs (Live last) = subst (λ v. Runs M v rs (Live last)) (sym is) runs.2 in
              let reached' : Reached M main (Live after) =
              on_by_one M T P of (of main) A.counts A.tells main A.lists_none A.forks_none (Live revs) (Live after) r
              reached (runs.1 ∙ ap Some (sym is)) in
              let stay : Stays M T P of (of main) A.counts A.tells main A.lists_none A.forks_none after last =
              stays M T P of (of main) A.counts A.tells main A.lists_none A.forks_none rs after last reached' more in
              let alone : Alone M T stated r l l' =
              alone_to revs reached r l l' o e here (place M x)
              (λ v w. subst (λ u. Stays M T P of (of main) A.counts A.tells main A.lists_none A.forks_none u last)
              (sym w) stay) in
              let grown = stay.grows r (Plain l') (two_here revs r o (Plain l') e) in
              let s = said_of r grown.0 grown.1 in
              rest (Live after) reached' (way_step revs has r l l' o e here (place M x) alone (s.0, s.1)) more

      all_on_way : AllOnWay (Live last)
      all_on_way = way_to ending.by (start M main) (record { by = []; runs = refl }) start_on_way ending.runs

      justified : AllEnded M (Live last) → IsYes M T main stated
      justified done r = at (last r) refl
        where
          over : (r : Path) (e : Entry M.Local) → last r ≡ Some e → M.next r (local_of e) ≡ Ended
          over = all_over last ending done

          at : (e : Option (Entry M.Local)) → last r ≡ e → Justified M T main stated r
          at (Some e) here =
              let on = all_on_way r e here in
              let s = said_of r e here in
              let l : M.Local = local_of e in
              record {
                computed = made (T.part r l);
                is = of_run on.first on.begins
                    (computes_since M T stated r on.first l (made (T.part r l)) on.passes (ends l (over r e here)));
                same = subst (λ v. IsSame M T main stated v (made (T.part r l))) (sym s.1) s.2;
              }
          at None here = record {
            computed = absent;
            is = of_none (λ a b. let s = begun_stands last ending all_on_way over r a b in none_some (sym here ∙ s.1))
                refl;
            same = none_said (stated r) refl;
          }
            where
              none_said : (o : Option T.Part) → stated r ≡ o → IsSame M T main stated (stated r) absent
              none_said None so = subst (λ v. IsSame M T main stated v absent) (sym so) tt
              none_said (Some p) so = let k = stands_of r p so in none_some (sym here ∙ k.1)

    trace_is_yes : (rs : List Path) (g : Global M.Local) → Complete M (start M main) rs g → IsTraceOf M T main stated g
        → IsYes M T main stated
    trace_is_yes rs Twice complete shows = absurd shows
    trace_is_yes rs (Live last) complete shows =
        let ending : Reached M main (Live last) = record { by = rs; runs = complete.runs } in
        justified last ending shows (A.unblocked (Live last) ending complete.final)

    -- ---- one verdict

    no_justified : (r : Path) (p : Option T.Part) (c : Computed T.Part) → IsNo M T main stated r p c
        → Justified M T main stated r → ⊥
    no_justified r p c first_no j =
        first_no.differs (subst (λ v. IsSame M T main stated v c) first_no.states
        (subst (IsSame M T main stated (stated r)) (one_computed r j.computed c j.is first_no.is) j.same))

    not_both : IsYes M T main stated → (r : Path) (p : Option T.Part) (c : Computed T.Part) → IsNo M T main stated r p c
        → ⊥
    not_both justifies r p c first_no = no_justified r p c first_no (justifies r)

    one_no : (r s : Path) (p q : Option T.Part) (c d : Computed T.Part) → IsNo M T main stated r p c
        → IsNo M T main stated s q d → (r ≡ s) × (p ≡ q) × (c ≡ d)
    one_no r s p q c d one two = go (decide_same r s)
      where
        go : (r ≡ s) ⊎ (r ≢ s) → (r ≡ s) × (p ≡ q) × (c ≡ d)
        go (inl e) = (
          e,
          sym one.states ∙ ap stated e ∙ two.states,
          one_computed s c d (subst (λ v. IsComputed M T main stated v c) e one.is) two.is,
        )
        go (inr apart) = absurd (by (before_total r s apart))
          where
            by : (before r s ≡ true) ⊎ (before s r ≡ true) → ⊥
            by (inl sooner) = no_justified r p c one (two.first r sooner)
            by (inr later') = no_justified s q d two (one.first s later')

  pub yes_law : YesIsTrue M T main
  yes_law = yes_is_true

  pub trace_law : TraceIsYes M T main
  trace_law = trace_is_yes

  pub computed_law : OneComputed M T main
  computed_law = one_computed

  pub verdict_law : (stated : PathMap T.Part) → OneVerdict M T main stated
  verdict_law stated = record { not_both = not_both stated; one_no = one_no stated }
