-- The end of a revision, and the seat goes on with what comes first, at one moment of its turn.
use Rattle.std.proofs.Common.{◌≡◌, ◌≢◌, ◌⊎◌, inl, inr, ℕ, ◌/◌, ◌<◌, Bool, true, false, cond, List, [], ◌∷◌, ◌++◌, length, refl, sym, ap, ◌∙◌, subst, arith, Option, Some, None}
use Rattle.revision_machine.specs.Numbered.{at_number, put_number}
use Rattle.revision_machine.proofs.Paths.{some_inj}
use Rattle.revision_machine.proofs.Numbers.{none_some}
use Rattle.hub_core.specs.declared.status.Status.{Status}
use Rattle.hub_core.specs.declared.status.Status.TheVariants.{Ready, Out, Waiting, Over, Gone}
use Rattle.hub_core.specs.declared.state.HubState.TheVariants.{All}
use Rattle.hub_core.specs.declared.deed.Deed.{Deed}
use Rattle.hub_core.specs.declared.desk.Desk.{Desk}
use Rattle.hub_core.specs.declared.records.Records.{Records}
use Rattle.hub_core.specs.declared.run_queue.RunQueue.{RunQueue}
use Rattle.hub_core.specs.declared.sight.Sight.{Sight}
use Rattle.hub_core.specs.declared.view.Said.TheVariants as mark
use Rattle.hub_core.specs.declared.view.View.{View}
use Rattle.hub_core.specs.HubMachine.{HubMachine}
use Rattle.hub_core.specs.Chains.{EndsOne, IsWithin, chain_at}
use Rattle.hub_core.specs.Counts.{times}
use Rattle.hub_core.specs.Marks.{first_in}
use Rattle.hub_core.specs.Passes.{named}
use Rattle.hub_core.specs.Recorded.{put_record}
use Rattle.hub_core.specs.Rounds.{stamped}
use Rattle.hub_core.specs.Rule.{says}
use Rattle.hub_core.specs.Seats.{HasPass}
use Rattle.hub_core.specs.Tally.{pairs, record_at, records_of, queue_of, found_in, entered, do_all, IsLone, Shadows, HasDesk, Entered, gives_back}
use Rattle.hub_core.specs.Views.{commits, draws, rests}
use Rattle.hub_core.proofs.Moves.{here_out}
use Rattle.hub_core.proofs.Lines.{below_within}
use Rattle.hub_core.proofs.Passes.{pass_named}
use Rattle.hub_core.proofs.Moments.{Moment}
use Rattle.hub_core.proofs.Shadowing.{record_within, put_record_within}
use Rattle.hub_core.proofs.Standing.{Stands, stands_end, stands_join}
use Rattle.hub_core.proofs.Staying.{put_record_other}
use Rattle.turn_hub.specs.declared.answers.EndStep.{EndStep}
use Rattle.turn_hub.specs.declared.answers.EndStep.TheVariants as ending
use Rattle.turn_hub.specs.Answers.{EndedSays, EndedOn, EndStepSays}
use Rattle.turn_hub.proofs.Says.{says_put}
use Rattle.turn_hub.specs.declared.coming.Coming.{Coming}
use Rattle.turn_hub.specs.declared.coming.Coming.TheVariants as coming
use Rattle.turn_hub.specs.Turns.{IsIn}
use Rattle.turn_hub.specs.Plans.{CanEnter, IsEntered, HasPlan, end_deeds}
use Rattle.turn_hub.specs.Comings.{IsFirstKept, FirstJoins, HasGoneOn, IsComing, IsNoStop, first_after, coming_deeds, coming_slots}
use Rattle.turn_hub.proofs.Finding.{found_at, ended_says}
use Rattle.turn_hub.proofs.Ends.{IsEndAt, end_by, ends_all}
use Rattle.turn_hub.proofs.Heads.{do_append, first_ran, first_none}
use Rattle.turn_hub.proofs.Onwards.{MayGo, Comes, can_go, go_told, go_count, go_rests, go_hand, first_within, first_kept, taken_stands, none_stands}
use Rattle.turn_hub.proofs.Nexts.{comes_next, next_kept, ended_first}
use Rattle.turn_hub.proofs.Comes.{came_says}
use Rattle.turn_hub.proofs.Afters.{stands_now, moment, out_now, not_lone, within_now}

module _ {L R A E : Type 0} (d : HubMachine L R A E) (ends : E → L → Type 0) where
  abbrev Slots : Type 0
  Slots = List (Status R A E)

  abbrev joiner_or : A → Status R A E → A
  joiner_or b (Ready r) = b
  joiner_or b Out = b
  joiner_or b (Waiting a) = a
  joiner_or b (Over e) = b
  joiner_or b Gone = b

  -- of what seats have and no seat keeps there is a record
  record_here : (rs : List (Option (Status R A E))) (slots : Slots) (lone : List ℕ) (k : ℕ) → Shadows rs slots lone
      → at_number slots k ≡ Some Out → times k lone ≡ 0 → record_at rs k ≡ Some Out
  record_here rs slots lone k sh out none = by (record_at rs k) refl
    where
      clash : ◌≡◌ {A = Option (Status R A E)} (Some Out) (Some Gone) → ⊥
      clash q = cc

      other : IsLone slots lone k ⊎ ((at_number slots k ≡ None) × (times k lone ≡ 0)) → record_at rs k ≡ Some Out
      other (inl (inl h)) = let a = h.1 in let z = none in absurd (omega arith)
      other (inl (inr h)) = absurd (clash (sym out ∙ h.0))
      other (inr h) = none_some (sym h.0 ∙ out)

      by : (o : Option (Status R A E)) → record_at rs k ≡ o → record_at rs k ≡ Some Out
      by None h = other (sh.others k h)
      by (Some z) h = h ∙ (sym (sh.recorded k z h).0 ∙ out)

  module _ (v : Sight L) (desk : Desk R A E) (hand : HasDesk d ends v desk) (free : desk.state ≡ All)
      (mine : v.mine ≡ []) (b : Bool) (k : ℕ) (e : E) (p : HasPass d ends v.seat k (IsEndAt d ends b k e)) where
    abbrev pos : 0 < named k v.seat.passes
    pos = pass_named v.seat.passes k p.1 p.3

    abbrev x : Status R A E
    x = Over e

    -- ---- before the plan

    stood : Stands d ends v.seat.group (records_of desk) (queue_of desk) hand.slots v.lone desk.strays
    stood = record { shadows = hand.shadows; queued = hand.queued; tracked = hand.tracked; grouped = hand.grouped }

    stood_out : at_number hand.slots k ≡ Some Out
    stood_out = let a = hand.current.1 k in let b = pos in here_out hand.slots v.seat.out k hand.outs (omega arith)

    stood_record : record_at (records_of desk) k ≡ Some Out
    stood_record =
        record_here (records_of desk) hand.slots v.lone k hand.shadows stood_out
        (let a = hand.alone k pos in let b : times k v.mine ≡ 0 = ap (times k) mine in omega arith)

    pub next_read : (k < length (queue_of desk).waiters.items)
        × IsFirstKept (records_of desk) (first_after (queue_of desk) k)
    next_read = (
      (below_within d (length (records_of desk)) hand.slots (queue_of desk) k hand.queued
          (record_within (records_of desk) k Out stood_record)).1,
      next_kept d ends v.seat.group desk.records hand.slots v.lone desk.strays stood k stood_out e,
    )

    -- ---- the plan

    abbrev pub end_go : MayGo d ends v desk hand (end_deeds b k) k x p.0
    end_go = λ log out lone slots fs now.
        let not_mine : times k v.mine ≡ 0 = ap (times k) mine in
        end_by d ends b p.0 (found_in log out (says d ends slots) v.seat) slots fs lone v.mine
        (moment d ends v desk hand p.0 log out lone slots fs now) k e p.1 p.3 p.4
        (not_lone d ends v desk hand p.0 log out lone slots fs now k pos not_mine) not_mine

    module _ (c : Coming) (is_coming : IsComing d desk.records k c) (no_stop : IsNoStop c) where
      abbrev pub end_comes : Comes d ends v desk hand k x p.0 c
      end_comes = λ log out lone slots fs now.
          comes_next d ends v.seat.group desk.records slots lone desk.strays
          (stands_now d ends v desk hand p.0 log out lone slots fs now) k
          (out_now d ends v desk hand p.0 log out lone slots fs now k pos) e c is_coming no_stop

      abbrev pub on_deeds : List Deed
      on_deeds = end_deeds b k ++ coming_deeds c

      pub can_end_on : HasPlan desk on_deeds None None → CanEnter d ends v desk None (λ n. Unit {0})
      can_end_on plan = can_go d ends v desk hand free (end_deeds b k) k pos x p.0 p.2 end_go c end_comes plan

      module _ (w : Sight L) (count : ℕ) (plan : HasPlan desk on_deeds None None)
          (told : IsEntered d ends v w desk None count) where
        abbrev pub on_told : Entered d ends v w p.0 hand.slots on_deeds None v.mine (λ l. l) count
        on_told = go_told d ends v desk hand free (end_deeds b k) k pos x p.0 p.2 end_go c end_comes w count plan told

        pub on_count : (count < 8589934592) × (count / 2 ≡ length on_told.slots)
        on_count = go_count d ends v desk hand free (end_deeds b k) k pos x p.0 p.2 end_go c end_comes w count plan told

        pub on_rests : (y : Sight L) → y ≡ gives_back w
            → (y.seat.parts ≡ v.seat.parts) × (y.seat.turns ≡ y.seat.log ∷ v.seat.turns) × (y.rounds ≡ v.rounds)
            × (y.limit ≡ v.limit) × (y.mine ≡ v.mine)
        on_rests = go_rests d ends v desk hand free (end_deeds b k) k pos x p.0 p.2 end_go c end_comes w count plan told

        st0 : Stands d ends v.seat.group (records_of desk) (queue_of desk) on_told.slots on_told.lone desk.strays
        st0 = let t = on_told in stands_now d ends v desk hand p.0 t.log t.out t.lone t.slots t.forkers t.now

        out_k : at_number on_told.slots k ≡ Some Out
        out_k = let t = on_told in out_now d ends v desk hand p.0 t.log t.out t.lone t.slots t.forkers t.now k pos

        pub on_record : record_at (records_of desk) k ≡ Some Out
        on_record = stood_record

        pub on_within : (k < length (queue_of desk).links.items)
            × ((k < length (queue_of desk).waiters.items)
            × IsWithin (chain_at (queue_of desk).waiters.items k) (length (queue_of desk).links.items))
            × (0 < (queue_of desk).unfinished)
        on_within =
            let t = on_told in
            within_now d ends v desk hand p.0 t.log t.out t.lone t.slots t.forkers t.now k pos (ap (times k) mine)

        -- ---- the records behind the end

        module _ (one : Records R A E) (list : one.list.items ≡ put_record (records_of desk) k x)
            (ended : EndsOne (queue_of desk) one.queue k) where
          abbrev slots1 : Slots
          slots1 = put_number on_told.slots k x

          st1 : Stands d ends v.seat.group one.list.items one.queue slots1 on_told.lone desk.strays
          st1 =
              subst
              (λ (l : List (Option (Status R A E))). Stands d ends v.seat.group l one.queue slots1 on_told.lone
              desk.strays)
              (sym list)
              (stands_end d ends v.seat.group (records_of desk) (queue_of desk) on_told.slots on_told.lone desk.strays
              st0
              k e one.queue on_record ended)

          same_first : first_in one.queue.ready ≡ first_after (queue_of desk) k
          same_first =
              ended_first d ends v.seat.group desk.records on_told.slots on_told.lone desk.strays st0 k out_k e
              one.queue
              ended

          one_k : record_at one.list.items k ≡ Some x
          one_k =
              ap (λ l. record_at l k) list
              ∙ put_record_within (records_of desk) k x (record_within (records_of desk) k Out on_record)

          one_other : (j : ℕ) → j ≢ k → record_at one.list.items j ≡ record_at (records_of desk) j
          one_other j ne = ap (λ l. record_at l j) list ∙ put_record_other (records_of desk) k j x ne

          -- what comes first has the record that it had
          module _ (n : ℕ) (first : first_in one.queue.ready ≡ Some n) where
            number_is : (i : ℕ) → first_after (queue_of desk) k ≡ Some i → i ≡ n
            number_is i h = some_inj (sym h ∙ (sym same_first ∙ first))

            was_run : (r : R) → record_at one.list.items n ≡ Some (Ready r)
                → record_at (records_of desk) n ≡ Some (Ready r)
            was_run r here = sym (one_other n (λ is. clash (sym (ap (record_at one.list.items) is ∙ one_k) ∙ here))) ∙
                here
              where
                clash : ◌≡◌ {A = Option (Status R A E)} (Some x) (Some (Ready r)) → ⊥
                clash q = cc

            was_joiner : (a : A) → record_at one.list.items n ≡ Some (Waiting a)
                → (record_at (records_of desk) n ≡ Some (Waiting a)) × (n ≢ k)
            was_joiner a here =
                let ne : n ≢ k = λ is. clash (sym (ap (record_at one.list.items) is ∙ one_k) ∙ here) in
                (sym (one_other n ne) ∙ here, ne)
              where
                clash : ◌≡◌ {A = Option (Status R A E)} (Some x) (Some (Waiting a)) → ⊥
                clash q = cc

            run_coming : (r : R) → record_at one.list.items n ≡ Some (Ready r) → c ≡ coming.Takes n
            run_coming r here = by c is_coming no_stop
              where
                clash : (a : A) → ◌≡◌ {A = Option (Status R A E)} (Some (Waiting a)) (Some (Ready r)) → ⊥
                clash a q = cc

                by : (c : Coming) → IsComing d desk.records k c → IsNoStop c → c ≡ coming.Takes n
                by coming.Nobody h not_stop = none_some (sym h ∙ (sym same_first ∙ first))
                by (coming.Takes i) h not_stop = ap coming.Takes (number_is i h.0)
                by (coming.Claims i j) h not_stop =
                    absurd (clash h.1.0
                    (sym h.1.1 ∙ (ap (record_at (records_of desk)) (number_is i h.0) ∙ was_run r here)))
                by (coming.Stops i) h not_stop = absurd not_stop

            -- a joiner takes in an end that has a record then
            joins_coming : (a : A) → record_at one.list.items n ≡ Some (Waiting a)
                → (c ≡ coming.Claims n (d.on a)) × ((i : E) × (record_at one.list.items (d.on a) ≡ Some (Over i)))
            joins_coming a here = by c is_coming no_stop
              where
                was : record_at (records_of desk) n ≡ Some (Waiting a)
                was = (was_joiner a here).0

                clash : (r : R) → ◌≡◌ {A = Option (Status R A E)} (Some (Ready r)) (Some (Waiting a)) → ⊥
                clash r q = cc

                over_apart : (i : E) → ◌≡◌ {A = Option (Status R A E)} (Some (Over i)) (Some Out) → ⊥
                over_apart i q = cc

                over_one : (j : ℕ) → (j ≡ k) ⊎ ((i : E) × (record_at (records_of desk) j ≡ Some (Over i)))
                    → (i : E) × (record_at one.list.items j ≡ Some (Over i))
                over_one j (inl is) = (e, ap (record_at one.list.items) is ∙ one_k)
                over_one j (inr h) =
                    let ne : j ≢ k =
                    λ is. over_apart h.0 (sym h.1 ∙ (ap (record_at (records_of desk)) is ∙ on_record)) in
                    (h.0, one_other j ne ∙ h.1)

                by : (c : Coming) → IsComing d desk.records k c → IsNoStop c
                    → (c ≡ coming.Claims n (d.on a))
                    × ((i : E) × (record_at one.list.items (d.on a) ≡ Some (Over i)))
                by coming.Nobody h not_stop = none_some (sym h ∙ (sym same_first ∙ first))
                by (coming.Takes i) h not_stop =
                    absurd (clash h.1.0 (sym h.1.1 ∙ (ap (record_at (records_of desk)) (number_is i h.0) ∙ was)))
                by (coming.Claims i j) h not_stop =
                    let number = number_is i h.0 in
                    let got : ◌≡◌ {A = Status R A E} (Waiting h.1.0) (Waiting a) =
                    some_inj (sym h.1.1 ∙ (ap (record_at (records_of desk)) number ∙ was)) in
                    let on : j ≡ d.on a = h.1.2 ∙ ap (λ s. d.on (joiner_or a s)) got in (
                      ap (λ (z : ℕ × ℕ). coming.Claims z.0 z.1) (λ q. (number q, on q)),
                      subst (λ m. (i : E) × (record_at one.list.items m ≡ Some (Over i))) on (over_one j h.1.3),
                    )
                by (coming.Stops i) h not_stop = absurd not_stop

          none_coming : first_in one.queue.ready ≡ None → c ≡ coming.Nobody
          none_coming first = by c is_coming
            where
              none : {P : Type 0} (i : ℕ) → first_after (queue_of desk) k ≡ Some i → P
              none i h = none_some (sym first ∙ (same_first ∙ h))

              by : (c : Coming) → IsComing d desk.records k c → c ≡ coming.Nobody
              by coming.Nobody h = refl
              by (coming.Takes i) h = none i h.0
              by (coming.Claims i j) h = none i h.0
              by (coming.Stops i) h = none i h.0

          pub on_first : IsWithin one.queue.ready (length one.queue.links.items)
              × IsFirstKept one.list.items (first_in one.queue.ready)
              × FirstJoins d one.list.items (first_in one.queue.ready)
          on_first = (
            first_within d ends v.seat.group one slots1 on_told.lone desk.strays st1,
            kept (first_in one.queue.ready) refl,
            joins (first_in one.queue.ready) refl,
          )
            where
              kept : (o : Option ℕ) → first_in one.queue.ready ≡ o → IsFirstKept one.list.items o
              kept None h = tt
              kept (Some n) h = first_kept d ends v.seat.group one slots1 on_told.lone desk.strays st1 n h

              clash : (a : A) (i : E) → ◌≡◌ {A = Option (Status R A E)} (Some (Over i)) (Some (Waiting a)) → ⊥
              clash a i q = cc

              joins : (o : Option ℕ) → first_in one.queue.ready ≡ o → FirstJoins d one.list.items o
              joins None h = tt
              joins (Some n) h = λ a here.
                  let got = (joins_coming n h a here).1 in
                  let ne : d.on a ≢ n =
                  λ is. clash a got.0 (sym got.1 ∙ (ap (record_at one.list.items) is ∙ here)) in
                  (got.0, put_record_other one.list.items n (d.on a) Out ne ∙ got.1)

          -- ---- the value is in hand again

          module _ {C S : Type 0} (claimed : C → A → E → Type 0) (stopped : S → A → E → Type 0) (group : C → List ℕ)
              (halted : S → List ℕ) (two : Records R A E) where
            abbrev Went : EndStep R A C S → Type 0
            Went step = HasGoneOn d ends claimed stopped group halted one two step

            abbrev StandsAt : Records R A E → Coming → Type 0
            StandsAt rs c =
                Stands d ends v.seat.group rs.list.items rs.queue (coming_slots c slots1) on_told.lone desk.strays

            st2 : (step : EndStep R A C S) → Went step → StandsAt two c
            st2 (ending.Run n r) h =
                subst (StandsAt two)
                (sym (run_coming n h.first r h.was))
                (taken_stands d ends v.seat.group one slots1 on_told.lone desk.strays st1 two n (Ready r) h)
            st2 (ending.Came n answer) h =
                let mid = h.0 in
                let a = h.1 in
                let taken = h.3 in
                let st = taken_stands d ends v.seat.group one slots1 on_told.lone desk.strays st1 mid n
                (Waiting a) taken in
                subst (StandsAt two)
                (sym (joins_coming n taken.first a taken.was).0)
                (subst
                (λ (z : List (Option (Status R A E)) × RunQueue). Stands d ends v.seat.group z.0 z.1
                (put_number (put_number slots1 n Out) (d.on a) Gone) on_told.lone desk.strays)
                (λ i. (sym h.5 i, sym h.6 i))
                (stands_join d ends v.seat.group mid.list.items mid.queue
                (put_number slots1 n Out) on_told.lone desk.strays
                st (d.on a) h.2 h.4))
            st2 ending.Nothing h =
                subst (StandsAt two) (sym (none_coming h.0))
                (subst (λ z. StandsAt z coming.Nobody) (sym h.1) st1)

            pub on_hand : (step : EndStep R A C S) → Went step → (desk' : Desk R A E) → desk'.records ≡ two
                → pairs desk'.journal.entries.items ≡ pairs desk.journal.entries.items ++ stamped (length on_told.slots)
                (entered on_deeds)
                → desk'.state ≡ desk.state → desk'.journal.limit ≡ desk.journal.limit → desk'.lent ≡ desk.lent
                → desk'.strays ≡ desk.strays → HasDesk d ends w desk'
            on_hand step h desk' records entries state limit lent strays =
                go_hand d ends v desk hand free (end_deeds b k) k pos x p.0 p.2 end_go c end_comes w count plan told
                desk'
                (subst (λ z. StandsAt z c) (sym records) (st2 step h)) entries state limit lent strays

            -- ---- what is told of it

            module _ (v0 y : Sight L) (h : IsIn d ends v0 v desk) (is : y ≡ gives_back w) where
              abbrev u : View L
              u = found_in on_told.log on_told.out (says d ends on_told.slots) v.seat

              abbrev u1 : View L
              u1 = do_all (end_deeds b k) u

              m1 : Moment d ends p.0 u1 slots1 on_told.forkers on_told.lone v.mine
              m1 = let t = on_told in (end_go t.log t.out t.lone t.slots t.forkers t.now).1

              said_one : u1.said ≡ says d ends on_told.slots
              said_one = by b
                where
                  by : (b : Bool) → (do_all (end_deeds b k) u).said ≡ says d ends on_told.slots
                  by true = refl
                  by false = refl

              free_one : u1.entered ≡ All
              free_one = by b
                where
                  by : (b : Bool) → (do_all (end_deeds b k) u).entered ≡ All
                  by true = refl
                  by false = refl

              begun_one : u1.start ≡ Some p.0
              begun_one = by b
                where
                  by : (b : Bool) → (do_all (end_deeds b k) u).start ≡ Some p.0
                  by true = p.2
                  by false = p.2

              group_one : u1.group ≡ v.seat.group
              group_one = by b
                where
                  by : (b : Bool) → (do_all (end_deeds b k) u).group ≡ v.seat.group
                  by true = refl
                  by false = refl

              ended_one : EndedSays d ends v0.seat (rests u1) k b
              ended_one =
                  subst (λ (z : View L). EndedSays d ends v0.seat (rests z) k b) (sym (ends_all d ends b k u))
                  (ended_says d ends (found_at d ends v0 v desk on_told.log on_told.out on_told.slots h free) k b)

              seat_is : (c' : Coming) → c ≡ c' → y.seat ≡ rests (do_all (coming_deeds c') u1)
              seat_is c' same =
                  ap (λ z. z.seat) is
                  ∙ (ap (λ z. rests z.seat) on_told.is
                  ∙ (ap rests (do_append (end_deeds b k) (coming_deeds c) u)
                  ∙ ap (λ z. rests (do_all (coming_deeds z) u1)) same))

              -- of a view in whose turn the same was found
              on_by : (z : View L) (step : EndStep R A C S) → z.said ≡ u1.said → z.entered ≡ u1.entered
                  → z.found ≡ u1.found
                  → EndStepSays d ends claimed stopped group halted (says d ends slots1) (rests u1) z step
                  → EndedOn d ends claimed stopped group halted v0.seat z k e b step
              on_by z step said entered found says1 = record {
                between = rests u1;
                ended = ended_one;
                turn = record { said = said; entered = entered; found = found };
                onward = subst (λ s. EndStepSays d ends claimed stopped group halted s (rests u1) z step)
                    (says_put d ends on_told.slots k x
                    ∙ ap (λ s. put_number s k (cond (d.trapped e) mark.Trapped mark.Done)) (sym (said ∙ said_one)))
                    says1;
              }

              pub on_says : (step : EndStep R A C S) → Went step
                  → EndedOn d ends claimed stopped group halted v0.seat y.seat k e b step
              on_says (ending.Run n r) t =
                  let at = (st1.shadows.recorded n (Ready r) t.was).0 in
                  subst (λ (z : View L). EndedOn d ends claimed stopped group halted v0.seat z k e b (ending.Run n r))
                  (sym (seat_is (coming.Takes n) (run_coming n t.first r t.was)))
                  (on_by (rests (draws n u1)) (ending.Run n r) refl refl refl (
                    record { said = refl; entered = refl; found = refl; log = refl; saw = refl; halt = refl },
                    first_ran d ends p.0 u1 slots1 on_told.forkers on_told.lone v.mine m1 free_one begun_one n r at
                        (st1.grouped n (Ready r) t.was ∙ sym group_one),
                  ))
              on_says (ending.Came n answer) t =
                  let a = t.1 in
                  let taken = t.3 in
                  let at = (st1.shadows.recorded n (Waiting a) taken.was).0 in
                  let st =
                  taken_stands d ends v.seat.group one slots1 on_told.lone desk.strays st1 t.0 n (Waiting a) taken in
                  let over = (st.shadows.recorded (d.on a) (Over t.2) t.4).0 in
                  subst (λ (z : View L). EndedOn d ends claimed stopped group halted v0.seat z k e b
                  (ending.Came n answer))
                  (sym (seat_is (coming.Claims n (d.on a)) (joins_coming n taken.first a taken.was).0))
                  (on_by (rests (commits n (draws n u1))) (ending.Came n answer) refl refl refl
                  (came_says d ends p.0 u1 slots1 on_told.forkers on_told.lone v.mine m1 free_one begun_one claimed
                  stopped
                  group halted n a at t.2 over (st1.grouped n (Waiting a) taken.was ∙ sym group_one) answer t.7))
              on_says ending.Nothing t =
                  subst (λ (z : View L). EndedOn d ends claimed stopped group halted v0.seat z k e b ending.Nothing)
                  (sym (seat_is coming.Nobody (none_coming t.0)))
                  (on_by (rests u1) ending.Nothing refl refl refl (
                    record { said = refl; entered = refl; found = refl; log = refl; saw = refl; halt = refl },
                    first_none d ends p.0 u1 slots1 on_told.forkers on_told.lone v.mine m1 free_one begun_one
                        (none_stands d ends v.seat.group one slots1 on_told.lone desk.strays st1 t.0),
                  ))
