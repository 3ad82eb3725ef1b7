-- What the seat with the turn knows of a revision that it has, at the moment of its plan, and of its value behind it.
use Rattle.std.proofs.Common.{◌≡◌, ◌⊎◌, inl, inr, ℕ, ◌<◌, ◌/◌, true, List, ◌∷◌, ◌++◌, length, refl, sym, ap, ◌∙◌, subst, arith, Option, Some, None}
use Rattle.revision_machine.specs.Numbered.{at_number}
use Rattle.revision_machine.proofs.Numbers.{none_some}
use Rattle.hub_core.specs.declared.status.Status.{Status}
use Rattle.hub_core.specs.declared.status.Status.TheVariants.{Out, Gone}
use Rattle.hub_core.specs.declared.state.HubState.{HubState}
use Rattle.hub_core.specs.declared.state.HubState.TheVariants.{All}
use Rattle.hub_core.specs.HubMachine.{HubMachine, numbered, values}
use Rattle.hub_core.specs.declared.desk.Desk.{Desk}
use Rattle.hub_core.specs.declared.deed.Deed.{Deed}
use Rattle.hub_core.specs.declared.sight.Sight.{Sight}
use Rattle.hub_core.specs.Hub.{Tied}
use Rattle.hub_core.specs.Counts.{times}
use Rattle.hub_core.specs.Found.{all_over}
use Rattle.hub_core.specs.Passes.{named}
use Rattle.hub_core.specs.Rule.{SoundFrom, says, done}
use Rattle.hub_core.specs.Chains.{IsWithin, chain_at}
use Rattle.hub_core.specs.Rounds.{stamped, add_last}
use Rattle.hub_core.specs.Tally.{pairs, records_of, queue_of, record_at, IsLone, found_in, entered, do_all, CanDo, enters, gives_back, HasDesk, Now, Entered}
use Rattle.hub_core.proofs.Slots.{all_ended}
use Rattle.hub_core.proofs.Rests.{some_start}
use Rattle.hub_core.proofs.Moments.{Moment, moment_now, out_at}
use Rattle.hub_core.proofs.Deeds.{all_done}
use Rattle.hub_core.proofs.Lines.{below_within, waits_within, queue_some}
use Rattle.hub_core.proofs.Shadowing.{record_within, shadows_listed}
use Rattle.hub_core.proofs.Holding.{carried}
use Rattle.hub_core.proofs.Standing.{Stands}
use Rattle.hub_core.proofs.Staying.{IsAfter}

module _ {L R A E : Type 0} (d : HubMachine L R A E) (ends : E → L → Type 0) where
  abbrev Slots : Type 0
  Slots = List (Status R A E)

  -- an entry cannot be the last where this revision has not ended
  pub not_over : {P : Type 0} (slots : Slots) (k : ℕ) → at_number slots k ≡ Some Out → all_over slots ≡ true → P
  not_over slots k e o = absurd (all_ended slots k Out o e)

  module _ (v : Sight L) (desk : Desk R A E) (hand : HasDesk d ends v desk) where
    pub start_in : (start : L) × (v.seat.start ≡ Some start)
    start_in = some_start d ends v.seat.start desk.state v.seat.log hand.slots v.forkers hand.sound

    pub tied_in : (start : L) → v.seat.start ≡ Some start → desk.state ≡ All
        → Tied (numbered d) (values d ends) start v.seat.log hand.slots v.forkers
    tied_in start begun free =
        subst (λ (z : Option L × HubState). SoundFrom d ends z.0 z.1 v.seat.log hand.slots v.forkers)
        (λ i. (begun i, free i)) hand.sound

    pub saw_over : desk.state ≡ All → v.seat.saw ≡ 1 → all_over hand.slots ≡ true
    saw_over free o = ap (λ h. done h hand.slots) (sym free) ∙ hand.saw o

    module _ (start : L) (log out lone : List ℕ) (slots : Slots) (fs : List ℕ)
        (now : Now d ends v start hand.slots log out lone slots fs) where
      pub stands_now : Stands d ends v.seat.group (records_of desk) (queue_of desk) slots lone desk.strays
      stands_now =
          let h = carried d ends v desk hand start log out lone slots fs now in
          record { shadows = h.0; queued = h.1; tracked = h.2; grouped = hand.grouped }

      pub moment : Moment d ends start (found_in log out (says d ends slots) v.seat) slots fs lone v.mine
      moment = moment_now d ends v start hand.slots log out lone slots fs now

      pub out_now : (k : ℕ) → 0 < named k v.seat.passes → at_number slots k ≡ Some Out
      out_now k pos =
          out_at d ends start (found_in log out (says d ends slots) v.seat) slots fs lone v.mine moment k pos

      -- of what the seat has and does not keep there is a record
      module _ (k : ℕ) (pos : 0 < named k v.seat.passes) (none : times k v.mine ≡ 0) where
        pub not_lone : times k lone ≡ 0
        not_lone = let a = now.alone k pos in omega arith

        pub record_now : record_at (records_of desk) k ≡ Some Out
        record_now = by (record_at (records_of desk) k) refl
          where
            lone_not : IsLone slots lone k → record_at (records_of desk) k ≡ Some Out
            lone_not (inl h) = let a = h.1 in let b = not_lone in absurd (omega arith)
            lone_not (inr h) = let e : Some Out ≡ Some Gone = sym (out_now k pos) ∙ h.0 in absurd cc

            other_not : IsLone slots lone k ⊎ ((at_number slots k ≡ None) × (times k lone ≡ 0))
                → record_at (records_of desk) k ≡ Some Out
            other_not (inl h) = lone_not h
            other_not (inr h) = none_some (sym h.0 ∙ out_now k pos)

            by : (o : Option (Status R A E)) → record_at (records_of desk) k ≡ o
                → record_at (records_of desk) k ≡ Some Out
            by None e = other_not (stands_now.shadows.others k e)
            by (Some x) e = e ∙ (sym (stands_now.shadows.recorded k x e).0 ∙ out_now k pos)

      -- and it has a place in the run queue
      module _ (k : ℕ) (pos : 0 < named k v.seat.passes) (none : times k v.mine ≡ 0) where
        pub within_now : (k < length (queue_of desk).links.items)
            × ((k < length (queue_of desk).waiters.items)
            × IsWithin (chain_at (queue_of desk).waiters.items k) (length (queue_of desk).links.items))
            × (0 < (queue_of desk).unfinished)
        within_now =
            let st = stands_now in
            let many = length (records_of desk) in
            let below = record_within (records_of desk) k Out (record_now k pos none) in
            let places = below_within d many slots (queue_of desk) k st.queued below in (
              places.0,
              (
                places.1,
                waits_within d many slots (queue_of desk) k (shadows_listed d (records_of desk) slots lone st.shadows)
                    st.queued,
              ),
              queue_some d many slots (queue_of desk) k st.queued (out_now k pos),
            )

  -- the tally that is found tells a number below the limit
  pub counted_below : (v w : Sight L) (desk : Desk R A E) (hand : HasDesk d ends v desk) (start : L) (ds : List Deed)
      (birth : Option ℕ) (mine : List ℕ) (lone_to : List ℕ → List ℕ) (count : ℕ)
      (t : Entered d ends v w start hand.slots ds birth mine lone_to count)
      → (count < 8589934592) × (count / 2 ≡ length t.slots)
  counted_below v w desk hand start ds birth mine lone_to count t =
      let a = t.counted in
      let b = t.now.roomy in
      let c = hand.limit_is in
      let e = desk.journal.few in
      (omega arith, omega arith)

  -- what the seat has once it gave the turn back behind its plan
  pub rests_entered : (v w x : Sight L) (start : L) (before : Slots) (ds : List Deed) (birth : Option ℕ) (mine : List ℕ)
      (lone_to : List ℕ → List ℕ) (count : ℕ) (t : Entered d ends v w start before ds birth mine lone_to count)
      → CanDo ds (found_in t.log t.out (says d ends t.slots) v.seat) → x ≡ gives_back w
      → (x.seat.parts ≡ v.seat.parts) × (x.seat.turns ≡ x.seat.log ∷ v.seat.turns) × (x.rounds ≡ v.rounds)
      × (x.limit ≡ v.limit) × (x.mine ≡ mine)
  rests_entered v w x start before ds birth mine lone_to count t can is =
      let u = found_in t.log t.out (says d ends t.slots) v.seat in
      let done = all_done ds u (t.now.fresh, t.now.has) t.now.single can in
      let e : x ≡ gives_back (enters t.log (add_last birth t.forkers) t.out (says d ends t.slots) ds (length
      t.slots) mine
      (lone_to t.lone) v) = is ∙ ap gives_back t.is in
      subst (λ (y : Sight L).
      (y.seat.parts ≡ v.seat.parts) × (y.seat.turns ≡ y.seat.log ∷ v.seat.turns) × (y.rounds ≡ v.rounds)
      × (y.limit ≡ v.limit) × (y.mine ≡ mine))
      (sym e) (done.same.1, ap (λ l. (do_all ds u).log ∷ l) done.same.6, refl, refl, refl)

  -- the value behind a plan
  pub after_of : (h : HubState) (v : Sight L) (desk desk' : Desk R A E) (hand : HasDesk d ends v desk) (n : ℕ)
      (ds : List Deed) (slots : Slots) (lone : List ℕ) → Stands d ends v.seat.group (records_of desk') (queue_of
      desk') slots lone desk'.strays
      → pairs desk'.journal.entries.items ≡ pairs desk.journal.entries.items ++ stamped n (entered ds)
      → desk'.state ≡ h → desk'.journal.limit ≡ desk.journal.limit → desk'.lent ≡ length lone
      → (desk'.strays ≡ true → desk'.lent ≡ 0) → IsAfter d ends h v.seat.group desk desk' n ds slots lone
  after_of h v desk desk' hand n ds slots lone st entries state limit lent strayed = record {
    entries = entries;
    state = state;
    limit_is = limit;
    lent_is = lent;
    shadows = st.shadows;
    queued = st.queued;
    tracked = st.tracked;
    strayed = strayed;
    grouped = st.grouped;
  }
