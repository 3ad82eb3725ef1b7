-- Answers of TurnHub::close: the lists of all seats have the rounds of the seat that gathered all, whose turns are the
-- run's, so what the journal and the records leave is what the hub leaves.
use Rattle.std.proofs.Common.{ℕ, sym, ap, ◌∙◌, subst, List, map}
use Rattle.hub_core.specs.Passes.{named, AreStartsOf}
use Rattle.hub_core.specs.Woven.{triples}
use Rattle.hub_core.specs.Ordered.{all_rounds}
use Rattle.turn_hub.proofs.Closes.{run_from}
use Rattle.turn_hub.specs.Seats.{first_of}
use Rattle.turn_hub.specs.Closing.{held_by}
use Rattle.turn_hub.proofs.Closes.{all_below, none_behind, schedule_is, leaves}
use Rattle.turn_hub.proofs.hub.TurnHub.close.Goals as goal

pub order-schedule-requires-clause-below : goal.order-schedule-requires-clause-below
order-schedule-requires-clause-below g c =
    all_below g.L.Revision.machine g.L.Revision.ends (first_of c.args.self.turn.shared.key.views)
    c.tell-witness.new.place.me.0 c.take_out-desk.result.0 c.take_out-desk.result.1 c.take_out-desk.ensures
    (all_rounds (map (λ l. triples l.items) c.as_slice.result.now))
    (ap (λ l. all_rounds (map (λ r. triples r.items) l)) c.as_slice.ensures.value
    ∙ (c.gather_all-all.ensures.rounds ∙ sym (ap (λ m. m.0.rounds) c.tell-witness.ensures.own.1)))

pub part-ends-requires-clause-none : goal.part-ends-requires-clause-none
part-ends-requires-clause-none g c =
    none_behind g.L.Revision.machine g.L.Revision.ends (first_of c.args.self.turn.shared.key.views)
    c.tell-witness.new.place.me.0 c.take_out-desk.result.0 c.take_out-desk.result.1 c.take_out-desk.ensures
    (all_rounds (map (λ l. triples l.items) c.as_slice.result.now))
    (ap (λ l. all_rounds (map (λ r. triples r.items) l)) c.as_slice.ensures.value
    ∙ (c.gather_all-all.ensures.rounds ∙ sym (ap (λ m. m.0.rounds) c.tell-witness.ensures.own.1)))

pub returns-clause-run : goal.returns-clause-run
returns-clause-run g c =
    leaves g.L.Revision.machine g.L.Revision.ends (first_of c.args.self.turn.shared.key.views)
    c.tell-witness.new.place.me.0 c.take_out-desk.result.0 c.take_out-desk.result.1 c.take_out-desk.ensures
    (all_rounds (map (λ l. triples l.items) c.as_slice.result.now))
    (ap (λ l. all_rounds (map (λ r. triples r.items) l)) c.as_slice.ensures.value
    ∙ (c.gather_all-all.ensures.rounds ∙ sym (ap (λ m. m.0.rounds) c.tell-witness.ensures.own.1)))
    c.order-schedule.ensures.schedule c.order-schedule.ensures.forkers c.part-ends.ensures.ends
    c.part-ends.ensures.kept
    (λ n. ap (λ m. named n m.0.seat.passes) c.tell-witness.ensures.own.1 ∙ c.gather_all-all.ensures.passes n)

pub returns-clause-behind : goal.returns-clause-behind
returns-clause-behind g c =
    let log =
    c.order-schedule.ensures.schedule
    ∙ schedule_is g.L.Revision.machine g.L.Revision.ends (first_of c.args.self.turn.shared.key.views)
    c.tell-witness.new.place.me.0 c.take_out-desk.result.0 c.take_out-desk.result.1 c.take_out-desk.ensures
    (all_rounds (map (λ l. triples l.items) c.as_slice.result.now))
    (ap (λ l. all_rounds (map (λ r. triples r.items) l)) c.as_slice.ensures.value
    ∙ (c.gather_all-all.ensures.rounds ∙ sym (ap (λ m. m.0.rounds) c.tell-witness.ensures.own.1))) in
    let turns = ap (λ m. m.0.seat.turns) c.tell-witness.ensures.own.1 in
    c.gather_all-all.ensures.behind c.order-schedule.result.schedule.items
    (subst (λ (z : List ℕ × List (List ℕ)). AreStartsOf z.0 z.1) (λ i. (sym log i, turns i))
    c.take_out-desk.ensures.behind)

pub invariant_of-result : goal.invariant_of-result
invariant_of-result g c =
    let key = first_of c.args.self.turn.shared.key.views in
    let taken : ℕ → ℕ = λ n. held_by n (map (λ s. s.place) c.args.seats.items) in record {
      kept = ∣ run_from g.L.Revision.machine g.L.Revision.ends key (first_of c.tell-witness.result.views).start
          c.take_out-desk.result.0.state c.order-schedule.result.schedule.items c.order-schedule.result.forkers.items
          c.part-ends.result.0.items c.part-ends.result.1.items taken
          (leaves g.L.Revision.machine g.L.Revision.ends key c.tell-witness.new.place.me.0 c.take_out-desk.result.0
          c.take_out-desk.result.1 c.take_out-desk.ensures
          (all_rounds (map (λ l. triples l.items) c.as_slice.result.now))
          (ap (λ l. all_rounds (map (λ r. triples r.items) l)) c.as_slice.ensures.value
          ∙ (c.gather_all-all.ensures.rounds ∙ sym (ap (λ m. m.0.rounds) c.tell-witness.ensures.own.1)))
          c.order-schedule.ensures.schedule c.order-schedule.ensures.forkers c.part-ends.ensures.ends
          c.part-ends.ensures.kept
          (λ n. ap (λ m. named n m.0.seat.passes) c.tell-witness.ensures.own.1 ∙ c.gather_all-all.ensures.passes n))
          (c.tell-witness.ensures.told
          ∙ (sym (ap (λ m. m.0.seat.start) c.tell-witness.ensures.own.1) ∙ c.take_out-desk.ensures.same.0))
          ∣₁;
    }
