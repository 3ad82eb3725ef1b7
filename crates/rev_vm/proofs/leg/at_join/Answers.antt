-- Answers of at_join: the revision comes to its join in the box as outside, is ready, and has noted the number.
use Rattle.std.proofs.Common.{◌∙◌, sym, ap}
use Rattle.rev_vm.proofs.Boxes.{same_noted, same_ready}
use Rattle.rev_vm.proofs.Legs.{ready_noted}
use Rattle.rev_vm.proofs.leg.at_join.Goals as goal

pub invariant_of-result : goal.invariant_of-result
invariant_of-result g c = record {
  ready = ready_noted c.args.on c.deref_mut.result.now.run c.come_to_join.new.revision.run
      (same_ready (sym c.deref_mut.ensures.value) c.requires) c.in-Ok.ensures.noted;
  enough = c.in-Ok.ensures.room;
}

pub returns-in-Ok-clause-noted : goal.returns-in-Ok-clause-noted
returns-in-Ok-clause-noted g c =
    same_noted c.deref_mut.ensures.value c.args.on c.come_to_join.new.revision.run c.in-Ok.ensures.noted

pub returns-in-Ok-clause-memory : goal.returns-in-Ok-clause-memory
returns-in-Ok-clause-memory g c =
    c.come_to_join.ensures.memory ∙ ap (λ r. r.memory) c.deref_mut.ensures.value
