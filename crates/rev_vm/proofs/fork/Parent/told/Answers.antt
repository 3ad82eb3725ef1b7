-- Answers of Parent::told: the waiting parent has its handle on top, and the number written there names the child.
use Rattle.std.proofs.Common.{sym}
use Rattle.rev_code.specs.Events as events
use Rattle.rev_vm.proofs.Boxes.{same_at, same_waiting}
use Rattle.rev_vm.proofs.Forks.{named}
use Rattle.rev_vm.proofs.fork.Parent.told.Goals as goal

pub name_child-requires : goal.name_child-requires
name_child-requires t c = same_waiting (sym c.deref_mut.ensures.value) c.args.self.waits

pub returns-clause-state : goal.returns-clause-state
returns-clause-state t c = λ g s args h.
    let e = sym c.deref_mut.ensures.value in
    let k = same_at e g (events.parent g.share s args 0) h in
    record {
      verified = k.verified;
      stands = named g _ _ _ _ s args c.args.number (same_waiting e c.args.self.waits) c.name_child.ensures k.stands;
      size = k.size;
    }
