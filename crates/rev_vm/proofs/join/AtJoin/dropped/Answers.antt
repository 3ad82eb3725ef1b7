-- Answers of AtJoin::dropped: the joiner is ready, and when told no it stands for its state behind the join.
use Rattle.std.proofs.Common.{sym}
use Rattle.rev_vm.proofs.Boxes.{same_join, same_ready}
use Rattle.rev_vm.proofs.Joins.{dropped_at}
use Rattle.rev_vm.proofs.join.AtJoin.dropped.Goals as goal

pub tell-requires : goal.tell-requires
tell-requires t c = same_ready (sym c.deref_mut.ensures.value) c.args.self.ready

pub returns-clause-state : goal.returns-clause-state
returns-clause-state t c = λ g s h.
    let e = sym c.deref_mut.ensures.value in
    dropped_at g s (same_join e g c.args.self.is_try c.args.self.on s h)
    (same_ready e c.args.self.ready) c.requires c.tell.ensures
