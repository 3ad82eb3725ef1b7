-- Answers of trap_laws: a leg's own trap says that it is no join's, and a join's trap says so by its form.
use Rattle.std.proofs.Common.{refl, subst}
use Rattle.code_machine_laws.specs.Legs as leg
use Rattle.code_machine.specs.Local.{CodeRun}
use Rattle.code_machine.proofs.Events.{IsAt, stands}
use Rattle.code_machine_laws.proofs.traps.trap_laws.Goals as goal

pub returns-clause-own : goal.returns-clause-own
returns-clause-own c = λ code inputs share from to e l. own code inputs share from to e l
  where
    own : leg.OwnTrapsAreNotOfJoin
    own code inputs share c c' e l =
        let g : CodeRun = record { code = code; inputs = inputs; share = share } in
        (subst (IsAt l.last) l.comes (stands g l.last)).1

pub returns-clause-join : goal.returns-clause-join
returns-clause-join c = of_joins
  where
    of_joins : leg.JoinTrapsAreOfJoin
    of_joins t (leg.by_merge location fault line) = refl
    of_joins t (leg.passed joined u) = refl
