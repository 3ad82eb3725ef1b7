-- Answers of examined: the fault that the walk found is the first of all, and where it found none there is none.
use Rattle.std.proofs.Common.{◌∙◌, sym}
use Rattle.rev_syntax.specs.View.{program as whole}
use Rattle.typed_programs.proofs.Leasts.{first_is, none_is}
use Rattle.typed_programs.specs.Faults.{place, rank}
use Rattle.typed_programs.specs.Program.{faults}
use Rattle.rev_types.proofs.Refusing.{not_typed}
use Rattle.rev_types.proofs.FirstOfFaults.{first_of_faults}
use Rattle.rev_types.proofs.checker.examined.Goals as goal

pub returns-in-Some-clause-err : goal.returns-in-Some-clause-err
returns-in-Some-clause-err c =
    λ _. first_is place rank (faults (whole c.args.p.now)) c.in-Some.fault
    (first_of_faults (whole c.args.p.now) ∙ sym c.in_ok-broken.ensures.fault ∙ c.in-Some.is)

pub returns-in-Some-clause-untyped : goal.returns-in-Some-clause-untyped
returns-in-Some-clause-untyped c = not_typed (whole c.args.p.now) c.in-Some.fault (returns-in-Some-clause-err c)

pub returns-clause-keeps : goal.returns-clause-keeps
returns-clause-keeps c =
    none_is place rank (faults (whole c.args.p.now))
    (first_of_faults (whole c.args.p.now) ∙ sym c.in_ok-broken.ensures.fault ∙ c.in_default.is)
