-- Answers of broken_under: the walks of the declarations and of main are those of the rule for programs.
use Rattle.std.proofs.Common.{ap, map}
use Rattle.rev_syntax.specs.View.{declaration, program as whole}
use Rattle.rev_kinds.specs.Walk.{names_of}
use Rattle.affine_check.proofs.Decided.{program_found}
use Rattle.affine_check.proofs.checker.broken_under.Goals as goal

pub returns : goal.returns
returns c =
    program_found (whole c.args.p.now) (names_of c.args.checker.now)
    (ap (λ ds. map declaration ds) c.deref.ensures.value)
    c.in_ok-declared.ensures c.in_ok-broken_body.ensures c.first.ensures
