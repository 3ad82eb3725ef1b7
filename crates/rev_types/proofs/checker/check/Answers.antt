-- Answers of check: a small program whose funs keep their rules, and in which no fault was found, is well typed.
use Rattle.rev_syntax.specs.View.{program as whole}
use Rattle.typed_programs.proofs.Accepting.{kept_typed}
use Rattle.rev_types.proofs.checker.check.Goals as goal

pub returns-clause-typed : goal.returns-clause-typed
returns-clause-typed c =
    kept_typed (whole c.args.expanded.program) c.args.expanded.keeps_rules c.in_ok-tables.ensures.keeps
    c.args.expanded.small
