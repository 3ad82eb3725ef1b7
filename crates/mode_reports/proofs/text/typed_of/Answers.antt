-- Answers of typed_of: the program stays the same and breaks no static rule, or the fault is its first break.
use Rattle.rev_syntax.specs.View.{program as whole}
use Rattle.typed_programs.specs.declared.typed.Typed.{Typed}
use Rattle.static_rules.proofs.Fronts.{none_broken}
use Rattle.mode_reports.proofs.Faults.{no_types}
use Rattle.mode_reports.proofs.text.typed_of.Goals as goal

pub returns-in-Ok : goal.returns-in-Ok
returns-in-Ok c = (c.in-Ok.ensures.same, none_broken (whole c.args.expanded.program) c.in-Ok.ensures.typed)

pub returns-in-Err : goal.returns-in-Err
returns-in-Err c =
    no_types c.args.text.now (λ (t : Typed). whole t.expanded.program) (whole c.args.expanded.program) c.in-Err.fault
    c.of_types.result c.of_types.ensures c.in-Err.ensures.first
