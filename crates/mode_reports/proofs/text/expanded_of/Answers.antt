-- Answers of expanded_of: the program stays the same and keeps the rules on funs, or the fault is its first break.
use Rattle.rev_syntax.specs.View.{program as whole}
use Rattle.typed_programs.specs.declared.expanded.Expanded.{Expanded}
use Rattle.static_rules.proofs.FunFaults.{funs_kept}
use Rattle.mode_reports.proofs.Faults.{no_funs}
use Rattle.mode_reports.proofs.text.expanded_of.Goals as goal

pub returns-in-Ok : goal.returns-in-Ok
returns-in-Ok c = (c.in-Ok.ensures.same, (funs_kept (whole c.args.program)).0 c.in-Ok.ensures.keeps)

pub returns-in-Err : goal.returns-in-Err
returns-in-Err c =
    no_funs c.args.text.now (λ (e : Expanded). whole e.program) (whole c.args.program) c.in-Err.fault c.of_funs.result
    c.of_funs.ensures c.in-Err.ensures.first
