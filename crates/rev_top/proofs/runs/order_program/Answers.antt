-- Answers of order_program: the report is made of the schedule and the outcome of this run by threads.
use Rattle.std.proofs.Common.{◌∙◌, ap₂}
use Rattle.rev_syntax.specs.View.{program as whole}
use Rattle.rev_report.specs.Report.{output}
use Rattle.rev_report.specs.Modes.{ordered}
use Rattle.rev_top.specs.Rans.{of_order}
use Rattle.rev_top.proofs.Rans.{made_of}
use Rattle.rev_top.proofs.runs.order_program.Goals as goal

pub returns-clause-made : goal.returns-clause-made
returns-clause-made g c =
    made_of c.args.words.now of_order (whole c.args.typed.now.expanded.program) c.in_ok-ran.ran
    (output c.in_ok-report.report)
    c.in_ok-ran.ensures.run c.in_ok-ran.ensures.outcome
    (c.in_ok-report.ensures ∙ ap₂ ordered c.schedule.ensures c.outcome.ensures)
