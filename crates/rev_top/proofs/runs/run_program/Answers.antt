-- Answers of run_program: the report is made of the outcome of this run by threads, with values where asked for.
use Rattle.std.proofs.Common.{◌∙◌, ap}
use Rattle.rev_syntax.specs.View.{program as whole}
use Rattle.rev_report.specs.Report.{output}
use Rattle.rev_report.specs.Outcome.{report}
use Rattle.rev_top.specs.Rans.{of_run}
use Rattle.rev_top.proofs.Rans.{made_of}
use Rattle.rev_top.proofs.runs.run_program.Goals as goal

pub returns-clause-made : goal.returns-clause-made
returns-clause-made g c =
    made_of c.args.words.now (of_run c.args.words.now) (whole c.args.typed.now.expanded.program) c.in_ok-ran.ran
    (output c.in_ok-report.report)
    c.in_ok-ran.ensures.run c.in_ok-ran.ensures.outcome
    (c.in_ok-report.ensures ∙ ap (report c.args.words.now.values) c.outcome.ensures)
