-- Answers of load_program: the summary is made of seed, size and the outcome of this run by threads.
use Rattle.std.proofs.Common.{◌∙◌, ap}
use Rattle.rev_syntax.specs.View.{program as whole}
use Rattle.rev_report.specs.Report.{output}
use Rattle.rev_report.specs.Modes.{summary}
use Rattle.rev_top.specs.Rans.{of_load}
use Rattle.rev_top.proofs.Rans.{made_of}
use Rattle.rev_top.proofs.runs.load_program.Goals as goal

pub returns-clause-made : goal.returns-clause-made
returns-clause-made g c =
    made_of c.args.words.now (of_load c.args.words.now) (whole c.args.typed.now.expanded.program) c.in_ok-ran.ran
    (output c.in_ok-report.report)
    c.in_ok-ran.ensures.run c.in_ok-ran.ensures.outcome
    (c.in_ok-report.ensures ∙ ap (summary c.args.words.now.seed c.args.words.now.size) c.outcome.ensures)
