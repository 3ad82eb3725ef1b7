-- Answers of deliver: the first sink took all of the report's text, and the report's end goes on from there.
use Rattle.std.proofs.Common.{ℕ, List, refl, subst}
use Rattle.rev_io.specs.Stream.{Took}
use Rattle.rev_report.specs.Report.{output}
use Rattle.rev_top.proofs.endings.deliver.Goals as goal

pub returns-in-Ok : goal.returns-in-Ok
returns-in-Ok g c =
    c.end_report.ensures (output c.args.report.now) _ _ refl
    (subst (λ (bytes : List ℕ). Took (g.O.Sink.stream c.args.out.now) bytes (g.O.Sink.stream c.write_all.new.sink))
    c.as_slice.ensures.value c.in-Ok.ensures)
