-- Answers of append_text: what is cut off at the line feed is the first of the lines that are left.
use Rattle.std.proofs.Common.{arith}
use Rattle.std.proofs.lemmas.Grind.{common_steps}
use Rattle.trace_diagram.proofs.TextLines.{lines_cut}
use Rattle.trace_diagram.proofs.printer.append_text.Goals as goal

pub loop-line-preserved : goal.loop-line-preserved
loop-line-preserved c =
    let h = lines_cut c.in-Some.line.now c.loop-line.rest.now c.in-Some.behind.now c.in-Some.ensures in
    grind (arith, common_steps, h, c.loop-line.invariant)
