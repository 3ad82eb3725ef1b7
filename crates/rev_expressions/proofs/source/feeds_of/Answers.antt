-- Answers of feeds_of: a byte that is a line feed adds its place, and any other byte adds none.
use Rattle.std.proofs.Common.{arith}
use Rattle.std.proofs.lemmas.Grind.{common_steps}
use Rattle.rev_expressions.proofs.Feeds.{feeds_more}
use Rattle.rev_expressions.proofs.source.feeds_of.Goals.{then-bytes-at-eq10+in_ok-push, else-bytes-at-eq10}
use Rattle.rev_expressions.proofs.source.feeds_of.Goals as goal

pub loop-at-preserved : goal.loop-at-preserved
loop-at-preserved c =
    let h = feeds_more c.args.bytes.now c.loop-at.at c.loop-at-test.true in
    elim c.if-bytes-at-eq10.branch [
      | then-bytes-at-eq10+in_ok-push w ↦ grind (arith, common_steps, h)
      | else-bytes-at-eq10 w ↦ grind (arith, common_steps, h)
    ]
