-- Answers of Delta::next_row: the summary tells of the first 64 rows, and the look at each row of the others.
use Rattle.std.proofs.Common.{arith, ◌<◌, ℕ, subst}
use Rattle.version_map.specs.Deltas.{mask_of}
use Rattle.version_map.proofs.Nexts.{mask_long, next_row_later}
use Rattle.version_map.proofs.Summaries.{row_inside, summary_some, summary_zero}
use Rattle.version_map.proofs.delta.Delta.next_row.Goals as goal

pub returns-in-Some : goal.returns-in-Some
returns-in-Some c =
    let d = c.args.self.now in let row = c.in-Some.row in
    let f = c.in-Some.ensures.found in
    let high = f.1 in
    let some = summary_some d.summary row (mask_of d) d.summed f.1 f.2 in (
      f.0,
      subst (λ (n : ℕ). row < n) (mask_long d) (row_inside (mask_of d) row some),
      some,
      λ r lo hi. summary_zero d.summary r (mask_of d) d.summed (omega (arith, hi, high))
          (c.in-Some.ensures.between r lo hi),
    )

pub returns-in-None : goal.returns-in-None
returns-in-None c =
    let d = c.args.self.now in
    next_row_later d c.args.from 64 c.look_for_row-in-None.result (omega arith)
    (λ r lo hi. summary_zero d.summary r (mask_of d) d.summed hi (c.in-None.ensures.none r lo))
    c.look_for_row-in-None.ensures
