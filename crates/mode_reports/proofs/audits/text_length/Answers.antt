-- Answers of text_length: the place divides text and trace, so past the limit it is that of a text too long.
use Rattle.std.proofs.Common.{take, drop, refl, arith}
use Rattle.std.proofs.lemmas.List.{length-take-le}
use Rattle.mode_reports.proofs.audits.text_length.Goals as goal

pub returns-then-at-gt-SOURCE_LIMIT-clause-splits :
    goal.returns-then-at-gt-SOURCE_LIMIT-clause-splits
returns-then-at-gt-SOURCE_LIMIT-clause-splits c =
    let at = c.trace_start-at.result in
    let bytes = c.args.bytes.now in
    let whole = length-take-le at bytes c.trace_start-at.ensures.inside in
    let long = c.if-at-gt-SOURCE_LIMIT.true in
    let inside = c.trace_start-at.ensures.inside in (
      refl,
      (
        record { text = take at bytes; trace = drop at bytes },
        c.trace_start-at.ensures.divides,
        omega (arith, whole, long, inside),
      ),
    )
