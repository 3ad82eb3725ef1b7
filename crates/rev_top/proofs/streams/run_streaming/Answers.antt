-- Answers of run_streaming: a program that keeps the affine rule never joins twice, so its code may print as it runs.
use Rattle.std.proofs.Common.{◌∙◌}
use Rattle.rev_syntax.specs.View.{program as whole}
use Rattle.rev_top.proofs.Printing.{never, not_begun, streams}
use Rattle.rev_top.proofs.streams.run_streaming.Goals as goal

pub stream_code-requires-clause-never : goal.stream_code-requires-clause-never
stream_code-requires-clause-never g c =
    let t = c.args.typed.now in
    never c.args.words.now (whole t.expanded.program)
    (record { small = t.expanded.small; funs = t.expanded.keeps_rules; rules = t.well_typed })
    c.in_ok-code.code.code c.in_ok-numbers.numbers.items c.in_ok-code.ensures
    (c.in_ok-numbers.ensures.items ∙ c.as_slice.ensures)
    c.never_laws.ensures.affine c.requires.affine

pub returns : goal.returns
returns g c =
    let t = c.args.typed.now in
    streams c.args.words.now (whole t.expanded.program)
    (record { small = t.expanded.small; funs = t.expanded.keeps_rules; rules = t.well_typed })
    c.in_ok-code.code.code c.in_ok-numbers.numbers.items c.in_ok-code.ensures
    (c.in_ok-numbers.ensures.items ∙ c.as_slice.ensures)
    _ _ c.stream_code.result c.stream_code.ensures

pub returns-in_err-numbers : goal.returns-in_err-numbers
returns-in_err-numbers g c =
    let t = c.args.typed.now in
    not_begun c.args.words.now (whole t.expanded.program)
    (record { small = t.expanded.small; funs = t.expanded.keeps_rules; rules = t.well_typed })
    _ c.from_residual-in_err-numbers.result c.from_residual-in_err-numbers.ensures.1
