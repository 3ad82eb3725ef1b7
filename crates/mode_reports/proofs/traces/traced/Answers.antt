-- Answers of traced: one run of the program's code gives both the outcome and the trace of the program.
use Rattle.std.proofs.Common.{◌∙◌}
use Rattle.mode_reports.proofs.CodeRuns.{traced, traced_by}
use Rattle.mode_reports.proofs.traces.traced.Goals as goal

pub returns-clause-outcome : goal.returns-clause-outcome
returns-clause-outcome c =
    traced_by c.args.words.now c.args.typed.now c.in_ok-code.code.code c.in_ok-numbers.numbers.items c.trace_code.result
    c.in_ok-code.ensures (c.in_ok-numbers.ensures.items ∙ c.as_slice.ensures) c.trace_code.ensures.outcome

pub returns-clause-trace : goal.returns-clause-trace
returns-clause-trace c =
    traced c.args.words.now c.args.typed.now c.in_ok-code.code.code c.in_ok-numbers.numbers.items c.trace_code.result
    c.in_ok-code.ensures (c.in_ok-numbers.ensures.items ∙ c.as_slice.ensures) c.trace_code.ensures.trace
