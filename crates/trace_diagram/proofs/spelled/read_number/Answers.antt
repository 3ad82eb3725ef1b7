-- Answers of read_number: a number that the bytes spell is the one parsed from them, and its own spelling decides.
use Rattle.std.proofs.Common.{◌≡◌, ◌∙◌, sym, ap}
use Rattle.std.specs.Fmt.{decimal}
use Rattle.trace_diagram.proofs.Spelling.{decimal_is_text, parsed}
use Rattle.trace_diagram.proofs.spelled.read_number.Goals as goal

pub returns-in_default : goal.returns-in_default
returns-in_default c = λ n small is. c.in_default.ensures.cases.0 (decimal_is_text n _ small is)

pub returns-in_default-parse : goal.returns-in_default-parse
returns-in_default-parse c = λ n small is.
    let h = parsed n c.in-Ok.text.now c.parse.result c.parse.ensures.value.0 small (is ∙ sym c.in-Ok.ensures.cases.0) in
    let e = c.in_default-parse.is in
    cc

pub returns-else-are : goal.returns-else-are
returns-else-are c = λ n small is.
    let h = parsed n c.in-Ok.text.now c.parse.result c.parse.ensures.value.0 small (is ∙ sym c.in-Ok.ensures.cases.0) in
    let e = c.in-Ok-parse.is in
    let same : n ≡ c.in-Ok-parse.number = cc in
    c.if-are.ensures (c.as_bytes-spelled.ensures.value ∙ c.format.ensures.text ∙ ap decimal (sym same) ∙ is)
