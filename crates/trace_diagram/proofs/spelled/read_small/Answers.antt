-- Answers of read_small: a spelling is that of one number, so where that has more than 32 bits no other is spelled.
use Rattle.std.proofs.Common.{◌∙◌, sym, arith}
use Rattle.std.proofs.lemmas.Fmt.{decimal_injective}
use Rattle.trace_diagram.proofs.spelled.read_small.Goals as goal

pub returns-in_default : goal.returns-in_default
returns-in_default c = λ n small is.
    let fits = c.in-Some.ensures.0 in
    let same = decimal_injective n c.in-Some.number (omega arith) fits (is ∙ sym c.in-Some.ensures.1) in
    let large = c.if-number.false in
    omega arith
