-- Answers of read_int: a number that the bytes spell is the one read from them, and its own spelling decides.
use Rattle.std.proofs.Common.{◌≡◌, ◌∙◌, sym, ap, rules}
use Rattle.std.specs.Int.{w64}
use Rattle.std.proofs.Common.{FitsSigned}
use Rattle.std.proofs.lemmas.Int.{to_z-of_z}
use Rattle.std.specs.Fmt.{signed_decimal}
use Rattle.trace_diagram.proofs.Spelling.{read_as}
use Rattle.trace_diagram.proofs.spelled.read_int.Goals as goal

pub returns-in_default : goal.returns-in_default
returns-in_default c = λ n fits is.
    let h = read_as n c.args.bytes.now fits is in
    let e = c.in_default.ensures.value in
    cc

pub returns-else-are : goal.returns-else-are
returns-else-are c = λ n fits is.
    let h = read_as n c.args.bytes.now fits is in
    let e = c.in-Some.ensures.value in
    let same : n ≡ c.in-Some.int = cc in
    let range : FitsSigned w64 c.in-Some.int = search rules in
    c.if-are.ensures (c.as_bytes.ensures.value ∙ c.format.ensures.text
    ∙ ap signed_decimal (to_z-of_z w64 c.in-Some.int range) ∙ ap signed_decimal (sym same) ∙ is)
