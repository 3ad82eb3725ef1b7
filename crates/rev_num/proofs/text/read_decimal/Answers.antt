-- Answers of read_decimal: bytes that are no text, or begin with a plus, are no decimal, and else the parser tells.
use Rattle.std.proofs.Common.{◌∙◌, ap, ◌≡◌, ◌≢◌, get_or, arith}
use Rattle.std.proofs.lemmas.Grind.{common_steps}
use Rattle.rev_num.specs.Decimal.{decimal_in}
use Rattle.rev_num.proofs.Decimals.{decimal_in-no_text, decimal_in-parses, is_none, is_spelled, plus_first}
use Rattle.rev_num.proofs.text.read_decimal.Goals as goal

pub returns-in_err-text-clause-value : goal.returns-in_err-text-clause-value
returns-in_err-text-clause-value c = grind (arith, common_steps, decimal_in-no_text c.args.bytes.now)

pub returns-in_err-text-clause-none : goal.returns-in_err-text-clause-none
returns-in_err-text-clause-none c = is_none _ _ (returns-in_err-text-clause-value c)

pub returns-clause-value : goal.returns-clause-value
returns-clause-value c =
    let same : c.in_ok-text.text.now ≡ c.args.bytes.now = grind (arith, common_steps) in
    let plus : get_or c.in_ok-text.text.now 0 0 ≢ 43 = grind (arith, common_steps, plus_first c.args.bytes.now) in
    c.ok-2.ensures.value ∙ decimal_in-parses c.in_ok-text.text.now c.parse.result plus c.parse.ensures.value.0
    ∙ ap decimal_in same

pub returns-clause-spelled : goal.returns-clause-spelled
returns-clause-spelled c = is_spelled _ _ (returns-clause-value c)

pub returns-clause-none : goal.returns-clause-none
returns-clause-none c = is_none _ _ (returns-clause-value c)
