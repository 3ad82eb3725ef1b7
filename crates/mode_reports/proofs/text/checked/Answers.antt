-- Answers of checked: a fault of the tokens leaves first, and a text's tokens are then checked.
use Rattle.std.proofs.Common.{Vec, Global, List, subst}
use Rattle.rev_syntax.specs.View.{program as whole}
use Rattle.rev_syntax.specs.declared.token.Token.{Token}
use Rattle.typed_programs.specs.declared.typed.Typed.{Typed}
use Rattle.mode_reports.specs.Stops.{Meets}
use Rattle.mode_reports.specs.Texts.{Checks, ChecksTokens, Cuts}
use Rattle.mode_reports.proofs.Stages.{goes_on, leaves}
use Rattle.mode_reports.proofs.text.checked.Goals as goal

pub returns-in_err-tokens : goal.returns-in_err-tokens
unfolding Checks
returns-in_err-tokens c =
    leaves (Cuts c.args.text.now) (ChecksTokens c.args.text.now) (λ (v : Vec Token Global). v.items)
    (λ (t : Typed). whole t.expanded.program)
    _ c.in_err-tokens.field-0.0 c.from_residual.ensures.1 c.in_err-tokens.ensures.meets

pub returns : goal.returns
unfolding Checks
returns c =
    goes_on (Cuts c.args.text.now) (ChecksTokens c.args.text.now)
    (λ (t : Typed). whole t.expanded.program) c.in_ok-tokens.tokens.items c.checked_tokens.result
    c.in_ok-tokens.ensures.meets
    (subst (λ (ts : List Token).
    Meets (λ (t : Typed). whole t.expanded.program) c.checked_tokens.result (ChecksTokens c.args.text.now ts))
    c.as_slice.ensures.value c.checked_tokens.ensures)
