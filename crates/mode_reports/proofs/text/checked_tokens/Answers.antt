-- Answers of checked_tokens: a fault of the syntax leaves first, and the tree of the tokens is then checked.
use Rattle.rev_syntax.specs.View.{program as whole}
use Rattle.typed_programs.specs.declared.typed.Typed.{Typed}
use Rattle.mode_reports.specs.Texts.{ChecksTree, Reads}
use Rattle.mode_reports.proofs.Stages.{goes_on, leaves}
use Rattle.mode_reports.proofs.text.checked_tokens.Goals as goal

pub returns-in_err-program : goal.returns-in_err-program
returns-in_err-program c =
    leaves (Reads c.args.text.now c.args.tokens.now) (ChecksTree c.args.text.now) whole
    (λ (t : Typed). whole t.expanded.program)
    _ c.in_err-program.field-0.0 c.from_residual.ensures.1 c.in_err-program.ensures.meets

pub returns : goal.returns
returns c =
    goes_on (Reads c.args.text.now c.args.tokens.now) (ChecksTree c.args.text.now)
    (λ (t : Typed). whole t.expanded.program) (whole c.in_ok-program.program) c.checked_tree.result
    c.in_ok-program.ensures.meets c.checked_tree.ensures
