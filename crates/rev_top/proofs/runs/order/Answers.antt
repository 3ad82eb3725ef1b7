-- Answers of order: a text that is at fault leaves with its first fault, and a checked program is run for its order.
use Rattle.std.proofs.Common.{map}
use Rattle.rev_syntax.specs.View.{program as whole}
use Rattle.merge_kernels.specs.Terms.{definition}
use Rattle.typed_programs.specs.declared.typed.Typed.{Typed}
use Rattle.rev_top.specs.Making.{RunsBy, told}
use Rattle.rev_top.specs.Rans.{of_order}
use Rattle.mode_reports.specs.Texts.{Checks}
use Rattle.rev_top.proofs.Kernels.{of_text}
use Rattle.mode_reports.proofs.Stages.{goes_on, leaves}
use Rattle.rev_top.proofs.runs.order.Goals as goal

pub returns-in_err-typed-clause-made : goal.returns-in_err-typed-clause-made
returns-in_err-typed-clause-made g c =
    leaves (Checks c.args.text.now) (RunsBy c.args.words.now of_order) (λ (t : Typed). whole t.expanded.program) told
    _ c.in_err-typed.field-0.0 c.from_residual.ensures.1 c.in_err-typed.ensures

pub returns-clause-made : goal.returns-clause-made
returns-clause-made g c =
    goes_on (Checks c.args.text.now) (RunsBy c.args.words.now of_order) told
    (whole c.in_ok-typed.typed.expanded.program) c.order_program.result c.in_ok-typed.ensures
    c.order_program.ensures.made

pub returns-clause-kernels : goal.returns-clause-kernels
returns-clause-kernels g c =
    of_text c.args.text.now (whole c.in_ok-typed.typed.expanded.program)
    (map (λ k. definition k.def) c.args.kernels.now) c.in_ok-typed.ensures c.order_program.result
    c.order_program.ensures.kernels
