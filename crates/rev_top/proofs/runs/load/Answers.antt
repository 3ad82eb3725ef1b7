-- Answers of load: the made text is checked, where a fault would leave first, and its program is run.
use Rattle.std.proofs.Common.{map}
use Rattle.rev_syntax.specs.View.{program as whole}
use Rattle.merge_kernels.specs.Terms.{definition}
use Rattle.typed_programs.specs.declared.typed.Typed.{Typed}
use Rattle.rev_words.specs.Load.{load_text}
use Rattle.rev_top.specs.Making.{RunsBy, told}
use Rattle.rev_top.specs.Rans.{of_load}
use Rattle.mode_reports.specs.Texts.{Checks}
use Rattle.rev_top.proofs.Kernels.{of_text}
use Rattle.mode_reports.proofs.Stages.{goes_on, leaves}
use Rattle.rev_top.proofs.runs.load.Goals as goal

pub returns-in_err-typed-clause-made : goal.returns-in_err-typed-clause-made
returns-in_err-typed-clause-made g c =
    leaves (Checks (load_text c.args.words.now.seed c.args.words.now.size))
    (RunsBy c.args.words.now (of_load c.args.words.now)) (λ (t : Typed). whole t.expanded.program) told
    _ c.in_err-typed.field-0.0 c.from_residual.ensures.1 c.in_err-typed.ensures

pub returns-clause-made : goal.returns-clause-made
returns-clause-made g c =
    goes_on (Checks (load_text c.args.words.now.seed c.args.words.now.size))
    (RunsBy c.args.words.now (of_load c.args.words.now)) told
    (whole c.in_ok-typed.typed.expanded.program) c.load_program.result c.in_ok-typed.ensures c.load_program.ensures.made

pub returns-clause-kernels : goal.returns-clause-kernels
returns-clause-kernels g c =
    of_text (load_text c.args.words.now.seed c.args.words.now.size) (whole c.in_ok-typed.typed.expanded.program)
    (map (λ k. definition k.def) c.args.kernels.now) c.in_ok-typed.ensures c.load_program.result
    c.load_program.ensures.kernels
