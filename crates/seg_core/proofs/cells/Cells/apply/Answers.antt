-- Answers of Cells::apply: each step has its own move, and where that refuses no core comes of the step.
use Rattle.std.proofs.Common.{sym, subst}
use Rattle.seg_core.specs.declared.step.SegStep.{SegStep}
use Rattle.seg_core.specs.Core.{Core}
use Rattle.seg_core.specs.Steps as core
use Rattle.seg_core.specs.Shape.{step_of}
use Rattle.seg_core.specs.Cells.{core_of}
use Rattle.seg_core.proofs.cells.Cells.apply.Goals as goal

pub returns-in-Put-clause-refused : goal.returns-in-Put-clause-refused
returns-in-Put-clause-refused c = λ e. let r = c.put.ensures.refused e in (
  r.0,
  subst (λ (s : SegStep). (k : Core)
      → ¬ (core.Steps (core_of c.args.self.now) (step_of s) k)) (sym c.in-Put.is) r.1,
)

pub returns-in-Publish-clause-refused : goal.returns-in-Publish-clause-refused
returns-in-Publish-clause-refused c = λ e. let r = c.publish.ensures.refused e in (
  r.0,
  subst (λ (s : SegStep). (k : Core)
      → ¬ (core.Steps (core_of c.args.self.now) (step_of s) k)) (sym c.in-Publish.is) r.1,
)

pub returns-in-Share-clause-refused : goal.returns-in-Share-clause-refused
returns-in-Share-clause-refused c = λ e. let r = c.share.ensures.refused e in (
  r.0,
  subst (λ (s : SegStep). (k : Core)
      → ¬ (core.Steps (core_of c.args.self.now) (step_of s) k)) (sym c.in-Share.is) r.1,
)

pub returns-in-Release-clause-refused : goal.returns-in-Release-clause-refused
returns-in-Release-clause-refused c = λ e. let r = c.release.ensures.refused e in (
  r.0,
  subst (λ (s : SegStep). (k : Core)
      → ¬ (core.Steps (core_of c.args.self.now) (step_of s) k)) (sym c.in-Release.is) r.1,
)

pub returns-in-Collapse-clause-refused : goal.returns-in-Collapse-clause-refused
returns-in-Collapse-clause-refused c = λ e. let r = c.collapse.ensures.refused e in (
  r.0,
  subst (λ (s : SegStep). (k : Core)
      → ¬ (core.Steps (core_of c.args.self.now) (step_of s) k)) (sym c.in-Collapse.is) r.1,
)

pub returns-in-HandOn-clause-refused : goal.returns-in-HandOn-clause-refused
returns-in-HandOn-clause-refused c = λ e. let r = c.hand_on.ensures.refused e in (
  r.0,
  subst (λ (s : SegStep). (k : Core)
      → ¬ (core.Steps (core_of c.args.self.now) (step_of s) k)) (sym c.in-HandOn.is) r.1,
)
