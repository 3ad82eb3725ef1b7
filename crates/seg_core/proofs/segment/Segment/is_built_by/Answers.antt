-- Answers of Segment::is_built_by: a segment that is being built is built by the holder that its stage names.
use Rattle.std.proofs.Common.{ℕ, Option, ap, ◌∙◌}
use Rattle.seg_core.specs.declared.segment.Stage.{Stage}
use Rattle.seg_core.specs.Core.{building}
use Rattle.seg_core.specs.Shape.{shape, delta_of}
use Rattle.seg_core.proofs.Maps.{decided, built_by}
use Rattle.seg_core.proofs.segment.Segment.is_built_by.Goals as goal

pub returns-in-Building : goal.returns-in-Building
returns-in-Building c = let g = c.args.self.now in let d : ℕ → Option ℕ = delta_of g in
    decided c.in-Building.builder c.args.holder _
    (λ e. (d, ap (λ (s : Stage). shape s d) c.in-Building.is ∙ ap (λ (h : ℕ). building h d) e))
    (λ ne t. ne (built_by g.stage d t.0 c.args.holder c.in-Building.builder c.in-Building.is t.1))
