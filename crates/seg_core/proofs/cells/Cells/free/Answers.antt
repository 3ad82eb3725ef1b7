-- Answers of Cells::free: the segment is live, so the core has it in the stage from which it turns.
use Rattle.seg_core.specs.declared.segment.Stage.TheVariants as stage
use Rattle.seg_core.proofs.cells.Cells.free.Goals as goal

pub turn-requires : goal.turn-requires
turn-requires c = (stage.Live c.args.parent c.requires.live.1, c.requires.live.0, c.requires.live.2)
