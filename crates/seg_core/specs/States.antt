-- The core of a state.
use Rattle.seg_core.specs.declared.state.SegState.{SegState}
use Rattle.seg_core.specs.Core.{Core}
use Rattle.seg_core.specs.Cells.{core_of}

abbrev pub state_core : SegState → Core
state_core s = core_of s.cells
