-- Which halt an answer names.
use Rattle.std.specs.Prelude.{Bool, true, false}
use Rattle.hub_core.specs.declared.state.HubState.{HubState}
use Rattle.hub_core.specs.declared.state.HubState.TheVariants.{Twice, NoMemory}

-- Twice, or want of memory
abbrev pub halt_by : Bool → HubState
halt_by true = Twice
halt_by false = NoMemory
