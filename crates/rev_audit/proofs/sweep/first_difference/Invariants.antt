-- Loops of first_difference: the starts of the parts in front are kept, and what was found is the first behind them.
use Rattle.std.proofs.Common.{◌≤◌, length}
use Rattle.revision_state.specs.Views.{given}
use Rattle.rev_audit.specs.Sweep.{Differs, IsKept}
use Rattle.rev_audit.proofs.sweep.first_difference.Given as goal

abbrev pub invariant-loop-index : goal.invariant-loop-index
invariant-loop-index l = record {
  within : l.index ≤ length l.stated.parts.now;
  kept :
      IsKept (given l.stated.setting) l.stated.fuel l.stated.parts.now l.index l.starts.starts.items l.starts.unstated;
  first : Differs (given l.stated.setting) l.stated.fuel l.stated.parts.now l.index l.found;
}

abbrev pub decreases-loop-index : goal.decreases-loop-index
decreases-loop-index l = l.index
