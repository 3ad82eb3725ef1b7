-- Loops of Locals::copy: the copies so far are the first of the locals.
use Rattle.std.proofs.Common.{◌≡◌, take}
use Rattle.revision_state.proofs.locals.Locals.copy.Given as goal

abbrev pub invariant-loop-binding : goal.invariant-loop-binding
invariant-loop-binding l = l.copy ≡ take l.binding-index l.binding-items
