-- Loops of note_inputs: each input before this one fits 64 bits.
use Rattle.std.proofs.Common.{◌≡◌, ◌<◌, ℕ, Some, true}
use Rattle.std.specs.Prelude.{ℤ, slice_get}
use Rattle.rev_num.specs.Arith.{fits_i64}
use Rattle.code_runs.proofs.inputs.note_inputs.Given as goal

-- the inputs so far have 64 bits
abbrev pub invariant-loop-at : goal.invariant-loop-at
invariant-loop-at l = (n : ℕ) (z : ℤ) → n < l.at → slice_get l.inputs.items n ≡ Some z → fits_i64 z ≡ true
