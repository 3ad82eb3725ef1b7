-- Loops of note_block: each number in the instructions before this one has 64 bits.
use Rattle.std.proofs.Common.{◌≡◌, ◌<◌, ℕ, Some}
use Rattle.std.specs.Prelude.{slice_get}
use Rattle.rev_code.specs.declared.code.Instr.{Instr}
use Rattle.block_run.specs.Agreement.{PushesInt}
use Rattle.fun_run.proofs.numbers.note_block.Given as goal

-- the numbers so far have 64 bits
abbrev pub invariant-loop-at : goal.invariant-loop-at
invariant-loop-at l = record {
  instrs : l.instrs ≡ l.b.instrs;
  short : (m : ℕ) (x : Instr) → m < l.at → slice_get l.instrs m ≡ Some x → PushesInt x;
}
