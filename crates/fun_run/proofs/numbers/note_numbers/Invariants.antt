-- Loops of note_numbers: each number in the blocks before this one has 64 bits.
use Rattle.std.proofs.Common.{◌≡◌, ◌<◌, ℕ, Some}
use Rattle.std.specs.Prelude.{slice_get}
use Rattle.rev_code.specs.declared.code.CodeBlock.{CodeBlock}
use Rattle.rev_code.specs.declared.code.Instr.{Instr}
use Rattle.block_run.specs.Agreement.{PushesInt}
use Rattle.fun_run.proofs.numbers.note_numbers.Given as goal

-- the numbers in the blocks so far have 64 bits
abbrev pub invariant-loop-n : goal.invariant-loop-n
invariant-loop-n l = record {
  blocks : l.blocks ≡ l.code.blocks;
  short : (m : ℕ) (b : CodeBlock) (at : ℕ) (x : Instr) → m < l.n → slice_get l.blocks m ≡ Some b
      → slice_get b.instrs at ≡ Some x → PushesInt x;
}
