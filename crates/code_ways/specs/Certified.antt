-- When a certificate makes the pass accept a block. A certificate says of each place what an instruction
-- finds there; two things more are asked for.
--   BeginsAnew   behind a Jump or Return nothing is known, unless an earlier jump leads there
--   IsCheap      a fun or merge is within its limits
use Rattle.std.specs.Prelude.{ℕ, suc, ◌≡◌, ◌+◌, ◌≤◌, ◌⊎◌, true, false, List, length, Some, Ok, slice_get}
use Rattle.rev_code.specs.declared.code.Code.{Code}
use Rattle.rev_code.specs.declared.code.CodeBlock.{CodeBlock}
use Rattle.rev_code.specs.declared.code.Instr.{Instr}
use Rattle.code_rules.specs.declared.Cost.{Cost}
use Rattle.code_rules.specs.Shapes.{shape_after}
use Rattle.code_rules.specs.Pass.{Note, entry, falls, is_value_class, block_fault, costs_too_much}
use Rattle.code_soundness.specs.Certificate.{Fits, IsJumped, IsCertified}
use Rattle.code_ways.specs.Breaks.{need_of_applied, total_count}

abbrev pub BeginsAnew : CodeBlock → (ℕ → Note) → Type 0
BeginsAnew b notes =
    (at : ℕ) (x : Instr) → slice_get b.instrs at ≡ Some x → falls x ≡ false
    → Fits entry (notes (suc at)) ⊎ IsJumped b (suc at)

-- what a block costs whose stack is nowhere deeper
abbrev pub cost_at_depth : List Cost → CodeBlock → (depth : ℕ) → Cost
cost_at_depth costs b depth = record {
  need = length b.locals + depth + need_of_applied costs b.instrs;
  count = total_count costs b.instrs;
}

pub record IsCheap (code : Code) (costs : List Cost) (b : CodeBlock) (notes : ℕ → Note) : Type 0 where
  pub depth : ℕ
  pub low : (at : ℕ) (x : Instr) → slice_get b.instrs at ≡ Some x
      → length (shape_after code b (notes at).shape x) ≤ depth
  pub cheap : costs_too_much (cost_at_depth costs b depth) ≡ false

abbrev pub CertifiedIsAccepted : Type 0
CertifiedIsAccepted =
    (code : Code) (costs : List Cost) (n : ℕ) (b : CodeBlock) (notes : ℕ → Note)
    → IsCertified code n b notes → BeginsAnew b notes
    → (is_value_class b.class ≡ true → IsCheap code costs b notes)
    → (cost : Cost) × (block_fault code costs n b ≡ Ok cost)
