-- No stack is deeper than there are instructions before it: each leaves at most one word more than it found, and what
-- is known on arrival was left by one of those before.
--   depth_whole   the deepest stack of a block
use Rattle.std.proofs.Common.{◌≡◌, ℕ, zero, suc, ◌+◌, ◌≤◌, List, [], ◌∷◌, length, take, Option, Some, None, refl, ap, arith}
use Rattle.std.specs.Prelude.{slice_get, drop}
use Rattle.std.proofs.lemmas.List.{length-drop}
use Rattle.rev_num.specs.declared.value.ValueKind.{ValueKind}
use Rattle.rev_code.specs.declared.code.Code.{Code}
use Rattle.rev_code.specs.declared.code.CodeBlock.{CodeBlock}
use Rattle.rev_code.specs.declared.code.Instr.{Instr}
use Rattle.rev_code.specs.declared.code.Instr.TheVariants as i
use Rattle.code_rules.specs.Shapes.{Shape, gives, one_or_none, result_kinds, shape_after, takes}
use Rattle.code_rules.specs.Pass.{before, gone, greatest_depth}
use Rattle.code_soundness.specs.Certificate.{note_at}
use Rattle.code_soundness.proofs.Basics.{append_length, before_next, within_some}
use Rattle.code_soundness.proofs.Rooms.{arrival_low}

pub take_all : (xs : List Instr) → take (length xs) xs ≡ xs
take_all [] = refl
take_all (x ∷ xs) = ap (λ ys. x ∷ ys) (take_all xs)

-- ---- one instruction

one_result : (r : Option ValueKind) → length (one_or_none r) ≤ 1
one_result None = omega arith
one_result (Some x) = omega arith

one_of_block : (o : Option CodeBlock) → length (result_kinds o) ≤ 1
one_of_block None = omega arith
one_of_block (Some b) = one_result b.result

module _ (code : Code) (b : CodeBlock) where
  gives_one : (x : Instr) → length (gives code b x) ≤ 1
  gives_one (i.Apply n) = one_of_block (slice_get code.blocks n)
  gives_one (i.Call n) = one_of_block (slice_get code.blocks n)
  gives_one _ = omega arith

  one_more : (shape : Shape) (x : Instr) → length (shape_after code b shape x) ≤ length shape + 1
  one_more shape x =
      let k = length (takes code b shape x) in
      let a = append_length (gives code b x) (drop k shape) in
      let g = gives_one x in
      let d = length-drop k shape in
      omega (arith, a, g, d)

  -- ---- place after place

  greatest_before : (at : ℕ) → at ≤ length b.instrs → greatest_depth code b (before code b at) ≤ at
  greatest_before zero h = (let e : greatest_depth code b (before code b zero) ≡ 0 = refl in omega (arith, e))
  greatest_before (suc at) h =
      let x = within_some b.instrs at (omega (arith, h)) in
      let e = ap (greatest_depth code b) (before_next code b at x.0 x.1) in
      let r = greatest_before at (omega (arith, h)) in
      let a = arrival_low code b (before code b at) in
      let o = one_more (note_at code b at).shape x.0 in
      omega (arith, e, r, a, o)

  pub depth_whole : greatest_depth code b (gone code b [] b.instrs) ≤ length b.instrs
  depth_whole =
      let g = greatest_before (length b.instrs) (omega arith) in
      let w = ap (λ xs. greatest_depth code b (gone code b [] xs)) (take_all b.instrs) in
      omega (arith, g, w)
