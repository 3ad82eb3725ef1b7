-- The code of a loop and of an arm, whose first jump gets its target once its block stands.
--
--   tested_long    how long the code is behind the test and the jump
--   loop_written   a loop
--   arm_written    an arm
use Rattle.std.proofs.Common.{◌≡◌, ℕ, ◌+◌, Bool, true, false, List, [], ◌∷◌, ◌++◌, length, refl, ap, ◌∙◌, arith, append_assoc, length-append}
use Rattle.std.specs.Prelude.{slice_set}
use Rattle.rev_syntax.specs.Trees.{Expression, Statements, repeat}
use Rattle.rev_code.specs.declared.code.Instr.{Instr}
use Rattle.rev_code.specs.declared.code.Instr.TheVariants as i
use Rattle.code_generation.specs.Numbers.{Numbers, Scope}
use Rattle.code_generation.specs.Expressions.{expression_size, expression_code}
use Rattle.code_generation.specs.Sizes.{statements_size}
use Rattle.code_generation.specs.Statements.{Spot, in_arm, behind_block, statements_code, statement_form_code}
use Rattle.code_generation.proofs.Lengths.{expression_length, statements_length}
use Rattle.emit_code.specs.Bodies.{closed, leap_or, leap_long, arm_code}
use Rattle.emit_code.proofs.Forms.{skipped}

-- a test with its jump, a block and what stands behind, where the jump gets its target at the end
armed : (c t b l c1 c2 c3 c4 : List Instr) (test to : ℕ) → c1 ≡ c ++ t → test ≡ length c1
    → c2 ≡ c1 ++ i.JumpIfFalse 0 ∷ [] → c3 ≡ c2 ++ b → c4 ≡ c3 ++ l
    → slice_set c4 test (i.JumpIfFalse to) ≡ c ++ ((t ++ i.JumpIfFalse to ∷ b) ++ l)
armed c t b l c1 c2 c3 c4 test to e1 et e2 e3 e4 =
    let whole : c4 ≡ ((c1 ++ i.JumpIfFalse 0 ∷ []) ++ b) ++ l = e4 ∙ ap (λ x. x ++ l) (e3 ∙ ap (λ x. x ++ b) e2) in
    ap (λ x. slice_set x test (i.JumpIfFalse to)) whole
    ∙ ap (λ k. slice_set (((c1 ++ i.JumpIfFalse 0 ∷ []) ++ b) ++ l) k (i.JumpIfFalse to)) et
    ∙ skipped c1 b l (i.JumpIfFalse 0) (i.JumpIfFalse to)
    ∙ ap (λ x. x ++ i.JumpIfFalse to ∷ (b ++ l)) e1
    ∙ (let last : (c ++ t) ++ i.JumpIfFalse to ∷ (b ++ l) ≡ c ++ ((t ++ i.JumpIfFalse to ∷ b) ++ l) =
    simp append_assoc in
    last)

abbrev pub spot : (at local layout : ℕ) → Spot
spot at local layout = record { at = at; local = local; layout = layout }

pub leap_or_long : (more : Bool) → length (leap_or more) ≡ leap_long more
leap_or_long true = refl
leap_or_long false = refl

module _ (n : Numbers) (scope : Scope) (test : Expression) (local layout : ℕ) where
  pub tested_long : (c0 c1 c2 : List Instr) → length c1 ≡ length c0 + expression_size test
      → c2 ≡ c1 ++ i.JumpIfFalse 0 ∷ []
      → length c2 ≡ length c0 + (expression_size test + 1)
  tested_long c0 c1 c2 e1 e2 =
      let a = ap length e2 in let b = length-append c1 (i.JumpIfFalse 0 ∷ []) in
      omega (arith, e1, a, b)

  pub block_long : (body : Statements) (s : Spot) (c2 c3 : List Instr) → c3 ≡ c2 ++ statements_code n scope body s
      → length c3 ≡ length c2 + statements_size n body
  block_long body s c2 c3 e =
      let a = ap length e in
      let b = length-append c2 (statements_code n scope body s) in
      let l = statements_length n scope body s in
      omega (arith, a, b, l)

  -- the block stands where it should
  moved : (body : Statements) (c0 c1 c2 c3 : List Instr) → length c1 ≡ length c0 + expression_size test
      → c2 ≡ c1 ++ i.JumpIfFalse 0 ∷ []
      → c3 ≡ c2 ++ statements_code n scope body (spot (length c2) local layout)
      → c3 ≡ c2 ++ statements_code n scope body (in_arm (spot (length c0) local layout) test)
  moved body c0 c1 c2 c3 l1 e2 e3 =
      e3 ∙ ap (λ k. c2 ++ statements_code n scope body (spot k local layout)) (tested_long c0 c1 c2 l1 e2)

  pub loop_written : (body : Statements) (head at : ℕ) (c0 c1 c2 c3 c4 : List Instr)
      → c1 ≡ c0 ++ expression_code n scope test (length c0) → length c1 ≡ length c0 + expression_size test
      → at ≡ length c1
      → c2 ≡ c1 ++ i.JumpIfFalse 0 ∷ []
      → c3 ≡ c2 ++ statements_code n scope body (spot (length c2) local layout)
      → c4 ≡ closed at head c3
      → c4 ≡ c0 ++ statement_form_code n scope (repeat test body) head (spot (length c0) local layout)
  loop_written body head at c0 c1 c2 c3 c4 e1 l1 ea e2 e3 e4 =
      let t : List Instr = expression_code n scope test (length c0) in
      let b : List Instr = statements_code n scope body (in_arm (spot (length c0) local layout) test) in
      let l2 = tested_long c0 c1 c2 l1 e2 in
      let l3 = block_long body (spot (length c2) local layout) c2 c3 e3 in
      let to : length c3 + 1 ≡ length c0 + expression_size test + 1 + statements_size n body + 1 =
      omega (arith, l2, l3) in
      e4
      ∙ armed c0 t b (i.Jump head ∷ []) c1 c2 c3 (c3 ++ i.Jump head ∷ []) at (length c3 + 1) e1 ea e2
      (moved body c0 c1 c2 c3 l1 e2 e3) refl
      ∙ ap (λ k. c0 ++ ((t ++ i.JumpIfFalse k ∷ b) ++ i.Jump head ∷ [])) to

  pub arm_written : (body : Statements) (more : Bool) (at to : ℕ) (c0 c1 c2 c3 c4 c5 : List Instr)
      → c1 ≡ c0 ++ expression_code n scope test (length c0) → length c1 ≡ length c0 + expression_size test
      → at ≡ length c1
      → c2 ≡ c1 ++ i.JumpIfFalse 0 ∷ []
      → c3 ≡ c2 ++ statements_code n scope body (spot (length c2) local layout)
      → c4 ≡ c3 ++ leap_or more
      → to ≡ length c4
      → c5 ≡ slice_set c4 at (i.JumpIfFalse to)
      → c5 ≡ c0 ++ arm_code n scope more test body (spot (length c0) local layout)
  arm_written body more at to c0 c1 c2 c3 c4 c5 e1 l1 ea e2 e3 e4 eo e5 =
      let t : List Instr = expression_code n scope test (length c0) in
      let b : List Instr = statements_code n scope body (in_arm (spot (length c0) local layout) test) in
      let l2 = tested_long c0 c1 c2 l1 e2 in
      let l3 = block_long body (spot (length c2) local layout) c2 c3 e3 in
      let l4 = ap length e4 in let a4 = length-append c3 (leap_or more) in let o4 = leap_or_long more in
      let lands : to ≡ (behind_block n (in_arm (spot (length c0) local layout) test) body).at + leap_long more =
      omega (arith, l2, l3, l4, a4, o4, eo) in
      e5
      ∙ armed c0 t b (leap_or more) c1 c2 c3 c4 at to e1 ea e2 (moved body c0 c1 c2 c3 l1 e2 e3) e4
      ∙ ap (λ k. c0 ++ ((t ++ i.JumpIfFalse k ∷ b) ++ leap_or more)) lands

  pub arm_long : (body : Statements) (more : Bool) (s : Spot) (c0 c5 : List Instr)
      → c5 ≡ c0 ++ arm_code n scope more test body s
      → length c5 ≡ length c0 + (expression_size test + 1 + statements_size n body + leap_long more)
  arm_long body more s c0 c5 e =
      let t : List Instr = expression_code n scope test s.at in
      let b : List Instr = statements_code n scope body (in_arm s test) in
      let j : Instr = i.JumpIfFalse ((behind_block n (in_arm s test) body).at + leap_long more) in
      let a = ap length e in
      let p = length-append c0 ((t ++ j ∷ b) ++ leap_or more) in
      let q = length-append (t ++ j ∷ b) (leap_or more) in
      let r = length-append t (j ∷ b) in
      let x = expression_length n scope test s.at in
      let y = statements_length n scope body (in_arm s test) in
      let z = leap_or_long more in
      omega (arith, a, p, q, r, x, y, z)
