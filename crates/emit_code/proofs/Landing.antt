-- The jumps of an `if` to its end: written with no target, and then over with it.
--
--   landed_arms   the code of the arms with the target
use Rattle.std.proofs.Common.{◌≡◌, ℕ, ◌+◌, Bool, true, false, List, [], ◌∷◌, ◌++◌, length, refl, ap, sym, ◌∙◌, arith, append_assoc, length-append}
use Rattle.std.specs.Prelude.{slice_set}
use Rattle.std.proofs.Math.Seq.{set-append_seam}
use Rattle.rev_syntax.specs.Trees.{Expression, Statements, Arms, no_arms, arm}
use Rattle.rev_code.specs.declared.code.Instr.{Instr}
use Rattle.rev_code.specs.declared.code.Instr.TheVariants as i
use Rattle.code_generation.specs.Numbers.{Numbers, Scope}
use Rattle.code_generation.specs.Expressions.{expression_size, expression_code}
use Rattle.code_generation.specs.Sizes.{statements_size}
use Rattle.code_generation.specs.Statements.{Spot, leap, in_arm, next_arm, statements_code, arms_code}
use Rattle.code_generation.proofs.Lengths.{around, leap_length, expression_length, statements_length}
use Rattle.emit_code.specs.Bodies.{landed, leaps_at}

one_lands : (c t r tail : List Instr) (at end : ℕ) → at ≡ length c + length t
    → slice_set (c ++ (((t ++ i.Jump 0 ∷ []) ++ r) ++ tail)) at (i.Jump end)
    ≡ (c ++ (t ++ i.Jump end ∷ [])) ++ (r ++ tail)
one_lands c t r tail at end e =
    let flat : c ++ (((t ++ i.Jump 0 ∷ []) ++ r) ++ tail) ≡ (c ++ t) ++ i.Jump 0 ∷ (r ++ tail) = simp append_assoc in
    ap (λ l. slice_set l at (i.Jump end)) flat
    ∙ ap (λ k. slice_set ((c ++ t) ++ i.Jump 0 ∷ (r ++ tail)) k (i.Jump end)) (e ∙ sym (length-append c t))
    ∙ set-append_seam (c ++ t) (i.Jump 0) (r ++ tail) (i.Jump end)
    ∙ (let last : (c ++ t) ++ i.Jump end ∷ (r ++ tail) ≡ (c ++ (t ++ i.Jump end ∷ [])) ++ (r ++ tail) =
    simp append_assoc in
    last)

within : (c a r tail : List Instr) → (c ++ a) ++ (r ++ tail) ≡ c ++ ((a ++ r) ++ tail)
within c a r tail = simp append_assoc

module _ (n : Numbers) (scope : Scope) where
  -- up to the jump behind an arm
  tested_long : (test : Expression) (body : Statements) (to : ℕ) (s : Spot)
      → length (expression_code n scope test s.at ++ i.JumpIfFalse to ∷ statements_code n scope body (in_arm s test))
      ≡ expression_size test + 1 + statements_size n body
  tested_long test body to s =
      around (expression_code n scope test s.at) (statements_code n scope body (in_arm s test)) (i.JumpIfFalse to)
      (expression_size test) (statements_size n body) (expression_length n scope test s.at)
      (statements_length n scope body (in_arm s test))

  -- where the next arm stands
  next_stands : (has_last : Bool) (test : Expression) (body : Statements) (rest : Arms) (end : ℕ) (s : Spot)
      (c : List Instr)
      → s.at ≡ length c
      → (next_arm n s has_last test body rest).at
      ≡ length (c
      ++ ((expression_code n scope test s.at ++ i.JumpIfFalse (next_arm n s has_last test body rest).at
      ∷ statements_code n scope body (in_arm s test))
      ++ leap has_last rest end))
  next_stands has_last test body rest end s c e =
      let to : ℕ = (next_arm n s has_last test body rest).at in
      let t : List Instr =
      expression_code n scope test s.at ++ i.JumpIfFalse to ∷ statements_code n scope body (in_arm s test) in
      let a = tested_long test body to s in
      let b = leap_length has_last rest end in
      let d = length-append t (leap has_last rest end) in
      let f = length-append c (t ++ leap has_last rest end) in
      omega (arith, a, b, d, f, e)

  abbrev up_to_leap : (has_last : Bool) → Expression → Statements → (rest : Arms) → Spot → List Instr
  up_to_leap has_last test body rest s =
      expression_code n scope test s.at ++ i.JumpIfFalse (next_arm n s has_last test body rest).at
      ∷ statements_code n scope body (in_arm s test)

  -- the first arm's jump, before those behind it
  first_lands : (has_last : Bool) (test : Expression) (body : Statements) (rest : Arms) (end : ℕ) (s : Spot)
      (c tail : List Instr)
      → s.at ≡ length c
      → landed (leaps_at n has_last rest (next_arm n s has_last test body rest).at) end
      ((c ++ (up_to_leap has_last test body rest s ++ leap has_last rest end))
      ++ (arms_code n scope has_last rest 0 (next_arm n s has_last test body rest) ++ tail))
      ≡ (c ++ (up_to_leap has_last test body rest s ++ leap has_last rest end))
      ++ (arms_code n scope has_last rest end (next_arm n s has_last test body rest) ++ tail)
      → landed (leaps_at n has_last (arm test body rest) s.at) end
      (c ++ (arms_code n scope has_last (arm test body rest) 0 s ++ tail))
      ≡ c ++ (arms_code n scope has_last (arm test body rest) end s ++ tail)
  first_lands false test body no_arms end s c tail e behind = refl
  first_lands true test body no_arms end s c tail e behind =
      let t : List Instr = up_to_leap true test body no_arms s in
      let long = tested_long test body (next_arm n s true test body no_arms).at s in
      one_lands c t [] tail (s.at + (expression_size test + 1) + statements_size n body) end (omega (arith, long, e))
      ∙ within c (t ++ i.Jump end ∷ []) [] tail
  first_lands true test body (arm test2 body2 rest) end s c tail e behind =
      let next : Spot = next_arm n s true test body (arm test2 body2 rest) in
      let t : List Instr = up_to_leap true test body (arm test2 body2 rest) s in
      let long = tested_long test body next.at s in
      ap (λ l. landed (leaps_at n true (arm test2 body2 rest) next.at) end l)
      (one_lands c t (arms_code n scope true (arm test2 body2 rest) 0 next) tail
      (s.at + (expression_size test + 1) + statements_size n body) end (omega (arith, long, e)))
      ∙ behind
      ∙ within c (t ++ i.Jump end ∷ []) (arms_code n scope true (arm test2 body2 rest) end next) tail
  first_lands false test body (arm test2 body2 rest) end s c tail e behind =
      let next : Spot = next_arm n s false test body (arm test2 body2 rest) in
      let t : List Instr = up_to_leap false test body (arm test2 body2 rest) s in
      let long = tested_long test body next.at s in
      ap (λ l. landed (leaps_at n false (arm test2 body2 rest) next.at) end l)
      (one_lands c t (arms_code n scope false (arm test2 body2 rest) 0 next) tail
      (s.at + (expression_size test + 1) + statements_size n body) end (omega (arith, long, e)))
      ∙ behind
      ∙ within c (t ++ i.Jump end ∷ []) (arms_code n scope false (arm test2 body2 rest) end next) tail

  pub landed_arms : (has_last : Bool) (arms : Arms) (end : ℕ) (s : Spot) (c tail : List Instr) → s.at ≡ length c
      → landed (leaps_at n has_last arms s.at) end (c ++ (arms_code n scope has_last arms 0 s ++ tail))
      ≡ c ++ (arms_code n scope has_last arms end s ++ tail)
  landed_arms has_last no_arms end s c tail e = refl
  landed_arms has_last (arm test body rest) end s c tail e =
      first_lands has_last test body rest end s c tail e
      (landed_arms has_last rest end (next_arm n s has_last test body rest)
      (c ++ (up_to_leap has_last test body rest s ++ leap has_last rest end)) tail
      (next_stands has_last test body rest end s c e))
