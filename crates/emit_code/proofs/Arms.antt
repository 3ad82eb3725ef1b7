-- Arms, one after another.
--
--   more_is        whether something is behind an arm
--   arm_fits       there is room for an arm
--   arm_behind     the code of an arm, and of those behind it
--   leaps_behind   the places of their jumps to the end
--   if_written, if_else_written   an `if`, once its jumps to the end have landed
use Rattle.std.proofs.Common.{◌≡◌, ℕ, ◌+◌, ◌<◌, ◌^◌, Bool, true, false, ◌||◌, nat_lt, List, [], ◌∷◌, ◌++◌, length, refl, ap, sym, ◌∙◌, arith, append_assoc, append-nil}
use Rattle.rev_syntax.specs.Trees.{Expression, Statements, Arms, no_arms, arm, choose, choose_or}
use Rattle.rev_syntax.specs.View.{arms}
use Rattle.rev_syntax.specs.declared.tree.Arm.{Arm}
use Rattle.typed_programs.specs.Limits.{statements_lets, arms_lets}
use Rattle.rev_code.specs.declared.code.Instr.{Instr}
use Rattle.rev_code.specs.declared.code.Instr.TheVariants as i
use Rattle.code_generation.specs.Numbers.{Numbers, Scope}
use Rattle.code_generation.specs.Expressions.{expression_size, expression_code}
use Rattle.code_generation.specs.Sizes.{statements_size, statements_prints, leap_size, arms_size, arms_prints}
use Rattle.code_generation.specs.Statements.{Spot, in_arm, next_arm, behind_arms, leap, statements_code, statement_form_code, arms_code}
use Rattle.emit_code.specs.Bodies.{arm_code, arm_size, landed, leap_long, leaps_at, more_behind, place_or}
use Rattle.std.proofs.lemmas.Bool.{lt-ltb}
use Rattle.emit_code.proofs.Landing.{landed_arms}
use Rattle.emit_code.proofs.Loops.{spot}

pub more_is : (has_last : Bool) (rest : List Arm)
    → more_behind has_last (arms rest) ≡ has_last || nat_lt 0 (length rest)
more_is true [] = refl
more_is true (x ∷ rest) = refl
more_is false [] = refl
more_is false (x ∷ rest) = sym (lt-ltb 0 (length (x ∷ rest)) (omega arith))

long_is : (has_last : Bool) (rest : Arms) → leap_long (more_behind has_last rest) ≡ leap_size has_last rest
long_is true no_arms = refl
long_is false no_arms = refl
long_is true (arm test body rest) = refl
long_is false (arm test body rest) = refl

module _ (n : Numbers) where
  pub arm_fits : (has_last : Bool) (test : Expression) (body : Statements) (rest : Arms) (at size : ℕ)
      → at + arms_size n has_last (arm test body rest) ≡ size → size < 2 ^ 32
      → at + arm_size n (more_behind has_last rest) test body < 2 ^ 32
  arm_fits has_last test body rest at size e h = let l = long_is has_last rest in omega (arith, e, h, l)

  -- how much is behind an arm
  pub rest_long : (has_last : Bool) (test : Expression) (body : Statements) (rest : Arms) (c0 c1 : List Instr)
      → length c1 ≡ length c0 + arm_size n (more_behind has_last rest) test body
      → length c1 + arms_size n has_last rest ≡ length c0 + arms_size n has_last (arm test body rest)
  rest_long has_last test body rest c0 c1 e = let l = long_is has_last rest in omega (arith, e, l)

  next_at : (has_last : Bool) (test : Expression) (body : Statements) (rest : Arms) (c0 c1 : List Instr)
      → length c1 ≡ length c0 + arm_size n (more_behind has_last rest) test body
      → length c1 ≡ length c0 + (expression_size test + 1) + statements_size n body + leap_size has_last rest
  next_at has_last test body rest c0 c1 e = let l = long_is has_last rest in omega (arith, e, l)

  pub leaps_behind :
      (has_last : Bool) (test : Expression) (body : Statements) (rest : Arms) (c0 c1 : List Instr) (e0 e1 : List ℕ)
      → length c1 ≡ length c0 + arm_size n (more_behind has_last rest) test body
      → e1
      ≡ e0 ++ place_or (more_behind has_last rest) (length c0 + (expression_size test + 1) + statements_size n body)
      → e1 ++ leaps_at n has_last rest (length c1) ≡ e0 ++ leaps_at n has_last (arm test body rest) (length c0)
  leaps_behind has_last test body rest c0 c1 e0 e1 l e =
      let p : List ℕ =
      place_or (more_behind has_last rest) (length c0 + (expression_size test + 1) + statements_size n body) in
      let next : ℕ = length c0 + (expression_size test + 1) + statements_size n body + leap_size has_last rest in
      ap (λ k. e1 ++ leaps_at n has_last rest k) (next_at has_last test body rest c0 c1 l)
      ∙ ap (λ x. x ++ leaps_at n has_last rest next) e
      ∙ append_assoc e0 p (leaps_at n has_last rest next)

  module _ (scope : Scope) where
    arm_is : (has_last : Bool) (test : Expression) (body : Statements) (rest : Arms) (s : Spot)
        → arm_code n scope (more_behind has_last rest) test body s
        ≡ (expression_code n scope test s.at ++ i.JumpIfFalse (next_arm n s has_last test body rest).at
        ∷ statements_code n scope body (in_arm s test))
        ++ leap has_last rest 0
    arm_is true test body no_arms s = refl
    arm_is false test body no_arms s = refl
    arm_is true test body (arm test2 body2 rest) s = refl
    arm_is false test body (arm test2 body2 rest) s = refl

    pub arm_behind : (has_last : Bool) (test : Expression) (body : Statements) (rest : Arms) (c0 c1 : List Instr)
        (local local1 layout layout1 : ℕ)
        → length c1 ≡ length c0 + arm_size n (more_behind has_last rest) test body
        → local1 ≡ local + statements_lets body
        → layout1 ≡ layout + statements_prints body
        → c1 ≡ c0 ++ arm_code n scope (more_behind has_last rest) test body
        (record { at = length c0; local = local; layout = layout })
        → c1 ++ arms_code n scope has_last rest 0 (record { at = length c1; local = local1; layout = layout1 })
        ≡ c0
        ++ arms_code n scope has_last (arm test body rest) 0 (record { at = length c0; local = local; layout = layout })
    arm_behind has_last test body rest c0 c1 local local1 layout layout1 l el ey e =
        let s : Spot = spot (length c0) local layout in
        let next : Spot = next_arm n s has_last test body rest in
        let t : List Instr =
        (expression_code n scope test s.at ++ i.JumpIfFalse next.at ∷ statements_code n scope body (in_arm s test))
        ++ leap has_last rest 0 in
        let r : List Instr = arms_code n scope has_last rest 0 next in
        ap (λ k. c1 ++ arms_code n scope has_last rest 0 (spot k local1 layout1))
        (next_at has_last test body rest c0 c1 l)
        ∙ ap (λ k. c1 ++ arms_code n scope has_last rest 0 (spot next.at k layout1)) el
        ∙ ap (λ k. c1 ++ arms_code n scope has_last rest 0 (spot next.at next.local k)) ey
        ∙ ap (λ x. x ++ r) (e ∙ ap (λ x. c0 ++ x) (arm_is has_last test body rest s))
        ∙ append_assoc c0 t r

    pub if_written : (all : Arms) (c0 c1 c2 : List Instr) (ends : List ℕ) (local layout : ℕ)
        → c1 ≡ c0 ++ arms_code n scope false all 0 (spot (length c0) local layout)
        → length c1 ≡ length c0 + arms_size n false all
        → ends ≡ leaps_at n false all (length c0)
        → c2 ≡ landed ends (length c1) c1
        → c2 ≡ c0 ++ statement_form_code n scope (choose all) 0 (spot (length c0) local layout)
    if_written all c0 c1 c2 ends local layout e1 l1 ee e2 =
        let s : Spot = spot (length c0) local layout in
        let end : ℕ = length c0 + arms_size n false all in
        e2
        ∙ ap (λ x. landed x (length c1) c1) ee
        ∙ ap (λ k. landed (leaps_at n false all (length c0)) k c1) l1
        ∙ ap (λ x. landed (leaps_at n false all (length c0)) end x)
        (e1 ∙ ap (λ x. c0 ++ x) (sym (append-nil (arms_code n scope false all 0 s))))
        ∙ landed_arms n scope false all end s c0 [] refl
        ∙ ap (λ x. c0 ++ x) (append-nil (arms_code n scope false all end s))

    pub if_else_written :
        (all : Arms) (last : Statements) (c0 c1 c2 c3 : List Instr) (ends : List ℕ) (local local1 layout layout1 : ℕ)
        → c1 ≡ c0 ++ arms_code n scope true all 0 (spot (length c0) local layout)
        → length c1 ≡ length c0 + arms_size n true all
        → ends ≡ leaps_at n true all (length c0)
        → local1 ≡ local + arms_lets all
        → layout1 ≡ layout + arms_prints all
        → c2 ≡ c1 ++ statements_code n scope last (spot (length c1) local1 layout1)
        → length c2 ≡ length c1 + statements_size n last
        → c3 ≡ landed ends (length c2) c2
        → c3 ≡ c0 ++ statement_form_code n scope (choose_or all last) 0 (spot (length c0) local layout)
    if_else_written all last c0 c1 c2 c3 ends local local1 layout layout1 e1 l1 ee el ey e2 l2 e3 =
        let s : Spot = spot (length c0) local layout in
        let a : List Instr = arms_code n scope true all 0 s in
        let b : List Instr = statements_code n scope last (behind_arms n s true all) in
        let end : ℕ = length c0 + arms_size n true all + statements_size n last in
        let lands : length c2 ≡ end = omega (arith, l1, l2) in
        let whole : c2 ≡ c0 ++ (a ++ b) =
        e2
        ∙ ap (λ k. c1 ++ statements_code n scope last (spot k local1 layout1)) l1
        ∙ ap (λ k. c1 ++ statements_code n scope last (spot (length c0 + arms_size n true all) k layout1)) el
        ∙ ap
        (λ k. c1 ++ statements_code n scope last (spot (length c0 + arms_size n true all) (local + arms_lets all) k)) ey
        ∙ ap (λ x. x ++ b) e1
        ∙ append_assoc c0 a b in
        e3
        ∙ ap (λ x. landed x (length c2) c2) ee
        ∙ ap (λ k. landed (leaps_at n true all (length c0)) k c2) lands
        ∙ ap (λ x. landed (leaps_at n true all (length c0)) end x) whole
        ∙ landed_arms n scope true all end s c0 b refl
