-- Blocks that stand in the code, statement by statement, and arms, one by one.
use Rattle.std.proofs.Common.{◌≡◌, ◌&&◌, ℕ, zero, suc, ◌+◌, Bool, IsTrue, Option, Some, None, List, ◌∷◌, ◌++◌, length, refl, sym, subst, arith}
use Rattle.std.specs.Prelude.{slice_get}
use Rattle.rev_num.specs.declared.value.ValueKind.{ValueKind}
use Rattle.rev_num.specs.declared.value.ValueKind.TheVariants as k
use Rattle.rev_syntax.specs.Trees.{Expression, Statement, Statements, no_statements, statements, Arms, arm}
use Rattle.rev_syntax.specs.Small.{expression_small, statement_small, statements_small, arms_small}
use Rattle.typed_programs.specs.Kinds.{Locals}
use Rattle.typed_programs.specs.Typing.{HasKind}
use Rattle.typed_programs.proofs.Lists.{and_parts}
use Rattle.typed_programs.specs.Judgement.{ArmsTyped}
use Rattle.typed_programs.specs.Limits.{statement_lets, statements_lets}
use Rattle.typed_programs.specs.Scopes.{locals_after}
use Rattle.typed_programs.proofs.Scopes.{statement_scope}
use Rattle.revision_calculus.specs.Program.{Setting}
use Rattle.revision_calculus.specs.Kinded.{names}
use Rattle.revision_calculus.specs.Step.{append}
use Rattle.rev_code.specs.declared.code.Instr.{Instr}
use Rattle.rev_code.specs.declared.code.Instr.TheVariants as i
use Rattle.rev_code.specs.declared.code.CodeBlock.{CodeBlock}
use Rattle.code_generation.specs.Numbers.{Scope, scope_after}
use Rattle.code_generation.specs.Expressions.{expression_size, expression_code}
use Rattle.code_generation.specs.Sizes.{statement_size, statements_size, leap_size, statement_prints, statements_prints}
use Rattle.code_generation.specs.Statements.{Spot, behind_statement, in_arm, next_arm, leap, statement_code, statements_code, arms_code}
use Rattle.code_generation.specs.Prints.{statement_kinds, statements_kinds, arms_kinds, statement_texts, statements_texts, arms_texts, statement_layouts, statements_layouts, arms_layouts}
use Rattle.code_generation.specs.Stands.{HasAt, HasItems}
use Rattle.code_generation.proofs.Standing.{parts_stand, around_stands}
use Rattle.code_generation.proofs.Lengths.{around, two, leap_length, expression_length, statement_length, statements_length, statements_locals, statements_prints_length, statement_locals, statement_prints_length}
use Rattle.expression_meaning.specs.Places.{Tables, IsWithin, AreNames, StatementStands, BlockStands, Leads, LeadsTo, EndAt, Follows}
use Rattle.expression_meaning.proofs.Parts.{within_self, within_trans, statement_within, names_later, names_after}

module _ (s : Setting) (g : Tables) (b : CodeBlock) where
  -- ---- the first statement of a block, and the others

  pub record Split (scope : Scope) (l : Locals) (sp : Spot) (text : ℕ) (x : Statement) (xs : Statements) : Type 0 where
    pub after : Locals
    pub first : StatementStands s g b scope l sp text x after
    pub others : BlockStands s g b (scope_after scope sp.local x) after (behind_statement g.numbers sp x)
        (text + length (statement_texts x)) xs

  pub split : (scope : Scope) (l : Locals) (sp : Spot) (text : ℕ) (x : Statement) (xs : Statements)
      → BlockStands s g b scope l sp text (statements x xs) → Split scope l sp text x xs
  split scope l sp text x xs st =
      let after : Locals = st.typed.0 in
      let is = sym (statement_scope (names s) b.result l after x st.typed.1) in
      let small = and_parts (statement_small x) (statements_small xs) st.small in
      let code =
      parts_stand b.instrs (statement_code g.numbers scope x sp)
      (statements_code g.numbers (scope_after scope sp.local x) xs (behind_statement g.numbers sp x)) sp.at
      (statement_size g.numbers x) (statement_length g.numbers scope x sp) st.code in
      let kinds =
      parts_stand b.locals (statement_kinds (names s) l x) (statements_kinds (names s) (locals_after (names s) l x) xs)
      sp.local (statement_lets x) (statement_locals (names s) l x) st.kinds in
      let layouts =
      parts_stand g.setting.code.layouts (statement_layouts (names s) l text x)
      (statements_layouts (names s) (locals_after (names s) l x) (text + length (statement_texts x)) xs) sp.layout
      (statement_prints x) (statement_prints_length (names s) l text x) st.layouts in
      let texts =
      parts_stand g.setting.code.texts (statement_texts x) (statements_texts xs) text (length (statement_texts x)) refl
      st.texts in
      record {
        after = after;
        first = record {
          known = st.known;
          typed = st.typed.1;
          small = small.0;
          code = code.0;
          kinds = kinds.0;
          layouts = layouts.0;
          texts = texts.0;
        };
        others = record {
          known = names_after b.locals (names s) b.result scope l sp.local x after st.known st.typed.1 kinds.0;
          typed = st.typed.2;
          small = small.1;
          code = code.1;
          kinds = subst (λ y. HasItems b.locals (sp.local + statement_lets x) (statements_kinds (names s) y xs)) is
              kinds.1;
          layouts = subst (λ y.
              HasItems g.setting.code.layouts (sp.layout + statement_prints x)
              (statements_layouts (names s) y (text + length (statement_texts x)) xs))
              is layouts.1;
          texts = texts.1;
        };
      }

  -- ---- what remains

  pub leads_before : (n at to place : ℕ) → Leads s g b n at to → LeadsTo s g b to place → LeadsTo s g b at place
  leads_before zero at to place e h = subst (λ m. LeadsTo s g b m place) (sym e) h
  leads_before (suc n) at to place e h = let q = leads_before n e.0 to place e.2 h in (suc q.0, (e.0, e.1, q.1))

  end_before : (result : Option ValueKind) (n at to : ℕ) → Leads s g b n at to → EndAt s g b result to
      → EndAt s g b result at
  end_before None n at to e h = (h.0, leads_before n at to h.0 e h.1, h.2)
  end_before (Some t) n at to e h = tt

  pub follows_before : (scope : Scope) (rest : Statements) (n at to : ℕ) → Leads s g b n at to
      → Follows s g b scope rest to → Follows s g b scope rest at
  follows_before scope no_statements n at to e h = end_before b.result n at to e h
  follows_before scope (statements x rest) n at to e h =
      (h.0, h.1, h.2, h.3, h.4, leads_before n at to h.3.at e h.5, h.6, h.7, h.8)

  pub follows_wider : (inner outer : Scope) (rest : Statements) (at : ℕ) → IsWithin inner outer
      → Follows s g b inner rest at → Follows s g b outer rest at
  follows_wider inner outer no_statements at inside h = h
  follows_wider inner outer (statements x rest) at inside h =
      (h.0, h.1, h.2, h.3, h.4, h.5, within_trans h.0 inner outer h.6 inside, h.7, h.8)

  -- a block before what remains
  pub block_follows : (outer scope : Scope) (l : Locals) (sp : Spot) (text : ℕ) (xs rest : Statements)
      → BlockStands s g b scope l sp text xs → IsWithin outer scope
      → Follows s g b outer rest (sp.at + statements_size g.numbers xs) → Follows s g b scope (append xs rest) sp.at
  block_follows outer scope l sp text no_statements rest st inside h =
      follows_wider outer scope rest sp.at inside
      (subst (λ p. Follows s g b outer rest p) (let z : sp.at + 0 ≡ sp.at = omega arith in z) h)
  block_follows outer scope l sp text (statements x xs) rest st inside h =
      let d = split scope l sp text x xs st in
      let next : Spot = behind_statement g.numbers sp x in
      let later =
      block_follows outer (scope_after scope sp.local x) d.after next (text + length (statement_texts x)) xs rest
      d.others (within_trans outer scope (scope_after scope sp.local x) inside (statement_within scope sp.local x))
      (subst (λ p. Follows s g b outer rest p)
      (let z : sp.at + (statement_size g.numbers x + statements_size g.numbers xs)
      ≡ sp.at + statement_size g.numbers x + statements_size g.numbers xs = omega arith in
      z)
      h) in
      (scope, l, d.after, sp, text, (0, refl), within_self scope, d.first, later)

  -- ---- arms

  pub record ArmsStand (scope : Scope) (l : Locals) (sp : Spot) (text : ℕ) (has_last : Bool) (arms : Arms)
      (end : ℕ) : Type 0 where
    pub known : AreNames b.locals scope l sp.local
    pub typed : ArmsTyped (names s) b.result l arms
    pub small : IsTrue (arms_small arms)
    pub code : HasAt b.instrs sp.at (arms_code g.numbers scope has_last arms end sp)
    pub kinds : HasItems b.locals sp.local (arms_kinds (names s) l arms)
    pub layouts : HasItems g.setting.code.layouts sp.layout (arms_layouts (names s) l text arms)
    pub texts : HasItems g.setting.code.texts text (arms_texts arms)

  -- a test, the jump over its block, the block, the jump behind it, and the other arms
  pub record Arm (scope : Scope) (l : Locals) (sp : Spot) (text : ℕ) (has_last : Bool) (test : Expression)
      (body : Statements) (rest : Arms) (end : ℕ) : Type 0 where
    pub kind : HasKind (names s) l test k.Bool
    pub small : IsTrue (expression_small test)
    pub code : HasAt b.instrs sp.at (expression_code g.numbers scope test sp.at)
    pub jump : slice_get b.instrs (sp.at + expression_size test)
        ≡ Some (i.JumpIfFalse (next_arm g.numbers sp has_last test body rest).at)
    pub block : BlockStands s g b scope l (in_arm sp test) text body
    pub leap :
        HasAt b.instrs (sp.at + expression_size test + 1 + statements_size g.numbers body) (leap has_last rest end)
    pub others : ArmsStand scope l (next_arm g.numbers sp has_last test body rest)
        (text + length (statements_texts body)) has_last rest end

  pub first_arm : (scope : Scope) (l : Locals) (sp : Spot) (text : ℕ) (has_last : Bool) (test : Expression)
      (body : Statements) (rest : Arms) (end : ℕ)
      → ArmsStand scope l sp text has_last (arm test body rest) end
      → Arm scope l sp text has_last test body rest end
  first_arm scope l sp text has_last test body rest end st =
      let next : Spot = next_arm g.numbers sp has_last test body rest in
      let tested : List Instr =
      expression_code g.numbers scope test sp.at ++ i.JumpIfFalse next.at
      ∷ statements_code g.numbers scope body (in_arm sp test) in
      let m : ℕ = expression_size test + 1 + statements_size g.numbers body in
      let whole =
      around (expression_code g.numbers scope test sp.at) (statements_code g.numbers scope body (in_arm sp test))
      (i.JumpIfFalse next.at) (expression_size test) (statements_size g.numbers body)
      (expression_length g.numbers scope test sp.at) (statements_length g.numbers scope body (in_arm sp test)) in
      let both =
      two tested (leap has_last rest end) m (leap_size has_last rest) whole (leap_length has_last rest end) in
      let outer =
      parts_stand b.instrs (tested ++ leap has_last rest end) (arms_code g.numbers scope has_last rest end next) sp.at
      (m + leap_size has_last rest) both st.code in
      let inner = parts_stand b.instrs tested (leap has_last rest end) sp.at m whole outer.0 in
      let parts =
      around_stands b.instrs (expression_code g.numbers scope test sp.at)
      (statements_code g.numbers scope body (in_arm sp test)) (i.JumpIfFalse next.at) sp.at (expression_size test)
      (in_arm sp test).at
      (expression_length g.numbers scope test sp.at)
      (let z : sp.at + (expression_size test + 1) ≡ sp.at + expression_size test + 1 = omega arith in z) inner.0 in
      let small = and_parts (expression_small test && statements_small body) (arms_small rest) st.small in
      let smalls = and_parts (expression_small test) (statements_small body) small.0 in
      let kinds =
      parts_stand b.locals (statements_kinds (names s) l body) (arms_kinds (names s) l rest) sp.local
      (statements_lets body) (statements_locals (names s) l body) st.kinds in
      let layouts =
      parts_stand g.setting.code.layouts (statements_layouts (names s) l text body)
      (arms_layouts (names s) l (text + length (statements_texts body)) rest) sp.layout (statements_prints body)
      (statements_prints_length (names s) l text body) st.layouts in
      let texts =
      parts_stand g.setting.code.texts (statements_texts body) (arms_texts rest) text (length (statements_texts body))
      refl st.texts in
      record {
        kind = st.typed.0;
        small = smalls.0;
        code = parts.0;
        jump = parts.1.0;
        block = record {
          known = st.known;
          typed = st.typed.1;
          small = smalls.1;
          code = parts.1.1;
          kinds = kinds.0;
          layouts = layouts.0;
          texts = texts.0;
        };
        leap = subst (λ p. HasAt b.instrs p (leap has_last rest end))
            (let z : sp.at + (expression_size test + 1 + statements_size g.numbers body)
            ≡ sp.at + expression_size test + 1 + statements_size g.numbers body = omega arith in
            z)
            inner.1;
        others = record {
          known = names_later b.locals scope l sp.local (sp.local + statements_lets body) (omega arith) st.known;
          typed = st.typed.2;
          small = small.1;
          code = subst (λ p. HasAt b.instrs p (arms_code g.numbers scope has_last rest end next))
              (let z : sp.at + (expression_size test + 1 + statements_size g.numbers body + leap_size has_last rest)
              ≡ sp.at + (expression_size test + 1) + statements_size g.numbers body + leap_size has_last rest =
              omega arith in
              z)
              outer.1;
          kinds = kinds.1;
          layouts = layouts.1;
          texts = texts.1;
        };
      }
