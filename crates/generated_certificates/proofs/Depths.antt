-- The code of an expression that a text can nest has at most 2,406 words on the stack.
use Rattle.std.proofs.Common.{◌≡◌, ◌≤◌, ℕ, ◌+◌, ◌*◌, max, true, ◌&&◌, List, [], ◌∷◌, length, arith}
use Rattle.std.specs.Prelude.{nat_le}
use Rattle.std.proofs.lemmas.Bool.Decides.{nat_tests}
use Rattle.rev_num.specs.declared.value.ValueKind.{ValueKind}
use Rattle.rev_syntax.specs.Trees.{Parameter, Expression, placed, ExpressionForm, Expressions, Links, int, bool, no_rev, var, cell, apply, input, inputs, pick, unary, chain, no_expressions, expression, no_links, link}
use Rattle.rev_syntax.specs.Small.{nodes_around, nodes_around_part, nodes_around_args, nodes_around_links, chains_around, chains_around_part, chains_around_args, chains_around_links, expression_formed, expression_small, expressions_small}
use Rattle.name_tables.specs.Names.{Name}
use Rattle.typed_programs.specs.Kinds.{Callee, Names, Locals, given_kind}
use Rattle.expression_meaning.proofs.Typed.{Typed, FormTyped, ArgsTyped, LinksTyped}
use Rattle.typed_programs.proofs.Lists.{and_parts}
use Rattle.generated_certificates.specs.Expressions.{expression_depth, form_depth, expressions_depth, links_depth}

module _ (c : Names) (l : Locals) (Can : Name → Callee → Type 0)
    (few : (name : Name) (f : Callee) → Can name f → length f.params ≤ 8) where
  apply_deep : (many : ℕ) (args : Expressions) → many ≤ 8
      → expressions_depth args + 7 ≤ many + max 7 (7 * nodes_around_args args + chains_around_args args)
      → max 1 (expressions_depth args) ≤ 1 + 7 * nodes_around_args args + chains_around_args args
  apply_deep many no_expressions h k = omega arith
  apply_deep many (expression e rest) h k = omega (arith, h, k)

  mutual
    pub not_deep : (e : Expression) (t : ValueKind) → Typed c l Can e t
        → expression_depth e ≤ 1 + 7 * nodes_around e + chains_around e
    not_deep (placed p form) t h = form_not_deep form t h

    form_not_deep : (form : ExpressionForm) (t : ValueKind) → FormTyped c l Can form t
        → form_depth form ≤ 1 + 7 * nodes_around_part form + chains_around_part form
    form_not_deep (int z) t h = omega arith
    form_not_deep (bool z) t h = omega arith
    form_not_deep no_rev t h = omega arith
    form_not_deep (var w) t h = omega arith
    form_not_deep (inputs p) t h = omega arith
    form_not_deep (cell w index) t h = let r = not_deep index _ h.1 in omega (arith, r)
    form_not_deep (apply w args) t h =
        apply_deep (length h.0.params) args (few w.text h.0 h.3) (args_not_deep h.0.params args h.4)
    form_not_deep (input p index) t h = let r = not_deep index _ h.2 in omega (arith, r)
    form_not_deep (pick test x y) t h =
        let r = not_deep test _ h.0 in let s = not_deep x _ h.1 in let u = not_deep y _ h.2 in omega (arith, r, s, u)
    form_not_deep (unary op e) t h = let r = not_deep e _ h.1 in omega (arith, r)
    form_not_deep (chain first rest) t h =
        let r = not_deep first _ h.1 in let s = links_not_deep rest h.0 t h.2 in omega (arith, r, s)

    args_not_deep : (ps : List Parameter) (args : Expressions) → ArgsTyped c l Can ps args
        → expressions_depth args + 7 ≤ length ps + max 7 (7 * nodes_around_args args + chains_around_args args)
    args_not_deep [] no_expressions h = omega arith
    args_not_deep [] (expression e rest) h = absurd h
    args_not_deep (p ∷ ps) no_expressions h = absurd h
    args_not_deep (p ∷ ps) (expression e rest) h =
        let r = not_deep e _ h.0 in let s = args_not_deep ps rest h.1 in omega (arith, r, s)

    links_not_deep : (rest : Links) (left t : ValueKind) → LinksTyped c l Can left rest t
        → links_depth rest ≤ 2 + 7 * nodes_around_links rest + chains_around_links rest
    links_not_deep no_links left t h = omega arith
    links_not_deep (link op e rest) left t h =
        let r = not_deep e _ h.1 in let s = links_not_deep rest (given_kind op) t h.4 in omega (arith, r, s)

  -- of one that a text can nest
  pub small_depth : (e : Expression) (t : ValueKind) → Typed c l Can e t → expression_small e ≡ true
      → expression_depth e ≤ 2406
  small_depth e t h s =
      let p = and_parts (expression_formed e && nat_le (nodes_around e) 200) (nat_le (chains_around e) 1005) s in
      let q = and_parts (expression_formed e) (nat_le (nodes_around e) 200) p.0 in
      let q1 = q.1 in
      let p1 = p.1 in
      let x : nodes_around e ≤ 200 = grind (arith, nat_tests, q1) in
      let y : chains_around e ≤ 1005 = grind (arith, nat_tests, p1) in
      let r = not_deep e t h in
      omega (arith, x, y, r)

  pub small_args_depth : (ps : List Parameter) (args : Expressions) → ArgsTyped c l Can ps args
      → expressions_small args ≡ true → expressions_depth args ≤ length ps + 2406
  small_args_depth [] no_expressions h s = omega arith
  small_args_depth [] (expression e rest) h s = absurd h
  small_args_depth (p ∷ ps) no_expressions h s = absurd h
  small_args_depth (p ∷ ps) (expression e rest) h s =
      let q = and_parts (expression_small e) (expressions_small rest) s in
      let x = small_depth e _ h.0 q.0 in
      let y = small_args_depth ps rest h.1 q.1 in
      omega (arith, x, y)
