-- An expression that has a kind keeps the rules on kinds link by link.
use Rattle.std.proofs.Common.{◌≡◌, ◌∙◌, ℕ, suc, ◌+◌, true, ◌&&◌, ◌||◌, List, [], ◌∷◌, length, Some, refl, sym, ap, subst, arith, true≢false}
use Rattle.std.specs.Prelude.{slice_get, nat_lt, ◌==◌, if◌then◌else◌}
use Rattle.std.proofs.lemmas.Bool.{eqb-true, and_parts}
use Rattle.rev_num.specs.declared.value.ValueKind.{ValueKind}
use Rattle.rev_num.specs.declared.value.ValueKind.TheVariants as k
use Rattle.rev_num.proofs.Options.{some_eq as some_is}
use Rattle.rev_syntax.specs.Trees.{Parameter, Expression, placed, ExpressionForm, Expressions, Links, int, bool, no_rev, var, cell, apply, input, inputs, pick, unary, chain, no_expressions, expression, no_links, link}
use Rattle.rev_syntax.specs.Small.{name_formed, expression_formed, expression_form_formed, expressions_formed, links_formed, strength, all_bind, is_chain}
use Rattle.rev_syntax.specs.declared.tree.BinaryOp.{BinaryOp}
use Rattle.rev_syntax.specs.declared.tree.BinaryOp.TheVariants as b
use Rattle.name_tables.specs.Names.{Name}
use Rattle.typed_programs.specs.FunRules.{count}
use Rattle.typed_programs.specs.Kinds.{Callee, Names, Locals, given_kind, links_kind}
use Rattle.typed_programs.specs.Typing.{TakesLeft, TakesFirst, TakesRightSide, HasKind, ExpressionFormHas, ArgsHave, LinksHave, IsOfKind}
use Rattle.expression_meaning.specs.Applying.{AllApply, FormApplies, ArgsApply, LinksApply}
use Rattle.expression_meaning.proofs.Typed.{Typed, FormTyped, ArgsTyped, LinksTyped}

-- ---- the operators of one chain

-- an operator that is no comparison
abbrev Alone : ℕ → Type 0
Alone n = nat_lt 3 n || nat_lt n 3 ≡ true

-- the kind of its operands, which is that of its value
abbrev side : ℕ → ValueKind
side n = if nat_lt 3 n then k.Int else k.Bool

takes_side : (op : BinaryOp) (left : ValueKind) → Alone (strength op) → TakesLeft op left → left ≡ side (strength op)
takes_side b.Add left a h = h
takes_side b.Sub left a h = h
takes_side b.Mul left a h = h
takes_side b.Div left a h = h
takes_side b.Rem left a h = h
takes_side b.And left a h = h
takes_side b.Or left a h = h
takes_side b.Eq left a h = absurd (true≢false (sym a))
takes_side b.Ne left a h = absurd (true≢false (sym a))
takes_side b.Lt left a h = absurd (true≢false (sym a))
takes_side b.Le left a h = absurd (true≢false (sym a))
takes_side b.Gt left a h = absurd (true≢false (sym a))
takes_side b.Ge left a h = absurd (true≢false (sym a))

side_takes : (op : BinaryOp) (left : ValueKind) → Alone (strength op) → left ≡ side (strength op) → TakesLeft op left
side_takes b.Add left a h = h
side_takes b.Sub left a h = h
side_takes b.Mul left a h = h
side_takes b.Div left a h = h
side_takes b.Rem left a h = h
side_takes b.And left a h = h
side_takes b.Or left a h = h
side_takes b.Eq left a h = absurd (true≢false (sym a))
side_takes b.Ne left a h = absurd (true≢false (sym a))
side_takes b.Lt left a h = absurd (true≢false (sym a))
side_takes b.Le left a h = absurd (true≢false (sym a))
side_takes b.Gt left a h = absurd (true≢false (sym a))
side_takes b.Ge left a h = absurd (true≢false (sym a))

given_side : (op : BinaryOp) → Alone (strength op) → given_kind op ≡ side (strength op)
given_side b.Add a = refl
given_side b.Sub a = refl
given_side b.Mul a = refl
given_side b.Div a = refl
given_side b.Rem a = refl
given_side b.And a = refl
given_side b.Or a = refl
given_side b.Eq a = absurd (true≢false (sym a))
given_side b.Ne a = absurd (true≢false (sym a))
given_side b.Lt a = absurd (true≢false (sym a))
given_side b.Le a = absurd (true≢false (sym a))
given_side b.Gt a = absurd (true≢false (sym a))
given_side b.Ge a = absurd (true≢false (sym a))

module _ (c : Names) (l : Locals) (Can : Name → Callee → Type 0) where
  -- one link more, whose operator is of the strength of the others
  one_link : (n : ℕ) (op : BinaryOp) (part : Expression) (rest : Links) (left t u : ValueKind) → Alone n → left ≡ side n
      → strength op == n ≡ true → Typed c l Can part u → TakesRightSide op left u → LinksTyped c l Can left rest t
      → LinksTyped c l Can left (link op part rest) t
  one_link n op part rest left t u al is_side eq ty right tail =
      let same : n ≡ strength op = sym (eqb-true (strength op) n eq) in
      let alone : Alone (strength op) = subst Alone same al in
      let takes : TakesLeft op left = side_takes op left alone (is_side ∙ ap side same) in
      let given : given_kind op ≡ left = given_side op alone ∙ sym (is_side ∙ ap side same) in
      (u, ty, takes, right, subst (λ z. LinksTyped c l Can z rest t) (sym given) tail)

  mutual
    pub typed : (x : Expression) (t : ValueKind) → HasKind c l x t → expression_formed x ≡ true → AllApply c Can x
        → Typed c l Can x t
    typed (placed p form) t h f a = form_typed form t h f a

    form_typed : (x : ExpressionForm) (t : ValueKind) → ExpressionFormHas c l x t → expression_form_formed x ≡ true
        → FormApplies c Can x → FormTyped c l Can x t
    form_typed (int z) t h f a = h
    form_typed (bool z) t h f a = h
    form_typed no_rev t h f a = h
    form_typed (var w) t h f a = h
    form_typed (cell w index) t h f a =
        (h.0, typed index k.Int h.1 (and_parts (name_formed w) (expression_formed index) f).1 a)
    form_typed (apply w args) t h f a = (
      h.0,
      h.1,
      h.2,
      a.0 h.0 h.1,
      args_typed h.0.params h.0.params 0 args (λ i. ap (slice_get h.0.params) (let z : 0 + i ≡ i = omega arith in z))
          h.3 h.4 (and_parts (name_formed w) (expressions_formed args) f).1 a.1,
    )
    form_typed (input p index) t h f a = (h.0, h.1, typed index k.Int h.2 f a)
    form_typed (inputs p) t h f a = h
    form_typed (pick test x y) t h f a =
        let g = and_parts (expression_formed test && expression_formed x) (expression_formed y) f in
        let q = and_parts (expression_formed test) (expression_formed x) g.0 in
        (typed test k.Bool h.0 q.0 a.0, typed x t h.1 q.1 a.1, typed y t h.2 g.1 a.2)
    form_typed (unary op e) t h f a = (h.0, typed e _ h.1 f a)
    form_typed (chain first rest) t h f a =
        let g = and_parts (is_chain rest && expression_formed first) (links_formed rest) f in
        let q = and_parts (is_chain rest) (expression_formed first) g.0 in
        (h.0, typed first h.0 h.1 q.1 a.0, first_typed rest h.0 t q.0 h.2 h.3 h.4 g.1 a.1)

    -- the arguments for the parameters from number m on
    pub args_typed : (all ps : List Parameter) (m : ℕ) (xs : Expressions)
        → ((i : ℕ) → slice_get all (m + i) ≡ slice_get ps i) → count xs ≡ length ps → ArgsHave c l all m xs
        → expressions_formed xs ≡ true → ArgsApply c Can xs → ArgsTyped c l Can ps xs
    args_typed all [] m no_expressions same n h f a = tt
    args_typed all [] m (expression x rest) same n h f a = absurd (omega (arith, n))
    args_typed all (p ∷ ps) m no_expressions same n h f a = absurd (omega (arith, n))
    args_typed all (p ∷ ps) m (expression x rest) same n h f a =
        let g = and_parts (expression_formed x) (expressions_formed rest) f in
        let here : slice_get all m ≡ Some p = ap (slice_get all) (let z : m ≡ m + 0 = omega arith in z) ∙ same 0 in
        let kind : h.0.0 ≡ p.kind = subst (λ o. IsOfKind o h.0.0) here h.0.2 in (
          subst (Typed c l Can x) kind (typed x h.0.0 h.0.1 g.0 a.0),
          args_typed all ps (m + 1) rest
              (λ i. ap (slice_get all) (let z : m + 1 + i ≡ m + suc i = omega arith in z) ∙ same (suc i))
              (omega (arith, n)) h.1 g.1 a.1,
        )

    first_typed : (rest : Links) (left t : ValueKind) → is_chain rest ≡ true → TakesFirst rest left
        → LinksHave c l left rest → links_kind rest ≡ Some t → links_formed rest ≡ true → LinksApply c Can rest
        → LinksTyped c l Can left rest t
    first_typed no_links left t ch takes h kind f a = absurd takes
    first_typed (link op part no_links) left t ch takes h kind f a =
        let g = and_parts (expression_formed part) (links_formed no_links) f in
        (h.0.0, typed part h.0.0 h.0.1 g.0 a.0, takes, h.0.2, some_is kind)
    first_typed (link op part (link op2 part2 rest)) left t ch takes h kind f a =
        let n : ℕ = strength op in
        let g = and_parts (expression_formed part) (links_formed (link op2 part2 rest)) f in
        let g2 = and_parts (expression_formed part2) (links_formed rest) g.1 in
        let q = and_parts (nat_lt 3 n || nat_lt n 3) (all_bind n (link op2 part2 rest)) ch in
        let q2 = and_parts (strength op2 == n) (all_bind n rest) q.1 in
        let is_side : left ≡ side n = takes_side op left q.0 takes in
        let given : given_kind op ≡ left = given_side op q.0 ∙ sym is_side in (
          h.0.0,
          typed part h.0.0 h.0.1 g.0 a.0,
          takes,
          h.0.2,
          subst (λ z. LinksTyped c l Can z (link op2 part2 rest) t) (sym given)
              (one_link n op2 part2 rest left t h.1.0.0 q.0 is_side q2.0 (typed part2 h.1.0.0 h.1.0.1 g2.0 a.1.0)
              h.1.0.2
              (more_typed n rest left t q.0 is_side q2.1 h.1.1 (sym (some_is kind) ∙ given) g2.1 a.1.1)),
        )

    -- links of one strength behind another of it
    more_typed : (n : ℕ) (rest : Links) (left t : ValueKind) → Alone n → left ≡ side n → all_bind n rest ≡ true
        → LinksHave c l left rest → t ≡ left → links_formed rest ≡ true → LinksApply c Can rest
        → LinksTyped c l Can left rest t
    more_typed n no_links left t al is_side ch h kind f a = sym kind
    more_typed n (link op part rest) left t al is_side ch h kind f a =
        let g = and_parts (expression_formed part) (links_formed rest) f in
        let q = and_parts (strength op == n) (all_bind n rest) ch in
        one_link n op part rest left t h.0.0 al is_side q.0 (typed part h.0.0 h.0.1 g.0 a.0) h.0.2
        (more_typed n rest left t al is_side q.1 h.1 kind g.1 a.1)
