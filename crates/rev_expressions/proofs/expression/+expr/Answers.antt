-- Answers of expr: the next token decides which production is read, and a part that is refused refuses the whole.
use Rattle.std.proofs.Common.{◌≡◌, ◌+◌, ◌-◌, ◌∙◌, true, false, Some, None, sym, ap, map, arith, rules}
use Rattle.std.proofs.lemmas.Grind.{common_steps}
use Rattle.std.proofs.lemmas.List.{map-append}
use Rattle.rev_syntax.specs.Trees.{placed, unary as unary_expression}
use Rattle.rev_syntax.specs.View as view
use Rattle.rev_expressions.specs.Outcome.{Outcome, Read, and_then, next}
use Rattle.rev_expressions.specs.Reader.{is_next}
use Rattle.rev_syntax.specs.declared.token.Fixed.TheVariants as s
use Rattle.rev_syntax.specs.declared.token.TokenKind.TheVariants as k
use Rattle.rev_expressions.specs.Grammar as spec
use Rattle.rev_expressions.specs.Parse.{IsSign, cell_of, apply_of, chain_behind, expr_begins, ranked_behind}
use Rattle.rev_expressions.specs.declared.expression.Rank.{Rank}
use Rattle.rev_expressions.specs.declared.expression.Rank.TheVariants as r
use Rattle.rev_syntax.specs.Trees.{Expression}
use Rattle.rev_syntax.specs.declared.token.Token.{Token}
use Rattle.rev_expressions.proofs.Chains.{chain_none}
use Rattle.rev_expressions.proofs.Turns.{links_are, links_go}
use Rattle.rev_expressions.proofs.Lists.{comma_go}
use Rattle.rev_expressions.proofs.Expressions.{operand_go, index_go, index_only, arguments_go, parens_go, parts_go, bracketed_no, bracketed_yes, choice_no, choice_yes, named_index, named_arguments, named_alone, named_end, unary_minus, unary_bang, unary_else, unary_end, primary_name, primary_input, primary_pick, primary_parens, listing_no, listing_yes, sign_is}
use Rattle.rev_expressions.proofs.expression.+expr.Goals as goal
use Rattle.rev_expressions.proofs.expression.+expr.Goals.{unary-in_default-kind-via-in-Fixed+in_default, unary-in_default-kind-via-in_default, named-in_default-kind-via-in-Fixed+in_default, named-in_default-kind-via-in_default}
use Rattle.rev_expressions.specs.Classes as class

pub unary-returns-in-Fixed-Minus : goal.unary-returns-in-Fixed-Minus
unary-returns-in-Fixed-Minus t c =
    let e : next c.args.cursor.now.rest.now ≡ Some c.in-Some.token = cc in
    let h = unary_minus c.args.source.now.bytes.now c.args.levels c.in-Some.token c.args.cursor.now.rest.now e
    (let z : c.in-Some.token.kind ≡ k.Fixed s.Minus = search rules in z) in
    grind (arith, common_steps, h)

pub unary-returns-in-Fixed-Bang : goal.unary-returns-in-Fixed-Bang
unary-returns-in-Fixed-Bang t c =
    let e : next c.args.cursor.now.rest.now ≡ Some c.in-Some.token = cc in
    let h = unary_bang c.args.source.now.bytes.now c.args.levels c.in-Some.token c.args.cursor.now.rest.now e
    (let z : c.in-Some.token.kind ≡ k.Fixed s.Bang = search rules in z) in
    grind (arith, common_steps, h)

pub unary-returns-in_default-kind : goal.unary-returns-in_default-kind
unary-returns-in_default-kind t c =
    let e : next c.args.cursor.now.rest.now ≡ Some c.in-Some.token = cc in
    elim c.in_default-kind.branch [
      | unary-in_default-kind-via-in-Fixed+in_default w ↦ grind (
        arith,
        common_steps,
        unary_else c.args.source.now.bytes.now c.args.levels c.in-Some.token c.args.cursor.now.rest.now e
            (λ z. search rules) (λ z. search rules),
      )
      | unary-in_default-kind-via-in_default w ↦ grind (
        arith,
        common_steps,
        unary_else c.args.source.now.bytes.now c.args.levels c.in-Some.token c.args.cursor.now.rest.now e
            (λ z. search rules) (λ z. search rules),
      )
    ]

pub unary-returns-in_default : goal.unary-returns-in_default
unary-returns-in_default t c =
    let e : next c.args.cursor.now.rest.now ≡ None = search rules in
    let h = unary_end c.args.source.now.bytes.now c.args.levels c.args.cursor.now.rest.now e in
    grind (arith, common_steps, h)

pub prefixed-returns-in_err-part : goal.prefixed-returns-in_err-part
prefixed-returns-in_err-part t c =
    let h = operand_go c.args.source.now.bytes.now c.args.levels (λ e. placed c.args.at (unary_expression c.args.op e))
    c.in_ok-inner.inner c.args.cursor.now.rest.now c.in_ok-inner.ensures in
    grind (arith, common_steps, h)

pub prefixed-returns : goal.prefixed-returns
prefixed-returns t c =
    let h = operand_go c.args.source.now.bytes.now c.args.levels (λ e. placed c.args.at (unary_expression c.args.op e))
    c.in_ok-inner.inner c.args.cursor.now.rest.now c.in_ok-inner.ensures in
    grind (arith, common_steps, h)

pub parenthesized-returns-in_err-e : goal.parenthesized-returns-in_err-e
parenthesized-returns-in_err-e t c =
    let h = parens_go c.args.source.now.bytes.now c.args.levels (spec.moved c.args.at) c.in_ok-inner.inner
    c.args.cursor.now.rest.now c.in_ok-inner.ensures in
    grind (arith, common_steps, h)

pub parenthesized-returns : goal.parenthesized-returns
parenthesized-returns t c =
    let h = parens_go c.args.source.now.bytes.now c.args.levels (spec.moved c.args.at) c.in_ok-inner.inner
    c.args.cursor.now.rest.now c.in_ok-inner.ensures in
    grind (arith, common_steps, h)

pub indexed-returns-in_err-index : goal.indexed-returns-in_err-index
indexed-returns-in_err-index t c =
    let h = index_go c.args.source.now.bytes.now c.args.levels (cell_of (view.placed_name c.args.name))
    c.in_ok-inner.inner c.args.cursor.now.rest.now c.in_ok-inner.ensures in
    grind (arith, common_steps, h)

pub indexed-returns : goal.indexed-returns
indexed-returns t c =
    let h = index_go c.args.source.now.bytes.now c.args.levels (cell_of (view.placed_name c.args.name))
    c.in_ok-inner.inner c.args.cursor.now.rest.now c.in_ok-inner.ensures in
    grind (arith, common_steps, h)

pub called-returns-in_err-args : goal.called-returns-in_err-args
called-returns-in_err-args t c =
    let h = arguments_go c.args.source.now.bytes.now c.args.levels (apply_of (view.placed_name c.args.name))
    c.in_ok-inner.inner c.args.cursor.now.rest.now c.in_ok-inner.ensures in
    grind (arith, common_steps, h)

pub called-returns : goal.called-returns
called-returns t c =
    let h = arguments_go c.args.source.now.bytes.now c.args.levels (apply_of (view.placed_name c.args.name))
    c.in_ok-inner.inner c.args.cursor.now.rest.now c.in_ok-inner.ensures in
    grind (arith, common_steps, h)

pub named-returns-in_default : goal.named-returns-in_default
named-returns-in_default t c =
    let e : next c.args.cursor.now.rest.now ≡ None = search rules in
    let h = named_end c.args.source.now.bytes.now c.args.levels (view.placed_name c.args.name)
    c.args.cursor.now.rest.now e in
    h ∙ ap (λ x. Read x c.args.cursor.now.rest.now) (sym c.variable.ensures)

pub named-returns-in_default-kind : goal.named-returns-in_default-kind
named-returns-in_default-kind t c =
    let e : next c.args.cursor.now.rest.now ≡ Some c.in-Some.token = cc in
    elim c.in_default-kind.branch [
      | named-in_default-kind-via-in-Fixed+in_default w ↦
          named_alone c.args.source.now.bytes.now c.args.levels (view.placed_name c.args.name) c.in-Some.token
          c.args.cursor.now.rest.now e (λ z. search rules) (λ z. search rules)
          ∙ ap (λ x. Read x c.args.cursor.now.rest.now) (sym c.variable-in_default-kind.ensures)
      | named-in_default-kind-via-in_default w ↦
          named_alone c.args.source.now.bytes.now c.args.levels (view.placed_name c.args.name) c.in-Some.token
          c.args.cursor.now.rest.now e (λ z. search rules) (λ z. search rules)
          ∙ ap (λ x. Read x c.args.cursor.now.rest.now) (sym c.variable-in_default-kind.ensures)
    ]

pub named-returns-in-Fixed-OpenBracket : goal.named-returns-in-Fixed-OpenBracket
named-returns-in-Fixed-OpenBracket t c =
    let e : next c.args.cursor.now.rest.now ≡ Some c.in-Some.token = cc in
    let h = named_index c.args.source.now.bytes.now c.args.levels (view.placed_name c.args.name) c.in-Some.token
    c.args.cursor.now.rest.now e (let z : c.in-Some.token.kind ≡ k.Fixed s.OpenBracket = search rules in z) in
    grind (arith, common_steps, h)

pub named-returns-in-Fixed-OpenParen : goal.named-returns-in-Fixed-OpenParen
named-returns-in-Fixed-OpenParen t c =
    let e : next c.args.cursor.now.rest.now ≡ Some c.in-Some.token = cc in
    let h = named_arguments c.args.source.now.bytes.now c.args.levels (view.placed_name c.args.name) c.in-Some.token
    c.args.cursor.now.rest.now e (let z : c.in-Some.token.kind ≡ k.Fixed s.OpenParen = search rules in z) in
    grind (arith, common_steps, h)

pub bracketed-returns-then-not-is_at : goal.bracketed-returns-then-not-is_at
bracketed-returns-then-not-is_at t c =
    let e : is_next spec.alphabet (class.fixed s.OpenBracket) c.args.cursor.now.rest.now ≡ false = search rules in
    let h = bracketed_no c.args.source.now.bytes.now c.args.levels c.args.cursor.now.rest.now e in
    grind (arith, common_steps, h)

pub bracketed-returns : goal.bracketed-returns
bracketed-returns t c =
    let e : is_next spec.alphabet (class.fixed s.OpenBracket) c.args.cursor.now.rest.now ≡ true = search rules in
    let h = bracketed_yes c.args.source.now.bytes.now c.args.levels c.args.cursor.now.rest.now e
    ∙ index_only c.args.source.now.bytes.now c.args.levels c.in_ok-inner.inner c.args.cursor.now.rest.now
    c.in_ok-inner.ensures in
    grind (arith, common_steps, h)

pub pick-returns-then-not-is_at : goal.pick-returns-then-not-is_at
pick-returns-then-not-is_at t c =
    let e : is_next spec.alphabet (class.fixed s.OpenParen) c.args.cursor.now.rest.now ≡ false = search rules in
    let h = choice_no c.args.source.now.bytes.now c.args.levels c.args.at c.args.cursor.now.rest.now e in
    grind (arith, common_steps, h)

pub pick-returns-in_err-test : goal.pick-returns-in_err-test
pick-returns-in_err-test t c =
    let e : is_next spec.alphabet (class.fixed s.OpenParen) c.args.cursor.now.rest.now ≡ true = search rules in
    let h = choice_yes c.args.source.now.bytes.now c.args.levels c.args.at c.args.cursor.now.rest.now e
    ∙ parts_go c.args.source.now.bytes.now c.args.levels c.args.at c.in_ok-inner.inner c.args.cursor.now.rest.now
    c.in_ok-inner.ensures in
    grind (arith, common_steps, h)

pub pick-returns-in_err-yes : goal.pick-returns-in_err-yes
pick-returns-in_err-yes t c =
    let e : is_next spec.alphabet (class.fixed s.OpenParen) c.args.cursor.now.rest.now ≡ true = search rules in
    let h = choice_yes c.args.source.now.bytes.now c.args.levels c.args.at c.args.cursor.now.rest.now e
    ∙ parts_go c.args.source.now.bytes.now c.args.levels c.args.at c.in_ok-inner.inner c.args.cursor.now.rest.now
    c.in_ok-inner.ensures in
    grind (arith, common_steps, h)

pub pick-returns-in_err-no : goal.pick-returns-in_err-no
pick-returns-in_err-no t c =
    let e : is_next spec.alphabet (class.fixed s.OpenParen) c.args.cursor.now.rest.now ≡ true = search rules in
    let h = choice_yes c.args.source.now.bytes.now c.args.levels c.args.at c.args.cursor.now.rest.now e
    ∙ parts_go c.args.source.now.bytes.now c.args.levels c.args.at c.in_ok-inner.inner c.args.cursor.now.rest.now
    c.in_ok-inner.ensures in
    grind (arith, common_steps, h)

pub pick-returns : goal.pick-returns
pick-returns t c =
    let e : is_next spec.alphabet (class.fixed s.OpenParen) c.args.cursor.now.rest.now ≡ true = search rules in
    let h = choice_yes c.args.source.now.bytes.now c.args.levels c.args.at c.args.cursor.now.rest.now e
    ∙ parts_go c.args.source.now.bytes.now c.args.levels c.args.at c.in_ok-inner.inner c.args.cursor.now.rest.now
    c.in_ok-inner.ensures in
    grind (arith, common_steps, h)

pub primary-returns-in_ok-name-in-Name : goal.primary-returns-in_ok-name-in-Name
primary-returns-in_ok-name-in-Name t c =
    let e : next c.args.cursor.now.rest.now ≡ Some c.in-Some.token = cc in
    let h = primary_name c.args.source.now.bytes.now c.args.levels c.in-Some.token c.args.cursor.now.rest.now e
    c.in-Name.is in
    grind (arith, common_steps, h)

pub primary-returns-in-Fixed-Pick : goal.primary-returns-in-Fixed-Pick
primary-returns-in-Fixed-Pick t c =
    let e : next c.args.cursor.now.rest.now ≡ Some c.in-Some.token = cc in
    let h = primary_pick c.args.source.now.bytes.now c.args.levels c.in-Some.token c.args.cursor.now.rest.now e
    (let z : c.in-Some.token.kind ≡ k.Fixed s.Pick = search rules in z) in
    grind (arith, common_steps, h)

pub primary-returns-in-Fixed-OpenParen : goal.primary-returns-in-Fixed-OpenParen
primary-returns-in-Fixed-OpenParen t c =
    let e : next c.args.cursor.now.rest.now ≡ Some c.in-Some.token = cc in
    let h = primary_parens c.args.source.now.bytes.now c.args.levels c.in-Some.token c.args.cursor.now.rest.now e
    (let z : c.in-Some.token.kind ≡ k.Fixed s.OpenParen = search rules in z) in
    grind (arith, common_steps, h)

pub primary-returns-in_ok-input-in-Fixed-Input : goal.primary-returns-in_ok-input-in-Fixed-Input
primary-returns-in_ok-input-in-Fixed-Input t c =
    let e : next c.args.cursor.now.rest.now ≡ Some c.in-Some.token = cc in
    let h = primary_input c.args.source.now.bytes.now c.args.levels c.in-Some.token c.args.cursor.now.rest.now e
    (let z : c.in-Some.token.kind ≡ k.Fixed s.Input = search rules in z) in
    grind (arith, common_steps, h)

pub primary-returns-in_err-index-in-Fixed-Input : goal.primary-returns-in_err-index-in-Fixed-Input
primary-returns-in_err-index-in-Fixed-Input t c =
    let e : next c.args.cursor.now.rest.now ≡ Some c.in-Some.token = cc in
    let h = primary_input c.args.source.now.bytes.now c.args.levels c.in-Some.token c.args.cursor.now.rest.now e
    (let z : c.in-Some.token.kind ≡ k.Fixed s.Input = search rules in z) in
    grind (arith, common_steps, h)

pub some_arguments-returns-then-not-begins_expr : goal.some_arguments-returns-then-not-begins_expr
some_arguments-returns-then-not-begins_expr t c =
    let e : expr_begins c.args.cursor.now.rest.now ≡ false = search rules in
    let h = listing_no c.args.source.now.bytes.now c.args.levels c.args.cursor.now.rest.now e in
    grind (arith, common_steps, h)

pub some_arguments-returns-in_err-first : goal.some_arguments-returns-in_err-first
some_arguments-returns-in_err-first t c =
    let e : expr_begins c.args.cursor.now.rest.now ≡ true = search rules in
    let h = listing_yes c.args.source.now.bytes.now c.args.levels c.args.cursor.now.rest.now e in
    grind (arith, common_steps, h)

pub some_arguments-returns : goal.some_arguments-returns
some_arguments-returns t c =
    let e : expr_begins c.args.cursor.now.rest.now ≡ true = search rules in
    let h = listing_yes c.args.source.now.bytes.now c.args.levels c.args.cursor.now.rest.now e in
    grind (arith, common_steps, h)

pub more_arguments-loop-turn-preserved : goal.more_arguments-loop-turn-preserved
more_arguments-loop-turn-preserved t c =
    let e : is_next spec.alphabet (class.fixed s.Comma) c.loop-turn.cursor.rest.now ≡ true = search rules in
    let h = comma_go c.args.source.now.bytes.now c.args.levels (spec.expr c.args.source.now.bytes.now)
    (c.left-turn-end.result - c.loop-turn._turn) (c.left-turn-end.result - (c.loop-turn._turn + 1))
    (map view.expression c.loop-turn.args.items) c.loop-turn.cursor.rest.now (omega arith) e in
    grind (arith, common_steps, map-append, h)

pub more_arguments-returns-in_err-arg : goal.more_arguments-returns-in_err-arg
more_arguments-returns-in_err-arg t c =
    let e : is_next spec.alphabet (class.fixed s.Comma) c.loop-turn.cursor.rest.now ≡ true = search rules in
    let h = comma_go c.args.source.now.bytes.now c.args.levels (spec.expr c.args.source.now.bytes.now)
    (c.left-turn-end.result - c.loop-turn._turn) (c.left-turn-end.result - (c.loop-turn._turn + 1))
    (map view.expression c.loop-turn.args.items) c.loop-turn.cursor.rest.now (omega arith) e in
    grind (arith, common_steps, h)

pub links-loop-turn-preserved : goal.links-loop-turn-preserved
links-loop-turn-preserved t c =
    let s : IsSign c.args.rank c.loop-turn.cursor.rest.now (Some c.in-Some.op) = search rules in
    let h = links_go c.args.source.now.bytes.now c.args.levels c.args.rank (c.left-turn-end.result - c.loop-turn._turn)
    (c.left-turn-end.result - (c.loop-turn._turn + 1)) (map view.link c.loop-turn.found.items)
    c.loop-turn.cursor.rest.now c.in-Some.op (omega arith) s.0
    (sign_is c.args.source.now.bytes.now c.args.levels c.args.rank c.loop-turn.cursor.rest.now ∙ s.1) in
    grind (arith, common_steps, map-append, h)

pub links-returns-in_err-part : goal.links-returns-in_err-part
links-returns-in_err-part t c =
    let s : IsSign c.args.rank c.loop-turn.cursor.rest.now (Some c.in-Some.op) = search rules in
    let h = links_go c.args.source.now.bytes.now c.args.levels c.args.rank (c.left-turn-end.result - c.loop-turn._turn)
    (c.left-turn-end.result - (c.loop-turn._turn + 1)) (map view.link c.loop-turn.found.items)
    c.loop-turn.cursor.rest.now c.in-Some.op (omega arith) s.0
    (sign_is c.args.source.now.bytes.now c.args.levels c.args.rank c.loop-turn.cursor.rest.now ∙ s.1) in
    let start = links_are c.args.source.now.bytes.now c.args.levels c.args.rank c.args.cursor.now.rest.now in
    grind (arith, common_steps, h, start)

pub links-returns-then-is_single : goal.links-returns-then-is_single
links-returns-then-is_single t c =
    let s : IsSign c.args.rank c.loop-turn.cursor.rest.now (Some c.in-Some.op) = search rules in
    let h = links_go c.args.source.now.bytes.now c.args.levels c.args.rank (c.left-turn-end.result - c.loop-turn._turn)
    (c.left-turn-end.result - (c.loop-turn._turn + 1)) (map view.link c.loop-turn.found.items)
    c.loop-turn.cursor.rest.now c.in-Some.op (omega arith) s.0
    (sign_is c.args.source.now.bytes.now c.args.levels c.args.rank c.loop-turn.cursor.rest.now ∙ s.1) in
    let start = links_are c.args.source.now.bytes.now c.args.levels c.args.rank c.args.cursor.now.rest.now in
    grind (arith, common_steps, h, start)

pub chains-returns-then-not-operator_comes : goal.chains-returns-then-not-operator_comes
chains-returns-then-not-operator_comes t c =
    ap (λ (rank : Rank). ranked_behind c.args.source.now.bytes.now c.args.levels rank (view.expression c.args.first)
    c.args.cursor.now.rest.now)
    c.in-Sum.is
    ∙ ap (λ (o : Outcome Token Expression).
    and_then o (λ e rest. chain_behind c.args.source.now.bytes.now c.args.levels r.Sum e rest))
    c.in_ok-product-in-Sum.ensures
    ∙ chain_none c.args.source.now.bytes.now c.args.levels r.Sum (view.expression c.in_ok-product-in-Sum.product)
    c.chains.new.cursor.rest.now (sym c.if-not-operator_comes.ensures)

pub chains-returns-then-not-operator_comes-2 : goal.chains-returns-then-not-operator_comes-2
chains-returns-then-not-operator_comes-2 t c =
    ap (λ (rank : Rank). ranked_behind c.args.source.now.bytes.now c.args.levels rank (view.expression c.args.first)
    c.args.cursor.now.rest.now)
    c.in-Compare.is
    ∙ ap (λ (o : Outcome Token Expression).
    and_then o (λ e rest. chain_behind c.args.source.now.bytes.now c.args.levels r.Compare e rest))
    c.in_ok-sum-in-Compare.ensures
    ∙ chain_none c.args.source.now.bytes.now c.args.levels r.Compare (view.expression c.in_ok-sum-in-Compare.sum)
    c.chains-in-Compare.new.cursor.rest.now (sym c.if-not-operator_comes-2.ensures)

pub chains-returns-then-not-operator_comes-3 : goal.chains-returns-then-not-operator_comes-3
chains-returns-then-not-operator_comes-3 t c =
    ap (λ (rank : Rank). ranked_behind c.args.source.now.bytes.now c.args.levels rank (view.expression c.args.first)
    c.args.cursor.now.rest.now)
    c.in-And.is
    ∙ ap (λ (o : Outcome Token Expression).
    and_then o (λ e rest. chain_behind c.args.source.now.bytes.now c.args.levels r.And e rest))
    c.in_ok-comparison-in-And.ensures
    ∙ chain_none c.args.source.now.bytes.now c.args.levels r.And (view.expression c.in_ok-comparison-in-And.comparison)
    c.chains-in-And.new.cursor.rest.now (sym c.if-not-operator_comes-3.ensures)

pub chains-returns-then-not-operator_comes-4 : goal.chains-returns-then-not-operator_comes-4
chains-returns-then-not-operator_comes-4 t c =
    ap (λ (rank : Rank). ranked_behind c.args.source.now.bytes.now c.args.levels rank (view.expression c.args.first)
    c.args.cursor.now.rest.now)
    c.in-Or.is
    ∙ ap (λ (o : Outcome Token Expression).
    and_then o (λ e rest. chain_behind c.args.source.now.bytes.now c.args.levels r.Or e rest))
    c.in_ok-conjunction-in-Or.ensures
    ∙ chain_none c.args.source.now.bytes.now c.args.levels r.Or (view.expression c.in_ok-conjunction-in-Or.conjunction)
    c.chains-in-Or.new.cursor.rest.now (sym c.if-not-operator_comes-4.ensures)
