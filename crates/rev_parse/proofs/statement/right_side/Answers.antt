-- Answers of right_side: the first token tells call, fork and try from a plain one, with the same refusals.
use Rattle.std.proofs.Common.{◌≡◌, Some, None, arith, rules}
use Rattle.std.proofs.lemmas.Grind.{common_steps}
use Rattle.rev_expressions.specs.Outcome.{next}
use Rattle.rev_parse.proofs.StatementRules as rule
use Rattle.rev_parse.proofs.statement.right_side.Goals.{in_default-kind-via-in-Fixed+in_default, in_default-kind-via-in_default}
use Rattle.rev_syntax.specs.declared.token.TokenKind.TheVariants as k
use Rattle.rev_syntax.specs.declared.token.Fixed.TheVariants as s
use Rattle.rev_parse.proofs.statement.right_side.Goals as goal

pub returns-in_default : goal.returns-in_default
returns-in_default c =
    let e : next c.args.cursor.now.rest.now ≡ None = search rules in
    let h = rule.right_side_end c.args.source.now.bytes.now c.args.levels c.args.cursor.now.rest.now e in
    grind (arith, common_steps, h)

pub returns-in_ok-name-in-Fixed-Call : goal.returns-in_ok-name-in-Fixed-Call
returns-in_ok-name-in-Fixed-Call c =
    let e : next c.args.cursor.now.rest.now ≡ Some c.in-Some.token = cc in
    let h = rule.right_side_call c.args.source.now.bytes.now c.args.levels c.in-Some.token c.args.cursor.now.rest.now e
    (let z : c.in-Some.token.kind ≡ k.Fixed s.Call = search rules in z) in
    grind (arith, common_steps, h)

pub returns-in_err-name-in-Fixed-Call : goal.returns-in_err-name-in-Fixed-Call
returns-in_err-name-in-Fixed-Call c =
    let e : next c.args.cursor.now.rest.now ≡ Some c.in-Some.token = cc in
    let h = rule.right_side_call c.args.source.now.bytes.now c.args.levels c.in-Some.token c.args.cursor.now.rest.now e
    (let z : c.in-Some.token.kind ≡ k.Fixed s.Call = search rules in z) in
    grind (arith, common_steps, h)

pub returns-in_ok-name-in-Fixed-Fork : goal.returns-in_ok-name-in-Fixed-Fork
returns-in_ok-name-in-Fixed-Fork c =
    let e : next c.args.cursor.now.rest.now ≡ Some c.in-Some.token = cc in
    let h = rule.right_side_fork c.args.source.now.bytes.now c.args.levels c.in-Some.token c.args.cursor.now.rest.now e
    (let z : c.in-Some.token.kind ≡ k.Fixed s.Fork = search rules in z) in
    grind (arith, common_steps, h)

pub returns-in_err-name-in-Fixed-Fork : goal.returns-in_err-name-in-Fixed-Fork
returns-in_err-name-in-Fixed-Fork c =
    let e : next c.args.cursor.now.rest.now ≡ Some c.in-Some.token = cc in
    let h = rule.right_side_fork c.args.source.now.bytes.now c.args.levels c.in-Some.token c.args.cursor.now.rest.now e
    (let z : c.in-Some.token.kind ≡ k.Fixed s.Fork = search rules in z) in
    grind (arith, common_steps, h)

pub returns-in_ok-handle-in-Fixed-TryJoin : goal.returns-in_ok-handle-in-Fixed-TryJoin
returns-in_ok-handle-in-Fixed-TryJoin c =
    let e : next c.args.cursor.now.rest.now ≡ Some c.in-Some.token = cc in
    let h = rule.right_side_try c.args.source.now.bytes.now c.args.levels c.in-Some.token c.args.cursor.now.rest.now e
    (let z : c.in-Some.token.kind ≡ k.Fixed s.TryJoin = search rules in z) in
    grind (arith, common_steps, h)

pub returns-in_err-handle-in-Fixed-TryJoin : goal.returns-in_err-handle-in-Fixed-TryJoin
returns-in_err-handle-in-Fixed-TryJoin c =
    let e : next c.args.cursor.now.rest.now ≡ Some c.in-Some.token = cc in
    let h = rule.right_side_try c.args.source.now.bytes.now c.args.levels c.in-Some.token c.args.cursor.now.rest.now e
    (let z : c.in-Some.token.kind ≡ k.Fixed s.TryJoin = search rules in z) in
    grind (arith, common_steps, h)

pub returns-in_ok-expr-in_default-kind : goal.returns-in_ok-expr-in_default-kind
returns-in_ok-expr-in_default-kind c =
    let e : next c.args.cursor.now.rest.now ≡ Some c.in-Some.token = cc in
    elim c.in_default-kind.branch [
      | in_default-kind-via-in-Fixed+in_default w ↦ grind (
        arith,
        common_steps,
        rule.right_side_plain c.args.source.now.bytes.now c.args.levels c.in-Some.token c.args.cursor.now.rest.now e
            (λ z. search rules) (λ z. search rules) (λ z. search rules),
      )
      | in_default-kind-via-in_default w ↦ grind (
        arith,
        common_steps,
        rule.right_side_plain c.args.source.now.bytes.now c.args.levels c.in-Some.token c.args.cursor.now.rest.now e
            (λ z. search rules) (λ z. search rules) (λ z. search rules),
      )
    ]

pub returns-in_err-expr-in_default-kind : goal.returns-in_err-expr-in_default-kind
returns-in_err-expr-in_default-kind c =
    let e : next c.args.cursor.now.rest.now ≡ Some c.in-Some.token = cc in
    elim c.in_default-kind.branch [
      | in_default-kind-via-in-Fixed+in_default w ↦ grind (
        arith,
        common_steps,
        rule.right_side_plain c.args.source.now.bytes.now c.args.levels c.in-Some.token c.args.cursor.now.rest.now e
            (λ z. search rules) (λ z. search rules) (λ z. search rules),
      )
      | in_default-kind-via-in_default w ↦ grind (
        arith,
        common_steps,
        rule.right_side_plain c.args.source.now.bytes.now c.args.levels c.in-Some.token c.args.cursor.now.rest.now e
            (λ z. search rules) (λ z. search rules) (λ z. search rules),
      )
    ]
