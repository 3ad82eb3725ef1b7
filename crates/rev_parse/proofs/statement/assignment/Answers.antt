-- Answers of assignment: a sign of assignment takes what is assigned, and any other token begins the index of a cell.
use Rattle.std.proofs.Common.{◌≡◌, Some, None, arith, rules}
use Rattle.std.proofs.lemmas.Grind.{common_steps}
use Rattle.rev_syntax.specs.View as view
use Rattle.rev_expressions.specs.Outcome.{next}
use Rattle.rev_parse.proofs.StatementRules as rule
use Rattle.rev_parse.proofs.statement.assignment.Goals.{in_default-kind-via-in-Fixed+in_default, in_default-kind-via-in_default}
use Rattle.rev_syntax.specs.declared.token.TokenKind.TheVariants as k
use Rattle.rev_syntax.specs.declared.token.Fixed.TheVariants as s
use Rattle.rev_parse.proofs.statement.assignment.Goals as goal

pub returns-in_default : goal.returns-in_default
returns-in_default c =
    let e : next c.args.cursor.now.rest.now ≡ None = search rules in
    let h = rule.assign_end c.args.source.now.bytes.now c.args.levels (view.placed_name c.args.name)
    c.args.cursor.now.rest.now e in
    grind (arith, common_steps, h)

pub returns-in_ok-rhs-in-Fixed-Assign : goal.returns-in_ok-rhs-in-Fixed-Assign
returns-in_ok-rhs-in-Fixed-Assign c =
    let e : next c.args.cursor.now.rest.now ≡ Some c.in-Some.token = cc in
    let h = rule.assign_name c.args.source.now.bytes.now c.args.levels c.in-Some.token c.args.cursor.now.rest.now e
    (view.placed_name c.args.name) (let z : c.in-Some.token.kind ≡ k.Fixed s.Assign = search rules in z) in
    grind (arith, common_steps, h)

pub returns-in_err-rhs-in-Fixed-Assign : goal.returns-in_err-rhs-in-Fixed-Assign
returns-in_err-rhs-in-Fixed-Assign c =
    let e : next c.args.cursor.now.rest.now ≡ Some c.in-Some.token = cc in
    let h = rule.assign_name c.args.source.now.bytes.now c.args.levels c.in-Some.token c.args.cursor.now.rest.now e
    (view.placed_name c.args.name) (let z : c.in-Some.token.kind ≡ k.Fixed s.Assign = search rules in z) in
    grind (arith, common_steps, h)

pub returns-in_ok-expect-in_default-kind-2 : goal.returns-in_ok-expect-in_default-kind-2
returns-in_ok-expect-in_default-kind-2 c =
    let e : next c.args.cursor.now.rest.now ≡ Some c.in-Some.token = cc in
    elim c.in_default-kind.branch [
      | in_default-kind-via-in-Fixed+in_default w ↦ grind (
        arith,
        common_steps,
        rule.assign_cell c.args.source.now.bytes.now c.args.levels c.in-Some.token c.args.cursor.now.rest.now e
            (view.placed_name c.args.name) (λ z. search rules),
      )
      | in_default-kind-via-in_default w ↦ grind (
        arith,
        common_steps,
        rule.assign_cell c.args.source.now.bytes.now c.args.levels c.in-Some.token c.args.cursor.now.rest.now e
            (view.placed_name c.args.name) (λ z. search rules),
      )
    ]

pub returns-in_err-index-in_default-kind : goal.returns-in_err-index-in_default-kind
returns-in_err-index-in_default-kind c =
    let e : next c.args.cursor.now.rest.now ≡ Some c.in-Some.token = cc in
    elim c.in_default-kind.branch [
      | in_default-kind-via-in-Fixed+in_default w ↦ grind (
        arith,
        common_steps,
        rule.assign_cell c.args.source.now.bytes.now c.args.levels c.in-Some.token c.args.cursor.now.rest.now e
            (view.placed_name c.args.name) (λ z. search rules),
      )
      | in_default-kind-via-in_default w ↦ grind (
        arith,
        common_steps,
        rule.assign_cell c.args.source.now.bytes.now c.args.levels c.in-Some.token c.args.cursor.now.rest.now e
            (view.placed_name c.args.name) (λ z. search rules),
      )
    ]

pub returns-in_err-expect-in_default-kind : goal.returns-in_err-expect-in_default-kind
returns-in_err-expect-in_default-kind c =
    let e : next c.args.cursor.now.rest.now ≡ Some c.in-Some.token = cc in
    elim c.in_default-kind.branch [
      | in_default-kind-via-in-Fixed+in_default w ↦ grind (
        arith,
        common_steps,
        rule.assign_cell c.args.source.now.bytes.now c.args.levels c.in-Some.token c.args.cursor.now.rest.now e
            (view.placed_name c.args.name) (λ z. search rules),
      )
      | in_default-kind-via-in_default w ↦ grind (
        arith,
        common_steps,
        rule.assign_cell c.args.source.now.bytes.now c.args.levels c.in-Some.token c.args.cursor.now.rest.now e
            (view.placed_name c.args.name) (λ z. search rules),
      )
    ]

pub returns-in_err-value-in_default-kind : goal.returns-in_err-value-in_default-kind
returns-in_err-value-in_default-kind c =
    let e : next c.args.cursor.now.rest.now ≡ Some c.in-Some.token = cc in
    elim c.in_default-kind.branch [
      | in_default-kind-via-in-Fixed+in_default w ↦ grind (
        arith,
        common_steps,
        rule.assign_cell c.args.source.now.bytes.now c.args.levels c.in-Some.token c.args.cursor.now.rest.now e
            (view.placed_name c.args.name) (λ z. search rules),
      )
      | in_default-kind-via-in_default w ↦ grind (
        arith,
        common_steps,
        rule.assign_cell c.args.source.now.bytes.now c.args.levels c.in-Some.token c.args.cursor.now.rest.now e
            (view.placed_name c.args.name) (λ z. search rules),
      )
    ]

pub returns-in_err-expect-in_default-kind-2 : goal.returns-in_err-expect-in_default-kind-2
returns-in_err-expect-in_default-kind-2 c =
    let e : next c.args.cursor.now.rest.now ≡ Some c.in-Some.token = cc in
    elim c.in_default-kind.branch [
      | in_default-kind-via-in-Fixed+in_default w ↦ grind (
        arith,
        common_steps,
        rule.assign_cell c.args.source.now.bytes.now c.args.levels c.in-Some.token c.args.cursor.now.rest.now e
            (view.placed_name c.args.name) (λ z. search rules),
      )
      | in_default-kind-via-in_default w ↦ grind (
        arith,
        common_steps,
        rule.assign_cell c.args.source.now.bytes.now c.args.levels c.in-Some.token c.args.cursor.now.rest.now e
            (view.placed_name c.args.name) (λ z. search rules),
      )
    ]
