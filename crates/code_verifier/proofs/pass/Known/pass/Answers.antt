-- Answers of Known::pass: shapes by number agree with stacks of kinds, so the rule found is that of the definition.
use Rattle.std.proofs.Common.{◌∙◌, sym, ap, refl, not, Some, None}
use Rattle.std.specs.Prelude.{if◌then◌else◌}
use Rattle.code_verifier.specs.Marking.{clashes_at, leap}
use Rattle.code_verifier.specs.Spending.{spend}
use Rattle.code_verifier.specs.Passing.{rule_of}
use Rattle.code_verifier.proofs.Passes.{pass_rule, pass_ready, step_done, not_none}
use Rattle.code_verifier.proofs.pass.Known.pass.Goals as goal

pub returns-then-is_none : goal.returns-then-is_none
returns-then-is_none c =
    step_done c.args.scope.now c.args.at c.args.x _ c.first_rule-rule.result
    (pass_rule c.args.scope.now c.args.at c.args.x c.args.self.now c.requires.ready c.requires.here c.args.mark
    c.requires.arrived c.effect_of.new.shapes c.in_ok-effect.effect c.in_ok-effect.ensures
    c.clashes-clash.result
    (c.clashes-clash.ensures
    ∙ (λ i. clashes_at c.effect_of.new.shapes (c.deref.ensures.value i) c.args.at c.in_ok-effect.effect.after
    (c.target.ensures i)))
    c.depth-depth.result c.depth-depth.ensures.depth c.depth-depth.ensures.small
    c.with_one-spent.result
    (c.with_one-spent.ensures ∙ ap (spend c.args.self.now.spent c.depth-depth.result) c.applied.ensures)
    c.is_over_limit-limit.result c.is_over_limit-limit.ensures
    ∙ sym (c.first_rule-rule.ensures
    ∙ (λ i. rule_of (c.is_faulty-shape.ensures i) (not c.in_ok-effect.effect.found) (c.bad_local.ensures i)
    (c.falls_off.ensures i) c.is_over_limit-limit.result)))
    (λ none.
    pass_ready c.args.scope.now c.args.at c.args.x c.args.self.now c.requires.ready c.requires.here c.args.mark
    c.requires.arrived c.effect_of.new.shapes c.in_ok-effect.effect c.in_ok-effect.ensures
    c.clashes-clash.result
    (c.clashes-clash.ensures
    ∙ (λ i. clashes_at c.effect_of.new.shapes (c.deref.ensures.value i) c.args.at c.in_ok-effect.effect.after
    (c.target.ensures i)))
    c.depth-depth.result c.depth-depth.ensures.depth c.depth-depth.ensures.small
    c.with_one-spent.result
    (c.with_one-spent.ensures ∙ ap (spend c.args.self.now.spent c.depth-depth.result) c.applied.ensures)
    c.is_over_limit-limit.result c.is_over_limit-limit.ensures
    (sym (c.first_rule-rule.ensures
    ∙ (λ i. rule_of (c.is_faulty-shape.ensures i) (not c.in_ok-effect.effect.found) (c.bad_local.ensures i)
    (c.falls_off.ensures i) c.is_over_limit-limit.result))
    ∙ none)
    _ refl
    (c.leap_on.ensures
    ∙ (λ i. leap c.args.self.now.ahead.items c.args.at
    (record { shape = c.in_ok-effect.effect.after; paid = c.paid_after.ensures i }) (c.target-then-is_none.ensures i)))
    (c.mark_if-self.ensures
    ∙ (λ i. if c.falls.ensures i
    then Some (record { shape = c.in_ok-effect.effect.after; paid = c.paid_after.ensures i }) else None))
    refl)

pub returns-else-is_none : goal.returns-else-is_none
returns-else-is_none c =
    step_done c.args.scope.now c.args.at c.args.x _ c.first_rule-rule.result
    (pass_rule c.args.scope.now c.args.at c.args.x c.args.self.now c.requires.ready c.requires.here c.args.mark
    c.requires.arrived c.effect_of.new.shapes c.in_ok-effect.effect c.in_ok-effect.ensures
    c.clashes-clash.result
    (c.clashes-clash.ensures
    ∙ (λ i. clashes_at c.effect_of.new.shapes (c.deref.ensures.value i) c.args.at c.in_ok-effect.effect.after
    (c.target.ensures i)))
    c.depth-depth.result c.depth-depth.ensures.depth c.depth-depth.ensures.small
    c.with_one-spent.result
    (c.with_one-spent.ensures ∙ ap (spend c.args.self.now.spent c.depth-depth.result) c.applied.ensures)
    c.is_over_limit-limit.result c.is_over_limit-limit.ensures
    ∙ sym (c.first_rule-rule.ensures
    ∙ (λ i. rule_of (c.is_faulty-shape.ensures i) (not c.in_ok-effect.effect.found) (c.bad_local.ensures i)
    (c.falls_off.ensures i) c.is_over_limit-limit.result)))
    (λ none. absurd (not_none c.first_rule-rule.result c.is_none.result c.is_none.ensures c.if-is_none.false none))
