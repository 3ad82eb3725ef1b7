-- Answers of first_difference: from the last part on, each that is not the computed one is the first so far.
use Rattle.std.proofs.Common.{◌≡◌, ◌+◌, ◌-◌, arith, refl, subst}
use Rattle.revision_state.specs.Views.{given}
use Rattle.audit_rules.specs.Verdicts.{computed_part}
use Rattle.rev_audit.specs.Sweep.{Differs}
use Rattle.stated_parts.proofs.Accepted.{accepted}
use Rattle.rev_audit.proofs.Sweeps.{differs_here, none_yet, same_more}
use Rattle.rev_audit.proofs.sweep.first_difference.Goals as goal

pub loop-index-init : goal.loop-index-init
loop-index-init c =
    let t = c.args.stated.now in
    record {
      within = omega arith;
      kept = c.requires.kept;
      first = none_yet (given t.setting) t.fuel t.parts.now (accepted t.setting) c.requires.order;
    }

pub loop-index-preserved-then-not-is_same : goal.loop-index-preserved-then-not-is_same
loop-index-preserved-then-not-is_same c =
    let t = c.args.stated.now in
    let i = c.loop-index.index - 1 in
    let w = c.loop-index.invariant.within in
    record {
      within = omega arith;
      kept = c.in_ok-computed.ensures.kept;
      first = differs_here (given t.setting) t.fuel t.parts.now (accepted t.setting) c.requires.order i
          c.nth_part-part.result.now (record { index = i; computed = c.in_ok-computed.computed }) refl
          c.nth_part-part.ensures c.in_ok-computed.ensures.computed c.if-not-is_same.ensures;
    }

pub loop-index-preserved-else-not-is_same : goal.loop-index-preserved-else-not-is_same
loop-index-preserved-else-not-is_same c =
    let t = c.args.stated.now in
    let i = c.loop-index.index - 1 in
    let w = c.loop-index.invariant.within in
    let more = c.loop-index-test.true in
    let step : c.loop-index.index ≡ i + 1 = omega arith in
    record {
      within = omega arith;
      kept = c.in_ok-computed.ensures.kept;
      first = same_more (given t.setting) t.fuel t.parts.now (accepted t.setting) c.requires.order i c.loop-index.found
          c.nth_part-part.result.now (computed_part c.in_ok-computed.computed) c.nth_part-part.ensures
          c.in_ok-computed.ensures.computed c.if-not-is_same.ensures
          (subst (λ n. Differs (given t.setting) t.fuel t.parts.now n c.loop-index.found) step
          c.loop-index.invariant.first);
    }
