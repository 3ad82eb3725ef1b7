-- Answers of computed_at: the start kept at this number is its revision's, whose own run gives the part.
use Rattle.std.proofs.Common.{None, arith, set, subst, sym}
use Rattle.rev_num.proofs.Lists.{within_some}
use Rattle.revision_state.specs.Views.{given}
use Rattle.audit_rules.specs.Verdicts.{computed_part}
use Rattle.rev_audit.specs.Sweep.{Grows, IsKept, IsStarts}
use Rattle.stated_parts.proofs.Accepted.{accepted}
use Rattle.rev_audit.proofs.Sweeps.{children_begin, kept_none, kept_run, none_computed, run_computed, stands_there, starts_taken}
use Rattle.rev_audit.proofs.sweep.computed_at.Goals as goal

pub index_mut-requires : goal.index_mut-requires
index_mut-requires c =
    let count = c.requires.kept.starts_are.count in
    let len = c.args.starts.now.starts.ok.0 in
    omega (arith, count, len)

pub run_alone-requires-clause-begins : goal.run_alone-requires-clause-begins
run_alone-requires-clause-begins c =
    let t = c.args.stated.now in
    let a = c.args.starts.now.starts.items in
    let count = c.requires.kept.starts_are.count in
    let e = stands_there a c.args.i c.index_mut.result.now _ _ (omega arith) c.index_mut.ensures.value
    c.take.ensures.value c.in-Some.is in
    let p = within_some t.parts.now c.args.i c.requires.within in
    (c.requires.kept.starts_are.begun c.args.i p.0 c.in-Some.first p.1 e).1

pub keep_all-requires-clause-kept : goal.keep_all-requires-clause-kept
keep_all-requires-clause-kept c =
    let t = c.args.stated.now in
    let a = c.args.starts.now.starts.items in
    let u = c.args.starts.now.unstated in
    subst (λ o. IsStarts (given t.setting) t.fuel t.parts.now (set a c.args.i o) u) (sym c.take.ensures.after)
    (starts_taken (given t.setting) t.fuel t.parts.now c.args.i a u c.requires.kept.starts_are)

pub keep_all-requires-clause-begin : goal.keep_all-requires-clause-begin
keep_all-requires-clause-begin c = λ x among.
    let t = c.args.stated.now in
    let a = c.args.starts.now.starts.items in
    let count = c.requires.kept.starts_are.count in
    let e = stands_there a c.args.i c.index_mut.result.now _ _ (omega arith) c.index_mut.ensures.value
    c.take.ensures.value c.in-Some.is in
    let o = c.in_ok-run-in-Some.run' in
    children_begin (given t.setting) t.fuel t.parts.now (accepted t.setting) c.requires.order c.args.i a
    c.args.starts.now.unstated c.in-Some.first (computed_part o.computed) o.children.items c.requires.within
    c.requires.kept e c.in_ok-run-in-Some.ensures x among

pub returns-in_ok-run-in-Some-clause-kept : goal.returns-in_ok-run-in-Some-clause-kept
returns-in_ok-run-in-Some-clause-kept c =
    let t = c.args.stated.now in
    let a = c.args.starts.now.starts.items in
    let u = c.args.starts.now.unstated in
    let b = c.keep_all.new.self.starts.items in
    let v = c.keep_all.new.self.unstated in
    let count = c.requires.kept.starts_are.count in
    let e = stands_there a c.args.i c.index_mut.result.now _ _ (omega arith) c.index_mut.ensures.value
    c.take.ensures.value c.in-Some.is in
    let o = c.in_ok-run-in-Some.run' in
    let q = within_some t.parts.now c.args.i c.requires.within in
    let grows = subst (λ x. Grows (set a c.args.i x) b u v) c.take.ensures.after c.keep_all.ensures.grows in
    kept_run (given t.setting) t.fuel t.parts.now (accepted t.setting) c.requires.order c.args.i a b u v c.in-Some.first
    (computed_part o.computed) o.children.items q.0 q.1 c.requires.kept e c.in_ok-run-in-Some.ensures
    c.keep_all.ensures.kept grows c.keep_all.ensures.hold

pub returns-in_ok-run-in-Some-clause-computed : goal.returns-in_ok-run-in-Some-clause-computed
returns-in_ok-run-in-Some-clause-computed c =
    let t = c.args.stated.now in
    let a = c.args.starts.now.starts.items in
    let count = c.requires.kept.starts_are.count in
    let e = stands_there a c.args.i c.index_mut.result.now _ _ (omega arith) c.index_mut.ensures.value
    c.take.ensures.value c.in-Some.is in
    let o = c.in_ok-run-in-Some.run' in
    run_computed (given t.setting) t.fuel t.parts.now (accepted t.setting) c.requires.order c.args.i a
    c.args.starts.now.unstated c.in-Some.first (computed_part o.computed) o.children.items c.requires.kept e
    c.in_ok-run-in-Some.ensures

pub returns-in-None-clause-kept : goal.returns-in-None-clause-kept
returns-in-None-clause-kept c =
    let t = c.args.stated.now in
    let a = c.args.starts.now.starts.items in
    let u = c.args.starts.now.unstated in
    let count = c.requires.kept.starts_are.count in
    let e = stands_there a c.args.i c.index_mut.result.now _ None (omega arith) c.index_mut.ensures.value
    c.take.ensures.value c.in-None.is in
    subst (λ o. IsKept (given t.setting) t.fuel t.parts.now c.args.i (set a c.args.i o) u) (sym c.take.ensures.after)
    (kept_none (given t.setting) t.fuel t.parts.now (accepted t.setting) c.requires.order c.args.i a u c.requires.kept
    e)

pub returns-in-None-clause-computed : goal.returns-in-None-clause-computed
returns-in-None-clause-computed c =
    let t = c.args.stated.now in
    let a = c.args.starts.now.starts.items in
    let count = c.requires.kept.starts_are.count in
    let e = stands_there a c.args.i c.index_mut.result.now _ None (omega arith) c.index_mut.ensures.value
    c.take.ensures.value c.in-None.is in
    none_computed (given t.setting) t.fuel t.parts.now (accepted t.setting) c.requires.order c.args.i a
    c.args.starts.now.unstated c.requires.kept e
