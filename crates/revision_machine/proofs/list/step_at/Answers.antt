-- Answers of step_at: what the revision's own advance answers is its step, and a child goes to the end.
use Rattle.std.proofs.Common.{◌≡◌, ◌+◌, length, set, get_or, sym, ap, ◌∙◌, subst, refl, Some, arith, length-set}
use Rattle.rev_num.specs.Path.{child}
use Rattle.revision_machine.specs.Machine.{Live, step}
use Rattle.revision_machine.specs.Laws.{IsDistinct}
use Rattle.revision_machine.specs.declared.state.RevisionRow.{RevisionRow}
use Rattle.revision_machine.specs.Rules.{machine_of, event_of, IsStill}
use Rattle.revision_machine.specs.PathIndex.{IsIndexed}
use Rattle.revision_machine.specs.ListStep.{with_state}
use Rattle.revision_machine.specs.RevisionList.{globe, paths}
use Rattle.revision_machine.specs.StepOutcomes.{IsReached}
use Rattle.revision_machine.proofs.RevisionList.{paths-set}
use Rattle.revision_machine.proofs.PathIndex.{indexed_forked}
use Rattle.revision_machine.proofs.Steps.{same_read}
use Rattle.revision_machine.proofs.Places.{over_marked_at, over_ended_at, moved_at, room_at, forks_at, forks_distinct, distinct_at, unchanged}
use Rattle.revision_machine.proofs.list.step_at.Goals as goal

pub returns-then-index-clause-step : goal.returns-then-index-clause-step
returns-then-index-clause-step g c d =
    let M = machine_of (g.L.Language.rules c.args.language.now) in (
      over_marked_at M c.args.list.now.items c.args.i c.requires.distinct c.requires.within c.index.result.now
          c.index.ensures c.if-index.true d,
      refl,
    )

pub advance-requires : goal.advance-requires
advance-requires g c =
    let M = machine_of (g.L.Language.rules c.args.language.now) in
    let list = c.args.list.now.items in
    let x = c.index_mut-revision.result.now in
    let r = c.index_mut-revision.ensures.value in
    let plain =
    ap (λ v. v.joined) (same_read list c.args.i x c.index.result.now c.requires.within r c.index.ensures)
    ∙ c.if-index.false in
    room_at M list c.args.i c.requires.distinct c.requires.within x r plain
    (g.L.Language.rules c.args.language.now).holds (g.L.Language.rules c.args.language.now).weight
    (g.L.Language.rules c.args.language.now).limit (g.met.L.Language.keeps c.args.language.now).counts
    (g.met.L.Language.keeps c.args.language.now).handles (g.met.L.Language.keeps c.args.language.now).spends
    c.requires.reached

pub join_at-requires-clause-reached : goal.join_at-requires-clause-reached
join_at-requires-clause-reached g c =
    let M = machine_of (g.L.Language.rules c.args.language.now) in
    let x = c.index_mut-revision.result.now in
    let still = subst (λ n. IsStill n x.state c.advance.new.state) c.in-Joins.is c.in_ok-advance.ensures.still in
    subst (λ v.
    IsReached M (g.L.Language.rules c.args.language.now).holds
    (λ l. M.forks l + (g.L.Language.rules c.args.language.now).weight l) (g.L.Language.rules c.args.language.now).limit
    (Live (globe v)))
    (sym (unchanged M c.args.list.now.items c.args.i c.requires.distinct c.requires.within x
    c.index_mut-revision.ensures.value c.advance.new.state still))
    c.requires.reached

pub returns-in-Moved-clause-step : goal.returns-in-Moved-clause-step
returns-in-Moved-clause-step g c =
    let M = machine_of (g.L.Language.rules c.args.language.now) in
    let list = c.args.list.now.items in
    let x = c.index_mut-revision.result.now in
    let r = c.index_mut-revision.ensures.value in
    let plain =
    ap (λ v. v.joined) (same_read list c.args.i x c.index.result.now c.requires.within r c.index.ensures)
    ∙ c.if-index.false in
    let does = sym c.in_ok-advance.ensures.event ∙ ap (λ n. event_of n c.advance.new.state) c.in-Moved.is in
    moved_at M list c.args.i c.requires.distinct c.requires.within x r plain c.advance.new.state does

pub returns-in-Moved-clause-distinct : goal.returns-in-Moved-clause-distinct
returns-in-Moved-clause-distinct g c =
    let M = machine_of (g.L.Language.rules c.args.language.now) in
    distinct_at M c.args.list.now.items c.args.i c.requires.distinct c.requires.within c.index_mut-revision.result.now
    c.index_mut-revision.ensures.value c.advance.new.state

pub returns-in-Ended-clause-step : goal.returns-in-Ended-clause-step
returns-in-Ended-clause-step g c d =
    let M = machine_of (g.L.Language.rules c.args.language.now) in
    let list = c.args.list.now.items in
    let x = c.index_mut-revision.result.now in
    let r = c.index_mut-revision.ensures.value in
    let plain =
    ap (λ v. v.joined) (same_read list c.args.i x c.index.result.now c.requires.within r c.index.ensures)
    ∙ c.if-index.false in
    let does = sym c.in_ok-advance.ensures.event ∙ ap (λ n. event_of n c.advance.new.state) c.in-Ended.is in
    let still = subst (λ n. IsStill n x.state c.advance.new.state) c.in-Ended.is c.in_ok-advance.ensures.still in (
      over_ended_at M list c.args.i c.requires.distinct c.requires.within x r plain does d,
      unchanged M list c.args.i c.requires.distinct c.requires.within x r c.advance.new.state still,
    )

pub returns-in_ok-push-in-Forked-clause-step : goal.returns-in_ok-push-in-Forked-clause-step
returns-in_ok-push-in-Forked-clause-step g c =
    let M = machine_of (g.L.Language.rules c.args.language.now) in
    let list = c.args.list.now.items in
    let x = c.index_mut-revision.result.now in
    let r = c.index_mut-revision.ensures.value in
    let plain =
    ap (λ v. v.joined) (same_read list c.args.i x c.index.result.now c.requires.within r c.index.ensures)
    ∙ c.if-index.false in
    let does = sym c.in_ok-advance.ensures.event ∙ ap (λ n. event_of n c.advance.new.state) c.in-Forked.is in
    let number =
    c.forks-made.ensures
    ∙ ap (λ v. M.forks v.state)
    (same_read list c.args.i c.index-2.result.now x c.requires.within c.index-2.ensures r) in
    let path = c.in_ok-path-in-Forked.ensures ∙ ap (child x.path) number in
    subst
    (λ v. (d : RevisionRow M.Local) → step M (Live (globe list)) (get_or list c.args.i d).path ≡ Some (Live (globe v)))
    (sym c.in_ok-push-in-Forked.ensures.items)
    (forks_at M list c.args.i c.requires.distinct c.requires.within x r plain
    (g.L.Language.rules c.args.language.now).holds (g.L.Language.rules c.args.language.now).weight
    (g.L.Language.rules c.args.language.now).limit (g.met.L.Language.keeps c.args.language.now).counts
    (g.met.L.Language.keeps c.args.language.now).handles (g.met.L.Language.keeps c.args.language.now).spends
    c.requires.reached c.advance.new.state c.in-Forked.state _ path does refl)

pub returns-in_ok-push-in-Forked-clause-distinct : goal.returns-in_ok-push-in-Forked-clause-distinct
returns-in_ok-push-in-Forked-clause-distinct g c =
    let M = machine_of (g.L.Language.rules c.args.language.now) in
    let list = c.args.list.now.items in
    let x = c.index_mut-revision.result.now in
    let r = c.index_mut-revision.ensures.value in
    let plain =
    ap (λ v. v.joined) (same_read list c.args.i x c.index.result.now c.requires.within r c.index.ensures)
    ∙ c.if-index.false in
    let number =
    c.forks-made.ensures
    ∙ ap (λ v. M.forks v.state)
    (same_read list c.args.i c.index-2.result.now x c.requires.within c.index-2.ensures r) in
    let path = c.in_ok-path-in-Forked.ensures ∙ ap (child x.path) number in
    subst (λ v. IsDistinct (paths v)) (sym c.in_ok-push-in-Forked.ensures.items)
    (forks_distinct M list c.args.i c.requires.distinct c.requires.within x r plain
    (g.L.Language.rules c.args.language.now).holds (g.L.Language.rules c.args.language.now).weight
    (g.L.Language.rules c.args.language.now).limit (g.met.L.Language.keeps c.args.language.now).counts
    (g.met.L.Language.keeps c.args.language.now).handles (g.met.L.Language.keeps c.args.language.now).spends
    c.requires.reached c.advance.new.state c.in-Forked.state _ path)

pub returns-in-Moved-clause-indexed : goal.returns-in-Moved-clause-indexed
returns-in-Moved-clause-indexed g c =
    let x = c.index_mut-revision.result.now in
    let r = c.index_mut-revision.ensures.value in
    subst (IsIndexed c.args.places.now.map)
    (sym (paths-set c.args.list.now.items c.args.i x (with_state x c.advance.new.state) c.requires.within
    (ap (λ v. v.path) r)))
    c.requires.indexed

pub returns-in-Ended-clause-indexed : goal.returns-in-Ended-clause-indexed
returns-in-Ended-clause-indexed g c =
    let x = c.index_mut-revision.result.now in
    let r = c.index_mut-revision.ensures.value in
    subst (IsIndexed c.args.places.now.map)
    (sym (paths-set c.args.list.now.items c.args.i x (with_state x c.advance.new.state) c.requires.within
    (ap (λ v. v.path) r)))
    c.requires.indexed

pub join_at-requires-clause-indexed : goal.join_at-requires-clause-indexed
join_at-requires-clause-indexed g c =
    let x = c.index_mut-revision.result.now in
    let r = c.index_mut-revision.ensures.value in
    subst (IsIndexed c.args.places.now.map)
    (sym (paths-set c.args.list.now.items c.args.i x (with_state x c.advance.new.state) c.requires.within
    (ap (λ v. v.path) r)))
    c.requires.indexed

pub returns-in_ok-push-in-Forked-clause-indexed : goal.returns-in_ok-push-in-Forked-clause-indexed
returns-in_ok-push-in-Forked-clause-indexed g c =
    let list = c.args.list.now.items in
    let x = c.index_mut-revision.result.now in
    let set_is =
    paths-set list c.args.i x (with_state x c.advance.new.state) c.requires.within
    (ap (λ v. v.path) c.index_mut-revision.ensures.value) in
    let place : c.len.result ≡ length (set list c.args.i (with_state x c.advance.new.state)) =
    (let kept = length-set list c.args.i (with_state x c.advance.new.state) in
    let n = c.args.list.now.ok.0 in
    let e = c.len.ensures in
    omega arith) in
    subst (λ v. IsIndexed c.enter.new.self.map (paths v)) (sym c.in_ok-push-in-Forked.ensures.items)
    (indexed_forked c.args.places.now.map c.enter.new.self.map list
    (set list c.args.i (with_state x c.advance.new.state)) _ _ c.len.result set_is refl place c.requires.indexed
    c.in_ok-enter-in-Forked.ensures.ok)
