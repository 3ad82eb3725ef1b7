-- Answers of CodeRevisions::settle: joiner and end meet in one run, so their fuel fits, and they make the hub's join.
use Rattle.std.proofs.Common.{◌≡◌, ℕ, ◌+◌, ◌<◌, ◌^◌, true, sym, ap, ◌∙◌, subst}
use Rattle.fun_run.specs.Merging.{AreMergesOf}
use Rattle.block_run.specs.Area.{count}
use Rattle.code_machine.specs.Local.{at_work, end_of, End}
use Rattle.code_machine.specs.Joining.{join_in}
use Rattle.run_revision.specs.CodeState.{state_of}
use Rattle.run_revision.specs.CodeValues.{code_hub, is_end, joined, LeftValue}
use Rattle.hub_workers.specs.Legs.{IsEndBy}
use Rattle.version_map.specs.declared.end.EndValue.{EndValue}
use Rattle.version_map.specs.declared.end.Finish.TheVariants as finish
use Rattle.rev_vm.specs.Meaning.{IsClaimed, IsEnd}
use Rattle.rev_vm.specs.Starts.{run_under}
use Rattle.rev_vm.specs.States.{end_for}
use Rattle.rev_vm.specs.Values.{joiner_state, joiner_group}
use Rattle.rev_vm.proofs.Born.{one_runner, runner_own}
use Rattle.rev_vm.proofs.Values.{one_end}
use Rattle.run_revision.specs.Hands.{begins}
use Rattle.run_revision.specs.Values.{made_by_join}
use Rattle.run_revision.proofs.Standing.{end_own}
use Rattle.run_revision.proofs.Events.{by_phase}
use Rattle.run_revision.proofs.Taking.{same_hand, same_end, fuels, is_done, joined_is, end_stops}
use Rattle.run_revision.proofs.legs.CodeRevisionsLegs.settle.Goals as goal

pub claim-requires-clause-fuel : goal.claim-requires-clause-fuel
claim-requires-clause-fuel g c =
    let q = c.requires.met in
    let own = run_under c.at.inside.setting.now in
    let its = run_under c.end.inside.setting.now in
    let mine = run_under c.hand.inside.setting.now in
    let s = joiner_state own c.at.inside.at in
    subst (λ v. s.fuel + v.fuel < 2 ^ 64) (sym c.into_inner-left.ensures)
    (fuels own its mine s c.at.inside.at.is_try c.at.inside.at.on (joiner_group c.at.inside.at) c.end.inside.value.value
    c.args.hand.now q.0 q.1 (c.at.view_is ∙ q.2.0) (c.end.view_is ∙ q.2.1) (ap (λ z. z.run) c.hand.view_is) q.4)

pub claim-requires-clause-done : goal.claim-requires-clause-done
claim-requires-clause-done g c =
    let q = c.requires.met in
    let own = run_under c.at.inside.setting.now in
    let its = run_under c.end.inside.setting.now in
    let mine = run_under c.hand.inside.setting.now in
    let s = joiner_state own c.at.inside.at in
    subst (λ (v : EndValue). v.finish ≡ finish.Done) (sym c.into_inner-left.ensures)
    (is_done own its mine s c.at.inside.at.is_try c.at.inside.at.on (joiner_group c.at.inside.at)
    c.end.inside.value.value c.args.hand.now q.0 q.1 (c.at.view_is ∙ q.2.0) (c.end.view_is ∙ q.2.1)
    (ap (λ z. z.run) c.hand.view_is) q.4 q.3)

pub claim-requires-clause-of : goal.claim-requires-clause-of
claim-requires-clause-of g c =
    let q = c.requires.met in
    let own = run_under c.at.inside.setting.now in
    let its = run_under c.end.inside.setting.now in
    let mine = run_under c.hand.inside.setting.now in
    let s = joiner_state own c.at.inside.at in
    let j : End ℕ = end_for own c.end.inside.value.value in
    let alike =
    same_end own its mine s c.at.inside.at.is_try c.at.inside.at.on (joiner_group c.at.inside.at)
    c.end.inside.value.value c.args.hand.now q.0 q.1 (c.at.view_is ∙ q.2.0) (c.end.view_is ∙ q.2.1)
    (ap (λ z. z.run) c.hand.view_is) q.4 in (
      own,
      s,
      j,
      c.at.invariant,
      subst (IsEnd own j) (sym c.into_inner-left.ensures)
          (subst (λ z. IsEnd z (end_for z c.end.inside.value.value) c.end.inside.value.value) alike c.end.invariant),
    )

pub settle-requires : goal.settle-requires
settle-requires g c =
    let q = c.requires.met in
    let own = run_under c.at.inside.setting.now in
    let its = run_under c.end.inside.setting.now in
    let mine = run_under c.hand.inside.setting.now in
    let s = joiner_state own c.at.inside.at in
    let j : End ℕ = end_for own c.end.inside.value.value in
    let same =
    same_hand own its mine s c.at.inside.at.is_try c.at.inside.at.on (joiner_group c.at.inside.at)
    c.end.inside.value.value c.args.hand.now q.0 q.1 (c.at.view_is ∙ q.2.0) (c.end.view_is ∙ q.2.1)
    (ap (λ z. z.run) c.hand.view_is) q.4 in
    let alike =
    same_end own its mine s c.at.inside.at.is_try c.at.inside.at.on (joiner_group c.at.inside.at)
    c.end.inside.value.value c.args.hand.now q.0 q.1 (c.at.view_is ∙ q.2.0) (c.end.view_is ∙ q.2.1)
    (ap (λ z. z.run) c.hand.view_is) q.4 in
    let at = c.at.inside.at in
    let has : IsClaimed own at.revision.value.run at.revision.value.memory.delta
    (g.P.Snapshot.base at.revision.value.memory.snapshot) at.revision.value.memory.first.roots at.is_try
    at.on c.end.inside.value.value s j = record {
      joiner = c.at.invariant;
      joinee = subst (λ z. IsEnd z (end_for z c.end.inside.value.value) c.end.inside.value.value) alike c.end.invariant;
      done = is_done own its mine s c.at.inside.at.is_try c.at.inside.at.on (joiner_group c.at.inside.at)
          c.end.inside.value.value c.args.hand.now q.0 q.1 (c.at.view_is ∙ q.2.0) (c.end.view_is ∙ q.2.1)
          (ap (λ z. z.run) c.hand.view_is) q.4 q.3;
    } in
    let given : IsClaimed own c.claim.result.at.revision.value.run c.claim.result.at.revision.value.memory.delta
    (g.P.Snapshot.base c.claim.result.at.revision.value.memory.snapshot)
    c.claim.result.at.revision.value.memory.first.roots c.claim.result.at.is_try
    c.claim.result.at.on c.claim.result.end s j =
    subst (λ v.
    IsClaimed own c.claim.result.at.revision.value.run c.claim.result.at.revision.value.memory.delta
    (g.P.Snapshot.base c.claim.result.at.revision.value.memory.snapshot)
    c.claim.result.at.revision.value.memory.first.roots c.claim.result.at.is_try
    c.claim.result.at.on v s j)
    (sym (c.claim.ensures.end ∙ c.into_inner-left.ensures))
    (subst (λ k.
    IsClaimed own k.revision.value.run k.revision.value.memory.delta
    (g.P.Snapshot.base k.revision.value.memory.snapshot) k.revision.value.memory.first.roots k.is_try k.on
    c.end.inside.value.value s j)
    (sym c.claim.ensures.at) has) in
    c.hand.invariant.0 ∙ ap (λ z. count z.code.vars) (sym same) ∙ sym given.joiner.stands.size
    ∙ c.claim.result.at.revision.value.memory.written

pub invariant_of-result : goal.invariant_of-result
invariant_of-result g c =
    let q = c.requires.met in
    let own = run_under c.at.inside.setting.now in
    let its = run_under c.end.inside.setting.now in
    let mine = run_under c.hand.inside.setting.now in
    let s = joiner_state own c.at.inside.at in
    let j : End ℕ = end_for own c.end.inside.value.value in
    let same =
    same_hand own its mine s c.at.inside.at.is_try c.at.inside.at.on (joiner_group c.at.inside.at)
    c.end.inside.value.value c.args.hand.now q.0 q.1 (c.at.view_is ∙ q.2.0) (c.end.view_is ∙ q.2.1)
    (ap (λ z. z.run) c.hand.view_is) q.4 in
    let alike =
    same_end own its mine s c.at.inside.at.is_try c.at.inside.at.on (joiner_group c.at.inside.at)
    c.end.inside.value.value c.args.hand.now q.0 q.1 (c.at.view_is ∙ q.2.0) (c.end.view_is ∙ q.2.1)
    (ap (λ z. z.run) c.hand.view_is) q.4 in
    let at = c.at.inside.at in
    let has : IsClaimed own at.revision.value.run at.revision.value.memory.delta
    (g.P.Snapshot.base at.revision.value.memory.snapshot) at.revision.value.memory.first.roots at.is_try
    at.on c.end.inside.value.value s j = record {
      joiner = c.at.invariant;
      joinee = subst (λ z. IsEnd z (end_for z c.end.inside.value.value) c.end.inside.value.value) alike c.end.invariant;
      done = is_done own its mine s c.at.inside.at.is_try c.at.inside.at.on (joiner_group c.at.inside.at)
          c.end.inside.value.value c.args.hand.now q.0 q.1 (c.at.view_is ∙ q.2.0) (c.end.view_is ∙ q.2.1)
          (ap (λ z. z.run) c.hand.view_is) q.4 q.3;
    } in
    let given : IsClaimed own c.claim.result.at.revision.value.run c.claim.result.at.revision.value.memory.delta
    (g.P.Snapshot.base c.claim.result.at.revision.value.memory.snapshot)
    c.claim.result.at.revision.value.memory.first.roots c.claim.result.at.is_try
    c.claim.result.at.on c.claim.result.end s j =
    subst (λ v.
    IsClaimed own c.claim.result.at.revision.value.run c.claim.result.at.revision.value.memory.delta
    (g.P.Snapshot.base c.claim.result.at.revision.value.memory.snapshot)
    c.claim.result.at.revision.value.memory.first.roots c.claim.result.at.is_try
    c.claim.result.at.on v s j)
    (sym (c.claim.ensures.end ∙ c.into_inner-left.ensures))
    (subst (λ k.
    IsClaimed own k.revision.value.run k.revision.value.memory.delta
    (g.P.Snapshot.base k.revision.value.memory.snapshot) k.revision.value.memory.first.roots k.is_try k.on
    c.end.inside.value.value s j)
    (sym c.claim.ensures.at) has) in
    let merges : AreMergesOf own (g.M.MergeBy.merges c.hand.inside.merges) =
    subst (λ z. AreMergesOf z (g.M.MergeBy.merges c.hand.inside.merges)) (sym same) c.hand.invariant.1 in
    let r = rw c.in-Ok-Run.field-0-is at (c.in-Ok-Run.ensures.settled own s j given merges) in
    runner_own own c.in-Ok-Run.runner _ r.2

pub invariant_of-hand : goal.invariant_of-hand
invariant_of-hand g c = (
  c.settle.ensures.merges_size ∙ c.hand.invariant.0,
  subst (λ f. AreMergesOf (run_under c.hand.inside.setting.now) f) (sym c.settle.ensures.merges_same)
      c.hand.invariant.1,
)

pub invariant_of-hand-in-Ok-Trap : goal.invariant_of-hand-in-Ok-Trap
invariant_of-hand-in-Ok-Trap g c = (
  c.settle.ensures.merges_size ∙ c.hand.invariant.0,
  subst (λ f. AreMergesOf (run_under c.hand.inside.setting.now) f) (sym c.settle.ensures.merges_same)
      c.hand.invariant.1,
)

pub invariant_of-hand-in-Err : goal.invariant_of-hand-in-Err
invariant_of-hand-in-Err g c = (
  c.settle.ensures.merges_size ∙ c.hand.invariant.0,
  subst (λ f. AreMergesOf (run_under c.hand.inside.setting.now) f) (sym c.settle.ensures.merges_same)
      c.hand.invariant.1,
)

pub leave-requires-clause-end : goal.leave-requires-clause-end
leave-requires-clause-end g c =
    let q = c.requires.met in
    let own = run_under c.at.inside.setting.now in
    let its = run_under c.end.inside.setting.now in
    let mine = run_under c.hand.inside.setting.now in
    let s = joiner_state own c.at.inside.at in
    let j : End ℕ = end_for own c.end.inside.value.value in
    let same =
    same_hand own its mine s c.at.inside.at.is_try c.at.inside.at.on (joiner_group c.at.inside.at)
    c.end.inside.value.value c.args.hand.now q.0 q.1 (c.at.view_is ∙ q.2.0) (c.end.view_is ∙ q.2.1)
    (ap (λ z. z.run) c.hand.view_is) q.4 in
    let alike =
    same_end own its mine s c.at.inside.at.is_try c.at.inside.at.on (joiner_group c.at.inside.at)
    c.end.inside.value.value c.args.hand.now q.0 q.1 (c.at.view_is ∙ q.2.0) (c.end.view_is ∙ q.2.1)
    (ap (λ z. z.run) c.hand.view_is) q.4 in
    let at = c.at.inside.at in
    let has : IsClaimed own at.revision.value.run at.revision.value.memory.delta
    (g.P.Snapshot.base at.revision.value.memory.snapshot) at.revision.value.memory.first.roots at.is_try
    at.on c.end.inside.value.value s j = record {
      joiner = c.at.invariant;
      joinee = subst (λ z. IsEnd z (end_for z c.end.inside.value.value) c.end.inside.value.value) alike c.end.invariant;
      done = is_done own its mine s c.at.inside.at.is_try c.at.inside.at.on (joiner_group c.at.inside.at)
          c.end.inside.value.value c.args.hand.now q.0 q.1 (c.at.view_is ∙ q.2.0) (c.end.view_is ∙ q.2.1)
          (ap (λ z. z.run) c.hand.view_is) q.4 q.3;
    } in
    let given : IsClaimed own c.claim.result.at.revision.value.run c.claim.result.at.revision.value.memory.delta
    (g.P.Snapshot.base c.claim.result.at.revision.value.memory.snapshot)
    c.claim.result.at.revision.value.memory.first.roots c.claim.result.at.is_try
    c.claim.result.at.on c.claim.result.end s j =
    subst (λ v.
    IsClaimed own c.claim.result.at.revision.value.run c.claim.result.at.revision.value.memory.delta
    (g.P.Snapshot.base c.claim.result.at.revision.value.memory.snapshot)
    c.claim.result.at.revision.value.memory.first.roots c.claim.result.at.is_try
    c.claim.result.at.on v s j)
    (sym (c.claim.ensures.end ∙ c.into_inner-left.ensures))
    (subst (λ k.
    IsClaimed own k.revision.value.run k.revision.value.memory.delta
    (g.P.Snapshot.base k.revision.value.memory.snapshot) k.revision.value.memory.first.roots k.is_try k.on
    c.end.inside.value.value s j)
    (sym c.claim.ensures.at) has) in
    let merges : AreMergesOf own (g.M.MergeBy.merges c.hand.inside.merges) =
    subst (λ z. AreMergesOf z (g.M.MergeBy.merges c.hand.inside.merges)) (sym same) c.hand.invariant.1 in
    end_own own _ c.in-Ok-Trap.stopped.end
    (rw c.in-Ok-Trap.field-0-is at (c.in-Ok-Trap.ensures.settled own s j given merges))

pub returns-in-Ok-Run-clause-state : goal.returns-in-Ok-Run-clause-state
returns-in-Ok-Run-clause-state g c a e is none met =
    let own = run_under c.at.inside.setting.now in
    let its = run_under c.end.inside.setting.now in
    let mine = run_under c.hand.inside.setting.now in
    let s = joiner_state own c.at.inside.at in
    let j : End ℕ = end_for own c.end.inside.value.value in
    let same =
    same_hand own its mine s c.at.inside.at.is_try c.at.inside.at.on (joiner_group c.at.inside.at)
    c.end.inside.value.value c.args.hand.now a e (c.at.view_is ∙ is.0) (c.end.view_is ∙ is.1)
    (ap (λ z. z.run) c.hand.view_is) met in
    let alike =
    same_end own its mine s c.at.inside.at.is_try c.at.inside.at.on (joiner_group c.at.inside.at)
    c.end.inside.value.value c.args.hand.now a e (c.at.view_is ∙ is.0) (c.end.view_is ∙ is.1)
    (ap (λ z. z.run) c.hand.view_is) met in
    let at = c.at.inside.at in
    let has : IsClaimed own at.revision.value.run at.revision.value.memory.delta
    (g.P.Snapshot.base at.revision.value.memory.snapshot) at.revision.value.memory.first.roots at.is_try
    at.on c.end.inside.value.value s j = record {
      joiner = c.at.invariant;
      joinee = subst (λ z. IsEnd z (end_for z c.end.inside.value.value) c.end.inside.value.value) alike c.end.invariant;
      done = is_done own its mine s c.at.inside.at.is_try c.at.inside.at.on (joiner_group c.at.inside.at)
          c.end.inside.value.value c.args.hand.now a e (c.at.view_is ∙ is.0) (c.end.view_is ∙ is.1)
          (ap (λ z. z.run) c.hand.view_is) met none;
    } in
    let given : IsClaimed own c.claim.result.at.revision.value.run c.claim.result.at.revision.value.memory.delta
    (g.P.Snapshot.base c.claim.result.at.revision.value.memory.snapshot)
    c.claim.result.at.revision.value.memory.first.roots c.claim.result.at.is_try
    c.claim.result.at.on c.claim.result.end s j =
    subst (λ v.
    IsClaimed own c.claim.result.at.revision.value.run c.claim.result.at.revision.value.memory.delta
    (g.P.Snapshot.base c.claim.result.at.revision.value.memory.snapshot)
    c.claim.result.at.revision.value.memory.first.roots c.claim.result.at.is_try
    c.claim.result.at.on v s j)
    (sym (c.claim.ensures.end ∙ c.into_inner-left.ensures))
    (subst (λ k.
    IsClaimed own k.revision.value.run k.revision.value.memory.delta
    (g.P.Snapshot.base k.revision.value.memory.snapshot) k.revision.value.memory.first.roots k.is_try k.on
    c.end.inside.value.value s j)
    (sym c.claim.ensures.at) has) in
    let merges : AreMergesOf own (g.M.MergeBy.merges c.hand.inside.merges) =
    subst (λ z. AreMergesOf z (g.M.MergeBy.merges c.hand.inside.merges)) (sym same) c.hand.invariant.1 in
    let r = rw c.in-Ok-Run.field-0-is at (c.in-Ok-Run.ensures.settled own s j given merges) in
    let one =
    one_runner own c.in-Ok-Run.runner r.0 r.2 in
    ap (λ z. state_of own (at_work z)) (sym one)
    ∙ (ap (state_of own) (sym r.1)
    ∙ (ap (λ k. state_of own (join_in own s k.is_try k.on j j.phase)) c.claim.ensures.at
    ∙ sym (joined_is own its mine s c.at.inside.at.is_try c.at.inside.at.on (joiner_group c.at.inside.at)
    c.end.inside.value.value c.args.hand.now a e (c.at.view_is ∙ is.0) (c.end.view_is ∙ is.1)
    (ap (λ z. z.run) c.hand.view_is) met)))

pub returns-in_ok-leave-in-Ok-Trap-clause-state : goal.returns-in_ok-leave-in-Ok-Trap-clause-state
returns-in_ok-leave-in-Ok-Trap-clause-state g c a e is none met =
    let own = run_under c.at.inside.setting.now in
    let its = run_under c.end.inside.setting.now in
    let mine = run_under c.hand.inside.setting.now in
    let s = joiner_state own c.at.inside.at in
    let j : End ℕ = end_for own c.end.inside.value.value in
    let same =
    same_hand own its mine s c.at.inside.at.is_try c.at.inside.at.on (joiner_group c.at.inside.at)
    c.end.inside.value.value c.args.hand.now a e (c.at.view_is ∙ is.0) (c.end.view_is ∙ is.1)
    (ap (λ z. z.run) c.hand.view_is) met in
    let alike =
    same_end own its mine s c.at.inside.at.is_try c.at.inside.at.on (joiner_group c.at.inside.at)
    c.end.inside.value.value c.args.hand.now a e (c.at.view_is ∙ is.0) (c.end.view_is ∙ is.1)
    (ap (λ z. z.run) c.hand.view_is) met in
    let at = c.at.inside.at in
    let has : IsClaimed own at.revision.value.run at.revision.value.memory.delta
    (g.P.Snapshot.base at.revision.value.memory.snapshot) at.revision.value.memory.first.roots at.is_try
    at.on c.end.inside.value.value s j = record {
      joiner = c.at.invariant;
      joinee = subst (λ z. IsEnd z (end_for z c.end.inside.value.value) c.end.inside.value.value) alike c.end.invariant;
      done = is_done own its mine s c.at.inside.at.is_try c.at.inside.at.on (joiner_group c.at.inside.at)
          c.end.inside.value.value c.args.hand.now a e (c.at.view_is ∙ is.0) (c.end.view_is ∙ is.1)
          (ap (λ z. z.run) c.hand.view_is) met none;
    } in
    let given : IsClaimed own c.claim.result.at.revision.value.run c.claim.result.at.revision.value.memory.delta
    (g.P.Snapshot.base c.claim.result.at.revision.value.memory.snapshot)
    c.claim.result.at.revision.value.memory.first.roots c.claim.result.at.is_try
    c.claim.result.at.on c.claim.result.end s j =
    subst (λ v.
    IsClaimed own c.claim.result.at.revision.value.run c.claim.result.at.revision.value.memory.delta
    (g.P.Snapshot.base c.claim.result.at.revision.value.memory.snapshot)
    c.claim.result.at.revision.value.memory.first.roots c.claim.result.at.is_try
    c.claim.result.at.on v s j)
    (sym (c.claim.ensures.end ∙ c.into_inner-left.ensures))
    (subst (λ k.
    IsClaimed own k.revision.value.run k.revision.value.memory.delta
    (g.P.Snapshot.base k.revision.value.memory.snapshot) k.revision.value.memory.first.roots k.is_try k.on
    c.end.inside.value.value s j)
    (sym c.claim.ensures.at) has) in
    let merges : AreMergesOf own (g.M.MergeBy.merges c.hand.inside.merges) =
    subst (λ z. AreMergesOf z (g.M.MergeBy.merges c.hand.inside.merges)) (sym same) c.hand.invariant.1 in
    let end = rw c.in-Ok-Trap.field-0-is at (c.in-Ok-Trap.ensures.settled own s j given merges) in
    let l = join_in own s c.claim.result.at.is_try c.claim.result.at.on j j.phase in
    let there : joined a e ≡ state_of own l =
    joined_is own its mine s c.at.inside.at.is_try c.at.inside.at.on (joiner_group c.at.inside.at)
    c.end.inside.value.value c.args.hand.now a e (c.at.view_is ∙ is.0) (c.end.view_is ∙ is.1)
    (ap (λ z. z.run) c.hand.view_is) met
    ∙ ap (λ k. state_of own (join_in own s k.is_try k.on j j.phase)) (sym c.claim.ensures.at) in
    subst (λ z.
    IsEndBy code_hub is_end (λ (x : LeftValue). made_by_join x.left.phase) true c.in_ok-leave-in-Ok-Trap.field-0 z)
    (sym there) (
      (
        end_stops own l c.in-Ok-Trap.stopped.end end,
        (
          sym c.in_ok-leave-in-Ok-Trap.ensures.run,
          one_end own (end_of l) c.in-Ok-Trap.stopped.end end ∙ sym c.in_ok-leave-in-Ok-Trap.ensures.left,
        ),
      ),
      ap (λ (x : End ℕ). made_by_join x.phase) c.in_ok-leave-in-Ok-Trap.ensures.left
          ∙ (by_phase c.in-Ok-Trap.stopped.end.finish ∙ (rw c.in-Ok-Trap.field-0-is at c.in-Ok-Trap.ensures.by_join)),
    )

pub returns-in_ok-leave-in-Ok-Trap-clause-hand : goal.returns-in_ok-leave-in-Ok-Trap-clause-hand
returns-in_ok-leave-in-Ok-Trap-clause-hand g c = (
  c.in_ok-leave-in-Ok-Trap.ensures.hand.0 ∙ ap (λ h. h.group) c.hand.view_is,
  λ l b. c.in_ok-leave-in-Ok-Trap.ensures.hand.1 l (subst (λ h. begins h l) (sym c.hand.view_is) b),
)

pub returns-in_err-leave-in-Ok-Trap-clause-hand : goal.returns-in_err-leave-in-Ok-Trap-clause-hand
returns-in_err-leave-in-Ok-Trap-clause-hand g c = (
  c.in_err-leave-in-Ok-Trap.ensures.hand.0 ∙ ap (λ h. h.group) c.hand.view_is,
  λ l b. c.in_err-leave-in-Ok-Trap.ensures.hand.1 l (subst (λ h. begins h l) (sym c.hand.view_is) b),
)
