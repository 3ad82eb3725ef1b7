-- Answers of CodeRevisions::retire: the trap that is handed on makes one end alone, which is that of the hub's join.
use Rattle.std.proofs.Common.{refl, ℕ, true, false, sym, ap, ◌∙◌, subst}
use Rattle.code_machine.specs.Local.{end_of, End}
use Rattle.code_machine.specs.Joining.{inherit}
use Rattle.run_revision.specs.CodeValues.{code_hub, is_end, LeftValue}
use Rattle.hub_workers.specs.Legs.{IsEndBy}
use Rattle.rev_vm.specs.Starts.{run_under}
use Rattle.rev_vm.specs.Values.{joiner_state, joiner_group}
use Rattle.rev_vm.proofs.Values.{one_end}
use Rattle.run_revision.specs.Values.{made_by_join}
use Rattle.run_revision.proofs.Standing.{end_own}
use Rattle.run_revision.proofs.Events.{by_phase}
use Rattle.run_revision.proofs.Taking.{stopped_is, trap_for}
use Rattle.run_revision.proofs.legs.CodeRevisionsLegs.retire.Goals as goal

pub leave_in-requires-clause-end : goal.leave_in-requires-clause-end
leave_in-requires-clause-end g c =
    let own = run_under c.at.inside.setting.now in
    end_own own _ c.trapped.result.end
    (c.trapped.ensures.end own (joiner_state own c.at.inside.at) (trap_for c.trap_of-trap.result) c.at.invariant
    record { cause = refl; line = refl; origin = refl })

pub returns-clause-state : goal.returns-clause-state
returns-clause-state g c a e is trap plain met =
    let own = run_under c.at.inside.setting.now in
    let its = run_under c.end.inside.setting.now in
    let mine = c.args.hand.now.run in
    let s = joiner_state own c.at.inside.at in
    let t = trap_for c.trap_of-trap.result in
    let end = c.trapped.ensures.end own s t c.at.invariant record { cause = refl; line = refl; origin = refl } in
    let there =
    stopped_is own its mine s c.at.inside.at.is_try c.at.inside.at.on (joiner_group c.at.inside.at)
    c.end.inside.value.value c.args.hand.now a e (c.at.view_is ∙ is.0) (c.end.view_is ∙ is.1) refl met
    c.trap_of-trap.result (ap (λ v. v.finish) (sym c.deref.ensures) ∙ c.trap_of-trap.ensures) plain in
    subst (λ z. IsEndBy code_hub is_end (λ (x : LeftValue). made_by_join x.left.phase) true c.leave_in.result z)
    (sym there) (
      (
        refl,
        (
          sym c.leave_in.ensures.run,
          one_end own (end_of (inherit s false c.at.inside.at.on t)) c.trapped.result.end end
              ∙ sym c.leave_in.ensures.left,
        ),
      ),
      ap (λ (x : End ℕ). made_by_join x.phase) c.leave_in.ensures.left
          ∙ (by_phase c.trapped.result.end.finish ∙ c.trapped.ensures.by_join),
    )
