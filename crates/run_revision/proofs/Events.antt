-- The events of legs, as those of the machine.
use Rattle.std.proofs.Common.{◌≡◌, refl, ℕ, Bool, true, false, List, Option, Some, sym, ap, ◌∙◌, subst}
use Rattle.std.specs.Prelude.{slice_get}
use Rattle.rev_num.specs.declared.outcome.Cause.{Cause}
use Rattle.rev_code.specs.declared.code.CodeBlock.{CodeBlock}
use Rattle.rev_code.specs.Words.{Word}
use Rattle.rev_code.specs.State.{State}
use Rattle.rev_code.specs.Step.{Comes, traps, forks, joins, ends}
use Rattle.rev_code.specs.Events.{past_join}
use Rattle.revision_machine.specs.Numbered.{Bears}
use Rattle.version_map.specs.declared.end.EndValue.{EndValue}
use Rattle.version_map.specs.declared.end.Finish.{Finish}
use Rattle.version_map.specs.declared.end.Finish.TheVariants as finish
use Rattle.hub_core.specs.Hub.{Stands}
use Rattle.hub_core.specs.HubMachine as hub
use Rattle.hub_workers.specs.declared.legs.LegEvent.TheVariants as event
use Rattle.hub_workers.specs.Legs as legs
use Rattle.code_machine.specs.Local.{CodeRun, Phase, running, done, trapped, at_work, has_ended, End, end_of}
use Rattle.code_machine.specs.Leg.{leg}
use Rattle.code_machine.specs.Joining.{inherit, join_in}
use Rattle.code_machine.specs.Machines.{fork, act_of, wish_of}
use Rattle.run_revision.specs.CodeState.{CodeState, state_of, told, next}
use Rattle.run_revision.specs.CodeValues.{JoinerValue, LeftValue, is_trap, is_end, code_hub}
use Rattle.run_revision.proofs.JoinersAndEnds.{comes_to_join}
use Rattle.rev_vm.specs.Legs.{trap_of}
use Rattle.rev_vm.specs.Meaning.{IsEnd}
use Rattle.rev_vm.specs.States.{end_for, phase_as, is_by_join}
use Rattle.rev_vm.proofs.Values.{one_end}
use Rattle.run_revision.specs.Values.{made_by_join}
use Rattle.run_revision.specs.Forking.{ForkValue, forker, child_of, child}

pub by_phase : (f : Finish) → made_by_join (phase_as f) ≡ is_by_join f
by_phase finish.Done = refl
by_phase (finish.Trapped u) = refl

comes_to : (g : CodeRun) (c : State ℕ) (x : CodeState) (o : Comes ℕ) → state_of g (at_work c) ≡ x → leg g c ≡ o
    → next x ≡ told g (wish_of (act_of g o))
comes_to g c x o is comes = ap next (sym is) ∙ ap (λ z. told g (wish_of (act_of g z))) comes

pub forks_here :
    (g : CodeRun) (c d : State ℕ) (n : ℕ) (args : List (Word ℕ)) (x : CodeState) (v : ForkValue) (b : CodeBlock)
    → state_of g (at_work c) ≡ x → leg g c ≡ forks d n args
    → v ≡ record { run = g; state = d; block = n; args = args; group = v.group }
    → slice_get g.code.blocks n ≡ Some b → next x ≡ Bears (forker v) (child v)
forks_here g c d n args x v b is comes same there =
    let u : ForkValue = record { run = g; state = d; block = n; args = args; group = v.group } in
    comes_to g c x (forks d n args) is comes
    ∙ (ap (λ o. told g (wish_of (fork g d n args o))) there
    ∙ (ap (λ o. Bears (forker u) (child_of u o)) (sym there)
    ∙ ap (λ w. Bears (forker w) (child w)) (sym same)))

pub joins_here : (g : CodeRun) (c d : State ℕ) (a : JoinerValue) (x : CodeState) → state_of g (at_work c) ≡ x
    → a.run ≡ g → d ≡ a.state
    → leg g c ≡ joins d a.try a.on → Stands (hub.numbered code_hub) (hub.values code_hub is_end) a x
joins_here g c d a x is run same comes =
    subst (λ z. Stands (hub.numbered code_hub) (hub.values code_hub is_end) a z) is
    (comes_to_join g c a run (comes ∙ ap (λ z. joins z a.try a.on) same))

module _ {F : Type 0} (f : F → ℕ → CodeState) (k : F → CodeState) where
  abbrev EndsAs : CodeState → LeftValue → Type 0
  EndsAs x e = legs.Comes code_hub is_end (λ (z : LeftValue). made_by_join z.left.phase) f k x (event.End e)

  pub ends_here : (g : CodeRun) (c d : State ℕ) (w : Option (Word ℕ)) (v : EndValue) (x : CodeState) (e : LeftValue)
      → state_of g (at_work c) ≡ x → leg g c ≡ ends d w → IsEnd g (end_of (has_ended d done)) v
      → is_by_join v.finish ≡ false
      → e.run ≡ g → e.left ≡ end_for g v → EndsAs x e
  ends_here g c d w v x e is comes end own run left = (
    state_of g (has_ended d done),
    comes_to g c x (ends d w) is comes,
    (
      (refl, (sym run, one_end g _ v end ∙ sym left)),
      ap (λ (j : End ℕ). made_by_join j.phase) left ∙ (by_phase v.finish ∙ own),
    ),
  )

  pub traps_here : (g : CodeRun) (c d : State ℕ) (t : Cause) (v : EndValue) (x : CodeState) (e : LeftValue)
      → state_of g (at_work c) ≡ x → leg g c ≡ traps d t → IsEnd g (end_of (has_ended d (trap_of d t))) v
      → is_by_join v.finish ≡ false
      → e.run ≡ g → e.left ≡ end_for g v → EndsAs x e
  traps_here g c d t v x e is comes end own run left = (
    state_of g (has_ended d (trap_of d t)),
    comes_to g c x (traps d t) is comes,
    (
      (refl, (sym run, one_end g _ v end ∙ sym left)),
      ap (λ (j : End ℕ). made_by_join j.phase) left ∙ (by_phase v.finish ∙ own),
    ),
  )

-- ---- joins

pub dropped_is : (g : CodeRun) (c : State ℕ) (try : Bool) (m : ℕ) (j : End ℕ) (ph : Phase ℕ) → try ≡ true
    → is_trap ph ≡ true
    → join_in g c try m j ph ≡ at_work (past_join c true false m)
dropped_is g c try m j running is trap = cc
dropped_is g c try m j done is trap = cc
dropped_is g c try m j (trapped t) is trap = ap (λ b. inherit c b m t) is
