-- A joiner and the end that it takes in.
use Rattle.std.proofs.Common.{◌≡◌, refl, ℕ, ◌+◌, ◌<◌, ◌^◌, Bool, false, List, sym, ap, ◌∙◌, arith}
use Rattle.rev_code.specs.State.{State}
use Rattle.revision_machine.specs.Numbered.{Stops}
use Rattle.version_map.specs.declared.end.CodeTrap.{CodeTrap}
use Rattle.version_map.specs.declared.end.EndValue.{EndValue}
use Rattle.version_map.specs.declared.end.Finish.{Finish}
use Rattle.version_map.specs.declared.end.Finish.TheVariants as finish
use Rattle.hub_workers.specs.Legs.{HaveMet}
use Rattle.code_machine.specs.Local.{CodeRun, Trap, Phase, running, done, trapped, Local, end_of}
use Rattle.code_machine.specs.Joining.{inherit, join_in}
use Rattle.code_machine.specs.Machines.{act_in, wish_of}
use Rattle.run_revision.specs.CodeState.{state_of, told, next}
use Rattle.run_revision.specs.CodeValues.{JoinerValue, LeftValue, is_trap, joined, is_end, code_hub}
use Rattle.run_revision.specs.Laws.{MeetingFits}
use Rattle.run_revision.proofs.JoinersAndEnds.{meetings_fit}
use Rattle.rev_vm.specs.Meaning.{IsEnd, IsPhase}
use Rattle.rev_vm.specs.States.{end_for, phase_as}
use Rattle.run_revision.specs.Hands.{HandValue, begins}

no_trap : (f : Finish) → is_trap (phase_as f) ≡ false → f ≡ finish.Done
no_trap finish.Done e = refl
no_trap (finish.Trapped u) e = cc

abbrev pub trap_for : CodeTrap → Trap ℕ
trap_for u = record { cause = u.cause; line = u.line; origin = u.origin }

module _ (own its mine : CodeRun) (s : State ℕ) (try : Bool) (on : ℕ) (group : List ℕ) (v : EndValue) (h : HandValue)
    (a : JoinerValue) (e : LeftValue)
    (at_is : ◌≡◌ {A = JoinerValue} (record { run = own; state = s; try = try; on = on; group = group }) a)
    (end_is : ◌≡◌ {A = LeftValue} (record { run = its; left = end_for its v }) e)
    (hand_is : mine ≡ h.run) (met : HaveMet code_hub is_end (begins h) a e) where
  fit : MeetingFits h.run h.fuel a e
  fit = meetings_fit h.run h.fuel met.start met.begins.0 met.schedule met.number a e met.meets

  pub same_hand : own ≡ mine
  same_hand = ap (λ z. z.run) at_is ∙ (fit.joiner ∙ sym hand_is)

  pub same_end : its ≡ own
  same_end = ap (λ z. z.run) end_is ∙ (fit.joinee ∙ sym (ap (λ z. z.run) at_is ∙ fit.joiner))

  pub fuels : s.fuel + v.fuel < 2 ^ 64
  fuels =
      let x = ap (λ z. z.state.fuel) at_is in
      let y = ap (λ z. z.left.fuel) end_is in
      let z = fit.fuels in
      let w = met.begins.1 in
      omega (arith, x, y, z, w)

  pub left_is : e.left ≡ end_for own v
  left_is = sym (ap (λ z. z.left) end_is) ∙ ap (λ z. end_for z v) same_end

  pub is_done : is_trap e.left.phase ≡ false → v.finish ≡ finish.Done
  is_done none = no_trap v.finish (ap (λ z. is_trap z.left.phase) end_is ∙ none)

  pub joined_is : joined a e ≡ state_of own (join_in own s try on (end_for own v) (end_for own v).phase)
  joined_is = sym (ap (λ z. joined z e) at_is) ∙ ap (λ j. state_of own (join_in own s try on j j.phase)) left_is

  -- by a joinee that trapped
  pub stopped_is : (u : CodeTrap) → v.finish ≡ finish.Trapped u → a.try ≡ false
      → joined a e ≡ state_of own (inherit s false on (trap_for u))
  stopped_is u fell plain =
      joined_is ∙ (ap (λ f. state_of own (join_in own s try on (end_for own v) (phase_as f))) fell
      ∙ ap (λ b. state_of own (inherit s b on (trap_for u))) (ap (λ z. z.try) at_is ∙ plain))

phase_stops : (g : CodeRun) (c : State ℕ) (ph : Phase ℕ) (f : Finish) → IsPhase ph f
    → told g (wish_of (act_in g c ph)) ≡ Stops
phase_stops g c running f h = absurd h
phase_stops g c done f h = refl
phase_stops g c (trapped t) f h = refl

pub end_stops : (g : CodeRun) (l : Local ℕ) (v : EndValue) → IsEnd g (end_of l) v → next (state_of g l) ≡ Stops
end_stops g l v h = phase_stops g l.state l.phase v.finish h.phase
