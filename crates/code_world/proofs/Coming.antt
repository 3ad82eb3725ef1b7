-- What a fork, an end and a join come to.
use Rattle.std.proofs.Common.{◌≡◌, ◌∙◌, ℕ, ◌<◌, ◌+◌, ◌^◌, Bool, List, Option, Some, refl, sym, ap, subst, arith}
use Rattle.std.specs.Prelude.{slice_get}
use Rattle.rev_code.specs.declared.code.CodeBlock.{CodeBlock}
use Rattle.rev_num.specs.declared.outcome.Cause.{Cause}
use Rattle.rev_code.specs.State.{State}
use Rattle.rev_code.specs.Step.{forks, ends, traps}
use Rattle.rev_code.specs.Words.{Word}
use Rattle.rev_code.specs.Events as events
use Rattle.version_map.specs.declared.end.CodeTrap.{CodeTrap}
use Rattle.version_map.specs.declared.end.EndValue.{EndValue}
use Rattle.version_map.specs.declared.end.Finish.TheVariants as finish
use Rattle.code_machine.specs.Local.{CodeRun, Phase, running, done, trapped, Trap, at_work, has_ended, End, end_of}
use Rattle.code_machine.specs.Leg.{leg}
use Rattle.code_machine.specs.Joining.{inherit, join_in}
use Rattle.code_machine.specs.Machines.{fork, act_of, wish_of}
use Rattle.rev_vm.specs.Legs.{trap_of}
use Rattle.rev_vm.specs.Meaning.{IsClaimed, IsEnd, IsPhase, IsTrap}
use Rattle.code_world.specs.Slots.{WholeRunner, WholeJoin, words, Runs}
use Rattle.code_world.specs.LegOutcomes.{HasForked, HasEnded, IsMeeting, meets}

-- a fork of a child in this block
pub has_forked : (g : CodeRun) (number : ℕ) (c d : State ℕ) (n : ℕ) (args : List (Word ℕ)) → leg g c ≡ forks d n args
    → (b : CodeBlock) → slice_get g.code.blocks n ≡ Some b → (forker kid : WholeRunner)
    → Runs g forker (events.parent g.share d args number)
    → Runs g kid (events.child g.share d n b args) → HasForked g number c forker kid
has_forked g number c d n args is b there forker kid runs kid_runs = record {
  goes_on = λ h. at_work (events.parent g.share d args h);
  born = at_work (events.child g.share d n b args);
  bears = ap (λ o. wish_of (act_of g o)) is ∙ ap (λ o. wish_of (fork g d n args o)) there;
  forker_is = (events.parent g.share d args number, refl, runs);
  kid_is = (events.child g.share d n b args, refl, kid_runs);
}

pub has_ended_done : (g : CodeRun) (c d : State ℕ) (w : Option (Word ℕ)) → leg g c ≡ ends d w → (v : EndValue)
    → IsEnd g (end_of (has_ended d done)) v → HasEnded g c v
has_ended_done g c d w is v e = record { after = has_ended d done; goes = ap (λ o. wish_of (act_of g o)) is; end = e }

pub has_ended_trapped : (g : CodeRun) (c d : State ℕ) (x : Cause) → leg g c ≡ traps d x → (v : EndValue)
    → IsEnd g (end_of (has_ended d (trap_of d x))) v → HasEnded g c v
has_ended_trapped g c d x is v e =
    record { after = has_ended d (trap_of d x); goes = ap (λ o. wish_of (act_of g o)) is; end = e }

-- ---- phases

pub is_done : (j : End ℕ) (v : EndValue) (g : CodeRun) → IsEnd g j v → v.finish ≡ finish.Done → j.phase ≡ done
is_done j v g e f = by j.phase (subst (IsPhase j.phase) f e.phase)
  where
    by : (p : Phase ℕ) → IsPhase p finish.Done → p ≡ done
    by done h = refl
    by running h = absurd h
    by (trapped t) h = absurd h

pub is_trapped : (j : End ℕ) (v : EndValue) (g : CodeRun) → IsEnd g j v → (u : CodeTrap) → v.finish ≡ finish.Trapped u
    → (t : Trap ℕ) × (j.phase ≡ trapped t) × IsTrap t u
is_trapped j v g e u f = by j.phase (subst (IsPhase j.phase) f e.phase)
  where
    by : (p : Phase ℕ) → IsPhase p (finish.Trapped u) → (t : Trap ℕ) × (p ≡ trapped t) × IsTrap t u
    by (trapped t) h = (t, refl, h)
    by running h = absurd h
    by done h = absurd h

-- ---- joins

abbrev pub IsClaimedBy : CodeRun → WholeJoin → EndValue → State ℕ → End ℕ → Type 0
IsClaimedBy g a v c j =
    IsClaimed g a.revision.value.run a.revision.value.memory.delta (words a.revision.value.memory.snapshot)
    a.revision.value.memory.first.roots a.is_try a.on v c j

pub is_claimed : (g : CodeRun) (a a' : WholeJoin) (v v' : EndValue) (c : State ℕ) (j : End ℕ) → a' ≡ a → v' ≡ v
    → IsMeeting g a v c j → v.finish ≡ finish.Done → IsClaimedBy g a' v' c j
is_claimed g a a' v v' c j e f m d =
    subst (λ z. IsClaimedBy g z v' c j) (sym e)
    (subst (λ y. IsClaimedBy g a y c j) (sym f) (record { joiner = m.joiner; joinee = m.joinee; done = d }))

pub fuels_fit : (g : CodeRun) (a : WholeJoin) (v : EndValue) (c : State ℕ) (j : End ℕ) → IsMeeting g a v c j
    → a.revision.value.run.registers.fuel + v.fuel < 2 ^ 64
fuels_fit g a v c j m =
    let x = m.joiner.stands.stands.here.run.fuel in
    let y = m.joinee.fuel in
    let z = m.fuel in omega (arith, x, y, z)

pub meets_is : (g : CodeRun) (a a' : WholeJoin) (c : State ℕ) (j : End ℕ) → a' ≡ a
    → join_in g c a'.is_try a'.on j j.phase ≡ meets g a c j
meets_is g a a' c j e = ap (λ z. join_in g c z.is_try z.on j j.phase) e

-- of a revision that has trapped
pub inherits : (g : CodeRun) (a : WholeJoin) (c : State ℕ) (j : End ℕ) (try : Bool) (t : Trap ℕ) → a.is_try ≡ try
    → j.phase ≡ trapped t → meets g a c j ≡ inherit c try a.on t
inherits g a c j try t e f = ap (λ b. join_in g c b a.on j j.phase) e ∙ ap (λ p. join_in g c try a.on j p) f
