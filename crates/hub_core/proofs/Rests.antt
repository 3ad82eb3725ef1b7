-- What a seat knows once it gave its turn back; and a run that has a legal schedule has a start.
use Rattle.std.proofs.Common.{◌≡◌, inr, ℕ, List, [], ◌∷◌, ◌++◌, refl, Option, Some, None}
use Rattle.hub_core.specs.declared.status.Status.{Status}
use Rattle.hub_core.specs.HubMachine.{HubMachine}
use Rattle.hub_core.specs.declared.state.HubState.{HubState}
use Rattle.hub_core.specs.declared.state.HubState.TheVariants.{All, Twice, NoMemory}
use Rattle.hub_core.specs.declared.view.View.{View}
use Rattle.hub_core.specs.Passes.{left}
use Rattle.hub_core.specs.Views.{commits, hands_in, draws, rests, or_no_memory}
use Rattle.hub_core.specs.Seats.{KeepsOthers, LacksPass}
use Rattle.hub_core.specs.Rule.{SoundFrom}
use Rattle.hub_core.proofs.Passes.{none_left, pass_behind}

-- a halt stays what it is
pub keeps_halt : (h : HubState) → (h ≡ All → ⊥) → or_no_memory h ≡ h
keeps_halt All n = absurd (n refl)
keeps_halt Twice n = refl
keeps_halt NoMemory n = refl

module _ {L R A E : Type 0} (d : HubMachine L R A E) (ends : E → L → Type 0) where
  abbrev Slots : Type 0
  Slots = List (Status R A E)

  pub some_start : (o : Option L) (h : HubState) (log : List ℕ) (slots : Slots) (fs : List ℕ)
      → SoundFrom d ends o h log slots fs → (s : L) × (o ≡ Some s)
  some_start None h log slots fs f = absurd f
  some_start (Some s) h log slots fs f = (s, refl)

  pub keeps_draw : (w : View L) (n : ℕ) → KeepsOthers w (rests (draws n w)) n
  keeps_draw w n =
      ((refl, refl, refl), λ j at ne p. inr p, λ j at ne p. pass_behind (n, w.log) w.passes j at p ne, λ h. refl)

  pub lacks_in : (w : View L) (k : ℕ) → LacksPass (rests (hands_in k w)) k
  lacks_in w k = λ at p. none_left k w.passes at p

  pub lacks_end : (w : View L) (k : ℕ) → LacksPass (rests (hands_in k (commits k w))) k
  lacks_end w k = λ at p. none_left k ((k, w.log ++ k ∷ []) ∷ left k w.passes) at p
