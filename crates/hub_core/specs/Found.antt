-- Which revisions of a list of statuses have ended, and which are ready.
--   ended_here    its end was handed in
--   is_ready      a leg of it can come next
--   all_over      all have ended
use Rattle.std.specs.Prelude.{Bool, true, false, Option, Some, None, List, [], ◌∷◌}
use Rattle.revision_machine.specs.Numbered.{at_number}
use Rattle.hub_core.specs.declared.status.Status.{Status}
use Rattle.hub_core.specs.declared.status.Status.TheVariants.{Ready, Out, Waiting, Over, Gone}
use Rattle.hub_core.specs.HubMachine.{HubMachine}

module _ {R A E : Type 0} where
  -- its end was handed in
  abbrev pub ended_here : Option (Status R A E) → Bool
  ended_here None = false
  ended_here (Some (Ready r)) = false
  ended_here (Some Out) = false
  ended_here (Some (Waiting a)) = false
  ended_here (Some (Over e)) = true
  ended_here (Some Gone) = true

  -- no seat has it, and it is no joiner whose joinee has not ended
  abbrev pub is_ready :
      {L : Type 0} → HubMachine L R A E → List (Status R A E) → Option (Status R A E) → Bool
  is_ready d slots None = false
  is_ready d slots (Some (Ready r)) = true
  is_ready d slots (Some Out) = false
  is_ready d slots (Some (Waiting a)) = ended_here (at_number slots (d.on a))
  is_ready d slots (Some (Over e)) = false
  is_ready d slots (Some Gone) = false

  -- the end of each revision was handed in
  abbrev pub all_over : List (Status R A E) → Bool
  all_over [] = true
  all_over (Ready r ∷ slots) = false
  all_over (Out ∷ slots) = false
  all_over (Waiting a ∷ slots) = false
  all_over (Over e ∷ slots) = all_over slots
  all_over (Gone ∷ slots) = all_over slots
