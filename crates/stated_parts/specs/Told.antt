-- The writes of a part by the numbers of their locations.
--
-- `slots_from` has for each location the write that the part tells of it; `written_in` are the writes alone.
use Rattle.std.specs.Prelude.{◌≡◌, ◌⊎◌, ◌+◌, ℕ, suc, Bool, true, false, drop, List, [], ◌∷◌, Option, Some, None, option_map}
use Rattle.revision_calculus.specs.Program.{Setting}
use Rattle.revision_calculus.specs.Kinded.{location_kinds}
use Rattle.revision_state.specs.Ends.{phase_of}
use Rattle.stated_parts.specs.declared.ends.AloneWrite.{AloneWrite}
use Rattle.stated_parts.specs.declared.ends.AloneEnd.{AloneEnd}
use Rattle.stated_parts.specs.Ends.{writes_from}
use Rattle.trace_diagram.specs.declared.diagram.Change.{Change}
use Rattle.trace_diagram.specs.declared.diagram.Part.{Part}
use Rattle.audit_rules.specs.Parts.{change_at, changes_fit, places, told_locations, told_phase}

-- the write of the location of this number
abbrev pub write_to : ℕ → Change → AloneWrite
write_to n c = record { location = n; value = c.value; root = c.root }

-- for each of these places, the first of which has this number: the write that is told of it
abbrev pub slots_from : ℕ → List (List ℕ) → List Change → List (Option AloneWrite)
slots_from n [] cs = []
slots_from n (p ∷ ps) cs = option_map (write_to n) (change_at cs p) ∷ slots_from (suc n) ps cs

abbrev pub with_written : Option AloneWrite → List AloneWrite → List AloneWrite
with_written None ws = ws
with_written (Some w) ws = w ∷ ws

-- the writes in these slots
abbrev pub written_in : List (Option AloneWrite) → List AloneWrite
written_in [] = []
written_in (o ∷ os) = with_written o (written_in os)

-- the slots of these changes, or none where they do not fit
abbrev pub AreSlots : Setting → List Change → Option (List (Option AloneWrite)) → Type 0
AreSlots s cs None = changes_fit (places s) (location_kinds s) cs ≡ false
AreSlots s cs (Some slots) =
    (changes_fit (places s) (location_kinds s) cs ≡ true) × (slots ≡ slots_from 0 (places s) cs)

-- the change of this number, with those behind it: it fits if they do, and has its slot, or it does not fit
abbrev pub Enters : Setting → List Change → ℕ → List (Option AloneWrite) → Bool → Type 0
Enters s cs j slots false = changes_fit (places s) (location_kinds s) (drop j cs) ≡ false
Enters s cs j slots true =
    (changes_fit (places s) (location_kinds s) (drop j cs)
    ≡ changes_fit (places s) (location_kinds s) (drop (j + 1) cs))
    × (slots ≡ slots_from 0 (places s) (drop j cs))

-- what is told of the end by a part, whose changes fit
pub record TellsEnd (s : Setting) (p : Part) (e : AloneEnd) : Type 0 where
  pub written : e.written.items ≡ writes_from 0 (told_locations (places s) (location_kinds s) p.written)
  pub text : e.text.items ≡ p.text
  pub fuel : e.fuel ≡ p.fuel
  pub phase : told_phase (places s) p.end ≡ Some (phase_of e.trap)
  pub fits : changes_fit (places s) (location_kinds s) p.written ≡ true

-- the end of which the part tells, or that its end or its changes do not fit
abbrev pub ToldBy : Setting → Part → Option AloneEnd → Type 0
ToldBy s p None = (told_phase (places s) p.end ≡ None) ⊎ (changes_fit (places s) (location_kinds s) p.written ≡ false)
ToldBy s p (Some e) = TellsEnd s p e
