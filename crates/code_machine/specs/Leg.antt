-- A leg of a revision: its instruction steps up to its next fork, join, end or trap.
--   IsEvent      what an instruction comes to is one of these four
--   IsLeg        instructions lead from a state to such an event
--   clock        more instructions than this do not go on from a state, in verified code
--   leg          the event of a leg, with the state at which it comes
use Rattle.std.specs.Prelude.{◌≡◌, ℕ, max, List, [], ◌∷◌, length}
use Rattle.rev_code.specs.declared.code.CodeBlock.{CodeBlock}
use Rattle.rev_code.specs.State.{State, Setting}
use Rattle.rev_code.specs.Step.{Comes, goes, traps, forks, joins, ends, stuck, step, Steps, reach}
use Rattle.code_soundness.specs.Prices.{leg_prices, total}
use Rattle.code_soundness.specs.AcceptedCode.{notes_of}
use Rattle.code_soundness.specs.Typed.{IsRevision}
use Rattle.code_machine.specs.Local.{CodeRun, IsVerified, under}

abbrev pub IsEvent : {H : Type 0} → Comes H → Type 0
IsEvent (goes c) = ⊥
IsEvent (traps c e) = Unit {0}
IsEvent (forks c n args) = Unit {0}
IsEvent (joins c try h) = Unit {0}
IsEvent (ends c w) = Unit {0}
IsEvent stuck = ⊥

pub record IsLeg {H : Type 0} (s : Setting H) (c : State H) (event : Comes H) : Type 0 where
  pub last : State H
  pub steps : Steps s c last
  pub comes : step s last ≡ event
  pub is : IsEvent event

-- the number of instructions of the longest block
abbrev pub longest : List CodeBlock → ℕ
longest [] = 0
longest (b ∷ bs) = max (length b.instrs) (longest bs)

abbrev pub clock : {H : Type 0} → CodeRun → State H → ℕ
clock g c = total g.code (notes_of g.code) (leg_prices (longest g.code.blocks)) c

abbrev pub leg : {H : Type 0} → CodeRun → State H → Comes H
leg g c = reach (under g) (clock g c) c

-- ---- laws

-- the leg is what the instructions lead to, from every state
abbrev pub LegIsOfSteps : Type 0 → Type 0
LegIsOfSteps H =
    (g : CodeRun) → IsVerified g → (c : State H) (event : Comes H) → IsLeg (under g) c event
    → leg g c ≡ event

-- a state of a revision has a leg, and at its end is one again
pub record HasLeg {H : Type 0} (g : CodeRun) (c : State H) : Type 0 where
  pub is : IsLeg (under g) c (leg g c)
  pub revision : IsRevision g.code (notes_of g.code) is.last

abbrev pub LegsExist : Type 0 → Type 0
LegsExist H =
    (g : CodeRun) → IsVerified g → (c : State H) → IsRevision g.code (notes_of g.code) c
    → HasLeg g c
