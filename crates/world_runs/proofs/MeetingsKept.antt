-- Instructions leave the list of forks and joins as it is.
use Rattle.std.proofs.Common.{◌≡◌, ◌∙◌, List, refl}
use Rattle.rev_code.specs.State.{State, Listed, Setting}
use Rattle.rev_code.specs.Step.{Comes, goes, traps, forks, joins, ends, stuck}
use Rattle.code_machine_laws.specs.Forms.{ComesTo, to_next, to_write, to_payment, to_trap, to_fork, to_join, to_end, to_nothing}
use Rattle.code_machine_laws.proofs.Forms.{holds_of_reach}
use Rattle.code_machine.specs.Local.{CodeRun, under}
use Rattle.code_machine.specs.Leg.{leg, clock}

-- the list at the state to which c comes; where it comes to none, its own
abbrev pub list_behind : {H : Type 0} → State H → Comes H → List (Listed H)
list_behind c (goes d) = d.listed
list_behind c (traps d e) = d.listed
list_behind c (forks d n args) = d.listed
list_behind c (joins d try h) = d.listed
list_behind c (ends d w) = d.listed
list_behind c stuck = c.listed

module _ {H : Type 0} (s : Setting H) where
  abbrev Keeps : State H → Comes H → Type 0
  Keeps c o = list_behind c o ≡ c.listed

  form_keeps : (c : State H) (o : Comes H) → ComesTo s c o → Keeps c o
  form_keeps c o (to_next block at locals stack below text grows) = refl
  form_keeps c o (to_write rest l w) = refl
  form_keeps c o (to_payment line fuel e) = refl
  form_keeps c o (to_trap line e) = refl
  form_keeps c o (to_fork n body args is e) = refl
  form_keeps c o (to_join try h rest e) = refl
  form_keeps c o (to_end w) = refl
  form_keeps c o to_nothing = refl

  later : (c d : State H) (o : Comes H) → d.listed ≡ c.listed → Keeps d o → Keeps c o
  later c d (goes x) e k = k ∙ e
  later c d (traps x y) e k = k ∙ e
  later c d (forks x n args) e k = k ∙ e
  later c d (joins x try y) e k = k ∙ e
  later c d (ends x w) e k = k ∙ e
  later c d stuck e k = refl

pub leg_keeps : {H : Type 0} (g : CodeRun) (c : State H) → list_behind c (leg g c) ≡ c.listed
leg_keeps g c = holds_of_reach (under g) (Keeps (under g)) (form_keeps (under g)) (later (under g)) (clock g c) c
