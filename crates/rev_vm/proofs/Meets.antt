-- What stands on the stack where another revision is met.
--   IsJoining   the handle of the joined revision lies on top
--   IsForking   the child's arguments lie on top, the last one uppermost
--   meets       so it is at each fork and join
use Rattle.std.proofs.Common.{◌≡◌, ℕ, List, ◌∷◌, Some, refl}
use Rattle.std.specs.Prelude.{slice_get}
use Rattle.rev_code.specs.declared.code.CodeBlock.{CodeBlock}
use Rattle.rev_code.specs.Words.{Word, rev}
use Rattle.rev_code.specs.State.{State, Setting}
use Rattle.rev_code.specs.Step as r
use Rattle.rev_code.specs.Step.{Comes, goes, traps, forks, joins, ends, stuck, step, only, is_procedure}
use Rattle.code_machine_laws.specs.Forms.{ComesTo, to_next, to_write, to_payment, to_trap, to_fork, to_join, to_end, to_nothing}
use Rattle.code_machine_laws.proofs.Forms.{step_form}

pub record IsJoining {H : Type 0} (c c' : State H) (h : H) : Type 0 where
  pub same : c' ≡ c
  pub rest : List (Word H)
  pub stack : c.stack ≡ rev (Some h) ∷ rest

pub record IsForking {H : Type 0} (s : Setting H) (c c' : State H) (n : ℕ) (args' : List (Word H)) : Type 0 where
  pub same : c' ≡ c
  pub body : CodeBlock
  pub is : only is_procedure (slice_get s.code.blocks n) ≡ Some body
  pub args : r.arguments (r.params body) c.stack ≡ Some args'

abbrev pub Meets : {H : Type 0} → Setting H → State H → Comes H → Type 0
Meets s c (goes c') = Unit {0}
Meets s c (traps c' e) = Unit {0}
Meets s c (forks c' n args) = IsForking s c c' n args
Meets s c (joins c' try h) = IsJoining c c' h
Meets s c (ends c' w) = Unit {0}
Meets s c stuck = Unit {0}

module _ {H : Type 0} (s : Setting H) (c : State H) where
  form_meets : (o : Comes H) → ComesTo s c o → Meets s c o
  form_meets o (to_next block at locals stack below text grows) = tt
  form_meets o (to_write rest l w) = tt
  form_meets o (to_payment line fuel e) = tt
  form_meets o (to_trap line e) = tt
  form_meets o (to_fork n body args is e) = record { same = refl; body = body; is = is; args = e }
  form_meets o (to_join try h rest e) = record { same = refl; rest = rest; stack = e }
  form_meets o (to_end w) = tt
  form_meets o to_nothing = tt

  pub meets : Meets s c (step s c)
  meets = form_meets (step s c) (step_form s c)
