-- When a revision of running code agrees with one of the calculus.
--   settled        the state of the code; at the store to a scalar of what a Fork or TryJoin gave,
--                  the state after that store
--   compared       the state that is compared: a revision at work counts as it is settled
--   PhaseAgrees    both at work, both done, or both trapped with the same cause, line and origin
--   Agrees         the same phase, and the same snapshot and writes, fuel, forks, list of forks and
--                  joins, text and line
--   AgreesBy       so does a revision by number, where a table reads numbers as paths
use Rattle.std.specs.Prelude.{ℕ, zero, suc, Bool, true, false, ◌&&◌, Option, Some, None, List, [], slice_get}
use Rattle.rev_num.specs.Path.{Path}
use Rattle.revision_machine.specs.Numbered.{at_number, or_path}
use Rattle.revision_calculus.specs.Program.{Setting}
use Rattle.revision_calculus.specs.State as source
use Rattle.revision_calculus.specs.State.{Local}
use Rattle.rev_code.specs.declared.code.Instr.{Instr}
use Rattle.rev_code.specs.declared.code.Instr.TheVariants as i
use Rattle.rev_code.specs.declared.code.CodeBlock.{CodeBlock}
use Rattle.rev_code.specs.State.{State}
use Rattle.rev_code.specs.Step.{Comes, goes, traps, forks, joins, ends, stuck, step}
use Rattle.expression_meaning.specs.States.{IsShared}
use Rattle.code_machine.specs.Local as code
use Rattle.code_machine.specs.Local.{CodeRun, running, done, trapped, under}
use Rattle.code_machine.specs.Renamed.{renamed}
use Rattle.program_meaning.specs.Related.{run_of, IsTrap, is_giver}

-- ---- the state that is compared

abbrev pub is_store : Option Instr → Bool
is_store (Some (i.StoreShared v)) = true
is_store _ = false

abbrev pub gives : Option Instr → Bool
gives None = false
gives (Some x) = is_giver x

-- the instruction before this place
abbrev pub instr_before : List Instr → ℕ → Option Instr
instr_before xs zero = None
instr_before xs (suc n) = slice_get xs n

-- a store to a scalar stands here, right behind a Fork or TryJoin
abbrev pub stores_given : Option CodeBlock → (at : ℕ) → Bool
stores_given None at = false
stores_given (Some b) at = is_store (slice_get b.instrs at) && gives (instr_before b.instrs at)

abbrev pub after : {H : Type 0} → State H → Comes H → State H
after c (goes d) = d
after c (traps d e) = c
after c (forks d n args) = c
after c (joins d try h) = c
after c (ends d w) = c
after c stuck = c

abbrev pub settled_if : {H : Type 0} → Bool → State H → Comes H → State H
settled_if true c o = after c o
settled_if false c o = c

abbrev pub settled : {H : Type 0} → CodeRun → State H → State H
settled g c =
    settled_if (stores_given (slice_get g.code.blocks c.block) c.at) c (step (under g) c)

abbrev pub compared : {H : Type 0} → CodeRun → State H → code.Phase H → State H
compared g c running = settled g c
compared g c done = c
compared g c (trapped t) = c

-- ---- agreement

-- of the revision at r
abbrev pub PhaseAgrees : Path → source.Phase → code.Phase Path → Type 0
PhaseAgrees r source.running running = Unit {0}
PhaseAgrees r source.running done = ⊥
PhaseAgrees r source.running (trapped u) = ⊥
PhaseAgrees r (source.joining q left) x = ⊥
PhaseAgrees r source.done running = ⊥
PhaseAgrees r source.done done = Unit {0}
PhaseAgrees r source.done (trapped u) = ⊥
PhaseAgrees r (source.trapped t) running = ⊥
PhaseAgrees r (source.trapped t) done = ⊥
PhaseAgrees r (source.trapped t) (trapped u) = IsTrap r t u

pub record Agrees (s : Setting) (r : Path) (l : Local) (k : code.Local Path) : Type 0 where
  pub phase : PhaseAgrees r l.phase k.phase
  pub shared : IsShared l (compared (run_of s) k.state k.phase)

-- numbers read as paths
abbrev pub read : List Path → code.Local ℕ → code.Local Path
read t k = renamed (λ n. or_path (at_number t n) []) k

abbrev pub AgreesBy : Setting → List Path → Path → Local → code.Local ℕ → Type 0
AgreesBy s t r l k = Agrees s r l (read t k)
