-- Nothing goes wrong where code runs in which the verifier finds no fault.
--   HasStep       an instruction, the words that it takes, and an event
--   IsSafe        each event of a state leads to states of revisions again
--   IsReached     the states that are reached from a first state of `main` or of a procedure,
--                 whatever other revisions do: by steps, as a forker that is told any handle, as a
--                 child, and as a joiner that is brought any values of the variables' kinds
use Rattle.std.specs.Prelude.{ℕ, suc, ◌≡◌, ◌≢◌, ◌≤◌, Bool, true, ℤ, List, [], length, Option, Some, None, slice_get}
use Rattle.rev_code.specs.declared.code.Code.{Code}
use Rattle.rev_code.specs.declared.code.CodeBlock.{CodeBlock}
use Rattle.rev_code.specs.declared.code.Instr.{Instr}
use Rattle.rev_code.specs.Words.{Word}
use Rattle.rev_code.specs.State.{Location, State}
use Rattle.rev_code.specs.Variables.{start_locations}
use Rattle.rev_code.specs.Step.{Comes, goes, forks, joins, ends, stuck, step, params}
use Rattle.rev_code.specs.Step.{is_procedure, most_frames}
use Rattle.rev_code.specs.Funs.{setting}
use Rattle.rev_code.specs.Events.{start, parent, child, past_join}
use Rattle.code_rules.specs.Shapes.{takes, begins}
use Rattle.code_rules.specs.Pass.{Note, most_words}
pub use Rattle.code_rules.specs.Tables.{is_main}
pub use Rattle.code_rules.specs.Verdict.{first_fault}
use Rattle.code_soundness.specs.Typed.{kinds_of, AreLocations, location_kinds, IsOfProgram, IsRevision}
use Rattle.code_soundness.specs.AcceptedCode.{IsAccepted}
use Rattle.code_soundness.specs.Funs.{kind_of_result}

-- ---- starts

abbrev pub MainStarts : Type 0 → Type 0
MainStarts H =
    (code : Code) (notes : ℕ → ℕ → Note) → IsAccepted code notes
    → (n : ℕ) (b : CodeBlock) → slice_get code.blocks n ≡ Some b → is_main b.class ≡ true
    → (fuel : ℕ) → IsRevision {H = H} code notes (start n b [] (start_locations code.vars) fuel)

-- with arguments of its parameters' kinds, and a snapshot of the variables' kinds
abbrev pub ProceduresStart : Type 0 → Type 0
ProceduresStart H =
    (code : Code) (notes : ℕ → ℕ → Note) → IsAccepted code notes
    → (n : ℕ) (b : CodeBlock) → slice_get code.blocks n ≡ Some b → IsOfProgram code n
    → (args : List (Word H)) → kinds_of args ≡ params b
    → (ls : List (Location H)) → AreLocations (location_kinds code.vars) ls
    → (fuel : ℕ) → IsRevision code notes (start n b args ls fuel)

-- ---- steps

-- what the next instruction comes to
abbrev pub next : {H : Type 0} → Code → (inputs : List ℤ) → (share : ℕ) → State H → Comes H
next code inputs share c = step (setting code inputs share) c

pub record HasStep {H : Type 0} (code : Code) (inputs : List ℤ) (share : ℕ) (c : State H) : Type 0 where
  pub body : CodeBlock
  pub is : slice_get code.blocks c.block ≡ Some body
  pub instr : Instr
  pub here : slice_get body.instrs c.at ≡ Some instr
  pub found : begins (takes code body (kinds_of c.stack) instr) (kinds_of c.stack) ≡ true
  pub event : next code inputs share c ≢ stuck

abbrev pub StatesHaveSteps : Type 0 → Type 0
StatesHaveSteps H =
    (code : Code) (notes : ℕ → ℕ → Note) → IsAccepted code notes → (inputs : List ℤ) (share : ℕ)
    → (c : State H) → IsRevision code notes c → HasStep code inputs share c

-- a joiner behind its join, with these locations, fuel and text
abbrev pub joiner : {H : Type 0}
    → State H → (try done : Bool) → H → List (Location H) → (fuel : ℕ) → (text : List ℕ) → State H
joiner c try done h ls fuel text =
    record (past_join c try done h) { locations = ls; fuel = fuel; text = text }

-- the block that a Fork names, and the arguments that its child gets
pub record IsForked {H : Type 0} (code : Code) (n : ℕ) (args : List (Word H)) : Type 0 where
  pub body : CodeBlock
  pub is : slice_get code.blocks n ≡ Some body
  pub program : IsOfProgram code n
  pub kinds : kinds_of args ≡ params body

pub record IsSafe {H : Type 0} (code : Code) (notes : ℕ → ℕ → Note) (inputs : List ℤ) (share : ℕ)
    (c : State H) : Type 0 where
  pub goes : (c' : State H) → next code inputs share c ≡ goes c' → IsRevision code notes c'
  -- a Fork: the child's block and arguments, the forker whatever the handle, and the child
  pub forks : (c' : State H) (n : ℕ) (args : List (Word H)) → next code inputs share c ≡ forks c' n args
      → (f : IsForked code n args) × ((h : H) → IsRevision code notes (parent share c' args h))
      × IsRevision code notes (child share c' n f.body args)
  -- a join, whatever values of the variables' kinds it brings
  pub joins : (c' : State H) (try : Bool) (h : H) → next code inputs share c ≡ joins c' try h
      → (done : Bool) (ls : List (Location H)) → AreLocations (location_kinds code.vars) ls
      → (fuel : ℕ) (text : List ℕ) → IsRevision code notes (joiner c' try done h ls fuel text)
  -- the result of the block, if it has one
  pub ends : (c' : State H) (w : Option (Word H)) → next code inputs share c ≡ ends c' w
      → (b : CodeBlock) → slice_get code.blocks c.block ≡ Some b → kind_of_result w ≡ b.result

abbrev pub StepsAreSafe : Type 0 → Type 0
StepsAreSafe H =
    (code : Code) (notes : ℕ → ℕ → Note) → IsAccepted code notes → (inputs : List ℤ) (share : ℕ)
    → (c : State H) → IsRevision code notes c → IsSafe code notes inputs share c

-- ---- runs

pub data IsReached {H : Type 0} (code : Code) (inputs : List ℤ) (share : ℕ) : State H → Type 0 where
  main : (n : ℕ) (b : CodeBlock) → slice_get code.blocks n ≡ Some b → is_main b.class ≡ true
      → (fuel : ℕ) → IsReached code inputs share (start n b [] (start_locations code.vars) fuel)
  -- with arguments of its parameters' kinds, and a snapshot of the variables' kinds
  procedure : (n : ℕ) (b : CodeBlock) → slice_get code.blocks n ≡ Some b
      → is_procedure b.class ≡ true
      → (args : List (Word H)) → kinds_of args ≡ params b
      → (ls : List (Location H)) → AreLocations (location_kinds code.vars) ls
      → (fuel : ℕ) → IsReached code inputs share (start n b args ls fuel)
  goes_on : (c c' : State H) → IsReached code inputs share c → next code inputs share c ≡ goes c'
      → IsReached code inputs share c'
  forker : (c c' : State H) (n : ℕ) (args : List (Word H)) (h : H) → IsReached code inputs share c
      → next code inputs share c ≡ forks c' n args → IsReached code inputs share (parent share c' args h)
  forked : (c c' : State H) (n : ℕ) (args : List (Word H)) (b : CodeBlock) → IsReached code inputs share c
      → next code inputs share c ≡ forks c' n args → slice_get code.blocks n ≡ Some b
      → IsReached code inputs share (child share c' n b args)
  joined : (c c' : State H) (try done : Bool) (h : H) (ls : List (Location H)) (fuel : ℕ) (text : List ℕ)
      → IsReached code inputs share c → next code inputs share c ≡ joins c' try h
      → AreLocations (location_kinds code.vars) ls
      → IsReached code inputs share (joiner c' try done h ls fuel text)

-- it has an event, a stack of at most 4,096 words and at most 1,000 frames
pub record NeverFails {H : Type 0} (code : Code) (inputs : List ℤ) (share : ℕ) (c : State H)
    : Type 0 where
  pub step : HasStep code inputs share c
  pub shallow : length c.stack ≤ most_words
  pub few : suc (length c.below) ≤ most_frames

abbrev pub ReachedStatesNeverFail : Type 0 → Type 0
ReachedStatesNeverFail H =
    (code : Code) → first_fault code ≡ None → (inputs : List ℤ) (share : ℕ)
    → (c : State H) → IsReached code inputs share c → NeverFails code inputs share c
