-- First frames, and the meeting of a forker with its child.
--   run_under     what a setting runs
--   IsFirst       a revision with a first frame alone, whose parameters have these words
--   IsWaiting     a forker that is to be told its child's number, which is 0 until then
--   IsNamed       it is told
--   IsForker      a forker behind its Fork, with the number 0
--   Begins        a first frame, with room for its block
--   IsBase        a snapshot's words, of the kinds of all locations
--   IsAtStart     a revision before its first leg, which has a block, words of arguments, a snapshot and fuel
use Rattle.std.specs.Prelude.{ℕ, suc, ◌≡◌, ◌≤◌, ◌+◌, ◌-◌, List, [], ◌∷◌, ◌++◌, length, take, replicate, slice_get, slice_set, Some, None}
use Rattle.rev_code.specs.declared.code.CodeBlock.{CodeBlock}
use Rattle.rev_code.specs.Step.{params}
use Rattle.rev_code.specs.Words.{Word}
use Rattle.rev_code.specs.State.{Location, State}
use Rattle.rev_code.specs.Events as events
use Rattle.code_soundness.specs.Typed.{AreLocations, location_kinds, IsOfProgram, kinds_of}
use Rattle.block_run.specs.Agreement.{AreWords}
use Rattle.block_run.specs.Area.{count}
use Rattle.block_run.specs.Standing.{AreSeen}
use Rattle.code_machine.specs.Local.{CodeRun, IsVerified}
use Rattle.leg_run.specs.declared.revision.Run.{Run}
use Rattle.leg_run.specs.declared.revision.Meeting.TheVariants as meeting
use Rattle.leg_run.specs.declared.setting.CodeSetting.{CodeSetting}
use Rattle.fun_run.specs.Rooms.{IsRoom}

abbrev pub run_under : CodeSetting → CodeRun
run_under s = record { code = s.code; inputs = s.inputs.items; share = s.share }

pub record IsFirst (b : CodeBlock) (n : ℕ) (args : List ℕ) (room fuel : ℕ) (r : Run) : Type 0 where
  pub registers : r.registers ≡ record {
    block = n;
    at = 0;
    base = 0;
    top = length b.locals;
    fuel = fuel;
    line = 0;
  }
  pub locals : take (length b.locals) r.words.items
      ≡ args ++ replicate (length b.locals - length args) 0
  pub long : length r.words.items ≡ room
  pub below : r.below.items ≡ []
  pub text : r.text.items ≡ []
  pub forks : r.forks ≡ 0
  pub meetings : r.meetings.items ≡ []

pub record IsWaiting (r : Run) : Type 0 where
  pub some : 1 ≤ r.registers.top
  pub within : r.registers.top ≤ length r.words.items
  pub listed : 1 ≤ length r.meetings.items

pub record IsNamed (number : ℕ) (r r' : Run) : Type 0 where
  pub registers : r'.registers ≡ r.registers
  pub words : r'.words.items ≡ slice_set r.words.items (r.registers.top - 1) (suc number)
  pub below : r'.below ≡ r.below
  pub text : r'.text ≡ r.text
  pub forks : r'.forks ≡ r.forks
  pub meetings : r'.meetings.items
      ≡ slice_set r.meetings.items (length r.meetings.items - 1)
      (meeting.Forked number r.registers.line)

-- of which so many words were the child's arguments, and this much fuel its part
pub record IsForker (taken part : ℕ) (r r' : Run) : Type 0 where
  pub registers : r'.registers ≡ record r.registers {
    at = r.registers.at + 1;
    top = r.registers.top - taken + 1;
    fuel = r.registers.fuel - part;
  }
  pub words : r'.words.items ≡ slice_set r.words.items (r.registers.top - taken) 1
  pub below : r'.below ≡ r.below
  pub text : r'.text ≡ r.text
  pub forks : r'.forks ≡ suc r.forks
  pub meetings : r'.meetings.items ≡ r.meetings.items ++ meeting.Forked 0 r.registers.line ∷ []

pub record IsBase (g : CodeRun) (base : ℕ → ℕ) (ls : List (Location ℕ)) : Type 0 where
  pub kinds : AreLocations (location_kinds g.code.vars) ls
  pub seen : AreSeen ls base (λ l. None)

-- a block and its arguments
pub record IsCalled (g : CodeRun) (n : ℕ) (b : CodeBlock) (args : List (Word ℕ))
    (words : List ℕ) : Type 0 where
  pub is : slice_get g.code.blocks n ≡ Some b
  pub program : IsOfProgram g.code n
  pub kinds : kinds_of args ≡ params b
  pub stand : AreWords args words

-- a first frame of this block, with room for it
pub record Begins (s : CodeSetting) (n : ℕ) (args : List ℕ) (fuel : ℕ) (r : Run) : Type 0 where
  pub body : CodeBlock
  pub is : slice_get s.code.blocks n ≡ Some body
  pub room : ℕ
  pub enough : IsRoom s.code n body room
  pub first : IsFirst body n args room fuel r

-- ---- before the first leg

-- its snapshot has these words, of so many locations
pub record IsAtStart (g : CodeRun) (n : ℕ) (words : List ℕ) (base : ℕ → ℕ) (size fuel : ℕ)
    (c : State ℕ) : Type 0 where
  pub verified : IsVerified g
  pub body : CodeBlock
  pub args : List (Word ℕ)
  pub locations : List (Location ℕ)
  pub called : IsCalled g n body args words
  pub based : IsBase g base locations
  pub many : size ≡ count g.code.vars
  pub is : c ≡ events.start n body args locations fuel
