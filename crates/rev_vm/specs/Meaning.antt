-- For which states of the machine of code a revision stands between two legs.
--   IsAt         a running revision, in a state of this run of code
--   IsAtFork     at a Fork, whose child gets these arguments
--   IsAtJoin     at a join, which its list has already
--   IsReady      a word lies on the stack, and an instruction may follow
--   AreWritten   what a revision wrote, by locations
--   IsEnd        an end value, of what a revision leaves
--   IsClaimed    a joiner and the end of the revision that it joins, which is done
--   IsTold, IsPopped, IsPast   a joiner behind its join
--   IsTakenOver  a joiner with the text and the fuel of the joined revision
use Rattle.std.specs.Prelude.{ℕ, ◌≡◌, ◌<◌, ◌≤◌, ◌+◌, ◌-◌, ◌^◌, Bool, true, false, List, [], ◌∷◌, ◌++◌, length, Some, slice_get, slice_set}
use Rattle.rev_num.specs.declared.value.ValueKind.{ValueKind}
use Rattle.rev_code.specs.Words.{Word}
use Rattle.rev_code.specs.State.{State}
use Rattle.rev_code.specs.Step.{forks, joins, step}
use Rattle.code_soundness.specs.Typed.{location_kinds}
use Rattle.version_map.specs.declared.delta.Delta.{Delta}
use Rattle.version_map.specs.declared.end.CodeTrap.{CodeTrap}
use Rattle.version_map.specs.declared.end.EndValue.{EndValue}
use Rattle.version_map.specs.declared.end.Finish.{Finish}
use Rattle.version_map.specs.declared.end.Finish.TheVariants as finish
use Rattle.version_map.specs.declared.end.Written.{Written}
use Rattle.version_map.specs.Composing.{Entry}
use Rattle.version_map.specs.Deltas.{at, locations}
use Rattle.version_map.specs.Overlay as overlay
use Rattle.block_run.specs.Area.{count}
use Rattle.code_machine.specs.Local.{CodeRun, IsVerified, under, Trap, Phase, running, done, trapped, End}
use Rattle.code_machine.specs.Joining.{note}
pub use Rattle.fun_run.specs.Merging.{AreMergesOf}
use Rattle.fun_run.specs.Merging.{IsOfKind}
use Rattle.leg_run.specs.declared.revision.Run.{Run}
use Rattle.leg_run.specs.Standing.{Stands}

-- its memory has this delta over this base, and these words at the fork
pub record IsAt (g : CodeRun) (run : Run) (delta : Delta) (base : ℕ → ℕ) (first : Delta)
    (c : State ℕ) : Type 0 where
  pub verified : IsVerified g
  pub stands : Stands g.code g.inputs g.share run (overlay.under delta base) (at first) c
  pub size : locations delta ≡ count g.code.vars

pub record IsAtFork (g : CodeRun) (run : Run) (delta : Delta) (base : ℕ → ℕ) (first : Delta)
    (block : ℕ) (c : State ℕ) (args : List (Word ℕ)) : Type 0 where
  pub stands : IsAt g run delta base first c
  pub forks : step (under g) c ≡ forks c block args

-- ---- ends

pub record IsWritten (kinds : List ValueKind) (e : Entry (Word ℕ)) (w : Written) : Type 0 where
  pub location : w.location ≡ e.location
  pub kind : ValueKind
  pub there : slice_get kinds e.location ≡ Some kind
  pub value : IsOfKind kind e.value w.value
  pub root : IsOfKind kind e.root w.root

abbrev pub AreWritten : List ValueKind → List (Entry (Word ℕ)) → List Written → Type 0
AreWritten kinds [] [] = Unit {0}
AreWritten kinds (e ∷ es) (w ∷ ws) = IsWritten kinds e w × AreWritten kinds es ws
AreWritten kinds [] (w ∷ ws) = ⊥
AreWritten kinds (e ∷ es) [] = ⊥

pub record IsTrap (t : Trap ℕ) (u : CodeTrap) : Type 0 where
  pub cause : u.cause ≡ t.cause
  pub line : u.line ≡ t.line
  pub origin : u.origin ≡ t.origin

abbrev pub IsPhase : Phase ℕ → Finish → Type 0
IsPhase running f = ⊥
IsPhase done finish.Done = Unit {0}
IsPhase done (finish.Trapped u) = ⊥
IsPhase (trapped t) finish.Done = ⊥
IsPhase (trapped t) (finish.Trapped u) = IsTrap t u

pub record IsEnd (g : CodeRun) (j : End ℕ) (v : EndValue) : Type 0 where
  pub written : AreWritten (location_kinds g.code.vars) j.written v.written
  pub text : v.text ≡ j.text
  pub fuel : v.fuel ≡ j.fuel
  pub phase : IsPhase j.phase v.finish

-- ---- joins

pub record IsReady (run : Run) : Type 0 where
  pub some : 1 ≤ run.registers.top
  pub within : run.registers.top ≤ length run.words.items
  pub at : run.registers.at + 1 < 2 ^ 32

-- at a join of revision `on`
pub record IsAtJoin (g : CodeRun) (run : Run) (delta : Delta) (base : ℕ → ℕ) (first : Delta)
    (try : Bool) (on : ℕ) (c : State ℕ) : Type 0 where
  pub stands : IsAt g run delta base first (note on c)
  pub joins : step (under g) c ≡ joins c try on

pub record IsClaimed (g : CodeRun) (run : Run) (delta : Delta) (base : ℕ → ℕ) (first : Delta)
    (try : Bool) (on : ℕ) (v : EndValue) (c : State ℕ) (j : End ℕ) : Type 0 where
  pub joiner : IsAtJoin g run delta base first try on c
  pub joinee : IsEnd g j v
  pub done : v.finish ≡ finish.Done

-- ---- what a joiner does at its join

-- the word on top is this one now
pub record IsTold (word : ℕ) (r r' : Run) : Type 0 where
  pub registers : r'.registers ≡ record r.registers { at = r.registers.at + 1 }
  pub words : r'.words.items ≡ slice_set r.words.items (r.registers.top - 1) word
  pub below : r'.below ≡ r.below
  pub text : r'.text ≡ r.text
  pub forks : r'.forks ≡ r.forks
  pub meetings : r'.meetings ≡ r.meetings

-- the word on top is gone
pub record IsPopped (r r' : Run) : Type 0 where
  pub registers :
      r'.registers ≡ record r.registers { at = r.registers.at + 1; top = r.registers.top - 1 }
  pub words : r'.words ≡ r.words
  pub below : r'.below ≡ r.below
  pub text : r'.text ≡ r.text
  pub forks : r'.forks ≡ r.forks
  pub meetings : r'.meetings ≡ r.meetings

-- behind a join of a revision that is done
abbrev pub IsPast : (try : Bool) (r r' : Run) → Type 0
IsPast true r r' = IsTold 1 r r'
IsPast false r r' = IsPopped r r'

-- and with this fuel and this text more
pub record IsTakenOver (try : Bool) (more : ℕ) (printed : List ℕ) (r r' : Run) : Type 0 where
  pub between : Run
  pub past : IsPast try r between
  pub registers : r'.registers ≡ record between.registers { fuel = between.registers.fuel + more }
  pub words : r'.words ≡ between.words
  pub below : r'.below ≡ between.below
  pub forks : r'.forks ≡ between.forks
  pub meetings : r'.meetings ≡ between.meetings
  pub text : r'.text.items ≡ between.text.items ++ printed
