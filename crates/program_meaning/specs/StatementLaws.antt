-- The code of a program's statements does what they do, step by step.
--   tables           a program's numbers, and its code with what it runs under
--   StatementsRun    each step of the calculus is matched by the code
--   StateReads       a related state reads as an expression does
--   LeftSidesTake    a word that is given comes to its left side
--   JoinersGoOn      so does what a `tryjoin` gives, whatever the join has written
--   MainStands       the first states of `main` are related
use Rattle.std.specs.Prelude.{◌≡◌, ℕ, suc, Bool, true, is_some, Option, Some, List, [], slice_get}
use Rattle.rev_num.specs.Path.{Path}
use Rattle.rev_num.specs.declared.value.Value.{Value}
use Rattle.rev_num.specs.declared.value.Value.TheVariants as v
use Rattle.rev_num.specs.declared.value.ValueKind.{ValueKind}
use Rattle.name_tables.specs.Names.{Name}
use Rattle.typed_programs.specs.Kinds.{Locals}
use Rattle.revision_calculus.specs.Program.{Setting}
use Rattle.revision_calculus.specs.State.{Frame, running, Local}
use Rattle.revision_calculus.specs.Evaluation.{env, give}
use Rattle.revision_calculus.specs.Step.{next}
use Rattle.revision_calculus.specs.Calculus.{main}
use Rattle.revision_calculus.specs.Kinded.{IsAccepted, IsKinded, names}
use Rattle.rev_code.specs.declared.code.CodeBlock.{CodeBlock}
use Rattle.rev_code.specs.Words.{Word}
use Rattle.rev_code.specs.State.{State}
use Rattle.rev_code.specs.Variables.{start_locations}
use Rattle.rev_code.specs.Step.{Steps}
use Rattle.rev_code.specs.Funs.{setting}
use Rattle.rev_code.specs.Events as events
use Rattle.code_rules.specs.Tables.{is_main}
use Rattle.code_generation.specs.Numbers.{numbers, Scope}
use Rattle.code_generation.specs.Generated.{code_of}
use Rattle.expression_meaning.specs.Agrees.{at_with, Reads}
use Rattle.expression_meaning.specs.Places.{Tables, IsWithin, AreNames}
use Rattle.expression_meaning.specs.States.{IsShared, Stands, StandsAt, Behind, AtJoin}
use Rattle.program_meaning.specs.Steps.{Carries, Walks, Few, Did}

abbrev pub tables : Setting → Tables
tables s = record {
  numbers = numbers s.program;
  setting = setting (code_of s.program) s.inputs s.share;
}

-- A running revision at p, where the code stands as it does: one step of the calculus is matched
-- by one instruction or more, to a related state; or the code comes to the same trap, with its
-- line; to the end; to the same join; or to the fork of the same child, where forker and child are
-- related again.
abbrev pub StatementsRun : Type 0
StatementsRun =
    (s : Setting) → IsAccepted s.program
    → (p : Path) (l : Local) (f : Frame) (fs : List Frame) (c : State Path)
    → Stands s (tables s) l f fs c → l.phase ≡ running → IsKinded s p l
    → Did s (tables s) p (Walks (tables s)) c (next s p l)

-- with any names that are in scope at such a state, and their kinds
abbrev pub StateReads : Type 0
StateReads =
    (s : Setting) → IsAccepted s.program
    → (p : Path) (l : Local) (f : Frame) (fs : List Frame) (c : State Path)
    (st : Stands s (tables s) l f fs c) → l.phase ≡ running → IsKinded s p l
    → (scope : Scope) (ls : Locals) (k : ℕ) → IsWithin scope st.top.scope
    → AreNames st.block.locals scope ls k
    → Reads (tables s).setting (numbers s.program) st.block scope (names s) ls (env s l) c

-- the state behind a word that was given, once its left side has taken it
pub record Took (s : Setting) (l : Local) (a : State Path) : Type 0 where
  pub c : State Path
  pub on : Steps (tables s).setting a c
  pub few : Few (tables s) a c
  pub stands : StandsAt s (tables s) l c

abbrev pub LeftSidesTake : Type 0
LeftSidesTake =
    (s : Setting) → IsAccepted s.program
    → (l : Local) (left : Option Name) (given : Option ValueKind) (x : Option Value)
    (f : Frame) (fs : List Frame) (c : State Path) (ws : List (Word Path))
    → Behind s (tables s) l left given f fs c → Carries given x ws
    → Took s (give s l left x) (at_with c c.at ws)

-- the state behind a join, where frames are as before; the join may have written locations
pub record IsPast (c past : State Path) (try done : Bool) : Type 0 where
  pub block : past.block ≡ c.block
  pub at : past.at ≡ suc c.at
  pub locals : past.locals ≡ c.locals
  pub below : past.below ≡ c.below
  pub stack : past.stack ≡ events.told try done []

-- A joiner whose code stands at its join, and both sides of it behind the join, which have the same
-- locations, fuel, list and text again: they are related once the left side has what was given.
abbrev pub JoinersGoOn : Type 0
JoinersGoOn =
    (s : Setting) → IsAccepted s.program
    → (l : Local) (left : Option Name) (q : Path) (c : State Path) → AtJoin s (tables s) l left q c
    → (done : Bool) (joined : Local) (past : State Path) → joined.frames ≡ l.frames
    → IsPast c past (is_some left) done → IsShared joined past
    → Took s (give s joined left (Some (v.Bool done))) past

-- in each block of class `main`
abbrev pub MainStands : Type 0
MainStands =
    (s : Setting) → IsAccepted s.program
    → (n : ℕ) (b : CodeBlock) → slice_get (code_of s.program).blocks n ≡ Some b
    → is_main b.class ≡ true → (fuel : ℕ)
    → StandsAt s (tables s) (main s fuel)
    (events.start n b [] (start_locations (code_of s.program).vars) fuel)
