-- What contracts see of forks.
--   ForkValue, ParentValue   a revision at a fork, and its forker before it knows its child's number
--   forker, child            what becomes of both
--   renamed                  the forker, once it knows the number
--   arguments_at             the arguments of the child, where an instruction forks
use Rattle.std.specs.Prelude.{ℕ, List, [], ◌∷◌, Option, Some, None, slice_get}
use Rattle.rev_code.specs.declared.code.CodeBlock.{CodeBlock}
use Rattle.rev_code.specs.Words.{Word, rev}
use Rattle.rev_code.specs.State.{State, Listed}
use Rattle.rev_code.specs.State as listed
use Rattle.rev_code.specs.Step.{Comes, goes, traps, forks, joins, ends, stuck, step}
use Rattle.rev_code.specs.Events as events
use Rattle.code_machine.specs.Local.{CodeRun, under, at_work}
use Rattle.run_revision.specs.CodeState.{CodeState, state_of}

pub record ForkValue : Type 0 where
  pub run : CodeRun
  pub state : State ℕ
  pub block : ℕ
  pub args : List (Word ℕ)
  pub group : List ℕ

pub record ParentValue : Type 0 where
  pub run : CodeRun
  pub state : State ℕ
  pub group : List ℕ

abbrev pub arguments_of : Comes ℕ → List (Word ℕ)
arguments_of (forks c n args) = args
arguments_of (goes c) = []
arguments_of (traps c e) = []
arguments_of (joins c try h) = []
arguments_of (ends c w) = []
arguments_of stuck = []

abbrev pub arguments_at : CodeRun → State ℕ → List (Word ℕ)
arguments_at g c = arguments_of (step (under g) c)

abbrev pub forker : ForkValue → ℕ → CodeState
forker v n = state_of v.run (at_work (events.parent v.run.share v.state v.args n))

-- without a block there is no child
abbrev pub child_of : ForkValue → Option CodeBlock → CodeState
child_of v None = state_of v.run (at_work v.state)
child_of v (Some b) = state_of v.run (at_work (events.child v.run.share v.state v.block b v.args))

abbrev pub child : ForkValue → CodeState
child v = child_of v (slice_get v.run.code.blocks v.block)

abbrev pub with_top : Word ℕ → List (Word ℕ) → List (Word ℕ)
with_top w [] = w ∷ []
with_top w (x ∷ xs) = w ∷ xs

abbrev pub named : ℕ → Listed ℕ → Listed ℕ
named n (listed.forked h line) = listed.forked n line
named n (listed.joined h line) = listed.joined h line

abbrev pub last_named : ℕ → List (Listed ℕ) → List (Listed ℕ)
last_named n [] = []
last_named n (x ∷ []) = named n x ∷ []
last_named n (x ∷ y ∷ ys) = x ∷ last_named n (y ∷ ys)

-- the handle on top of the stack, and the fork that is listed last
abbrev pub renamed : State ℕ → ℕ → State ℕ
renamed c n = record c {
  stack = with_top (rev (Some n)) c.stack;
  listed = last_named n c.listed;
}

abbrev pub told_as : ParentValue → ℕ → CodeState
told_as p n = state_of p.run (at_work (renamed p.state n))
