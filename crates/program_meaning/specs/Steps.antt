-- What the code of a statement has to come to, for each event of the calculus.
--   Walks        one instruction or more
--   Few          nothing, or the one store or Pop behind what gives a word
--   DidMove      the code comes to a related state; to the join; to the end; or to the trap, with
--                its line
--   DidFork      the code comes to the fork, and forker and child are related
--   Did          the code comes to the event
use Rattle.std.specs.Prelude.{◌≡◌, ℕ, suc, is_some, Option, Some, None, List, [], ◌∷◌, slice_get}
use Rattle.rev_num.specs.Path.{Path, child}
use Rattle.rev_num.specs.declared.value.Value.{Value}
use Rattle.rev_num.specs.declared.value.ValueKind.{ValueKind}
use Rattle.rev_num.specs.Value.{kind_of}
use Rattle.revision_machine.specs.Machine.{Event, Moves, Forks, Joins, Ended}
use Rattle.revision_calculus.specs.Program.{Setting}
use Rattle.revision_calculus.specs.State.{Phase, running, joining, done, trapped, Local}
use Rattle.rev_code.specs.declared.code.Instr.{Instr}
use Rattle.rev_code.specs.declared.code.Instr.TheVariants as i
use Rattle.rev_code.specs.declared.code.CodeBlock.{CodeBlock}
use Rattle.rev_code.specs.Words.{Word}
use Rattle.rev_code.specs.State.{State}
use Rattle.rev_code.specs.Step as r
use Rattle.rev_code.specs.Step.{goes, traps, ends, step, Steps}
use Rattle.rev_code.specs.Events as events
use Rattle.expression_meaning.specs.Agrees.{word}
use Rattle.expression_meaning.specs.Places.{Tables}
use Rattle.expression_meaning.specs.States.{IsShared, StandsAt, AtJoin}

-- the words on the stack are those of the value, if there is to be one
abbrev pub Carries : (given : Option ValueKind) → Option Value → List (Word Path) → Type 0
Carries None x ws = ws ≡ []
Carries (Some t) None ws = ⊥
Carries (Some t) (Some x) ws = (ws ≡ word x ∷ []) × (kind_of x ≡ t)

-- what takes a word that was given
abbrev pub Takes : Instr → Type 0
Takes (i.StoreLocal n) = Unit {0}
Takes (i.StoreShared v) = Unit {0}
Takes i.Pop = Unit {0}
Takes _ = ⊥

module _ (g : Tables) where
  pub record Walks (a c : State Path) : Type 0 where
    pub first : State Path
    pub goes_to : step g.setting a ≡ goes first
    pub more : Steps g.setting first c

  -- nothing, or the one instruction that takes the word
  pub data Few (a c : State Path) : Type 0 where
    nowhere : a ≡ c → Few a c
    takes : (b : CodeBlock) (x : Instr) → slice_get g.setting.code.blocks a.block ≡ Some b
        → slice_get b.instrs a.at ≡ Some x → Takes x → step g.setting a ≡ goes c → Few a c

module _ (s : Setting) (g : Tables) (p : Path) (On : State Path → State Path → Type 0) where
  -- by `On` the code comes from `a` to what the revision at p has become, which is in this phase
  abbrev pub DidMove : (a : State Path) → Local → Phase → Type 0
  DidMove a l running = (c : State Path) × On a c × StandsAt s g l c
  DidMove a l (joining q left) =
      (c : State Path) × On a c × (step g.setting c ≡ r.joins c (is_some left) q)
      × AtJoin s g l left q c
  DidMove a l done =
      (c : State Path) × (w : Option (Word Path)) × Steps g.setting a c
      × (step g.setting c ≡ ends c w) × IsShared l c
  DidMove a l (trapped t) =
      (c : State Path) × (last : State Path) × Steps g.setting a c
      × (step g.setting c ≡ traps last t.cause) × (t.line ≡ last.line) × (t.origin ≡ p)
      × IsShared l last

  -- the code comes to a fork; told the child's handle, it stands where the forker does, and the
  -- child's first state where the child does
  pub record DidFork (a : State Path) (forker kid : Local) : Type 0 where
    pub at : State Path
    pub on : On a at
    pub number : ℕ
    pub block : CodeBlock
    pub is : slice_get g.setting.code.blocks number ≡ Some block
    pub args : List (Word Path)
    pub forks : step g.setting at ≡ r.forks at number args
    -- by the Fork that stands there
    pub forking : CodeBlock
    pub forking_is : slice_get g.setting.code.blocks at.block ≡ Some forking
    pub here : slice_get forking.instrs at.at ≡ Some (i.Fork number)
    pub told : State Path
    pub on_told : Steps g.setting (events.parent g.setting.share at args (child p at.forks)) told
    pub few : Few g (events.parent g.setting.share at args (child p at.forks)) told
    pub stands : StandsAt s g forker told
    pub child_stands : StandsAt s g kid (events.child g.setting.share at number block args)
    -- both count the same forks, so that the child has the same path
    pub counted : forker.forks ≡ suc at.forks
    pub phase : forker.phase ≡ running
    pub child_phase : kid.phase ≡ running

  abbrev pub Did : (a : State Path) → Event Local → Type 0
  Did a (Moves l) = DidMove a l l.phase
  Did a (Forks l k) = DidFork a l k
  Did a (Joins q) = ⊥
  Did a Ended = ⊥
