-- What has to be shown of each instruction at a typed state.
--   Stands     a state stands at this instruction of this block, with the kinds that are noted
--   Well       what the instruction comes to is typed again; in a fun or merge it is a later place of the same frame, a
--              result or a fault of arithmetic
--   Known      the funs before a block have values
use Rattle.std.proofs.Common.{◌≡◌, ℕ, suc, ◌<◌, ◌≤◌, Bool, true, false, List, length, Some}
use Rattle.std.specs.Prelude.{slice_get}
use Rattle.rev_code.specs.declared.code.CodeBlock.{CodeBlock}
use Rattle.rev_code.specs.declared.code.Instr.{Instr}
use Rattle.rev_code.specs.Words.{Word}
use Rattle.rev_code.specs.State.{Frame, Location, Setting, State}
use Rattle.rev_code.specs.Step.{Comes, goes, traps, forks, joins, ends, stuck, params, value_at, most_frames}
use Rattle.rev_code.specs.Events.{parent, child}
use Rattle.code_rules.specs.Pass.{Note, is_value_class, most_words}
use Rattle.code_soundness.specs.Typed.{kinds_of, AllWaiting, IsTyped, AreLocations, location_kinds, IsRevision}
use Rattle.code_soundness.specs.Funs.{IsArithmetic, HasValue}
use Rattle.code_soundness.specs.Safe.{joiner, IsForked}
use Rattle.code_soundness.specs.Funs.{kind_of_result}

module _ {H : Type 0} (s : Setting H) (notes : ℕ → ℕ → Note) where
  -- what a revision has, and a fun or merge has not
  pub record IsProgram (ls : List (Location H)) (stack : List (Word H)) (below : List (Frame H)) : Type 0 where
    pub locations : AreLocations (location_kinds s.code.vars) ls
    pub shallow : length stack ≤ most_words
    pub few : suc (length below) ≤ most_frames

  pub record Stands (c : State H) (b : CodeBlock) (x : Instr) : Type 0 where
    pub is : slice_get s.code.blocks c.block ≡ Some b
    pub here : slice_get b.instrs c.at ≡ Some x
    pub locals : kinds_of c.locals ≡ b.locals
    pub stack : kinds_of c.stack ≡ (notes c.block c.at).shape
    pub below : AllWaiting s.code notes c.below c.block
    pub program : is_value_class b.class ≡ false → IsProgram c.locations c.stack c.below

  module _ (c : State H) (b : CodeBlock) where
    pub record IsAhead (c' : State H) : Type 0 where
      pub block : c'.block ≡ c.block
      pub later : c.at < c'.at
      pub below : c'.below ≡ c.below

    pub record GoesWell (c' : State H) : Type 0 where
      pub typed : IsTyped s.code notes c'
      pub ahead : is_value_class b.class ≡ true → IsAhead c'
      pub revision : is_value_class b.class ≡ false → IsRevision s.code notes c'

    pub record ForksWell (c' : State H) (n : ℕ) (args : List (Word H)) : Type 0 where
      pub class : is_value_class b.class ≡ false
      pub forked : IsForked s.code n args
      pub forker : (h : H) → IsRevision s.code notes (parent s.share c' args h)
      pub forked_child : IsRevision s.code notes (child s.share c' n forked.body args)

    pub record JoinsWell (c' : State H) (try : Bool) (h : H) : Type 0 where
      pub class : is_value_class b.class ≡ false
      pub joined : (done : Bool) (ls : List (Location H)) → AreLocations (location_kinds s.code.vars) ls
          → (fuel : ℕ) (text : List ℕ) → IsRevision s.code notes (joiner c' try done h ls fuel text)

    abbrev pub Well : Comes H → Type 0
    Well (goes c') = GoesWell c'
    Well (traps c' e) = is_value_class b.class ≡ true → IsArithmetic e
    Well (forks c' n args) = ForksWell c' n args
    Well (joins c' try h) = JoinsWell c' try h
    Well (ends c' w) = kind_of_result w ≡ b.result
    Well stuck = ⊥

  -- the funs and merges before this block
  abbrev pub Known : ℕ → Type 0
  Known upto =
      (n : ℕ) (f : CodeBlock) → n < upto → slice_get s.code.blocks n ≡ Some f → is_value_class f.class ≡ true
      → (args : List (Word H)) → kinds_of args ≡ params f → HasValue f.result (value_at (slice_get s.funs n) args)
