-- States of code whose words have the kinds that certificates note.
--   IsFrame       a frame stands at an instruction of its block, with locals of the block's kinds
--   IsWaiting     a frame waits behind its Call, where the stack holds the called block's result alone
--   IsTyped       a state: the frame on top, the kinds of its stack, and the frames that wait below
--   IsRevision    a typed state of a revision: in a procedure or `main`, with values of the variables'
--                 kinds in its locations, a stack of at most 4,096 words and at most 1,000 frames
use Rattle.std.specs.Prelude.{ℕ, suc, ◌≡◌, ◌<◌, ◌≤◌, false, List, [], ◌∷◌, ◌++◌, length, map, replicate, Some, slice_get}
use Rattle.rev_num.specs.declared.value.ValueKind.{ValueKind}
use Rattle.rev_code.specs.declared.code.Code.{Code}
use Rattle.rev_code.specs.declared.code.CodeBlock.{CodeBlock}
use Rattle.rev_code.specs.declared.code.CodeVar.{CodeVar}
use Rattle.rev_code.specs.declared.code.Instr.TheVariants as i
use Rattle.rev_code.specs.Words.{Word, kind_of}
use Rattle.rev_code.specs.State.{Frame, Location, State}
use Rattle.rev_code.specs.Step.{most_frames}
use Rattle.code_rules.specs.Shapes.{result_kinds}
use Rattle.code_rules.specs.Pass.{Note, is_value_class, most_words}

abbrev pub kinds_of : {H : Type 0} → List (Word H) → List ValueKind
kinds_of words = map kind_of words

-- ---- frames

pub record IsFrame {H : Type 0} (code : Code) (block at : ℕ) (locals : List (Word H)) : Type 0 where
  pub body : CodeBlock
  pub is : slice_get code.blocks block ≡ Some body
  pub inside : at < length body.instrs
  pub kinds : kinds_of locals ≡ body.locals

-- a frame below one of the block `called`
pub record IsWaiting {H : Type 0} (code : Code) (notes : ℕ → ℕ → Note) (f : Frame H) (called : ℕ)
    : Type 0 where
  pub frame : IsFrame code f.block f.at f.locals
  pub call_at : ℕ
  pub behind : f.at ≡ suc call_at
  pub call : slice_get frame.body.instrs call_at ≡ Some (i.Call called)
  pub waits : (notes f.block f.at).shape ≡ result_kinds (slice_get code.blocks called)

-- the frames below one of this block, the innermost first
abbrev pub AllWaiting : {H : Type 0} → Code → (ℕ → ℕ → Note) → List (Frame H) → (block : ℕ) → Type 0
AllWaiting code notes [] block = Unit {0}
AllWaiting code notes (f ∷ fs) block = IsWaiting code notes f block × AllWaiting code notes fs f.block

pub record IsTyped {H : Type 0} (code : Code) (notes : ℕ → ℕ → Note) (c : State H) : Type 0 where
  pub frame : IsFrame code c.block c.at c.locals
  pub stack : kinds_of c.stack ≡ (notes c.block c.at).shape
  pub below : AllWaiting code notes c.below c.block

-- ---- revisions

-- the kinds of the locations of these variables
abbrev pub location_kinds : List CodeVar → List ValueKind
location_kinds [] = []
location_kinds (v ∷ vs) = replicate v.cells v.kind ++ location_kinds vs

-- what the snapshot has there, and what was written
pub record IsLocation {H : Type 0} (kind : ValueKind) (l : Location H) : Type 0 where
  pub snapshot : kind_of l.snapshot ≡ kind
  pub written : (w : Word H) → l.written ≡ Some w → kind_of w ≡ kind

abbrev pub AreLocations : {H : Type 0} → List ValueKind → List (Location H) → Type 0
AreLocations [] [] = Unit {0}
AreLocations (x ∷ kinds) (l ∷ ls) = IsLocation x l × AreLocations kinds ls
AreLocations [] (l ∷ ls) = ⊥
AreLocations (x ∷ kinds) [] = ⊥

-- the block evaluates no fun and no merge
abbrev pub IsOfProgram : Code → (block : ℕ) → Type 0
IsOfProgram code block =
    (b : CodeBlock) → slice_get code.blocks block ≡ Some b → is_value_class b.class ≡ false

pub record IsRevision {H : Type 0} (code : Code) (notes : ℕ → ℕ → Note) (c : State H) : Type 0 where
  pub typed : IsTyped code notes c
  pub program : IsOfProgram code c.block
  pub locations : AreLocations (location_kinds code.vars) c.locations
  pub shallow : length c.stack ≤ most_words
  pub few : suc (length c.below) ≤ most_frames
