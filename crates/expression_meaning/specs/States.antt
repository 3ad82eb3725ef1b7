-- When a state of the code stands where a local state of the calculus does. Handles are paths, so
-- that each value is one word.
--   IsShared     the same locations, fuel, forks, list, text and line
--   AreLocals    each name in scope has in its local the word of its value
--   Waits        a frame that waits for the result of the one above it, or for what a fork or
--                `tryjoin` gives
--   Stands       the code stands before the statements that remain, with an empty stack
--   Behind       so does a frame that waits for a word
--   AtJoin       the code stands at the Join or TryJoin of a joiner
use Rattle.std.specs.Prelude.{◌≡◌, ◌≢◌, ℕ, suc, false, Option, Some, None, List, [], ◌∷◌, map, slice_get}
use Rattle.rev_num.specs.Path.{Path}
use Rattle.rev_num.specs.declared.value.Value.{Value}
use Rattle.rev_num.specs.declared.value.ValueKind.{ValueKind}
use Rattle.rev_num.specs.declared.value.ValueKind.TheVariants as k
use Rattle.name_tables.specs.Names.{Name}
use Rattle.name_tables.specs.Table.{Table, find}
use Rattle.typed_programs.specs.Judgement.{Returns}
use Rattle.typed_programs.specs.Layout.{SharedVariable, variables}
use Rattle.revision_calculus.specs.Program.{variable_named, Setting}
use Rattle.revision_calculus.specs.State as source
use Rattle.revision_calculus.specs.State.{Frame, Noted, Local}
use Rattle.rev_code.specs.declared.code.Instr.{Instr}
use Rattle.rev_code.specs.declared.code.Instr.TheVariants as i
use Rattle.rev_code.specs.declared.code.CodeBlock.{CodeBlock}
use Rattle.rev_code.specs.Words as words
use Rattle.rev_code.specs.Words.{Word}
use Rattle.rev_code.specs.State as code
use Rattle.rev_code.specs.State.{Location, Listed, State}
use Rattle.code_generation.specs.Numbers.{Scope}
use Rattle.expression_meaning.specs.Agrees.{word, at_with}
use Rattle.expression_meaning.specs.Places.{Tables, Follows}

-- ---- all but frames

abbrev pub written_word : Option Value → Option (Word Path)
written_word None = None
written_word (Some x) = Some (word x)

abbrev pub location_word : source.Location → Location Path
location_word m = record { snapshot = word m.base; written = written_word m.written }

abbrev pub entry : Noted → Listed Path
entry (source.forked q line) = code.forked q line
entry (source.joined q line) = code.joined q line

abbrev pub IsShared : Local → State Path → Type 0
IsShared l c =
    (c.locations ≡ map location_word l.locations) × (c.fuel ≡ l.fuel) × (c.forks ≡ l.forks)
    × (c.listed ≡ map entry l.noted) × (c.text ≡ l.text) × (c.line ≡ l.line)

-- ---- locals

abbrev pub word_kinds : List (Word Path) → List ValueKind
word_kinds ws = map words.kind_of ws

-- the same value and word
abbrev pub IsSame : Option Value → Option (Word Path) → Type 0
IsSame None w = ⊥
IsSame (Some x) w = w ≡ Some (word x)

-- The locals are of these kinds, and each name in scope has its word in its local, but for one that
-- waits for its value.
pub record AreLocals
    (ks : List ValueKind) (scope : Scope) (waits : Option Name) (values : Table Value)
    (ws : List (Word Path)) : Type 0 where
  pub kinds : word_kinds ws ≡ ks
  pub same : (name : Name) (m : ℕ) → waits ≢ Some name → find name scope ≡ Some m
      → IsSame (find name values) (slice_get ws m)

-- ---- frames

module _ (s : Setting) (g : Tables) where
  -- the top frame, before the statements that remain
  pub record IsTop (b : CodeBlock) (f : Frame) (at : ℕ) (ws : List (Word Path)) : Type 0 where
    pub scope : Scope
    pub locals : AreLocals b.locals scope None f.locals ws
    pub follows : Follows s g b scope f.rest at
    pub returns : Returns b.result f.rest

  -- a word of this kind goes to the local or the scalar of this name
  abbrev pub LeftBy : CodeBlock → Option ℕ → Name → ValueKind → (at : ℕ) → Type 0
  LeftBy b (Some m) w t at =
      (slice_get b.instrs at ≡ Some (i.StoreLocal m)) × (slice_get b.locals m ≡ Some t)
      × (variable_named (variables s.program) w ≡ None)
  LeftBy b None w t at =
      (x : SharedVariable) × (slice_get b.instrs at ≡ Some (i.StoreShared (g.numbers.var w)))
      × (variable_named (variables s.program) w ≡ Some x)
      × (x.info.array ≡ false) × (x.declared.holds ≡ t)

  -- what a call without a left side leaves is dropped
  abbrev pub DropAt : CodeBlock → Option ValueKind → (at to : ℕ) → Type 0
  DropAt b None at to = to ≡ at
  DropAt b (Some t) at to = (slice_get b.instrs at ≡ Some i.Pop) × (to ≡ suc at)

  -- behind an instruction that gives a word of this kind, or none, with this left side
  abbrev pub BackAt : CodeBlock → Scope → (left : Option Name) → (given : Option ValueKind)
      → (at to : ℕ) → Type 0
  BackAt b scope None given at to = DropAt b given at to
  BackAt b scope (Some w) None at to = ⊥
  BackAt b scope (Some w) (Some t) at to = LeftBy b (find w scope) w t at × (to ≡ suc at)

  -- a frame that waits for a word of this kind, or for the end of the one above, with this left
  -- side
  pub record Waits
      (b : CodeBlock) (left : Option Name) (given : Option ValueKind) (f : Frame)
      (w : code.Frame Path) : Type 0 where
    pub is : slice_get g.setting.code.blocks w.block ≡ Some b
    pub scope : Scope
    pub locals : AreLocals b.locals scope left f.locals w.locals
    pub apart : (name other : Name) (m : ℕ) → find name scope ≡ Some m
        → find other scope ≡ Some m → name ≡ other
    pub to : ℕ
    pub back : BackAt b scope left given w.at to
    pub follows : Follows s g b scope f.rest to
    pub returns : Returns b.result f.rest

  -- the frames below one with this left side and this result
  abbrev pub Below : (left : Option Name) → (given : Option ValueKind) → List Frame
      → List (code.Frame Path) → Type 0
  Below left given [] [] = Unit {0}
  Below left given (f ∷ fs) [] = ⊥
  Below left given [] (w ∷ ws) = ⊥
  Below left given (f ∷ fs) (w ∷ ws) =
      (b : CodeBlock) × Waits b left given f w × Below f.left b.result fs ws

  -- The code stands before a statement, with an empty stack.
  pub record Stands (l : Local) (f : Frame) (fs : List Frame) (c : State Path) : Type 0 where
    pub shared : IsShared l c
    pub frames : l.frames ≡ f ∷ fs
    pub block : CodeBlock
    pub is : slice_get g.setting.code.blocks c.block ≡ Some block
    pub stack : c.stack ≡ []
    pub top : IsTop block f c.at c.locals
    pub below : Below f.left block.result fs c.below

  abbrev pub StandsAt : Local → State Path → Type 0
  StandsAt l c = (f : Frame) × (fs : List Frame) × Stands l f fs c

  -- the top frame waits for a word that comes on the stack
  pub record Behind
      (l : Local) (left : Option Name) (given : Option ValueKind) (f : Frame) (fs : List Frame)
      (c : State Path) : Type 0 where
    pub shared : IsShared l c
    pub frames : l.frames ≡ f ∷ fs
    pub block : CodeBlock
    pub waits : Waits block left given f (record { block = c.block; at = c.at; locals = c.locals })
    pub below : Below f.left block.result fs c.below

  -- ---- joins

  -- what a join gives
  abbrev pub joined_kind : Option Name → Option ValueKind
  joined_kind None = None
  joined_kind (Some w) = Some k.Bool

  abbrev pub join_of : Option Name → Instr
  join_of None = i.Join
  join_of (Some w) = i.TryJoin

  -- the code at its join of the revision q
  pub record AtJoin (l : Local) (left : Option Name) (q : Path) (c : State Path) : Type 0 where
    pub top : Frame
    pub others : List Frame
    pub stack : c.stack ≡ words.rev (Some q) ∷ []
    pub behind : Behind l left (joined_kind left) top others (at_with c (suc c.at) [])
    pub block : CodeBlock
    pub is : slice_get g.setting.code.blocks c.block ≡ Some block
    pub here : slice_get block.instrs c.at ≡ Some (join_of left)
