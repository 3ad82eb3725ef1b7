-- When a state of the code reads as an expression does, and what the code of an expression gives.
--
-- Handles are paths here, so that each value is one word.
--   word      the word of a value
--   Reads     locals, variables, input and funs, as names mean them
--   Gives     what the code leads to: the value on the stack and all else as before;
--             or a trap with the cause; each step leads
--             to a later place; `GiveAll` so for arguments
--   ExpressionsRun, ArgumentsRun
--             where a state reads so, the code of expressions and of arguments gives their values
use Rattle.std.specs.Prelude.{◌≡◌, ℕ, ◌+◌, ◌<◌, true, false, Option, Some, None, List, [], ◌∷◌, length, map, slice_get, Result, Ok, Err}
use Rattle.rev_num.specs.Path.{Path}
use Rattle.rev_num.specs.declared.value.Value.{Value}
use Rattle.rev_num.specs.declared.value.Value.TheVariants as v
use Rattle.rev_num.specs.declared.value.ValueKind.{ValueKind}
use Rattle.rev_num.specs.declared.outcome.Cause.{Cause}
use Rattle.rev_num.specs.Value.{kind_of}
use Rattle.rev_syntax.specs.Trees.{Parameter, Expression, Expressions}
use Rattle.typed_programs.specs.FunRules.{count}
use Rattle.name_tables.specs.Names.{Name}
use Rattle.name_tables.specs.Table.{find}
use Rattle.typed_programs.specs.Value as value
use Rattle.typed_programs.specs.Value.{Answer, Env, Funs, called, value_by, values_by}
use Rattle.typed_programs.specs.declared.names.Holder.{Holder}
use Rattle.typed_programs.specs.Kinds.{Callee, Names, Locals}
use Rattle.typed_programs.specs.Typing.{HasKind, ArgsHave}
use Rattle.rev_syntax.specs.Small.{expression_formed, expressions_formed}
use Rattle.rev_code.specs.declared.code.BlockClass.TheVariants as class
use Rattle.rev_code.specs.declared.code.CodeBlock.{CodeBlock}
use Rattle.rev_code.specs.Words.{Word, int, bool, rev}
use Rattle.rev_code.specs.State.{State, Setting, seen_at}
use Rattle.rev_code.specs.Variables.{Place, scalar, array}
use Rattle.rev_code.specs.Step.{traps, params, value_at, step, goes}
use Rattle.code_generation.specs.Generated.{kinds_of}
use Rattle.code_generation.specs.Numbers.{Numbers, Scope}
use Rattle.code_generation.specs.Expressions.{expression_size, expression_code, expressions_size, expressions_code}
use Rattle.code_generation.specs.Stands.{HasAt}
use Rattle.expression_meaning.specs.Applying.{AllApply, ArgsApply}

abbrev pub word : Value → Word Path
word (v.Int z) = int z
word (v.Bool x) = bool x
word (v.Rev h) = rev h

-- a value of this kind, or a cause
abbrev pub IsOfKind : ValueKind → Answer → Type 0
IsOfKind t (Ok x) = kind_of x ≡ t
IsOfKind t (Err e) = Unit {0}

abbrev pub coded : Answer → Result (Word Path) Cause
coded (Ok x) = Ok (word x)
coded (Err e) = Err e

-- ---- what a state reads

abbrev pub LocalReads : Env → State Path → Name → ValueKind → ℕ → Type 0
LocalReads e a name t m =
    (x : Value) × (e.local name ≡ Some x) × (kind_of x ≡ t) × (slice_get a.locals m ≡ Some (word x))

-- a shared variable, by its number
abbrev pub ScalarReads : Setting Path → ℕ → Env → State Path → Name → Holder → Type 0
ScalarReads s number e a name h =
    (p : Place) × (x : Value) × (scalar s.code.vars number ≡ Some p) × (e.shared name ≡ value.scalar x)
    × (kind_of x ≡ h.kind) × (seen_at a.locations p.first ≡ Some (word x))

abbrev pub ArrayReads : Setting Path → ℕ → Env → State Path → Name → Holder → Type 0
ArrayReads s number e a name h =
    (p : Place) × (cells : ℕ → Value) × (array s.code.vars number ≡ Some p)
    × (e.shared name ≡ value.array p.var.cells cells)
    × ((i : ℕ) → i < p.var.cells → (kind_of (cells i) ≡ h.kind)
    × (seen_at a.locations (p.first + i) ≡ Some (word (cells i))))

-- values of the kinds of parameters
abbrev pub ArgsAre : List Parameter → List Value → Type 0
ArgsAre [] [] = Unit {0}
ArgsAre [] (x ∷ xs) = ⊥
ArgsAre (p ∷ ps) [] = ⊥
ArgsAre (p ∷ ps) (x ∷ xs) = (kind_of x ≡ p.kind) × ArgsAre ps xs

-- the block of a fun, and its value, are those of the fun
pub record FunReads (s : Setting Path) (number : ℕ) (f : Callee) (g : Option value.Fun) : Type 0 where
  pub block : CodeBlock
  pub is : slice_get s.code.blocks number ≡ Some block
  pub class : block.class ≡ class.Fun
  pub params : params block ≡ kinds_of f.params
  pub gives : (xs : List Value) (t : ValueKind) → ArgsAre f.params xs → f.result ≡ Some t
      → (value_at (slice_get s.funs number) (map word xs) ≡ Some (coded (called g xs))) × IsOfKind t (called g xs)

pub record Reads (s : Setting Path) (n : Numbers) (b : CodeBlock) (scope : Scope) (c : Names) (l : Locals) (e : Env)
    (a : State Path) : Type 0 where
  pub is : slice_get s.code.blocks a.block ≡ Some b
  pub locals : (name : Name) (t : ValueKind) → find name l ≡ Some (Some t) → (m : ℕ) × (find name scope ≡ Some m)
      × LocalReads e a name t m
  -- a local whose block has ended may still have a value, but none that hides a shared variable
  pub outside : (name : Name) (h : Holder) → find name l ≡ None → c.shared name ≡ Some h
      → (find name scope ≡ None) × (e.local name ≡ None)
  pub scalars : (name : Name) (h : Holder) → find name l ≡ None → c.shared name ≡ Some h → h.array ≡ false
      → ScalarReads s (n.var name) e a name h
  pub arrays : (name : Name) (h : Holder) → find name l ≡ None → c.shared name ≡ Some h → h.array ≡ true
      → ArrayReads s (n.var name) e a name h
  pub inputs : c.inside ≡ false → s.inputs ≡ e.inputs

-- ---- what the code of an expression gives

-- steps of which each leads to a later place of the block
pub data Onward (s : Setting Path) : State Path → State Path → Type 0 where
  stay : {c : State Path} → Onward s c c
  move : {c c' c'' : State Path} → step s c ≡ goes c' → c.at < c'.at → Onward s c' c'' → Onward s c c''

-- the state at this place, with this stack
abbrev pub at_with : State Path → ℕ → List (Word Path) → State Path
at_with a at stack = record a { at = at; stack = stack }

abbrev pub Gives : Setting Path → State Path → (at : ℕ) → (words : List (Word Path)) → (to : ℕ)
    → (stack : List (Word Path)) → ValueKind → Answer → Type 0
Gives s a at words to stack t (Ok x) = (kind_of x ≡ t) × Onward s (at_with a at words) (at_with a to (word x ∷ stack))
Gives s a at words to stack t (Err e) =
    (p : ℕ) × (found : List (Word Path)) × Onward s (at_with a at words) (at_with a p found)
    × (step s (at_with a p found) ≡ traps (at_with a p found) e)

-- the stack behind arguments, the last on top
abbrev pub pushed : List Value → List (Word Path) → List (Word Path)
pushed [] stack = stack
pushed (x ∷ xs) stack = pushed xs (word x ∷ stack)

-- what the code of arguments gives: their values on the stack; or a trap
abbrev pub GiveAll : Setting Path → State Path → (at : ℕ) → (words : List (Word Path))
    → (to : ℕ) → (stack : List (Word Path)) → List Parameter → Result (List Value) Cause → Type 0
GiveAll s a at words to stack ps (Ok xs) =
    ArgsAre ps xs × Onward s (at_with a at words) (at_with a to (pushed xs stack))
GiveAll s a at words to stack ps (Err e) =
    (p : ℕ) × (found : List (Word Path)) × Onward s (at_with a at words) (at_with a p found)
    × (step s (at_with a p found) ≡ traps (at_with a p found) e)

-- The code of an expression that has a kind by the typing rules,
-- and a form that the grammar has, gives its value, where
-- it stands in the block of the state and the funs that are applied in it have their blocks and values.
abbrev pub ExpressionsRun : Type 0
ExpressionsRun =
    (s : Setting Path) (n : Numbers) (b : CodeBlock) (scope : Scope) (c : Names) (l : Locals) (fs : Funs) (e : Env)
    (a : State Path) → Reads s n b scope c l e a
    → (x : Expression) (t : ValueKind) (at : ℕ) (stack : List (Word Path)) → HasKind c l x t
    → expression_formed x ≡ true → AllApply c (λ name f. FunReads s (n.fun name) f (fs name)) x
    → HasAt b.instrs at (expression_code n scope x at)
    → Gives s a at stack (at + expression_size x) stack t (value_by fs e x)

-- The code of arguments, as many as there are parameters and of their kinds, gives all their values.
abbrev pub ArgumentsRun : Type 0
ArgumentsRun =
    (s : Setting Path) (n : Numbers) (b : CodeBlock) (scope : Scope) (c : Names) (l : Locals)
    (fs : Funs) (e : Env) (a : State Path) → Reads s n b scope c l e a
    → (ps : List Parameter) (xs : Expressions) (at : ℕ) (stack : List (Word Path))
    → count xs ≡ length ps → ArgsHave c l ps 0 xs → expressions_formed xs ≡ true
    → ArgsApply c (λ name f. FunReads s (n.fun name) f (fs name)) xs
    → HasAt b.instrs at (expressions_code n scope xs at)
    → GiveAll s a at stack (at + expressions_size xs) stack ps (values_by fs e xs)
