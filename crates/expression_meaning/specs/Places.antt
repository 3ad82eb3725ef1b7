-- Where the code of statements stands in a block, and what stands there for it.
--   AreNames         the names in scope, by the numbers of their locals and by their kinds
--   Tables           the numbers of names, and the code with what it runs under
--   StatementStands, BlockStands
--                    a statement, and statements, stand at a spot: they are typed there, and their
--                    code, the kinds of their locals, their layouts and their texts stand in the
--                    tables of the code
--   LeadsTo          by jumps from one place to another
--   Follows          from a place on the code is that of the statements that remain
-- The code itself is that of the translation (`statement_code`); nothing here says again what it
-- is.
use Rattle.std.specs.Prelude.{◌≡◌, ◌<◌, ℕ, zero, suc, ◌+◌, IsTrue, Option, Some, None, List, slice_get}
use Rattle.rev_num.specs.Path.{Path}
use Rattle.rev_num.specs.declared.value.ValueKind.{ValueKind}
use Rattle.rev_syntax.specs.Trees.{Statement, Statements, no_statements, statements}
use Rattle.rev_syntax.specs.Small.{statement_small, statements_small}
use Rattle.name_tables.specs.Names.{Name}
use Rattle.name_tables.specs.Table.{find}
use Rattle.typed_programs.specs.Kinds.{Locals}
use Rattle.typed_programs.specs.Judgement.{StatementTyped, StatementsTyped}
use Rattle.revision_calculus.specs.Program.{Setting}
use Rattle.revision_calculus.specs.Kinded.{names}
use Rattle.rev_code.specs.declared.code.Instr.TheVariants as i
use Rattle.rev_code.specs.declared.code.CodeBlock.{CodeBlock}
use Rattle.rev_code.specs.State.{Setting as CodeSetting}
use Rattle.code_generation.specs.Numbers.{Numbers, Scope, scope_after}
use Rattle.code_generation.specs.Sizes.{statement_size}
use Rattle.code_generation.specs.Statements.{Spot, statement_code, statements_code}
use Rattle.code_generation.specs.Prints.{statement_kinds, statements_kinds, statement_layouts, statements_layouts, statement_texts, statements_texts}
use Rattle.code_generation.specs.Stands.{HasAt, HasItems}

-- what the first scope knows, the second knows by the same number
abbrev pub IsWithin : Scope → Scope → Type 0
IsWithin inner outer =
    (name : Name) (m : ℕ) → find name inner ≡ Some m → find name outer ≡ Some m

-- The names in scope. Each has a local of its own, below the number of the next, whose kind is that
-- of the name.
pub record AreNames (kinds : List ValueKind) (scope : Scope) (l : Locals) (next : ℕ) : Type 0 where
  pub local : (name : Name) (t : Option ValueKind) → find name l ≡ Some t
      → (m : ℕ) × (find name scope ≡ Some m)
  pub kind : (name : Name) (m : ℕ) → find name scope ≡ Some m
      → (t : ValueKind) × (find name l ≡ Some (Some t)) × (slice_get kinds m ≡ Some t)
  pub below : (name : Name) (m : ℕ) → find name scope ≡ Some m → m < next
  pub apart : (name other : Name) (m : ℕ) → find name scope ≡ Some m
      → find other scope ≡ Some m → name ≡ other

-- the numbers with which code was made, and the code, with what it runs under
pub record Tables : Type 0 where
  pub numbers : Numbers
  pub setting : CodeSetting Path

module _ (s : Setting) (g : Tables) (b : CodeBlock) where
  -- where these names are in scope, and behind it those of `after`; the texts are numbered from
  -- `text` on
  pub record StatementStands
      (scope : Scope) (l : Locals) (sp : Spot) (text : ℕ) (x : Statement) (after : Locals)
      : Type 0 where
    pub known : AreNames b.locals scope l sp.local
    pub typed : StatementTyped (names s) b.result l x after
    pub small : IsTrue (statement_small x)
    pub code : HasAt b.instrs sp.at (statement_code g.numbers scope x sp)
    pub kinds : HasItems b.locals sp.local (statement_kinds (names s) l x)
    pub layouts : HasItems g.setting.code.layouts sp.layout (statement_layouts (names s) l text x)
    pub texts : HasItems g.setting.code.texts text (statement_texts x)

  pub record BlockStands
      (scope : Scope) (l : Locals) (sp : Spot) (text : ℕ) (xs : Statements) : Type 0 where
    pub known : AreNames b.locals scope l sp.local
    pub typed : StatementsTyped (names s) b.result l xs
    pub small : IsTrue (statements_small xs)
    pub code : HasAt b.instrs sp.at (statements_code g.numbers scope xs sp)
    pub kinds : HasItems b.locals sp.local (statements_kinds (names s) l xs)
    pub layouts : HasItems g.setting.code.layouts sp.layout (statements_layouts (names s) l text xs)
    pub texts : HasItems g.setting.code.texts text (statements_texts xs)

  -- by so many jumps
  abbrev pub Leads : ℕ → (at to : ℕ) → Type 0
  Leads zero at to = at ≡ to
  Leads (suc n) at to = (next : ℕ) × (slice_get b.instrs at ≡ Some (i.Jump next)) × Leads n next to

  abbrev pub LeadsTo : (at to : ℕ) → Type 0
  LeadsTo at to = (n : ℕ) × Leads n at to

  -- a procedure without a result, and `main`, return at their end; one with a result does not come
  -- there
  abbrev pub EndAt : Option ValueKind → (at : ℕ) → Type 0
  EndAt None at = (place : ℕ) × LeadsTo at place × (slice_get b.instrs place ≡ Some i.Return)
  EndAt (Some t) at = Unit {0}

  -- From this place on the code is that of the statements that remain, up to jumps. Each knows some
  -- of the names in scope, since those of a block that has ended are not known behind it. At the
  -- end of the body of a `while` a jump leads back to the code of the `while`, which is the
  -- statement that remains behind the body.
  abbrev pub Follows : Scope → Statements → (at : ℕ) → Type 0
  Follows scope no_statements at = EndAt b.result at
  Follows scope (statements x rest) at =
      (known : Scope) × (l : Locals) × (after : Locals) × (sp : Spot) × (text : ℕ)
      × LeadsTo at sp.at × IsWithin known scope × StatementStands known l sp text x after
      × Follows (scope_after known sp.local x) rest (sp.at + statement_size g.numbers x)
