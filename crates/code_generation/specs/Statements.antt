-- The code of a statement: the Charge of its line, and then what it does. The stack is empty before and behind it.
--
-- The code is a function of where it stands: `Spot` has the place of its first instruction, the number of the next
-- `let`, and the number of the next layout. `statement_form_code` is the table, one case for each form.
use Rattle.std.specs.Prelude.{ℕ, ◌+◌, Bool, true, false, if◌then◌else◌, Option, Some, None, List, [], ◌∷◌, ◌++◌}
use Rattle.rev_syntax.specs.Trees.{PlacedName, Expression, RightSide, plain, called, forked, tried, PrintItem, text, shown, Statement, statement, StatementForm, bind, assign, assign_cell, choose, choose_or, repeat, call, return, fork, join, print, assert, Statements, no_statements, statements, Arms, no_arms, arm}
use Rattle.name_tables.specs.Table.{find}
use Rattle.typed_programs.specs.Limits.{statement_lets, statements_lets, arms_lets}
use Rattle.rev_code.specs.declared.code.Instr.{Instr}
use Rattle.rev_code.specs.declared.code.Instr.TheVariants as i
use Rattle.code_generation.specs.Numbers.{Numbers, Scope, scope_after}
use Rattle.code_generation.specs.Expressions.{expression_size, expression_code, expressions_code}
use Rattle.code_generation.specs.Sizes.{statement_size, statements_size, arms_size, leap_size, statement_prints, statements_prints, arms_prints}

pub record Spot : Type 0 where
  pub at : ℕ
  pub local : ℕ
  pub layout : ℕ

-- this many instructions further on, with no `let` and no print between
abbrev pub ahead : Spot → ℕ → Spot
ahead s size = record { at = s.at + size; local = s.local; layout = s.layout }

-- behind statements, or behind arms
abbrev pub behind_statement : Numbers → Spot → Statement → Spot
behind_statement n s x = record
    { at = s.at + statement_size n x; local = s.local + statement_lets x; layout = s.layout + statement_prints x }

abbrev pub behind_block : Numbers → Spot → Statements → Spot
behind_block n s xs = record
    { at = s.at + statements_size n xs; local = s.local + statements_lets xs; layout = s.layout + statements_prints xs }

abbrev pub behind_arms : Numbers → Spot → (has_last : Bool) → Arms → Spot
behind_arms n s has_last arms = record
    { at = s.at + arms_size n has_last arms; local = s.local + arms_lets arms; layout = s.layout + arms_prints arms }

-- ---- parts of statements

-- pop into the local that the name means, or else into the shared variable
abbrev pub store : Numbers → PlacedName → Option ℕ → Instr
store n w (Some local) = i.StoreLocal local
store n w None = i.StoreShared (n.var w.text)

abbrev pub right_side_code : Numbers → Scope → RightSide → (at : ℕ) → List Instr
right_side_code n scope (plain e) at = expression_code n scope e at
right_side_code n scope (called p w args) at = expressions_code n scope args at ++ i.Call (n.proc w.text) ∷ []
right_side_code n scope (forked p w args) at = expressions_code n scope args at ++ i.Fork (n.proc w.text) ∷ []
right_side_code n scope (tried p handle) at = expression_code n scope handle at ++ i.TryJoin ∷ []

-- the values of a print, in order
abbrev pub items_code : Numbers → Scope → List PrintItem → (at : ℕ) → List Instr
items_code n scope [] at = []
items_code n scope (text p bytes ∷ items) at = items_code n scope items at
items_code n scope (shown e ∷ items) at =
    expression_code n scope e at ++ items_code n scope items (at + expression_size e)

abbrev pub returned_code : Numbers → Scope → Option Expression → (at : ℕ) → List Instr
returned_code n scope None at = i.Return ∷ []
returned_code n scope (Some e) at = expression_code n scope e at ++ i.Return ∷ []

-- what a call leaves is dropped
abbrev pub dropped : (gives : Bool) → List Instr
dropped gives = if gives then i.Pop ∷ [] else []

-- the jump to the end behind the block of an arm, where more arms or a last `else` are behind it
abbrev pub leap : (has_last : Bool) → (rest : Arms) → (end : ℕ) → List Instr
leap false no_arms end = []
leap true no_arms end = i.Jump end ∷ []
leap has_last (arm test body rest) end = i.Jump end ∷ []

-- behind the test and the jump of an arm
abbrev pub in_arm : Spot → Expression → Spot
in_arm s test = ahead s (expression_size test + 1)

-- where the next arm, or what stands behind all, begins
abbrev pub next_arm : Numbers → Spot → (has_last : Bool) → Expression → Statements → (rest : Arms) → Spot
next_arm n s has_last test body rest = ahead (behind_block n (in_arm s test) body) (leap_size has_last rest)

-- ---- statements

abbrev mutual
  pub statement_code : Numbers → Scope → Statement → Spot → List Instr
  statement_code n scope (statement p line form) s = i.Charge line ∷ statement_form_code n scope form s.at (ahead s 1)

  -- The Charge stands at `head`, and the rest from the spot on.
  pub statement_form_code : Numbers → Scope → StatementForm → (head : ℕ) → Spot → List Instr
  statement_form_code n scope (bind w r) head s = right_side_code n scope r s.at ++ i.StoreLocal s.local ∷ []
  statement_form_code n scope (assign w r) head s = right_side_code n scope r s.at ++ store n w (find w.text scope) ∷ []
  statement_form_code n scope (assign_cell w index e) head s =
      expression_code n scope index s.at
      ++ i.CheckCell (n.var w.text)
      ∷ expression_code n scope e (s.at + expression_size index + 1)
      ++ i.StoreCell (n.var w.text)
      ∷ []
  statement_form_code n scope (choose arms) head s = arms_code n scope false arms (s.at + arms_size n false arms) s
  statement_form_code n scope (choose_or arms last) head s =
      arms_code n scope true arms (s.at + arms_size n true arms + statements_size n last) s
      ++ statements_code n scope last (behind_arms n s true arms)
  statement_form_code n scope (repeat test body) head s =
      expression_code n scope test s.at
      ++ i.JumpIfFalse (s.at + expression_size test + 1 + statements_size n body + 1)
      ∷ statements_code n scope body (in_arm s test)
      ++ i.Jump head
      ∷ []
  statement_form_code n scope (call w args) head s =
      expressions_code n scope args s.at ++ i.Call (n.proc w.text) ∷ dropped (n.gives w.text)
  statement_form_code n scope (return e) head s = returned_code n scope e s.at
  statement_form_code n scope (fork w args) head s =
      expressions_code n scope args s.at ++ i.Fork (n.proc w.text) ∷ i.Pop ∷ []
  statement_form_code n scope (join e) head s = expression_code n scope e s.at ++ i.Join ∷ []
  statement_form_code n scope (print items) head s = items_code n scope items s.at ++ i.Print s.layout ∷ []
  statement_form_code n scope (assert e) head s = expression_code n scope e s.at ++ i.Assert ∷ []

  pub statements_code : Numbers → Scope → Statements → Spot → List Instr
  statements_code n scope no_statements s = []
  statements_code n scope (statements x rest) s =
      statement_code n scope x s ++ statements_code n (scope_after scope s.local x) rest (behind_statement n s x)

  -- the arms of an `if`, whose code ends at `end`, and whether it has a last `else`
  pub arms_code : Numbers → Scope → (has_last : Bool) → Arms → (end : ℕ) → Spot → List Instr
  arms_code n scope has_last no_arms end s = []
  arms_code n scope has_last (arm test body rest) end s =
      expression_code n scope test s.at
      ++ i.JumpIfFalse (next_arm n s has_last test body rest).at
      ∷ statements_code n scope body (in_arm s test)
      ++ leap has_last rest end
      ++ arms_code n scope has_last rest end (next_arm n s has_last test body rest)
