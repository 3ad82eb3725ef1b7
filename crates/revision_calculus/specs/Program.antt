-- What a run is given, and what it looks up in the tables of its program.
--
-- The tables are those of the checker (`typed_programs`, `specs/Layout.antt`). `first_of` is the start value of a
-- shared variable; `variable_named` and `procedure_named` find a row by its name; a `Setting` is a program with its
-- inputs and the most fuel that a fork gives.
use Rattle.std.specs.Prelude.{ℕ, ℤ, pos, false, List, [], ◌∷◌, Option, Some, None, if◌then◌else◌}
use Rattle.rev_num.specs.declared.value.Value.{Value}
use Rattle.rev_num.specs.declared.value.Value.TheVariants as v
use Rattle.rev_num.specs.declared.value.ValueKind.{ValueKind}
use Rattle.rev_num.specs.declared.value.ValueKind.TheVariants as kind
use Rattle.rev_syntax.specs.Trees.{no_statements, Constant, ProgramTree}
use Rattle.name_tables.specs.Names.{Name, same}
use Rattle.typed_programs.specs.Layout.{SharedVariable, Procedure}

-- ---- shared variables

-- the start value without a constant
abbrev pub zero_value : ValueKind → Value
zero_value kind.Int = v.Int (pos 0)
zero_value kind.Bool = v.Bool false
zero_value kind.Rev = v.Rev None

-- a constant; of handles, `none` alone can be written
abbrev pub constant_value : Value → Value
constant_value (v.Int n) = v.Int n
constant_value (v.Bool b) = v.Bool b
constant_value (v.Rev h) = v.Rev None

abbrev pub first_value : ValueKind → Option Constant → Value
first_value k None = zero_value k
first_value k (Some c) = constant_value c.value

abbrev pub first_of : SharedVariable → Value
first_of x = first_value x.declared.holds x.declared.first

-- the first shared variable of this name
abbrev pub variable_named : List SharedVariable → Name → Option SharedVariable
variable_named [] name = None
variable_named (x ∷ xs) name = if same name x.declared.name.text then Some x else variable_named xs name

-- ---- procedures

-- the first procedure of this name; where there is none, one that does nothing stands for it
abbrev pub procedure_named : List Procedure → Name → Procedure
procedure_named [] name = record { decl = 0; name = name; params = []; body = no_statements }
procedure_named (p ∷ ps) name = if same name p.name then p else procedure_named ps name

-- ---- what a run is given

pub record Setting : Type 0 where
  pub program : ProgramTree
  pub inputs : List ℤ
  -- the most fuel that a fork gives to its child
  pub share : ℕ
