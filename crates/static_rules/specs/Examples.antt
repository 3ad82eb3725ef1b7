-- Programs with a fault each: the first rule that it breaks, and the place.
--
-- Each tree stands below its text; a number before a name or a form is its offset there.
use Rattle.std.specs.Prelude.{ℕ, pos, true, Option, Some, None, List, [], ◌∷◌}
use Rattle.rev_num.specs.declared.value.ValueKind.TheVariants as k
use Rattle.rev_num.specs.declared.value.ValueKind.{ValueKind}
use Rattle.rev_syntax.specs.Trees.{PlacedName, Parameter, Expression, placed, int, bool, var, inputs, chain, no_expressions, no_links, link, plain, called, shown, Statement, statement, bind, assign, repeat, call, return, print, no_statements, Declaration, fun, shared, proc, ProgramTree}
use Rattle.rev_syntax.specs.declared.tree.BinaryOp.TheVariants as b
use Rattle.rev_report.specs.declared.limit.Limit.TheVariants as limits
use Rattle.typed_programs.specs.declared.fault.TypeFault.TheVariants.{UnknownName, Redeclared, WrongType, WrongCount, NoReturn}
use Rattle.typed_programs.specs.Faults.{exceeded}
use Rattle.static_rules.specs.Breaks.{IsFirstBroken}
pub use Rattle.rev_syntax.specs.View.{statements_of as block_of}

-- ---- short words for trees

-- a name of one letter
abbrev pub letter : ℕ → ℕ → PlacedName
letter at byte = record { at = at; text = byte ∷ [] }

abbrev pub number : ℕ → ℕ → Expression
number at n = placed at (int (pos n))

abbrev pub truth : ℕ → Expression
truth at = placed at (bool true)

abbrev pub reading : ℕ → ℕ → Expression
reading at byte = placed at (var (letter at byte))

abbrev pub int_parameter : ℕ → ℕ → Parameter
int_parameter at byte = record { name = letter at byte; kind_at = at; kind = k.Int }

abbrev pub program_of : List Declaration → List Statement → ProgramTree
program_of declarations body = record { declarations = declarations; main_at = 0; main = block_of body }

-- a versioned array of ints whose name is `a`
abbrev pub array_of : ℕ → ℕ → Declaration
array_of at n = shared (record {
  name = letter 10 97;
  by = None;
  kind_at = 13;
  holds = k.Int;
  size = Some (record { at = at; cells = pos n });
  first = None;
})

-- a procedure without parameters whose name is `f`
abbrev pub procedure_of : Option ValueKind → List Statement → Declaration
procedure_of result body = proc (letter 5 102) [] result (block_of body)

-- ---- programs

-- main { print x; print y; }
abbrev pub unknown_name : ProgramTree
unknown_name = program_of [] (statement 7 1 (print (shown (reading 13 120) ∷ []))
    ∷ statement 16 1 (print (shown (reading 22 121) ∷ [])) ∷ [])

-- cumulative c: int by m; main { }
abbrev pub unknown_merge : ProgramTree
unknown_merge = program_of (shared (record {
  name = letter 11 99;
  by = Some (letter 21 109);
  kind_at = 14;
  holds = k.Int;
  size = None;
  first = None;
}) ∷ []) []

-- main { let x = 1; let x = true; }
abbrev pub second_let : ProgramTree
second_let = program_of [] (statement 7 1 (bind (letter 11 120) (plain (number 15 1)))
    ∷ statement 18 1 (bind (letter 22 120) (plain (truth 26))) ∷ [])

-- main { print 1 + true; }
abbrev pub sum_with_truth : ProgramTree
sum_with_truth = program_of []
    (statement 7 1 (print (shown (placed 13 (chain (number 13 1) (link b.Add (truth 17) no_links))) ∷ [])) ∷ [])

-- proc f(): int { return 1; } main { let x = true; x = call f(); }
abbrev pub call_of_other_kind : ProgramTree
call_of_other_kind = program_of (procedure_of (Some k.Int) (statement 16 1 (return (Some (number 23 1))) ∷ []) ∷ [])
    (statement 35 1 (bind (letter 39 120) (plain (truth 43)))
    ∷ statement 49 1 (assign (letter 49 120) (called 53 (letter 58 102) no_expressions)) ∷ [])

-- proc f() { } main { let x = call f(); }
abbrev pub call_without_result : ProgramTree
call_without_result = program_of (procedure_of None [] ∷ [])
    (statement 20 1 (bind (letter 24 120) (called 28 (letter 33 102) no_expressions)) ∷ [])

-- proc f(): int { return; } main { }
abbrev pub return_without_value : ProgramTree
return_without_value = program_of (procedure_of (Some k.Int) (statement 16 1 (return None) ∷ []) ∷ []) []

-- versioned a: int[2]; main { print a; }
abbrev pub array_without_index : ProgramTree
array_without_index = program_of (array_of 17 2 ∷ []) (statement 28 1 (print (shown (reading 34 97) ∷ [])) ∷ [])

-- fun f(): int = inputs; main { }
abbrev pub inputs_in_fun : ProgramTree
inputs_in_fun = program_of (fun (letter 4 102) [] k.Int (placed 15 (inputs 15)) ∷ []) []

-- proc f(a: int) { } main { call f(); }
abbrev pub missing_argument : ProgramTree
missing_argument = program_of (proc (letter 5 102) (int_parameter 7 97 ∷ []) None no_statements ∷ [])
    (statement 26 1 (call (letter 31 102) no_expressions) ∷ [])

-- versioned a: int[0]; main { }
abbrev pub array_without_cells : ProgramTree
array_without_cells = program_of (array_of 17 0 ∷ []) []

-- proc f(): int { while true { return 1; } } main { }
abbrev pub return_in_loop : ProgramTree
return_in_loop = program_of (procedure_of (Some k.Int)
    (statement 16 1 (repeat (truth 22) (block_of (statement 29 1 (return (Some (number 36 1))) ∷ []))) ∷ []) ∷ []) []

-- proc f(a: int, b: int, c: int, d: int, e: int, f: int, g: int, h: int, i: int) { } main { }
abbrev pub nine_parameters : ProgramTree
nine_parameters = program_of (proc (letter 5 102)
    (int_parameter 7 97 ∷ int_parameter 15 98 ∷ int_parameter 23 99 ∷ int_parameter 31 100 ∷ int_parameter 39 101
    ∷ int_parameter 47 102 ∷ int_parameter 55 103 ∷ int_parameter 63 104 ∷ int_parameter 71 105 ∷ []) None no_statements
    ∷ []) []

-- each of these programs breaks this rule at this place, and it is the first that it breaks
pub record Examples : Type 0 where
  pub at_unknown_name : IsFirstBroken unknown_name (UnknownName 13)
  pub at_unknown_merge : IsFirstBroken unknown_merge (UnknownName 21)
  pub at_second_let : IsFirstBroken second_let (Redeclared 22)
  pub at_sum_with_truth : IsFirstBroken sum_with_truth (WrongType 17)
  pub at_call_of_other_kind : IsFirstBroken call_of_other_kind (WrongType 53)
  pub at_call_without_result : IsFirstBroken call_without_result (WrongType 33)
  pub at_return_without_value : IsFirstBroken return_without_value (WrongType 16)
  pub at_array_without_index : IsFirstBroken array_without_index (WrongType 34)
  pub at_inputs_in_fun : IsFirstBroken inputs_in_fun (WrongType 15)
  pub at_missing_argument : IsFirstBroken missing_argument (WrongCount 31)
  pub at_array_without_cells : IsFirstBroken array_without_cells (WrongCount 17)
  pub at_return_in_loop : IsFirstBroken return_in_loop (NoReturn 5)
  pub at_nine_parameters : IsFirstBroken nine_parameters (exceeded 71 limits.Parameters)
