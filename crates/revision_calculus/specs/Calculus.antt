-- The calculus: the machine of revisions of a program, from its start.
--
-- `main` is the first revision before its first statement, with the start values of all locations; `calculus` is the
-- machine of its steps.
use Rattle.std.specs.Prelude.{ℕ, List, [], ◌∷◌, ◌++◌, replicate, None}
use Rattle.rev_num.specs.declared.value.Value.{Value}
use Rattle.revision_machine.specs.Machine.{Machine}
use Rattle.typed_programs.specs.Layout.{SharedVariable, variables}
use Rattle.revision_calculus.specs.Program.{first_of, Setting}
use Rattle.revision_calculus.specs.State.{begun, Local}
use Rattle.revision_calculus.specs.Step.{next}
use Rattle.revision_calculus.specs.Join.{join}

-- the start value of each location
abbrev pub start_values : List SharedVariable → List Value
start_values [] = []
start_values (x ∷ xs) = replicate x.info.cells (first_of x) ++ start_values xs

-- `main` with this fuel, before its first statement
abbrev pub main : Setting → ℕ → Local
main s fuel = begun (start_values (variables s.program)) (record { locals = []; rest = s.program.main; left = None })
    fuel

abbrev pub calculus : Setting → Machine
calculus s = record { Local = Local; next = next s; forks = λ l. l.forks; join = join s }
