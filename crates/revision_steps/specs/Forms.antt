-- The arms of what a statement does, over the parts of its form; a `return` without a value has none here.
use Rattle.std.specs.Prelude.{◌++◌, List, Option, Some, if◌then◌else◌}
use Rattle.rev_num.specs.Path.{Path}
use Rattle.rev_num.specs.declared.outcome.Cause.TheVariants as cause
use Rattle.rev_syntax.specs.Trees.{Expression, Expressions, PrintItem, Statement, Statements, no_statements, statements, Arms}
use Rattle.revision_machine.specs.Machine.{Event, Moves}
use Rattle.name_tables.specs.Names.{Name}
use Rattle.typed_programs.specs.Value.{and_then, truth_of, number_of}
use Rattle.revision_calculus.specs.Program.{Setting}
use Rattle.revision_calculus.specs.State.{write_at, Local}
use Rattle.revision_calculus.specs.Evaluation.{eval, evals, set, cell_location}
use Rattle.revision_calculus.specs.Step as step

module _ (s : Setting) (r : Path) (l : Local) where
  -- the value of an expression goes to this left side
  abbrev pub assigns : Name → Expression → Event Local
  assigns name e = step.with_answer r l (eval s l e) (λ x. Moves (set s l name x))

  -- the index is evaluated and tested before the value
  abbrev pub assigns_cell : Name → Expression → Expression → Event Local
  assigns_cell name index e =
      step.with_answer r l (and_then (eval s l index) (λ i. cell_location s name (number_of i)))
      (λ n. step.with_answer r l (eval s l e) (λ x. Moves (record l { locations = write_at l.locations n x })))

  -- the block of the first test that is true is entered, or the last one
  abbrev pub chooses : Arms → Statements → Event Local
  chooses arms last = step.with_answer r l (step.select s l arms last) (λ block. Moves (step.enter block l))

  -- where the test is true the block is entered, and behind it this statement again
  abbrev pub repeats : Statement → Expression → Statements → Event Local
  repeats again test block =
      step.with_answer r l (eval s l test)
      (λ x. Moves (if truth_of x then step.enter block (step.enter (statements again no_statements) l) else l))

  abbrev pub calls : Option Name → Name → Expressions → Event Local
  calls left name args = step.with_answer r l (evals s l args) (step.calls s r l left name)

  abbrev pub forks : Option Name → Name → Expressions → Event Local
  forks left name args = step.with_answer r l (evals s l args) (step.forks s r l left name)

  abbrev pub joins : Option Name → Expression → Event Local
  joins left handle = step.with_answer r l (eval s l handle) (step.joins r l left)

  abbrev pub returns : Expression → Event Local
  returns e = step.with_answer r l (eval s l e) (λ x. Moves (step.end_frame s l l.frames (Some x)))

  abbrev pub prints : List PrintItem → Event Local
  prints items =
      step.with_answer r l (step.item_texts s l items) (λ xs. Moves (record l { text = l.text ++ step.line_of xs }))

  abbrev pub asserts : Expression → Event Local
  asserts test =
      step.with_answer r l (eval s l test) (λ x. if truth_of x then Moves l else step.traps r l cause.Assert)
