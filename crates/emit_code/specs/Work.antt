-- What is left to do while the code of an expression is written: what comes of the code that stands.
--   done      by a task
--   done_all  by the tasks that come of one
--   behind    by tasks, of which the last comes first
use Rattle.std.specs.Prelude.{ℕ, ◌+◌, ◌-◌, ◌*◌, Bool, true, false, List, [], ◌∷◌, ◌++◌, length, slice_set}
use Rattle.rev_syntax.specs.Trees.{Expression, Expressions, Links}
use Rattle.rev_syntax.specs.View as view
use Rattle.rev_syntax.specs.Small.{expression_count, expressions_count, links_count}
use Rattle.rev_syntax.specs.declared.tree.BinaryOp.{BinaryOp}
use Rattle.rev_syntax.specs.declared.tree.BinaryOp.TheVariants as b
use Rattle.rev_code.specs.declared.code.Instr.{Instr}
use Rattle.rev_code.specs.declared.code.Instr.TheVariants as i
use Rattle.code_generation.specs.Numbers.{Numbers, Scope}
use Rattle.code_generation.specs.Expressions.{expression_code, expressions_code, links_code}
use Rattle.emit_code.specs.declared.operators.Way.{Way}
use Rattle.emit_code.specs.declared.operators.Way.TheVariants as way
use Rattle.emit_code.specs.declared.task.Task.{Task}
use Rattle.emit_code.specs.declared.task.Task.TheVariants as t
use Rattle.emit_code.specs.declared.task.Steps.{Steps}
use Rattle.emit_code.specs.declared.task.Steps.TheVariants as steps

-- ---- operators

abbrev pub way_of : BinaryOp → Way
way_of b.And = way.Decided false
way_of b.Or = way.Decided true
way_of b.Add = way.Works i.Add
way_of b.Sub = way.Works i.Sub
way_of b.Mul = way.Works i.Mul
way_of b.Div = way.Works i.Div
way_of b.Rem = way.Works i.Rem
way_of b.Eq = way.Works i.Eq
way_of b.Ne = way.Works i.Ne
way_of b.Lt = way.Works i.Lt
way_of b.Le = way.Works i.Le
way_of b.Gt = way.Works i.Gt
way_of b.Ge = way.Works i.Ge

-- the jump that is taken where a left operand has this value
abbrev pub deciding : Bool → ℕ → Instr
deciding false to = i.JumpIfFalse to
deciding true to = i.JumpIfTrue to

-- ---- what comes of code

module _ (n : Numbers) (scope : Scope) where
  unfoldable pub whole : Expression → List Instr → List Instr
  whole e code = code ++ expression_code n scope e (length code)

  unfoldable pub arguments : Expressions → List Instr → List Instr
  arguments es code = code ++ expressions_code n scope es (length code)

  unfoldable pub linked : Links → List Instr → List Instr
  linked ls code = code ++ links_code n scope ls (length code)

  -- behind the second part of a `pick`, whose test has its jump at this place
  unfoldable pub otherwise : (test : ℕ) → Expression → List Instr → List Instr
  otherwise test y code =
      let all = whole y (slice_set (code ++ i.Jump 0 ∷ []) test (i.JumpIfFalse (length code + 1))) in
      slice_set all (length code) (i.Jump (length all))

  -- behind a right operand that is left out where the left one has this value, with the jump over it at this place
  unfoldable pub decided : (test : ℕ) → (by : Bool) → List Instr → List Instr
  decided test by code =
      slice_set (code ++ i.Jump (length code + 2) ∷ i.PushBool by ∷ []) test (deciding by (length code + 1))

  abbrev pub done : Task → List Instr → List Instr
  done (t.Whole e) code = whole (view.expression e.now) code
  done (t.Arguments es) code = arguments (view.expressions es.now) code
  done (t.Links ls) code = linked (view.links ls.now) code
  done (t.Put x) code = code ++ x ∷ []
  done (t.Operate by rest) code = linked (view.links rest.now) (code ++ by ∷ [])
  done (t.Choose x y) code =
      otherwise (length code) (view.expression y.now) (whole (view.expression x.now) (code ++ i.JumpIfFalse 0 ∷ []))
  done (t.Otherwise test y) code = otherwise test (view.expression y.now) code
  done (t.Decided test by rest) code = linked (view.links rest.now) (decided test by code)
  done (t.Land at) code = slice_set code at (i.Jump (length code))

  abbrev pub done_all : Steps → List Instr → List Instr
  done_all steps.Nothing code = code
  done_all (steps.One first) code = done first code
  done_all (steps.Two first then') code = done then' (done first code)

  unfoldable pub behind : List Task → List Instr → List Instr
  behind [] code = code
  behind (task ∷ tasks) code = done task (behind tasks code)

abbrev pub with_steps : List Task → Steps → List Task
with_steps tasks steps.Nothing = tasks
with_steps tasks (steps.One first) = tasks ++ first ∷ []
with_steps tasks (steps.Two first then') = tasks ++ then' ∷ [] ++ first ∷ []

-- ---- how much is left

abbrev pub whole_size : Expression → ℕ
whole_size e = 4 * expression_count e - 1

abbrev pub arguments_size : Expressions → ℕ
arguments_size es = 4 * expressions_count es + 1

abbrev pub links_left : Links → ℕ
links_left ls = 4 * links_count ls + 1

abbrev pub task_size : Task → ℕ
task_size (t.Whole e) = whole_size (view.expression e.now)
task_size (t.Arguments es) = arguments_size (view.expressions es.now)
task_size (t.Links ls) = links_left (view.links ls.now)
task_size (t.Put x) = 1
task_size (t.Operate by rest) = 1 + links_left (view.links rest.now)
task_size (t.Choose x y) = whole_size (view.expression x.now) + whole_size (view.expression y.now) + 3
task_size (t.Otherwise test y) = whole_size (view.expression y.now) + 2
task_size (t.Decided test by rest) = 1 + links_left (view.links rest.now)
task_size (t.Land at) = 1

abbrev pub steps_size : Steps → ℕ
steps_size steps.Nothing = 0
steps_size (steps.One first) = task_size first
steps_size (steps.Two first then') = task_size first + task_size then'

unfoldable pub left : List Task → ℕ
left [] = 0
left (task ∷ tasks) = task_size task + left tasks
