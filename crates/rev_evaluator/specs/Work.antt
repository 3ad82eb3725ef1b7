-- What is left to do while an expression is evaluated, and to what value it comes.
use Rattle.std.specs.Prelude.{ℕ, ◌+◌, ◌-◌, ◌*◌, List, [], ◌∷◌, ◌++◌, map, reverse, take, drop, length, Option, Some, None, if◌then◌else◌, Result, Ok, Err}
use Rattle.rev_num.specs.declared.value.Value.{Value}
use Rattle.rev_num.specs.declared.outcome.Cause.{Cause}
use Rattle.rev_syntax.specs.Small.{expression_count, expressions_count, links_count}
use Rattle.rev_syntax.specs.Trees as t
use Rattle.rev_syntax.specs.Trees.{Expressions, ExpressionForm, Links}
use Rattle.rev_syntax.specs.View.{expression, expressions, links}
use Rattle.name_tables.specs.Names.{Name}
use Rattle.name_tables.specs.Table.{Table, find}
use Rattle.typed_programs.specs.Weights.{known_weight, expression_weight, expressions_weight, links_weight}
use Rattle.typed_programs.specs.Value.{Answer, Env, and_then, called, values_by, read_cell, read_input, number_of, truth_of, reversed, operated}
use Rattle.typed_programs.specs.Evaluation.{funs_before, value_within, chained_within}
use Rattle.rev_syntax.specs.Trees.{Declaration}
use Rattle.rev_evaluator.specs.Seen.{seen}
use Rattle.rev_evaluator.specs.declared.seen.Seen.{Seen}
use Rattle.rev_evaluator.specs.declared.work.Pending.{Pending}
use Rattle.rev_evaluator.specs.declared.work.Pending.TheVariants as wait
use Rattle.rev_evaluator.specs.declared.work.Next.{Next}
use Rattle.rev_evaluator.specs.declared.work.Next.TheVariants as next
use Rattle.rev_evaluator.specs.declared.work.Call.{Call}
use Rattle.rev_evaluator.specs.declared.work.Turn.{Turn}
use Rattle.std.specs.Borrow.{Bor}
use Rattle.rev_syntax.specs.declared.tree.Expr.{Expr}

-- the last k elements, and those before them
abbrev pub lasts : {A : Type 0} → ℕ → List A → List A
lasts k xs = drop (length xs - k) xs

abbrev pub without : {A : Type 0} → ℕ → List A → List A
without k xs = take (length xs - k) xs

-- the first of these that wait, the last of them first, and with one more
abbrev pub waiting : List Pending → ℕ → List Pending
waiting ps depth = reverse (take depth ps)

abbrev pub waits : Option Pending → List Pending → List Pending
waits (Some p) ps = p ∷ ps
waits None ps = ps

-- the first of these values, and with one more
abbrev pub kept : List Seen → ℕ → List Value
kept xs held = map seen (take held xs)

abbrev pub keeps : Option Seen → List Value → List Value
keeps (Some x) vs = vs ++ seen x ∷ []
keeps None vs = vs

abbrev pub passed : Option Seen → List Value
passed (Some x) = seen x ∷ []
passed None = []

abbrev pub value_turn : Seen → Turn
value_turn x = record { keep = None; wait = None; next = next.Value x }

abbrev pub part_turn : Pending → Bor Expr → Turn
part_turn p e = record { keep = None; wait = Some p; next = next.Part e }

abbrev pub call_turn : Call → Turn
call_turn c = record { keep = None; wait = None; next = next.Call c }

-- the values that are kept behind a part
abbrev pub kept_behind : Pending → List Value → List Value
kept_behind (wait.Argument name before rest) vs = without before vs
kept_behind p vs = vs

module _ (es : List Declaration) (n : ℕ) (env : Env) where
  -- the value of an application whose first arguments have these values, and whose other
  -- arguments are evaluated
  unfoldable pub application : Name → List Value → Expressions → Answer
  application name xs rest =
      and_then (values_by (funs_before es n) env rest)
      (λ ys. called (funs_before es n name) (xs ++ ys))

  -- what comes of the value of a part, where these values of arguments are kept
  unfoldable pub continued : Pending → List Value → Value → Answer
  continued (wait.Cell name) vs x = read_cell (env.shared name.now.text.items) (number_of x)
  continued wait.Input vs x = read_input env.inputs (number_of x)
  continued (wait.Unary op) vs x = reversed op x
  continued (wait.Pick first second) vs x =
      if truth_of x then value_within es n env (expression first.now)
      else value_within es n env (expression second.now)
  continued (wait.Left rest) vs x = chained_within es n env x (links rest.now)
  continued (wait.Right op left rest) vs x =
      and_then (operated op (seen left) x) (λ z. chained_within es n env z (links rest.now))
  continued (wait.Argument name before rest) vs x =
      application name.now.text.items (lasts before vs ++ x ∷ []) (expressions rest.now)

  -- what the parts that wait make of a value or a fault
  unfoldable pub ended : List Pending → List Value → Answer → Answer
  ended [] vs a = a
  ended (p ∷ ps) vs a = ended ps (kept_behind p vs) (and_then a (continued p vs))

  -- to what all the rest comes
  unfoldable pub comes_to : List Pending → List Value → Next → Answer
  comes_to ps vs (next.Part e) = ended ps vs (value_within es n env (expression e.now))
  comes_to ps vs (next.Value x) = ended ps vs (Ok (seen x))
  comes_to ps vs (next.Call c) =
      ended ps (without c.before vs)
      (application c.name.now.text.items (lasts c.before vs ++ passed c.value)
      (expressions c.rest.now))

  -- after a turn
  abbrev pub after : List Pending → List Value → Turn → Answer
  after ps vs t = comes_to (waits t.wait ps) (keeps t.keep vs) t.next

  abbrev pub goes_on : List Pending → List Value → Result Turn Cause → Answer
  goes_on ps vs (Ok t) = after ps vs t
  goes_on ps vs (Err c) = Err c

-- ---- how much is left

abbrev pub pending_size : Pending → ℕ
pending_size (wait.Cell name) = 1
pending_size wait.Input = 1
pending_size (wait.Unary op) = 1
pending_size (wait.Pick first second) =
    1 + 3 * (expression_count (expression first.now) + expression_count (expression second.now))
pending_size (wait.Left rest) = 1 + 3 * links_count (links rest.now)
pending_size (wait.Right op left rest) = 2 + 3 * links_count (links rest.now)
pending_size (wait.Argument name before rest) = 2 + 3 * expressions_count (expressions rest.now)

abbrev pub wait_size : Option Pending → ℕ
wait_size (Some p) = pending_size p
wait_size None = 0

abbrev pub next_size : Next → ℕ
next_size (next.Part e) = 3 * expression_count (expression e.now)
next_size (next.Value x) = 1
next_size (next.Call c) = 2 + 3 * expressions_count (expressions c.rest.now)

abbrev pub turn_size : Turn → ℕ
turn_size t = wait_size t.wait + next_size t.next

unfoldable pub remains : List Pending → ℕ
remains [] = 0
remains (p ∷ ps) = pending_size p + remains ps

-- ---- how much it may cost

module _ (ws : Table ℕ) where
  abbrev pub pending_weight : Pending → ℕ
  pending_weight (wait.Cell name) = 0
  pending_weight wait.Input = 0
  pending_weight (wait.Unary op) = 0
  pending_weight (wait.Pick first second) =
      expression_weight ws (expression first.now) + expression_weight ws (expression second.now)
  pending_weight (wait.Left rest) = links_weight ws (links rest.now)
  pending_weight (wait.Right op left rest) = links_weight ws (links rest.now)
  pending_weight (wait.Argument name before rest) =
      known_weight (find name.now.text.items ws) + expressions_weight ws (expressions rest.now)

  abbrev pub wait_weight : Option Pending → ℕ
  wait_weight (Some p) = pending_weight p
  wait_weight None = 0

  abbrev pub next_weight : Next → ℕ
  next_weight (next.Part e) = expression_weight ws (expression e.now)
  next_weight (next.Value x) = 0
  next_weight (next.Call c) =
      known_weight (find c.name.now.text.items ws) + expressions_weight ws (expressions c.rest.now)

  abbrev pub turn_weight : Turn → ℕ
  turn_weight t = wait_weight t.wait + next_weight t.next

  unfoldable pub waiting_weight : List Pending → ℕ
  waiting_weight [] = 0
  waiting_weight (p ∷ ps) = pending_weight p + waiting_weight ps

-- a part counts 1 where it is begun; a chain counts where a link is
abbrev pub part_cost : ExpressionForm → ℕ
part_cost (t.chain first rest) = 0
part_cost s = 1

abbrev pub link_cost : Links → ℕ
link_cost t.no_links = 0
link_cost (t.link op part rest) = 1

abbrev pub pending_cost : Pending → ℕ
pending_cost (wait.Left rest) = link_cost (links rest.now)
pending_cost p = 0
