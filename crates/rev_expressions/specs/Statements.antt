-- The grammar of statements.
use Rattle.std.specs.Prelude.{ℕ, Bool, true, false, List, [], ◌∷◌, Option, Some, None}
use Rattle.rev_syntax.specs.Trees as t
use Rattle.rev_syntax.specs.Trees.{PlacedName, Expression, RightSide, PrintItem, Statement, Statements, StatementForm}
use Rattle.rev_syntax.specs.View.{expressions_of, statements_of, arms_of, choice}
use Rattle.rev_expressions.specs.Form.{nothing, token, level, both, either, many}
use Rattle.rev_syntax.specs.declared.token.Fixed.TheVariants as s
use Rattle.rev_syntax.specs.declared.token.Fixed.{Fixed}
use Rattle.rev_expressions.specs.Source.{word_of, text_of}
use Rattle.rev_syntax.specs.Places.{line_of}
use Rattle.rev_expressions.specs.Grammar.{Rule, Arguments, Body, sign, place, behind, before, all, listing, bracketed, name, expr}
use Rattle.rev_expressions.specs.Classes as class

-- ---- values

-- what stands behind an `else`: a further test with its block, or the last block
pub data Else : Type 0 where
  Test : Expression × Statements → Else
  Last : Statements → Else

abbrev pub is_last : Else → Bool
is_last (Test a) = false
is_last (Last b) = true

-- the tests behind the first, and the last block
abbrev pub tests_of : List Else → List (Expression × Statements)
tests_of [] = []
tests_of (Test a ∷ rest) = a ∷ tests_of rest
tests_of (Last b ∷ rest) = tests_of rest

abbrev pub last_of : List Else → Option Statements
last_of [] = None
last_of (Test a ∷ rest) = last_of rest
last_of (Last b ∷ rest) = Some b

abbrev pub conditional : Expression × Statements → List Else → StatementForm
conditional first rest = choice (arms_of (first ∷ tests_of rest)) (last_of rest)

-- ---- the grammar

-- a block in braces
unfoldable pub block : Rule Statements
block = level (class.fixed s.OpenBrace) Body (λ x b. b)

module _ (bytes : List ℕ) where
  unfoldable pub actual : Rule (List Expression)
  actual = level (class.fixed s.OpenParen) Arguments (λ x args. args)

  -- NAME "(" [ args ] ")"
  unfoldable pub application : Rule (PlacedName × List Expression)
  application = both (λ w args. (w, args)) (name bytes) actual

  -- expr | "call" application | "rfork" application | "tryjoin" expr
  unfoldable pub right_side : Rule RightSide
  right_side =
      either (both {B = PlacedName × List Expression} (λ at a. t.called at a.0 (expressions_of a.1)) (place s.Call)
      application)
      (either (both {B = PlacedName × List Expression} (λ at a. t.forked at a.0 (expressions_of a.1)) (place s.Fork)
      application)
      (either (both (λ at e. t.tried at e) (place s.TryJoin) (expr bytes))
      (both (λ e x. t.plain e) (expr bytes) (nothing {A = Unit {0}} tt))))

  -- TEXT | expr
  unfoldable pub item : Rule PrintItem
  item =
      either (token class.text (λ x. t.text x.start (text_of bytes x)))
      (both (λ e x. t.shown e) (expr bytes) (nothing {A = Unit {0}} tt))

  -- "=" rhs ";"
  unfoldable pub assigned : Rule RightSide
  assigned = behind s.Assign (before right_side s.Semicolon)

  -- what follows a name that begins a statement: "=" rhs ";" | "[" expr "]" "=" expr ";"
  unfoldable pub assignment : Rule (PlacedName → StatementForm)
  assignment =
      either (both (λ r x w. t.assign w r) assigned (nothing {A = Unit {0}} tt))
      (both (λ i e w. t.assign_cell w i e) bracketed (behind s.Assign (before (expr bytes) s.Semicolon)))

  -- a test and its block
  unfoldable pub arm : Rule (Expression × Statements)
  arm = both (λ e b. (e, b)) (expr bytes) block

  -- "if" expr block | block
  abbrev pub else_choice : Rule Else
  else_choice =
      either (both (λ x a. Test a) (sign s.If) arm) (both (λ b x. Last b) block (nothing {A = Unit {0}} tt))

  -- "else" ( "if" expr block | block )
  unfoldable pub else_part : Rule Else
  else_part = behind s.Else else_choice

  -- { "else" "if" expr block } [ "else" block ]
  unfoldable pub else_parts : Rule (List Else)
  else_parts = many (λ xs. xs) is_last else_part

  -- a form behind its first word, with the place and the line of that word
  abbrev pub stmt : Fixed → Rule StatementForm → Rule Statement
  stmt s F = both (λ at a. t.statement at (line_of bytes at) a) (place s) F

  -- "let" NAME "=" rhs ";"
  unfoldable pub let_form : Rule StatementForm
  let_form = both (λ w r. t.bind w r) (name bytes) assigned

  -- "if" expr block { "else" "if" expr block } [ "else" block ]
  unfoldable pub if_form : Rule StatementForm
  if_form = both conditional arm else_parts

  -- "while" expr block
  unfoldable pub while_form : Rule StatementForm
  while_form = both (λ e b. t.repeat e b) (expr bytes) block

  -- "call" application ";"
  unfoldable pub call_form : Rule StatementForm
  call_form = both {A = PlacedName × List Expression} (λ a x. t.call a.0 (expressions_of a.1)) application
      (sign s.Semicolon)

  -- "return" [ expr ] ";"
  unfoldable pub return_form : Rule StatementForm
  return_form =
      both (λ e x. t.return e) (either (both (λ e x. Some e) (expr bytes) (nothing {A = Unit {0}} tt)) (nothing None))
      (sign s.Semicolon)

  -- "rfork" application ";"
  unfoldable pub fork_form : Rule StatementForm
  fork_form = both {A = PlacedName × List Expression} (λ a x. t.fork a.0 (expressions_of a.1)) application
      (sign s.Semicolon)

  -- "rjoin" expr ";"
  unfoldable pub join_form : Rule StatementForm
  join_form = both (λ e x. t.join e) (expr bytes) (sign s.Semicolon)

  -- "print" [ item { "," item } ] ";"
  unfoldable pub print_form : Rule StatementForm
  print_form = both (λ is x. t.print is) (listing item) (sign s.Semicolon)

  -- "assert" expr ";"
  unfoldable pub assert_form : Rule StatementForm
  assert_form = both (λ e x. t.assert e) (expr bytes) (sign s.Semicolon)

  unfoldable pub statement : Rule Statement
  statement =
      either (stmt s.Let let_form)
      (either (both (λ x f. t.statement x.start (line_of bytes x.start) (f (word_of bytes x)))
      (token class.name (λ x. x)) assignment)
      (either (stmt s.If if_form)
      (either (stmt s.While while_form)
      (either (stmt s.Call call_form)
      (either (stmt s.Return return_form)
      (either (stmt s.Fork fork_form)
      (either (stmt s.Join join_form)
      (either (stmt s.Print print_form)
      (stmt s.Assert assert_form)))))))))

  -- { stmt }
  unfoldable pub statements : Rule (List Statement)
  statements = all statement

  -- the statements of a block, up to its closing sign
  unfoldable pub body : Rule Statements
  body = both (λ xs x. statements_of xs) statements (sign s.CloseBrace)
