-- What the functions of statements answer in parts.
use Rattle.std.specs.Prelude.{ℕ, List, [], ◌∷◌, ◌++◌, map, Option, Some, None, Bool}
use Rattle.rev_syntax.specs.Trees.{PlacedName, Expression, Statements, StatementForm, Statement, statement as placed_statement}
use Rattle.rev_syntax.specs.View.{arms_of, choice}
use Rattle.rev_syntax.specs.declared.token.Token.{Token}
use Rattle.rev_syntax.specs.declared.token.TokenKind.{TokenKind}
use Rattle.rev_syntax.specs.declared.token.TokenKind.TheVariants as k
use Rattle.rev_expressions.specs.Outcome.{Outcome, Parser, Read, Failed, Unexpected, and_then, after}
use Rattle.rev_expressions.specs.Reader.{begins, repeat}
use Rattle.rev_expressions.specs.Grammar.{alphabet}
use Rattle.rev_syntax.specs.Places.{line_of}
use Rattle.rev_expressions.specs.Statements.{Else, Test, Last, is_last, tests_of, last_of, else_part, let_form, if_form, while_form, call_form, return_form, fork_form, join_form, print_form, assert_form, assignment, statement, item}
use Rattle.rev_expressions.specs.Source.{word_of}
use Rattle.rev_expressions.specs.Parse.{parse}
use Rattle.rev_syntax.specs.declared.token.Fixed.TheVariants as s

-- the parts behind the first test: further tests, and the last block if there is one
abbrev pub with_last : List (Expression × Statements) → Option Statements → List Else
with_last arms None = map Test arms
with_last arms (Some b) = map Test arms ++ Last b ∷ []

-- an `if` of these tests and this last block
abbrev pub conditional_of : List Else → StatementForm
conditional_of xs = choice (arms_of (tests_of xs)) (last_of xs)

-- the parts still to be read, at most so many
abbrev pub more_parts : List ℕ → ℕ → ℕ → List Else → Parser Token (List Else)
more_parts bytes n = repeat alphabet (parse bytes n (else_part bytes)) is_last (begins alphabet (else_part bytes))

-- what follows a name that begins a statement, at that name
abbrev pub statement_form_of_name : PlacedName → Outcome Token (PlacedName → StatementForm)
    → Outcome Token StatementForm
statement_form_of_name w o = and_then o (λ f rest. Read (f w) rest)

-- a form behind its first word
abbrev pub stmt_at : List ℕ → ℕ → Outcome Token StatementForm → Outcome Token Statement
stmt_at bytes at o = and_then o (λ a rest. Read (placed_statement at (line_of bytes at) a) rest)

abbrev pub flat_form_of : List ℕ → ℕ → Token → TokenKind → List Token → Outcome Token StatementForm
flat_form_of bytes n t (k.Fixed s.Call) ts = parse bytes n (call_form bytes) (after ts)
flat_form_of bytes n t (k.Fixed s.Return) ts = parse bytes n (return_form bytes) (after ts)
flat_form_of bytes n t (k.Fixed s.Fork) ts = parse bytes n (fork_form bytes) (after ts)
flat_form_of bytes n t (k.Fixed s.Join) ts = parse bytes n (join_form bytes) (after ts)
flat_form_of bytes n t (k.Fixed s.Print) ts = parse bytes n (print_form bytes) (after ts)
flat_form_of bytes n t (k.Fixed s.Assert) ts = parse bytes n (assert_form bytes) (after ts)
flat_form_of bytes n t _ ts = Failed Unexpected ts

abbrev pub form_of : List ℕ → ℕ → Token → TokenKind → List Token → Outcome Token StatementForm
form_of bytes n t (k.Fixed s.Let) ts = parse bytes n (let_form bytes) (after ts)
form_of bytes n t k.Name ts = statement_form_of_name (word_of bytes t) (parse bytes n (assignment bytes) (after ts))
form_of bytes n t (k.Fixed s.If) ts = parse bytes n (if_form bytes) (after ts)
form_of bytes n t (k.Fixed s.While) ts = parse bytes n (while_form bytes) (after ts)
form_of bytes n t kd ts = flat_form_of bytes n t kd ts

-- whether a statement comes, and an item, which no bytes of the text decide
abbrev pub statement_begins : List Token → Bool
statement_begins ts = begins alphabet (statement []) ts

abbrev pub item_begins : List Token → Bool
item_begins ts = begins alphabet (item []) ts

-- what a first token begins, where it begins a form with no block
abbrev pub flat_form_behind : List ℕ → ℕ → Token → List Token → Outcome Token StatementForm
flat_form_behind bytes n t ts = flat_form_of bytes n t t.kind ts

-- what a first token begins
abbrev pub form_behind : List ℕ → ℕ → Token → List Token → Outcome Token StatementForm
form_behind bytes n t ts = form_of bytes n t t.kind ts
