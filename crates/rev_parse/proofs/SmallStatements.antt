-- Statements that are parsed have few parts, in their forms.
use Rattle.std.proofs.Common.{◌≡◌, ℕ, ◌+◌, ◌*◌, ◌≤◌, ◌<◌, Bool, true, List, ◌∷◌, Option, Some, None, refl, arith}
use Rattle.std.proofs.lemmas.Bool.{and_from}
use Rattle.std.specs.List.{list_all}
use Rattle.rev_syntax.specs.Trees as t
use Rattle.rev_syntax.specs.Trees.{PlacedName, Expression, RightSide, PrintItem, Statement, Statements, StatementForm, Arms}
use Rattle.rev_syntax.specs.View.{expressions_of, statements_of, arms_of, choice}
use Rattle.rev_syntax.specs.Small.{name_count, expression_count, expressions_count, right_side_count, item_count, items_count, statement_count, statement_form_count, statements_count, arms_count, name_formed, expression_small, expressions_small, right_side_small, item_small, statement_small, statement_form_small, statements_small, arms_small}
use Rattle.rev_syntax.specs.declared.token.Token.{Token}
use Rattle.rev_expressions.specs.Form.{Lang}
use Rattle.rev_syntax.specs.declared.token.Fixed.{Fixed}
use Rattle.rev_syntax.specs.declared.token.Fixed.TheVariants as s
use Rattle.rev_expressions.specs.Classes as class
use Rattle.rev_expressions.specs.Source.{word_of}
use Rattle.rev_expressions.specs.Grammar.{alphabet, Rule, Inner, Value, Arguments, Body, bracketed, expr}
use Rattle.rev_expressions.specs.Statements.{Else, Test, Last, is_last, tests_of, last_of, conditional, block, actual, application, right_side, item, assigned, assignment, arm, else_part, else_parts, stmt, let_form, if_form, while_form, call_form, return_form, fork_form, join_form, print_form, assert_form, statement, statements, body}
use Rattle.rev_parse.specs.Verdicts.{most_levels}
use Rattle.rev_parse.proofs.TextTokens.{proper_name, proper_text, text_length}
use Rattle.rev_parse.proofs.Holds.{Property, Grows, GrowsTo, Within, Holds, Inside, holds_nothing, holds_token, holds_both, holds_either, holds_many, holds_as, holds_any, holds_behind, holds_before, holds_all, holds_listing, holds_within}
use Rattle.rev_parse.proofs.SizeOfValues.{IsSmallName, IsSmallExpression, IsSmallBlock, Has}
use Rattle.rev_parse.proofs.SmallExpressions.{name_small, expression_is_small, holds_place, holds_name, holds_index, holds_expr}

-- ---- the properties

-- an expression, where no more levels are open than may be
pub record IsShallow (n w : ℕ) (x : Expression) : Type 0 where
  pub few : 1 + expression_count x ≤ 3 * w
  pub small : expression_small x ≡ true

record AreShallow (n w : ℕ) (xs : List Expression) : Type 0 where
  few : expressions_count (expressions_of xs) ≤ 3 * w
  small : expressions_small (expressions_of xs) ≡ true

record IsSmallApplication (n w : ℕ) (x : PlacedName × List Expression) : Type 0 where
  few : name_count x.0 + expressions_count (expressions_of x.1) ≤ 3 * w
  formed : name_formed x.0 ≡ true
  small : expressions_small (expressions_of x.1) ≡ true

record IsSmallRightSide (n w : ℕ) (x : RightSide) : Type 0 where
  few : right_side_count x ≤ 3 * w
  small : right_side_small x ≡ true

record IsSmallItem (n w : ℕ) (x : PrintItem) : Type 0 where
  few : item_count x ≤ 3 * w
  small : item_small x ≡ true

record AreSmallItems (n w : ℕ) (xs : List PrintItem) : Type 0 where
  few : items_count xs ≤ 3 * w
  small : list_all item_small xs ≡ true

record IsSmallStatementForm (n w : ℕ) (x : StatementForm) : Type 0 where
  few : statement_form_count x ≤ 3 * w
  small : statement_form_small x ≡ true

record IsSmallStatement (n w : ℕ) (x : Statement) : Type 0 where
  few : statement_count x ≤ 3 * w
  small : statement_small x ≡ true

abbrev AreSmallStatements : Property (List Statement)
AreSmallStatements n w xs = IsSmallBlock n w (statements_of xs)

record IsSmallArm (n w : ℕ) (x : Expression × Statements) : Type 0 where
  few : expression_count x.0 + statements_count x.1 ≤ 3 * w
  test : expression_small x.0 ≡ true
  body : statements_small x.1 ≡ true

abbrev IsSmallElse : Property Else
IsSmallElse n w (Test x) = IsSmallArm n w x
IsSmallElse n w (Last b) = IsSmallBlock n w b

abbrev last_count : Option Statements → ℕ
last_count None = 0
last_count (Some b) = statements_count b

abbrev last_small : Option Statements → Bool
last_small None = true
last_small (Some b) = statements_small b

record AreSmallElses (n w : ℕ) (xs : List Else) : Type 0 where
  few : arms_count (arms_of (tests_of xs)) + last_count (last_of xs) ≤ 3 * w
  tests : arms_small (arms_of (tests_of xs)) ≡ true
  last : last_small (last_of xs) ≡ true

-- what follows a name that begins a statement, at each name
record IsSmallAssignment (n w : ℕ) (f : PlacedName → StatementForm) : Type 0 where
  at_name : (u : ℕ) (x : PlacedName) → IsSmallName n u x
      → (1 + statement_form_count (f x) ≤ 3 * (u + w)) × (statement_form_small (f x) ≡ true)

-- ---- what the parts make

pub shallow : (n w : ℕ) (x : Expression) → n ≤ most_levels → IsSmallExpression 5 n w x → IsShallow n w x
shallow n w x levels h = record { few = h.few; small = expression_is_small n w x levels h }

shallow_inside : (n w : ℕ) (x : Expression) → n ≤ most_levels → Within (IsSmallExpression 5) n w x → IsShallow n w x
shallow_inside n w x levels h =
    record { few = h.inside.few; small = expression_is_small h.below w x (omega arith) h.inside }

items_grow : Grows IsSmallItem AreSmallItems
items_grow n u v x xs levels one more = record { few = omega arith; small = and_from _ _ one.small more.small }

statements_grow : Grows IsSmallStatement AreSmallStatements
statements_grow n u v x xs levels one more = record { few = omega arith; small = and_from _ _ one.small more.small }

elses_grow : GrowsTo is_last IsSmallElse AreSmallElses
elses_grow n u v (Test x) xs levels one more ends =
    record { few = omega arith; tests = and_from _ _ (and_from _ _ one.test one.body) more.tests; last = more.last }
elses_grow n u v (Last b) xs levels one more ends = record { few = omega arith; tests = more.tests; last = one.small }

choice_small : (n w : ℕ) (arms : Arms) (last : Option Statements) → arms_count arms + last_count last ≤ 3 * w
    → arms_small arms ≡ true → last_small last ≡ true → IsSmallStatementForm n w (choice arms last)
choice_small n w arms None few tests last = record { few = omega arith; small = tests }
choice_small n w arms (Some b) few tests last = record { few = few; small = and_from _ _ tests last }

conditional_small : (n u v : ℕ) (first : Expression × Statements) (xs : List Else) → IsSmallArm n u first
    → AreSmallElses n v xs → IsSmallStatementForm n (u + v) (conditional first xs)
conditional_small n u v first xs one more =
    choice_small n (u + v) (arms_of (first ∷ tests_of xs)) (last_of xs) (omega arith)
    (and_from _ _ (and_from _ _ one.test one.body) more.tests) more.last

-- ---- the rules

module _ (bytes : List ℕ) (I : (i : Inner) → Lang alphabet (Value i)) (inside : Inside bytes Has I) where
  pub holds_shallow : Holds bytes I IsShallow (expr bytes)
  holds_shallow = holds_as bytes I (holds_expr bytes I inside) shallow

  holds_shallow_index : Holds bytes I IsShallow bracketed
  holds_shallow_index = holds_as bytes I (holds_index bytes I inside) shallow_inside

  pub holds_block : Holds bytes I IsSmallBlock block
  unfolding block
  holds_block =
      holds_as bytes I (holds_within bytes I {Has = Has} inside (class.fixed s.OpenBrace) Body)
      (λ n w x levels h. record { few = h.inside.few; small = h.inside.small })

  holds_actual : Holds bytes I AreShallow (actual bytes)
  unfolding actual
  holds_actual =
      holds_as bytes I (holds_within bytes I {Has = Has} inside (class.fixed s.OpenParen) Arguments)
      (λ n w x levels h. record { few = h.inside.few; small = h.inside.small })

  holds_application : Holds bytes I IsSmallApplication (application bytes)
  unfolding application
  holds_application = holds_both bytes I (holds_name bytes I) holds_actual
      (λ n u v x args levels word more. record { few = omega arith; formed = word.formed; small = more.small })

  holds_right_side : Holds bytes I IsSmallRightSide (right_side bytes)
  unfolding right_side
  holds_right_side =
      holds_either bytes I (holds_both bytes I (holds_place bytes I) holds_application
      (λ n u v at x levels some h. record { few = omega arith; small = and_from _ _ h.formed h.small }))
      (holds_either bytes I (holds_both bytes I (holds_place bytes I) holds_application
      (λ n u v at x levels some h. record { few = omega arith; small = and_from _ _ h.formed h.small }))
      (holds_either bytes I (holds_both bytes I (holds_place bytes I) holds_shallow
      (λ n u v at x levels some h. record { few = omega arith; small = h.small }))
      (holds_both bytes I holds_shallow (holds_any bytes I)
      (λ n u v x y levels h none. record { few = omega arith; small = h.small }))))

  holds_item : Holds bytes I IsSmallItem (item bytes)
  unfolding item
  holds_item =
      holds_either bytes I (holds_token bytes I
      (λ n w x h e weight.
      let some : x.start < x.end = h.some in
      record { few = omega (arith, text_length bytes x); small = proper_text bytes x h e }))
      (holds_both bytes I holds_shallow (holds_any bytes I)
      (λ n u v x y levels h none. record { few = omega arith; small = h.small }))

  holds_assigned : Holds bytes I IsSmallRightSide (assigned bytes)
  unfolding assigned
  holds_assigned = holds_behind bytes I (holds_before bytes I holds_right_side)

  holds_assignment : Holds bytes I IsSmallAssignment (assignment bytes)
  unfolding assignment
  holds_assignment =
      holds_either bytes I (holds_both bytes I holds_assigned (holds_any bytes I) (λ n u v x y levels h none.
      record { at_name = λ m w word. (let few = word.few in omega arith, and_from _ _ word.formed h.small) }))
      (holds_both bytes I holds_shallow_index (holds_behind bytes I (holds_before bytes I holds_shallow))
      (λ n u v i e levels index h. record {
        at_name = λ m w word.
            (let few = word.few in omega arith, and_from _ _ (and_from _ _ word.formed index.small) h.small);
      }))

  holds_arm : Holds bytes I IsSmallArm (arm bytes)
  unfolding arm
  holds_arm = holds_both bytes I holds_shallow holds_block
      (λ n u v x b levels test body. record { few = omega arith; test = test.small; body = body.small })

  holds_else : Holds bytes I IsSmallElse (else_part bytes)
  unfolding else_part
  holds_else =
      holds_behind bytes I (holds_either bytes I
      (holds_both bytes I (holds_any bytes I) holds_arm
      (λ n u v x a levels none h. record { few = omega arith; test = h.test; body = h.body }))
      (holds_both bytes I holds_block (holds_any bytes I)
      (λ n u v b x levels h none. record { few = omega arith; small = h.small })))

  holds_elses : Holds bytes I AreSmallElses (else_parts bytes)
  unfolding else_parts
  holds_elses =
      holds_many bytes I holds_else (λ n w. record { few = omega arith; tests = refl; last = refl }) elses_grow
      (λ n w xs h. h)

  -- ---- statements

  holds_stmt : {s : Fixed} {F : Rule StatementForm} → Holds bytes I IsSmallStatementForm F
      → Holds bytes I IsSmallStatement (stmt bytes s F)
  holds_stmt h = holds_both bytes I (holds_place bytes I) h
      (λ n u v at x levels some one. record { few = omega arith; small = one.small })

  holds_let : Holds bytes I IsSmallStatementForm (let_form bytes)
  unfolding let_form
  holds_let = holds_both bytes I (holds_name bytes I) holds_assigned
      (λ n u v x r levels word h. record { few = omega arith; small = and_from _ _ word.formed h.small })

  holds_if : Holds bytes I IsSmallStatementForm (if_form bytes)
  unfolding if_form
  holds_if = holds_both bytes I holds_arm holds_elses
      (λ n u v x xs levels one more. conditional_small n u v x xs one more)

  holds_while : Holds bytes I IsSmallStatementForm (while_form bytes)
  unfolding while_form
  holds_while = holds_both bytes I holds_shallow holds_block
      (λ n u v x b levels test body. record { few = omega arith; small = and_from _ _ test.small body.small })

  holds_call : Holds bytes I IsSmallStatementForm (call_form bytes)
  unfolding call_form
  holds_call = holds_both bytes I holds_application (holds_any bytes I)
      (λ n u v x y levels h none. record { few = omega arith; small = and_from _ _ h.formed h.small })

  holds_return : Holds bytes I IsSmallStatementForm (return_form bytes)
  unfolding return_form
  holds_return =
      holds_both bytes I (holds_either bytes I
      (holds_both bytes I {R = λ n w e. IsSmallStatementForm n w (t.return e)} holds_shallow (holds_any bytes I)
      (λ n u v x y levels h none. record { few = omega arith; small = h.small }))
      (holds_nothing bytes I (λ n w. record { few = omega arith; small = refl })))
      (holds_any bytes I) (λ n u v e y levels h none.
      record { few = let few : statement_form_count (t.return e) ≤ 3 * u = h.few in omega arith; small = h.small })

  holds_fork : Holds bytes I IsSmallStatementForm (fork_form bytes)
  unfolding fork_form
  holds_fork = holds_both bytes I holds_application (holds_any bytes I)
      (λ n u v x y levels h none. record { few = omega arith; small = and_from _ _ h.formed h.small })

  holds_join : Holds bytes I IsSmallStatementForm (join_form bytes)
  unfolding join_form
  holds_join = holds_both bytes I holds_shallow (holds_any bytes I)
      (λ n u v x y levels h none. record { few = omega arith; small = h.small })

  holds_print : Holds bytes I IsSmallStatementForm (print_form bytes)
  unfolding print_form
  holds_print =
      holds_both bytes I
      (holds_listing bytes I holds_item (λ n w. record { few = omega arith; small = refl }) items_grow)
      (holds_any bytes I) (λ n u v xs y levels h none. record { few = omega arith; small = h.small })

  holds_assert : Holds bytes I IsSmallStatementForm (assert_form bytes)
  unfolding assert_form
  holds_assert = holds_both bytes I holds_shallow (holds_any bytes I)
      (λ n u v x y levels h none. record { few = omega arith; small = h.small })

  -- a token that is a name
  abbrev IsNamed : Property Token
  IsNamed n w x = IsSmallName n w (word_of bytes x)

  holds_statement : Holds bytes I IsSmallStatement (statement bytes)
  unfolding statement
  holds_statement =
      holds_either bytes I (holds_stmt holds_let)
      (holds_either bytes I (holds_both bytes I {P = IsNamed}
      (holds_token bytes I (λ n w x h e weight. name_small bytes n w x h (proper_name bytes x h e) weight))
      holds_assignment
      (λ n u v x f levels word h. let r = h.at_name u (word_of bytes x) word in record { few = r.0; small = r.1 }))
      (holds_either bytes I (holds_stmt holds_if)
      (holds_either bytes I (holds_stmt holds_while)
      (holds_either bytes I (holds_stmt holds_call)
      (holds_either bytes I (holds_stmt holds_return)
      (holds_either bytes I (holds_stmt holds_fork)
      (holds_either bytes I (holds_stmt holds_join)
      (holds_either bytes I (holds_stmt holds_print)
      (holds_stmt holds_assert)))))))))

  holds_statements : Holds bytes I AreSmallStatements (statements bytes)
  unfolding statements
  holds_statements =
      holds_all bytes I holds_statement (λ n w. record { few = omega arith; small = refl }) statements_grow

  pub holds_body : Holds bytes I IsSmallBlock (body bytes)
  unfolding body
  holds_body = holds_both bytes I holds_statements (holds_any bytes I)
      (λ n u v xs x levels h none. record { few = omega arith; small = h.small })
