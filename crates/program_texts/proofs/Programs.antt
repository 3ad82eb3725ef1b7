-- Programs that are parsed: the line of a statement is one of the text, and what is printed is of printable bytes.
use Rattle.std.proofs.Common.{◌≡◌, ℕ, zero, suc, ◌+◌, ◌<◌, ◌≤◌, ◌^◌, true, List, [], ◌∷◌, length, take, Option, Some, None, arith}
use Rattle.std.proofs.lemmas.List.{length-take}
use Rattle.std.proofs.lemmas.List.Sums.{count_by-le-length}
use Rattle.std.specs.Prelude.{◌==◌}
use Rattle.std.specs.List.{AllByRecursion}
use Rattle.rev_syntax.specs.Places.{line_of}
use Rattle.rev_syntax.specs.Trees.{PlacedName, Expression, RightSide, PrintItem, Statement, Statements, StatementForm, Arms, Declaration, ProgramTree}
use Rattle.rev_syntax.specs.View.{expressions_of, statements_of, arms_of, choice}
use Rattle.rev_syntax.specs.declared.token.Fixed.{Fixed}
use Rattle.rev_syntax.specs.declared.token.Fixed.TheVariants as s
use Rattle.rev_syntax.specs.declared.token.Token.{Token}
use Rattle.rev_expressions.specs.Form.{Lang, Nested, AnyNested}
use Rattle.rev_expressions.specs.Classes as class
use Rattle.rev_expressions.specs.Grammar.{alphabet, Rule, Inner, Value, Operand, Parens, Index, Arguments, Parts, Body, Params, Names, Cells}
use Rattle.rev_expressions.specs.Statements.{Else, Test, Last, is_last, tests_of, last_of, block, actual, application, right_side, item, assigned, assignment, arm, else_part, else_parts, stmt, let_form, if_form, while_form, call_form, return_form, fork_form, join_form, print_form, assert_form, statement, statements, body}
use Rattle.rev_expressions.specs.Declarations.{meaning, fun_form, merge_form, versioned_form, cumulative_form, proc_form, declaration, declarations, program, inner}
use Rattle.rev_parse.specs.SmallTree.{most_bytes}
use Rattle.rev_parse.proofs.TextTokens.{spans, proper_text, text_tokens}
use Rattle.rev_parse.proofs.Holds.{Property, Any, Weighs, Holds, Inside, holds_nothing, holds_token, holds_both, holds_either, holds_many, holds_as, holds_any, holds_behind, holds_before, holds_all, holds_listing, holds_within}
use Rattle.program_texts.specs.Forms.{TextsAreWritten}
use Rattle.program_texts.specs.Written.{ExpressionWritten, ExpressionsWritten, RightSideWritten, ItemWritten, ReturnWritten, StatementWritten, StatementFormWritten, StatementsWritten, ArmsWritten, DeclarationWritten, IsWritten}
use Rattle.program_texts.proofs.Expressions.{IsWrittenExpression, AreWrittenArguments, IsWrittenBlock, Has, holds_index, holds_unary, holds_expr, holds_parens, holds_inner_index, holds_arguments, holds_parts}

-- ---- lines

-- a text that is not too long has few lines
line_small : (bytes : List ℕ) → length bytes ≤ most_bytes → (at : ℕ) → line_of bytes at < 2 ^ 32
line_small bytes size at =
    let few = count_by-le-length (λ b. b == 10) (take at bytes) in
    let less = length-take at bytes in
    omega (arith, few, less, size)

-- ---- the properties

abbrev IsWrittenApplication : Property (PlacedName × List Expression)
IsWrittenApplication n w x = ExpressionsWritten (expressions_of x.1)

abbrev IsWrittenRightSide : Property RightSide
IsWrittenRightSide n w x = RightSideWritten x

abbrev IsWrittenItem : Property PrintItem
IsWrittenItem n w x = ItemWritten x

abbrev AreWrittenItems : Property (List PrintItem)
AreWrittenItems n w xs = AllByRecursion ItemWritten xs

abbrev IsWrittenForm : Property StatementForm
IsWrittenForm n w x = StatementFormWritten x

abbrev IsWrittenStatement : Property Statement
IsWrittenStatement n w x = StatementWritten x

abbrev AreWrittenStatements : Property (List Statement)
AreWrittenStatements n w xs = StatementsWritten (statements_of xs)

abbrev IsWrittenArm : Property (Expression × Statements)
IsWrittenArm n w x = ExpressionWritten x.0 × StatementsWritten x.1

abbrev IsWrittenElse : Property Else
IsWrittenElse n w (Test x) = IsWrittenArm n w x
IsWrittenElse n w (Last b) = StatementsWritten b

abbrev LastWritten : Option Statements → Type 0
LastWritten None = Unit {0}
LastWritten (Some b) = StatementsWritten b

record AreWrittenElses (n w : ℕ) (xs : List Else) : Type 0 where
  tests : ArmsWritten (arms_of (tests_of xs))
  last : LastWritten (last_of xs)

abbrev IsWrittenReturn : Property (Option Expression)
IsWrittenReturn n w x = ReturnWritten x

-- what follows a name that begins a statement, at each name
record IsWrittenAssignment (n w : ℕ) (f : PlacedName → StatementForm) : Type 0 where
  at_name : (x : PlacedName) → StatementFormWritten (f x)

abbrev IsWrittenDeclaration : Property Declaration
IsWrittenDeclaration n w x = DeclarationWritten x

abbrev AreWrittenDeclarations : Property (List Declaration)
AreWrittenDeclarations n w xs = AllByRecursion DeclarationWritten xs

abbrev IsWrittenProgram : Property ProgramTree
IsWrittenProgram n w x = IsWritten x

-- ---- what the parts make

-- the most levels that may be open at once
abbrev most_levels : ℕ
most_levels = 200

elses_grow : (n u v : ℕ) (x : Else) (xs : List Else) → n ≤ most_levels → IsWrittenElse n u x → AreWrittenElses n v xs
    → (is_last x ≡ true → xs ≡ []) → AreWrittenElses n (u + v) (x ∷ xs)
elses_grow n u v (Test x) xs levels one more ends = record { tests = (one.0, one.1, more.tests); last = more.last }
elses_grow n u v (Last b) xs levels one more ends = record { tests = more.tests; last = one }

choice_written : (arms : Arms) (last : Option Statements) → ArmsWritten arms → LastWritten last
    → StatementFormWritten (choice arms last)
choice_written arms None tests last = tests
choice_written arms (Some b) tests last = (tests, last)

-- ---- the rules

module _ (bytes : List ℕ) (size : length bytes ≤ most_bytes) (I : (i : Inner) → Lang alphabet (Value i))
    (inside : Inside bytes Has I) where
  holds_block : Holds bytes I IsWrittenBlock block
  unfolding block
  holds_block =
      holds_as bytes I (holds_within bytes I {Has = Has} inside (class.fixed s.OpenBrace) Body)
      (λ n w x levels h. h.inside)

  holds_actual : Holds bytes I AreWrittenArguments (actual bytes)
  unfolding actual
  holds_actual =
      holds_as bytes I (holds_within bytes I {Has = Has} inside (class.fixed s.OpenParen) Arguments)
      (λ n w x levels h. h.inside)

  holds_application : Holds bytes I IsWrittenApplication (application bytes)
  unfolding application
  holds_application =
      holds_both bytes I {P = Any} {Q = AreWrittenArguments} (holds_any bytes I) holds_actual
      (λ n u v x args levels any h. h)

  holds_right_side : Holds bytes I IsWrittenRightSide (right_side bytes)
  unfolding right_side
  holds_right_side =
      holds_either bytes I (holds_both bytes I {P = Any} {Q = IsWrittenApplication} (holds_any bytes I)
      holds_application (λ n u v at x levels any h. h))
      (holds_either bytes I (holds_both bytes I {P = Any} {Q = IsWrittenApplication} (holds_any bytes I)
      holds_application (λ n u v at x levels any h. h))
      (holds_either bytes I (holds_both bytes I {P = Any} {Q = IsWrittenExpression} (holds_any bytes I)
      (holds_expr bytes I inside) (λ n u v at x levels any h. h))
      (holds_both bytes I {P = IsWrittenExpression} {Q = Any} (holds_expr bytes I inside) (holds_any bytes I)
      (λ n u v x y levels h any. h))))

  holds_item : Holds bytes I IsWrittenItem (item bytes)
  unfolding item
  holds_item =
      holds_either bytes I (holds_token bytes I {Q = IsWrittenItem} (λ n w x h e weight. proper_text bytes x h e))
      (holds_both bytes I {P = IsWrittenExpression} {Q = Any} (holds_expr bytes I inside) (holds_any bytes I)
      (λ n u v x y levels h any. h))

  holds_assigned : Holds bytes I IsWrittenRightSide (assigned bytes)
  unfolding assigned
  holds_assigned = holds_behind bytes I (holds_before bytes I holds_right_side)

  holds_assignment : Holds bytes I IsWrittenAssignment (assignment bytes)
  unfolding assignment
  holds_assignment =
      holds_either bytes I (holds_both bytes I {P = IsWrittenRightSide} {Q = Any} holds_assigned (holds_any bytes I)
      (λ n u v x y levels h any. record { at_name = λ w. h }))
      (holds_both bytes I {P = IsWrittenExpression} {Q = IsWrittenExpression} (holds_index bytes I inside)
      (holds_behind bytes I (holds_before bytes I (holds_expr bytes I inside)))
      (λ n u v i e levels h k. record { at_name = λ w. (h, k) }))

  holds_arm : Holds bytes I IsWrittenArm (arm bytes)
  unfolding arm
  holds_arm = holds_both bytes I {P = IsWrittenExpression} {Q = IsWrittenBlock} (holds_expr bytes I inside) holds_block
      (λ n u v x b levels test body. (test, body))

  holds_else : Holds bytes I IsWrittenElse (else_part bytes)
  unfolding else_part
  holds_else =
      holds_behind bytes I (holds_either bytes I
      (holds_both bytes I {P = Any} {Q = IsWrittenArm} (holds_any bytes I) holds_arm (λ n u v x a levels any h. h))
      (holds_both bytes I {P = IsWrittenBlock} {Q = Any} holds_block (holds_any bytes I) (λ n u v b x levels h any. h)))

  holds_elses : Holds bytes I AreWrittenElses (else_parts bytes)
  unfolding else_parts
  holds_elses =
      holds_many bytes I {P = IsWrittenElse} {L = AreWrittenElses} holds_else (λ n w. record { tests = tt; last = tt })
      elses_grow (λ n w xs h. h)

  -- ---- statements

  holds_stmt : {c : Fixed} {F : Rule StatementForm} → Holds bytes I IsWrittenForm F
      → Holds bytes I IsWrittenStatement (stmt bytes c F)
  holds_stmt h = holds_both bytes I {P = Any} {Q = IsWrittenForm} (holds_any bytes I) h
      (λ n u v at x levels any one. (line_small bytes size at, one))

  holds_let : Holds bytes I IsWrittenForm (let_form bytes)
  unfolding let_form
  holds_let = holds_both bytes I {P = Any} {Q = IsWrittenRightSide} (holds_any bytes I) holds_assigned
      (λ n u v x r levels any h. h)

  holds_if : Holds bytes I IsWrittenForm (if_form bytes)
  unfolding if_form
  holds_if =
      holds_both bytes I {P = IsWrittenArm} {Q = AreWrittenElses} holds_arm holds_elses
      (λ n u v x xs levels one more.
      choice_written (arms_of (x ∷ tests_of xs)) (last_of xs) (one.0, one.1, more.tests) more.last)

  holds_while : Holds bytes I IsWrittenForm (while_form bytes)
  unfolding while_form
  holds_while =
      holds_both bytes I {P = IsWrittenExpression} {Q = IsWrittenBlock} (holds_expr bytes I inside) holds_block
      (λ n u v x b levels test body. (test, body))

  holds_call : Holds bytes I IsWrittenForm (call_form bytes)
  unfolding call_form
  holds_call = holds_both bytes I {P = IsWrittenApplication} {Q = Any} holds_application (holds_any bytes I)
      (λ n u v x y levels h any. h)

  holds_return : Holds bytes I IsWrittenForm (return_form bytes)
  unfolding return_form
  holds_return =
      holds_both bytes I {P = IsWrittenReturn} {Q = Any}
      (holds_either bytes I (holds_both bytes I {P = IsWrittenExpression} {Q = Any} {R = IsWrittenReturn}
      (holds_expr bytes I inside) (holds_any bytes I) (λ n u v x y levels h any. h))
      (holds_nothing bytes I {Q = IsWrittenReturn} (λ n w. tt)))
      (holds_any bytes I) (λ n u v e y levels h any. h)

  holds_fork : Holds bytes I IsWrittenForm (fork_form bytes)
  unfolding fork_form
  holds_fork = holds_both bytes I {P = IsWrittenApplication} {Q = Any} holds_application (holds_any bytes I)
      (λ n u v x y levels h any. h)

  holds_join : Holds bytes I IsWrittenForm (join_form bytes)
  unfolding join_form
  holds_join = holds_both bytes I {P = IsWrittenExpression} {Q = Any} (holds_expr bytes I inside) (holds_any bytes I)
      (λ n u v x y levels h any. h)

  holds_print : Holds bytes I IsWrittenForm (print_form bytes)
  unfolding print_form
  holds_print =
      holds_both bytes I {P = AreWrittenItems} {Q = Any}
      (holds_listing bytes I {P = IsWrittenItem} {L = AreWrittenItems} holds_item (λ n w. tt)
      (λ n u v x xs levels one more. (one, more)))
      (holds_any bytes I) (λ n u v xs y levels h any. h)

  holds_assert : Holds bytes I IsWrittenForm (assert_form bytes)
  unfolding assert_form
  holds_assert =
      holds_both bytes I {P = IsWrittenExpression} {Q = Any} (holds_expr bytes I inside) (holds_any bytes I)
      (λ n u v x y levels h any. h)

  holds_statement : Holds bytes I IsWrittenStatement (statement bytes)
  unfolding statement
  holds_statement =
      holds_either bytes I (holds_stmt holds_let)
      (holds_either bytes I (holds_both bytes I {A = Token} {P = Any} {Q = IsWrittenAssignment} (holds_any bytes I)
      holds_assignment (λ n u v x f levels any h. (line_small bytes size x.start, h.at_name _)))
      (holds_either bytes I (holds_stmt holds_if)
      (holds_either bytes I (holds_stmt holds_while)
      (holds_either bytes I (holds_stmt holds_call)
      (holds_either bytes I (holds_stmt holds_return)
      (holds_either bytes I (holds_stmt holds_fork)
      (holds_either bytes I (holds_stmt holds_join)
      (holds_either bytes I (holds_stmt holds_print)
      (holds_stmt holds_assert)))))))))

  holds_statements : Holds bytes I AreWrittenStatements (statements bytes)
  unfolding statements
  holds_statements =
      holds_all bytes I {P = IsWrittenStatement} {L = AreWrittenStatements} holds_statement (λ n w. tt)
      (λ n u v x xs levels one more. (one, more))

  holds_body : Holds bytes I IsWrittenBlock (body bytes)
  unfolding body
  holds_body = holds_both bytes I {P = AreWrittenStatements} {Q = Any} holds_statements (holds_any bytes I)
      (λ n u v xs x levels h any. h)

  -- ---- declarations

  holds_meaning : Holds bytes I IsWrittenExpression (meaning bytes)
  unfolding meaning
  holds_meaning = holds_behind bytes I (holds_before bytes I (holds_expr bytes I inside))

  holds_fun : Holds bytes I IsWrittenDeclaration (fun_form bytes)
  unfolding fun_form
  holds_fun =
      holds_both bytes I {P = Any} {Q = λ n w x. ExpressionWritten x.1} (holds_any bytes I)
      (holds_both bytes I {P = Any} {Q = IsWrittenExpression} (holds_any bytes I) holds_meaning
      (λ n u v k e levels any h. h))
      (λ n u v h r levels any body. body)

  holds_merge : Holds bytes I IsWrittenDeclaration (merge_form bytes)
  unfolding merge_form
  holds_merge =
      holds_both bytes I {P = Any} {Q = λ n w x. ExpressionWritten x.1} (holds_any bytes I)
      (holds_both bytes I {P = Any} {Q = IsWrittenExpression} (holds_any bytes I) holds_meaning
      (λ n u v k e levels any h. h))
      (λ n u v h r levels any body. body)

  holds_versioned : Holds bytes I IsWrittenDeclaration (versioned_form bytes)
  unfolding versioned_form
  holds_versioned =
      holds_both bytes I {P = Any} {Q = Any} (holds_any bytes I) (holds_any bytes I) (λ n u v x c levels one other. tt)

  holds_cumulative : Holds bytes I IsWrittenDeclaration (cumulative_form bytes)
  unfolding cumulative_form
  holds_cumulative =
      holds_both bytes I {P = Any} {Q = Any} (holds_any bytes I) (holds_any bytes I) (λ n u v x c levels one other. tt)

  holds_proc : Holds bytes I IsWrittenDeclaration (proc_form bytes)
  unfolding proc_form
  holds_proc =
      holds_both bytes I {P = Any} {Q = λ n w x. StatementsWritten x.1} (holds_any bytes I)
      (holds_both bytes I {P = Any} {Q = IsWrittenBlock} (holds_any bytes I) holds_block (λ n u v k b levels any h. h))
      (λ n u v h r levels any body. body)

  holds_declaration : Holds bytes I IsWrittenDeclaration (declaration bytes)
  unfolding declaration
  holds_declaration =
      holds_either bytes I (holds_behind bytes I holds_fun)
      (holds_either bytes I (holds_behind bytes I holds_merge)
      (holds_either bytes I (holds_behind bytes I holds_versioned)
      (holds_either bytes I (holds_behind bytes I holds_cumulative)
      (holds_behind bytes I holds_proc))))

  holds_declarations : Holds bytes I AreWrittenDeclarations (declarations bytes)
  unfolding declarations
  holds_declarations =
      holds_all bytes I {P = IsWrittenDeclaration} {L = AreWrittenDeclarations} holds_declaration (λ n w. tt)
      (λ n u v x xs levels one more. (one, more))

  holds_program : Holds bytes I IsWrittenProgram (program bytes)
  unfolding program
  holds_program =
      holds_both bytes I {P = AreWrittenDeclarations} {Q = λ n w x. StatementsWritten x.1} holds_declarations
      (holds_both bytes I {P = Any} {Q = IsWrittenBlock} (holds_any bytes I) holds_block (λ n u v k b levels any h. h))
      (λ n u v ds m levels declarations main. record { declarations = declarations; main = main })

  inner_rule : (i : Inner) → Holds bytes I (Has i) (inner bytes i)
  unfolding inner
  inner_rule Operand = holds_unary bytes I inside
  inner_rule Parens = holds_parens bytes I inside
  inner_rule Index = holds_inner_index bytes I inside
  inner_rule Arguments = holds_arguments bytes I inside
  inner_rule Parts = holds_parts bytes I inside
  inner_rule Body = holds_body
  inner_rule Params = holds_any bytes I
  inner_rule Names = holds_any bytes I
  inner_rule Cells = holds_any bytes I

-- ---- of any nesting

module _ (bytes : List ℕ) (size : length bytes ≤ most_bytes) where
  nested_inside : (d : ℕ) → Inside bytes Has (Nested alphabet (inner bytes) d)
  nested_inside zero i n k w ts y fits h = absurd h
  nested_inside (suc d) i n k w ts y fits h =
      (inner_rule bytes size (Nested alphabet (inner bytes) d) (nested_inside d) i).word n k w ts y fits h

  any_inside : Inside bytes Has (AnyNested alphabet (inner bytes))
  any_inside i n k w ts y fits h = nested_inside h.0 i n k w ts y fits h.1

pub texts_written : TextsAreWritten
texts_written text ts p tokens size h =
    let fits : Weighs text most_levels (length ts) (spans ts) ts =
    record { levels = omega arith; counted = omega arith; proper = text_tokens text ts tokens; weight = omega arith } in
    (holds_program text size (AnyNested alphabet (inner text)) (any_inside text size)).word most_levels (length ts)
    (spans ts) ts p fits h.whole
