-- Equations of the parser of statements, one for each way that a function of it goes.
use Rattle.std.proofs.Common.{◌≡◌, ◌≢◌, ℕ, suc, true, false, cond, ◌&&◌, ◌||◌, List, [], ◌∷◌, ◌++◌, length, Option, Some, None, refl, sym, ap, ◌∙◌}
use Rattle.rev_syntax.specs.declared.token.Token.{Token}
use Rattle.rev_syntax.specs.declared.token.TokenKind.{TokenKind}
use Rattle.rev_syntax.specs.declared.token.TokenKind.TheVariants as k
use Rattle.rev_syntax.specs.Trees as t
use Rattle.rev_syntax.specs.Trees.{PlacedName, Expression, RightSide, Statements, StatementForm}
use Rattle.rev_syntax.specs.View.{expressions_of, statements_of, arms_of, choice}
use Rattle.rev_syntax.specs.declared.token.Fixed.TheVariants as s
use Rattle.rev_expressions.specs.Classes.{Class, is_same}
use Rattle.rev_expressions.specs.Source.{word_of, text_of}
use Rattle.rev_syntax.specs.Places.{line_of}
use Rattle.rev_expressions.specs.Outcome.{Outcome, Read, Failed, and_then, after, next, Unexpected}
use Rattle.rev_expressions.specs.Form.{both, nothing}
use Rattle.rev_expressions.specs.Reader.{begins, first, nullable, passes, next_kind, is_next, read}
use Rattle.rev_expressions.specs.Grammar.{alphabet, Arguments, Body, rank_sign, bracketed, choice as choice_form, name, name_tail, primary, unary, product, sum, comparison, conjunction, expr, arguments, listed, listing, sign}
use Rattle.rev_expressions.specs.Statements.{Else, Test, Last, is_last, tests_of, last_of, conditional, block, actual, application, right_side, item, assigned, assignment, arm, else_choice, else_part, else_parts, let_form, if_form, while_form, call_form, return_form, fork_form, join_form, print_form, assert_form, statement, statements, body}
use Rattle.rev_expressions.specs.Declarations.{inner}
use Rattle.rev_expressions.specs.Parse.{parse, inside, expr_begins}
use Rattle.rev_expressions.specs.Lists.{more_of, more_listed}
use Rattle.rev_expressions.proofs.Turns.{or_nothing, same_outcome, repeat_stop, repeat_go, found_before}
use Rattle.rev_expressions.proofs.Lists.{listed_is, all_is}
use Rattle.rev_expressions.proofs.Expressions.{K, at_kind, by_kind, by_next, inside_none, inside_go, arguments_go, expr_not_null, begins_any, expr_end}
use Rattle.rev_parse.specs.Parts.{with_last, conditional_of, more_parts, statement_form_of_name, stmt_at, form_of, form_behind, statement_begins, item_begins}
use Rattle.rev_expressions.specs.Classes as class

module _ (bytes : List ℕ) (n : ℕ) where
  -- ---- blocks

  pub block_no : (ts : List Token) → is_next alphabet (class.fixed s.OpenBrace) ts ≡ false
      → parse bytes n block ts ≡ Failed Unexpected ts
  unfolding read block
  block_no [] e = refl
  block_no (x ∷ ts) e = ap (λ b. cond b (inside bytes n Body (λ i. i) (x ∷ ts)) (Failed Unexpected (x ∷ ts))) e

  pub block_yes : (ts : List Token) → is_next alphabet (class.fixed s.OpenBrace) ts ≡ true
      → parse bytes n block ts ≡ inside bytes n Body (λ b. b) ts
  unfolding read block
  block_yes [] e = absurd cc
  block_yes (x ∷ ts) e = ap (λ b. cond b (inside bytes n Body (λ i. i) (x ∷ ts)) (Failed Unexpected (x ∷ ts))) e

  pub body_only : (m : ℕ) (ts : List Token) → n ≡ suc m
      → inside bytes n Body (λ b. b) ts ≡ parse bytes m (body bytes) (after ts)
  unfolding inner
  body_only m ts e = inside_go bytes n Body (λ b. b) m ts e ∙ same_outcome (parse bytes m (body bytes) (after ts))

  pub body_is : (ts : List Token)
      → parse bytes n (body bytes) ts
      ≡ and_then (more_of bytes n (statement bytes) (length ts) [] ts)
      (λ xs rest. and_then (K s.CloseBrace rest) (λ x rest2. Read (statements_of xs) rest2))
  unfolding read body statements
  body_is ts = ap
      (λ o. and_then o (λ xs rest. and_then (K s.CloseBrace rest) (λ x rest2. Read (statements_of xs) rest2)))
      (all_is bytes n (statement bytes) ts)

  -- ---- arguments

  pub actual_no : (ts : List Token) → is_next alphabet (class.fixed s.OpenParen) ts ≡ false
      → parse bytes n (actual bytes) ts ≡ Failed Unexpected ts
  unfolding read actual
  actual_no [] e = refl
  actual_no (x ∷ ts) e = ap (λ b. cond b (inside bytes n Arguments (λ i. i) (x ∷ ts)) (Failed Unexpected (x ∷ ts))) e

  pub actual_yes : (ts : List Token) → is_next alphabet (class.fixed s.OpenParen) ts ≡ true
      → parse bytes n (actual bytes) ts ≡ inside bytes n Arguments (λ b. b) ts
  unfolding read actual
  actual_yes [] e = absurd cc
  actual_yes (x ∷ ts) e = ap (λ b. cond b (inside bytes n Arguments (λ i. i) (x ∷ ts)) (Failed Unexpected (x ∷ ts))) e

  pub arguments_only : (m : ℕ) (ts : List Token) → n ≡ suc m
      → inside bytes n Arguments (λ b. b) ts ≡ parse bytes m (arguments bytes) (after ts)
  arguments_only m ts e =
      arguments_go bytes n (λ b. b) m ts e ∙ same_outcome (parse bytes m (arguments bytes) (after ts))

  pub application_is : (ts : List Token)
      → parse bytes n (application bytes) ts
      ≡ and_then (parse bytes n (name bytes) ts)
      (λ w rest. and_then (parse bytes n (actual bytes) rest) (λ args rest2. Read (w, args) rest2))
  unfolding read application
  application_is ts = refl

  -- ---- right sides

  module _ (t1 : Token) (ts : List Token) (is : next ts ≡ Some t1) where
    pub right_side_call : t1.kind ≡ (k.Fixed s.Call)
        → parse bytes n (right_side bytes) ts
        ≡ and_then (parse bytes n (application bytes) (after ts))
        (λ a rest. Read (t.called t1.start a.0 (expressions_of a.1)) rest)
    unfolding read right_side
    right_side_call h =
        by_next (λ ts.
        parse bytes n (right_side bytes) ts
        ≡ and_then (parse bytes n (application bytes) (after ts))
        (λ a rest. Read (t.called t1.start a.0 (expressions_of a.1)) rest))
        t1 ts is (λ rest.
        by_kind (λ x.
        parse bytes n (right_side bytes) (x ∷ rest)
        ≡ and_then (parse bytes n (application bytes) rest)
        (λ a rest. Read (t.called x.start a.0 (expressions_of a.1)) rest))
        t1 (k.Fixed s.Call) h refl)

    pub right_side_fork : t1.kind ≡ (k.Fixed s.Fork)
        → parse bytes n (right_side bytes) ts
        ≡ and_then (parse bytes n (application bytes) (after ts))
        (λ a rest. Read (t.forked t1.start a.0 (expressions_of a.1)) rest)
    unfolding read right_side
    right_side_fork h =
        by_next (λ ts.
        parse bytes n (right_side bytes) ts
        ≡ and_then (parse bytes n (application bytes) (after ts))
        (λ a rest. Read (t.forked t1.start a.0 (expressions_of a.1)) rest))
        t1 ts is (λ rest.
        by_kind (λ x.
        parse bytes n (right_side bytes) (x ∷ rest)
        ≡ and_then (parse bytes n (application bytes) rest)
        (λ a rest. Read (t.forked x.start a.0 (expressions_of a.1)) rest))
        t1 (k.Fixed s.Fork) h refl)

    pub right_side_try : t1.kind ≡ (k.Fixed s.TryJoin)
        → parse bytes n (right_side bytes) ts
        ≡ and_then (parse bytes n (expr bytes) (after ts)) (λ e rest. Read (t.tried t1.start e) rest)
    unfolding read right_side
    right_side_try h =
        by_next (λ ts.
        parse bytes n (right_side bytes) ts
        ≡ and_then (parse bytes n (expr bytes) (after ts)) (λ e rest. Read (t.tried t1.start e) rest))
        t1 ts is (λ rest.
        by_kind (λ x.
        parse bytes n (right_side bytes) (x ∷ rest)
        ≡ and_then (parse bytes n (expr bytes) rest) (λ e rest. Read (t.tried x.start e) rest))
        t1 (k.Fixed s.TryJoin) h refl)

    right_side_at : (rest : List Token) (kd : TokenKind) → kd ≢ (k.Fixed s.Call) → kd ≢ (k.Fixed s.Fork)
        → kd ≢ (k.Fixed s.TryJoin)
        → parse bytes n (right_side bytes) (at_kind kd t1 ∷ rest)
        ≡ and_then (parse bytes n (expr bytes) (at_kind kd t1 ∷ rest)) (λ e rest. Read (t.plain e) rest)
    unfolding read right_side
    right_side_at rest (k.Fixed s.Call) a b c = absurd (a refl)
    right_side_at rest (k.Fixed s.Fork) a b c = absurd (b refl)
    right_side_at rest (k.Fixed s.TryJoin) a b c = absurd (c refl)
    right_side_at rest _ a b c = refl

    pub right_side_plain : t1.kind ≢ (k.Fixed s.Call) → t1.kind ≢ (k.Fixed s.Fork) → t1.kind ≢ (k.Fixed s.TryJoin)
        → parse bytes n (right_side bytes) ts
        ≡ and_then (parse bytes n (expr bytes) ts) (λ e rest. Read (t.plain e) rest)
    right_side_plain a b c =
        by_next (λ ts.
        parse bytes n (right_side bytes) ts
        ≡ and_then (parse bytes n (expr bytes) ts) (λ e rest. Read (t.plain e) rest))
        t1 ts is (λ rest. right_side_at rest t1.kind a b c)

    -- ---- items

    pub item_text : t1.kind ≡ k.Text
        → parse bytes n (item bytes) ts ≡ Read (t.text t1.start (text_of bytes t1)) (after ts)
    unfolding read item
    item_text h =
        by_next (λ ts. parse bytes n (item bytes) ts ≡ Read (t.text t1.start (text_of bytes t1)) (after ts)) t1 ts is
        (λ rest. by_kind (λ x. parse bytes n (item bytes) (x ∷ rest) ≡ Read (t.text x.start (text_of bytes x)) rest) t1
        k.Text h refl)

    item_at : (rest : List Token) (kd : TokenKind) → kd ≢ k.Text
        → parse bytes n (item bytes) (at_kind kd t1 ∷ rest)
        ≡ and_then (parse bytes n (expr bytes) (at_kind kd t1 ∷ rest)) (λ e rest. Read (t.shown e) rest)
    unfolding read item
    item_at rest k.Text a = absurd (a refl)
    item_at rest _ a = refl

    pub item_value : t1.kind ≢ k.Text
        → parse bytes n (item bytes) ts ≡ and_then (parse bytes n (expr bytes) ts) (λ e rest. Read (t.shown e) rest)
    item_value a =
        by_next (λ ts.
        parse bytes n (item bytes) ts ≡ and_then (parse bytes n (expr bytes) ts) (λ e rest. Read (t.shown e) rest))
        t1 ts is (λ rest. item_at rest t1.kind a)

    -- ---- behind a name

    pub assign_name : (w : PlacedName) → t1.kind ≡ (k.Fixed s.Assign)
        → statement_form_of_name w (parse bytes n (assignment bytes) ts)
        ≡ and_then (parse bytes n (assigned bytes) ts) (λ r rest. Read (t.assign w r) rest)
    unfolding read assignment assigned
    assign_name w h =
        by_next (λ ts.
        statement_form_of_name w (parse bytes n (assignment bytes) ts)
        ≡ and_then (parse bytes n (assigned bytes) ts) (λ r rest. Read (t.assign w r) rest))
        t1 ts is (λ rest.
        by_kind (λ x.
        statement_form_of_name w (parse bytes n (assignment bytes) (x ∷ rest))
        ≡ and_then (parse bytes n (assigned bytes) (x ∷ rest)) (λ r rest. Read (t.assign w r) rest))
        t1 (k.Fixed s.Assign) h (flat (parse bytes n (assigned bytes) (at_kind (k.Fixed s.Assign) t1 ∷ rest))))
      where
        flat : (o : Outcome Token RightSide)
            → statement_form_of_name w (and_then o (λ r rest. Read (λ w. t.assign w r) rest))
            ≡ and_then o (λ r rest. Read (t.assign w r) rest)
        flat (Read r rest) = refl
        flat (Failed e rest) = refl

    abbrev cell_form : PlacedName → Outcome Token Expression → Outcome Token StatementForm
    cell_form w o =
        and_then o (λ i rest2.
        and_then (K s.Assign rest2)
        (λ x rest3.
        and_then (parse bytes n (expr bytes) rest3)
        (λ e rest4. and_then (K s.Semicolon rest4) (λ y rest5. Read (t.assign_cell w i e) rest5))))

    cell_flat : (w : PlacedName) (o : Outcome Token Expression)
        → statement_form_of_name w
        (and_then o (λ i rest2.
        and_then (and_then (K s.Assign rest2)
        (λ x rest3.
        and_then (and_then (parse bytes n (expr bytes) rest3)
        (λ e rest4. and_then (K s.Semicolon rest4) (λ y rest5. Read e rest5)))
        (λ e rest. Read e rest)))
        (λ e rest. Read (λ w. t.assign_cell w i e) rest)))
        ≡ cell_form w o
    cell_flat w (Failed e rest) = refl
    cell_flat w (Read i rest2) = by_sign (K s.Assign rest2)
      where
        by_end : (e : Expression) (o : Outcome Token (Unit {0}))
            → statement_form_of_name w
            (and_then (and_then (and_then o (λ y rest5. Read e rest5)) (λ e rest. Read e rest))
            (λ e rest. Read (λ w. t.assign_cell w i e) rest))
            ≡ and_then o (λ y rest5. Read (t.assign_cell w i e) rest5)
        by_end e (Read y rest5) = refl
        by_end e (Failed x rest5) = refl

        by_expr : (o : Outcome Token Expression)
            → statement_form_of_name w
            (and_then (and_then (and_then o (λ e rest4. and_then (K s.Semicolon rest4) (λ y rest5. Read e rest5)))
            (λ e rest. Read e rest))
            (λ e rest. Read (λ w. t.assign_cell w i e) rest))
            ≡ and_then o (λ e rest4. and_then (K s.Semicolon rest4) (λ y rest5. Read (t.assign_cell w i e) rest5))
        by_expr (Read e rest4) = by_end e (K s.Semicolon rest4)
        by_expr (Failed x rest4) = refl

        by_sign : (o : Outcome Token (Unit {0}))
            → statement_form_of_name w
            (and_then (and_then o (λ x rest3.
            and_then (and_then (parse bytes n (expr bytes) rest3)
            (λ e rest4. and_then (K s.Semicolon rest4) (λ y rest5. Read e rest5)))
            (λ e rest. Read e rest)))
            (λ e rest. Read (λ w. t.assign_cell w i e) rest))
            ≡ and_then o (λ x rest3.
            and_then (parse bytes n (expr bytes) rest3)
            (λ e rest4. and_then (K s.Semicolon rest4) (λ y rest5. Read (t.assign_cell w i e) rest5)))
        by_sign (Read x rest3) = by_expr (parse bytes n (expr bytes) rest3)
        by_sign (Failed e rest3) = refl

    assign_at : (w : PlacedName) (rest : List Token) (kd : TokenKind) → kd ≢ (k.Fixed s.Assign)
        → statement_form_of_name w (parse bytes n (assignment bytes) (at_kind kd t1 ∷ rest))
        ≡ cell_form w (parse bytes n bracketed (at_kind kd t1 ∷ rest))
    unfolding read assignment assigned
    assign_at w rest (k.Fixed s.Assign) a = absurd (a refl)
    assign_at w rest kd a = cell_flat w (parse bytes n bracketed (at_kind kd t1 ∷ rest))

    pub assign_cell : (w : PlacedName) → t1.kind ≢ (k.Fixed s.Assign)
        → statement_form_of_name w (parse bytes n (assignment bytes) ts) ≡ cell_form w (parse bytes n bracketed ts)
    assign_cell w a =
        by_next (λ ts.
        statement_form_of_name w (parse bytes n (assignment bytes) ts) ≡ cell_form w (parse bytes n bracketed ts))
        t1 ts is (λ rest. assign_at w rest t1.kind a)

  pub right_side_end : (ts : List Token) → next ts ≡ None → parse bytes n (right_side bytes) ts ≡ Failed Unexpected ts
  unfolding read right_side
  right_side_end [] e = ap (λ o. and_then o (λ e rest. Read (t.plain e) rest)) (expr_end bytes n [] refl)
  right_side_end (x ∷ ts) e = absurd cc

  pub item_end : (ts : List Token) → next ts ≡ None → parse bytes n (item bytes) ts ≡ Failed Unexpected ts
  unfolding read item
  item_end [] e = ap (λ o. and_then o (λ e rest. Read (t.shown e) rest)) (expr_end bytes n [] refl)
  item_end (x ∷ ts) e = absurd cc

  pub assign_end : (w : PlacedName) (ts : List Token) → next ts ≡ None
      → statement_form_of_name w (parse bytes n (assignment bytes) ts) ≡ Failed Unexpected ts
  unfolding read assignment assigned bracketed
  assign_end w [] e = refl
  assign_end w (x ∷ ts) e = absurd cc

  pub statement_end : (ts : List Token) → next ts ≡ None → parse bytes n (statement bytes) ts ≡ Failed Unexpected ts
  unfolding read statement
  statement_end [] e = refl
  statement_end (x ∷ ts) e = absurd cc

  pub assigned_is : (ts : List Token)
      → parse bytes n (assigned bytes) ts
      ≡ and_then (K s.Assign ts)
      (λ x rest.
      and_then (parse bytes n (right_side bytes) rest)
      (λ r rest2. and_then (K s.Semicolon rest2) (λ y rest3. Read r rest3)))
  unfolding read assigned
  assigned_is ts = flat (K s.Assign ts)
    where
      inner_flat : (o : Outcome Token RightSide)
          → and_then (and_then o (λ r rest2. and_then (K s.Semicolon rest2) (λ y rest3. Read r rest3)))
          (λ r rest. Read r rest)
          ≡ and_then o (λ r rest2. and_then (K s.Semicolon rest2) (λ y rest3. Read r rest3))
      inner_flat o = same_outcome (and_then o (λ r rest2. and_then (K s.Semicolon rest2) (λ y rest3. Read r rest3)))

      flat : (o : Outcome Token (Unit {0}))
          → and_then o (λ x rest.
          and_then (and_then (parse bytes n (right_side bytes) rest)
          (λ r rest2. and_then (K s.Semicolon rest2) (λ y rest3. Read r rest3)))
          (λ r rest2. Read r rest2))
          ≡ and_then o (λ x rest.
          and_then (parse bytes n (right_side bytes) rest)
          (λ r rest2. and_then (K s.Semicolon rest2) (λ y rest3. Read r rest3)))
      flat (Read x rest) = inner_flat (parse bytes n (right_side bytes) rest)
      flat (Failed e rest) = refl

  -- ---- forms

  pub arm_is : (ts : List Token)
      → parse bytes n (arm bytes) ts
      ≡ and_then (parse bytes n (expr bytes) ts)
      (λ e rest. and_then (parse bytes n block rest) (λ b rest2. Read (e, b) rest2))
  unfolding read arm
  arm_is ts = refl

  pub let_is : (ts : List Token)
      → parse bytes n (let_form bytes) ts
      ≡ and_then (parse bytes n (name bytes) ts)
      (λ w rest. and_then (parse bytes n (assigned bytes) rest) (λ r rest2. Read (t.bind w r) rest2))
  unfolding read let_form
  let_is ts = refl

  pub while_is : (ts : List Token)
      → parse bytes n (while_form bytes) ts
      ≡ and_then (parse bytes n (expr bytes) ts)
      (λ e rest. and_then (parse bytes n block rest) (λ b rest2. Read (t.repeat e b) rest2))
  unfolding read while_form
  while_is ts = refl

  pub call_is : (ts : List Token)
      → parse bytes n (call_form bytes) ts
      ≡ and_then (parse bytes n (application bytes) ts)
      (λ a rest. and_then (K s.Semicolon rest) (λ x rest2. Read (t.call a.0 (expressions_of a.1)) rest2))
  unfolding read call_form
  call_is ts = refl

  pub fork_is : (ts : List Token)
      → parse bytes n (fork_form bytes) ts
      ≡ and_then (parse bytes n (application bytes) ts)
      (λ a rest. and_then (K s.Semicolon rest) (λ x rest2. Read (t.fork a.0 (expressions_of a.1)) rest2))
  unfolding read fork_form
  fork_is ts = refl

  pub join_is : (ts : List Token)
      → parse bytes n (join_form bytes) ts
      ≡ and_then (parse bytes n (expr bytes) ts)
      (λ e rest. and_then (K s.Semicolon rest) (λ x rest2. Read (t.join e) rest2))
  unfolding read join_form
  join_is ts = refl

  pub assert_is : (ts : List Token)
      → parse bytes n (assert_form bytes) ts
      ≡ and_then (parse bytes n (expr bytes) ts)
      (λ e rest. and_then (K s.Semicolon rest) (λ x rest2. Read (t.assert e) rest2))
  unfolding read assert_form
  assert_is ts = refl

  pub print_is : (ts : List Token)
      → parse bytes n (print_form bytes) ts
      ≡ and_then (parse bytes n (listing (item bytes)) ts)
      (λ xs rest. and_then (K s.Semicolon rest) (λ x rest2. Read (t.print xs) rest2))
  unfolding read print_form
  print_is ts = refl

  some_begins : (ts : List Token)
      → begins alphabet (both (λ e x. Some e) (expr bytes) (nothing {A = Unit {0}} tt)) ts
      ≡ begins alphabet (expr bytes) ts
  some_begins ts = by_kind_of (next_kind alphabet ts)
    where
      by_kind_of : (o : Option Class)
          → passes alphabet (first alphabet (both (λ e x. Some e) (expr bytes) (nothing {A = Unit {0}} tt))) o
          ≡ passes alphabet (first alphabet (expr bytes)) o
      by_kind_of None = refl
      by_kind_of (Some k) =
          ap (λ b. first alphabet (expr bytes) k || (b && false)) (expr_not_null bytes n)
          ∙ or_nothing (first alphabet (expr bytes) k) false

  abbrev returned : Outcome Token (Option Expression) → Outcome Token StatementForm
  returned o = and_then o (λ e rest. and_then (K s.Semicolon rest) (λ x rest2. Read (t.return e) rest2))

  pub return_no : (ts : List Token) → expr_begins ts ≡ false
      → parse bytes n (return_form bytes) ts ≡ and_then (K s.Semicolon ts) (λ x rest. Read (t.return None) rest)
  unfolding read return_form
  return_no ts e =
      ap (λ b. returned
      (cond b (and_then (parse bytes n (expr bytes) ts) (λ e rest. Read (Some e) rest)) (Read None ts)))
      (some_begins ts ∙ begins_any bytes n ts ∙ e)

  pub return_yes : (ts : List Token) → expr_begins ts ≡ true
      → parse bytes n (return_form bytes) ts
      ≡ and_then (parse bytes n (expr bytes) ts)
      (λ e rest. and_then (K s.Semicolon rest) (λ x rest2. Read (t.return (Some e)) rest2))
  unfolding read return_form
  return_yes ts e =
      ap (λ b. returned
      (cond b (and_then (parse bytes n (expr bytes) ts) (λ e rest. Read (Some e) rest)) (Read None ts)))
      (some_begins ts ∙ begins_any bytes n ts ∙ e)
      ∙ flat (parse bytes n (expr bytes) ts)
    where
      flat : (o : Outcome Token Expression)
          → returned (and_then o (λ e rest. Read (Some e) rest))
          ≡ and_then o (λ e rest. and_then (K s.Semicolon rest) (λ x rest2. Read (t.return (Some e)) rest2))
      flat (Read e rest) = refl
      flat (Failed x rest) = refl

  -- ---- items

  item_not_null : nullable alphabet (item bytes) ≡ false
  unfolding item rank_sign bracketed choice_form name name_tail primary unary product sum comparison conjunction expr
  item_not_null = refl

  item_any : (ts : List Token) → begins alphabet (item bytes) ts ≡ item_begins ts
  unfolding item rank_sign bracketed choice_form name name_tail primary unary product sum comparison conjunction expr
  item_any ts = refl

  items_begin : (ts : List Token) → begins alphabet (listed (item bytes)) ts ≡ item_begins ts
  items_begin ts = by_kind_of (next_kind alphabet ts) ∙ same_any ts
    where
      by_kind_of : (o : Option Class)
          → passes alphabet (first alphabet (listed (item bytes))) o ≡ passes alphabet (first alphabet (item bytes)) o
      by_kind_of None = refl
      by_kind_of (Some k) =
          ap (λ b. first alphabet (item bytes) k || (b && (is_same (class.fixed s.Comma) k || false))) item_not_null
          ∙ or_nothing (first alphabet (item bytes) k) (is_same (class.fixed s.Comma) k || false)

      same_any : (ts : List Token) → begins alphabet (item bytes) ts ≡ item_begins ts
      same_any ts = item_any ts

  pub items_no : (ts : List Token) → item_begins ts ≡ false → parse bytes n (listing (item bytes)) ts ≡ Read [] ts
  unfolding read
  items_no ts e = ap (λ b. cond b (parse bytes n (listed (item bytes)) ts) (Read [] ts)) (items_begin ts ∙ e)

  pub items_yes : (ts : List Token) → item_begins ts ≡ true
      → parse bytes n (listing (item bytes)) ts
      ≡ and_then (parse bytes n (item bytes) ts)
      (λ a rest. more_listed bytes n (item bytes) (length rest) (a ∷ []) rest)
  unfolding read
  items_yes ts e =
      ap (λ b. cond b (parse bytes n (listed (item bytes)) ts) (Read [] ts)) (items_begin ts ∙ e)
      ∙ listed_is bytes n (item bytes) ts

  -- ---- `if`

  tests_are : (arms : List (Expression × Statements)) (last : Option Statements) → tests_of (with_last arms last) ≡ arms
  tests_are [] None = refl
  tests_are [] (Some b) = refl
  tests_are (a ∷ arms) None = ap (λ l. a ∷ l) (tests_are arms None)
  tests_are (a ∷ arms) (Some b) = ap (λ l. a ∷ l) (tests_are arms (Some b))

  last_is : (arms : List (Expression × Statements)) (last : Option Statements) → last_of (with_last arms last) ≡ last
  last_is [] None = refl
  last_is [] (Some b) = refl
  last_is (a ∷ arms) None = last_is arms None
  last_is (a ∷ arms) (Some b) = last_is arms (Some b)

  pub conditional_is : (arms : List (Expression × Statements)) (last : Option Statements)
      → conditional_of (with_last arms last) ≡ choice (arms_of arms) last
  conditional_is arms last =
      ap (λ l. choice (arms_of l) (last_of (with_last arms last))) (tests_are arms last)
      ∙ ap (choice (arms_of arms)) (last_is arms last)

  pub if_is : (ts : List Token)
      → parse bytes n (if_form bytes) ts
      ≡ and_then (parse bytes n (arm bytes) ts)
      (λ a rest.
      and_then (more_parts bytes n (length rest) (Test a ∷ []) rest) (λ xs rest2. Read (conditional_of xs) rest2))
  unfolding read if_form else_parts
  if_is ts = by_arm (parse bytes n (arm bytes) ts)
    where
      by_rest : (a : Expression × Statements) (o : Outcome Token (List Else))
          → and_then (and_then o (λ xs rest. Read xs rest)) (λ xs rest. Read (conditional a xs) rest)
          ≡ and_then (and_then o (λ xs rest. Read (Test a ∷ xs) rest)) (λ xs rest2. Read (conditional_of xs) rest2)
      by_rest a (Read xs rest) = refl
      by_rest a (Failed x rest) = refl

      by_arm : (o : Outcome Token (Expression × Statements))
          → and_then o (λ a rest.
          and_then (and_then (more_parts bytes n (length rest) [] rest) (λ xs rest. Read xs rest))
          (λ xs rest. Read (conditional a xs) rest))
          ≡ and_then o (λ a rest.
          and_then (more_parts bytes n (length rest) (Test a ∷ []) rest) (λ xs rest2. Read (conditional_of xs) rest2))
      by_arm (Read a rest) =
          by_rest a (more_parts bytes n (length rest) [] rest)
          ∙ ap (λ o. and_then o (λ xs rest2. Read (conditional_of xs) rest2))
          (sym (found_before (parse bytes n (else_part bytes)) is_last (begins alphabet (else_part bytes)) (Test a ∷ [])
          (length rest) [] rest))
      by_arm (Failed x rest) = refl

  else_begins : (ts : List Token) → begins alphabet (else_part bytes) ts ≡ is_next alphabet (class.fixed s.Else) ts
  unfolding else_part
  else_begins ts = by_kind_of (next_kind alphabet ts)
    where
      by_kind_of : (o : Option Class)
          → passes alphabet (first alphabet (else_part bytes)) o ≡ passes alphabet (is_same (class.fixed s.Else)) o
      by_kind_of None = refl
      by_kind_of (Some k) = or_nothing (is_same (class.fixed s.Else) k) (first alphabet (else_choice bytes) k)

  pub parts_stop : (j : ℕ) (found : List Else) (ts : List Token) → is_next alphabet (class.fixed s.Else) ts ≡ false
      → more_parts bytes n j found ts ≡ Read found ts
  parts_stop j found ts e =
      repeat_stop (parse bytes n (else_part bytes)) is_last (begins alphabet (else_part bytes)) j found ts
      (else_begins ts ∙ e)

  if_begins : (ts : List Token)
      → begins alphabet (both (λ x a. Test a) (sign s.If) (arm bytes)) ts ≡ is_next alphabet (class.fixed s.If) ts
  if_begins ts = by_kind_of (next_kind alphabet ts)
    where
      by_kind_of : (o : Option Class)
          → passes alphabet (first alphabet (both (λ x a. Test a) (sign s.If) (arm bytes))) o
          ≡ passes alphabet (is_same (class.fixed s.If)) o
      by_kind_of None = refl
      by_kind_of (Some k) = or_nothing (is_same (class.fixed s.If) k) (first alphabet (arm bytes) k)

  -- behind an `else`
  else_read : (ts : List Token) → is_next alphabet (class.fixed s.Else) ts ≡ true
      → parse bytes n (else_part bytes) ts ≡ parse bytes n (else_choice bytes) (after ts)
  unfolding read else_part
  else_read [] e = absurd cc
  else_read (x ∷ ts) e =
      ap (λ b. and_then (cond b (Read tt ts) (Failed Unexpected (x ∷ ts)))
      (λ y rest. and_then (parse bytes n (else_choice bytes) rest) (λ a rest2. Read a rest2)))
      e
      ∙ same_outcome (parse bytes n (else_choice bytes) ts)

  test_read : (ts : List Token) → is_next alphabet (class.fixed s.If) ts ≡ true
      → parse bytes n (else_choice bytes) ts
      ≡ and_then (parse bytes n (arm bytes) (after ts)) (λ a rest. Read (Test a) rest)
  unfolding read
  test_read [] e = absurd cc
  test_read (x ∷ ts) e =
      ap (λ b. cond b (parse bytes n (both (λ x a. Test a) (sign s.If) (arm bytes)) (x ∷ ts))
      (parse bytes n (both (λ b x. Last b) block (nothing {A = Unit {0}} tt)) (x ∷ ts)))
      (if_begins (x ∷ ts) ∙ e)
      ∙ ap (λ b.
      and_then (cond b (Read tt ts) (Failed Unexpected (x ∷ ts)))
      (λ y rest. and_then (parse bytes n (arm bytes) rest) (λ a rest2. Read (Test a) rest2)))
      e

  last_read : (ts : List Token) → is_next alphabet (class.fixed s.If) ts ≡ false
      → parse bytes n (else_choice bytes) ts ≡ and_then (parse bytes n block ts) (λ b rest. Read (Last b) rest)
  unfolding read
  last_read ts e =
      ap (λ b. cond b (parse bytes n (both (λ x a. Test a) (sign s.If) (arm bytes)) ts)
      (parse bytes n (both (λ b x. Last b) block (nothing {A = Unit {0}} tt)) ts))
      (if_begins ts ∙ e)

  pub parts_test : (j i : ℕ) (found : List Else) (ts : List Token) → j ≡ suc i
      → is_next alphabet (class.fixed s.Else) ts ≡ true → is_next alphabet (class.fixed s.If) (after ts) ≡ true
      → more_parts bytes n j found ts
      ≡ and_then (parse bytes n (arm bytes) (after (after ts)))
      (λ a rest. more_parts bytes n i (found ++ Test a ∷ []) rest)
  parts_test j i found ts ej ee ei =
      repeat_go (parse bytes n (else_part bytes)) is_last (begins alphabet (else_part bytes)) j i found ts ej
      (else_begins ts ∙ ee)
      ∙ ap (λ o.
      and_then o
      (λ a rest. cond (is_last a) (Read (found ++ a ∷ []) rest) (more_parts bytes n i (found ++ a ∷ []) rest)))
      (else_read ts ee ∙ test_read (after ts) ei)
      ∙ flat (parse bytes n (arm bytes) (after (after ts)))
    where
      flat : (o : Outcome Token (Expression × Statements))
          → and_then (and_then o (λ a rest. Read (Test a) rest))
          (λ a rest. cond (is_last a) (Read (found ++ a ∷ []) rest) (more_parts bytes n i (found ++ a ∷ []) rest))
          ≡ and_then o (λ a rest. more_parts bytes n i (found ++ Test a ∷ []) rest)
      flat (Read a rest) = refl
      flat (Failed x rest) = refl

  pub parts_last : (j i : ℕ) (found : List Else) (ts : List Token) → j ≡ suc i
      → is_next alphabet (class.fixed s.Else) ts ≡ true → is_next alphabet (class.fixed s.If) (after ts) ≡ false
      → more_parts bytes n j found ts
      ≡ and_then (parse bytes n block (after ts)) (λ b rest. Read (found ++ Last b ∷ []) rest)
  parts_last j i found ts ej ee ei =
      repeat_go (parse bytes n (else_part bytes)) is_last (begins alphabet (else_part bytes)) j i found ts ej
      (else_begins ts ∙ ee)
      ∙ ap (λ o.
      and_then o
      (λ a rest. cond (is_last a) (Read (found ++ a ∷ []) rest) (more_parts bytes n i (found ++ a ∷ []) rest)))
      (else_read ts ee ∙ last_read (after ts) ei)
      ∙ flat (parse bytes n block (after ts))
    where
      flat : (o : Outcome Token Statements)
          → and_then (and_then o (λ b rest. Read (Last b) rest))
          (λ a rest. cond (is_last a) (Read (found ++ a ∷ []) rest) (more_parts bytes n i (found ++ a ∷ []) rest))
          ≡ and_then o (λ b rest. Read (found ++ Last b ∷ []) rest)
      flat (Read b rest) = refl
      flat (Failed x rest) = refl

  -- ---- statements

  pub begins_statement : (ts : List Token) → begins alphabet (statement bytes) ts ≡ statement_begins ts
  unfolding statement let_form if_form while_form call_form return_form fork_form join_form print_form assert_form
      assignment
  begins_statement ts = refl

  module _ (t1 : Token) (ts : List Token) (is : next ts ≡ Some t1) where
    statement_at : (rest : List Token) (kd : TokenKind)
        → parse bytes n (statement bytes) (at_kind kd t1 ∷ rest)
        ≡ stmt_at bytes t1.start (form_of bytes n t1 kd (at_kind kd t1 ∷ rest))
    unfolding read statement
    statement_at rest k.Name = flat (word_of bytes t1) t1.start (parse bytes n (assignment bytes) rest)
      where
        flat : (w : PlacedName) (at : ℕ) (o : Outcome Token (PlacedName → StatementForm))
            → and_then o (λ f rest. Read (t.statement at (line_of bytes at) (f w)) rest)
            ≡ stmt_at bytes at (statement_form_of_name w o)
        flat w at (Read f rest) = refl
        flat w at (Failed e rest) = refl
    statement_at rest (k.Fixed s.Fun) = refl
    statement_at rest (k.Fixed _) = refl
    statement_at rest _ = refl

    pub statement_is : parse bytes n (statement bytes) ts ≡ stmt_at bytes t1.start (form_behind bytes n t1 ts)
    statement_is =
        by_next (λ ts. parse bytes n (statement bytes) ts ≡ stmt_at bytes t1.start (form_behind bytes n t1 ts)) t1 ts is
        (λ rest. statement_at rest t1.kind)

pub ruleset actual_cases = (actual_yes, inside_none)

pub ruleset block_cases = (block_yes, inside_none)
