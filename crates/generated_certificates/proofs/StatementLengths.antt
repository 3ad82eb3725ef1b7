-- There are as many notes of statements as instructions.
use Rattle.std.proofs.Common.{◌≡◌, ◌+◌, Bool, true, false, Option, Some, None, List, [], ◌∷◌, ◌++◌, length, refl, arith}
use Rattle.rev_num.specs.declared.value.ValueKind.TheVariants as k
use Rattle.rev_syntax.specs.Trees.{PlacedName, Expression, RightSide, plain, called, forked, tried, PrintItem, text, shown, Statement, statement, StatementForm, bind, assign, assign_cell, choose, choose_or, repeat, call, return, fork, join, print, assert, Statements, no_statements, statements, Arms, no_arms, arm}
use Rattle.typed_programs.specs.Kinds.{Names, Locals}
use Rattle.typed_programs.specs.Scopes.{locals_after}
use Rattle.code_rules.specs.Pass.{Note, entry}
use Rattle.code_generation.specs.Numbers.{Numbers}
use Rattle.code_generation.specs.Expressions.{expression_size, expressions_size}
use Rattle.code_generation.specs.Sizes.{right_side_size, items_size, returned_size, dropped_size, leap_size, statement_size, statement_form_size, statements_size, arms_size}
use Rattle.code_generation.proofs.Lengths.{two, and_one, around}
use Rattle.generated_certificates.specs.Items.{push, charged}
use Rattle.generated_certificates.specs.Expressions.{word_kind, behind_args, expression_notes, expressions_notes}
use Rattle.generated_certificates.specs.Statements.{right_side_notes, items_notes, returned_notes, dropped_notes, leap_notes, statement_notes, statement_form_notes, statements_notes, arms_notes}
use Rattle.generated_certificates.proofs.Lengths.{expression_notes_length, expressions_notes_length}

module _ (c : Names) (l : Locals) where
  pub right_side_notes_length : (r : RightSide) → length (right_side_notes c l r) ≡ right_side_size r
  right_side_notes_length (plain e) = expression_notes_length c l e charged
  right_side_notes_length (called p w args) =
      and_one (expressions_notes c l args charged) _ (expressions_size args) (expressions_notes_length c l args charged)
  right_side_notes_length (forked p w args) =
      and_one (expressions_notes c l args charged) _ (expressions_size args) (expressions_notes_length c l args charged)
  right_side_notes_length (tried p handle) =
      and_one (expression_notes c l handle charged) _ (expression_size handle)
      (expression_notes_length c l handle charged)

  pub items_notes_length : (items : List PrintItem) (n : Note) → length (items_notes c l items n) ≡ items_size items
  items_notes_length [] n = refl
  items_notes_length (text p bytes ∷ items) n = items_notes_length items n
  items_notes_length (shown e ∷ items) n =
      two (expression_notes c l e n) (items_notes c l items (push (word_kind c l e) n)) (expression_size e)
      (items_size items) (expression_notes_length c l e n) (items_notes_length items (push (word_kind c l e) n))

  returned_notes_length : (e : Option Expression) → length (returned_notes c l e) ≡ returned_size e
  returned_notes_length None = refl
  returned_notes_length (Some e) =
      and_one (expression_notes c l e charged) _ (expression_size e) (expression_notes_length c l e charged)

pub dropped_notes_length : (c : Names) (w : PlacedName) (gives : Bool)
    → length (dropped_notes c w gives) ≡ dropped_size gives
dropped_notes_length c w true = refl
dropped_notes_length c w false = refl

pub leap_notes_length : (has_last : Bool) (rest : Arms) → length (leap_notes has_last rest) ≡ leap_size has_last rest
leap_notes_length true no_arms = refl
leap_notes_length false no_arms = refl
leap_notes_length true (arm test body rest) = refl
leap_notes_length false (arm test body rest) = refl

module _ (c : Names) (n : Numbers) where
  mutual
    pub statement_notes_length : (l : Locals) (x : Statement) → length (statement_notes c n l x) ≡ statement_size n x
    statement_notes_length l (statement p line form) = let h = statement_form_notes_length l form in omega (arith, h)

    statement_form_notes_length : (l : Locals) (form : StatementForm)
        → length (statement_form_notes c n l form) ≡ statement_form_size n form
    statement_form_notes_length l (bind w r) =
        and_one (right_side_notes c l r) _ (right_side_size r) (right_side_notes_length c l r)
    statement_form_notes_length l (assign w r) =
        and_one (right_side_notes c l r) _ (right_side_size r) (right_side_notes_length c l r)
    statement_form_notes_length l (assign_cell w index e) =
        let below : Note = push k.Int charged in
        let p = around (expression_notes c l index charged) (expression_notes c l e below) below (expression_size index)
        (expression_size e) (expression_notes_length c l index charged) (expression_notes_length c l e below) in
        and_one (expression_notes c l index charged ++ below ∷ expression_notes c l e below) _
        (expression_size index + 1 + expression_size e) p
    statement_form_notes_length l (choose arms) = arms_notes_length l false arms
    statement_form_notes_length l (choose_or arms last) =
        two (arms_notes c n l true arms) (statements_notes c n l last) (arms_size n true arms) (statements_size n last)
        (arms_notes_length l true arms) (statements_notes_length l last)
    statement_form_notes_length l (repeat test body) =
        let p = around (expression_notes c l test charged) (statements_notes c n l body) (push k.Bool charged)
        (expression_size test) (statements_size n body) (expression_notes_length c l test charged)
        (statements_notes_length l body) in
        and_one (expression_notes c l test charged ++ push k.Bool charged ∷ statements_notes c n l body) entry
        (expression_size test + 1 + statements_size n body) p
    statement_form_notes_length l (call w args) =
        around (expressions_notes c l args charged) (dropped_notes c w (n.gives w.text)) (behind_args c l args charged)
        (expressions_size args) (dropped_size (n.gives w.text)) (expressions_notes_length c l args charged)
        (dropped_notes_length c w (n.gives w.text))
    statement_form_notes_length l (return e) = returned_notes_length c l e
    statement_form_notes_length l (fork w args) =
        two (expressions_notes c l args charged) (behind_args c l args charged ∷ push k.Rev entry ∷ [])
        (expressions_size args) 2 (expressions_notes_length c l args charged) refl
    statement_form_notes_length l (join e) =
        and_one (expression_notes c l e charged) _ (expression_size e) (expression_notes_length c l e charged)
    statement_form_notes_length l (print items) =
        and_one (items_notes c l items charged) _ (items_size items) (items_notes_length c l items charged)
    statement_form_notes_length l (assert e) =
        and_one (expression_notes c l e charged) _ (expression_size e) (expression_notes_length c l e charged)

    pub statements_notes_length : (l : Locals) (xs : Statements)
        → length (statements_notes c n l xs) ≡ statements_size n xs
    statements_notes_length l no_statements = refl
    statements_notes_length l (statements x rest) =
        two (statement_notes c n l x) (statements_notes c n (locals_after c l x) rest) (statement_size n x)
        (statements_size n rest) (statement_notes_length l x) (statements_notes_length (locals_after c l x) rest)

    pub arms_notes_length : (l : Locals) (has_last : Bool) (arms : Arms)
        → length (arms_notes c n l has_last arms) ≡ arms_size n has_last arms
    arms_notes_length l has_last no_arms = refl
    arms_notes_length l has_last (arm test body rest) =
        let tested : List Note =
        expression_notes c l test charged ++ push k.Bool charged ∷ statements_notes c n l body in
        let p = around (expression_notes c l test charged) (statements_notes c n l body) (push k.Bool charged)
        (expression_size test) (statements_size n body) (expression_notes_length c l test charged)
        (statements_notes_length l body) in
        let q = two tested (leap_notes has_last rest) (expression_size test + 1 + statements_size n body)
        (leap_size has_last rest) p (leap_notes_length has_last rest) in
        two (tested ++ leap_notes has_last rest) (arms_notes c n l has_last rest)
        (expression_size test + 1 + statements_size n body + leap_size has_last rest) (arms_size n has_last rest) q
        (arms_notes_length l has_last rest)
