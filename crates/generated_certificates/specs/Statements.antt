-- The notes of the code of statements. Nothing is on the stack before and behind a statement, and
-- nothing is said there of payment, since its Charge comes first; what stands behind the Charge is
-- paid, up to a Call or Fork.
--   right_side_notes   of a right side, whose word the note `behind_right_side` has
--   statements_notes   a note for each instruction of a block
use Rattle.std.specs.Prelude.{Bool, true, false, if◌then◌else◌, Option, Some, None, List, [], ◌∷◌, ◌++◌}
use Rattle.rev_num.specs.declared.value.ValueKind.{ValueKind}
use Rattle.rev_num.specs.declared.value.ValueKind.TheVariants as k
use Rattle.rev_syntax.specs.Trees.{PlacedName, Expression, RightSide, plain, called, forked, tried, PrintItem, text, shown, Statement, statement, StatementForm, bind, assign, assign_cell, choose, choose_or, repeat, call, return, fork, join, print, assert, Statements, no_statements, statements, Arms, no_arms, arm}
use Rattle.typed_programs.specs.Kinds.{Names, Locals, result_of}
use Rattle.typed_programs.specs.Scopes.{locals_after}
use Rattle.code_rules.specs.Pass.{Note, entry}
use Rattle.code_rules.specs.Shapes.{kind_or_int}
use Rattle.code_generation.specs.Numbers.{Numbers}
use Rattle.generated_certificates.specs.Items.{push, charged}
use Rattle.generated_certificates.specs.Expressions.{word_kind, behind_args, expression_notes, expressions_notes}

-- ---- parts of statements

-- of a procedure that has one
abbrev pub result_kind : Names → PlacedName → ValueKind
result_kind c w = kind_or_int (result_of (c.procs w.text))

abbrev pub right_side_notes : Names → Locals → RightSide → List Note
right_side_notes c l (plain e) = expression_notes c l e charged
right_side_notes c l (called p w args) =
    expressions_notes c l args charged ++ behind_args c l args charged ∷ []
right_side_notes c l (forked p w args) =
    expressions_notes c l args charged ++ behind_args c l args charged ∷ []
right_side_notes c l (tried p handle) =
    expression_notes c l handle charged ++ push k.Rev charged ∷ []

-- behind a Call or Fork nothing is paid
abbrev pub behind_right_side : Names → Locals → RightSide → Note
behind_right_side c l (plain e) = push (word_kind c l e) charged
behind_right_side c l (called p w args) = push (result_kind c w) entry
behind_right_side c l (forked p w args) = push k.Rev entry
behind_right_side c l (tried p handle) = push k.Bool charged

-- the values of a print
abbrev pub items_notes : Names → Locals → List PrintItem → Note → List Note
items_notes c l [] n = []
items_notes c l (text p bytes ∷ items) n = items_notes c l items n
items_notes c l (shown e ∷ items) n =
    expression_notes c l e n ++ items_notes c l items (push (word_kind c l e) n)

abbrev pub behind_items : Names → Locals → List PrintItem → Note → Note
behind_items c l [] n = n
behind_items c l (text p bytes ∷ items) n = behind_items c l items n
behind_items c l (shown e ∷ items) n = behind_items c l items (push (word_kind c l e) n)

abbrev pub returned_notes : Names → Locals → Option Expression → List Note
returned_notes c l None = charged ∷ []
returned_notes c l (Some e) = expression_notes c l e charged ++ push (word_kind c l e) charged ∷ []

-- the Pop behind a call that leaves a result
abbrev pub dropped_notes : Names → PlacedName → (gives : Bool) → List Note
dropped_notes c w gives = if gives then push (result_kind c w) entry ∷ [] else []

-- the jump to the end behind the block of an arm
abbrev pub leap_notes : (has_last : Bool) → (rest : Arms) → List Note
leap_notes false no_arms = []
leap_notes true no_arms = entry ∷ []
leap_notes has_last (arm test body rest) = entry ∷ []

-- ---- statements

abbrev mutual
  pub statement_notes : Names → Numbers → Locals → Statement → List Note
  statement_notes c n l (statement p line form) = entry ∷ statement_form_notes c n l form

  pub statement_form_notes : Names → Numbers → Locals → StatementForm → List Note
  statement_form_notes c n l (bind w r) = right_side_notes c l r ++ behind_right_side c l r ∷ []
  statement_form_notes c n l (assign w r) = right_side_notes c l r ++ behind_right_side c l r ∷ []
  statement_form_notes c n l (assign_cell w index e) =
      expression_notes c l index charged
      ++ push k.Int charged
      ∷ expression_notes c l e (push k.Int charged)
      ++ push (word_kind c l e) (push k.Int charged)
      ∷ []
  statement_form_notes c n l (choose arms) = arms_notes c n l false arms
  statement_form_notes c n l (choose_or arms last) =
      arms_notes c n l true arms ++ statements_notes c n l last
  statement_form_notes c n l (repeat test body) =
      expression_notes c l test charged
      ++ push k.Bool charged
      ∷ statements_notes c n l body
      ++ entry
      ∷ []
  statement_form_notes c n l (call w args) =
      expressions_notes c l args charged
      ++ behind_args c l args charged
      ∷ dropped_notes c w (n.gives w.text)
  statement_form_notes c n l (return e) = returned_notes c l e
  statement_form_notes c n l (fork w args) =
      expressions_notes c l args charged ++ behind_args c l args charged ∷ push k.Rev entry ∷ []
  statement_form_notes c n l (join e) = expression_notes c l e charged ++ push k.Rev charged ∷ []
  statement_form_notes c n l (print items) =
      items_notes c l items charged ++ behind_items c l items charged ∷ []
  statement_form_notes c n l (assert e) = expression_notes c l e charged ++ push k.Bool charged ∷ []

  pub statements_notes : Names → Numbers → Locals → Statements → List Note
  statements_notes c n l no_statements = []
  statements_notes c n l (statements s rest) =
      statement_notes c n l s ++ statements_notes c n (locals_after c l s) rest

  pub arms_notes : Names → Numbers → Locals → (has_last : Bool) → Arms → List Note
  arms_notes c n l has_last no_arms = []
  arms_notes c n l has_last (arm test body rest) =
      expression_notes c l test charged
      ++ push k.Bool charged
      ∷ statements_notes c n l body
      ++ leap_notes has_last rest
      ++ arms_notes c n l has_last rest
