-- There are as many notes as instructions, and the first note of an expression is the one that it begins with.
use Rattle.std.proofs.Common.{◌≡◌, ℕ, ◌+◌, List, [], ◌∷◌, ◌++◌, length, length-append, refl, arith}
use Rattle.rev_num.specs.declared.value.ValueKind.{ValueKind}
use Rattle.rev_num.specs.declared.value.ValueKind.TheVariants as k
use Rattle.rev_syntax.specs.Trees.{Expression, placed, ExpressionForm, Expressions, Links, int, bool, no_rev, var, cell, apply, input, inputs, pick, unary, chain, no_expressions, expression, no_links, link}
use Rattle.rev_syntax.specs.declared.tree.BinaryOp.{BinaryOp}
use Rattle.rev_syntax.specs.declared.tree.BinaryOp.TheVariants as b
use Rattle.typed_programs.specs.Kinds.{Names, Locals, operand_kind, given_kind}
use Rattle.code_rules.specs.Pass.{Note}
use Rattle.code_generation.specs.Expressions.{expression_size, form_size, expressions_size, links_size, link_size}
use Rattle.code_generation.proofs.Lengths.{two, and_one, around}
use Rattle.code_generation.specs.Stands.{HasItems}
use Rattle.code_generation.proofs.Standing.{parts_stand}
use Rattle.generated_certificates.specs.Items.{noted, push}
use Rattle.generated_certificates.specs.Expressions.{word_kind, link_notes, behind_args, expression_notes, form_notes, expressions_notes, links_notes}
use Rattle.generated_certificates.proofs.Parts.{note_here}

pub link_notes_length : (op : BinaryOp) (size : ℕ) (operand : Note → List Note) (left right : ValueKind) (n : Note)
    → ((m : Note) → length (operand m) ≡ size) → length (link_notes op operand left right n) ≡ link_size op size
link_notes_length b.And size operand left right n h =
    let r = length-append (operand n) (push right n ∷ n ∷ []) in let z = h n in omega (arith, r, z)
link_notes_length b.Or size operand left right n h =
    let r = length-append (operand n) (push right n ∷ n ∷ []) in let z = h n in omega (arith, r, z)
link_notes_length b.Add size operand left right n h = and_one (operand (push left n)) _ size (h (push left n))
link_notes_length b.Sub size operand left right n h = and_one (operand (push left n)) _ size (h (push left n))
link_notes_length b.Mul size operand left right n h = and_one (operand (push left n)) _ size (h (push left n))
link_notes_length b.Div size operand left right n h = and_one (operand (push left n)) _ size (h (push left n))
link_notes_length b.Rem size operand left right n h = and_one (operand (push left n)) _ size (h (push left n))
link_notes_length b.Eq size operand left right n h = and_one (operand (push left n)) _ size (h (push left n))
link_notes_length b.Ne size operand left right n h = and_one (operand (push left n)) _ size (h (push left n))
link_notes_length b.Lt size operand left right n h = and_one (operand (push left n)) _ size (h (push left n))
link_notes_length b.Le size operand left right n h = and_one (operand (push left n)) _ size (h (push left n))
link_notes_length b.Gt size operand left right n h = and_one (operand (push left n)) _ size (h (push left n))
link_notes_length b.Ge size operand left right n h = and_one (operand (push left n)) _ size (h (push left n))

module _ (c : Names) (l : Locals) where
  mutual
    pub expression_notes_length : (e : Expression) (n : Note) → length (expression_notes c l e n) ≡ expression_size e
    expression_notes_length (placed p form) n = form_notes_length form n

    form_notes_length : (form : ExpressionForm) (n : Note) → length (form_notes c l form n) ≡ form_size form
    form_notes_length (int z) n = refl
    form_notes_length (bool x) n = refl
    form_notes_length no_rev n = refl
    form_notes_length (var w) n = refl
    form_notes_length (cell w index) n =
        and_one (expression_notes c l index n) _ (expression_size index) (expression_notes_length index n)
    form_notes_length (apply w args) n =
        and_one (expressions_notes c l args n) _ (expressions_size args) (expressions_notes_length args n)
    form_notes_length (input p index) n =
        and_one (expression_notes c l index n) _ (expression_size index) (expression_notes_length index n)
    form_notes_length (inputs p) n = refl
    form_notes_length (pick test x y) n =
        let p = around (expression_notes c l test n) (expression_notes c l x n) (push k.Bool n) (expression_size test)
        (expression_size x) (expression_notes_length test n) (expression_notes_length x n) in
        around (expression_notes c l test n ++ push k.Bool n ∷ expression_notes c l x n) (expression_notes c l y n)
        (push (word_kind c l x) n) (expression_size test + 1 + expression_size x) (expression_size y) p
        (expression_notes_length y n)
    form_notes_length (unary op e) n =
        and_one (expression_notes c l e n) _ (expression_size e) (expression_notes_length e n)
    form_notes_length (chain first rest) n =
        two (expression_notes c l first n) (links_notes c l rest (word_kind c l first) n) (expression_size first)
        (links_size rest) (expression_notes_length first n) (links_notes_length rest (word_kind c l first) n)

    pub expressions_notes_length : (es : Expressions) (n : Note)
        → length (expressions_notes c l es n) ≡ expressions_size es
    expressions_notes_length no_expressions n = refl
    expressions_notes_length (expression e rest) n =
        two (expression_notes c l e n) (expressions_notes c l rest (push (word_kind c l e) n)) (expression_size e)
        (expressions_size rest) (expression_notes_length e n) (expressions_notes_length rest (push (word_kind c l e) n))

    pub links_notes_length : (ls : Links) (left : ValueKind) (n : Note)
        → length (links_notes c l ls left n) ≡ links_size ls
    links_notes_length no_links left n = refl
    links_notes_length (link op e rest) left n =
        two (link_notes op (λ m. expression_notes c l e m) left (word_kind c l e) n)
        (links_notes c l rest (given_kind op) n) (link_size op (expression_size e)) (links_size rest)
        (link_notes_length op (expression_size e) (λ m. expression_notes c l e m) left (word_kind c l e) n
        (λ m. expression_notes_length e m))
        (links_notes_length rest (given_kind op) n)

  module _ (ns : List Note) where
    mutual
      pub first_note : (e : Expression) (n : Note) (at : ℕ) → HasItems ns at (expression_notes c l e n)
          → noted ns at ≡ n
      first_note (placed p form) n at h = first_form form n at h

      first_form : (form : ExpressionForm) (n : Note) (at : ℕ) → HasItems ns at (form_notes c l form n)
          → noted ns at ≡ n
      first_form (int z) n at h = note_here ns at n h.0
      first_form (bool x) n at h = note_here ns at n h.0
      first_form no_rev n at h = note_here ns at n h.0
      first_form (var w) n at h = note_here ns at n h.0
      first_form (inputs p) n at h = note_here ns at n h.0
      first_form (cell w index) n at h =
          first_note index n at (parts_stand ns (expression_notes c l index n) (push k.Int n ∷ []) at
          (expression_size index) (expression_notes_length index n) h).0
      first_form (apply w no_expressions) n at h = note_here ns at n h.0
      first_form (apply w (expression e rest)) n at h =
          let m : Note = push (word_kind c l e) n in
          let es = parts_stand ns (expression_notes c l e n ++ expressions_notes c l rest m)
          (behind_args c l rest m ∷ []) at (expressions_size (expression e rest))
          (expressions_notes_length (expression e rest) n) h in
          first_note e n at (parts_stand ns (expression_notes c l e n) (expressions_notes c l rest m) at
          (expression_size e) (expression_notes_length e n) es.0).0
      first_form (input p index) n at h =
          first_note index n at (parts_stand ns (expression_notes c l index n) (push k.Int n ∷ []) at
          (expression_size index) (expression_notes_length index n) h).0
      first_form (pick test x y) n at h =
          let front : List Note = expression_notes c l test n ++ push k.Bool n ∷ expression_notes c l x n in
          let p = around (expression_notes c l test n) (expression_notes c l x n) (push k.Bool n) (expression_size test)
          (expression_size x) (expression_notes_length test n) (expression_notes_length x n) in
          let outer =
          parts_stand ns front (push (word_kind c l x) n ∷ expression_notes c l y n) at
          (expression_size test + 1 + expression_size x) p h in
          first_note test n at (parts_stand ns (expression_notes c l test n) (push k.Bool n ∷ expression_notes c l x n)
          at (expression_size test) (expression_notes_length test n) outer.0).0
      first_form (unary op e) n at h =
          first_note e n at (parts_stand ns (expression_notes c l e n) (push (operand_kind op) n ∷ []) at
          (expression_size e) (expression_notes_length e n) h).0
      first_form (chain first rest) n at h =
          first_note first n at (parts_stand ns (expression_notes c l first n)
          (links_notes c l rest (word_kind c l first) n) at (expression_size first) (expression_notes_length first n)
          h).0
