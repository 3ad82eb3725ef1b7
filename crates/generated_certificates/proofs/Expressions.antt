-- The notes of the code of an expression are a certificate of it.
use Rattle.std.proofs.Common.{◌≡◌, ◌∙◌, inr, ◌<◌, ◌≤◌, ℕ, suc, ◌+◌, Bool, true, false, not, ◌&&◌, List, [], ◌∷◌, ◌++◌, length, reverse, Option, Some, None, refl, sym, ap, subst, arith}
use Rattle.std.specs.Prelude.{slice_get, nat_lt}
use Rattle.std.proofs.lemmas.Bool.Decides.{nat_tests}
use Rattle.std.proofs.lemmas.Option.{slice_get_within}
use Rattle.rev_num.specs.declared.value.ValueKind.{ValueKind}
use Rattle.rev_num.specs.declared.value.ValueKind.TheVariants as k
use Rattle.rev_syntax.specs.Trees.{PlacedName, Parameter, Expression, placed, ExpressionForm, Expressions, Links, int, bool, no_rev, var, cell, apply, input, inputs, pick, unary, chain, no_expressions, expression, no_links, link}
use Rattle.rev_syntax.specs.Small.{expression_formed}
use Rattle.rev_syntax.specs.declared.tree.UnaryOp.{UnaryOp}
use Rattle.rev_syntax.specs.declared.tree.UnaryOp.TheVariants as u
use Rattle.rev_syntax.specs.declared.tree.BinaryOp.{BinaryOp}
use Rattle.rev_syntax.specs.declared.tree.BinaryOp.TheVariants as b
use Rattle.name_tables.specs.Names.{Name}
use Rattle.name_tables.specs.Table.{find}
use Rattle.typed_programs.specs.declared.names.Holder.{Holder}
use Rattle.typed_programs.specs.Kinds.{Callee, Names, Locals, operand_kind, given_kind}
use Rattle.typed_programs.specs.Typing.{ScalarHas, ArrayHas, TakesLeft, TakesRightSide, HasKind}
use Rattle.rev_code.specs.declared.code.Instr.{Instr}
use Rattle.rev_code.specs.declared.code.Instr.TheVariants as i
use Rattle.rev_code.specs.declared.code.Code.{Code}
use Rattle.rev_code.specs.declared.code.CodeBlock.{CodeBlock}
use Rattle.rev_code.specs.Step.{is_fun}
use Rattle.code_rules.specs.Shapes as sh
use Rattle.code_rules.specs.Shapes.{takes, var_kind, param_kinds, result_kinds, one_or_none}
use Rattle.code_rules.specs.Pass.{Note, has_class, is_scalar, is_array}
use Rattle.code_rules.specs.Pass as pass
use Rattle.code_soundness.specs.Certificate.{Fits, leaves}
use Rattle.code_generation.specs.Numbers.{Numbers, Scope}
use Rattle.code_generation.specs.Expressions.{expression_size, form_size, expressions_size, links_size, link_size, load, unary_code, link_code, pick_yes, pick_no, pick_end, expression_code, form_code, expressions_code, links_code}
use Rattle.code_generation.specs.Generated.{kinds_of}
use Rattle.code_generation.specs.Stands.{HasAt, HasItems}
use Rattle.code_generation.proofs.Standing.{parts_stand, around_stands}
use Rattle.code_generation.proofs.Lengths.{around, expression_length, expressions_length, link_length}
use Rattle.expression_meaning.specs.Applying.{AllApply}
use Rattle.expression_meaning.proofs.Typed.{Typed, FormTyped, ArgsTyped, LinksTyped}
use Rattle.expression_meaning.proofs.Typing.{typed}
use Rattle.generated_certificates.specs.Items.{noted, push}
use Rattle.generated_certificates.specs.Expressions.{word_kind, link_notes, behind_args, expression_notes, form_notes, expressions_notes, links_notes, expression_depth, form_depth, expressions_depth, links_depth}
use Rattle.generated_certificates.specs.Means.{FunMeans, NamesMean}
use Rattle.generated_certificates.specs.RulesKept.{IsWithin, IsKept, AllKept}
use Rattle.generated_certificates.proofs.Parts.{nothing, note_here, fits_eq, parts_kept, around_kept, one_kept}
use Rattle.generated_certificates.proofs.Lengths.{expression_notes_length, expressions_notes_length, link_notes_length, first_note}
use Rattle.generated_certificates.proofs.WordKinds.{kind_is}
use Rattle.generated_certificates.proofs.Places.{no, turned, finds_all, pure_fine, outside_fine, passes_on, pushes, if_false, if_true, jumps_on, turns, operates}

-- ---- depths

pub depth_some : (e : Expression) → 1 ≤ expression_depth e
depth_some (placed p (int z)) = omega arith
depth_some (placed p (bool z)) = omega arith
depth_some (placed p no_rev) = omega arith
depth_some (placed p (var w)) = omega arith
depth_some (placed p (cell w index)) = depth_some index
depth_some (placed p (apply w args)) = omega arith
depth_some (placed p (input q index)) = depth_some index
depth_some (placed p (inputs q)) = omega arith
depth_some (placed p (pick test x y)) = let h = depth_some test in omega (arith, h)
depth_some (placed p (unary op e)) = depth_some e
depth_some (placed p (chain first rest)) = let h = depth_some first in omega (arith, h)

module _ (code : Code) (at_block : ℕ) (bl : CodeBlock) (deepest : ℕ) (n : Numbers) (c : Names) (l : Locals)
    (scope : Scope) (w : IsWithin bl deepest) (m : NamesMean code bl n c l scope) (ns : List Note) where
  abbrev Can : Name → Callee → Type 0
  Can name f = FunMeans code at_block n name f

  abbrev Notes : ℕ → Note
  Notes at = noted ns at

  abbrev Keeps : ℕ → List Instr → Type 0
  Keeps at xs = AllKept code at_block bl (noted ns) deepest at xs

  abbrev Kept : ℕ → Instr → Type 0
  Kept at x = IsKept code at_block bl (noted ns) deepest at x

  move : (note : Note) (p q : ℕ) → p ≡ q → Fits note (noted ns p) → Fits note (noted ns q)
  move note p q e h = subst (λ z. Fits note (noted ns z)) e h

  -- ---- names

  loads : (x : PlacedName) (t : ValueKind) (at : ℕ) (note : Note) (f : Option (Option ValueKind)) (h : Option Holder)
      → find x.text l ≡ f → c.shared x.text ≡ h → ScalarHas f h t
      → slice_get bl.instrs at ≡ Some (load n x (find x.text scope)) → noted ns at ≡ note
      → suc (length note.shape) ≤ deepest → Fits (push t note) (noted ns (suc at))
      → Kept at (load n x (find x.text scope))
  loads x t at note (Some it) h p q has here note_is low fits =
      let d = m.locals x.text t (p ∙ ap Some has) in
      let less = slice_get_within bl.locals d.0 t d.2 in
      let lo : nat_lt d.0 (length bl.locals) ≡ true = grind (arith, nat_tests, less) in
      subst (λ o. Kept at (load n x o)) (sym d.1)
      (pushes code at_block bl deepest w ns at note t (i.LoadLocal d.0) (here ∙ ap (λ o. Some (load n x o)) d.1) note_is
      refl refl (pure_fine code at_block bl (i.LoadLocal d.0) refl refl) (ap not lo) refl refl refl
      (λ j. record { shape = sh.kind_or_int (d.2 j) ∷ note.shape; paid = note.paid }) low fits)
  loads x t at note None (Some h) p q has here note_is low fits =
      let none = m.free x.text p in
      let d = m.shared x.text h q in
      subst (λ o. Kept at (load n x o)) (sym none)
      (pushes code at_block bl deepest w ns at note t (i.LoadShared (n.var x.text))
      (here ∙ ap (λ o. Some (load n x o)) none) note_is refl refl
      (outside_fine code at_block bl (i.LoadShared (n.var x.text)) (ap is_scalar d.is ∙ ap not (d.array ∙ has.0))
      d.outside)
      refl refl refl refl
      (ap (λ o. record { shape = var_kind o ∷ note.shape; paid = note.paid }) d.is
      ∙ ap (λ z. record { shape = z ∷ note.shape; paid = note.paid }) (d.kind ∙ has.1))
      low fits)
  loads x t at note None None p q has here note_is low fits = absurd has

  cells : (x : PlacedName) (t : ValueKind) (at : ℕ) (note : Note) (f : Option (Option ValueKind)) (h : Option Holder)
      → find x.text l ≡ f → c.shared x.text ≡ h → ArrayHas f h t
      → slice_get bl.instrs at ≡ Some (i.LoadCell (n.var x.text)) → noted ns at ≡ push k.Int note
      → suc (length note.shape) ≤ deepest → Fits (push t note) (noted ns (suc at)) → Kept at (i.LoadCell (n.var x.text))
  cells x t at note (Some it) h p q has here note_is low fits = absurd has
  cells x t at note None None p q has here note_is low fits = absurd has
  cells x t at note None (Some h) p q has here note_is low fits =
      let d = m.shared x.text h q in
      turns code at_block bl deepest w ns at note k.Int t (i.LoadCell (n.var x.text)) here note_is refl refl
      (outside_fine code at_block bl (i.LoadCell (n.var x.text)) (ap is_array d.is ∙ (d.array ∙ has.0)) d.outside) refl
      refl refl refl
      (ap (λ o. record { shape = var_kind o ∷ note.shape; paid = note.paid }) d.is
      ∙ ap (λ z. record { shape = z ∷ note.shape; paid = note.paid }) (d.kind ∙ has.1))
      low fits

  -- ---- operators

  signs : (op : UnaryOp) (at : ℕ) (note : Note) → slice_get bl.instrs at ≡ Some (unary_code op)
      → noted ns at ≡ push (operand_kind op) note → suc (length note.shape) ≤ deepest
      → Fits (push (operand_kind op) note) (noted ns (suc at)) → Kept at (unary_code op)
  signs u.Neg at note here note_is low fits =
      turns code at_block bl deepest w ns at note k.Int k.Int i.Neg here note_is refl refl
      (pure_fine code at_block bl i.Neg refl refl) refl refl refl refl refl low fits
  signs u.Not at note here note_is low fits =
      turns code at_block bl deepest w ns at note k.Bool k.Bool i.Not here note_is refl refl
      (pure_fine code at_block bl i.Not refl refl) refl refl refl refl refl low fits

  -- an operator on two ints
  ints : (g left right : ValueKind) (x : Instr) (at : ℕ) (note : Note) → left ≡ k.Int → right ≡ k.Int
      → slice_get bl.instrs at ≡ Some x → noted ns at ≡ push right (push left note) → pass.target x ≡ None
      → pass.falls x ≡ true → pass.names code at_block x ≡ true → pass.is_pure x ≡ true → pass.bad_local bl x ≡ false
      → pass.is_bare x ≡ false → pass.is_paid_for x ≡ false
      → takes code bl (k.Int ∷ k.Int ∷ note.shape) x ≡ k.Int ∷ k.Int ∷ []
      → leaves code bl (push k.Int (push k.Int note)) x ≡ push g note → suc (length note.shape) ≤ deepest
      → Fits (push g note) (noted ns (suc at)) → Kept at x
  ints g left right x at note p q here note_is tg fa na pu lo ba pa ta le low fits =
      operates code at_block bl deepest w ns at note k.Int k.Int g x here
      (note_is ∙ (λ j. push (q j) (push (p j) note))) tg fa na pu lo ba pa ta le low fits

  equals : (left right : ValueKind) (at : ℕ) (note : Note) → (left ≡ k.Rev → ⊥) → right ≡ left
      → slice_get bl.instrs at ≡ Some i.Eq → noted ns at ≡ push right (push left note)
      → suc (length note.shape) ≤ deepest → Fits (push k.Bool note) (noted ns (suc at)) → Kept at i.Eq
  equals k.Int right at note p q here note_is low fits =
      operates code at_block bl deepest w ns at note k.Int k.Int k.Bool i.Eq here
      (note_is ∙ ap (λ z. push z (push k.Int note)) q) refl refl refl refl refl refl refl refl refl low fits
  equals k.Bool right at note p q here note_is low fits =
      operates code at_block bl deepest w ns at note k.Bool k.Bool k.Bool i.Eq here
      (note_is ∙ ap (λ z. push z (push k.Bool note)) q) refl refl refl refl refl refl refl refl refl low fits
  equals k.Rev right at note p q here note_is low fits = absurd (p refl)

  differs : (left right : ValueKind) (at : ℕ) (note : Note) → (left ≡ k.Rev → ⊥) → right ≡ left
      → slice_get bl.instrs at ≡ Some i.Ne → noted ns at ≡ push right (push left note)
      → suc (length note.shape) ≤ deepest → Fits (push k.Bool note) (noted ns (suc at)) → Kept at i.Ne
  differs k.Int right at note p q here note_is low fits =
      operates code at_block bl deepest w ns at note k.Int k.Int k.Bool i.Ne here
      (note_is ∙ ap (λ z. push z (push k.Int note)) q) refl refl refl refl refl refl refl refl refl low fits
  differs k.Bool right at note p q here note_is low fits =
      operates code at_block bl deepest w ns at note k.Bool k.Bool k.Bool i.Ne here
      (note_is ∙ ap (λ z. push z (push k.Bool note)) q) refl refl refl refl refl refl refl refl refl low fits
  differs k.Rev right at note p q here note_is low fits = absurd (p refl)

  -- the right operand, by where it stands
  Operand : (size depth : ℕ) (right : ValueKind) (xs : ℕ → List Instr) (operand : Note → List Note) → Type 0
  Operand size depth right xs operand =
      (note : Note) (at : ℕ) → HasAt bl.instrs at (xs at) → HasItems ns at (operand note)
      → length note.shape + depth ≤ deepest → Fits (push right note) (noted ns (at + size)) → Keeps at (xs at)

  as_operand : (size depth : ℕ) (right : ValueKind) (xs : ℕ → List Instr) (operand : Note → List Note)
      → ((note : Note) (at : ℕ) → HasAt bl.instrs at (xs at) → HasItems ns at (operand note)
      → length note.shape + depth ≤ deepest → Fits (push right note) (noted ns (at + size)) → Keeps at (xs at))
      → Operand size depth right xs operand
  unfolding Operand
  as_operand size depth right xs operand h = h

  -- both operands and the operator
  both : (x : Instr) (left right : ValueKind) (size depth at : ℕ) (xs : ℕ → List Instr) (operand : Note → List Note)
      (note : Note)
      → ((p : ℕ) → length (xs p) ≡ size) → ((z : Note) → length (operand z) ≡ size)
      → Operand size depth right xs operand
      → HasAt bl.instrs at (xs at ++ x ∷ [])
      → HasItems ns at (operand (push left note) ++ push right (push left note) ∷ [])
      → suc (length note.shape) + depth ≤ deepest
      → (slice_get bl.instrs (at + size) ≡ Some x → noted ns (at + size) ≡ push right (push left note)
      → Kept (at + size) x)
      → Keeps at (xs at ++ x ∷ [])
  unfolding Operand
  both x left right size depth at xs operand note len notes_len kept here there low last =
      let p = parts_stand bl.instrs (xs at) (x ∷ []) at size (len at) here in
      let q = parts_stand ns (operand (push left note)) (push right (push left note) ∷ []) at size
      (notes_len (push left note)) there in
      let e = note_here ns (at + size) (push right (push left note)) q.1.0 in
      one_kept code at_block bl (noted ns) deepest (xs at) x at size (len at)
      (kept (push left note) at p.0 q.0 low (fits_eq (push right (push left note)) (noted ns (at + size)) e))
      (last p.1.0 e)

  -- an operator that leaves out its right operand where the left one decides
  shortcut : (x : ℕ → Instr) (v : Bool) (size depth at : ℕ) (xs : ℕ → List Instr) (operand : Note → List Note)
      (note : Note)
      → ((p : ℕ) → length (xs p) ≡ size) → ((z : Note) → length (operand z) ≡ size)
      → ((z : Note) (p : ℕ) → HasItems ns p (operand z) → noted ns p ≡ z) → Operand size depth k.Bool xs operand
      → ((to : ℕ) → pass.target (x to) ≡ Some to)
      → ((p to : ℕ) → slice_get bl.instrs p ≡ Some (x to) → noted ns p ≡ push k.Bool note → p < to
      → length note.shape ≤ deepest → Fits note (noted ns (suc p)) → Fits note (noted ns to) → Kept p (x to))
      → HasAt bl.instrs at (x (at + 1 + size + 1) ∷ xs (at + 1) ++ i.Jump (at + size + 3) ∷ i.PushBool v ∷ [])
      → HasItems ns at (push k.Bool note ∷ operand note ++ push k.Bool note ∷ note ∷ [])
      → length note.shape + depth ≤ deepest → 1 ≤ depth → Fits (push k.Bool note) (noted ns (at + (size + 3)))
      → Keeps at (x (at + 1 + size + 1) ∷ xs (at + 1) ++ i.Jump (at + size + 3) ∷ i.PushBool v ∷ [])
  unfolding Operand
  shortcut x v size depth at xs operand note len notes_len firsts kept goal test here there low some fits =
      let next : suc at ≡ at + 1 = omega arith in
      let here1 =
      subst (λ z. HasAt bl.instrs z (xs (at + 1) ++ i.Jump (at + size + 3) ∷ i.PushBool v ∷ [])) next here.1 in
      let there1 = subst (λ z. HasItems ns z (operand note ++ push k.Bool note ∷ note ∷ [])) next there.1 in
      let p = parts_stand bl.instrs (xs (at + 1)) (i.Jump (at + size + 3) ∷ i.PushBool v ∷ []) (at + 1) size
      (len (at + 1)) here1 in
      let q = parts_stand ns (operand note) (push k.Bool note ∷ note ∷ []) (at + 1) size (notes_len note) there1 in
      let at_jump = note_here ns (at + 1 + size) (push k.Bool note) q.1.0 in
      let at_push = note_here ns (suc (at + 1 + size)) note q.1.1.0 in
      let to_push : suc (at + 1 + size) ≡ at + 1 + size + 1 = omega arith in
      let end1 : at + (size + 3) ≡ at + size + 3 = omega arith in
      let end2 : at + (size + 3) ≡ suc (suc (at + 1 + size)) = omega arith in
      let push_fits = fits_eq note (noted ns (suc (at + 1 + size))) at_push in (
        test at (at + 1 + size + 1) here.0 (note_here ns at (push k.Bool note) there.0) (omega arith)
            (omega (arith, low)) (fits_eq note (noted ns (suc at)) (ap (noted ns) next ∙ firsts note (at + 1) q.0))
            (move note _ _ to_push push_fits),
        subst (λ z. Keeps z (xs (at + 1) ++ i.Jump (at + size + 3) ∷ i.PushBool v ∷ [])) (sym next)
            (parts_kept code at_block bl (noted ns) deepest (xs (at + 1)) (i.Jump (at + size + 3) ∷ i.PushBool v ∷ [])
            (at + 1) size (len (at + 1))
            (kept note (at + 1) p.0 q.0 low (fits_eq (push k.Bool note) (noted ns (at + 1 + size)) at_jump)) (
              jumps_on code at_block bl deepest w ns (at + 1 + size) (at + size + 3) (push k.Bool note) p.1.0 at_jump
                  (omega arith) (omega (arith, low, some)) (move (push k.Bool note) _ _ end1 fits)
                  (inr (record {
                    from = at;
                    earlier = omega arith;
                    instr = x (at + 1 + size + 1);
                    is = here.0;
                    jumps = goal (at + 1 + size + 1) ∙ ap Some (sym to_push);
                  })),
              (
                pushes code at_block bl deepest w ns (suc (at + 1 + size)) note k.Bool (i.PushBool v) p.1.1.0 at_push
                    refl refl (pure_fine code at_block bl (i.PushBool v) refl refl) refl refl refl refl refl
                    (omega (arith, low, some)) (move (push k.Bool note) _ _ end2 fits),
                nothing,
              ),
            )),
      )

  link_kept : (op : BinaryOp) (left right : ValueKind) (size depth at : ℕ) (xs : ℕ → List Instr)
      (operand : Note → List Note) (note : Note)
      → TakesLeft op left → TakesRightSide op left right → ((p : ℕ) → length (xs p) ≡ size)
      → ((z : Note) → length (operand z) ≡ size) → ((z : Note) (p : ℕ) → HasItems ns p (operand z) → noted ns p ≡ z)
      → Operand size depth right xs operand → HasAt bl.instrs at (link_code op size xs at)
      → HasItems ns at (link_notes op operand left right note) → length note.shape + suc depth ≤ deepest → 1 ≤ depth
      → Fits (push (given_kind op) note) (noted ns (at + link_size op size)) → Keeps at (link_code op size xs at)
  link_kept b.And left right size depth at xs operand note lt rt len nl fs kept here there low some fits =
      shortcut i.JumpIfFalse false size depth at xs operand note len nl fs
      (subst (λ z. Operand size depth z xs operand) rt kept) (λ to. refl)
      (λ p to h q r s f g. if_false code at_block bl deepest w ns p to note h q r s f g) here
      (subst (λ z. HasItems ns at (push z note ∷ operand note ++ push k.Bool note ∷ note ∷ [])) lt
      (subst (λ z. HasItems ns at (push left note ∷ operand note ++ push z note ∷ note ∷ [])) rt there))
      (omega (arith, low)) some fits
  link_kept b.Or left right size depth at xs operand note lt rt len nl fs kept here there low some fits =
      shortcut i.JumpIfTrue true size depth at xs operand note len nl fs
      (subst (λ z. Operand size depth z xs operand) rt kept) (λ to. refl)
      (λ p to h q r s f g. if_true code at_block bl deepest w ns p to note h q r s f g) here
      (subst (λ z. HasItems ns at (push z note ∷ operand note ++ push k.Bool note ∷ note ∷ [])) lt
      (subst (λ z. HasItems ns at (push left note ∷ operand note ++ push z note ∷ note ∷ [])) rt there))
      (omega (arith, low)) some fits
  link_kept b.Add left right size depth at xs operand note lt rt len nl fs kept here there low some fits =
      both i.Add left right size depth at xs operand note len nl kept here there (omega (arith, low))
      (λ h q. ints k.Int left right i.Add (at + size) note lt rt h q refl refl refl refl refl refl refl refl refl
      (omega (arith, low, some))
      (move (push k.Int note) _ _ (let z : at + (size + 1) ≡ suc (at + size) = omega arith in z) fits))
  link_kept b.Sub left right size depth at xs operand note lt rt len nl fs kept here there low some fits =
      both i.Sub left right size depth at xs operand note len nl kept here there (omega (arith, low))
      (λ h q. ints k.Int left right i.Sub (at + size) note lt rt h q refl refl refl refl refl refl refl refl refl
      (omega (arith, low, some))
      (move (push k.Int note) _ _ (let z : at + (size + 1) ≡ suc (at + size) = omega arith in z) fits))
  link_kept b.Mul left right size depth at xs operand note lt rt len nl fs kept here there low some fits =
      both i.Mul left right size depth at xs operand note len nl kept here there (omega (arith, low))
      (λ h q. ints k.Int left right i.Mul (at + size) note lt rt h q refl refl refl refl refl refl refl refl refl
      (omega (arith, low, some))
      (move (push k.Int note) _ _ (let z : at + (size + 1) ≡ suc (at + size) = omega arith in z) fits))
  link_kept b.Div left right size depth at xs operand note lt rt len nl fs kept here there low some fits =
      both i.Div left right size depth at xs operand note len nl kept here there (omega (arith, low))
      (λ h q. ints k.Int left right i.Div (at + size) note lt rt h q refl refl refl refl refl refl refl refl refl
      (omega (arith, low, some))
      (move (push k.Int note) _ _ (let z : at + (size + 1) ≡ suc (at + size) = omega arith in z) fits))
  link_kept b.Rem left right size depth at xs operand note lt rt len nl fs kept here there low some fits =
      both i.Rem left right size depth at xs operand note len nl kept here there (omega (arith, low))
      (λ h q. ints k.Int left right i.Rem (at + size) note lt rt h q refl refl refl refl refl refl refl refl refl
      (omega (arith, low, some))
      (move (push k.Int note) _ _ (let z : at + (size + 1) ≡ suc (at + size) = omega arith in z) fits))
  link_kept b.Eq left right size depth at xs operand note lt rt len nl fs kept here there low some fits =
      both i.Eq left right size depth at xs operand note len nl kept here there (omega (arith, low))
      (λ h q. equals left right (at + size) note lt rt h q (omega (arith, low, some))
      (move (push k.Bool note) _ _ (let z : at + (size + 1) ≡ suc (at + size) = omega arith in z) fits))
  link_kept b.Ne left right size depth at xs operand note lt rt len nl fs kept here there low some fits =
      both i.Ne left right size depth at xs operand note len nl kept here there (omega (arith, low))
      (λ h q. differs left right (at + size) note lt rt h q (omega (arith, low, some))
      (move (push k.Bool note) _ _ (let z : at + (size + 1) ≡ suc (at + size) = omega arith in z) fits))
  link_kept b.Lt left right size depth at xs operand note lt rt len nl fs kept here there low some fits =
      both i.Lt left right size depth at xs operand note len nl kept here there (omega (arith, low))
      (λ h q. ints k.Bool left right i.Lt (at + size) note lt rt.0 h q refl refl refl refl refl refl refl refl refl
      (omega (arith, low, some))
      (move (push k.Bool note) _ _ (let z : at + (size + 1) ≡ suc (at + size) = omega arith in z) fits))
  link_kept b.Le left right size depth at xs operand note lt rt len nl fs kept here there low some fits =
      both i.Le left right size depth at xs operand note len nl kept here there (omega (arith, low))
      (λ h q. ints k.Bool left right i.Le (at + size) note lt rt.0 h q refl refl refl refl refl refl refl refl refl
      (omega (arith, low, some))
      (move (push k.Bool note) _ _ (let z : at + (size + 1) ≡ suc (at + size) = omega arith in z) fits))
  link_kept b.Gt left right size depth at xs operand note lt rt len nl fs kept here there low some fits =
      both i.Gt left right size depth at xs operand note len nl kept here there (omega (arith, low))
      (λ h q. ints k.Bool left right i.Gt (at + size) note lt rt.0 h q refl refl refl refl refl refl refl refl refl
      (omega (arith, low, some))
      (move (push k.Bool note) _ _ (let z : at + (size + 1) ≡ suc (at + size) = omega arith in z) fits))
  link_kept b.Ge left right size depth at xs operand note lt rt len nl fs kept here there low some fits =
      both i.Ge left right size depth at xs operand note len nl kept here there (omega (arith, low))
      (λ h q. ints k.Bool left right i.Ge (at + size) note lt rt.0 h q refl refl refl refl refl refl refl refl refl
      (omega (arith, low, some))
      (move (push k.Bool note) _ _ (let z : at + (size + 1) ≡ suc (at + size) = omega arith in z) fits))

  -- ---- arguments

  args_first : (args : Expressions) (note : Note) (at : ℕ) → HasItems ns at (expressions_notes c l args note)
      → Fits (behind_args c l args note) (noted ns (at + expressions_size args)) → Fits note (noted ns at)
  args_first no_expressions note at h fits = move note _ _ (let z : at + 0 ≡ at = omega arith in z) fits
  args_first (expression e rest) note at h fits =
      let q = parts_stand ns (expression_notes c l e note) (expressions_notes c l rest (push (word_kind c l e) note)) at
      (expression_size e) (expression_notes_length c l e note) h in
      fits_eq note (noted ns at) (first_note c l ns e note at q.0)

  -- the kinds of the parameters, the last on top
  pub args_behind : (ps : List Parameter) (args : Expressions) (note : Note) → ArgsTyped c l Can ps args
      → behind_args c l args note ≡ record { shape = reverse (kinds_of ps) ++ note.shape; paid = note.paid }
  args_behind [] no_expressions note h = refl
  args_behind [] (expression e rest) note h = absurd h
  args_behind (p ∷ ps) no_expressions note h = absurd h
  args_behind (p ∷ ps) (expression e rest) note h =
      args_behind ps rest (push (word_kind c l e) note) h.1
      ∙ ap (λ z. record { shape = reverse (kinds_of ps) ++ z ∷ note.shape; paid = note.paid })
      (kind_is c l Can e p.kind h.0)
      ∙ ap (λ z. record { shape = z; paid = note.paid }) (turned p.kind (kinds_of ps) note.shape)

  -- ---- links

  link_first : (op : BinaryOp) (operand : Note → List Note) (left right : ValueKind) (size : ℕ) (note : Note) (at : ℕ)
      → ((z : Note) → length (operand z) ≡ size) → ((z : Note) (p : ℕ) → HasItems ns p (operand z) → noted ns p ≡ z)
      → HasItems ns at (link_notes op operand left right note) → noted ns at ≡ push left note
  link_first b.And operand left right size note at len firsts h = note_here ns at (push left note) h.0
  link_first b.Or operand left right size note at len firsts h = note_here ns at (push left note) h.0
  link_first b.Add operand left right size note at len firsts h =
      firsts (push left note) at
      (parts_stand ns (operand (push left note)) (push right (push left note) ∷ []) at size (len (push left note)) h).0
  link_first b.Sub operand left right size note at len firsts h =
      firsts (push left note) at
      (parts_stand ns (operand (push left note)) (push right (push left note) ∷ []) at size (len (push left note)) h).0
  link_first b.Mul operand left right size note at len firsts h =
      firsts (push left note) at
      (parts_stand ns (operand (push left note)) (push right (push left note) ∷ []) at size (len (push left note)) h).0
  link_first b.Div operand left right size note at len firsts h =
      firsts (push left note) at
      (parts_stand ns (operand (push left note)) (push right (push left note) ∷ []) at size (len (push left note)) h).0
  link_first b.Rem operand left right size note at len firsts h =
      firsts (push left note) at
      (parts_stand ns (operand (push left note)) (push right (push left note) ∷ []) at size (len (push left note)) h).0
  link_first b.Eq operand left right size note at len firsts h =
      firsts (push left note) at
      (parts_stand ns (operand (push left note)) (push right (push left note) ∷ []) at size (len (push left note)) h).0
  link_first b.Ne operand left right size note at len firsts h =
      firsts (push left note) at
      (parts_stand ns (operand (push left note)) (push right (push left note) ∷ []) at size (len (push left note)) h).0
  link_first b.Lt operand left right size note at len firsts h =
      firsts (push left note) at
      (parts_stand ns (operand (push left note)) (push right (push left note) ∷ []) at size (len (push left note)) h).0
  link_first b.Le operand left right size note at len firsts h =
      firsts (push left note) at
      (parts_stand ns (operand (push left note)) (push right (push left note) ∷ []) at size (len (push left note)) h).0
  link_first b.Gt operand left right size note at len firsts h =
      firsts (push left note) at
      (parts_stand ns (operand (push left note)) (push right (push left note) ∷ []) at size (len (push left note)) h).0
  link_first b.Ge operand left right size note at len firsts h =
      firsts (push left note) at
      (parts_stand ns (operand (push left note)) (push right (push left note) ∷ []) at size (len (push left note)) h).0

  links_first : (rest : Links) (left t : ValueKind) (note : Note) (at : ℕ) → LinksTyped c l Can left rest t
      → HasItems ns at (links_notes c l rest left note) → Fits (push t note) (noted ns (at + links_size rest))
      → Fits (push left note) (noted ns at)
  links_first no_links left t note at ty h fits =
      subst (λ z. Fits (push z note) (noted ns at)) (sym ty)
      (move (push t note) _ _ (let z : at + 0 ≡ at = omega arith in z) fits)
  links_first (link op e rest) left t note at ty h fits =
      let operand : Note → List Note = λ z. expression_notes c l e z in
      let q = parts_stand ns (link_notes op operand left (word_kind c l e) note)
      (links_notes c l rest (given_kind op) note) at (link_size op (expression_size e))
      (link_notes_length op (expression_size e) operand left (word_kind c l e) note
      (λ z. expression_notes_length c l e z))
      h in
      fits_eq (push left note) (noted ns at)
      (link_first op operand left (word_kind c l e) (expression_size e) note at (λ z. expression_notes_length c l e z)
      (λ z p it. first_note c l ns e z p it) q.0)

  -- ---- all forms

  mutual
    pub expression_kept : (e : Expression) (t : ValueKind) (at : ℕ) (note : Note) → Typed c l Can e t
        → HasAt bl.instrs at (expression_code n scope e at) → HasItems ns at (expression_notes c l e note)
        → length note.shape + expression_depth e ≤ deepest → Fits (push t note) (noted ns (at + expression_size e))
        → Keeps at (expression_code n scope e at)
    expression_kept (placed p form) t at note ty here there low fits = form_kept form t at note ty here there low fits

    form_kept : (form : ExpressionForm) (t : ValueKind) (at : ℕ) (note : Note) → FormTyped c l Can form t
        → HasAt bl.instrs at (form_code n scope form at) → HasItems ns at (form_notes c l form note)
        → length note.shape + form_depth form ≤ deepest → Fits (push t note) (noted ns (at + form_size form))
        → Keeps at (form_code n scope form at)
    form_kept (int z) t at note ty here there low fits = (
      pushes code at_block bl deepest w ns at note k.Int (i.PushInt z) here.0 (note_here ns at note there.0) refl
          refl (pure_fine code at_block bl (i.PushInt z) refl refl) refl refl refl refl refl (omega (arith, low))
          (move (push k.Int note) _ _ (let q : at + 1 ≡ suc at = omega arith in q)
          (subst (λ q. Fits (push q note) (noted ns (at + 1))) ty fits)),
      nothing,
    )
    form_kept (bool z) t at note ty here there low fits = (
      pushes code at_block bl deepest w ns at note k.Bool (i.PushBool z) here.0 (note_here ns at note there.0) refl
          refl (pure_fine code at_block bl (i.PushBool z) refl refl) refl refl refl refl refl (omega (arith, low))
          (move (push k.Bool note) _ _ (let q : at + 1 ≡ suc at = omega arith in q)
          (subst (λ q. Fits (push q note) (noted ns (at + 1))) ty fits)),
      nothing,
    )
    form_kept no_rev t at note ty here there low fits = (
      pushes code at_block bl deepest w ns at note k.Rev i.PushNone here.0 (note_here ns at note there.0) refl refl
          (pure_fine code at_block bl i.PushNone refl refl) refl refl refl refl refl (omega (arith, low))
          (move (push k.Rev note) _ _ (let q : at + 1 ≡ suc at = omega arith in q)
          (subst (λ q. Fits (push q note) (noted ns (at + 1))) ty fits)),
      nothing,
    )
    form_kept (inputs p) t at note ty here there low fits = (
      pushes code at_block bl deepest w ns at note k.Int i.CountInput here.0 (note_here ns at note there.0) refl
          refl (outside_fine code at_block bl i.CountInput refl (m.inputs ty.1)) refl refl refl refl refl
          (omega (arith, low)) (move (push k.Int note) _ _ (let q : at + 1 ≡ suc at = omega arith in q)
          (subst (λ q. Fits (push q note) (noted ns (at + 1))) ty.0 fits)),
      nothing,
    )
    form_kept (var x) t at note ty here there low fits = (
      loads x t at note (find x.text l) (c.shared x.text) refl refl ty here.0 (note_here ns at note there.0)
          (omega (arith, low)) (move (push t note) _ _ (let q : at + 1 ≡ suc at = omega arith in q) fits),
      nothing,
    )
    form_kept (cell x index) t at note ty here there low fits =
        let size : ℕ = expression_size index in
        let some = depth_some index in
        let p = parts_stand bl.instrs (expression_code n scope index at) (i.LoadCell (n.var x.text) ∷ []) at size
        (expression_length n scope index at) here in
        let q = parts_stand ns (expression_notes c l index note) (push k.Int note ∷ []) at size
        (expression_notes_length c l index note) there in
        let e = note_here ns (at + size) (push k.Int note) q.1.0 in
        one_kept code at_block bl (noted ns) deepest (expression_code n scope index at) (i.LoadCell (n.var x.text)) at
        size (expression_length n scope index at)
        (expression_kept index k.Int at note ty.1 p.0 q.0 low (fits_eq (push k.Int note) (noted ns (at + size)) e))
        (cells x t (at + size) note (find x.text l) (c.shared x.text) refl refl ty.0 p.1.0 e (omega (arith, low, some))
        (move (push t note) _ _ (let z : at + (size + 1) ≡ suc (at + size) = omega arith in z) fits))
    form_kept (apply x args) t at note ty here there low fits =
        let size : ℕ = expressions_size args in
        let f : FunMeans code at_block n x.text ty.0 = ty.3 in
        let p = parts_stand bl.instrs (expressions_code n scope args at) (i.Apply (n.fun x.text) ∷ []) at size
        (expressions_length n scope args at) here in
        let q = parts_stand ns (expressions_notes c l args note) (behind_args c l args note ∷ []) at size
        (expressions_notes_length c l args note) there in
        let e = note_here ns (at + size) (behind_args c l args note) q.1.0 in
        let before = args_behind ty.0.params args note ty.4 in
        let less = f.earlier in
        let early : nat_lt (n.fun x.text) at_block ≡ true = grind (arith, nat_tests, less) in
        one_kept code at_block bl (noted ns) deepest (expressions_code n scope args at) (i.Apply (n.fun x.text)) at size
        (expressions_length n scope args at)
        (args_kept ty.0.params args at note ty.4 p.0 q.0 (omega (arith, low))
        (fits_eq (behind_args c l args note) (noted ns (at + size)) e))
        (passes_on code at_block bl deepest w ns (at + size)
        (record { shape = reverse (kinds_of ty.0.params) ++ note.shape; paid = note.paid }) (push t note)
        (i.Apply (n.fun x.text)) p.1.0 (e ∙ before) refl refl
        (pure_fine code at_block bl (i.Apply (n.fun x.text))
        ((λ j. early j && has_class is_fun (f.is j)) ∙ ap is_fun f.class) refl)
        refl
        (finds_all code at_block bl (kinds_of ty.0.params) (t ∷ []) note.shape note.paid (i.Apply (n.fun x.text))
        (ap (λ o. reverse (param_kinds o)) f.is ∙ ap reverse f.params)
        (ap result_kinds f.is ∙ ap one_or_none (f.result ∙ ty.2)) (λ h. no h) (λ h. no h))
        (omega (arith, low))
        (move (push t note) _ _ (let z : at + (size + 1) ≡ suc (at + size) = omega arith in z) fits))
    form_kept (input p0 index) t at note ty here there low fits =
        let size : ℕ = expression_size index in
        let some = depth_some index in
        let p = parts_stand bl.instrs (expression_code n scope index at) (i.LoadInput ∷ []) at size
        (expression_length n scope index at) here in
        let q = parts_stand ns (expression_notes c l index note) (push k.Int note ∷ []) at size
        (expression_notes_length c l index note) there in
        let e = note_here ns (at + size) (push k.Int note) q.1.0 in
        one_kept code at_block bl (noted ns) deepest (expression_code n scope index at) i.LoadInput at size
        (expression_length n scope index at)
        (expression_kept index k.Int at note ty.2 p.0 q.0 low (fits_eq (push k.Int note) (noted ns (at + size)) e))
        (turns code at_block bl deepest w ns (at + size) note k.Int k.Int i.LoadInput p.1.0 e refl refl
        (outside_fine code at_block bl i.LoadInput refl (m.inputs ty.1)) refl refl refl refl refl
        (omega (arith, low, some))
        (move (push k.Int note) _ _ (let z : at + (size + 1) ≡ suc (at + size) = omega arith in z)
        (subst (λ z. Fits (push z note) (noted ns (at + (size + 1)))) ty.0 fits)))
    form_kept (unary op x) t at note ty here there low fits =
        let size : ℕ = expression_size x in
        let some = depth_some x in
        let p = parts_stand bl.instrs (expression_code n scope x at) (unary_code op ∷ []) at size
        (expression_length n scope x at) here in
        let q = parts_stand ns (expression_notes c l x note) (push (operand_kind op) note ∷ []) at size
        (expression_notes_length c l x note) there in
        let e = note_here ns (at + size) (push (operand_kind op) note) q.1.0 in
        one_kept code at_block bl (noted ns) deepest (expression_code n scope x at) (unary_code op) at size
        (expression_length n scope x at)
        (expression_kept x (operand_kind op) at note ty.1 p.0 q.0 low
        (fits_eq (push (operand_kind op) note) (noted ns (at + size)) e))
        (signs op (at + size) note p.1.0 e (omega (arith, low, some))
        (move (push (operand_kind op) note) _ _ (let z : at + (size + 1) ≡ suc (at + size) = omega arith in z)
        (subst (λ z. Fits (push z note) (noted ns (at + (size + 1)))) ty.0 fits)))
    form_kept (pick test x y) t at note ty here there low fits =
        let st : ℕ = expression_size test in
        let sx : ℕ = expression_size x in
        let sy : ℕ = expression_size y in
        let some = depth_some test in
        let tx : word_kind c l x ≡ t = kind_is c l Can x t ty.1 in
        let there2 =
        subst (λ z.
        HasItems ns at (expression_notes c l test note ++ push k.Bool note ∷ expression_notes c l x note ++ push z note
        ∷ expression_notes c l y note))
        tx there in
        let code1 : List Instr =
        expression_code n scope test at ++ i.JumpIfFalse (pick_no at test x)
        ∷ expression_code n scope x (pick_yes at test) in
        let notes1 : List Note = expression_notes c l test note ++ push k.Bool note ∷ expression_notes c l x note in
        let len1 =
        around (expression_code n scope test at) (expression_code n scope x (pick_yes at test))
        (i.JumpIfFalse (pick_no at test x)) st sx (expression_length n scope test at)
        (expression_length n scope x (pick_yes at test)) in
        let len2 =
        around (expression_notes c l test note) (expression_notes c l x note) (push k.Bool note) st sx
        (expression_notes_length c l test note) (expression_notes_length c l x note) in
        let no_at : pick_no at test x ≡ at + (st + 1 + sx) + 1 = omega arith in
        let yes_at : pick_yes at test ≡ at + st + 1 = omega arith in
        let p = around_stands bl.instrs code1 (expression_code n scope y (pick_no at test x))
        (i.Jump (pick_end at test x y)) at (st + 1 + sx) (pick_no at test x) len1 no_at here in
        let q = around_stands ns notes1 (expression_notes c l y note) (push t note) at (st + 1 + sx) (pick_no at test x)
        len2 no_at there2 in
        let p1 = around_stands bl.instrs (expression_code n scope test at)
        (expression_code n scope x (pick_yes at test)) (i.JumpIfFalse (pick_no at test x)) at st (pick_yes at test)
        (expression_length n scope test at) yes_at p.0 in
        let q1 = around_stands ns (expression_notes c l test note) (expression_notes c l x note) (push k.Bool note) at
        st (pick_yes at test) (expression_notes_length c l test note) yes_at q.0 in
        let e_test = note_here ns (at + st) (push k.Bool note) q1.1.0 in
        let e_jump = note_here ns (at + (st + 1 + sx)) (push t note) q.1.0 in
        let first_x = first_note c l ns x note (pick_yes at test) q1.1.1 in
        let first_y = first_note c l ns y note (pick_no at test x) q.1.1 in
        let x_end : at + (st + 1 + sx) ≡ pick_yes at test + sx = omega arith in
        let after_test : suc (at + st) ≡ pick_yes at test = omega arith in
        let after_jump : suc (at + (st + 1 + sx)) ≡ pick_no at test x = omega arith in
        let all_end : at + (st + 1 + sx + 1 + sy) ≡ pick_end at test x y = omega arith in
        around_kept code at_block bl (noted ns) deepest code1 (expression_code n scope y (pick_no at test x))
        (i.Jump (pick_end at test x y)) at (st + 1 + sx) (pick_no at test x) len1 no_at
        (around_kept code at_block bl (noted ns) deepest (expression_code n scope test at)
        (expression_code n scope x (pick_yes at test)) (i.JumpIfFalse (pick_no at test x)) at st (pick_yes at test)
        (expression_length n scope test at) yes_at
        (expression_kept test k.Bool at note ty.0 p1.0 q1.0 (omega (arith, low))
        (fits_eq (push k.Bool note) (noted ns (at + st)) e_test))
        (if_false code at_block bl deepest w ns (at + st) (pick_no at test x) note p1.1.0 e_test (omega arith)
        (omega (arith, low, some)) (fits_eq note (noted ns (suc (at + st))) (ap (noted ns) after_test ∙ first_x))
        (fits_eq note (noted ns (pick_no at test x)) first_y))
        (expression_kept x t (pick_yes at test) note ty.1 p1.1.1 q1.1.1 (omega (arith, low))
        (fits_eq (push t note) (noted ns (pick_yes at test + sx)) (sym (ap (noted ns) x_end) ∙ e_jump))))
        (jumps_on code at_block bl deepest w ns (at + (st + 1 + sx)) (pick_end at test x y) (push t note) p.1.0 e_jump
        (omega arith) (omega (arith, low, some)) (move (push t note) _ _ all_end fits)
        (inr (record {
          from = at + st;
          earlier = omega arith;
          instr = i.JumpIfFalse (pick_no at test x);
          is = p1.1.0;
          jumps = ap Some (sym after_jump);
        })))
        (expression_kept y t (pick_no at test x) note ty.2 p.1.1 q.1.1 (omega (arith, low))
        (move (push t note) _ _ all_end fits))
    form_kept (chain first rest) t at note ty here there low fits =
        let size : ℕ = expression_size first in
        let left : ValueKind = ty.0 in
        let is_left : word_kind c l first ≡ left = kind_is c l Can first left ty.1 in
        let there2 =
        subst (λ z. HasItems ns at (expression_notes c l first note ++ links_notes c l rest z note)) is_left there in
        let p = parts_stand bl.instrs (expression_code n scope first at) (links_code n scope rest (at + size)) at size
        (expression_length n scope first at) here in
        let q = parts_stand ns (expression_notes c l first note) (links_notes c l rest left note) at size
        (expression_notes_length c l first note) there2 in
        let fits2 =
        move (push t note) _ _ (let z : at + (size + links_size rest) ≡ at + size + links_size rest = omega arith in z)
        fits in
        parts_kept code at_block bl (noted ns) deepest (expression_code n scope first at)
        (links_code n scope rest (at + size)) at size (expression_length n scope first at)
        (expression_kept first left at note ty.1 p.0 q.0 (omega (arith, low))
        (links_first rest left t note (at + size) ty.2 q.1 fits2))
        (links_kept rest left t (at + size) note ty.2 p.1 q.1 (omega (arith, low)) fits2)

    pub args_kept : (ps : List Parameter) (args : Expressions) (at : ℕ) (note : Note) → ArgsTyped c l Can ps args
        → HasAt bl.instrs at (expressions_code n scope args at) → HasItems ns at (expressions_notes c l args note)
        → length note.shape + expressions_depth args ≤ deepest
        → Fits (behind_args c l args note) (noted ns (at + expressions_size args))
        → Keeps at (expressions_code n scope args at)
    args_kept [] no_expressions at note ty here there low fits = nothing
    args_kept [] (expression e rest) at note ty here there low fits = absurd ty
    args_kept (p ∷ ps) no_expressions at note ty here there low fits = absurd ty
    args_kept (p ∷ ps) (expression e rest) at note ty here there low fits =
        let size : ℕ = expression_size e in
        let next : Note = push (word_kind c l e) note in
        let h = parts_stand bl.instrs (expression_code n scope e at) (expressions_code n scope rest (at + size)) at size
        (expression_length n scope e at) here in
        let q = parts_stand ns (expression_notes c l e note) (expressions_notes c l rest next) at size
        (expression_notes_length c l e note) there in
        let fits2 =
        move (behind_args c l rest next) _ _
        (let z : at + (size + expressions_size rest) ≡ at + size + expressions_size rest = omega arith in z) fits in
        let is = kind_is c l Can e p.kind ty.0 in
        parts_kept code at_block bl (noted ns) deepest (expression_code n scope e at)
        (expressions_code n scope rest (at + size)) at size (expression_length n scope e at)
        (expression_kept e p.kind at note ty.0 h.0 q.0 (omega (arith, low))
        (subst (λ z. Fits (push z note) (noted ns (at + size))) is (args_first rest next (at + size) q.1 fits2)))
        (args_kept ps rest (at + size) next ty.1 h.1 q.1 (omega (arith, low)) fits2)

    links_kept : (rest : Links) (left t : ValueKind) (at : ℕ) (note : Note) → LinksTyped c l Can left rest t
        → HasAt bl.instrs at (links_code n scope rest at) → HasItems ns at (links_notes c l rest left note)
        → length note.shape + links_depth rest ≤ deepest → Fits (push t note) (noted ns (at + links_size rest))
        → Keeps at (links_code n scope rest at)
    links_kept no_links left t at note ty here there low fits = nothing
    links_kept (link op e rest) left t at note ty here there low fits =
        let size : ℕ = link_size op (expression_size e) in
        let right : ValueKind = ty.0 in
        let is_right : word_kind c l e ≡ right = kind_is c l Can e right ty.1 in
        let operand : Note → List Note = λ z. expression_notes c l e z in
        let xs : ℕ → List Instr = λ p. expression_code n scope e p in
        let there2 =
        subst (λ z. HasItems ns at (link_notes op operand left z note ++ links_notes c l rest (given_kind op) note))
        is_right there in
        let len = link_length op (expression_size e) xs at (λ p. expression_length n scope e p) in
        let notes_len =
        link_notes_length op (expression_size e) operand left right note (λ z. expression_notes_length c l e z) in
        let p = parts_stand bl.instrs (link_code op (expression_size e) xs at) (links_code n scope rest (at + size)) at
        size len here in
        let q = parts_stand ns (link_notes op operand left right note) (links_notes c l rest (given_kind op) note) at
        size notes_len there2 in
        let fits2 =
        move (push t note) _ _ (let z : at + (size + links_size rest) ≡ at + size + links_size rest = omega arith in z)
        fits in
        parts_kept code at_block bl (noted ns) deepest (link_code op (expression_size e) xs at)
        (links_code n scope rest (at + size)) at size len
        (link_kept op left right (expression_size e) (expression_depth e) at xs operand note ty.2 ty.3
        (λ z. expression_length n scope e z) (λ z. expression_notes_length c l e z)
        (λ z j it. first_note c l ns e z j it)
        (as_operand (expression_size e) (expression_depth e) right xs operand
        (λ z j h g b f. expression_kept e right j z ty.1 h g b f))
        p.0 q.0 (omega (arith, low)) (depth_some e)
        (links_first rest (given_kind op) t note (at + size) ty.4 q.1 fits2))
        (links_kept rest (given_kind op) t (at + size) note ty.4 p.1 q.1 (omega (arith, low)) fits2)

pub expressions_certified : (code : Code) (at_block : ℕ) (bl : CodeBlock) (deepest : ℕ) (n : Numbers) (c : Names)
    (l : Locals) (scope : Scope)
    → IsWithin bl deepest → NamesMean code bl n c l scope
    → (ns : List Note) (e : Expression) (t : ValueKind) (at : ℕ) (note : Note) → HasKind c l e t
    → expression_formed e ≡ true → AllApply c (FunMeans code at_block n) e
    → HasAt bl.instrs at (expression_code n scope e at) → HasItems ns at (expression_notes c l e note)
    → length note.shape + expression_depth e ≤ deepest → Fits (push t note) (noted ns (at + expression_size e))
    → AllKept code at_block bl (noted ns) deepest at (expression_code n scope e at)
expressions_certified code at_block bl deepest n c l scope w m ns e t at note kind formed applies here there low fits =
    expression_kept code at_block bl deepest n c l scope w m ns e t at note
    (typed c l (FunMeans code at_block n) e t kind formed applies) here there low fits
