-- The notes of the code of statements are a certificate of it.
use Rattle.std.proofs.Common.{◌≡◌, ◌∙◌, inr, ◌<◌, ◌≤◌, ℕ, suc, ◌+◌, Bool, true, false, ◌&&◌, List, [], ◌∷◌, ◌++◌, length, Option, Some, None, refl, sym, ap, subst, arith}
use Rattle.std.specs.Prelude.{slice_get}
use Rattle.rev_num.specs.declared.value.ValueKind.{ValueKind}
use Rattle.rev_num.specs.declared.value.ValueKind.TheVariants as k
use Rattle.rev_syntax.specs.Trees.{Expression, Expressions, RightSide, plain, called, forked, tried, PrintItem, text, shown, no_expressions, expression, Statement, statement, StatementForm, bind, assign, assign_cell, choose, choose_or, repeat, call, return, fork, join, print, assert, Statements, no_statements, statements, Arms, no_arms, arm}
use Rattle.rev_syntax.specs.Small.{name_formed, expression_small, expressions_small, right_side_small, statement_small, statement_form_small, statements_small, arms_small}
use Rattle.name_tables.specs.Table.{find, added}
use Rattle.typed_programs.specs.Kinds.{Callee, Names, Locals}
use Rattle.typed_programs.specs.Typing.{HasKind}
use Rattle.typed_programs.specs.Judgement.{RightSideHas, StatementTyped, StatementFormTyped, StatementsTyped, ArmsTyped}
use Rattle.typed_programs.specs.Limits.{StatementPrints, StatementFormPrints, StatementsPrint, ArmsPrint, statement_lets, statements_lets, arms_lets}
use Rattle.typed_programs.specs.Scopes.{locals_after}
use Rattle.typed_programs.proofs.Scopes.{right_side_is, statement_scope}
use Rattle.rev_code.specs.declared.code.Instr.{Instr}
use Rattle.rev_code.specs.declared.code.Instr.TheVariants as i
use Rattle.rev_code.specs.declared.code.Code.{Code}
use Rattle.rev_code.specs.declared.code.CodeBlock.{CodeBlock}
use Rattle.code_rules.specs.Shapes.{one_or_none, kind_or_int}
use Rattle.code_rules.specs.Pass.{Note, entry, most_words}
use Rattle.code_soundness.specs.Certificate.{Fits}
use Rattle.code_generation.specs.Numbers.{Numbers, Scope, scope_after, scope_after_form}
use Rattle.code_generation.specs.Expressions.{expression_size, expressions_size, expression_code, expressions_code}
use Rattle.code_generation.specs.Sizes.{right_side_size, items_size, dropped_size, leap_size, statement_size, statement_form_size, statements_size, arms_size, statement_prints, statements_prints, arms_prints}
use Rattle.code_generation.specs.Statements.{Spot, ahead, behind_statement, behind_arms, store, right_side_code, items_code, dropped, leap, in_arm, next_arm, statement_code, statement_form_code, statements_code, arms_code}
use Rattle.code_generation.specs.Prints.{layout_of, statement_kinds, statement_form_kinds, statements_kinds, arms_kinds, statement_texts, statements_texts, arms_texts, statement_layouts, statement_form_layouts, statements_layouts, arms_layouts}
use Rattle.code_generation.specs.Stands.{HasAt, HasItems}
use Rattle.code_generation.proofs.Standing.{parts_stand, around_stands}
use Rattle.code_generation.proofs.Lengths.{two, around, expression_length, expressions_length, right_side_length, items_length, leap_length, statement_length, statements_length, arms_length, statement_locals, statements_locals, arms_locals, statement_prints_length, statements_prints_length, arms_prints_length}
use Rattle.generated_certificates.specs.Items.{noted, push, charged}
use Rattle.generated_certificates.specs.Expressions.{word_kind, behind_args, expression_notes, expressions_notes}
use Rattle.generated_certificates.specs.Statements.{right_side_notes, behind_right_side, items_notes, behind_items, returned_notes, dropped_notes, leap_notes, statement_notes, statement_form_notes, statements_notes, arms_notes}
use Rattle.generated_certificates.specs.Means.{FunMeans, NamesMean}
use Rattle.generated_certificates.specs.Bodies.{BodyMeans}
use Rattle.generated_certificates.specs.RulesKept.{IsWithin, IsKept, AllKept}
use Rattle.generated_certificates.proofs.Parts.{nothing, note_here, fits_eq, parts_kept, around_kept, one_kept}
use Rattle.generated_certificates.proofs.Lengths.{expression_notes_length, expressions_notes_length, first_note}
use Rattle.generated_certificates.proofs.StatementLengths.{right_side_notes_length, items_notes_length, leap_notes_length, statement_notes_length, statements_notes_length, arms_notes_length}
use Rattle.generated_certificates.proofs.WordKinds.{kind_is}
use Rattle.generated_certificates.proofs.Places.{if_false, jumps_on, jumps_back}
use Rattle.generated_certificates.proofs.Scopes.{name_bound}
use Rattle.generated_certificates.proofs.Pieces.{ReturnSmall, empty_fits, term_typed, term_kept, takes_one, into_local, stores, cell_stores, checks, charges, returned_kept, calls, forks_one, pops, dropped_kept, right_is, right_kept, items_kept, items_behind, prints}
use Rattle.typed_programs.proofs.Lists.{and_parts}

return_small : (e : Option Expression) → statement_form_small (return e) ≡ true → ReturnSmall e
return_small None s = tt
return_small (Some e) s = s

module _ (code : Code) (at_block : ℕ) (bl : CodeBlock) (n : Numbers) (c : Names) (result : Option ValueKind)
    (w : IsWithin bl most_words) (bm : BodyMeans code at_block bl n c) (res : bl.result ≡ result) (ns : List Note) where
  abbrev Keeps : ℕ → List Instr → Type 0
  Keeps at xs = AllKept code at_block bl (noted ns) most_words at xs

  abbrev Kept : ℕ → Instr → Type 0
  Kept at x = IsKept code at_block bl (noted ns) most_words at x

  abbrev Next : ℕ → Type 0
  Next at = Fits entry (noted ns at)

  abbrev Known : Locals → Scope → Type 0
  Known l scope = NamesMean code bl n c l scope

  next_at : (p q : ℕ) → p ≡ q → Fits entry (noted ns p) → Fits entry (noted ns q)
  next_at p q e h = subst (λ z. Fits entry (noted ns z)) e h

  next_eq : (p : ℕ) → noted ns p ≡ entry → Fits entry (noted ns p)
  next_eq p e = fits_eq entry (noted ns p) e

  -- a word, and what takes it
  taken : (l : Locals) (scope : Scope) → NamesMean code bl n c l scope
      → (e : Expression) (t : ValueKind) (at : ℕ) (x : Instr) → HasKind c l e t → expression_small e ≡ true
      → HasAt bl.instrs at (expression_code n scope e at ++ x ∷ [])
      → HasItems ns at (expression_notes c l e charged ++ push t charged ∷ [])
      → (slice_get bl.instrs (at + expression_size e) ≡ Some x → noted ns (at + expression_size e) ≡ push t charged
      → Kept (at + expression_size e) x)
      → Keeps at (expression_code n scope e at ++ x ∷ [])
  taken l scope m e t at x h s here there last =
      let size : ℕ = expression_size e in
      let p = parts_stand bl.instrs (expression_code n scope e at) (x ∷ []) at size (expression_length n scope e at)
      here in
      let q = parts_stand ns (expression_notes c l e charged) (push t charged ∷ []) at size
      (expression_notes_length c l e charged) there in
      let note = note_here ns (at + size) (push t charged) q.1.0 in
      one_kept code at_block bl (noted ns) most_words (expression_code n scope e at) x at size
      (expression_length n scope e at)
      (term_kept code at_block bl n c w bm ns l scope m e t at charged h s (omega arith) p.0 q.0
      (fits_eq (push t charged) (noted ns (at + size)) note))
      (last p.1.0 note)

  -- a right side, and what takes its word
  right_taken : (l : Locals) (scope : Scope) → NamesMean code bl n c l scope
      → (r : RightSide) (t : ValueKind) (at : ℕ) (x : Instr) → RightSideHas c l r t → right_side_small r ≡ true
      → HasAt bl.instrs at (right_side_code n scope r at ++ x ∷ [])
      → HasItems ns at (right_side_notes c l r ++ behind_right_side c l r ∷ [])
      → ((below : Note) → below.shape ≡ [] → slice_get bl.instrs (at + right_side_size r) ≡ Some x
      → noted ns (at + right_side_size r) ≡ push t below → Kept (at + right_side_size r) x)
      → Keeps at (right_side_code n scope r at ++ x ∷ [])
  right_taken l scope m r t at x h s here there last =
      let size : ℕ = right_side_size r in
      let p = parts_stand bl.instrs (right_side_code n scope r at) (x ∷ []) at size (right_side_length n scope r at)
      here in
      let q = parts_stand ns (right_side_notes c l r) (behind_right_side c l r ∷ []) at size
      (right_side_notes_length c l r) there in
      let note = note_here ns (at + size) (behind_right_side c l r) q.1.0 in
      let d = right_is code at_block bl n c w bm ns l r t h s in
      one_kept code at_block bl (noted ns) most_words (right_side_code n scope r at) x at size
      (right_side_length n scope r at)
      (right_kept code at_block bl n c w bm ns l scope m r t at h s p.0 q.0 note) (last d.0 d.1 p.1.0 (note ∙ d.2))

  -- ---- what a statement begins with

  pub statements_first : (l : Locals) (xs : Statements) (at : ℕ) → HasItems ns at (statements_notes c n l xs)
      → Fits entry (noted ns (at + statements_size n xs)) → Fits entry (noted ns at)
  statements_first l no_statements at h next = next_at _ _ (let z : at + 0 ≡ at = omega arith in z) next
  statements_first l (statements (statement p line form) rest) at h next = next_eq at (note_here ns at entry h.0)

  arms_first : (l : Locals) (has_last : Bool) (arms : Arms) (at : ℕ) → HasItems ns at (arms_notes c n l has_last arms)
      → Fits entry (noted ns (at + arms_size n has_last arms)) → Fits charged (noted ns at)
  arms_first l has_last no_arms at h next =
      empty_fits charged (noted ns at) refl (next_at _ _ (let z : at + 0 ≡ at = omega arith in z) next)
  arms_first l has_last (arm test body rest) at h next =
      let tested : List Note = expression_notes c l test charged ++ push k.Bool charged ∷ statements_notes c n l body in
      let size =
      around (expression_notes c l test charged) (statements_notes c n l body) (push k.Bool charged)
      (expression_size test) (statements_size n body) (expression_notes_length c l test charged)
      (statements_notes_length c n l body) in
      let both =
      two tested (leap_notes has_last rest) (expression_size test + 1 + statements_size n body)
      (leap_size has_last rest) size (leap_notes_length has_last rest) in
      let outer =
      parts_stand ns (tested ++ leap_notes has_last rest) (arms_notes c n l has_last rest) at
      (expression_size test + 1 + statements_size n body + leap_size has_last rest) both h in
      let front =
      parts_stand ns tested (leap_notes has_last rest) at (expression_size test + 1 + statements_size n body) size
      outer.0 in
      let inner =
      parts_stand ns (expression_notes c l test charged) (push k.Bool charged ∷ statements_notes c n l body) at
      (expression_size test) (expression_notes_length c l test charged) front.0 in
      fits_eq charged (noted ns at) (first_note c l ns test charged at inner.0)

  term_first : (l : Locals) (e : Expression) (t : ValueKind) (at : ℕ)
      → HasItems ns at (expression_notes c l e charged ++ push t charged ∷ []) → Fits charged (noted ns at)
  term_first l e t at h =
      fits_eq charged (noted ns at)
      (first_note c l ns e charged at
      (parts_stand ns (expression_notes c l e charged) (push t charged ∷ []) at (expression_size e)
      (expression_notes_length c l e charged) h).0)

  args_begin : (l : Locals) (args : Expressions) (at : ℕ) → HasItems ns at (expressions_notes c l args charged)
      → Fits (behind_args c l args charged) (noted ns (at + expressions_size args)) → Fits charged (noted ns at)
  args_begin l no_expressions at h fits =
      subst (λ z. Fits charged (noted ns z)) (let z : at + 0 ≡ at = omega arith in z) fits
  args_begin l (expression e rest) at h fits =
      let q = parts_stand ns (expression_notes c l e charged)
      (expressions_notes c l rest (push (word_kind c l e) charged)) at (expression_size e)
      (expression_notes_length c l e charged) h in
      fits_eq charged (noted ns at) (first_note c l ns e charged at q.0)

  items_begin : (l : Locals) (items : List PrintItem) (at : ℕ) → HasItems ns at (items_notes c l items charged)
      → Fits (behind_items c l items charged) (noted ns (at + items_size items)) → Fits charged (noted ns at)
  items_begin l [] at h fits = subst (λ z. Fits charged (noted ns z)) (let z : at + 0 ≡ at = omega arith in z) fits
  items_begin l (text p bytes ∷ items) at h fits = items_begin l items at h fits
  items_begin l (shown e ∷ items) at h fits =
      let q = parts_stand ns (expression_notes c l e charged) (items_notes c l items (push (word_kind c l e) charged))
      at (expression_size e) (expression_notes_length c l e charged) h in
      fits_eq charged (noted ns at) (first_note c l ns e charged at q.0)

  right_first : (l : Locals) (r : RightSide) (at : ℕ)
      → HasItems ns at (right_side_notes c l r ++ behind_right_side c l r ∷ []) → Fits charged (noted ns at)
  right_first l (plain e) at h = term_first l e (word_kind c l e) at h
  right_first l (called p x args) at h =
      let front =
      parts_stand ns (expressions_notes c l args charged ++ behind_args c l args charged ∷ [])
      (behind_right_side c l (called p x args) ∷ []) at (expressions_size args + 1)
      (right_side_notes_length c l (called p x args)) h in
      let q = parts_stand ns (expressions_notes c l args charged) (behind_args c l args charged ∷ []) at
      (expressions_size args) (expressions_notes_length c l args charged) front.0 in
      args_begin l args at q.0 (fits_eq (behind_args c l args charged) (noted ns (at + expressions_size args))
      (note_here ns (at + expressions_size args) (behind_args c l args charged) q.1.0))
  right_first l (forked p x args) at h =
      let front =
      parts_stand ns (expressions_notes c l args charged ++ behind_args c l args charged ∷ [])
      (behind_right_side c l (forked p x args) ∷ []) at (expressions_size args + 1)
      (right_side_notes_length c l (forked p x args)) h in
      let q = parts_stand ns (expressions_notes c l args charged) (behind_args c l args charged ∷ []) at
      (expressions_size args) (expressions_notes_length c l args charged) front.0 in
      args_begin l args at q.0 (fits_eq (behind_args c l args charged) (noted ns (at + expressions_size args))
      (note_here ns (at + expressions_size args) (behind_args c l args charged) q.1.0))
  right_first l (tried p handle) at h =
      let front =
      parts_stand ns (expression_notes c l handle charged ++ push k.Rev charged ∷ [])
      (behind_right_side c l (tried p handle) ∷ []) at (expression_size handle + 1)
      (right_side_notes_length c l (tried p handle)) h in
      term_first l handle k.Rev at front.0

  returned_first : (l : Locals) (e : Option Expression) (at : ℕ) → HasItems ns at (returned_notes c l e)
      → Fits charged (noted ns at)
  returned_first l None at h = fits_eq charged (noted ns at) (note_here ns at charged h.0)
  returned_first l (Some e) at h = term_first l e (word_kind c l e) at h

  -- the jump behind the block of an arm, behind which the arm's test jumps
  leaps : (from at end : ℕ) → slice_get bl.instrs at ≡ Some (i.Jump end) → noted ns at ≡ entry → from < at
      → slice_get bl.instrs from ≡ Some (i.JumpIfFalse (at + 1)) → at + 1 ≤ end → Fits entry (noted ns end)
      → Kept at (i.Jump end)
  leaps from at end here note less tests le next =
      let e : suc at ≡ at + 1 = omega arith in
      jumps_on code at_block bl most_words w ns at end entry here note (omega (arith, le)) (omega arith) next
      (inr (record {
        from = from;
        earlier = omega (arith, less);
        instr = i.JumpIfFalse (at + 1);
        is = tests;
        jumps = ap Some (sym e);
      }))

  -- with what stands at the end of the block
  leap_kept : (has_last : Bool) (rest : Arms) (from at end : ℕ) → HasAt bl.instrs at (leap has_last rest end)
      → HasItems ns at (leap_notes has_last rest) → from < at
      → slice_get bl.instrs from ≡ Some (i.JumpIfFalse (at + leap_size has_last rest))
      → at + leap_size has_last rest ≤ end → Fits entry (noted ns end)
      → Fits entry (noted ns (at + (leap_size has_last rest + arms_size n has_last rest)))
      → Keeps at (leap has_last rest end) × Fits entry (noted ns at)
  leap_kept true no_arms from at end here there less tests le next behind =
      let note = note_here ns at entry there.0 in
      ((leaps from at end here.0 note less tests le next, nothing), next_eq at note)
  leap_kept false no_arms from at end here there less tests le next behind =
      (nothing, next_at _ _ (let z : at + 0 ≡ at = omega arith in z) behind)
  leap_kept true (arm test body rest) from at end here there less tests le next behind =
      let note = note_here ns at entry there.0 in
      ((leaps from at end here.0 note less tests le next, nothing), next_eq at note)
  leap_kept false (arm test body rest) from at end here there less tests le next behind =
      let note = note_here ns at entry there.0 in
      ((leaps from at end here.0 note less tests le next, nothing), next_eq at note)

  -- ---- statements

  form_next : (l : Locals) (scope : Scope) (form : StatementForm) (l' : Locals) (local : ℕ)
      → NamesMean code bl n c l scope → StatementFormTyped c result l form l'
      → HasItems bl.locals local (statement_form_kinds c l form)
      → NamesMean code bl n c l' (scope_after_form scope local form)
  form_next l scope (bind x r) l' local m ty kinds =
      let here = kinds.0 ∙ ap (λ o. Some (kind_or_int o)) (right_side_is c l r ty.1.0 ty.1.1) in
      subst (λ z. NamesMean code bl n c z (added scope x.text local)) (sym ty.1.2)
      (name_bound code bl n c l scope x.text ty.1.0 local m ty.0.0 here)
  form_next l scope (assign x r) l' local m ty kinds = subst (λ z. NamesMean code bl n c z scope) (sym ty.1) m
  form_next l scope (assign_cell x index e) l' local m ty kinds =
      subst (λ z. NamesMean code bl n c z scope) (sym ty.1) m
  form_next l scope (choose arms) l' local m ty kinds = subst (λ z. NamesMean code bl n c z scope) (sym ty.1) m
  form_next l scope (choose_or arms last) l' local m ty kinds = subst (λ z. NamesMean code bl n c z scope) (sym ty.1) m
  form_next l scope (repeat test body) l' local m ty kinds = subst (λ z. NamesMean code bl n c z scope) (sym ty.1) m
  form_next l scope (call x args) l' local m ty kinds = subst (λ z. NamesMean code bl n c z scope) (sym ty.1) m
  form_next l scope (return e) l' local m ty kinds = subst (λ z. NamesMean code bl n c z scope) (sym ty.1) m
  form_next l scope (fork x args) l' local m ty kinds = subst (λ z. NamesMean code bl n c z scope) (sym ty.1) m
  form_next l scope (join e) l' local m ty kinds = subst (λ z. NamesMean code bl n c z scope) (sym ty.1) m
  form_next l scope (print items) l' local m ty kinds = subst (λ z. NamesMean code bl n c z scope) (sym ty.1) m
  form_next l scope (assert e) l' local m ty kinds = subst (λ z. NamesMean code bl n c z scope) (sym ty.1) m

  statement_next : (l : Locals) (scope : Scope) (x : Statement) (l' : Locals) (local : ℕ)
      → NamesMean code bl n c l scope → StatementTyped c result l x l'
      → HasItems bl.locals local (statement_kinds c l x) → NamesMean code bl n c l' (scope_after scope local x)
  statement_next l scope (statement p line form) l' local m ty kinds = form_next l scope form l' local m ty kinds

  mutual
    statement_kept : (l : Locals) (scope : Scope) (x : Statement) (l' : Locals) (texts : ℕ) (s : Spot)
        → NamesMean code bl n c l scope → StatementTyped c result l x l' → statement_small x ≡ true → StatementPrints x
        → HasItems bl.locals s.local (statement_kinds c l x)
        → HasItems code.layouts s.layout (statement_layouts c l texts x)
        → HasAt bl.instrs s.at (statement_code n scope x s) → HasItems ns s.at (statement_notes c n l x)
        → Fits entry (noted ns (s.at + statement_size n x)) → Keeps s.at (statement_code n scope x s)
    statement_kept l scope (statement p line form) l' texts s m ty sm pr kinds lays here there next =
        let e : suc s.at ≡ s.at + 1 = omega arith in
        let z : s.at + (1 + statement_form_size n form) ≡ s.at + 1 + statement_form_size n form = omega arith in
        let there2 = subst (λ p. HasItems ns p (statement_form_notes c n l form)) e there.1 in
        let rest =
        form_kept l scope form l' texts line s.at (ahead s 1) m ty sm pr kinds lays (omega arith) here.0
        (subst (λ p. HasAt bl.instrs p (statement_form_code n scope form s.at (ahead s 1))) e here.1) there2
        (next_at _ _ z next) in (
          charges code at_block bl n c w bm ns s.at line here.0 (note_here ns s.at entry there.0)
              (subst (λ p. Fits charged (noted ns p)) (sym e) rest.1),
          subst (λ p. Keeps p (statement_form_code n scope form s.at (ahead s 1))) (sym e) rest.0,
        )

    -- behind the Charge, which stands at `head`
    form_kept : (l : Locals) (scope : Scope) (form : StatementForm) (l' : Locals) (texts line head : ℕ) (s : Spot)
        → NamesMean code bl n c l scope → StatementFormTyped c result l form l' → statement_form_small form ≡ true
        → StatementFormPrints form → HasItems bl.locals s.local (statement_form_kinds c l form)
        → HasItems code.layouts s.layout (statement_form_layouts c l texts form)
        → head < s.at → slice_get bl.instrs head ≡ Some (i.Charge line)
        → HasAt bl.instrs s.at (statement_form_code n scope form head s)
        → HasItems ns s.at (statement_form_notes c n l form) → Fits entry (noted ns (s.at + statement_form_size n form))
        → Keeps s.at (statement_form_code n scope form head s) × Fits charged (noted ns s.at)
    form_kept l scope (bind x r) l' texts line head s m ty sm pr kinds lays less ch here there next =
        let size : ℕ = right_side_size r in
        let t : ValueKind = ty.1.0 in
        let has = ty.1.1 in
        let is = kinds.0 ∙ ap (λ o. Some (kind_or_int o)) (right_side_is c l r t has) in (
          right_taken l scope m r t s.at (i.StoreLocal s.local) has
              (and_parts (name_formed x) (right_side_small r) sm).1 here there
              (λ below empty h note.
              into_local code at_block bl n c w bm ns (s.at + size) s.local t below empty is h note
              (next_at _ _ (let z : s.at + (size + 1) ≡ suc (s.at + size) = omega arith in z) next)),
          right_first l r (s.at) there,
        )
    form_kept l scope (assign x r) l' texts line head s m ty sm pr kinds lays less ch here there next =
        let size : ℕ = right_side_size r in
        let t : ValueKind = ty.0.0 in (
          right_taken l scope m r t s.at (store n x (find x.text scope)) ty.0.2
              (and_parts (name_formed x) (right_side_small r) sm).1 here there
              (λ below empty h note.
              stores code at_block bl n c w bm ns l scope m x t (s.at + size) below (find x.text l) (c.shared x.text)
              refl refl ty.0.1 empty h note
              (next_at _ _ (let z : s.at + (size + 1) ≡ suc (s.at + size) = omega arith in z) next)),
          right_first l r s.at there,
        )
    form_kept l scope (assign_cell x index e) l' texts line head s m ty sm pr kinds lays less ch here there next =
        let t : ValueKind = ty.0.0 in
        let si : ℕ = expression_size index in
        let se : ℕ = expression_size e in
        let at2 : ℕ = s.at + si + 1 in
        let below : Note = push k.Int charged in
        let smalls = and_parts (name_formed x && expression_small index) (expression_small e) sm in
        let small_index = (and_parts (name_formed x) (expression_small index) smalls.0).1 in
        let kind =
        kind_is c l (FunMeans code at_block n) e t (term_typed code at_block bl n c w bm ns l e t ty.0.3 smalls.1).0 in
        let code1 : List Instr =
        expression_code n scope index s.at ++ i.CheckCell (n.var x.text) ∷ expression_code n scope e at2 in
        let notes1 : List Note = expression_notes c l index charged ++ below ∷ expression_notes c l e below in
        let len1 =
        around (expression_code n scope index s.at) (expression_code n scope e at2) (i.CheckCell (n.var x.text)) si se
        (expression_length n scope index s.at) (expression_length n scope e at2) in
        let len2 =
        around (expression_notes c l index charged) (expression_notes c l e below) below si se
        (expression_notes_length c l index charged) (expression_notes_length c l e below) in
        let there2 = subst (λ z. HasItems ns s.at (notes1 ++ push z below ∷ [])) kind there in
        let p = parts_stand bl.instrs code1 (i.StoreCell (n.var x.text) ∷ []) s.at (si + 1 + se) len1 here in
        let q = parts_stand ns notes1 (push t below ∷ []) s.at (si + 1 + se) len2 there2 in
        let p1 = around_stands bl.instrs (expression_code n scope index s.at) (expression_code n scope e at2)
        (i.CheckCell (n.var x.text)) s.at si at2 (expression_length n scope index s.at) refl p.0 in
        let q1 = around_stands ns (expression_notes c l index charged) (expression_notes c l e below) below s.at si at2
        (expression_notes_length c l index charged) refl q.0 in
        let e_check = note_here ns (s.at + si) below q1.1.0 in
        let e_store = note_here ns (s.at + (si + 1 + se)) (push t below) q.1.0 in
        let first_e = first_note c l ns e below at2 q1.1.1 in
        let after : suc (s.at + si) ≡ at2 = omega arith in
        let e_end : s.at + (si + 1 + se) ≡ at2 + se = omega arith in (
          one_kept code at_block bl (noted ns) most_words code1 (i.StoreCell (n.var x.text)) s.at (si + 1 + se) len1
              (around_kept code at_block bl (noted ns) most_words (expression_code n scope index s.at)
              (expression_code n scope e at2) (i.CheckCell (n.var x.text)) s.at si at2
              (expression_length n scope index s.at) refl
              (term_kept code at_block bl n c w bm ns l scope m index k.Int s.at charged ty.0.2 small_index
              (omega arith) p1.0 q1.0 (fits_eq below (noted ns (s.at + si)) e_check))
              (checks code at_block bl n c w bm ns l scope m x t (s.at + si) charged (find x.text l) (c.shared x.text)
              refl refl ty.0.1 (omega arith) p1.1.0 e_check
              (fits_eq below (noted ns (suc (s.at + si))) (ap (noted ns) after ∙ first_e)))
              (term_kept code at_block bl n c w bm ns l scope m e t at2 below ty.0.3 smalls.1 (omega arith) p1.1.1
              q1.1.1 (fits_eq (push t below) (noted ns (at2 + se)) (sym (ap (noted ns) e_end) ∙ e_store))))
              (cell_stores code at_block bl n c w bm ns l scope m x t (s.at + (si + 1 + se)) charged (find x.text l)
              (c.shared x.text) refl refl ty.0.1 refl p.1.0 e_store
              (next_at _ _ (let z : s.at + (si + 1 + se + 1) ≡ suc (s.at + (si + 1 + se)) = omega arith in z) next)),
          fits_eq charged (noted ns s.at) (first_note c l ns index charged s.at q1.0),
        )
    form_kept l scope (choose arms) l' texts line head s m ty sm pr kinds lays less ch here there next = (
      arms_kept l scope false arms texts (s.at + arms_size n false arms) s m ty.0 sm pr kinds lays (omega arith)
          here there next next,
      arms_first l false arms s.at there next,
    )
    form_kept l scope (choose_or arms last) l' texts line head s m ty sm pr kinds lays less ch here there next =
        let sa : ℕ = arms_size n true arms in
        let sl : ℕ = statements_size n last in
        let end : ℕ = s.at + sa + sl in
        let behind : Spot = behind_arms n s true arms in
        let smalls = and_parts (arms_small arms) (statements_small last) sm in
        let len = arms_length n scope true arms end s in
        let p = parts_stand bl.instrs (arms_code n scope true arms end s) (statements_code n scope last behind) s.at sa
        len here in
        let q = parts_stand ns (arms_notes c n l true arms) (statements_notes c n l last) s.at sa
        (arms_notes_length c n l true arms) there in
        let ks = parts_stand bl.locals (arms_kinds c l arms) (statements_kinds c l last) s.local (arms_lets arms)
        (arms_locals c l arms) kinds in
        let ls = parts_stand code.layouts (arms_layouts c l texts arms)
        (statements_layouts c l (texts + length (arms_texts arms)) last) s.layout (arms_prints arms)
        (arms_prints_length c l texts arms) lays in
        let at_end = next_at _ _ (let z : s.at + (sa + sl) ≡ end = omega arith in z) next in
        let at_last = statements_first l last (s.at + sa) q.1 at_end in (
          parts_kept code at_block bl (noted ns) most_words (arms_code n scope true arms end s)
              (statements_code n scope last behind) s.at sa len
              (arms_kept l scope true arms texts end s m ty.0.0 smalls.0 pr.0 ks.0 ls.0 (omega arith) p.0 q.0 at_last
              at_end)
              (statements_kept l scope last (texts + length (arms_texts arms)) behind m ty.0.1 smalls.1 pr.1 ks.1 ls.1
              p.1 q.1 at_end),
          arms_first l true arms s.at q.0 at_last,
        )
    form_kept l scope (repeat test body) l' texts line head s m ty sm pr kinds lays less ch here there next =
        let st : ℕ = expression_size test in
        let sb : ℕ = statements_size n body in
        let out : ℕ = s.at + st + 1 + sb + 1 in
        let leave : Instr = i.JumpIfFalse out in
        let inner : Spot = in_arm s test in
        let smalls = and_parts (expression_small test) (statements_small body) sm in
        let code1 : List Instr = expression_code n scope test s.at ++ leave ∷ statements_code n scope body inner in
        let notes1 : List Note =
        expression_notes c l test charged ++ push k.Bool charged ∷ statements_notes c n l body in
        let len1 =
        around (expression_code n scope test s.at) (statements_code n scope body inner) leave st sb
        (expression_length n scope test s.at) (statements_length n scope body inner) in
        let len2 =
        around (expression_notes c l test charged) (statements_notes c n l body) (push k.Bool charged) st sb
        (expression_notes_length c l test charged) (statements_notes_length c n l body) in
        let inside : s.at + (st + 1) ≡ s.at + st + 1 = omega arith in
        let p = parts_stand bl.instrs code1 (i.Jump head ∷ []) s.at (st + 1 + sb) len1 here in
        let q = parts_stand ns notes1 (entry ∷ []) s.at (st + 1 + sb) len2 there in
        let p1 = around_stands bl.instrs (expression_code n scope test s.at) (statements_code n scope body inner) leave
        s.at st (s.at + (st + 1)) (expression_length n scope test s.at) inside p.0 in
        let q1 = around_stands ns (expression_notes c l test charged) (statements_notes c n l body)
        (push k.Bool charged) s.at st (s.at + (st + 1)) (expression_notes_length c l test charged) inside q.0 in
        let e_test = note_here ns (s.at + st) (push k.Bool charged) q1.1.0 in
        let e_back = note_here ns (s.at + (st + 1 + sb)) entry q.1.0 in
        let body_end =
        next_at _ _ (let z : s.at + (st + 1 + sb) ≡ s.at + (st + 1) + sb = omega arith in z)
        (next_eq (s.at + (st + 1 + sb)) e_back) in
        let body_first =
        next_at _ _ (let z : s.at + (st + 1) ≡ suc (s.at + st) = omega arith in z)
        (statements_first l body (s.at + (st + 1)) q1.1.1 body_end) in
        let at_out = next_at _ _ (let z : s.at + (st + 1 + sb + 1) ≡ out = omega arith in z) next in
        let at_next =
        next_at _ _ (let z : s.at + (st + 1 + sb + 1) ≡ suc (s.at + (st + 1 + sb)) = omega arith in z) next in (
          one_kept code at_block bl (noted ns) most_words code1 (i.Jump head) s.at (st + 1 + sb) len1
              (around_kept code at_block bl (noted ns) most_words (expression_code n scope test s.at)
              (statements_code n scope body inner) leave s.at st (s.at + (st + 1)) (expression_length n scope test s.at)
              inside
              (term_kept code at_block bl n c w bm ns l scope m test k.Bool s.at charged ty.0.0 smalls.0 (omega arith)
              p1.0 q1.0 (fits_eq (push k.Bool charged) (noted ns (s.at + st)) e_test))
              (if_false code at_block bl most_words w ns (s.at + st) out charged p1.1.0 e_test (omega arith)
              (omega arith) (empty_fits charged (noted ns (suc (s.at + st))) refl body_first)
              (empty_fits charged (noted ns out) refl at_out))
              (statements_kept l scope body texts inner m ty.0.1 smalls.1 pr kinds lays p1.1.1 q1.1.1 body_end))
              (jumps_back code at_block bl most_words w ns (s.at + (st + 1 + sb)) head entry p.1.0 e_back
              (omega (arith, less)) refl at_next),
          fits_eq charged (noted ns s.at) (first_note c l ns test charged s.at q1.0),
        )
    form_kept l scope (call x args) l' texts line head s m ty sm pr kinds lays less ch here there next =
        let size : ℕ = expressions_size args in
        let callee : Callee = ty.0.0 in
        let to : ℕ = s.at + size + 1 in
        let smalls = and_parts (name_formed x) (expressions_small args) sm in
        let p = around_stands bl.instrs (expressions_code n scope args s.at) (dropped (n.gives x.text))
        (i.Call (n.proc x.text)) s.at size to (expressions_length n scope args s.at) refl here in
        let q = around_stands ns (expressions_notes c l args charged) (dropped_notes c x (n.gives x.text))
        (behind_args c l args charged) s.at size to (expressions_notes_length c l args charged) refl there in
        let end =
        next_at _ _ (let z : s.at + (size + 1 + dropped_size (n.gives x.text)) ≡ to + dropped_size (n.gives x.text) =
        omega arith in
        z)
        next in
        let gone =
        dropped_kept code at_block bl n c w bm ns x callee (n.gives x.text) callee.result to ty.0.1.0 refl
        (bm.procs x.text callee ty.0.1.0).gives p.1.1 q.1.1 end in
        let after : to ≡ suc (s.at + size) = omega arith in
        let both =
        calls code at_block bl n c w bm ns l scope m x args callee s.at ty.0.1 smalls.1 p.0 q.0 p.1.0
        (note_here ns (s.at + size) (behind_args c l args charged) q.1.0)
        (subst (λ z. Fits (record { shape = one_or_none callee.result ++ []; paid = false }) (noted ns z)) after
        gone.1) in (
          around_kept code at_block bl (noted ns) most_words (expressions_code n scope args s.at)
              (dropped (n.gives x.text)) (i.Call (n.proc x.text)) s.at size to (expressions_length n scope args s.at)
              refl both.0 both.1 gone.0,
          args_begin l args s.at q.0
              (fits_eq (behind_args c l args charged) (noted ns (s.at + size))
              (note_here ns (s.at + size) (behind_args c l args charged) q.1.0)),
        )
    form_kept l scope (return e) l' texts line head s m ty sm pr kinds lays less ch here there next = (
      returned_kept code at_block bl n c w bm ns l scope m result e s.at res ty.0 (return_small e sm) here there
          next,
      returned_first l e s.at there,
    )
    form_kept l scope (fork x args) l' texts line head s m ty sm pr kinds lays less ch here there next =
        let size : ℕ = expressions_size args in
        let callee : Callee = ty.0.0 in
        let to : ℕ = s.at + size + 1 in
        let smalls = and_parts (name_formed x) (expressions_small args) sm in
        let p = around_stands bl.instrs (expressions_code n scope args s.at) (i.Pop ∷ []) (i.Fork (n.proc x.text)) s.at
        size to (expressions_length n scope args s.at) refl here in
        let q = around_stands ns (expressions_notes c l args charged) (push k.Rev entry ∷ [])
        (behind_args c l args charged) s.at size to (expressions_notes_length c l args charged) refl there in
        let e_pop = note_here ns to (push k.Rev entry) q.1.1.0 in
        let after : suc (s.at + size) ≡ to = omega arith in
        let both =
        forks_one code at_block bl n c w bm ns l scope m x args callee s.at ty.0.1 smalls.1 p.0 q.0 p.1.0
        (note_here ns (s.at + size) (behind_args c l args charged) q.1.0)
        (fits_eq (push k.Rev entry) (noted ns (suc (s.at + size))) (ap (noted ns) after ∙ e_pop)) in (
          around_kept code at_block bl (noted ns) most_words (expressions_code n scope args s.at) (i.Pop ∷ [])
              (i.Fork (n.proc x.text)) s.at size to (expressions_length n scope args s.at) refl both.0 both.1 (
                pops code at_block bl n c w bm ns to k.Rev p.1.1.0 e_pop
                    (next_at _ _ (let z : s.at + (size + 2) ≡ suc to = omega arith in z) next),
                nothing,
              ),
          args_begin l args s.at q.0
              (fits_eq (behind_args c l args charged) (noted ns (s.at + size))
              (note_here ns (s.at + size) (behind_args c l args charged) q.1.0)),
        )
    form_kept l scope (join e) l' texts line head s m ty sm pr kinds lays less ch here there next =
        let size : ℕ = expression_size e in (
          taken l scope m e k.Rev s.at i.Join ty.0 sm here there
              (λ h note.
              takes_one code at_block bl n c w bm ns (s.at + size) k.Rev charged charged i.Join refl h note refl refl
              refl refl refl refl refl refl
              (next_at _ _ (let z : s.at + (size + 1) ≡ suc (s.at + size) = omega arith in z) next)),
          term_first l e k.Rev s.at there,
        )
    form_kept l scope (print items) l' texts line head s m ty sm pr kinds lays less ch here there next =
        let size : ℕ = items_size items in
        let p = parts_stand bl.instrs (items_code n scope items s.at) (i.Print s.layout ∷ []) s.at size
        (items_length n scope items s.at) here in
        let q = parts_stand ns (items_notes c l items charged) (behind_items c l items charged ∷ []) s.at size
        (items_notes_length c l items charged) there in
        let note = note_here ns (s.at + size) (behind_items c l items charged) q.1.0 in
        let shape = items_behind code at_block bl n c w bm ns l texts items charged ty.0 sm in
        let fits = fits_eq (behind_items c l items charged) (noted ns (s.at + size)) note in (
          one_kept code at_block bl (noted ns) most_words (items_code n scope items s.at) (i.Print s.layout) s.at size
              (items_length n scope items s.at)
              (items_kept code at_block bl n c w bm ns l scope m items s.at charged ty.0 sm (omega (arith, pr)) p.0 q.0
              fits)
              (prints code at_block bl n c w bm ns (s.at + size) s.layout (layout_of c l texts items) true lays.0 p.1.0
              (note ∙ shape) (next_at _ _ (let z : s.at + (size + 1) ≡ suc (s.at + size) = omega arith in z) next)),
          items_begin l items s.at q.0 fits,
        )
    form_kept l scope (assert e) l' texts line head s m ty sm pr kinds lays less ch here there next =
        let size : ℕ = expression_size e in (
          taken l scope m e k.Bool s.at i.Assert ty.0 sm here there
              (λ h note.
              takes_one code at_block bl n c w bm ns (s.at + size) k.Bool charged charged i.Assert refl h note refl refl
              refl refl refl refl refl refl
              (next_at _ _ (let z : s.at + (size + 1) ≡ suc (s.at + size) = omega arith in z) next)),
          term_first l e k.Bool s.at there,
        )

    pub statements_kept : (l : Locals) (scope : Scope) (xs : Statements) (texts : ℕ) (s : Spot)
        → NamesMean code bl n c l scope → StatementsTyped c result l xs → statements_small xs ≡ true
        → StatementsPrint xs → HasItems bl.locals s.local (statements_kinds c l xs)
        → HasItems code.layouts s.layout (statements_layouts c l texts xs)
        → HasAt bl.instrs s.at (statements_code n scope xs s) → HasItems ns s.at (statements_notes c n l xs)
        → Fits entry (noted ns (s.at + statements_size n xs)) → Keeps s.at (statements_code n scope xs s)
    statements_kept l scope no_statements texts s m ty sm pr kinds lays here there next = nothing
    statements_kept l scope (statements x rest) texts s m ty sm pr kinds lays here there next =
        let behind : Spot = behind_statement n s x in
        let size : ℕ = statement_size n x in
        let l2 : Locals = locals_after c l x in
        let smalls = and_parts (statement_small x) (statements_small rest) sm in
        let same_locals : ty.0 ≡ l2 = statement_scope c result l ty.0 x ty.1 in
        let p = parts_stand bl.instrs (statement_code n scope x s)
        (statements_code n (scope_after scope s.local x) rest behind) s.at size (statement_length n scope x s) here in
        let q = parts_stand ns (statement_notes c n l x) (statements_notes c n l2 rest) s.at size
        (statement_notes_length c n l x) there in
        let ks = parts_stand bl.locals (statement_kinds c l x) (statements_kinds c l2 rest) s.local (statement_lets x)
        (statement_locals c l x) kinds in
        let ls = parts_stand code.layouts (statement_layouts c l texts x)
        (statements_layouts c l2 (texts + length (statement_texts x)) rest) s.layout (statement_prints x)
        (statement_prints_length c l texts x) lays in
        let m2 = subst (λ z. NamesMean code bl n c z (scope_after scope s.local x)) same_locals
        (statement_next l scope x ty.0 s.local m ty.1 ks.0) in
        let ty2 = subst (λ z. StatementsTyped c result z rest) same_locals ty.2 in
        let end =
        next_at _ _
        (let z : s.at + (size + statements_size n rest) ≡ s.at + size + statements_size n rest = omega arith in z)
        next in
        parts_kept code at_block bl (noted ns) most_words (statement_code n scope x s)
        (statements_code n (scope_after scope s.local x) rest behind) s.at size (statement_length n scope x s)
        (statement_kept l scope x ty.0 texts s m ty.1 smalls.0 pr.0 ks.0 ls.0 p.0 q.0
        (statements_first l2 rest (s.at + size) q.1 end))
        (statements_kept l2 (scope_after scope s.local x) rest (texts + length (statement_texts x)) behind m2 ty2
        smalls.1 pr.1 ks.1 ls.1 p.1 q.1 end)

    arms_kept : (l : Locals) (scope : Scope) (has_last : Bool) (arms : Arms) (texts end : ℕ) (s : Spot)
        → NamesMean code bl n c l scope → ArmsTyped c result l arms → arms_small arms ≡ true → ArmsPrint arms
        → HasItems bl.locals s.local (arms_kinds c l arms)
        → HasItems code.layouts s.layout (arms_layouts c l texts arms)
        → s.at + arms_size n has_last arms ≤ end → HasAt bl.instrs s.at (arms_code n scope has_last arms end s)
        → HasItems ns s.at (arms_notes c n l has_last arms) → Fits entry (noted ns (s.at + arms_size n has_last arms))
        → Fits entry (noted ns end) → Keeps s.at (arms_code n scope has_last arms end s)
    arms_kept l scope has_last no_arms texts end s m ty sm pr kinds lays le here there behind next = nothing
    arms_kept l scope has_last (arm test body rest) texts end s m ty sm pr kinds lays le here there behind next =
        let st : ℕ = expression_size test in
        let sb : ℕ = statements_size n body in
        let sl : ℕ = leap_size has_last rest in
        let sr : ℕ = arms_size n has_last rest in
        let first : ℕ = st + 1 + sb in
        let on : Spot = next_arm n s has_last test body rest in
        let inner : Spot = in_arm s test in
        let jump : Instr = i.JumpIfFalse on.at in
        let smalls = and_parts (expression_small test && statements_small body) (arms_small rest) sm in
        let smalls1 = and_parts (expression_small test) (statements_small body) smalls.0 in
        let code1 : List Instr = expression_code n scope test s.at ++ jump ∷ statements_code n scope body inner in
        let notes1 : List Note =
        expression_notes c l test charged ++ push k.Bool charged ∷ statements_notes c n l body in
        let len1 =
        around (expression_code n scope test s.at) (statements_code n scope body inner) jump st sb
        (expression_length n scope test s.at) (statements_length n scope body inner) in
        let len2 =
        around (expression_notes c l test charged) (statements_notes c n l body) (push k.Bool charged) st sb
        (expression_notes_length c l test charged) (statements_notes_length c n l body) in
        let code_both = two code1 (leap has_last rest end) first sl len1 (leap_length has_last rest end) in
        let notes_both = two notes1 (leap_notes has_last rest) first sl len2 (leap_notes_length has_last rest) in
        let inside : s.at + (st + 1) ≡ s.at + st + 1 = omega arith in
        let there_at : s.at + (first + sl) ≡ on.at = omega arith in
        let outer =
        parts_stand bl.instrs (code1 ++ leap has_last rest end) (arms_code n scope has_last rest end on) s.at
        (first + sl) code_both here in
        let outer_n =
        parts_stand ns (notes1 ++ leap_notes has_last rest) (arms_notes c n l has_last rest) s.at (first + sl)
        notes_both there in
        let front = parts_stand bl.instrs code1 (leap has_last rest end) s.at first len1 outer.0 in
        let front_n = parts_stand ns notes1 (leap_notes has_last rest) s.at first len2 outer_n.0 in
        let p1 = around_stands bl.instrs (expression_code n scope test s.at) (statements_code n scope body inner) jump
        s.at st (s.at + (st + 1)) (expression_length n scope test s.at) inside front.0 in
        let q1 = around_stands ns (expression_notes c l test charged) (statements_notes c n l body)
        (push k.Bool charged) s.at st (s.at + (st + 1)) (expression_notes_length c l test charged) inside front_n.0 in
        let rest_here = subst (λ p. HasAt bl.instrs p (arms_code n scope has_last rest end on)) there_at outer.1 in
        let rest_there = subst (λ p. HasItems ns p (arms_notes c n l has_last rest)) there_at outer_n.1 in
        let ks = parts_stand bl.locals (statements_kinds c l body) (arms_kinds c l rest) s.local (statements_lets body)
        (statements_locals c l body) kinds in
        let ls = parts_stand code.layouts (statements_layouts c l texts body)
        (arms_layouts c l (texts + length (statements_texts body)) rest) s.layout (statements_prints body)
        (statements_prints_length c l texts body) lays in
        let e_test = note_here ns (s.at + st) (push k.Bool charged) q1.1.0 in
        let behind2 = next_at _ _ (let z : s.at + (st + 1 + sb + sl + sr) ≡ on.at + sr = omega arith in z) behind in
        let behind3 =
        next_at _ _ (let z : s.at + (st + 1 + sb + sl + sr) ≡ s.at + first + (sl + sr) = omega arith in z) behind in
        let jump_here =
        p1.1.0 ∙ ap (λ z. Some (i.JumpIfFalse z)) (let z : on.at ≡ s.at + first + sl = omega arith in z) in
        let gone =
        leap_kept has_last rest (s.at + st) (s.at + first) end front.1 front_n.1 (omega arith) jump_here
        (omega (arith, le)) next behind3 in
        let body_end = next_at _ _ (let z : s.at + first ≡ s.at + (st + 1) + sb = omega arith in z) gone.1 in
        let body_first =
        next_at _ _ (let z : s.at + (st + 1) ≡ suc (s.at + st) = omega arith in z)
        (statements_first l body (s.at + (st + 1)) q1.1.1 body_end) in
        parts_kept code at_block bl (noted ns) most_words (code1 ++ leap has_last rest end)
        (arms_code n scope has_last rest end on) s.at (first + sl) code_both
        (parts_kept code at_block bl (noted ns) most_words code1 (leap has_last rest end) s.at first len1
        (around_kept code at_block bl (noted ns) most_words (expression_code n scope test s.at)
        (statements_code n scope body inner) jump s.at st (s.at + (st + 1)) (expression_length n scope test s.at) inside
        (term_kept code at_block bl n c w bm ns l scope m test k.Bool s.at charged ty.0 smalls1.0 (omega arith) p1.0
        q1.0 (fits_eq (push k.Bool charged) (noted ns (s.at + st)) e_test))
        (if_false code at_block bl most_words w ns (s.at + st) on.at charged p1.1.0 e_test (omega arith) (omega arith)
        (empty_fits charged (noted ns (suc (s.at + st))) refl body_first)
        (arms_first l has_last rest on.at rest_there behind2))
        (statements_kept l scope body texts inner m ty.1 smalls1.1 pr.0 ks.0 ls.0 p1.1.1 q1.1.1 body_end))
        gone.0)
        (subst (λ p. Keeps p (arms_code n scope has_last rest end on)) (sym there_at)
        (arms_kept l scope has_last rest (texts + length (statements_texts body)) end on m ty.2 smalls.1 pr.1 ks.1 ls.1
        (omega (arith, le)) rest_here rest_there behind2 next))
