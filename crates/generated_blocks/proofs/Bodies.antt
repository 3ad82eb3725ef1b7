-- The blocks of funs, merges, procedures and `main` are certified.
use Rattle.std.proofs.Common.{◌≡◌, ◌∙◌, ◌≤◌, ℕ, suc, ◌+◌, Bool, true, false, List, [], ◌∷◌, ◌++◌, length, length-append, Option, Some, None, refl, sym, ap, subst, arith, true≢false}
use Rattle.std.specs.Prelude.{slice_get, if◌then◌else◌}
use Rattle.rev_num.specs.declared.value.ValueKind.{ValueKind}
use Rattle.rev_num.specs.declared.value.ValueKind.TheVariants as k
use Rattle.rev_syntax.specs.Trees.{Parameter, Expression, statement, StatementForm, bind, assign, assign_cell, choose, choose_or, repeat, call, return, fork, join, print, assert, Statements, no_statements, statements}
use Rattle.rev_syntax.specs.Small.{statements_small}
use Rattle.typed_programs.specs.Kinds.{Names, Locals}
use Rattle.typed_programs.specs.Judgement.{StatementsTyped}
use Rattle.typed_programs.specs.Limits.{StatementsPrint}
use Rattle.typed_programs.specs.Scopes as scopes
use Rattle.rev_code.specs.declared.code.Instr.{Instr}
use Rattle.rev_code.specs.declared.code.Instr.TheVariants as i
use Rattle.rev_code.specs.declared.code.Code.{Code}
use Rattle.rev_code.specs.declared.code.CodeBlock.{CodeBlock}
use Rattle.code_rules.specs.Shapes.{one_or_none}
use Rattle.code_rules.specs.Pass.{Note, entry, most_words}
use Rattle.code_soundness.specs.Certificate.{Fits}
use Rattle.code_generation.specs.Numbers.{Numbers, Scope, scope_after, with_params}
use Rattle.code_generation.specs.Expressions.{expression_size, expression_code}
use Rattle.code_generation.specs.Sizes.{statements_size}
use Rattle.code_generation.specs.Statements.{Spot, behind_statement, statement_code, statement_form_code, statements_code, ahead}
use Rattle.code_generation.specs.Prints.{statements_kinds, statements_layouts}
use Rattle.code_generation.specs.Generated.{zero_code, is_return, ends_in_return, end_code}
use Rattle.code_generation.specs.Stands.{HasAt, HasItems}
use Rattle.code_generation.proofs.Standing.{parts_stand, whole_stands}
use Rattle.code_generation.proofs.Lengths.{expression_length, statements_length}
use Rattle.expression_meaning.proofs.Typed.{Typed}
use Rattle.generated_certificates.specs.Items.{noted, push}
use Rattle.generated_certificates.specs.Expressions.{word_kind, expression_notes, expression_depth}
use Rattle.generated_certificates.specs.Statements.{statements_notes}
use Rattle.generated_certificates.specs.Means.{FunMeans, NamesMean}
use Rattle.generated_certificates.specs.Bodies.{BodyMeans}
use Rattle.generated_certificates.specs.RulesKept.{IsWithin, IsKept, AllKept}
use Rattle.generated_certificates.proofs.Parts.{nothing, note_here, fits_eq, parts_kept, one_kept}
use Rattle.generated_certificates.proofs.Lengths.{expression_notes_length, first_note}
use Rattle.generated_certificates.proofs.StatementLengths.{statements_notes_length}
use Rattle.generated_certificates.proofs.WordKinds.{kind_is}
use Rattle.generated_certificates.proofs.Places.{pure_fine, pushes, gives_back}
use Rattle.generated_certificates.proofs.Expressions.{expression_kept}
use Rattle.generated_certificates.proofs.Bodies.{statements_kept, statements_first}
use Rattle.generated_blocks.specs.Notes.{value_notes, end_notes, body_notes}
use Rattle.std.proofs.lemmas.Option.{slice_get_past}

-- what stands behind all notes
behind_all : (ns : List Note) (at : ℕ) → length ns ≤ at → Fits entry (noted ns at)
behind_all ns at h = fits_eq entry (noted ns at) (ap Rattle.code_rules.specs.Pass.known (slice_get_past ns at h))

-- ---- funs and merges

module _ (code : Code) (k : ℕ) (b : CodeBlock) (deepest : ℕ) (n : Numbers) (c : Names) (l : Locals) (scope : Scope)
    (w : IsWithin b deepest) (m : NamesMean code b n c l scope) where
  pub value_kept : (body : Expression) (r : ValueKind) → Typed c l (λ name f. FunMeans code k n name f) body r
      → b.result ≡ Some r → b.instrs ≡ expression_code n scope body 0 ++ i.Return ∷ [] → expression_depth body ≤ deepest
      → AllKept code k b (noted (value_notes c l body)) deepest 0 b.instrs × Fits entry (noted (value_notes c l body) 0)
  value_kept body r ty res is low =
      let ns : List Note = value_notes c l body in
      let size : ℕ = expression_size body in
      let here = subst (λ xs. HasAt b.instrs 0 xs) is (whole_stands b.instrs) in
      let p = parts_stand b.instrs (expression_code n scope body 0) (i.Return ∷ []) 0 size
      (expression_length n scope body 0) here in
      let q = parts_stand ns (expression_notes c l body entry) (push (word_kind c l body) entry ∷ []) 0 size
      (expression_notes_length c l body entry) (whole_stands ns) in
      let kind = kind_is c l (λ name f. FunMeans code k n name f) body r ty in
      let note = note_here ns (0 + size) (push (word_kind c l body) entry) q.1.0 ∙ ap (λ z. push z entry) kind in
      let long = length-append (expression_notes c l body entry) (push (word_kind c l body) entry ∷ []) in
      let len = expression_notes_length c l body entry in (
        subst (λ xs. AllKept code k b (noted ns) deepest 0 xs) (sym is)
            (one_kept code k b (noted ns) deepest (expression_code n scope body 0) i.Return 0 size
            (expression_length n scope body 0)
            (expression_kept code k b deepest n c l scope w m ns body r 0 entry ty p.0 q.0
            (let z : 0 + expression_depth body ≤ deepest = omega (arith, low) in z)
            (fits_eq (push r entry) (noted ns (0 + size)) note))
            (gives_back code k b deepest w ns (0 + size) false p.1.0
            (note ∙ sym (ap (λ o. record { shape = one_or_none o; paid = false }) res))
            (behind_all ns (suc (0 + size)) (omega (arith, long, len))))),
        fits_eq entry (noted ns 0) (first_note c l ns body entry 0 q.0),
      )

-- ---- procedures and `main`

zero_pushes : (kind : ValueKind)
    → (code : Code) (k : ℕ) (b : CodeBlock) (w : IsWithin b most_words) (ns : List Note) (at : ℕ)
    → slice_get b.instrs at ≡ Some (zero_code kind) → noted ns at ≡ entry → Fits (push kind entry) (noted ns (suc at))
    → IsKept code k b (noted ns) most_words at (zero_code kind)
zero_pushes k.Int code j b w ns at here note fits =
    pushes code j b most_words w ns at entry k.Int (zero_code k.Int) here note refl refl
    (pure_fine code j b (zero_code k.Int) refl refl) refl refl refl refl refl (omega arith) fits
zero_pushes k.Bool code j b w ns at here note fits =
    pushes code j b most_words w ns at entry k.Bool (zero_code k.Bool) here note refl refl
    (pure_fine code j b (zero_code k.Bool) refl refl) refl refl refl refl refl (omega arith) fits
zero_pushes k.Rev code j b w ns at here note fits =
    pushes code j b most_words w ns at entry k.Rev (zero_code k.Rev) here note refl refl
    (pure_fine code j b (zero_code k.Rev) refl refl) refl refl refl refl refl (omega arith) fits

module _ (code : Code) (j : ℕ) (b : CodeBlock) (n : Numbers) (c : Names) (result : Option ValueKind)
    (w : IsWithin b most_words) (bm : BodyMeans code j b n c) (res : b.result ≡ result) where
  ends_kept : (ns : List Note) (o : Option ValueKind) (body : Statements) (at : ℕ) → result ≡ o
      → HasAt b.instrs at (end_code o body) → HasItems ns at (end_notes o body)
      → length ns ≡ at + length (end_notes o body)
      → AllKept code j b (noted ns) most_words at (end_code o body) × Fits entry (noted ns at)
  ends_kept ns None body at e here there len =
      let note = note_here ns at entry there.0 in (
        (
          gives_back code j b most_words w ns at false here.0
              (note ∙ sym (ap (λ o. record { shape = one_or_none o; paid = false }) (res ∙ e)))
              (behind_all ns (suc at) (omega (arith, len))),
          nothing,
        ),
        fits_eq entry (noted ns at) note,
      )
  ends_kept ns (Some kind) body at e here there len = by (ends_in_return body) here there len
    where
      by : (d : Bool) → HasAt b.instrs at (if d then [] else zero_code kind ∷ i.Return ∷ [])
          → HasItems ns at (if d then [] else entry ∷ push kind entry ∷ [])
          → length ns ≡ at + length (if d then [] else entry ∷ push kind entry ∷ [])
          → AllKept code j b (noted ns) most_words at (if d then [] else zero_code kind ∷ i.Return ∷ [])
          × Fits entry (noted ns at)
      by true h t z = (nothing, behind_all ns at (omega (arith, z)))
      by false h t z =
          let note = note_here ns at entry t.0 in
          let note2 = note_here ns (suc at) (push kind entry) t.1.0 in (
            (
              zero_pushes kind code j b w ns at h.0 note (fits_eq (push kind entry) (noted ns (suc at)) note2),
              (
                gives_back code j b most_words w ns (suc at) false h.1.0
                    (note2 ∙ sym (ap (λ o. record { shape = one_or_none o; paid = false }) (res ∙ e)))
                    (behind_all ns (suc (suc at)) (omega (arith, z))),
                nothing,
              ),
            ),
            fits_eq entry (noted ns at) note,
          )

  pub body_kept : (ps : List Parameter) (body : Statements) (texts layout : ℕ)
      → NamesMean code b n c (scopes.with_params [] ps) (with_params [] 0 ps)
      → StatementsTyped c result (scopes.with_params [] ps) body → statements_small body ≡ true → StatementsPrint body
      → HasItems b.locals (length ps) (statements_kinds c (scopes.with_params [] ps) body)
      → HasItems code.layouts layout (statements_layouts c (scopes.with_params [] ps) texts body)
      → b.instrs
      ≡ statements_code n (with_params [] 0 ps) body (record { at = 0; local = length ps; layout = layout })
      ++ end_code result body
      → AllKept code j b (noted (body_notes c n ps result body)) most_words 0 b.instrs
      × Fits entry (noted (body_notes c n ps result body) 0)
  body_kept ps body texts layout m ty sm pr kinds lays is =
      let l : Locals = scopes.with_params [] ps in
      let scope : Scope = with_params [] 0 ps in
      let s : Spot = record { at = 0; local = length ps; layout = layout } in
      let ns : List Note = body_notes c n ps result body in
      let size : ℕ = statements_size n body in
      let here = subst (λ xs. HasAt b.instrs 0 xs) is (whole_stands b.instrs) in
      let p = parts_stand b.instrs (statements_code n scope body s) (end_code result body) 0 size
      (statements_length n scope body s) here in
      let q = parts_stand ns (statements_notes c n l body) (end_notes result body) 0 size
      (statements_notes_length c n l body) (whole_stands ns) in
      let long = length-append (statements_notes c n l body) (end_notes result body) in
      let len = statements_notes_length c n l body in
      let ends = ends_kept ns result body (0 + size) refl p.1 q.1 (omega (arith, long, len)) in (
        subst (λ xs. AllKept code j b (noted ns) most_words 0 xs) (sym is)
            (parts_kept code j b (noted ns) most_words (statements_code n scope body s) (end_code result body) 0 size
            (statements_length n scope body s)
            (statements_kept code j b n c result w bm res ns l scope body texts s m ty sm pr kinds lays p.0 q.0 ends.1)
            ends.0),
        statements_first code j b n c result w bm res ns l body 0 q.0 ends.1,
      )

-- ---- a body ends in Return

form_returns : (n : Numbers) (scope : Scope) (form : StatementForm) (head : ℕ) (s : Spot) → is_return form ≡ true
    → (xs : List Instr) × (statement_form_code n scope form head s ≡ xs ++ i.Return ∷ [])
form_returns n scope (return None) head s h = ([], refl)
form_returns n scope (return (Some e)) head s h = (expression_code n scope e s.at, refl)
form_returns n scope (bind x r) head s h = absurd (true≢false (sym h))
form_returns n scope (assign x r) head s h = absurd (true≢false (sym h))
form_returns n scope (assign_cell x index e) head s h = absurd (true≢false (sym h))
form_returns n scope (choose arms) head s h = absurd (true≢false (sym h))
form_returns n scope (choose_or arms last) head s h = absurd (true≢false (sym h))
form_returns n scope (repeat test body) head s h = absurd (true≢false (sym h))
form_returns n scope (call x args) head s h = absurd (true≢false (sym h))
form_returns n scope (fork x args) head s h = absurd (true≢false (sym h))
form_returns n scope (join e) head s h = absurd (true≢false (sym h))
form_returns n scope (print items) head s h = absurd (true≢false (sym h))
form_returns n scope (assert e) head s h = absurd (true≢false (sym h))

append-assoc-one : (xs ys : List Instr) (y : Instr) → xs ++ (ys ++ y ∷ []) ≡ (xs ++ ys) ++ y ∷ []
append-assoc-one [] ys y = refl
append-assoc-one (x ∷ xs) ys y = ap (λ z. x ∷ z) (append-assoc-one xs ys y)

with_nothing : (xs : List Instr) → xs ++ [] ≡ xs
with_nothing [] = refl
with_nothing (x ∷ xs) = ap (λ z. x ∷ z) (with_nothing xs)

statements_return : (n : Numbers) (scope : Scope) (xs : Statements) (s : Spot) → ends_in_return xs ≡ true
    → (ys : List Instr) × (statements_code n scope xs s ≡ ys ++ i.Return ∷ [])
statements_return n scope no_statements s h = absurd (true≢false (sym h))
statements_return n scope (statements (statement p line form) no_statements) s h =
    let r = form_returns n scope form s.at (ahead s 1) h in (
      i.Charge line ∷ r.0,
      with_nothing (statement_code n scope (statement p line form) s) ∙ ap (λ z. i.Charge line ∷ z) r.1,
    )
statements_return n scope (statements x (statements y rest)) s h =
    let r = statements_return n (scope_after scope s.local x) (statements y rest) (behind_statement n s x) h in (
      statement_code n scope x s ++ r.0,
      ap (λ z. statement_code n scope x s ++ z) r.1 ∙ append-assoc-one (statement_code n scope x s) r.0 i.Return,
    )

pub body_returns : (n : Numbers) (scope : Scope) (result : Option ValueKind) (body : Statements) (s : Spot)
    → (ys : List Instr) × (statements_code n scope body s ++ end_code result body ≡ ys ++ i.Return ∷ [])
body_returns n scope None body s = (statements_code n scope body s, refl)
body_returns n scope (Some kind) body s = by (ends_in_return body) refl
  where
    xs : List Instr
    xs = statements_code n scope body s

    by : (d : Bool) → ends_in_return body ≡ d
        → (ys : List Instr)
        × (statements_code n scope body s ++ (if d then [] else zero_code kind ∷ i.Return ∷ []) ≡ ys ++ i.Return ∷ [])
    by true e = let r = statements_return n scope body s e in (r.0, with_nothing (statements_code n scope body s) ∙ r.1)
    by false e = (
      statements_code n scope body s ++ zero_code kind ∷ [],
      append-assoc-one (statements_code n scope body s) (zero_code kind ∷ []) i.Return,
    )
