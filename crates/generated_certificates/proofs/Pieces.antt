-- The parts of statements keep the rules by their notes: right sides, calls, prints, and the instructions that end a
-- statement.
use Rattle.std.proofs.Common.{◌≡◌, ◌∙◌, ◌≢◌, ◌≤◌, ℕ, suc, ◌+◌, Bool, true, false, not, ◌&&◌, List, [], ◌∷◌, ◌++◌, length, length-append, reverse, Option, Some, None, refl, sym, ap, subst, arith, true≢false}
use Rattle.std.specs.Prelude.{slice_get, nat_lt, nat_le, is_some}
use Rattle.std.specs.List.{list_all}
use Rattle.std.proofs.lemmas.Bool.Decides.{nat_tests}
use Rattle.std.proofs.lemmas.Option.{slice_get_within}
use Rattle.rev_num.specs.declared.value.ValueKind.{ValueKind}
use Rattle.rev_num.specs.declared.value.ValueKind.TheVariants as k
use Rattle.rev_syntax.specs.Trees.{PlacedName, Expression, Expressions, no_expressions, expression, RightSide, plain, called, forked, tried, PrintItem, text, shown}
use Rattle.rev_syntax.specs.Small.{name_formed, nodes_around, chains_around, expression_formed, expressions_formed, expression_small, expressions_small, right_side_small, item_small}
use Rattle.name_tables.specs.Names.{Name}
use Rattle.name_tables.specs.Table.{find}
use Rattle.typed_programs.specs.declared.names.Holder.{Holder}
use Rattle.typed_programs.specs.Kinds.{Callee, Names, Locals, result_of}
use Rattle.typed_programs.specs.Typing.{ScalarHas, ArrayHas, HasKind}
use Rattle.typed_programs.proofs.Typings.{complete}
use Rattle.typed_programs.specs.Judgement.{CallTyped, RightSideHas, ItemsTyped, ReturnTyped}
use Rattle.rev_code.specs.declared.code.Instr.{Instr}
use Rattle.rev_code.specs.declared.code.Instr.TheVariants as i
use Rattle.rev_code.specs.declared.code.Code.{Code}
use Rattle.rev_code.specs.declared.code.CodeBlock.{CodeBlock}
use Rattle.rev_code.specs.Printing.{printed_kinds}
use Rattle.rev_code.specs.Step.{is_procedure}
use Rattle.code_rules.specs.Shapes as sh
use Rattle.code_rules.specs.Shapes.{Shape, takes, gives, begins, var_kind, param_kinds, result_kinds, layout_kinds, one_or_none, kind_or_int}
use Rattle.code_rules.specs.Pass.{Note, entry, has_class, is_scalar, is_array, is_layout, most_words}
use Rattle.code_rules.specs.Pass as pass
use Rattle.code_soundness.specs.Certificate.{Fits, leaves}
use Rattle.code_generation.specs.Numbers.{Numbers, Scope}
use Rattle.code_generation.specs.Expressions.{expression_size, expressions_size, expression_code, expressions_code}
use Rattle.code_generation.specs.Sizes.{right_side_size, items_size, returned_size, dropped_size}
use Rattle.code_generation.specs.Statements.{store, right_side_code, items_code, returned_code, dropped}
use Rattle.code_generation.specs.Prints.{value_item, layout_of}
use Rattle.code_generation.specs.Generated.{kinds_of}
use Rattle.code_generation.specs.Stands.{HasAt, HasItems}
use Rattle.code_generation.proofs.Standing.{parts_stand}
use Rattle.code_generation.proofs.Lengths.{expression_length, expressions_length}
use Rattle.expression_meaning.proofs.Typed.{Typed, ArgsTyped}
use Rattle.typed_programs.proofs.Lists.{and_parts}
use Rattle.expression_meaning.proofs.Applying.{all_apply, args_apply}
use Rattle.expression_meaning.proofs.Typing.{typed, args_typed}
use Rattle.generated_certificates.specs.Items.{noted, push, charged}
use Rattle.generated_certificates.specs.Expressions.{word_kind, behind_args, expression_notes, expressions_notes, expression_depth, expressions_depth}
use Rattle.generated_certificates.specs.Statements.{result_kind, right_side_notes, behind_right_side, items_notes, behind_items, returned_notes, dropped_notes}
use Rattle.generated_certificates.specs.Means.{FunMeans, NamesMean}
use Rattle.generated_certificates.specs.Bodies.{FunApplies, BodyMeans}
use Rattle.generated_certificates.specs.RulesKept.{IsWithin, IsKept, AllKept}
use Rattle.generated_certificates.proofs.Parts.{nothing, note_here, fits_eq, parts_kept, one_kept}
use Rattle.generated_certificates.proofs.Lengths.{expression_notes_length, expressions_notes_length, first_note}
use Rattle.generated_certificates.proofs.WordKinds.{kind_is}
use Rattle.generated_certificates.proofs.Places.{no, turned, begins_one, begins_two, finds_all, outside_fine, passes_on, gives_back}
use Rattle.generated_certificates.proofs.Expressions.{expression_kept, args_kept, args_behind}
use Rattle.generated_certificates.proofs.Depths.{small_depth, small_args_depth}

pub small_formed : (e : Expression) → expression_small e ≡ true → expression_formed e ≡ true
small_formed e s =
    let p = and_parts (expression_formed e && nat_le (nodes_around e) 200) (nat_le (chains_around e) 1005) s in
    (and_parts (expression_formed e) (nat_le (nodes_around e) 200) p.0).0

args_formed : (args : Expressions) → expressions_small args ≡ true → expressions_formed args ≡ true
args_formed no_expressions s = refl
args_formed (expression e rest) s =
    let p = and_parts (expression_small e) (expressions_small rest) s in
    λ j. small_formed e p.0 j && args_formed rest p.1 j

-- where nothing is on the stack and nothing is said of payment, anything with an empty stack fits
pub empty_fits : (n m : Note) → n.shape ≡ [] → Fits entry m → Fits n m
empty_fits n m e f = record { shape = e ∙ f.shape; paid = λ h. no (f.paid h) }

-- the value of a return, if there is one
abbrev pub ReturnSmall : Option Expression → Type 0
ReturnSmall None = Unit {0}
ReturnSmall (Some e) = expression_small e ≡ true

module _ (code : Code) (at_block : ℕ) (bl : CodeBlock) (n : Numbers) (c : Names) (w : IsWithin bl most_words)
    (bm : BodyMeans code at_block bl n c) (ns : List Note) where
  abbrev Keeps : ℕ → List Instr → Type 0
  Keeps at xs = AllKept code at_block bl (noted ns) most_words at xs

  abbrev Kept : ℕ → Instr → Type 0
  Kept at x = IsKept code at_block bl (noted ns) most_words at x

  -- nothing is on the stack there, and nothing is said of payment
  abbrev Next : ℕ → Type 0
  Next at = Fits entry (noted ns at)

  abbrev Can : Name → Callee → Type 0
  Can name f = FunMeans code at_block n name f

  can : (name : Name) (f : Callee) → c.funs name ≡ Some f → FunMeans code at_block n name f
  can name f e = (bm.funs name f e).means

  can_few : (name : Name) (f : Callee) → c.funs name ≡ Some f → FunApplies code at_block n name f
  can_few name f e = bm.funs name f e

  few : (name : Name) (f : Callee) → FunApplies code at_block n name f → length f.params ≤ 8
  few name f h = h.few

  pub term_typed : (l : Locals) (e : Expression) (t : ValueKind) → HasKind c l e t → expression_small e ≡ true
      → Typed c l Can e t × (expression_depth e ≤ 2406)
  term_typed l e t h s = (
    typed c l Can e t h (small_formed e s) (all_apply c Can can e),
    small_depth c l (FunApplies code at_block n) few e t
        (typed c l (FunApplies code at_block n) e t h (small_formed e s)
        (all_apply c (FunApplies code at_block n) can_few e))
        s,
  )

  call_args : (l : Locals) (x : PlacedName) (args : Expressions) (p : Callee) → CallTyped c l x args p
      → expressions_small args ≡ true → ArgsTyped c l Can p.params args × (expressions_depth args ≤ 2414)
  call_args l x args p h s =
      let zero_more : (j : ℕ) → slice_get p.params (0 + j) ≡ slice_get p.params j =
      λ j. ap (slice_get p.params) (let z : 0 + j ≡ j = omega arith in z) in
      let one =
      args_typed c l Can p.params p.params 0 args zero_more h.1 h.2 (args_formed args s) (args_apply c Can can args) in
      let two =
      args_typed c l (FunApplies code at_block n) p.params p.params 0 args zero_more h.1 h.2 (args_formed args s)
      (args_apply c (FunApplies code at_block n) can_few args) in
      let deep = small_args_depth c l (FunApplies code at_block n) few p.params args two s in
      let many = (bm.procs x.text p h.0).few in
      (one, omega (arith, deep, many))

  -- an expression of a statement, above what is there
  pub term_kept : (l : Locals) (scope : Scope) → NamesMean code bl n c l scope
      → (e : Expression) (t : ValueKind) (at : ℕ) (note : Note) → HasKind c l e t → expression_small e ≡ true
      → length note.shape ≤ 1024 → HasAt bl.instrs at (expression_code n scope e at)
      → HasItems ns at (expression_notes c l e note) → Fits (push t note) (noted ns (at + expression_size e))
      → Keeps at (expression_code n scope e at)
  term_kept l scope m e t at note h s low here there fits =
      let ty = term_typed l e t h s in
      let d = ty.1 in
      expression_kept code at_block bl most_words n c l scope w m ns e t at note ty.0 here there (omega (arith, low, d))
      fits

  -- ---- instructions that end a statement

  -- that takes the one word on the stack, and leaves the stack empty
  pub takes_one : (at : ℕ) (t : ValueKind) (below m : Note) (x : Instr) → below.shape ≡ []
      → slice_get bl.instrs at ≡ Some x → noted ns at ≡ push t below → pass.target x ≡ None → pass.falls x ≡ true
      → pass.names code at_block x ≡ true → pass.bad_local bl x ≡ false → takes code bl (t ∷ below.shape) x ≡ t ∷ []
      → pass.is_paid_for x ≡ false → leaves code bl (push t below) x ≡ m → m.shape ≡ [] → Next (suc at) → Kept at x
  takes_one at t below m x empty here note tg fa na lo ta pa le none next =
      passes_on code at_block bl most_words w ns at (push t below) m x here note tg fa
      (outside_fine code at_block bl x na bm.outside) lo (
        ap (λ z. begins z (t ∷ below.shape)) ta ∙ begins_one t below.shape,
        λ q. ap (λ z. suc (length z)) empty ∙ sym (ap length ta),
        λ q. absurd (true≢false (sym q ∙ pa)),
        le,
      )
      (subst (λ z. length z ≤ most_words) (sym none) (omega arith)) (empty_fits m (noted ns (suc at)) none next)

  pub into_local : (at j : ℕ) (t : ValueKind) (below : Note) → below.shape ≡ [] → slice_get bl.locals j ≡ Some t
      → slice_get bl.instrs at ≡ Some (i.StoreLocal j) → noted ns at ≡ push t below → Next (suc at)
      → Kept at (i.StoreLocal j)
  into_local at j t below empty is here note next =
      let less = slice_get_within bl.locals j t is in
      let lo : nat_lt j (length bl.locals) ≡ true = grind (arith, nat_tests, less) in
      takes_one at t below below (i.StoreLocal j) empty here note refl refl refl (ap not lo)
      (ap (λ o. sh.kind_or_any o (t ∷ below.shape) ∷ []) is) refl refl empty next

  into_shared : (at : ℕ) (x : Name) (h : Holder) (t : ValueKind) (l : Locals) (scope : Scope)
      → NamesMean code bl n c l scope → (below : Note) → below.shape ≡ [] → c.shared x ≡ Some h → h.array ≡ false
      → h.kind ≡ t → slice_get bl.instrs at ≡ Some (i.StoreShared (n.var x)) → noted ns at ≡ push t below
      → Next (suc at) → Kept at (i.StoreShared (n.var x))
  into_shared at x h t l scope m below empty is scalar kind here note next =
      let d = m.shared x h is in
      takes_one at t below below (i.StoreShared (n.var x)) empty here note refl refl
      (ap is_scalar d.is ∙ ap not (d.array ∙ scalar)) refl
      (ap (λ o. var_kind o ∷ []) d.is ∙ ap (λ z. z ∷ []) (d.kind ∙ kind)) refl refl empty next

  pub stores : (l : Locals) (scope : Scope) → NamesMean code bl n c l scope
      → (x : PlacedName) (t : ValueKind) (at : ℕ) (below : Note) (f : Option (Option ValueKind)) (h : Option Holder)
      → find x.text l ≡ f → c.shared x.text ≡ h → ScalarHas f h t → below.shape ≡ []
      → slice_get bl.instrs at ≡ Some (store n x (find x.text scope)) → noted ns at ≡ push t below → Next (suc at)
      → Kept at (store n x (find x.text scope))
  stores l scope m x t at below (Some it) h p q has empty here note next =
      let d = m.locals x.text t (p ∙ ap Some has) in
      subst (λ o. Kept at (store n x o)) (sym d.1)
      (into_local at d.0 t below empty d.2 (here ∙ ap (λ o. Some (store n x o)) d.1) note next)
  stores l scope m x t at below None (Some h) p q has empty here note next =
      let none = m.free x.text p in
      subst (λ o. Kept at (store n x o)) (sym none)
      (into_shared at x.text h t l scope m below empty q has.0 has.1 (here ∙ ap (λ o. Some (store n x o)) none) note
      next)
  stores l scope m x t at below None None p q has empty here note next = absurd has

  -- the value of a cell on its index
  pub cell_stores : (l : Locals) (scope : Scope) → NamesMean code bl n c l scope
      → (x : PlacedName) (t : ValueKind) (at : ℕ) (below : Note) (f : Option (Option ValueKind)) (h : Option Holder)
      → find x.text l ≡ f → c.shared x.text ≡ h → ArrayHas f h t → below.shape ≡ []
      → slice_get bl.instrs at ≡ Some (i.StoreCell (n.var x.text)) → noted ns at ≡ push t (push k.Int below)
      → Next (suc at) → Kept at (i.StoreCell (n.var x.text))
  cell_stores l scope m x t at below (Some it) h p q has empty here note next = absurd has
  cell_stores l scope m x t at below None None p q has empty here note next = absurd has
  cell_stores l scope m x t at below None (Some h) p q has empty here note next =
      let d = m.shared x.text h q in
      let ta : var_kind (slice_get code.vars (n.var x.text)) ≡ t = ap var_kind d.is ∙ d.kind ∙ has.1 in
      passes_on code at_block bl most_words w ns at (push t (push k.Int below)) below (i.StoreCell (n.var x.text)) here
      note refl refl
      (outside_fine code at_block bl (i.StoreCell (n.var x.text)) (ap is_array d.is ∙ (d.array ∙ has.0)) bm.outside)
      refl (
        ap (λ z. begins (z ∷ k.Int ∷ []) (t ∷ k.Int ∷ below.shape)) ta ∙ begins_two t k.Int below.shape,
        λ q. no q,
        λ q. no q,
        refl,
      )
      (subst (λ z. length z ≤ most_words) (sym empty) (omega arith)) (empty_fits below (noted ns (suc at)) empty next)

  pub checks : (l : Locals) (scope : Scope) → NamesMean code bl n c l scope
      → (x : PlacedName) (t : ValueKind) (at : ℕ) (below : Note) (f : Option (Option ValueKind)) (h : Option Holder)
      → find x.text l ≡ f → c.shared x.text ≡ h → ArrayHas f h t → length below.shape ≤ 1024
      → slice_get bl.instrs at ≡ Some (i.CheckCell (n.var x.text)) → noted ns at ≡ push k.Int below
      → Fits (push k.Int below) (noted ns (suc at)) → Kept at (i.CheckCell (n.var x.text))
  checks l scope m x t at below (Some it) h p q has low here note next = absurd has
  checks l scope m x t at below None None p q has low here note next = absurd has
  checks l scope m x t at below None (Some h) p q has low here note next =
      let d = m.shared x.text h q in
      passes_on code at_block bl most_words w ns at (push k.Int below) (push k.Int below) (i.CheckCell (n.var x.text))
      here note refl refl
      (outside_fine code at_block bl (i.CheckCell (n.var x.text)) (ap is_array d.is ∙ (d.array ∙ has.0)) bm.outside)
      refl
      (refl, λ q. no q, λ q. no q, refl) (omega (arith, low)) next

  -- ---- charges and returns

  pub charges : (at line : ℕ) → slice_get bl.instrs at ≡ Some (i.Charge line) → noted ns at ≡ entry
      → Fits charged (noted ns (suc at)) → Kept at (i.Charge line)
  charges at line here note fits =
      passes_on code at_block bl most_words w ns at entry charged (i.Charge line) here note refl refl
      (outside_fine code at_block bl (i.Charge line) refl bm.outside) refl (refl, λ q. refl, λ q. no q, refl)
      (omega arith) fits

  pub returned_kept : (l : Locals) (scope : Scope) → NamesMean code bl n c l scope
      → (result : Option ValueKind) (e : Option Expression) (at : ℕ) → bl.result ≡ result → ReturnTyped c l result e
      → ReturnSmall e → HasAt bl.instrs at (returned_code n scope e at) → HasItems ns at (returned_notes c l e)
      → Next (at + returned_size e) → Keeps at (returned_code n scope e at)
  returned_kept l scope m None None at res ty s here there next = (
    gives_back code at_block bl most_words w ns at true here.0
        (note_here ns at charged there.0 ∙ sym (ap (λ o. record { shape = one_or_none o; paid = true }) res))
        (subst (λ z. Fits entry (noted ns z)) (let z : at + 1 ≡ suc at = omega arith in z) next),
    nothing,
  )
  returned_kept l scope m None (Some e) at res ty s here there next = absurd ty
  returned_kept l scope m (Some t) None at res ty s here there next = absurd ty
  returned_kept l scope m (Some t) (Some e) at res ty s here there next =
      let size : ℕ = expression_size e in
      let p = parts_stand bl.instrs (expression_code n scope e at) (i.Return ∷ []) at size
      (expression_length n scope e at) here in
      let q = parts_stand ns (expression_notes c l e charged) (push (word_kind c l e) charged ∷ []) at size
      (expression_notes_length c l e charged) there in
      let is = kind_is c l Can e t (term_typed l e t ty s).0 in
      let note = note_here ns (at + size) (push (word_kind c l e) charged) q.1.0 ∙ ap (λ z. push z charged) is in
      one_kept code at_block bl (noted ns) most_words (expression_code n scope e at) i.Return at size
      (expression_length n scope e at)
      (term_kept l scope m e t at charged ty s (omega arith) p.0 q.0
      (fits_eq (push t charged) (noted ns (at + size)) note))
      (gives_back code at_block bl most_words w ns (at + size) true p.1.0
      (note ∙ sym (ap (λ o. record { shape = one_or_none o; paid = true }) res))
      (subst (λ z. Fits entry (noted ns z)) (let z : at + (size + 1) ≡ suc (at + size) = omega arith in z) next))

  -- ---- calls and forks

  -- the arguments of a procedure, and an instruction that takes them all
  args_then : (l : Locals) (scope : Scope) → NamesMean code bl n c l scope
      → (x : PlacedName) (args : Expressions) (p : Callee) (at : ℕ) (y : Instr) (gs : List ValueKind)
      → CallTyped c l x args p → expressions_small args ≡ true → HasAt bl.instrs at (expressions_code n scope args at)
      → HasItems ns at (expressions_notes c l args charged)
      → slice_get bl.instrs (at + expressions_size args) ≡ Some y
      → noted ns (at + expressions_size args) ≡ behind_args c l args charged → pass.target y ≡ None
      → pass.falls y ≡ true → pass.names code at_block y ≡ true → pass.bad_local bl y ≡ false
      → ((s : Shape) → takes code bl s y ≡ reverse (kinds_of p.params)) → gives code bl y ≡ gs → length gs ≤ 1
      → Fits (record { shape = gs ++ []; paid = pass.paid_after true y }) (noted ns (suc (at + expressions_size args)))
      → Keeps at (expressions_code n scope args at) × Kept (at + expressions_size args) y
  args_then l scope m x args p at y gs call s here there is note tg fa na lo ta gi lw fits =
      let ty = call_args l x args p call s in
      let deep = ty.1 in
      let before = args_behind code at_block bl most_words n c l scope w m ns p.params args charged ty.0 in
      let long = length-append gs [] in (
        args_kept code at_block bl most_words n c l scope w m ns p.params args at charged ty.0 here there
            (omega (arith, deep)) (fits_eq (behind_args c l args charged) (noted ns (at + expressions_size args)) note),
        passes_on code at_block bl most_words w ns (at + expressions_size args)
            (record { shape = reverse (kinds_of p.params) ++ []; paid = true })
            (record { shape = gs ++ []; paid = pass.paid_after true y }) y is (note ∙ before) tg fa
            (outside_fine code at_block bl y na bm.outside) lo
            (finds_all code at_block bl (kinds_of p.params) gs [] true y (ta (reverse (kinds_of p.params) ++ [])) gi
            (λ q. refl) (λ q. refl))
            (omega (arith, lw, long)) fits,
      )

  one_at_most : (o : Option ValueKind) → length (one_or_none o) ≤ 1
  one_at_most None = omega arith
  one_at_most (Some t) = omega arith

  pub calls : (l : Locals) (scope : Scope) → NamesMean code bl n c l scope
      → (x : PlacedName) (args : Expressions) (p : Callee) (at : ℕ) → CallTyped c l x args p
      → expressions_small args ≡ true → HasAt bl.instrs at (expressions_code n scope args at)
      → HasItems ns at (expressions_notes c l args charged)
      → slice_get bl.instrs (at + expressions_size args) ≡ Some (i.Call (n.proc x.text))
      → noted ns (at + expressions_size args) ≡ behind_args c l args charged
      → Fits (record { shape = one_or_none p.result ++ []; paid = false }) (noted ns (suc (at + expressions_size args)))
      → Keeps at (expressions_code n scope args at) × Kept (at + expressions_size args) (i.Call (n.proc x.text))
  calls l scope m x args p at call s here there is note fits =
      let d = bm.procs x.text p call.0 in
      args_then l scope m x args p at (i.Call (n.proc x.text)) (one_or_none p.result) call s here there is note refl
      refl (ap (has_class is_procedure) d.is ∙ d.class) refl
      (λ s. ap (λ o. reverse (param_kinds o)) d.is ∙ ap reverse d.params)
      (ap result_kinds d.is ∙ ap one_or_none d.result) (one_at_most p.result) fits

  pub forks_one : (l : Locals) (scope : Scope) → NamesMean code bl n c l scope
      → (x : PlacedName) (args : Expressions) (p : Callee) (at : ℕ) → CallTyped c l x args p
      → expressions_small args ≡ true → HasAt bl.instrs at (expressions_code n scope args at)
      → HasItems ns at (expressions_notes c l args charged)
      → slice_get bl.instrs (at + expressions_size args) ≡ Some (i.Fork (n.proc x.text))
      → noted ns (at + expressions_size args) ≡ behind_args c l args charged
      → Fits (push k.Rev entry) (noted ns (suc (at + expressions_size args)))
      → Keeps at (expressions_code n scope args at) × Kept (at + expressions_size args) (i.Fork (n.proc x.text))
  forks_one l scope m x args p at call s here there is note fits =
      let d = bm.procs x.text p call.0 in
      args_then l scope m x args p at (i.Fork (n.proc x.text)) (k.Rev ∷ []) call s here there is note refl refl
      (ap (has_class is_procedure) d.is ∙ d.class) refl
      (λ s. ap (λ o. reverse (param_kinds o)) d.is ∙ ap reverse d.params) refl (omega arith) fits

  pub pops : (at : ℕ) (t : ValueKind) → slice_get bl.instrs at ≡ Some i.Pop → noted ns at ≡ push t entry → Next (suc at)
      → Kept at i.Pop
  pops at t here note next =
      takes_one at t entry entry i.Pop refl here note refl refl refl refl refl refl refl refl next

  -- what is left of a call is dropped
  pub dropped_kept : (x : PlacedName) (p : Callee) (g : Bool) (o : Option ValueKind) (at : ℕ) → c.procs x.text ≡ Some p
      → p.result ≡ o → g ≡ is_some o → HasAt bl.instrs at (dropped g) → HasItems ns at (dropped_notes c x g)
      → Next (at + dropped_size g)
      → Keeps at (dropped g) × Fits (record { shape = one_or_none o ++ []; paid = false }) (noted ns at)
  dropped_kept x p true (Some t) at is res e here there next =
      let kind : result_kind c x ≡ t = ap (λ z. kind_or_int (result_of z)) is ∙ ap kind_or_int res in
      let note = note_here ns at (push (result_kind c x) entry) there.0 ∙ ap (λ z. push z entry) kind in (
        (
          pops at t here.0 note
              (subst (λ z. Fits entry (noted ns z)) (let z : at + 1 ≡ suc at = omega arith in z) next),
          nothing,
        ),
        fits_eq (push t entry) (noted ns at) note,
      )
  dropped_kept x p false None at is res e here there next =
      (nothing, subst (λ z. Fits entry (noted ns z)) (let z : at + 0 ≡ at = omega arith in z) next)
  dropped_kept x p true None at is res e here there next = absurd (true≢false e)
  dropped_kept x p false (Some t) at is res e here there next = absurd (true≢false (sym e))

  -- ---- right sides

  pub right_is : (l : Locals) (r : RightSide) (t : ValueKind) → RightSideHas c l r t → right_side_small r ≡ true
      → (below : Note) × (below.shape ≡ []) × (behind_right_side c l r ≡ push t below)
  right_is l (plain e) t h s = (charged, refl, ap (λ z. push z charged) (kind_is c l Can e t (term_typed l e t h s).0))
  right_is l (called p x args) t h s =
      (entry, refl, ap (λ z. push z entry) (ap (λ z. kind_or_int (result_of z)) h.1.0 ∙ ap kind_or_int h.2))
  right_is l (forked p x args) t h s = (entry, refl, ap (λ z. push z entry) (sym h.0))
  right_is l (tried p handle) t h s = (charged, refl, ap (λ z. push z charged) (sym h.0))

  pub right_kept : (l : Locals) (scope : Scope) → NamesMean code bl n c l scope
      → (r : RightSide) (t : ValueKind) (at : ℕ) → RightSideHas c l r t → right_side_small r ≡ true
      → HasAt bl.instrs at (right_side_code n scope r at) → HasItems ns at (right_side_notes c l r)
      → noted ns (at + right_side_size r) ≡ behind_right_side c l r → Keeps at (right_side_code n scope r at)
  right_kept l scope m (plain e) t at h s here there note =
      term_kept l scope m e t at charged h s (omega arith) here there
      (fits_eq (push t charged) (noted ns (at + expression_size e))
      (note ∙ ap (λ z. push z charged) (kind_is c l Can e t (term_typed l e t h s).0)))
  right_kept l scope m (called p0 x args) t at h s here there note =
      let size : ℕ = expressions_size args in
      let p = parts_stand bl.instrs (expressions_code n scope args at) (i.Call (n.proc x.text) ∷ []) at size
      (expressions_length n scope args at) here in
      let q = parts_stand ns (expressions_notes c l args charged) (behind_args c l args charged ∷ []) at size
      (expressions_notes_length c l args charged) there in
      let kind : result_kind c x ≡ t = ap (λ z. kind_or_int (result_of z)) h.1.0 ∙ ap kind_or_int h.2 in
      let end : suc (at + size) ≡ at + (size + 1) = omega arith in
      let behind =
      fits_eq (push t entry) (noted ns (suc (at + size))) (ap (noted ns) end ∙ note ∙ ap (λ z. push z entry) kind) in
      let both =
      calls l scope m x args h.0 at h.1 (and_parts (name_formed x) (expressions_small args) s).1 p.0 q.0 p.1.0
      (note_here ns (at + size) (behind_args c l args charged) q.1.0)
      (subst (λ o. Fits (record { shape = one_or_none o ++ []; paid = false }) (noted ns (suc (at + size)))) (sym h.2)
      behind) in
      one_kept code at_block bl (noted ns) most_words (expressions_code n scope args at) (i.Call (n.proc x.text)) at
      size (expressions_length n scope args at) both.0 both.1
  right_kept l scope m (forked p0 x args) t at h s here there note =
      let size : ℕ = expressions_size args in
      let p = parts_stand bl.instrs (expressions_code n scope args at) (i.Fork (n.proc x.text) ∷ []) at size
      (expressions_length n scope args at) here in
      let q = parts_stand ns (expressions_notes c l args charged) (behind_args c l args charged ∷ []) at size
      (expressions_notes_length c l args charged) there in
      let end : suc (at + size) ≡ at + (size + 1) = omega arith in
      let both =
      forks_one l scope m x args h.1.0 at h.1.1 (and_parts (name_formed x) (expressions_small args) s).1 p.0 q.0 p.1.0
      (note_here ns (at + size) (behind_args c l args charged) q.1.0)
      (fits_eq (push k.Rev entry) (noted ns (suc (at + size))) (ap (noted ns) end ∙ note)) in
      one_kept code at_block bl (noted ns) most_words (expressions_code n scope args at) (i.Fork (n.proc x.text)) at
      size (expressions_length n scope args at) both.0 both.1
  right_kept l scope m (tried p0 handle) t at h s here there note =
      let size : ℕ = expression_size handle in
      let p = parts_stand bl.instrs (expression_code n scope handle at) (i.TryJoin ∷ []) at size
      (expression_length n scope handle at) here in
      let q = parts_stand ns (expression_notes c l handle charged) (push k.Rev charged ∷ []) at size
      (expression_notes_length c l handle charged) there in
      let end : suc (at + size) ≡ at + (size + 1) = omega arith in
      let e = note_here ns (at + size) (push k.Rev charged) q.1.0 in
      one_kept code at_block bl (noted ns) most_words (expression_code n scope handle at) i.TryJoin at size
      (expression_length n scope handle at)
      (term_kept l scope m handle k.Rev at charged h.1 s (omega arith) p.0 q.0
      (fits_eq (push k.Rev charged) (noted ns (at + size)) e))
      (passes_on code at_block bl most_words w ns (at + size) (push k.Rev charged) (push k.Bool charged) i.TryJoin p.1.0
      e refl refl (outside_fine code at_block bl i.TryJoin refl bm.outside) refl (refl, λ q. refl, λ q. no q, refl)
      (omega arith) (fits_eq (push k.Bool charged) (noted ns (suc (at + size))) (ap (noted ns) end ∙ note)))

  -- ---- prints

  items_first : (l : Locals) (items : List PrintItem) (note : Note) (at : ℕ)
      → HasItems ns at (items_notes c l items note)
      → Fits (behind_items c l items note) (noted ns (at + items_size items)) → Fits note (noted ns at)
  items_first l [] note at h fits = subst (λ z. Fits note (noted ns z)) (let z : at + 0 ≡ at = omega arith in z) fits
  items_first l (text p bytes ∷ items) note at h fits = items_first l items note at h fits
  items_first l (shown e ∷ items) note at h fits =
      let q = parts_stand ns (expression_notes c l e note) (items_notes c l items (push (word_kind c l e) note)) at
      (expression_size e) (expression_notes_length c l e note) h in
      fits_eq note (noted ns at) (first_note c l ns e note at q.0)

  pub items_kept : (l : Locals) (scope : Scope) → NamesMean code bl n c l scope
      → (items : List PrintItem) (at : ℕ) (note : Note) → ItemsTyped c l items → list_all item_small items ≡ true
      → length note.shape + length items ≤ 64 → HasAt bl.instrs at (items_code n scope items at)
      → HasItems ns at (items_notes c l items note)
      → Fits (behind_items c l items note) (noted ns (at + items_size items)) → Keeps at (items_code n scope items at)
  items_kept l scope m [] at note ty s low here there fits = nothing
  items_kept l scope m (text p bytes ∷ items) at note ty s low here there fits =
      items_kept l scope m items at note ty.1 (and_parts (item_small (text p bytes)) (list_all item_small items) s).1
      (omega (arith, low)) here there fits
  items_kept l scope m (shown e ∷ items) at note ty s low here there fits =
      let size : ℕ = expression_size e in
      let next : Note = push (word_kind c l e) note in
      let g = and_parts (expression_small e) (list_all item_small items) s in
      let h = parts_stand bl.instrs (expression_code n scope e at) (items_code n scope items (at + size)) at size
      (expression_length n scope e at) here in
      let q = parts_stand ns (expression_notes c l e note) (items_notes c l items next) at size
      (expression_notes_length c l e note) there in
      let fits2 =
      subst (λ z. Fits (behind_items c l items next) (noted ns z))
      (let z : at + (size + items_size items) ≡ at + size + items_size items = omega arith in z) fits in
      let is = kind_is c l Can e ty.0.0 (term_typed l e ty.0.0 ty.0.1 g.0).0 in
      parts_kept code at_block bl (noted ns) most_words (expression_code n scope e at)
      (items_code n scope items (at + size)) at size (expression_length n scope e at)
      (term_kept l scope m e ty.0.0 at note ty.0.1 g.0 (omega (arith, low)) h.0 q.0
      (subst (λ z. Fits (push z note) (noted ns (at + size))) is (items_first l items next (at + size) q.1 fits2)))
      (items_kept l scope m items (at + size) next ty.1 g.1 (omega (arith, low)) h.1 q.1 fits2)

  -- the layout of a print has the kinds of its values
  item_kind : (t : ValueKind) → t ≢ k.Rev → (texts : ℕ) (items : List _)
      → printed_kinds (value_item (Some t) ∷ items) ≡ t ∷ printed_kinds items
  item_kind k.Int h texts items = refl
  item_kind k.Bool h texts items = refl
  item_kind k.Rev h texts items = absurd (h refl)

  pub items_behind : (l : Locals) (texts : ℕ) (items : List PrintItem) (note : Note) → ItemsTyped c l items
      → list_all item_small items ≡ true → behind_items c l items note
      ≡ record { shape = reverse (printed_kinds (layout_of c l texts items)) ++ note.shape; paid = note.paid }
  items_behind l texts [] note ty s = refl
  items_behind l texts (text p bytes ∷ items) note ty s =
      items_behind l (suc texts) items note ty.1 (and_parts (item_small (text p bytes)) (list_all item_small items) s).1
  items_behind l texts (shown e ∷ items) note ty s =
      let g = and_parts (expression_small e) (list_all item_small items) s in
      let is = kind_is c l Can e ty.0.0 (term_typed l e ty.0.0 ty.0.1 g.0).0 in
      let found = (complete c l e ty.0.0 ty.0.1).1 in
      let kinds :
      printed_kinds (layout_of c l texts (shown e ∷ items)) ≡ ty.0.0 ∷ printed_kinds (layout_of c l texts items) =
      ap (λ o. printed_kinds (value_item o ∷ layout_of c l texts items)) found
      ∙ item_kind ty.0.0 ty.0.2 texts (layout_of c l texts items) in
      items_behind l texts items (push (word_kind c l e) note) ty.1 g.1
      ∙ ap
      (λ z. record { shape = reverse (printed_kinds (layout_of c l texts items)) ++ z ∷ note.shape; paid = note.paid })
      is
      ∙ ap (λ z. record { shape = z; paid = note.paid })
      (turned ty.0.0 (printed_kinds (layout_of c l texts items)) note.shape)
      ∙ sym (ap (λ z. record { shape = reverse z ++ note.shape; paid = note.paid }) kinds)

  pub prints : (at layout : ℕ) (items : List _) (paid : Bool) → slice_get code.layouts layout ≡ Some items
      → slice_get bl.instrs at ≡ Some (i.Print layout)
      → noted ns at ≡ record { shape = reverse (printed_kinds items) ++ []; paid = paid } → Next (suc at)
      → Kept at (i.Print layout)
  prints at layout items paid is here note next =
      passes_on code at_block bl most_words w ns at
      (record { shape = reverse (printed_kinds items) ++ []; paid = paid }) (record { shape = []; paid = paid })
      (i.Print layout) here note refl refl (outside_fine code at_block bl (i.Print layout) (ap is_layout is) bm.outside)
      refl
      (finds_all code at_block bl (printed_kinds items) [] [] paid (i.Print layout)
      (ap (λ o. reverse (layout_kinds o)) is) refl (λ q. no q) (λ q. no q))
      (omega arith) (empty_fits (record { shape = []; paid = paid }) (noted ns (suc at)) refl next)
