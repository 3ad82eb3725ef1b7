-- Texts and layouts keep their rules.
use Rattle.std.proofs.Common.{◌≡◌, ◌<◌, ◌≤◌, ℕ, suc, ◌+◌, Bool, true, ◌&&◌, List, [], ◌∷◌, length, length-append, Option, Some, None, refl, ap, arith}
use Rattle.std.specs.Prelude.{nat_lt}
use Rattle.std.specs.List.{list_all}
use Rattle.std.proofs.lemmas.Bool.Decides.{nat_tests}
use Rattle.rev_num.specs.declared.value.ValueKind.{ValueKind}
use Rattle.rev_num.specs.declared.value.ValueKind.TheVariants as k
use Rattle.rev_syntax.specs.Bytes as byte
use Rattle.rev_syntax.specs.Trees.{PrintItem, text, shown, Statement, statement, StatementForm, bind, assign, assign_cell, choose, choose_or, repeat, call, return, fork, join, print, assert, Statements, no_statements, statements, Arms, no_arms, arm}
use Rattle.rev_syntax.specs.Small.{expression_small, item_small, items_count, statement_count, statement_form_count, statements_count, arms_count, statement_small, statement_form_small, statements_small, arms_small}
use Rattle.typed_programs.specs.Kinds.{Names, Locals, kind_in}
use Rattle.typed_programs.proofs.Lists.{and_parts}
use Rattle.typed_programs.specs.Limits.{StatementPrints, StatementFormPrints, StatementsPrint, ArmsPrint}
use Rattle.typed_programs.specs.Scopes.{locals_after}
use Rattle.rev_code.specs.declared.code.LayoutItem.{LayoutItem}
use Rattle.code_rules.specs.Tables.{is_text_byte, is_item, is_small_text, is_small_layout}
use Rattle.code_generation.specs.Prints.{value_item, layout_of, items_texts, statement_texts, statement_form_texts, statements_texts, arms_texts, statement_layouts, statement_form_layouts, statements_layouts, arms_layouts}
use Rattle.generated_certificates.proofs.Names.{all_both, text_well}
use Rattle.code_generation.proofs.BlockRules.{both}

-- ---- texts

-- the bytes of a text, and how many they are
abbrev pub text_fits : List ℕ → Bool
text_fits t = list_all is_text_byte t && is_small_text t

module _ (most : ℕ) (few : most ≤ 4294967295) where
  one_fits : (t : List ℕ) → list_all byte.is_text_byte t ≡ true → length t ≤ most → text_fits t ≡ true
  one_fits t h l =
      both (list_all is_text_byte t) (is_small_text t) (text_well t h)
      (let q : length t ≤ 4294967295 = omega (arith, few, l) in grind (arith, nat_tests, q))

  items_texts_fit : (items : List PrintItem) → list_all item_small items ≡ true → items_count items ≤ most
      → list_all text_fits (items_texts items) ≡ true
  items_texts_fit [] h l = refl
  items_texts_fit (text p bytes ∷ items) h l =
      let g = and_parts (item_small (text p bytes)) (list_all item_small items) h in
      both (text_fits bytes) (list_all text_fits (items_texts items)) (one_fits bytes g.0 (omega (arith, l)))
      (items_texts_fit items g.1 (omega (arith, l)))
  items_texts_fit (shown e ∷ items) h l =
      items_texts_fit items (and_parts (item_small (shown e)) (list_all item_small items) h).1 (omega (arith, l))

  mutual
    statement_texts_fit : (x : Statement) → statement_small x ≡ true → statement_count x ≤ most
        → list_all text_fits (statement_texts x) ≡ true
    statement_texts_fit (statement p line form) h l = form_texts_fit form h (omega (arith, l))

    form_texts_fit : (form : StatementForm) → statement_form_small form ≡ true → statement_form_count form ≤ most
        → list_all text_fits (statement_form_texts form) ≡ true
    form_texts_fit (print items) h l = items_texts_fit items h l
    form_texts_fit (choose arms) h l = arms_texts_fit arms h l
    form_texts_fit (choose_or arms last) h l =
        let g = and_parts (arms_small arms) (statements_small last) h in
        all_both text_fits (arms_texts arms) (statements_texts last) (arms_texts_fit arms g.0 (omega (arith, l)))
        (texts_fit last g.1 (omega (arith, l)))
    form_texts_fit (repeat test body) h l =
        texts_fit body (and_parts (expression_small test) (statements_small body) h).1 (omega (arith, l))
    form_texts_fit (bind w r) h l = refl
    form_texts_fit (assign w r) h l = refl
    form_texts_fit (assign_cell w index e) h l = refl
    form_texts_fit (call w args) h l = refl
    form_texts_fit (return e) h l = refl
    form_texts_fit (fork w args) h l = refl
    form_texts_fit (join e) h l = refl
    form_texts_fit (assert e) h l = refl

    pub texts_fit : (xs : Statements) → statements_small xs ≡ true → statements_count xs ≤ most
        → list_all text_fits (statements_texts xs) ≡ true
    texts_fit no_statements h l = refl
    texts_fit (statements x rest) h l =
        let g = and_parts (statement_small x) (statements_small rest) h in
        all_both text_fits (statement_texts x) (statements_texts rest) (statement_texts_fit x g.0 (omega (arith, l)))
        (texts_fit rest g.1 (omega (arith, l)))

    arms_texts_fit : (arms : Arms) → arms_small arms ≡ true → arms_count arms ≤ most
        → list_all text_fits (arms_texts arms) ≡ true
    arms_texts_fit no_arms h l = refl
    arms_texts_fit (arm test body rest) h l =
        let g = and_parts (expression_small test && statements_small body) (arms_small rest) h in
        all_both text_fits (statements_texts body) (arms_texts rest)
        (texts_fit body (and_parts (expression_small test) (statements_small body) g.0).1 (omega (arith, l)))
        (arms_texts_fit rest g.1 (omega (arith, l)))

-- ---- layouts

-- the items of a layout, of so many texts, and how many they are
abbrev pub layout_fits : ℕ → List LayoutItem → Bool
layout_fits texts layout = list_all (is_item texts) layout && is_small_layout layout

module _ (all : ℕ) (c : Names) where
  value_fits : (o : Option ValueKind) → is_item all (value_item o) ≡ true
  value_fits None = refl
  value_fits (Some k.Int) = refl
  value_fits (Some k.Bool) = refl
  value_fits (Some k.Rev) = refl

  items_fit : (l : Locals) (texts : ℕ) (items : List PrintItem) → texts + length (items_texts items) ≤ all
      → list_all (is_item all) (layout_of c l texts items) ≡ true
  items_fit l texts [] h = refl
  items_fit l texts (text p bytes ∷ items) h =
      let less : texts < all = omega (arith, h) in
      both (nat_lt texts all) (list_all (is_item all) (layout_of c l (suc texts) items))
      (grind (arith, nat_tests, less)) (items_fit l (suc texts) items (omega (arith, h)))
  items_fit l texts (shown e ∷ items) h =
      both (is_item all (value_item (kind_in c l e))) (list_all (is_item all) (layout_of c l texts items))
      (value_fits (kind_in c l e)) (items_fit l texts items h)

  layout_length : (l : Locals) (texts : ℕ) (items : List PrintItem) → length (layout_of c l texts items) ≡ length items
  layout_length l texts [] = refl
  layout_length l texts (text p bytes ∷ items) = ap suc (layout_length l (suc texts) items)
  layout_length l texts (shown e ∷ items) = ap suc (layout_length l texts items)

  print_fits : (l : Locals) (texts : ℕ) (items : List PrintItem) → texts + length (items_texts items) ≤ all
      → length items ≤ 64 → layout_fits all (layout_of c l texts items) ≡ true
  print_fits l texts items h s =
      let z = layout_length l texts items in
      let q : length (layout_of c l texts items) ≤ 64 = omega (arith, z, s) in
      both (list_all (is_item all) (layout_of c l texts items)) (is_small_layout (layout_of c l texts items))
      (items_fit l texts items h) (grind (arith, nat_tests, q))

  mutual
    statement_layouts_fit : (l : Locals) (texts : ℕ) (x : Statement) → StatementPrints x
        → texts + length (statement_texts x) ≤ all → list_all (layout_fits all) (statement_layouts c l texts x) ≡ true
    statement_layouts_fit l texts (statement p line form) s h = form_layouts_fit l texts form s h

    form_layouts_fit : (l : Locals) (texts : ℕ) (form : StatementForm) → StatementFormPrints form
        → texts + length (statement_form_texts form) ≤ all
        → list_all (layout_fits all) (statement_form_layouts c l texts form) ≡ true
    form_layouts_fit l texts (print items) s h =
        both (layout_fits all (layout_of c l texts items)) true (print_fits l texts items h s) refl
    form_layouts_fit l texts (choose arms) s h = arms_layouts_fit l texts arms s h
    form_layouts_fit l texts (choose_or arms last) s h =
        let z = length-append (arms_texts arms) (statements_texts last) in
        all_both (layout_fits all) (arms_layouts c l texts arms)
        (statements_layouts c l (texts + length (arms_texts arms)) last)
        (arms_layouts_fit l texts arms s.0 (omega (arith, h, z)))
        (layouts_fit l (texts + length (arms_texts arms)) last s.1 (omega (arith, h, z)))
    form_layouts_fit l texts (repeat test body) s h = layouts_fit l texts body s h
    form_layouts_fit l texts (bind w r) s h = refl
    form_layouts_fit l texts (assign w r) s h = refl
    form_layouts_fit l texts (assign_cell w index e) s h = refl
    form_layouts_fit l texts (call w args) s h = refl
    form_layouts_fit l texts (return e) s h = refl
    form_layouts_fit l texts (fork w args) s h = refl
    form_layouts_fit l texts (join e) s h = refl
    form_layouts_fit l texts (assert e) s h = refl

    pub layouts_fit : (l : Locals) (texts : ℕ) (xs : Statements) → StatementsPrint xs
        → texts + length (statements_texts xs) ≤ all
        → list_all (layout_fits all) (statements_layouts c l texts xs) ≡ true
    layouts_fit l texts no_statements s h = refl
    layouts_fit l texts (statements x rest) s h =
        let z = length-append (statement_texts x) (statements_texts rest) in
        all_both (layout_fits all) (statement_layouts c l texts x)
        (statements_layouts c (locals_after c l x) (texts + length (statement_texts x)) rest)
        (statement_layouts_fit l texts x s.0 (omega (arith, h, z)))
        (layouts_fit (locals_after c l x) (texts + length (statement_texts x)) rest s.1 (omega (arith, h, z)))

    arms_layouts_fit : (l : Locals) (texts : ℕ) (arms : Arms) → ArmsPrint arms → texts + length (arms_texts arms) ≤ all
        → list_all (layout_fits all) (arms_layouts c l texts arms) ≡ true
    arms_layouts_fit l texts no_arms s h = refl
    arms_layouts_fit l texts (arm test body rest) s h =
        let z = length-append (statements_texts body) (arms_texts rest) in
        all_both (layout_fits all) (statements_layouts c l texts body)
        (arms_layouts c l (texts + length (statements_texts body)) rest)
        (layouts_fit l texts body s.0 (omega (arith, h, z)))
        (arms_layouts_fit l (texts + length (statements_texts body)) rest s.1 (omega (arith, h, z)))
