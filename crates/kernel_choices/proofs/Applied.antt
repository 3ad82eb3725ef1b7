-- In a well-typed program a merge has no definition exactly where it applies a fun.
use Rattle.std.proofs.Common.{◌≡◌, ◌≢◌, ◌∙◌, ◌<◌, ap, sym, refl, subst, ℕ, zero, suc, Bool, true, false, List, [], ◌∷◌, ◌++◌, ◌&&◌, length, slice_get, Option, Some, None, option_and_then, if◌then◌else◌, is_some, arith, true≢false}
use Rattle.rev_num.specs.declared.value.ValueKind.{ValueKind}
use Rattle.rev_num.specs.declared.value.ValueKind.TheVariants as k
use Rattle.rev_syntax.specs.Trees.{PlacedName, Expression, placed, ExpressionForm, Links, int, bool, no_rev, var, cell, apply, input, inputs, pick, unary, chain, no_links, link, Declaration, fun, merge, shared, proc}
use Rattle.rev_syntax.specs.declared.tree.UnaryOp.{UnaryOp}
use Rattle.rev_syntax.specs.declared.tree.UnaryOp.TheVariants as u
use Rattle.rev_syntax.specs.declared.tree.BinaryOp.{BinaryOp}
use Rattle.rev_syntax.specs.declared.tree.BinaryOp.TheVariants as b
use Rattle.name_tables.specs.Names.{Name, same}
use Rattle.name_tables.specs.Table.{find, added}
use Rattle.typed_programs.specs.FunRules.{expression_uses, expression_form_uses, links_uses}
use Rattle.typed_programs.specs.Value.{FunDef}
use Rattle.typed_programs.specs.Definitions.{fun_def, MergeDef, merges_after, merges_in}
use Rattle.name_tables.proofs.Tables.{or_else, find-added}
use Rattle.typed_programs.specs.Kinds.{Names, Locals, operand_kind}
use Rattle.typed_programs.specs.Typing.{ScalarHas, ArrayHas, TakesLeft, TakesRightSide, TakesFirst, HasKind, ExpressionFormHas, LinksHave}
use Rattle.typed_programs.specs.Scopes.{outside, within, merge_locals}
use Rattle.typed_programs.specs.Judgement.{DeclarationsTyped}
use Rattle.revision_calculus.proofs.FunKinds.{rules_kept}
use Rattle.merge_kernels.specs.Closing as closing
use Rattle.merge_kernels.specs.Closing.{with_part, with_three, with_links, with_link, renamed, renamed_form, renamed_links}
use Rattle.merge_kernels.specs.Terms.{parameter, main_name, join_name, root_name}
use Rattle.merge_kernels.specs.Merges.{term_by, term_of}
use Rattle.merge_kernels.proofs.MergeTerms.{none_some}
use Rattle.kernel_choices.specs.Choices.{NoDefinitionIsAnApplication}

abbrev none_in : {U : Type 0} → List U → Bool
none_in [] = true
none_in (x ∷ xs) = false

both_none : {U : Type 0} (xs ys : List U) → none_in (xs ++ ys) ≡ (none_in xs && none_in ys)
both_none [] ys = refl
both_none (x ∷ xs) ys = refl

-- there is a definition exactly where there is no application
abbrev Exact : {A U : Type 0} → Option A → List U → Type 0
Exact o us = is_some o ≡ none_in us

part_exact : {U : Type 0} (op : UnaryOp) (o : Option Expression) (us : List U) → Exact o us → Exact (with_part op o) us
part_exact op None us h = h
part_exact op (Some e) us h = h

three_some : (o p q : Option Expression) → is_some (with_three o p q) ≡ ((is_some o && is_some p) && is_some q)
three_some (Some a) (Some b) (Some c) = refl
three_some None None None = refl
three_some None None (Some c) = refl
three_some None (Some b) None = refl
three_some None (Some b) (Some c) = refl
three_some (Some a) None None = refl
three_some (Some a) None (Some c) = refl
three_some (Some a) (Some b) None = refl

links_some : (o : Option Expression) (r : Option Links) → is_some (with_links o r) ≡ (is_some o && is_some r)
links_some (Some a) (Some b) = refl
links_some None None = refl
links_some None (Some b) = refl
links_some (Some a) None = refl

link_some : (op : BinaryOp) (o : Option Expression) (r : Option Links)
    → is_some (with_link op o r) ≡ (is_some o && is_some r)
link_some op (Some a) (Some b) = refl
link_some op None None = refl
link_some op None (Some b) = refl
link_some op (Some a) None = refl

-- ---- kinds that are no handles

int_not : (t : ValueKind) → t ≡ k.Int → t ≢ k.Rev
int_not t e f = let q : k.Int ≡ k.Rev = sym e ∙ f in cc

bool_not : (t : ValueKind) → t ≡ k.Bool → t ≢ k.Rev
bool_not t e f = let q : k.Bool ≡ k.Rev = sym e ∙ f in cc

left_not : (op : BinaryOp) (t : ValueKind) → TakesLeft op t → t ≢ k.Rev
left_not b.Add t h = int_not t h
left_not b.Sub t h = int_not t h
left_not b.Mul t h = int_not t h
left_not b.Div t h = int_not t h
left_not b.Rem t h = int_not t h
left_not b.Eq t h = h
left_not b.Ne t h = h
left_not b.Lt t h = int_not t h
left_not b.Le t h = int_not t h
left_not b.Gt t h = int_not t h
left_not b.Ge t h = int_not t h
left_not b.And t h = bool_not t h
left_not b.Or t h = bool_not t h

right_not : (op : BinaryOp) (left t : ValueKind) → left ≢ k.Rev → TakesRightSide op left t → t ≢ k.Rev
right_not b.Add left t other h = int_not t h
right_not b.Sub left t other h = int_not t h
right_not b.Mul left t other h = int_not t h
right_not b.Div left t other h = int_not t h
right_not b.Rem left t other h = int_not t h
right_not b.Eq left t other h = λ e. other (sym h ∙ e)
right_not b.Ne left t other h = λ e. other (sym h ∙ e)
right_not b.Lt left t other h = int_not t h.0
right_not b.Le left t other h = int_not t h.0
right_not b.Gt left t other h = int_not t h.0
right_not b.Ge left t other h = int_not t h.0
right_not b.And left t other h = bool_not t h
right_not b.Or left t other h = bool_not t h

operand_not : (op : UnaryOp) → operand_kind op ≢ k.Rev
operand_not u.Neg = int_not k.Int refl
operand_not u.Not = bool_not k.Bool refl

first_not : (rest : Links) (t : ValueKind) → TakesFirst rest t → t ≢ k.Rev
first_not no_links t h = absurd h
first_not (link op x rest) t h = left_not op t h

-- ---- names

module _ (m j r : PlacedName) where
  abbrev names : closing.Names
  names = record { main = m.text; join = j.text; root = r.text }

  abbrev one : Locals
  one = added [] m.text (Some k.Int)

  abbrev two : Locals
  two = added one j.text (Some k.Int)

  found : (w : Name) → find w (merge_locals m j r)
      ≡ or_else (or_else (or_else None (if same w m.text then Some (Some k.Int) else None))
      (if same w j.text then Some (Some k.Int) else None))
      (if same w r.text then Some (Some k.Int) else None)
  found w =
      find-added w r.text (Some k.Int) two
      ∙ ap (λ o. or_else o (if same w r.text then Some (Some k.Int) else None))
      (find-added w j.text (Some k.Int) one
      ∙ ap (λ o. or_else o (if same w j.text then Some (Some k.Int) else None)) (find-added w m.text (Some k.Int) []))

  -- a name that means none of the three is no local
  name_by : (x y z : Bool) (o : Option (Option ValueKind))
      → o
      ≡ or_else (or_else (or_else None (if z then Some (Some k.Int) else None)) (if y then Some (Some k.Int) else None))
      (if x then Some (Some k.Int) else None)
      → (t : ValueKind) → ScalarHas o None t
      → is_some (if x then Some (parameter root_name) else if y then Some (parameter join_name) else if z
      then Some (parameter main_name) else None)
      ≡ true
  name_by true y z o e t has = refl
  name_by false true z o e t has = refl
  name_by false false true o e t has = refl
  name_by false false false o e t has = absurd (subst (λ q. ScalarHas q None t) e has)

  module _ (c : Names) (closed : (name : Name) → c.shared name ≡ None) (inner : c.inside ≡ true) (d : ℕ) where
    abbrev locals : Locals
    locals = merge_locals m j r

    no_cell : (w : Name) (t : ValueKind) (o : Option (Option ValueKind)) → ArrayHas o None t → ⊥
    no_cell w t (Some x) has = has
    no_cell w t None has = has

    mutual
      exact : (e : Expression) (t : ValueKind) → HasKind c locals e t → t ≢ k.Rev
          → Exact (renamed names e) (expression_uses d e)
      exact (placed at s) t has other = form_exact s t has other

      form_exact : (s : ExpressionForm) (t : ValueKind) → ExpressionFormHas c locals s t → t ≢ k.Rev
          → Exact (renamed_form names s) (expression_form_uses d s)
      form_exact (int n) t has other = refl
      form_exact (bool x) t has other = refl
      form_exact no_rev t has other = absurd (other has)
      form_exact (var w) t has other =
          name_by (same w.text r.text) (same w.text j.text) (same w.text m.text) (find w.text locals) (found w.text) t
          (subst (λ h. ScalarHas (find w.text locals) h t) (closed w.text) has)
      form_exact (cell w index) t has other =
          absurd (no_cell w.text t (find w.text locals)
          (subst (λ h. ArrayHas (find w.text locals) h t) (closed w.text) has.0))
      form_exact (apply w args) t has other = refl
      form_exact (input at index) t has other = absurd (true≢false (sym inner ∙ has.1))
      form_exact (inputs at) t has other = absurd (true≢false (sym inner ∙ has.1))
      form_exact (pick test x y) t has other =
          three_some (renamed names test) (renamed names x) (renamed names y)
          ∙ (λ i. (exact test k.Bool has.0 (bool_not k.Bool refl) i && exact x t has.1 other i)
          && exact y t has.2 other i)
          ∙ sym (both_none (expression_uses d test ++ expression_uses d x) (expression_uses d y)
          ∙ ap (λ z. z && none_in (expression_uses d y)) (both_none (expression_uses d test) (expression_uses d x)))
      form_exact (unary op part) t has other =
          part_exact op (renamed names part) (expression_uses d part)
          (exact part (operand_kind op) has.1 (operand_not op))
      form_exact (chain first rest) t has other =
          let left = first_not rest has.0 has.2 in
          links_some (renamed names first) (renamed_links names rest)
          ∙ (λ i. exact first has.0 has.1 left i && links_exact has.0 rest left has.3 i)
          ∙ sym (both_none (expression_uses d first) (links_uses d rest))

      links_exact : (left : ValueKind) (rest : Links) → left ≢ k.Rev → LinksHave c locals left rest
          → Exact (renamed_links names rest) (links_uses d rest)
      links_exact left no_links other has = refl
      links_exact left (link op x rest) other has =
          link_some op (renamed names x) (renamed_links names rest)
          ∙ (λ i. exact x has.0.0 has.0.1 (right_not op left has.0.0 other has.0.2) i
          && links_exact left rest other has.1 i)
          ∙ sym (both_none (expression_uses d x) (links_uses d rest))

-- ---- the merges of a program

abbrev AllExact : List MergeDef → Type 0
AllExact [] = Unit {0}
AllExact (d ∷ ds) = Exact (term_by d) (expression_uses 0 d.body) × AllExact ds

merges_exact : (outer inner : Names) → ((name : Name) → inner.shared name ≡ None) → inner.inside ≡ true
    → (before : List Declaration) (fs : List FunDef) (es : List Declaration)
    → DeclarationsTyped outer inner before es → AllExact (merges_after fs es)
merges_exact outer inner closed within before fs [] typed = tt
merges_exact outer inner closed within before fs (fun w ps r body ∷ es) typed =
    merges_exact outer inner closed within (fun w ps r body ∷ before) (fun_def w ps body ∷ fs) es typed.1
merges_exact outer inner closed within before fs (merge w m j r body ∷ es) typed = (
  exact m j r inner closed within 0 body k.Int typed.0.body (int_not k.Int refl),
  merges_exact outer inner closed within (merge w m j r body ∷ before) fs es typed.1,
)
merges_exact outer inner closed within before fs (shared x ∷ es) typed =
    merges_exact outer inner closed within (shared x ∷ before) fs es typed.1
merges_exact outer inner closed within before fs (proc w ps r body ∷ es) typed =
    merges_exact outer inner closed within (proc w ps r body ∷ before) fs es typed.1

exact_at : (ds : List MergeDef) (n : ℕ) (d : MergeDef) → AllExact ds → slice_get ds n ≡ Some d
    → Exact (term_by d) (expression_uses 0 d.body)
exact_at [] n d all at = absurd (none_some at)
exact_at (x ∷ ds) zero d all at =
    let same : x ≡ d = cc in subst (λ y. Exact (term_by y) (expression_uses 0 y.body)) same all.0
exact_at (x ∷ ds) (suc n) d all at = exact_at ds n d all.1 at

none_then : {A U : Type 0} (o : Option A) (us : List U) → Exact o us → o ≡ None → us ≢ []
none_then o us h none empty = true≢false (sym (ap none_in empty) ∙ sym h ∙ ap is_some none)

then_none : {A U : Type 0} (o : Option A) (us : List U) → Exact o us → us ≢ [] → o ≡ None
then_none None us h some = refl
then_none (Some x) [] h some = absurd (some refl)
then_none (Some x) (u ∷ us) h some = absurd (true≢false h)

there_is : (ds : List MergeDef) (n : ℕ) → n < length ds → (d : MergeDef) × (slice_get ds n ≡ Some d)
there_is [] n h = absurd (omega arith)
there_is (d ∷ ds) zero h = (d, refl)
there_is (d ∷ ds) (suc n) h = there_is ds n (omega arith)

pub no_definition : NoDefinitionIsAnApplication
no_definition p well n h =
    let all =
    merges_exact (outside p.declarations) (within p.declarations) (λ name. refl) refl [] [] p.declarations
    (rules_kept p well).declarations in
    let d = there_is (merges_in p) n h in
    let is : term_of p n ≡ term_by d.0 = ap (option_and_then term_by) d.1 in
    let same = exact_at (merges_in p) n d.0 all d.1 in (
      λ none. (d.0, d.1, none_then (term_by d.0) (expression_uses 0 d.0.body) same (sym is ∙ none)),
      λ applied. ap (option_and_then term_by) applied.1
          ∙ then_none (term_by applied.0) (expression_uses 0 applied.0.body)
          (exact_at (merges_in p) n applied.0 all applied.1) applied.2,
    )
