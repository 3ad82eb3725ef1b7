-- The word of an expression that keeps the rules on kinds is of its kind.
use Rattle.std.proofs.Common.{◌≡◌, ◌∙◌, Option, Some, None, sym, ap}
use Rattle.rev_num.specs.declared.value.ValueKind.{ValueKind}
use Rattle.rev_syntax.specs.Trees.{Expression, placed, ExpressionForm, Links, int, bool, no_rev, var, cell, apply, input, inputs, pick, unary, chain, no_links, link}
use Rattle.name_tables.specs.Names.{Name}
use Rattle.name_tables.specs.Table.{find}
use Rattle.typed_programs.specs.declared.names.Holder.{Holder}
use Rattle.typed_programs.specs.Kinds.{Callee, Names, Locals, name_kind, result_of, given_kind}
use Rattle.typed_programs.specs.Typing.{ScalarHas, ArrayHas}
use Rattle.code_rules.specs.Shapes.{kind_or_int}
use Rattle.expression_meaning.proofs.Typed.{Typed, FormTyped, LinksTyped}
use Rattle.generated_certificates.specs.Expressions.{links_give, word_kind, form_kind}

scalar_kind : (f : Option (Option ValueKind)) (h : Option Holder) (t : ValueKind) → ScalarHas f h t
    → kind_or_int (name_kind f h) ≡ t
scalar_kind (Some found) h t has = ap kind_or_int has
scalar_kind None (Some h) t has = has.1
scalar_kind None None t has = absurd has

array_kind : (f : Option (Option ValueKind)) (h : Option Holder) (t : ValueKind) → ArrayHas f h t
    → kind_or_int (name_kind f h) ≡ t
array_kind (Some found) h t has = absurd has
array_kind None (Some h) t has = has.1
array_kind None None t has = absurd has

module _ (c : Names) (l : Locals) (Can : Name → Callee → Type 0) where
  links_end : (rest : Links) (left t : ValueKind) → LinksTyped c l Can left rest t → links_give left rest ≡ t
  links_end no_links left t h = h
  links_end (link op e rest) left t h = links_end rest (given_kind op) t h.4

  mutual
    pub kind_is : (e : Expression) (t : ValueKind) → Typed c l Can e t → word_kind c l e ≡ t
    kind_is (placed p form) t h = form_kind_is form t h

    form_kind_is : (form : ExpressionForm) (t : ValueKind) → FormTyped c l Can form t → form_kind c l form ≡ t
    form_kind_is (int z) t h = sym h
    form_kind_is (bool x) t h = sym h
    form_kind_is no_rev t h = sym h
    form_kind_is (var w) t h = scalar_kind (find w.text l) (c.shared w.text) t h
    form_kind_is (cell w index) t h = array_kind (find w.text l) (c.shared w.text) t h.0
    form_kind_is (apply w args) t h = ap (λ o. kind_or_int (result_of o)) h.1 ∙ ap kind_or_int h.2
    form_kind_is (input p index) t h = sym h.0
    form_kind_is (inputs p) t h = sym h.0
    form_kind_is (pick test x y) t h = kind_is x t h.1
    form_kind_is (unary op e) t h = sym h.0
    form_kind_is (chain first rest) t h = ap (λ z. links_give z rest) (kind_is first h.0 h.1) ∙ links_end rest h.0 t h.2
