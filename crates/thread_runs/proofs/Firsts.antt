-- The first of a list of ends, where there is one.
use Rattle.std.proofs.Common.{◌≡◌, ◌∙◌, ◌<◌, List, length, get_or, Option, Some, None, sym, ap}
use Rattle.revision_machine.specs.Numbered.{at_number}
use Rattle.code_world.proofs.Rows.{none_some, some_same}
use Rattle.revision_machine.proofs.Lists.{at_below, at_there}

module _ {E : Type 0} (es : List (Option E)) (e : E) (there : at_number es 0 ≡ Some (Some e)) where
  pub some_first : 0 < length es
  some_first = at_below es 0 (Some e) there

  pub first_is : (x : Option E) → x ≡ get_or es 0 x → at_number es 0 ≡ Some x
  first_is x is = at_there es 0 x some_first ∙ ap (λ z. Some z) (sym is)

  pub no_first : (x : Option E) → x ≡ get_or es 0 x → x ≡ None → ⊥
  no_first x is none = none_some (sym none ∙ some_same (sym (first_is x is) ∙ there))
