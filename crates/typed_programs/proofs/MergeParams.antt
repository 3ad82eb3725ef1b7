-- The parameters of a merge are new where no shared variable is seen and their names differ.
use Rattle.std.proofs.Common.{◌≡◌, ◌≢◌, [], ◌∷◌, Some, None, refl, sym}
use Rattle.rev_num.specs.declared.value.ValueKind.TheVariants as k
use Rattle.rev_syntax.specs.Trees.{PlacedName}
use Rattle.name_tables.specs.Names.{Name}
use Rattle.name_tables.specs.Table.{find, added}
use Rattle.typed_programs.specs.Kinds.{Names, Locals}
use Rattle.typed_programs.proofs.Lists.{added_unknown}
use Rattle.typed_programs.specs.Judgement.{ParamsNew}
use Rattle.typed_programs.specs.Scopes.{int_param}

pub merge_new : (c : Names) → ((name : Name) → c.shared name ≡ None) → (m j r : PlacedName)
    → (m.text ≢ j.text) × (m.text ≢ r.text) × (j.text ≢ r.text)
    → ParamsNew c [] (int_param m ∷ int_param j ∷ int_param r ∷ [])
merge_new c closed m j r differ = ((refl, closed m.text), ((j_new, closed j.text), ((r_new, closed r.text), tt)))
  where
    first : Locals
    first = added [] m.text (Some k.Int)

    j_new : find j.text first ≡ None
    j_new = added_unknown j.text m.text (Some k.Int) [] refl (λ e. differ.0 (sym e))

    r_first : find r.text first ≡ None
    r_first = added_unknown r.text m.text (Some k.Int) [] refl (λ e. differ.1 (sym e))

    r_new : find r.text (added first j.text (Some k.Int)) ≡ None
    r_new = added_unknown r.text j.text (Some k.Int) first r_first (λ e. differ.2 (sym e))
