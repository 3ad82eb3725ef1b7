-- What the term of a merge is worth.
--   KeepsValue   what an expression over these names means has the same value over m, j and r,
--                whatever funs may be applied
use Rattle.std.specs.Prelude.{◌≡◌, ℤ, [], ◌∷◌, Some}
use Rattle.rev_num.specs.declared.value.Value.TheVariants as v
use Rattle.rev_syntax.specs.Trees.{Expression}
use Rattle.typed_programs.specs.Value.{Funs, inside, value_by}
use Rattle.merge_kernels.specs.Terms.{value_of}
use Rattle.merge_kernels.specs.Closing.{Names, renamed}

abbrev pub KeepsValue : Type 0
KeepsValue =
    (fs : Funs) (n : Names) (e t : Expression) → renamed n e ≡ Some t
    → (main join root : ℤ)
    → value_by fs (inside (n.main ∷ n.join ∷ n.root ∷ []) (v.Int main ∷ v.Int join ∷ v.Int root ∷ [])) e
    ≡ value_of t main join root
