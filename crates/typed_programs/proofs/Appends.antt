-- Lists that grow at their ends.
use Rattle.std.proofs.Common.{◌≡◌, List, [], ◌∷◌, ◌++◌, length, refl, arith}
use Rattle.rev_syntax.specs.declared.tree.Expr.{Expr}
use Rattle.rev_syntax.specs.View.{expressions}
use Rattle.typed_programs.specs.FunRules.{count}
use Rattle.std.proofs.lemmas.List.{append_assoc}

-- one list behind another; the code names this lemma
pub appends : {A : Type 0} (a b c : List A) → (a ++ b) ++ c ≡ a ++ (b ++ c)
appends a b c = append_assoc a b c

-- the number of arguments
pub count_expressions : (es : List Expr) → count (expressions es) ≡ length es
count_expressions [] = refl
count_expressions (e ∷ es) = let rest = count_expressions es in omega arith
