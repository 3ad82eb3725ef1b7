-- Worked values of merges.
use Rattle.std.proofs.Common.{◌≡◌, refl, ℕ, pos, List, [], ◌∷◌, Ok, Err}
use Rattle.rev_num.specs.declared.value.Value.TheVariants as v
use Rattle.rev_num.specs.declared.outcome.Cause.TheVariants as cause
use Rattle.rev_num.specs.declared.value.ValueKind.TheVariants as kind
use Rattle.rev_syntax.specs.Trees as t
use Rattle.rev_syntax.specs.Trees.{PlacedName, Expression, Parameter, Declaration, ProgramTree}
use Rattle.rev_syntax.specs.declared.tree.BinaryOp.TheVariants as b
use Rattle.typed_programs.specs.Definitions.{merge_value_of}

abbrev name : ℕ → PlacedName
name c = record { at = 0; text = c ∷ [] }

abbrev var : ℕ → Expression
var c = t.placed 0 (t.var (name c))

abbrev int_parameter : ℕ → Parameter
int_parameter c = record { name = name c; kind_at = 0; kind = kind.Int }

-- m + j - r, for the names 1, 2 and 3
abbrev sum : Declaration
sum = t.merge (name 9) (name 1) (name 2) (name 3)
    (t.placed 0 (t.chain (var 1) (t.link b.Add (var 2) (t.link b.Sub (var 3) t.no_links))))

-- a fun f of x that is x + 1, a later f that is 0, and a merge f(j)
abbrev twice_named : List Declaration
twice_named =
    t.fun (name 7) (int_parameter 1 ∷ []) kind.Int
    (t.placed 0 (t.chain (var 1) (t.link b.Add (t.placed 0 (t.int (pos 1))) t.no_links)))
    ∷ t.fun (name 7) (int_parameter 1 ∷ []) kind.Int (t.placed 0 (t.int (pos 0)))
    ∷ t.merge (name 9) (name 1) (name 2) (name 3)
    (t.placed 0 (t.apply (name 7) (t.expression (var 2) t.no_expressions)))
    ∷ []

abbrev text_of : List Declaration → ProgramTree
text_of es = record { declarations = es; main_at = 0; main = t.no_statements }

change_of_the_joinee_is_added :
    merge_value_of (text_of (sum ∷ [])) 0 (v.Int (pos 15)) (v.Int (pos 6)) (v.Int (pos 5)) ≡ Ok (v.Int (pos 16))
unfolding merge_value_of
change_of_the_joinee_is_added = refl

sum_overflows : merge_value_of (text_of (sum ∷ [])) 0 (v.Int (pos 9223372036854775807)) (v.Int (pos 1)) (v.Int (pos 1))
    ≡ Err cause.Overflow
unfolding merge_value_of
sum_overflows = refl

first_fun_of_a_name_counts :
    merge_value_of (text_of twice_named) 0 (v.Int (pos 1)) (v.Int (pos 6)) (v.Int (pos 5)) ≡ Ok (v.Int (pos 7))
unfolding merge_value_of
first_fun_of_a_name_counts = refl
