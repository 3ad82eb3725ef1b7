-- The block of a fun or merge gives the value of its body.
use Rattle.std.specs.Prelude.{◌≡◌, ℕ, true, Some, None, List, [], ◌∷◌, map, slice_get}
use Rattle.rev_num.specs.Path.{Path}
use Rattle.rev_num.specs.declared.value.Value.{Value}
use Rattle.rev_num.specs.declared.value.ValueKind.{ValueKind}
use Rattle.rev_num.specs.declared.value.ValueKind.TheVariants as k
use Rattle.rev_syntax.specs.Trees.{PlacedName, Parameter, Expression}
use Rattle.rev_syntax.specs.Small.{expression_formed}
use Rattle.name_tables.specs.Names.{Name}
use Rattle.typed_programs.specs.Definitions.{names_of}
use Rattle.typed_programs.specs.Value.{Funs, inside, value_by}
use Rattle.typed_programs.specs.Kinds.{Names}
use Rattle.typed_programs.specs.Typing.{HasKind}
use Rattle.typed_programs.specs.Judgement.{ParamsNew}
use Rattle.typed_programs.specs.Scopes.{with_params, int_param}
use Rattle.rev_code.specs.declared.code.Code.{Code}
use Rattle.rev_code.specs.declared.code.CodeBlock.{CodeBlock}
use Rattle.rev_code.specs.State.{Fun}
use Rattle.rev_code.specs.Funs.{setting_of_fun, value_of}
use Rattle.code_generation.specs.Numbers.{Numbers}
use Rattle.code_generation.specs.Generated.{fun_block, merge_block}
use Rattle.expression_meaning.specs.Applying.{AllApply}
use Rattle.expression_meaning.specs.Agrees.{word, coded, IsOfKind, ArgsAre, FunReads}

-- a body that keeps the rules, with these parameters, where the funs that it applies have these values
pub record IsBody (code : Code) (before : List (Fun Path)) (n : Numbers) (c : Names) (fs : Funs) (ps : List Parameter)
    (r : ValueKind) (body : Expression) : Type 0 where
  pub closed : (name : Name) → c.shared name ≡ None
  pub inside : c.inside ≡ true
  pub params : ParamsNew c [] ps
  pub kind : HasKind c (with_params [] ps) body r
  pub formed : expression_formed body ≡ true
  pub applies : AllApply c (λ name f. FunReads (setting_of_fun code before) (n.fun name) f (fs name)) body

-- a block gives the value of a body for arguments of these parameters' kinds
abbrev pub BlockGives : Code → List (Fun Path) → ℕ → CodeBlock → Funs → List Parameter → ValueKind → Expression → Type 0
BlockGives code before at b fs ps r body =
    (xs : List Value) → ArgsAre ps xs
    → (value_of code before at b (map word xs) ≡ Some (coded (value_by fs (inside (names_of ps) xs) body)))
    × IsOfKind r (value_by fs (inside (names_of ps) xs) body)

abbrev pub FunBlocksGive : Type 0
FunBlocksGive =
    (code : Code) (before : List (Fun Path)) (at : ℕ) (n : Numbers) (c : Names) (fs : Funs) (ps : List Parameter)
    (r : ValueKind) (body : Expression) → IsBody code before n c fs ps r body
    → slice_get code.blocks at ≡ Some (fun_block n ps r body)
    → BlockGives code before at (fun_block n ps r body) fs ps r body

abbrev pub merge_params : PlacedName → PlacedName → PlacedName → List Parameter
merge_params m j r = int_param m ∷ int_param j ∷ int_param r ∷ []

abbrev pub MergeBlocksGive : Type 0
MergeBlocksGive =
    (code : Code) (before : List (Fun Path)) (at : ℕ) (n : Numbers) (c : Names) (fs : Funs) (m j r : PlacedName)
    (body : Expression) → IsBody code before n c fs (merge_params m j r) k.Int body
    → slice_get code.blocks at ≡ Some (merge_block n m j r body)
    → BlockGives code before at (merge_block n m j r body) fs (merge_params m j r) k.Int body
