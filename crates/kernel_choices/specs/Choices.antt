-- Kernels that are chosen by the definitions of a program's merges.
--   IsPlaceOf       the least place of a kernel with this definition, among the first 2^32; none where
--                   no kernel there has it, and where there is no definition
--   IsChoice        the choice for a location with this merge, or with none
--   AreChoices      one for each location
--   ChoicesServe    they make a plan for the program's code
--   AppliesFun      the expression of the merge of this number applies a fun
--   NoDefinitionIsAnApplication
--                   in a well-typed program a merge has no definition exactly where it applies a fun
use Rattle.std.specs.Prelude.{◌≡◌, ◌≢◌, ◌<◌, ◌^◌, ℕ, List, [], ◌∷◌, length, Option, Some, None, slice_get}
use Rattle.rev_syntax.specs.Trees.{Expression, ProgramTree}
use Rattle.typed_programs.specs.Definitions.{MergeDef, merges_in}
use Rattle.typed_programs.specs.FunRules.{expression_uses}
use Rattle.typed_programs.specs.Layout.{variables}
use Rattle.revision_calculus.specs.Join.{merges_of}
use Rattle.revision_calculus.specs.Kinded.{IsAccepted}
use Rattle.code_generation.specs.Generated.{code_of}
use Rattle.merge_kernels.specs.Lists.{IsFirst}
use Rattle.merge_kernels.specs.Merges.{term_of}
use Rattle.rev_workers.specs.Plans.{IsPlanFor}

abbrev pub IsPlaceOf : Option Expression → List Expression → Option ℕ → Type 0
IsPlaceOf (Some e) kernels (Some n) = IsFirst kernels e n
IsPlaceOf (Some e) kernels None = (i : ℕ) → i < 2 ^ 32 → slice_get kernels i ≢ Some e
IsPlaceOf None kernels choice = choice ≡ None

abbrev pub IsChoice : ProgramTree → List Expression → Option ℕ → Option ℕ → Type 0
IsChoice p kernels (Some k) choice = IsPlaceOf (term_of p k) kernels choice
IsChoice p kernels None choice = choice ≡ None

-- the choices for locations with these merges, one by one
abbrev pub AreChoices : ProgramTree → List Expression → List (Option ℕ) → List (Option ℕ) → Type 0
AreChoices p kernels [] [] = Unit {0}
AreChoices p kernels (o ∷ os) (c ∷ cs) = IsChoice p kernels o c × AreChoices p kernels os cs
AreChoices p kernels [] (c ∷ cs) = ⊥
AreChoices p kernels (o ∷ os) [] = ⊥

abbrev pub ChoicesServe : Type 0
ChoicesServe =
    (p : ProgramTree) (kernels : List Expression) (choices : List (Option ℕ)) → IsAccepted p
    → AreChoices p kernels (merges_of (variables p)) choices → IsPlanFor (code_of p) choices kernels

abbrev pub AppliesFun : ProgramTree → ℕ → Type 0
AppliesFun p k =
    (d : MergeDef) × (slice_get (merges_in p) k ≡ Some d) × (expression_uses 0 d.body ≢ [])

abbrev pub NoDefinitionIsAnApplication : Type 0
NoDefinitionIsAnApplication =
    (p : ProgramTree) → IsAccepted p → (k : ℕ) → k < length (merges_in p)
    → (term_of p k ≡ None → AppliesFun p k) × (AppliesFun p k → term_of p k ≡ None)
