-- In a program within the limits the weights of merges are within theirs.
use Rattle.std.proofs.Common.{ℕ, zero, suc, ◌≤◌, List, [], ◌∷◌, take, Option, Some, None, slice_get, arith}
use Rattle.rev_syntax.specs.Trees.{Declaration, fun, merge, shared, proc, ProgramTree}
use Rattle.typed_programs.specs.FunRules.{merge_decls}
use Rattle.name_tables.specs.Table.{Table}
use Rattle.typed_programs.specs.Weights.{weights_with, weights_after, weights_before, declaration_weight, weight_by, weight_at, weight_of, merge_weight}
use Rattle.rev_report.specs.Limits.{most}
use Rattle.rev_report.specs.declared.limit.Limit.TheVariants as limits
use Rattle.typed_programs.specs.Limits.{DeclarationWithin, DeclarationsWithin, IsWithinLimits}

light_declaration : (ws : Table ℕ) (e : Declaration) → DeclarationWithin ws e
    → declaration_weight ws e ≤ most limits.Weight
light_declaration ws (fun w ps r body) h = h.1
light_declaration ws (merge w m j r body) h = h
light_declaration ws (shared x) h = omega arith
light_declaration ws (proc w ps r body) h = omega arith

light_after : (ws : Table ℕ) (es : List Declaration) (d : ℕ) → DeclarationsWithin ws es
    → weight_by (weights_after ws (take d es)) (slice_get es d) ≤ most limits.Weight
light_after ws [] zero h = omega arith
light_after ws [] (suc d) h = omega arith
light_after ws (e ∷ es) zero h = light_declaration ws e h.0
light_after ws (e ∷ es) (suc d) h = light_after (weights_with ws e) es d h.1

light_of : (es : List Declaration) (o : Option ℕ) → DeclarationsWithin [] es → weight_of es o ≤ most limits.Weight
unfolding weight_at weights_before
light_of es None h = omega arith
light_of es (Some d) h = light_after [] es d h

pub light_merge : (p : ProgramTree) (k : ℕ) → IsWithinLimits p → merge_weight p k ≤ most limits.Weight
unfolding merge_weight
light_merge p k h = light_of p.declarations (slice_get (merge_decls 0 p.declarations) k) h.declarations
