-- The start values of locations, row by row.
use Rattle.std.proofs.Common.{◌≡◌, List, [], ◌∷◌, ◌++◌, length, map, replicate, slice_get, refl, sym, ap, ◌∙◌, append_assoc}
use Rattle.rev_syntax.specs.Trees.{Declaration, fun, merge, shared, proc, ProgramTree}
use Rattle.typed_programs.specs.Scopes.{cells_of}
use Rattle.typed_programs.specs.Layout.{variables_behind, variables}
use Rattle.revision_calculus.specs.Program.{first_value}
use Rattle.revision_calculus.specs.Calculus.{start_values}
use Rattle.revision_state.proofs.Callees.{at_end}
use Rattle.revision_state.specs.Tables.{start_of, starts_in}

starts : (ds before es : List Declaration) → ds ≡ before ++ es
    → starts_in ds (map (λ x. x.info) (variables_behind before es)) ≡ start_values (variables_behind before es)
starts ds before [] h = refl
starts ds before (shared x ∷ es) h =
    ap (λ (t : List Declaration).
    replicate (cells_of x.size) (start_of (slice_get t (length before)))
    ++ starts_in ds (map (λ x. x.info) (variables_behind (before ++ shared x ∷ []) es)))
    h
    ∙ ap (λ o.
    replicate (cells_of x.size) (start_of o)
    ++ starts_in ds (map (λ x. x.info) (variables_behind (before ++ shared x ∷ []) es)))
    (at_end before (shared x) es)
    ∙ ap (λ t. replicate (cells_of x.size) (first_value x.holds x.first) ++ t)
    (starts ds (before ++ shared x ∷ []) es (h ∙ sym (append_assoc before (shared x ∷ []) es)))
starts ds before (fun w ps r body ∷ es) h =
    starts ds (before ++ fun w ps r body ∷ []) es (h ∙ sym (append_assoc before (fun w ps r body ∷ []) es))
starts ds before (merge w m j r body ∷ es) h =
    starts ds (before ++ merge w m j r body ∷ []) es (h ∙ sym (append_assoc before (merge w m j r body ∷ []) es))
starts ds before (proc w ps r body ∷ es) h =
    starts ds (before ++ proc w ps r body ∷ []) es (h ∙ sym (append_assoc before (proc w ps r body ∷ []) es))

pub starts_by_row : (p : ProgramTree)
    → starts_in p.declarations (map (λ x. x.info) (variables p)) ≡ start_values (variables p)
starts_by_row p = starts p.declarations [] p.declarations refl
