-- A number beyond the merges of a program has no definition.
use Rattle.std.proofs.Common.{◌≡◌, ◌∙◌, ap, sym, refl, ℕ, zero, suc, ◌+◌, ◌≤◌, List, [], ◌∷◌, length, map, slice_get, None, option_and_then, arith}
use Rattle.std.proofs.lemmas.List.{length-map}
use Rattle.rev_syntax.specs.Trees.{Declaration, fun, merge, shared, proc}
use Rattle.rev_syntax.specs.View.{declaration, program as whole}
use Rattle.typed_programs.specs.FunRules.{merge_decls}
use Rattle.typed_programs.specs.Value.{FunDef}
use Rattle.typed_programs.specs.Definitions.{fun_def, merges_after, merges_in}
use Rattle.typed_programs.specs.declared.expanded.Expanded.{Expanded}
use Rattle.merge_kernels.specs.Merges.{term_by, term_of}

as_many : (fs : List FunDef) (es : List Declaration) (d : ℕ) → length (merges_after fs es) ≡ length (merge_decls d es)
as_many fs [] d = refl
as_many fs (fun w params result body ∷ es) d = as_many (fun_def w params body ∷ fs) es (d + 1)
as_many fs (merge w m j r body ∷ es) d = ap suc (as_many fs es (d + 1))
as_many fs (shared x ∷ es) d = as_many fs es (d + 1)
as_many fs (proc w params result body ∷ es) d = as_many fs es (d + 1)

beyond : {A : Type 0} (xs : List A) (k : ℕ) → length xs ≤ k → slice_get xs k ≡ None
beyond [] k h = refl
beyond (x ∷ xs) zero h = absurd (omega arith)
beyond (x ∷ xs) (suc k) h = beyond xs k (omega arith)

pub no_term : (x : Expanded) (k : ℕ) → length x.merges ≤ k → term_of (whole x.program) k ≡ None
no_term x k h =
    let es = map declaration x.program.decls.items in
    let listed = sym (length-map x.merges (λ m. m.decl)) ∙ ap length x.merges_listed in
    let many = as_many [] es 0 in
    ap (option_and_then term_by) (beyond (merges_in (whole x.program)) k (omega (arith, h, listed, many)))
