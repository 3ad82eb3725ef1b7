-- The blocks of merges.
use Rattle.std.proofs.Common.{◌≡◌, ◌∙◌, ℕ, zero, suc, ◌+◌, Option, Some, None, List, [], ◌∷◌, refl, ap, arith}
use Rattle.std.specs.Prelude.{slice_get}
use Rattle.rev_syntax.specs.Trees.{Declaration, fun, merge, shared, proc}
use Rattle.typed_programs.specs.Limits.{funs}
use Rattle.code_generation.specs.Numbers.{merge_number}
use Rattle.code_generation.specs.Generated.{merge_entry}
use Rattle.emit_code.specs.Naming.{or_next}
use Rattle.emit_program.specs.Numbering.{merges_from}
use Rattle.emit_program.specs.Variables.{entry_in}

one_later : (o : Option ℕ) (b f m : ℕ) → or_next (b + 1 + f) o ≡ b + 1 + m → or_next (b + (1 + f)) o ≡ b + suc m
one_later o b f m h =
    let x : b + (1 + f) ≡ b + 1 + f = omega arith in
    let y : b + 1 + m ≡ b + suc m = omega arith in
    ap (λ k. or_next k o) x ∙ h ∙ y

none_more : (k b : ℕ) (es : List Declaration)
    → or_next (b + 0 + funs es) (slice_get (merges_from (b + 0) es) k) ≡ b + 0 + merge_number k es
    → or_next (b + funs es) (slice_get (merges_from (b + 0) es) k) ≡ b + merge_number k es
none_more k b es h =
    let x : b + funs es ≡ b + 0 + funs es = omega arith in
    let y : b + 0 + merge_number k es ≡ b + merge_number k es = omega arith in
    ap (λ z. or_next z (slice_get (merges_from (b + 0) es) k)) x ∙ h ∙ y

merge_is : (es : List Declaration) (k b : ℕ)
    → or_next (b + funs es) (slice_get (merges_from b es) k) ≡ b + merge_number k es
merge_is [] k b = refl
merge_is (fun w ps r body ∷ es) k b =
    one_later (slice_get (merges_from (b + 1) es) k) b (funs es) (merge_number k es) (merge_is es k (b + 1))
merge_is (merge w m j r body ∷ es) zero b = let z : b ≡ b + 0 = omega arith in z
merge_is (merge w m j r body ∷ es) (suc k) b =
    one_later (slice_get (merges_from (b + 1) es) k) b (funs es) (merge_number k es) (merge_is es k (b + 1))
merge_is (shared x ∷ es) k b = none_more k b es (merge_is es k (b + 0))
merge_is (proc w ps r body ∷ es) k b = none_more k b es (merge_is es k (b + 0))

-- the merge entry of a variable
pub entry_is : (es : List Declaration) (m : Option ℕ) → entry_in (merges_from 0 es) (funs es) m ≡ merge_entry es m
entry_is es None = refl
entry_is es (Some k) =
    let x : funs es ≡ 0 + funs es = omega arith in
    let y : 0 + merge_number k es ≡ merge_number k es = omega arith in
    ap (λ z. or_next z (slice_get (merges_from 0 es) k)) x ∙ merge_is es k 0 ∙ y
