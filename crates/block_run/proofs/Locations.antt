-- Instructions that write a location, and those that neither read nor write one.
use Rattle.std.proofs.Common.{◌≡◌, ℕ, suc, List, ◌∷◌, Option, Some, refl, sym, subst}
use Rattle.rev_num.specs.Words.{int_of}
use Rattle.rev_code.specs.Variables.{Place, cell_at}
use Rattle.block_run.specs.Plain as p
use Rattle.block_run.specs.Plain.{Run}
use Rattle.block_run.specs.Area.{Ran}
use Rattle.block_run.specs.Remembering.{Kept}
use Rattle.block_run.proofs.Stacks.{with_parts}

module _ (q q' : Run) (kept : Type 0) (wrote : ℕ → ℕ → Type 0) where
  pub scalar_written : (o : Option Place) (place : Place) → o ≡ Some place → (w : ℕ) (rest stack : List ℕ)
      → stack ≡ w ∷ rest
      → with_parts (suc q.at) q.fuel q.line q.locals rest ≡ q' → (l : ℕ) → place.first ≡ l → wrote l w
      → Ran (p.into_scalar q o stack) q' kept wrote
  scalar_written o place is w rest stack e f l at h =
      let P : Option Place → Type 0 = λ o. Ran (p.into_scalar q o stack) q' kept wrote in
      let S : List ℕ → Type 0 = λ s. Ran (p.into_scalar q (Some place) s) q' kept wrote in
      subst P (sym is) (subst S (sym e) (f, subst (λ l. wrote l w) (sym at) h))

  pub cell_written : (o : Option Place) (place : Place) → o ≡ Some place → (w n l : ℕ) (rest stack : List ℕ)
      → stack ≡ w ∷ n ∷ rest
      → cell_at place (int_of n) ≡ Some l → with_parts (suc q.at) q.fuel q.line q.locals rest ≡ q' → wrote l w
      → Ran (p.into_cell q o stack) q' kept wrote
  cell_written o place is w n l rest stack e at f h =
      let P : Option Place → Type 0 = λ o. Ran (p.into_cell q o stack) q' kept wrote in
      let S : List ℕ → Type 0 = λ s. Ran (p.into_cell q (Some place) s) q' kept wrote in
      let C : Option ℕ → Type 0 = λ m. Ran (p.write_cell q rest w m) q' kept wrote in
      subst P (sym is) (subst S (sym e) (subst C (sym at) (f, h)))

pub all_kept : (size : ℕ) (seen : ℕ → ℕ) (root : ℕ → Option ℕ) → Kept size seen seen root root
all_kept size seen root = record { words = λ l h. refl; roots = λ l h. refl }
