-- Answers of accounts: one run of each program is computed, and what it tells of a revision every complete run tells.
use Rattle.std.specs.Prelude.{[], ◌∷◌}
use Rattle.std.specs.Fmt.{digits}
use Rattle.std.proofs.Common.{refl}
use Rattle.revision_calculus.specs.Examples as x
use Rattle.revision_calculus.specs.Examples.{sharing, usual}
use Rattle.revision_calculus.proofs.EveryRun.{always_tells, run_latest}
use Rattle.typed_programs.specs.Definitions.{merge_value_of}
use Rattle.revision_calculus.proofs.worked.accounts.Goals as goal

pub returns : goal.returns
unfolding digits merge_value_of
returns c = record {
  child_fuel = always_tells (sharing 10 x.sums) 100 (0 ∷ []) (λ l. l.fuel) (run_latest 100 (sharing 10 x.sums) 100) _
      refl;
  main_fuel = always_tells (sharing 10 x.sums) 100 [] (λ l. l.fuel) (run_latest 100 (sharing 10 x.sums) 100) _ refl;
  main_lists = always_tells (sharing 10 x.sums) 100 [] (λ l. l.noted) (run_latest 100 (sharing 10 x.sums) 100) _ refl;
  half_of_the_fuel = always_tells (usual x.sums) 9 (0 ∷ []) (λ l. l.fuel) (run_latest 100 (usual x.sums) 9) _ refl;
  and_the_rest = always_tells (usual x.sums) 9 [] (λ l. l.fuel) (run_latest 100 (usual x.sums) 9) _ refl;
  child_writes =
      always_tells (sharing 10 x.sums) 100 (0 ∷ []) (λ l. l.locations) (run_latest 100 (sharing 10 x.sums) 100) _ refl;
  main_writes =
      always_tells (sharing 10 x.sums) 100 [] (λ l. l.locations) (run_latest 100 (sharing 10 x.sums) 100) _ refl;
}
