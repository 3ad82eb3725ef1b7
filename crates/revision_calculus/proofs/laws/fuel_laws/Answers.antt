-- Answers of fuel_laws: each step spends of the fuel, the forks and a weight, so lemmas on machines give bounds.
use Rattle.std.specs.Prelude.{◌+◌, ◌≤◌, length}
use Rattle.std.proofs.Common.{arith}
use Rattle.revision_machine.proofs.Census.{spending_law, bound_law, count_law, count_up}
use Rattle.revision_machine.proofs.Completion.{completion_law}
use Rattle.revision_calculus.specs.Calculus.{calculus, main}
use Rattle.revision_calculus.specs.HandlesHeld.{weight}
use Rattle.revision_calculus.proofs.Meets.{counts, spends_fuel, spends_forks, pays_forks, spends_weight, main_weight}
use Rattle.revision_calculus.proofs.Tight.{takes}
use Rattle.revision_calculus.proofs.laws.fuel_laws.Goals as goal

pub returns : goal.returns
returns c = record {
  fuel = λ s fuel. spending_law (calculus s) (main s fuel) 0 (λ l. l.fuel) (counts s) (spends_fuel s);
  forks = λ s fuel. spending_law (calculus s) (main s fuel) 0 (λ l. l.fuel + l.forks) (counts s) (spends_forks s);
  bound = λ s fuel g rs runs.
      let at_most : length rs ≤ weight (main s fuel) =
      bound_law (calculus s) (main s fuel) weight (counts s) (spends_weight s) g rs runs in
      let w = main_weight s fuel in
      omega arith;
  least_bound = λ s fuel g rs runs.
      let at_most : length rs ≤ weight (main s fuel) =
      bound_law (calculus s) (main s fuel) weight (counts s) (spends_weight s) g rs runs in
      let w = main_weight s fuel in
      omega arith;
  count = λ s fuel. count_law (calculus s) (main s fuel) (λ l. l.fuel) (counts s) (pays_forks s);
  tight = takes;
  few = λ s fuel most.
      count_up (calculus s) (main s fuel) (1 + fuel) 4294967295 (omega arith)
      (count_law (calculus s) (main s fuel) (λ l. l.fuel) (counts s) (pays_forks s));
  completion = λ s fuel. completion_law (calculus s) (main s fuel) weight (counts s) (spends_weight s);
}
