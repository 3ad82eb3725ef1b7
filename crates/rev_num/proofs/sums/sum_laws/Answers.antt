-- Answers of sum_laws: four lemmas, on lists put together, on one part set, on two, and on one that alone is not 0.
use Rattle.rev_num.proofs.Totals.{total_append, total_set, total_two, total_only}
use Rattle.rev_num.proofs.sums.sum_laws.Goals as goal

pub returns : goal.returns
returns g c = record {
  append = λ f xs ys. total_append f xs ys;
  put = λ f xs i v w e. total_set f xs i v w e;
  two = λ f xs i j v w n e d. total_two f xs i j v w n e d;
  only = λ f xs i v e h. total_only f xs i v e h;
}
