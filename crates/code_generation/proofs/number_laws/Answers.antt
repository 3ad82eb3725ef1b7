-- Answers of number_laws: the number of a name is its own place in the list of blocks or of variables.
use Rattle.code_generation.proofs.Naming.{fun_stands, proc_stands, merge_stands, variable_lies}
use Rattle.code_generation.proofs.number_laws.Goals as goal

pub returns : goal.returns
returns c = record {
  funs = λ p name f h. fun_stands p name f h;
  procs = λ p name f h. proc_stands p name f h;
  merges = λ p k d h. merge_stands p k d h;
  variables = λ p name x h. variable_lies p name x h;
}
