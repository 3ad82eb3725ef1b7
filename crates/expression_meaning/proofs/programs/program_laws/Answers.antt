-- Answers of program_laws: funs apply earlier ones alone, so each block's value is found from those before it.
use Rattle.expression_meaning.proofs.Funs.{program_funs, program_merges}
use Rattle.expression_meaning.proofs.programs.program_laws.Goals as goal

pub returns : goal.returns
returns c = record {
  funs = λ p well inputs share name f h. program_funs p well inputs share name f h;
  merges = λ p well k d h x y z. program_merges p well k d h x y z;
}
