-- Answers of size_laws: by recursion on expressions and statements each form's code is as long as its size says.
use Rattle.code_generation.proofs.Lengths.{expression_length, statements_length}
use Rattle.code_generation.proofs.size_laws.Goals as goal

pub returns : goal.returns
returns c = record {
  expressions = λ n scope e at. expression_length n scope e at;
  statements = λ n scope xs s. statements_length n scope xs s;
}
