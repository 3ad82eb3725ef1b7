-- Answers of table_laws: by recursion on statements each let gives one local, and each print one layout.
use Rattle.code_generation.proofs.Lengths.{statements_locals, statements_prints_length}
use Rattle.code_generation.proofs.table_laws.Goals as goal

pub returns : goal.returns
returns c = record {
  locals = λ c l xs. statements_locals c l xs;
  layouts = λ c l texts xs. statements_prints_length c l texts xs;
}
