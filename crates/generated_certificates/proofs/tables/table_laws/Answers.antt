-- Answers of table_laws: a typed program's names fit its tables, and its small size bounds each table of the code.
use Rattle.generated_certificates.proofs.Small.{names_are_well, code_is_small}
use Rattle.generated_certificates.proofs.tables.table_laws.Goals as goal

pub returns : goal.returns
returns c = record {
  names = λ p small well. names_are_well p small well;
  small = λ p small well. code_is_small p small well;
}
