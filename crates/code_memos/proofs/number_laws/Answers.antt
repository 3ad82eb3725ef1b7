-- Answers of number_laws: a run by number agrees with one by paths, so what it records and reuses is by paths too.
use Rattle.code_memos.proofs.ByNumber.{leaf_has_entry, recorded_by_number, counted_by_number, adopt_by_number}
use Rattle.code_memos.proofs.number_laws.Goals as goal

pub returns : goal.returns
returns c = record {
  leaf = leaf_has_entry;
  recorded = recorded_by_number;
  counted = counted_by_number;
  adopt = adopt_by_number;
}
