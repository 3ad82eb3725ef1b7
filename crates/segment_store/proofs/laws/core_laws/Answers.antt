-- Answers of core_laws: two lemmas, that words and views show a reached core, and that bases are the core's.
use Rattle.segment_store.proofs.Tying.{bases_tie}
use Rattle.segment_store.proofs.Traces.{reaches}
use Rattle.segment_store.proofs.laws.core_laws.Goals as goal

pub returns-clause-shown : goal.returns-clause-shown
returns-clause-shown c = reaches

pub returns-clause-bases : goal.returns-clause-bases
returns-clause-bases c = bases_tie
