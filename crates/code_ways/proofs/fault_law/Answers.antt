-- Answers of fault_law: the search goes tables first and then block by block, so what it finds is the first fault.
use Rattle.code_ways.proofs.OfCode.{first_is, none_is}
use Rattle.code_ways.proofs.fault_law.Goals as goal

pub returns-clause-first : goal.returns-clause-first
returns-clause-first c = first_is

pub returns-clause-none : goal.returns-clause-none
returns-clause-none c = none_is
