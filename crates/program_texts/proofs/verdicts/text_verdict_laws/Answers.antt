-- Answers of text_verdict_laws: four lemmas, on traces with one text, on their verdicts, and on one verdict for each.
use Rattle.program_texts.proofs.OneTrace.{same_trace}
use Rattle.program_texts.proofs.OneVerdict.{each_text_has_one, same_verdict, text_has_one}
use Rattle.program_texts.proofs.verdicts.text_verdict_laws.Goals as goal

pub returns-clause-same_trace : goal.returns-clause-same_trace
returns-clause-same_trace c = same_trace

pub returns-clause-same_verdict : goal.returns-clause-same_verdict
returns-clause-same_verdict c = same_verdict

pub returns-clause-one : goal.returns-clause-one
returns-clause-one c = text_has_one

pub returns-clause-has_one : goal.returns-clause-has_one
returns-clause-has_one c = each_text_has_one
