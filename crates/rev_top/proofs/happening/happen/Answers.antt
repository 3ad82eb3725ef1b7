-- Answers of happen: words without a reading are refused, and nothing is taken from the source.
use Rattle.rev_top.proofs.Steps.{takes_nothing}
use Rattle.rev_top.proofs.StreamAnswers.{words_refused}
use Rattle.rev_top.proofs.happening.happen.Goals as goal

pub returns-in-Err-clause-happened : goal.returns-in-Err-clause-happened
returns-in-Err-clause-happened g c =
    words_refused c.in-Err.fault _ c.in-Err.ensures.reading c.from.result c.from.ensures c.refuse.ensures

pub returns-in-Err-clause-takes : goal.returns-in-Err-clause-takes
returns-in-Err-clause-takes g c = takes_nothing _ _
