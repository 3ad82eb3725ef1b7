-- Answers of rev_main: what happened in the call, and what it took of its source, are enough for each clause.
use Rattle.rev_top.proofs.Accepting.{accepted}
use Rattle.rev_top.proofs.PromisesKept.{keeps}
use Rattle.rev_top.proofs.Rans.{ran_of}
use Rattle.rev_top.proofs.rev_main.Goals as goal

pub returns-clause-keeps : goal.returns-clause-keeps
returns-clause-keeps g c = keeps _ c.happen.ensures.happened c.happen.ensures.takes

pub returns-clause-accepted : goal.returns-clause-accepted
returns-clause-accepted g c =
    accepted _ (keeps _ c.happen.ensures.happened c.happen.ensures.takes).headline

pub returns-clause-ran : goal.returns-clause-ran
returns-clause-ran g c = ran_of c.happen.ensures.happened
