-- Answers of append_procedures: the text that is pushed is that of the lines of procedures, unfolded.
use Rattle.rev_words.specs.Load.{procedures}
use Rattle.rev_words.proofs.load.append_procedures.Goals as goal

pub returns : goal.returns
unfolding procedures
returns c = c.push.ensures
