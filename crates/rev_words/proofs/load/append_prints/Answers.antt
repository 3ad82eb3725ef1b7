-- Answers of append_prints: the text that is pushed is that of the lines of prints, unfolded.
use Rattle.rev_words.specs.Load.{prints}
use Rattle.rev_words.proofs.load.append_prints.Goals as goal

pub returns : goal.returns
unfolding prints
returns c = c.push.ensures
