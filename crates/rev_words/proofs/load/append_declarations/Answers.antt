-- Answers of append_declarations: the text that is pushed is that of the lines of declarations, unfolded.
use Rattle.rev_words.specs.Load.{declarations}
use Rattle.rev_words.proofs.load.append_declarations.Goals as goal

pub returns : goal.returns
unfolding declarations
returns c = c.push.ensures
