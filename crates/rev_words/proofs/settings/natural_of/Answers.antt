-- Answers of natural_of: the number that the parser gives is the one that the text spells by definition.
use Rattle.std.proofs.Common.{◌∙◌}
use Rattle.rev_words.proofs.Naturals.{natural_of-parses}
use Rattle.rev_words.proofs.settings.natural_of.Goals as goal

pub returns : goal.returns
returns c = c.ok.ensures.value ∙ natural_of-parses c.args.text.now c.parse.result c.parse.ensures.value.0
