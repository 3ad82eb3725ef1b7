-- Answers of text_of: the first value that the parser has for the name is the first of the rows of that name.
use Rattle.std.proofs.Common.{◌∙◌}
use Rattle.clap.specs.Words.{found_of}
use Rattle.clap.proofs.WalkLemmas.{first_value-rows}
use Rattle.rev_words.proofs.command.text_of.Goals as goal

pub returns : goal.returns
returns c = c.get_str.ensures ∙ first_value-rows (found_of c.args.matches.now) c.args.name.now
