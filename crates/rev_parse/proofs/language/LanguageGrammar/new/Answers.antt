-- Answers of Language::new: the choices of the grammar are decided over this text as over any text.
use Rattle.rev_parse.proofs.Decides.{choices}
use Rattle.rev_parse.proofs.language.LanguageGrammar.new.Goals as goal

pub invariant_of-result : goal.invariant_of-result
invariant_of-result c = record { choices = choices c.args.text.now }
