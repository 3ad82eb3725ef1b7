-- Answers of language_is_exact: the theorem on grammars that the next token decides, taken at this grammar.
use Rattle.rev_parse.proofs.Decides.{choices}
use Rattle.rev_parse.specs.declared.language.LanguageGrammar.{LanguageGrammar}
use Rattle.rev_parse.proofs.laws.language_is_exact.Goals as goal

pub returns : goal.returns
returns c = λ bytes levels ts.
    let here : LanguageGrammar = record { text = record { ref_ptr = (0, 0); now = bytes }; choices = choices bytes } in
    c.parser_is_exact.ensures here levels ts
