-- Answers of parser_is_exact: one lemma gives the verdict on all tokens for each grammar that the next token decides.
use Rattle.rev_expressions.proofs.Whole.{verdict}
use Rattle.rev_expressions.proofs.laws.parser_is_exact.Goals as goal

pub returns : goal.returns
returns g c = λ s n ts.
    verdict g.G.Grammar.alphabet (g.G.Grammar.rules s) g.G.Grammar.goes_on g.G.Grammar.kinds
    (g.G.Grammar.decided s) (g.G.Grammar.whole s) (g.G.Grammar.whole_decided s) n ts
