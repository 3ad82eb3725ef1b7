-- The tokens of a text have one verdict at most.
use Rattle.std.proofs.Common.{◌≡◌, ℕ, List, drop, sym, ap, ◌∙◌}
use Rattle.rev_syntax.specs.declared.token.Token.{Token}
use Rattle.rev_expressions.proofs.OneVerdict.{one_value, value_not_unexpected, value_not_too_deep, unexpected_not_too_deep, one_unexpected, one_too_deep}
use Rattle.rev_expressions.specs.Grammar.{alphabet}
use Rattle.rev_expressions.specs.Declarations.{inner, program}
use Rattle.rev_parse.specs.Verdicts.{most_levels, At, place_of, tree, unexpected, too_deep, OneVerdict}

-- faults of one token stand at one place
one_place : (IsFault IsOther : ℕ → Type 0) (bytes : List ℕ) (ts : List Token) (a b : ℕ)
    → ((n m : ℕ) → IsFault n → IsOther m → n ≡ m) → At IsFault bytes ts a → At IsOther bytes ts b → a ≡ b
one_place IsFault IsOther bytes ts a b one f g =
    f.2 ∙ ap (λ n. place_of bytes (drop n ts)) (one f.0 g.0 f.1 g.1) ∙ sym g.2

pub one_verdict : OneVerdict
one_verdict bytes ts (tree p) (tree q) f g =
    ap tree (one_value alphabet (inner bytes) (program bytes) most_levels ts p q f g)
one_verdict bytes ts (tree p) (unexpected b) f g =
    absurd (value_not_unexpected alphabet (inner bytes) (program bytes) most_levels ts p g.0 f g.1)
one_verdict bytes ts (tree p) (too_deep b) f g =
    absurd (value_not_too_deep alphabet (inner bytes) (program bytes) most_levels ts p g.0 f g.1)
one_verdict bytes ts (unexpected a) (tree q) f g =
    absurd (value_not_unexpected alphabet (inner bytes) (program bytes) most_levels ts q f.0 g f.1)
one_verdict bytes ts (unexpected a) (unexpected b) f g =
    ap unexpected
    (one_place _ _ bytes ts a b (one_unexpected alphabet (inner bytes) (program bytes) most_levels ts) f g)
one_verdict bytes ts (unexpected a) (too_deep b) f g =
    absurd (unexpected_not_too_deep alphabet (inner bytes) (program bytes) most_levels ts f.0 g.0 f.1 g.1)
one_verdict bytes ts (too_deep a) (tree q) f g =
    absurd (value_not_too_deep alphabet (inner bytes) (program bytes) most_levels ts q f.0 g f.1)
one_verdict bytes ts (too_deep a) (unexpected b) f g =
    absurd (unexpected_not_too_deep alphabet (inner bytes) (program bytes) most_levels ts g.0 f.0 g.1 f.1)
one_verdict bytes ts (too_deep a) (too_deep b) f g =
    ap too_deep (one_place _ _ bytes ts a b (one_too_deep alphabet (inner bytes) (program bytes) most_levels ts) f g)
