-- Answers of reserved_word: of the words with the text's first byte, the first that is spelled so.
use Rattle.std.proofs.Common.{◌≡◌, ◌≤◌, ℕ, List, [], ◌∷◌, ◌∙◌, length, arith}
use Rattle.std.specs.Prelude.{get_or}
use Rattle.std.specs.List.{find}
use Rattle.rev_syntax.specs.declared.token.Fixed.{Fixed}
use Rattle.rev_syntax.specs.Words.{has_spelling}
use Rattle.rev_syntax.specs.Scan.{reserved_word}
use Rattle.rev_syntax.proofs.scan.reserved_word.Goals as goal

by_first : (s : List ℕ) (words : List Fixed) → 1 ≤ length s
    → ((bs : List ℕ) → find (has_spelling (get_or s 0 0 ∷ bs)) words ≡ reserved_word (get_or s 0 0 ∷ bs))
    → find (has_spelling s) words ≡ reserved_word s
by_first [] words some h = absurd (omega arith)
by_first (b ∷ bs) words some h = h bs

pub returns-in-len1-up : goal.returns-in-len1-up
returns-in-len1-up c =
    c.spelled.ensures
    ∙ by_first c.args.text.now c.words_with.result.now c.in-len1-up.len_at_least c.words_with.ensures
