-- Answers of word: the length is the count of name bytes in front, and the kind that of the word they spell.
use Rattle.std.proofs.Common.{refl}
use Rattle.rev_syntax.proofs.scan.word.Goals as goal

pub returns : goal.returns
returns c = rw (c.word_kind-kind.ensures, c.name_bytes-length.ensures.count) refl
