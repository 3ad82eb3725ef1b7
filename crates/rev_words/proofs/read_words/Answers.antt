-- Answers of read_words: what the command found has no reading or one that keeps the ranges.
use Rattle.clap.specs.Words.{found_of, rows_of}
use Rattle.rev_words.proofs.Ranges.{answer_keeps}
use Rattle.rev_words.proofs.read_words.Goals as goal

pub returns-clause-ranges : goal.returns-clause-ranges
returns-clause-ranges c = answer_keeps (rows_of (found_of c.in_ok-matches.matches)) c.words_of.result c.words_of.ensures
