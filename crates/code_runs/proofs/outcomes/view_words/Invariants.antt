-- Loops of view_words: the words so far with the writes left over them are those with all writes, and as many.
use Rattle.std.proofs.Common.{◌≡◌, length, drop}
use Rattle.code_runs.specs.Words.{written_over}
use Rattle.code_runs.proofs.outcomes.view_words.Given as goal

-- the later writes are still to come
abbrev pub invariant-loop-one : goal.invariant-loop-one
invariant-loop-one l =
    (written_over l.words.items (drop l.one-index l.written) ≡ written_over l.initial.words.items l.written)
    × (length l.words.items ≡ length l.initial.words.items)
