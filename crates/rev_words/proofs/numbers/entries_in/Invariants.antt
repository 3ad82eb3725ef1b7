-- Loops of entries_in: the entries so far, in front of those of the texts left, are those of all texts.
use Rattle.std.proofs.Common.{◌≡◌, map, drop}
use Rattle.rev_words.specs.Schedule.{entry_in}
use Rattle.rev_words.specs.Each.{each_said}
use Rattle.rev_words.proofs.Each.{with_front}
use Rattle.rev_words.proofs.numbers.entries_in.Given as goal

-- the values so far and those of the rest are the whole
abbrev pub invariant-loop-text : goal.invariant-loop-text
invariant-loop-text l =
    each_said entry_in (map (λ s. s.now) l.texts)
    ≡ with_front l.entries.items (each_said entry_in (map (λ s. s.now) (drop l.text-index l.texts)))
