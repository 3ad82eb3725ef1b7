-- Loops of numbers_in: the numbers so far, in front of those of the texts left, are those of all texts.
use Rattle.std.proofs.Common.{◌≡◌, map, drop}
use Rattle.rev_num.specs.Decimal.{decimal_in}
use Rattle.rev_words.specs.Each.{each_said}
use Rattle.rev_words.proofs.Each.{with_front}
use Rattle.rev_words.proofs.numbers.numbers_in.Given as goal

-- the values so far and those of the rest are the whole
abbrev pub invariant-loop-text : goal.invariant-loop-text
invariant-loop-text l =
    each_said decimal_in (map (λ s. s.now) l.texts)
    ≡ with_front l.numbers.items (each_said decimal_in (map (λ s. s.now) (drop l.text-index l.texts)))
