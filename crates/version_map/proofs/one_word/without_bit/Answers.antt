-- Answers of without_bit: the bit is cleared and the others stay.
use Rattle.std.specs.Int.{w64}
use Rattle.std.proofs.lemmas.Nat.Bits.{bit_at_clear_same, bit_at_clear_other}
use Rattle.version_map.proofs.one_word.without_bit.Goals as goal

pub returns-then-k-lt64-clause-here : goal.returns-then-k-lt64-clause-here
returns-then-k-lt64-clause-here c = λ lt. bit_at_clear_same w64 c.args.bits c.args.k lt

pub returns-then-k-lt64-clause-others : goal.returns-then-k-lt64-clause-others
returns-then-k-lt64-clause-others c = λ i inside ne.
    bit_at_clear_other w64 c.args.bits c.args.k c.if-k-lt64.true i inside ne
