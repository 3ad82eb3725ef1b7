-- Answers of next_bit: the shifted word is 0 where there is none, and else its zeros at the end lead to the bit.
use Rattle.std.proofs.Common.{arith}
use Rattle.std.proofs.lemmas.Nat.Bits.{bit_at_above}
use Rattle.version_map.proofs.NextBits.{no_rest, least_bit}
use Rattle.version_map.proofs.one_word.next_bit.Goals as goal

pub returns-then-from-ge64-clause-none : goal.returns-then-from-ge64-clause-none
returns-then-from-ge64-clause-none c = λ i le.
    let high = c.if-from-ge64.true in bit_at_above c.args.bits 64 i c.ranges.bits.fits (omega (arith, le, high))

pub returns-then-rest-eq0-clause-none : goal.returns-then-rest-eq0-clause-none
returns-then-rest-eq0-clause-none c = λ i le. no_rest c.args.bits c.args.from c.if-rest-eq0.true i le

pub overflow_add-result : goal.overflow_add-result
overflow_add-result c =
    let h = least_bit c.args.bits c.args.from c.ranges.bits.fits c.if-rest-eq0.false in
    let within = h.0 in omega (arith, within)

pub returns-clause-found : goal.returns-clause-found
returns-clause-found c =
    let h = least_bit c.args.bits c.args.from c.ranges.bits.fits c.if-rest-eq0.false in (omega arith, h.0, h.1)

pub returns-clause-between : goal.returns-clause-between
returns-clause-between c = (least_bit c.args.bits c.args.from c.ranges.bits.fits c.if-rest-eq0.false).2
