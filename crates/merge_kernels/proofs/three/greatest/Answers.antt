-- Answers of greatest: the code compares as the definition does, and the number that it picks is one of 64 bits.
use Rattle.std.proofs.Common.{rules, ◌≡◌, ◌∙◌, ap, sym, true, false, Ok, int_lt, w64}
use Rattle.std.proofs.lemmas.Int.{to_z-of_z}
use Rattle.merge_kernels.proofs.ThreeValues.{greatest_is}
use Rattle.merge_kernels.proofs.three.greatest.Goals as goal

pub returns-then-join-main : goal.returns-then-join-main
returns-then-join-main c =
    let t : int_lt c.args.main c.args.join ≡ true = search rules in
    ap Ok (to_z-of_z w64 c.args.join c.ranges.join) ∙ sym (greatest_is c.args.main c.args.join c.args._root true t)

pub returns-else-join-main : goal.returns-else-join-main
returns-else-join-main c =
    let t : int_lt c.args.main c.args.join ≡ false = search rules in
    ap Ok (to_z-of_z w64 c.args.main c.ranges.main) ∙ sym (greatest_is c.args.main c.args.join c.args._root false t)
