-- Answers of ints_of: two numbers more are put.
use Rattle.std.proofs.Common.{rules, ◌≡◌, ◌+◌, ◌-◌, ◌*◌, SFits, w64, length, arith}
use Rattle.std.proofs.lemmas.Int.{to_z-of_z}
use Rattle.merge_kernels.proofs.WordPairs.{pair_put}
use Rattle.merge_kernels.proofs.words.ints_of.Goals as goal

pub loop-pair-preserved : goal.loop-pair-preserved
loop-pair-preserved c =
    let k = 2 * c.loop-pair.pair in
    let words : length c.args.words ≡ 8 = search rules in
    let one : SFits w64 c.int_of_word.result = search rules in
    let two : SFits w64 c.int_of_word-in-loop-pair.result = search rules in
    let next : k + 2 ≡ 2 * (c.loop-pair.pair + 1) = omega arith in
    pair_put c.loop-pair.ints c.args.words k (k + 2 - k) _ _ _ c.int_of_word.result c.int_of_word-in-loop-pair.result
    (omega arith) next c.loop-pair.invariant.0 words (omega arith) (to_z-of_z w64 _ one) (to_z-of_z w64 _ two)
    c.int_of_word.ensures.value c.int_of_word-in-loop-pair.ensures.value c.loop-pair.invariant.1
