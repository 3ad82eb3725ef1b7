-- Answers of settle_at: the list is split between the two places, so joiner and joinee are in different parts.
use Rattle.std.proofs.Common.{◌<◌, arith}
use Rattle.revision_machine.specs.ListStep.{with_state, with_mark}
use Rattle.revision_machine.proofs.Splits.{both_ok, joined_first, joined_second}
use Rattle.revision_machine.proofs.list.settle_at.Goals as goal

pub returns-then-i-j : goal.returns-then-i-j
returns-then-i-j g c =
    let parts = c.split_at_mut-front in
    both_ok c.settle_pair.result
    (λ a b d.
    joined_first c.args.list.now parts.result.0.now parts.result.1.now c.args.j parts.ensures.value
    parts.ensures.front_len c.requires.target
    (λ x y. with_state x ((g.L.Language.rules c.args.language.now).join x.path x.state y.path y.state)) with_mark d
    c.args.i c.if-i-j.true c.index-front-i.result c.index-back-0.result c.settle_pair.new.joiner
    c.settle_pair.new.joinee a b)
    c.settle_pair.ensures.joiner c.settle_pair.ensures.joinee

pub returns-else-i-j : goal.returns-else-i-j
returns-else-i-j g c =
    let parts = c.split_at_mut-front-else-i-j in
    let pair = c.settle_pair-else-i-j in
    let lt : c.args.j < c.args.i = (let h = c.if-i-j.false in let k = c.requires.apart in omega arith) in
    both_ok pair.result
    (λ a b d.
    joined_second c.args.list.now parts.result.0.now parts.result.1.now c.args.i parts.ensures.value
    parts.ensures.front_len c.requires.within
    (λ x y. with_state x ((g.L.Language.rules c.args.language.now).join x.path x.state y.path y.state)) with_mark d
    c.args.j lt c.index-back-0-else-i-j.result c.index-front-j.result pair.new.joiner pair.new.joinee a b)
    pair.ensures.joiner pair.ensures.joinee
