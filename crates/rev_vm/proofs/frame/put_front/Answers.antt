-- Answers of put_front: one argument more at the front leaves the words behind it as they were.
use Rattle.std.proofs.Common.{◌≡◌, ◌∙◌, ◌++◌, length, take, drop, set, get_or, ap, arith}
use Rattle.std.proofs.lemmas.List.{take_all}
use Rattle.rev_vm.proofs.Firsts.{front_more}
use Rattle.rev_vm.proofs.frame.put_front.Goals as goal

pub loop-at-preserved : goal.loop-at-preserved
loop-at-preserved c = record {
  front = ap (λ ws. set ws c.loop-at.at (get_or c.args.args.now c.loop-at.at 0)) c.loop-at.invariant.front
      ∙ front_more c.args.words.now c.args.args.now c.loop-at.at 0 c.loop-at-test.true c.requires;
  within = (let t = c.loop-at-test.true in omega (arith, t));
}

pub returns : goal.returns
returns c =
    let out = c.loop-at-test.false in
    let inside = c.loop-at.invariant.within in
    let e : c.loop-at.at ≡ length c.args.args.now = omega (arith, out, inside) in
    c.loop-at.invariant.front ∙ (λ i. take (e i) c.args.args.now ++ drop (e i) c.args.words.now)
    ∙ ap (λ xs. xs ++ drop (length c.args.args.now) c.args.words.now)
    (take_all (length c.args.args.now) c.args.args.now (omega arith))
