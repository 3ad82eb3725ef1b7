-- Answers of Store::collapse: where the first segment is popped the hold rests on its parent, with the same base.
use Rattle.std.proofs.Common.{arith, rules, refl, ◌∙◌, []}
use Rattle.segment_store.specs.Own.{root_in}
use Rattle.segment_store.proofs.Places.{room_in}
use Rattle.segment_store.proofs.Pops.{empty}
use Rattle.segment_store.proofs.ChainWalks.{rests_as}
use Rattle.segment_store.proofs.store.Store.collapse.Goals as goal

pub returns-then-hold-eq0-clause-bottom : goal.returns-then-hold-eq0-clause-bottom
returns-then-hold-eq0-clause-bottom c =
    λ _. (empty c.args.hold.now.rests (search rules), refl, refl)

pub invariant_of-hold : goal.invariant_of-hold
invariant_of-hold c = let o = c.requires.own.0 in record {
  rests = rests_as (c.in-Ok.ensures.took []).rests
      (room_in c.args.self.now c.pop.new.seat (c.in-Ok.ensures.same.0 ∙ o.0)) o.1 o.2;
  own_words = λ ws e. absurd (c.if-hold-eq0.false (c.args.hold.now.own_words ws e).1);
  short = let h = c.args.hold.now.short in omega arith;
}

pub returns-in-Ok-clause-base : goal.returns-in-Ok-clause-base
returns-in-Ok-clause-base c =
    λ l lt. (c.in-Ok.ensures.took (root_in c.args.self.now.initial c.args.hold.now.own)).base l
    (let w = c.args.self.now.wide in let w0 = w.0 in omega arith)

pub returns-in-Ok-clause-took : goal.returns-in-Ok-clause-took
returns-in-Ok-clause-took c = λ _. let p = c.in-Ok.ensures.took [] in let q = p.rests.deep in
    let some = p.some_depth in let d = c.args.hold.now.rests.deep in
    let w = c.args.self.now.wide in let w0 = w.0 in
    (omega arith, (p.view, λ e more is l lt. p.values e more is l (omega arith)))
