-- Answers of Store::fork_push: both holds rest on the pushed segment, which shows the delta over the base before.
use Rattle.std.proofs.Common.{arith, [], None, refl, sym, ap, ◌∙◌, List, ℕ, subst}
use Rattle.segment_store.specs.Places.{view}
use Rattle.segment_store.specs.Entry.{Entry}
use Rattle.segment_store.specs.Base.{value}
use Rattle.segment_store.specs.Own.{IsOwn}
use Rattle.segment_store.proofs.ChainWalks.{rests_as}
use Rattle.segment_store.proofs.Fills.{none_some}
use Rattle.segment_store.proofs.Forks.{completes}
use Rattle.segment_store.proofs.Places.{room_in}
use Rattle.segment_store.proofs.store.Store.fork_push.Goals as goal

pub invariant_of-hold-2 : goal.invariant_of-hold-2
invariant_of-hold-2 c = let o = c.requires.own.0 in let e = c.in_ok-segment.ensures in record {
  rests = rests_as (e.some.2 []).parent_rests
      (room_in c.args.self.now c.push.new.seat (e.same.0 ∙ o.0)) o.1 o.2;
  own_words = λ ws q. absurd (none_some ws None refl q);
  short = let h = c.requires.short in omega arith;
}

pub invariant_of-result : goal.invariant_of-result
invariant_of-result c = let o = c.requires.own.0 in let e = c.in_ok-segment.ensures in record {
  rests = rests_as (e.some.2 []).child_rests
      (room_in c.args.self.now c.in_ok-segment.seat (e.some.1 ∙ o.0)) refl refl;
  own_words = λ ws q. absurd (none_some ws None refl q);
  short = let h = c.requires.short in omega arith;
}

pub returns-clause-child : goal.returns-clause-child
returns-clause-child c = let o = c.requires.own.0 in let e = c.in_ok-segment.ensures in
    ((e.some.1 ∙ o.0, refl, refl), (e.some.2 []).one_chain, refl, refl, refl, e.some.0)

pub returns-clause-base : goal.returns-clause-base
returns-clause-base c = λ l lt. let o = c.requires.own.0 in let e = c.in_ok-segment.ensures in
    let h = c.args.hold.now in let s = c.args.self.now in let w = s.wide in let w0 = w.0 in
    let rest = rests_as {words' = s.words} {stride' = s.stride} {masks' = s.masks} h.rests
    (sym (room_in s h.seat o.0)) (sym o.1) (sym o.2) in
    let own = subst (λ (z : ℕ × ℕ). IsOwn z.0 z.1 h.first h.own) (λ i. (o.1 i, o.2 i))
    h.own_words in
    let f = e.some.2 s.initial.items in
    ap (λ (es : List Entry). value s.masks s.initial.items es l) f.one_chain
    ∙ (f.base l (omega arith) ∙ completes (view h.seat) s.initial h.own c.args.delta.now
    _ l rest own e.complete (omega arith))
