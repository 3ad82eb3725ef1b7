-- Answers of Store::pop: a count of 1 is the seat's own, so the segment is taken in and then given up.
use Rattle.std.proofs.Common.{rules, arith, ◌≡◌, sym, ap, ◌∙◌, subst}
use Rattle.segment_store.specs.Places.{view}
use Rattle.segment_store.specs.declared.board.SegmentView.{SegmentView}
use Rattle.segment_store.specs.Store.{pops, sees, Has}
use Rattle.segment_store.specs.Base.{Popped}
use Rattle.segment_store.proofs.ChainWalks.{head_word}
use Rattle.segment_store.proofs.Links.{link_same, top_link, first_link}
use Rattle.segment_store.proofs.Pops.{top, popped}
use Rattle.segment_store.proofs.store.Store.pop.Goals as goal

pub count-count-requires-clause-own : goal.count-count-requires-clause-own
count-count-requires-clause-own c = (
  c.requires.own.0,
  (first_link c.args.self.now c.args.seat.now c.args.first c.args.depth c.requires.rests.0
      c.requires.rests.1).0,
)

pub absorb-requires : goal.absorb-requires
absorb-requires c = let s = c.args.self.now in
    let t = top s.words s.stride s.masks c.args.first c.args.depth (view c.args.seat.now)
    c.requires.rests.0 c.requires.rests.1 in
    let room = t.whole.room in let seg = t.seg in
    let one = c.count-count.ensures.one (search rules) in
    record {
      own = (one.0 ∙ c.requires.own.0, c.requires.own.1, omega arith);
      link = link_same s c.args.seat.now c.count-count.new.seat c.args.first
          (ap (λ (x : SegmentView). x.chain) one.2) (top_link s c.args.seat.now c.args.first t);
    }

pub overflow_add-first : goal.overflow_add-first
overflow_add-first c = let s = c.args.self.now in
    let t = top s.words s.stride s.masks c.args.first c.args.depth (view c.args.seat.now)
    c.requires.rests.0 c.requires.rests.1 in
    let room = t.whole.room in let seg = t.seg in let w = s.wide in let w0 = w.0 in let w3 = w.3 in
    omega arith

pub word-up-requires : goal.word-up-requires
word-up-requires c = let s = c.args.self.now in
    let one = c.count-count.ensures.one (search rules) in let w0 = s.wide.0 in
    let link = link_same s c.args.seat.now c.absorb.new.seat c.args.first
    (ap (λ (x : SegmentView). x.chain) (c.absorb.ensures.same.2 ∙ one.2))
    (first_link s c.args.seat.now c.args.first c.args.depth c.requires.rests.0 c.requires.rests.1) in
    record {
      own = (
        c.absorb.ensures.same.0 ∙ (one.0 ∙ c.requires.own.0),
        (link.0, omega arith, omega arith),
      );
      link = link;
    }

pub release_one-requires-clause-own : goal.release_one-requires-clause-own
release_one-requires-clause-own c = let one = c.count-count.ensures.one (search rules) in (
  c.word-up.ensures.same.0 ∙ (c.absorb.ensures.same.0 ∙ (one.0 ∙ c.requires.own.0)),
  (first_link c.args.self.now c.args.seat.now c.args.first c.args.depth c.requires.rests.0
      c.requires.rests.1).0,
)

pub returns-clause-took : goal.returns-clause-took
returns-clause-took c = let w = c.args.self.now.wide in let w0 = w.0 in
    let one = c.count-count.ensures.one (search rules) in let v = view c.args.seat.now in
    let e1 = one.2 in let m2 = c.absorb.ensures.same.2 in
    let m3 = c.word-up.ensures.same.2 in
    let e2 : view c.absorb.new.seat ≡ sees v = m2 ∙ e1 in
    let e3 : view c.word-up.new.seat ≡ sees v = m3 ∙ e2 in
    let alone : (view c.word-up.new.seat).alone ≡ 1 = ap (λ (x : SegmentView). x.alone) e3 in
    let last = c.release_one.ensures.last (c.release_one.ensures.alone (omega arith)) in
    let e4 = last.2 ∙ ap pops e3 in
    λ root. let done = popped root c.args.self.now.words c.args.self.now.stride
    c.args.self.now.masks c.args.first c.word-up.result c.args.depth c.args.into.now
    c.absorb.new.into v c.requires.rests.0 c.requires.rests.1
    (λ e more is seg whole. head_word e more c.absorb.new.seat c.args.first 1 c.word-up.result
    (ap (λ (x : SegmentView). x.chain) e2 ∙ is) seg c.word-up.ensures.word
    (whole.header 1 (omega arith) (omega arith)))
    (λ l lt e has. c.absorb.ensures.values l (let o = c.requires.own in let o1 = o.1 in
    omega arith) e (subst (λ (x : SegmentView). Has e x.chain) (sym e1) has)) in
    subst (Popped root c.args.self.now.words c.args.self.now.stride c.args.self.now.masks
    c.word-up.result c.args.depth c.args.into.now c.absorb.new.into v) (sym e4) done
