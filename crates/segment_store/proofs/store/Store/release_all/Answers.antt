-- Answers of Store::release_all: a segment that loses its last reference falls, and then its parent is the first.
use Rattle.std.proofs.Common.{arith, sym, ap, ◌∙◌, refl}
use Rattle.segment_store.specs.declared.board.SegmentView.{SegmentView}
use Rattle.segment_store.proofs.ChainWalks.{falls, falls_same, chain_of, head_word, fallen, let_go}
use Rattle.segment_store.specs.Store.{first_of}
use Rattle.segment_store.proofs.store.Store.release_all.Goals as goal

pub loop-below-init : goal.loop-below-init
loop-below-init c = let r = c.requires.rests in
    record {
      head = r.0;
      many = r.1;
      sounds = r.2;
      single = r.3;
      build = refl;
      holds = refl;
      left_same = refl;
      log = refl;
      alone = λ none. none;
      table = refl;
      number = refl;
    }

pub loop-below-preserved : goal.loop-below-preserved
loop-below-preserved c = let f = c.loop-below.invariant in let same = c.word-up.ensures.same in
    let g = falls_same c.args.seat.now c.loop-below.seat c.word-up.new.seat f same in
    let w = c.args.self.now.wide in let w0 = w.0 in
    falls c.word-up.result c.args.seat.now c.word-up.new.seat c.release_one.new.seat g
    c.loop-below-test.true
    (λ e more is whole. let is' = sym (chain_of c.loop-below.seat c.word-up.new.seat same.2) ∙ is in
    head_word e more c.loop-below.seat c.loop-below.at 1 c.word-up.result is'
    (f.head ∙ ap first_of is') c.word-up.ensures.word
    (whole.header 1 (omega arith) (omega arith)))
    (c.release_one.ensures.last c.if-not-release_one.false)

pub returns-then-not-release_one-clause-log : goal.returns-then-not-release_one-clause-log
returns-then-not-release_one-clause-log c = let f = c.loop-below.invariant in
    let e = c.release_one.ensures.more c.if-not-release_one.true in
    ap (λ (m : SegmentView). m.log) e.2
    ∙ (ap (λ (m : SegmentView). m.log) c.word-up.ensures.same.2 ∙ f.log)

pub returns-then-not-release_one-clause-rests : goal.returns-then-not-release_one-clause-rests
returns-then-not-release_one-clause-rests c = let f = c.loop-below.invariant in
    let_go c.args.seat.now c.word-up.new.seat c.release_one.new.seat
    (falls_same c.args.seat.now c.loop-below.seat c.word-up.new.seat f
    c.word-up.ensures.same) (c.release_one.ensures.more c.if-not-release_one.true)

pub returns-clause-log : goal.returns-clause-log
returns-clause-log c = c.loop-below.invariant.log

pub returns-clause-rests : goal.returns-clause-rests
returns-clause-rests c = fallen c.args.seat.now c.loop-below.seat
    c.loop-below.invariant (let h = c.loop-below-test.false in omega arith)
