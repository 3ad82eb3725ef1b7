-- Answers of Store::absorb_chain: the first segment left is taken in, and its parent is the first of those then left.
use Rattle.std.proofs.Common.{arith, ◌-◌, sym, refl, ◌∙◌, subst}
use Rattle.segment_store.specs.Store.{Has}
use Rattle.segment_store.proofs.ChainWalks.{sound, chain_of, tail_top, top_part, segment_word}
use Rattle.segment_store.proofs.Links.{link_in}
use Rattle.segment_store.proofs.Taken.{taking_starts, takes, taken_all}
use Rattle.segment_store.proofs.store.Store.absorb_chain.Goals as goal

pub loop-left-init : goal.loop-left-init
loop-left-init c = let r = c.requires.rests in (
  (refl, refl, refl),
  refl,
  taking_starts r.head r.deep (sound _ _ _ _ r.whole),
)

pub absorb-requires : goal.absorb-requires
absorb-requires c = let i = c.loop-left.invariant in
    let p = tail_top i.2.tail c.loop-left-test.true in let room = p.whole.room in
    let at = p.seg in
    record {
      own = (i.0.0 ∙ c.requires.own.0, i.1 ∙ c.requires.own.1, omega arith);
      link = link_in c.args.self.now c.loop-left.seat c.loop-left.at p.e p.seg p.whole
          (subst (Has p.e) (sym (chain_of c.args.seat.now c.loop-left.seat i.0.2))
          (top_part i.2.tail p));
    }

pub overflow_add-at : goal.overflow_add-at
overflow_add-at c = let i = c.loop-left.invariant in
    let p = tail_top i.2.tail c.loop-left-test.true in let room = p.whole.room in
    let at = p.seg in let w = c.args.self.now.wide in let w0 = w.0 in let w3 = w.3 in omega arith

pub word-at-requires : goal.word-at-requires
word-at-requires c = let i = c.loop-left.invariant in
    let p = tail_top i.2.tail c.loop-left-test.true in let room = p.whole.room in
    let at = p.seg in let w = c.args.self.now.wide in let w0 = w.0 in
    let link = link_in c.args.self.now c.absorb.new.seat c.loop-left.at p.e p.seg p.whole
    (subst (Has p.e) (sym (chain_of c.args.seat.now c.absorb.new.seat (c.absorb.ensures.same.2 ∙ i.0.2)))
    (top_part i.2.tail p)) in
    record {
      own = (c.absorb.ensures.same.0 ∙ (i.0.0 ∙ c.requires.own.0), (link.0, omega arith, omega arith));
      link = link;
    }

pub loop-left-preserved : goal.loop-left-preserved
loop-left-preserved c = let i = c.loop-left.invariant in let s = c.absorb.ensures.same in
    let t = c.word-at.ensures.same in let w = c.args.self.now.wide in let w0 = w.0 in
    let o = c.requires.own.1 in let size = i.1 in
    let p = tail_top i.2.tail c.loop-left-test.true in
    let mine = chain_of c.args.seat.now c.loop-left.seat i.0.2 in
    let mine' = chain_of c.args.seat.now c.absorb.new.seat (s.2 ∙ i.0.2) in
    let up = segment_word p.e c.absorb.new.seat c.loop-left.at 1 c.word-at.result
    (subst (Has p.e) (sym mine') (top_part i.2.tail p)) p.seg c.word-at.ensures.word
    (p.whole.header 1 (omega arith) (omega arith)) in (
      (t.0 ∙ (s.0 ∙ i.0.0), t.1 ∙ (s.1 ∙ i.0.1), t.2 ∙ (s.2 ∙ i.0.2)),
      c.absorb.ensures.size ∙ size,
      takes c.word-at.result (c.loop-left.left - 1) c.loop-left.into
          c.absorb.new.into i.2 p (let h = c.loop-left-test.true in omega arith) up
          (λ l lt e has. c.absorb.ensures.values l (omega arith) e
          (subst (Has e) (sym mine) has)),
    )

pub returns-clause-values : goal.returns-clause-values
returns-clause-values c = λ l lt. let w = c.args.self.now.wide in let w0 = w.0 in
    taken_all c.loop-left.invariant.2 (let h = c.loop-left-test.false in
    omega arith) l (omega arith)
