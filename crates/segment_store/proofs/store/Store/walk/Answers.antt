-- Answers of Store::walk: a set bit means that the segment has the value, and else what is below has it.
use Rattle.std.proofs.Common.{arith, rules, ◌+◌, ◌-◌, ◌%◌, sym, refl, ◌∙◌, subst}
use Rattle.std.proofs.lemmas.Nat.Bits.{shr_and_one}
use Rattle.std.proofs.lemmas.List.{get_or_read_under}
use Rattle.segment_store.proofs.ChainWalks.{start, visit, loaded, chain_of, row_of, bit_loaded, ended}
use Rattle.segment_store.specs.Store.{Has}
use Rattle.segment_store.proofs.Links.{link_in}
use Rattle.segment_store.proofs.store.Store.walk.Goals as goal

pub loop-left-init : goal.loop-left-init
loop-left-init c = (
  (refl, refl, refl),
  start c.requires.chain.0 c.requires.chain.1 c.requires.chain.2,
)

pub overflow_add-at : goal.overflow_add-at
overflow_add-at c = let a = visit c.loop-left.invariant.1 c.loop-left-test.true in
    let w = c.args.self.now.wide in let w0 = w.0 in let w3 = w.3 in let room = a.whole.room in
    let at = a.seg in let l = c.requires.inside in
    let low = row_of c.args.self.now.masks _ c.args.location c.args.self.now.rowed.0
    c.requires.inside in omega arith

pub word-mask-requires : goal.word-mask-requires
word-mask-requires c = let a = visit c.loop-left.invariant.1
    c.loop-left-test.true in let w = c.args.self.now.wide in let w0 = w.0 in let w3 = w.3 in
    let room = a.whole.room in let at = a.seg in let l = c.requires.inside in
    let low = row_of c.args.self.now.masks _ c.args.location c.args.self.now.rowed.0
    c.requires.inside in
    let link = link_in c.args.self.now c.loop-left.seat c.loop-left.at a.e a.seg a.whole
    (subst (Has a.e) (sym (chain_of c.args.seat.now c.loop-left.seat c.loop-left.invariant.0.2)) a.has) in
    record {
      own = (c.loop-left.invariant.0.0 ∙ c.requires.own, (link.0, omega arith, omega arith));
      link = link;
    }

pub overflow_add-at-then-mask-location-eq1 : goal.overflow_add-at-then-mask-location-eq1
overflow_add-at-then-mask-location-eq1 c = let a =
    visit c.loop-left.invariant.1 c.loop-left-test.true in
    let w = c.args.self.now.wide in let w0 = w.0 in let w3 = w.3 in let room = a.whole.room in
    let at = a.seg in let l = c.requires.inside in
    let low = row_of c.args.self.now.masks _ c.args.location c.args.self.now.rowed.0
    c.requires.inside in omega arith

pub word-requires : goal.word-requires
word-requires c = let a = visit c.loop-left.invariant.1 c.loop-left-test.true in
    let w = c.args.self.now.wide in let w0 = w.0 in let w3 = w.3 in let room = a.whole.room in
    let at = a.seg in let l = c.requires.inside in
    let low = row_of c.args.self.now.masks _ c.args.location c.args.self.now.rowed.0
    c.requires.inside in
    let link = link_in c.args.self.now c.word-mask.new.seat c.loop-left.at a.e a.seg a.whole
    (subst (Has a.e) (sym (chain_of c.args.seat.now c.word-mask.new.seat (c.word-mask.ensures.same.2
    ∙ c.loop-left.invariant.0.2))) a.has) in
    record {
      own = (
        c.word-mask.ensures.same.0 ∙ (c.loop-left.invariant.0.0 ∙ c.requires.own),
        (link.0, omega arith, omega arith),
      );
      link = link;
    }

pub returns-then-mask-location-eq1-clause-value : goal.returns-then-mask-location-eq1-clause-value
returns-then-mask-location-eq1-clause-value c = let a =
    visit c.loop-left.invariant.1 c.loop-left-test.true in
    let w = c.args.self.now.wide in let w0 = w.0 in let w3 = w.3 in let room = a.whole.room in
    let at = a.seg in let l = c.requires.inside in
    let low = row_of c.args.self.now.masks _ c.args.location c.args.self.now.rowed.0
    c.requires.inside in
    let mine = chain_of c.args.seat.now c.loop-left.seat c.loop-left.invariant.0.2 in
    let mine' = chain_of c.args.seat.now c.word-mask.new.seat (c.word-mask.ensures.same.2
    ∙ c.loop-left.invariant.0.2) in
    let bit = bit_loaded _ _ _ _ c.args.location _ _ c.word-mask.result _ a c.loop-left.seat mine
    c.word-mask.ensures.word low in
    let set = sym bit ∙ (sym (shr_and_one c.word-mask.result (c.args.location % 64))
    ∙ c.if-mask-location-eq1.true) in
    let found = loaded (2 + c.args.self.now.masks + c.args.location) c.word.result a
    c.word-mask.new.seat mine' c.word.ensures.word
    (a.whole.values c.args.location (omega arith) set) in
    found ∙ sym (a.found set)

pub returns-then-mask-location-eq1-clause-same : goal.returns-then-mask-location-eq1-clause-same
returns-then-mask-location-eq1-clause-same c = let i = c.loop-left.invariant.0 in
    let s = c.word-mask.ensures.same in let t = c.word.ensures.same in
    (t.0 ∙ (s.0 ∙ i.0), t.1 ∙ (s.1 ∙ i.1), t.2 ∙ (s.2 ∙ i.2))

pub overflow_add-at-in-loop-left : goal.overflow_add-at-in-loop-left
overflow_add-at-in-loop-left c = let a = visit c.loop-left.invariant.1
    c.loop-left-test.true in let w = c.args.self.now.wide in let w0 = w.0 in let w3 = w.3 in
    let room = a.whole.room in let at = a.seg in let l = c.requires.inside in
    let low = row_of c.args.self.now.masks _ c.args.location c.args.self.now.rowed.0
    c.requires.inside in omega arith

pub word-at-requires : goal.word-at-requires
word-at-requires c = let a = visit c.loop-left.invariant.1 c.loop-left-test.true in
    let w = c.args.self.now.wide in let w0 = w.0 in let w3 = w.3 in let room = a.whole.room in
    let at = a.seg in let l = c.requires.inside in
    let low = row_of c.args.self.now.masks _ c.args.location c.args.self.now.rowed.0
    c.requires.inside in
    let link = link_in c.args.self.now c.word-mask.new.seat c.loop-left.at a.e a.seg a.whole
    (subst (Has a.e) (sym (chain_of c.args.seat.now c.word-mask.new.seat (c.word-mask.ensures.same.2
    ∙ c.loop-left.invariant.0.2))) a.has) in
    record {
      own = (
        c.word-mask.ensures.same.0 ∙ (c.loop-left.invariant.0.0 ∙ c.requires.own),
        (link.0, omega arith, omega arith),
      );
      link = link;
    }

pub loop-left-preserved : goal.loop-left-preserved
loop-left-preserved c = let a = visit c.loop-left.invariant.1
    c.loop-left-test.true in let w = c.args.self.now.wide in let w0 = w.0 in let w3 = w.3 in
    let room = a.whole.room in let at = a.seg in let l = c.requires.inside in
    let low = row_of c.args.self.now.masks _ c.args.location c.args.self.now.rowed.0
    c.requires.inside in
    let i = c.loop-left.invariant.0 in let s = c.word-mask.ensures.same in
    let t = c.word-at.ensures.same in
    let mine = chain_of c.args.seat.now c.loop-left.seat i.2 in
    let mine' = chain_of c.args.seat.now c.word-mask.new.seat (s.2 ∙ i.2) in
    let bit = bit_loaded _ _ _ _ c.args.location _ _ c.word-mask.result _ a c.loop-left.seat mine
    c.word-mask.ensures.word low in
    let up = loaded 1 c.word-at.result a c.word-mask.new.seat mine'
    c.word-at.ensures.word (a.whole.header 1 (omega arith) (omega arith)) in (
      (t.0 ∙ (s.0 ∙ i.0), t.1 ∙ (s.1 ∙ i.1), t.2 ∙ (s.2 ∙ i.2)),
      a.go (c.loop-left.left - 1) c.word-at.result (let h = c.loop-left-test.true in
          omega arith) (up ∙ a.up)
          (λ e. c.if-mask-location-eq1.false (shr_and_one c.word-mask.result (c.args.location % 64)
          ∙ (bit ∙ e))),
    )

pub returns-clause-value : goal.returns-clause-value
returns-clause-value c = let read = get_or_read_under c.args.self.now.initial.items c.args.location
    c.args.self.now.initial.len c.index.result.now 0 c.index.ensures c.requires.inside
    (search rules) in
    ended c.loop-left.invariant.1 (let h = c.loop-left-test.false in
    omega arith) _ read

pub returns-clause-same : goal.returns-clause-same
returns-clause-same c = c.loop-left.invariant.0
