-- Answers of Store::copy: the chain's base is copied, and the words under the delta are those that are seen.
use Rattle.segment_store.specs.Places.{view}
use Rattle.segment_store.specs.declared.board.SegmentView.{SegmentView}
use Rattle.std.proofs.Common.{◌<◌, ℕ, List, slice_index, sym, ap, ◌∙◌, subst}
use Rattle.version_map.specs.Deltas.{at}
use Rattle.version_map.specs.Overlay.{word_or}
use Rattle.segment_store.specs.Base.{value}
use Rattle.segment_store.proofs.Forks.{store_root}
use Rattle.segment_store.proofs.store.Store.copy.Goals as goal

pub returns-clause-own : goal.returns-clause-own
returns-clause-own c = let h = c.args.hold.now in let s = c.args.self.now in
    let k = c.keep_words.ensures in
    let root = store_root (view h.seat) s.initial h.own h.rests h.own_words
    c.if-hold-eq0.false in (
      k.own.0,
      λ l lt. k.base l ∙ (c.in_ok-base.ensures.words.1 l lt
          ∙ ap (λ (xs : List ℕ). value s.masks xs (view h.seat).chain l) (sym root)),
      k.own.1 ∙ ap (λ (m : SegmentView). m.log) c.copy_chain.ensures.same.2,
    )

pub returns-clause-words : goal.returns-clause-words
returns-clause-words c = let h = c.args.hold.now in let s = c.args.self.now in
    let o = c.requires.own.1 in let q = c.in_ok-words.ensures in
    let root = store_root (view h.seat) s.initial h.own h.rests h.own_words
    c.if-hold-eq0.false in (
      q.0 ∙ o,
      λ l lt. q.1 l (subst (λ (n : ℕ). l < n) (sym o) lt)
          ∙ ap (λ (b : ℕ). word_or b (at c.args.delta.now l))
          (ap (λ (xs : List ℕ). slice_index xs l) c.deref.ensures.value
          ∙ (c.in_ok-base.ensures.words.1 l lt
          ∙ ap (λ (xs : List ℕ). value s.masks xs (view h.seat).chain l) (sym root))),
    )
