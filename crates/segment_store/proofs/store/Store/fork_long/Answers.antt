-- Answers of Store::fork_long: the whole chain goes into the copied delta, which is then pushed over no chain.
use Rattle.std.proofs.Common.{◌≡◌, ◌<◌, ℕ, List, slice_index, vec_len, sym, ap, ◌∙◌, subst}
use Rattle.version_map.specs.Deltas.{at}
use Rattle.version_map.specs.Overlay.{under, word_or}
use Rattle.segment_store.specs.Places.{view}
use Rattle.segment_store.specs.Entry.{Entry}
use Rattle.segment_store.specs.Base.{value}
use Rattle.segment_store.specs.Own.{root_in}
use Rattle.segment_store.specs.Names.{base}
use Rattle.segment_store.proofs.ChainWalks.{chain_of}
use Rattle.segment_store.proofs.Bases.{same_base, none_under}
use Rattle.segment_store.proofs.store.Store.fork_long.Goals as goal

pub returns-in-Some-clause-child : goal.returns-in-Some-clause-child
returns-in-Some-clause-child c = let s = c.args.self.now in let h = c.args.hold.now in
    let d = c.args.delta.now in
    let based : (l : ℕ) → value s.masks s.initial.items (view h.seat).chain l ≡ base s h l = λ l.
    ap (λ (xs : List ℕ). value s.masks xs (view h.seat).chain l)
    (sym (ap (root_in s.initial) c.requires.some.1)) in
    let chain = chain_of h.seat c.copy_chain.new.seat c.copy_chain.ensures.same.2 in
    let child : (l : ℕ) → l < vec_len s.initial → base s c.in-Some.child l ≡ under d (base s h) l =
    λ l lt. c.in-Some.ensures.base l lt
    ∙ (ap (λ (b : ℕ). word_or b (at c.absorb_chain.new.into l)) (c.drop_chain.ensures.base l)
    ∙ (c.absorb_chain.ensures.values l lt
    ∙ (ap (word_or (value s.masks s.initial.items (view c.copy_chain.new.seat).chain l))
    (c.in_ok-all.ensures.1 l (subst (λ (n : ℕ). l < n) (sym c.requires.own.1) lt))
    ∙ ap (λ (b : ℕ). word_or b (at d l))
    (ap (λ (es : List Entry). value s.masks s.initial.items es l) chain ∙ based l)))) in
    (c.in-Some.ensures.child.0, child)

pub returns-in-Some-clause-parent : goal.returns-in-Some-clause-parent
returns-in-Some-clause-parent c = let s = c.args.self.now in let h = c.args.hold.now in
    let d = c.args.delta.now in
    let based : (l : ℕ) → value s.masks s.initial.items (view h.seat).chain l ≡ base s h l = λ l.
    ap (λ (xs : List ℕ). value s.masks xs (view h.seat).chain l)
    (sym (ap (root_in s.initial) c.requires.some.1)) in
    let chain = chain_of h.seat c.copy_chain.new.seat c.copy_chain.ensures.same.2 in
    let child : (l : ℕ) → l < vec_len s.initial → base s c.in-Some.child l ≡ under d (base s h) l =
    λ l lt. c.in-Some.ensures.base l lt
    ∙ (ap (λ (b : ℕ). word_or b (at c.absorb_chain.new.into l)) (c.drop_chain.ensures.base l)
    ∙ (c.absorb_chain.ensures.values l lt
    ∙ (ap (word_or (value s.masks s.initial.items (view c.copy_chain.new.seat).chain l))
    (c.in_ok-all.ensures.1 l (subst (λ (n : ℕ). l < n) (sym c.requires.own.1) lt))
    ∙ ap (λ (b : ℕ). word_or b (at d l))
    (ap (λ (es : List Entry). value s.masks s.initial.items es l) chain ∙ based l)))) in
    λ l lt. let e = c.in-Some.ensures in let new = c.fork_push.new.hold in
    none_under s c.clear.new.self new l (c.clear.ensures.empty l
    (subst (λ (n : ℕ). l < n) (sym (c.clear.ensures.size ∙ c.requires.own.1)) lt))
    ∙ (sym (same_base s new c.in-Some.child l (e.child.1, e.child.2 ∙ sym e.child.3))
    ∙ child l lt)

pub returns-in-None-clause-child : goal.returns-in-None-clause-child
returns-in-None-clause-child c = let s = c.args.self.now in let h = c.args.hold.now in
    let d = c.args.delta.now in
    let based : (l : ℕ) → value s.masks s.initial.items (view h.seat).chain l ≡ base s h l = λ l.
    ap (λ (xs : List ℕ). value s.masks xs (view h.seat).chain l)
    (sym (ap (root_in s.initial) c.requires.some.1)) in
    let f = c.fork_own.ensures in (
      f.child.0,
      λ l lt. f.base l
          ∙ (c.in_ok-words.ensures.1 l (subst (λ (n : ℕ). l < n) (sym c.requires.own.1) lt)
          ∙ ap (λ (b : ℕ). word_or b (at d l))
          (ap (λ (xs : List ℕ). slice_index xs l) c.deref.ensures.value
          ∙ (c.in_ok-base.ensures.words.1 l lt ∙ based l))),
    )

pub returns-in-None-clause-parent : goal.returns-in-None-clause-parent
returns-in-None-clause-parent c = let s = c.args.self.now in let h = c.args.hold.now in
    let d = c.args.delta.now in
    let based : (l : ℕ) → value s.masks s.initial.items (view h.seat).chain l ≡ base s h l = λ l.
    ap (λ (xs : List ℕ). value s.masks xs (view h.seat).chain l)
    (sym (ap (root_in s.initial) c.requires.some.1)) in
    λ l lt. ap (λ (b : ℕ). word_or b (at d l))
    (same_base s c.keep_words.new.hold c.fork_own.new.hold l c.fork_own.ensures.own.1
    ∙ (c.keep_words.ensures.base l ∙ (c.in_ok-base.ensures.words.1 l lt ∙ based l)))
