-- Answers of Store::drop_chain: the hold rests on a sound chain, which may be released for the initial words.
use Rattle.std.proofs.Common.{ℕ, subst}
use Rattle.segment_store.specs.Places.{view}
use Rattle.segment_store.specs.Base.{Sound}
use Rattle.segment_store.proofs.ChainWalks.{sound}
use Rattle.segment_store.proofs.Places.{room_in}
use Rattle.segment_store.proofs.store.Store.drop_chain.Goals as goal

pub release_all-requires-clause-rests : goal.release_all-requires-clause-rests
release_all-requires-clause-rests c = let h = c.args.hold.now in let r = h.rests in
    let o = c.requires.own.0 in let s = c.args.self.now in (
      r.head,
      r.deep,
      subst (λ (z : ℕ × ℕ × ℕ). Sound z.0 z.1 z.2 (view h.seat).chain)
          (λ i. (room_in s h.seat o.0 i, o.1 i, o.2 i)) (sound _ _ _ _ r.whole),
      r.single,
    )
