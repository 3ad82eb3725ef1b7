-- Where the memory of a segment is there: a segment of a chain has a count, and one that is built is known.
use Rattle.std.proofs.Common.{◌≡◌, ◌≢◌, ℕ, ◌+◌, ◌<◌, Bool, true, false, eqb, List, [], ◌∷◌}
use Rattle.std.proofs.Common.{get_or, sym, refl, ◌∙◌, subst, arith, ⊎_elim, inl, inr, ne_eqb}
use Rattle.std.proofs.lemmas.Bool.Decides.{nat_tests}
use mathlib.Core.Option.{some}
use lib.ListN.{get_elem?}
use prog.Atomic.{either}
use mathlib.Core.Logic.{dite}
use native.Mathlib.Decide.{ℕ_discrete}
use Rattle.sparse_table.specs.Seats as sparse
use Rattle.sparse_table.specs.Parts as parts
use Rattle.seg_core.specs.Core.{total, is_at}
use Rattle.seg_core.proofs.Sums.{total_one, is_at_same}
use Rattle.segment_store.specs.declared.board.SegmentView.{SegmentView}
use Rattle.segment_store.specs.Entry.{Entry}
use Rattle.segment_store.specs.Store.{building, first_of, refs, Chain, IsEntry, Has, InChain}
use Rattle.segment_store.specs.Store.{IsSegment, Kept, Makes, wants}
use Rattle.segment_store.specs.Rule.{St, Rule}
use Rattle.segment_store.proofs.Sums.{chain_has}
use Rattle.segment_store.proofs.Keeps.{referred, other_builds}

pub wants_is : (c n : ℕ) → 0 < c → 0 < n → n < building → wants c n ≡ true
wants_is c n pos more few = grind (arith, nat_tests)

-- a segment that is wanted has a count, and is not the part of the holds' count
pub wanted : (c n : ℕ) → wants c n ≡ true → (0 < c) × (0 < n) × (n < building)
wanted c n w = grind (arith, nat_tests)

pub free_not_wanted : (c : ℕ) → wants c 0 ≡ false
free_not_wanted c = grind (arith, nat_tests)

module _ (words stride : ℕ) (some_words : 0 < stride) (s : St) (r : Kept words stride s) where
  -- how often seats and segments refer to a segment
  abbrev times : ℕ → ℕ
  times c = total (refs c) s.views + total (is_at c) r.ups

  -- each segment of a chain is referred to where the first is
  referred_below : (es : List Entry) → Chain words stride (IsEntry words stride s.words r.ups) es
      → (0 < first_of es → 0 < times (first_of es)) → (e : Entry) → Has e es → 0 < times e.seg
  referred_below [] c h e has = absurd has
  referred_below (x ∷ xs) c h e has = ⊎_elim
      (λ (q : x ≡ e). subst (λ (y : Entry). 0 < times y.seg) q (h c.0.0.0))
      (λ (q : Has e xs). referred_below xs c.2 (λ pos. let up : ℕ = first_of xs in
      let t = total_one (is_at up) r.ups x.seg x.up c.0.1 in
      let o : is_at up x.up ≡ 1 = subst (λ (y : ℕ). is_at up y ≡ 1) (sym c.1) (is_at_same up) in
      omega arith) e q)
      has

  -- a segment of a seat's chain has a count
  pub chain_counted : (id : ℕ) (v : SegmentView) → get_elem? s.views id ≡ some v → (e : Entry)
      → Has e v.chain
      → IsSegment words stride e.seg × (0 < get_or s.words e.seg 0) × (get_or s.words e.seg 0 < building)
  chain_counted id v at e has = let mine = r.seats id v at in
      let times_some = referred_below v.chain mine.chained
      (λ pos. let z = referred words stride some_words s r id v at pos in let a = z.1 in let b = z.2 in
      omega arith) e has in
      let b = chain_has words stride (IsEntry words stride s.words r.ups) v.chain e mine.chained has in
      let k = r.counted e.seg b.0 in
      let not_building : get_or s.words e.seg 0 ≢ building = λ q. let z = (k.0 q).0 in omega arith in
      let z = k.1 not_building in let is = z.0 in let few = z.1 in
      (b.0, omega arith, omega arith)

module _ (words stride masks : ℕ) (some_words : 0 < stride) where
  -- the segments of its chain are there for a seat
  pub chain_there : (id : ℕ) (v : SegmentView) (known : List ℕ) (c : ℕ) → InChain c v.chain
      → sparse.IsThere (Rule words stride masks) wants id v known c
  chain_there id v known c link s r at = let e : Entry = link.0 in
      let z = chain_counted words stride some_words s r.kept id v at e link.1 in
      let pos = z.0.0 in
      inl (subst (λ (y : ℕ). wants y (get_or s.words y 0) ≡ true) link.2
      (wants_is e.seg (get_or s.words e.seg 0) pos z.1 z.2))

  -- a seat that keeps a segment of its chain does not make it wanted
  pub chain_backs : (id : ℕ) (v : SegmentView) (known : List ℕ) (c : ℕ) (f : ℕ → ℕ) → InChain c v.chain
      → sparse.Backed (Rule words stride masks) wants id v known c f
  chain_backs id v known c f link s r at w = chain_there id v known c link s r at

  -- what a seat knows to be there is there
  pub known_there : (id : ℕ) (v : SegmentView) (known : List ℕ) (c : ℕ) → parts.Has c known
      → sparse.IsThere (Rule words stride masks) wants id v known c
  known_there id v known c has s r at = inr has

  pub known_backs : (id : ℕ) (v : SegmentView) (known : List ℕ) (c : ℕ) (f : ℕ → ℕ) → parts.Has c known
      → sparse.Backed (Rule words stride masks) wants id v known c f
  known_backs id v known c f has s r at w = inr has

  -- a claim makes no segment wanted
  pub claim_backs : (id : ℕ) (v : SegmentView) (known : List ℕ) (c : ℕ)
      → sparse.Backed (Rule words stride masks) wants id v known c (λ n. either (eqb n 0) building n)
  claim_backs id v known c s r at w = inl (claimed_was c (get_or s.words c 0) w) where
    claimed_was : (c n : ℕ) → wants c (either (eqb n 0) building n) ≡ true → wants c n ≡ true
    claimed_was c n w = dite (ℕ_discrete n 0)
        (λ (e : n ≡ 0). let z = wanted c building (subst (λ (y : ℕ). wants c (either (eqb y 0) building y) ≡ true) e
        w) in
        let few = z.2 in absurd (omega arith))
        (λ (ne : n ≢ 0). subst (λ (b : Bool). wants c (either b building n) ≡ true) (ne_eqb n 0 ne) w)

  -- the word that counts the holds is no segment's
  pub holds_back : (id : ℕ) (v : SegmentView) (known : List ℕ) (f : ℕ → ℕ)
      → sparse.Backed (Rule words stride masks) wants id v known 0 f
  holds_back id v known f s r at w = let z = (wanted 0 (f (get_or s.words 0 0)) w).0 in absurd (omega arith)

  -- no other seat makes the segment that this one builds
  pub sole : (id : ℕ) (v : SegmentView) (c : ℕ) → 0 < c → v.build ≡ c
      → sparse.Sole (Rule words stride masks) Makes id v c
  sole id v c pos is = (
    is,
    λ s r at j w q ne made. other_builds words stride some_words s r.kept id j v w
        at (omega arith) ne q (made ∙ sym is),
  )

-- the first segment of a chain is one of it
pub first_in : (es : List Entry) (c : ℕ) → 0 < c → c ≡ first_of es → InChain c es
first_in [] c pos is = absurd (omega arith)
first_in (e ∷ es) c pos is = (e, inl refl, sym is)
