-- What a store's table is to the store, and what a step keeps of its seat.
use Rattle.std.proofs.Common.{◌≡◌, ℕ, ◌%◌, ◌<◌, List, [], get_or, sym, ap, ◌∙◌, subst, arith}
use Rattle.std.proofs.Math.Nat.{zero-mod}
use Rattle.atomic_table.specs.Table.{Me}
use Rattle.sparse_table.specs.Parts as parts
use Rattle.sparse_table.specs.Seats as sparse
use Rattle.sparse_table.specs.declared.rule.Trail.{Trail}
use Rattle.segment_store.specs.declared.board.SegmentView.{SegmentView}
use Rattle.segment_store.specs.declared.store.Store.{Store}
use Rattle.segment_store.specs.Places.{Place, room, size_of}
use Rattle.segment_store.specs.Names.{IsSeatOf, IsSegmentIn, IsInsideIn}
use Rattle.segment_store.specs.Same.{IsAttached}
use Rattle.segment_store.specs.Store.{IsSegment}
use Rattle.segment_store.proofs.Looks.{room_after}

pub still_there : (s t : Place) (c : ℕ) → sparse.IsStill s t → IsAttached s c → IsAttached t c
still_there s t c e has = subst (λ (x : Trail). parts.Has c x.known) (sym e.2) has

-- the table of a seat has as many words as the store
pub room_in : (s : Store) (seat : Place) → IsSeatOf s seat → room seat ≡ s.words
room_in s seat e = ap (λ (ns : List ℕ). get_or ns 0 0) e ∙ s.sized.0

-- a segment is a part of the table
pub part_in : (s : Store) (c : ℕ) → IsSegmentIn s c → sparse.IsPartOf s.table c
part_in s c b = (
  subst (λ (n : ℕ). c < n) (sym s.sized.0) b.2,
  subst (λ (n : ℕ). c % n ≡ 0) (sym s.sized.3) b.1,
)

pub word_in : (s : Store) (c i : ℕ) → IsInsideIn s c i → sparse.IsWordOf s.table c i
word_in s c i b = let width = s.sized.3 in let lo = b.1 in let hi = b.2 in
    (part_in s c b.0, (lo, omega arith))

-- the same by what the rule was told
pub ruled_in : (s : Store) (c : ℕ) → IsSegmentIn s c
    → IsSegment (size_of s.table).words (size_of s.table).stride c
ruled_in s c b = subst (λ (z : ℕ × ℕ). IsSegment z.0 z.1 c) (λ i. (sym s.sized.1 i, sym s.sized.2 i)) b

pub some_stride : (s : Store) → 0 < (size_of s.table).stride
some_stride s = let e = s.sized.2 in let w = s.wide.0 in omega arith

-- the part of the count of holds
pub part_zero : (s : Store) → sparse.IsPartOf s.table 0
part_zero s = let len = s.sized.0 in let width = s.sized.3 in let w = s.wide in let w0 = w.0 in
    let w2 = w.2 in (omega arith, zero-mod s.table.width)

pub some_words : (s : Store) → 0 < (size_of s.table).words
some_words s = let e = s.sized.1 in let w = s.wide in let w0 = w.0 in let w2 = w.2 in omega arith

-- a place of a segment is one of the store
pub word_fits : (s : Store) (c i : ℕ) → IsInsideIn s c i → i < s.words
word_fits s c i b = let w = s.wide in let hi = b.2 in let m = b.0.1 in let inside = b.0.2 in
    let end = room_after s.words s.stride c m w.1 inside in omega arith

-- a seat's view, by what a step tells of the seat
pub view_same : (s t : Place) → sparse.me_of t ≡ sparse.me_of s → sparse.view t ≡ sparse.view s
view_same s t e = ap (λ (m : Me (Unit {0}) SegmentView). m.0) e

pub view_now : (s : Place) (v : SegmentView) → sparse.me_of s ≡ (v, []) → sparse.view s ≡ v
view_now s v e = ap (λ (m : Me (Unit {0}) SegmentView). m.0) e
