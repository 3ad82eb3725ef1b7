-- Loops of words_under: the words so far are those that the delta shows over the words beneath.
use Rattle.std.proofs.Common.{◌≡◌, ◌≤◌, length, vec_capacity, vec_len, slice_index}
use Rattle.version_map.specs.Overlay.{under, Agree}
use Rattle.segment_store.proofs.store.copies.words_under.Given as goal

abbrev pub invariant-loop-l : goal.invariant-loop-l
invariant-loop-l l = (vec_len l.all ≡ l.l) × (length l.fn.words ≤ vec_capacity l.all)
    × Agree l.l (slice_index l.all.items) (under l.fn.delta (slice_index l.fn.words))
