-- Loops of words_seen: there is one word for each location so far, which is the one that the revision sees there.
use Rattle.std.proofs.Common.{◌≡◌, vec_len, slice_index}
use Rattle.version_map.specs.Overlay.{under, Agree}
use Rattle.code_world.proofs.freshness.words_seen.Given as goal

abbrev pub invariant-loop-location : goal.invariant-loop-location
invariant-loop-location l = (vec_len l.words ≡ l.location)
    × Agree l.location (slice_index l.words.items) (under l.delta (slice_index l.base))
