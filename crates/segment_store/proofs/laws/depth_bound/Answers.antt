-- Answers of depth_bound: in a reached state each seat's view is a chain, and a chain has no more than all segments.
use Rattle.segment_store.proofs.Depths.{chain_within}
use Rattle.segment_store.proofs.laws.depth_bound.Goals as goal

pub returns : goal.returns
returns c = λ words stride segments s r rooms i v at. chain_within words stride s r segments rooms
    v.chain (r.seats i v at).chained
