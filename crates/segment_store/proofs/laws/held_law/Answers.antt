-- Answers of held_law: one lemma on reached states gives for a live segment the seat in whose chain it is.
use Rattle.segment_store.proofs.Reached.{reached}
use Rattle.segment_store.proofs.laws.held_law.Goals as goal

pub returns : goal.returns
returns c = λ words stride s r d b live done. let p = reached words stride s r d b live done in
    (p.seat, p.view, p.at, p.e, p.has, p.seg)
