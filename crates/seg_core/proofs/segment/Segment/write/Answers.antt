-- Answers of Segment::write: the word is at its location, and every other location has what it had.
use Rattle.std.proofs.Common.{◌≡◌, ◌∙◌, ℕ, cond, Some, ap, sym, eq-eqb, ne_eqb}
use mathlib.Core.Logic.{dite}
use native.Mathlib.Decide.{ℕ_discrete}
use Rattle.version_map.specs.Deltas.{at}
use Rattle.seg_core.specs.Steps.{with_word}
use Rattle.seg_core.proofs.segment.Segment.write.Goals as goal

pub returns-clause-here : goal.returns-clause-here
returns-clause-here c = let d = c.args.self.now.delta in let l = c.args.location in
    let w = c.args.word in
    let same : (k : ℕ) → at c.set.new.self k ≡ with_word (at d) l w k = λ k. dite (ℕ_discrete k l)
    (λ e. ap (at c.set.new.self) e
    ∙ (c.set.ensures.here ∙ sym (ap (λ b. cond b (Some w) (at d k)) (eq-eqb k l e))))
    (λ ne. c.set.ensures.others k ne ∙ sym (ap (λ b. cond b (Some w) (at d k)) (ne_eqb k l ne))) in
    λ i k. same k i
