-- Answers of Held::collapse: the store's answer, whichever of the three it is, is what the hold then tells.
use Rattle.std.proofs.Common.{ap, ◌∙◌}
use Rattle.segment_store.specs.declared.store.Hold.{Hold}
use Rattle.segment_store.proofs.Tells.{told_after}
use Rattle.segment_store.proofs.held.HeldSnapshot.collapse.Goals as goal

pub returns-clause-answered : goal.returns-clause-answered
returns-clause-answered c = let e = c.collapse.ensures in
    told_after c.args.self.now.hold c.collapse.new.hold c.collapse.result
    (λ is. (e.took is).1.0) (λ n is. let k = e.kept n is in (k.0, k.1, k.2))
    (λ is. let b = e.bottom is in ap (λ (h : Hold). h.depth) b.1 ∙ b.0)
