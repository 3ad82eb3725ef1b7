-- Answers of let_go: the next place is the first of those that are left.
use Rattle.std.proofs.Common.{suc, sym, ap, ◌∙◌}
use Rattle.hub_core.specs.Tally.{record_at}
use Rattle.hub_core.proofs.parting.let_go.Goals as goal

pub empty-requires : goal.empty-requires
empty-requires g c = sym (ap (λ l. record_at l 0) c.in-Some.ensures.items) ∙ c.loop-held.invariant 0

pub loop-held-preserved : goal.loop-held-preserved
loop-held-preserved g c j = sym (ap (λ l. record_at l (suc j)) c.in-Some.ensures.items) ∙ c.loop-held.invariant (suc j)
