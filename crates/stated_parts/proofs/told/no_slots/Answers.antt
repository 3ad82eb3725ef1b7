-- Answers of no_slots: each turn adds a slot without a write, and after so many turns there are as many as the count.
use Rattle.std.proofs.Common.{◌≡◌, ℕ, ◌++◌, ◌∷◌, [], Option, None, replicate, ap, ◌∙◌, arith}
use Rattle.std.proofs.lemmas.List.{replicate_more}
use Rattle.stated_parts.specs.declared.ends.AloneWrite.{AloneWrite}
use Rattle.stated_parts.proofs.told.no_slots.Goals as goal

pub loop-n-preserved : goal.loop-n-preserved
loop-n-preserved c =
    c.in_ok-push.ensures.items ∙ ap (λ l. l ++ None ∷ []) c.loop-n.invariant ∙ replicate_more c.loop-n._n None

pub returns : goal.returns
returns c =
    let all : c.loop-n._n ≡ c.args.count = omega arith in
    c.loop-n.invariant ∙ ap (λ (n : ℕ). replicate {A = Option AloneWrite} n None) all
