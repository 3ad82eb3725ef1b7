-- Answers of no_starts: each turn adds one that is none, and after so many turns there are as many as the count.
use Rattle.std.proofs.Common.{◌≡◌, ℕ, ◌++◌, ◌∷◌, [], Option, None, replicate, ap, ◌∙◌, arith}
use Rattle.std.proofs.lemmas.List.{replicate_more}
use Rattle.rev_audit.specs.declared.alone.LocalState.{LocalState}
use Rattle.rev_audit.proofs.starts.no_starts.Goals as goal

pub loop-k-preserved : goal.loop-k-preserved
loop-k-preserved c =
    c.in_ok-push.ensures.items ∙ ap (λ l. l ++ None ∷ []) c.loop-k.invariant ∙ replicate_more c.loop-k._k None

pub returns : goal.returns
returns c =
    let all : c.loop-k._k ≡ c.args.count = omega arith in
    c.loop-k.invariant ∙ ap (λ (n : ℕ). replicate {A = Option LocalState} n None) all
