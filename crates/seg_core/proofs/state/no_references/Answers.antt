-- Answers of no_references: after all turns there are 65,536 holders that refer to nothing.
use Rattle.std.proofs.Common.{◌≡◌, ℕ, List, [], replicate, ap, ◌∙◌, arith}
use Rattle.seg_core.proofs.state.no_references.Goals as goal

pub returns-clause-none : goal.returns-clause-none
returns-clause-none c = let t = c.loop-made-test.false in let e = c.loop-made.auto.made-end in
    let all : c.loop-made.made ≡ 65536 = omega arith in
    c.loop-made.invariant.0 ∙ ap (λ (n : ℕ). replicate {A = List ℕ} n []) all
