-- Answers of write_zeros: one word more is 0.
use Rattle.std.proofs.Common.{◌≡◌, ℕ, suc, ◌+◌, ◌<◌, ◌≤◌, inr, List, length, get_or, set, sym, ap, ◌∙◌, subst, arith}
use Rattle.std.specs.Prelude.{replicate}
use Rattle.sparse_table.specs.Words.{blank, laid}
use Rattle.sparse_table.proofs.Laid.{laid_long, laid_apart, laid_more}
use Rattle.sparse_table.proofs.zeros.write_zeros.Goals as goal

pub put-requires : goal.put-requires
put-requires c = let k : ℕ = c.loop-k.k in let from : ℕ = c.args.from in let old : List ℕ = c.args.span.now.items in
    let low : k < c.args.count = search in let fits = c.requires.long.0 in
    let is = c.loop-k.invariant.1 in let long = ap length is ∙ laid_long (replicate k 0) old from in (
      (omega arith),
      subst (λ (y : ℕ). y ≤ blank) (sym (ap (λ (xs : List ℕ). get_or xs (from + k) 0) is ∙ laid_apart k 0 old from
          (from + k) (inr (omega arith)))) (c.requires.here (from + k) (omega arith) (omega arith)),
    )

pub loop-k-preserved : goal.loop-k-preserved
loop-k-preserved c = let k : ℕ = c.loop-k.k in let from : ℕ = c.args.from in
    let old : List ℕ = c.args.span.now.items in let is = c.loop-k.invariant in let e = c.put.ensures in (
      e.0 ∙ is.0,
      e.1 ∙ (ap (λ (xs : List ℕ). set xs (from + k) 0) is.1 ∙ (sym (laid_more k 0 old from) ∙ ap
          (λ (m : ℕ). laid old from (replicate m 0)) (let q : suc k ≡ k + 1 = omega arith in q))),
    )
