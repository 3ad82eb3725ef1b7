-- Answers of compose_ones: one word more is put, and the first fault is that of all from the place on.
use Rattle.std.proofs.Common.{rules, ◌∙◌, ◌+◌, ℕ, ap, sym, get_or, arith}
use Rattle.version_map.specs.declared.end.Written.{Written}
use Rattle.version_map.specs.Composing.{Merges}
use Rattle.version_map.proofs.Composing.{stops, puts_more}
use Rattle.version_map.proofs.joining.compose_ones.Goals as goal

abbrev no_entry : Written
no_entry = record { location = 0; value = 0; root = 0 }

pub returns-in-Err-clause-trap : goal.returns-in-Err-clause-trap
returns-in-Err-clause-trap g c =
    let merges : Merges ℕ = g.M.MergeBy.merges c.args.merges.now in
    let ws = c.args.written.now in
    let mains = c.args.mains.now in
    let i = c.args.at + c.loop-k.k in
    let w = get_or ws i no_entry in
    let put = c.loop-k.invariant.3 in
    stops merges mains ws i 0 no_entry put.0 c.in-Err.fault _ (omega arith) (omega arith)
    (sym c.in-Err.is
    ∙ (c.merge.ensures.value
    ∙ ap (λ (m : Merges ℕ). m w.location (get_or mains i 0) w.value w.root) c.loop-k.invariant.1))
    put.1.1

pub loop-k-preserved : goal.loop-k-preserved
loop-k-preserved g c =
    let merges : Merges ℕ = g.M.MergeBy.merges c.args.merges.now in
    let ws = c.args.written.now in
    let mains = c.args.mains.now in
    let i = c.args.at + c.loop-k.k in
    let w = get_or ws i no_entry in (
      c.merge.ensures.size ∙ c.loop-k.invariant.0,
      c.merge.ensures.merges ∙ c.loop-k.invariant.1,
      search rules,
      puts_more merges mains ws c.args.at c.loop-k.k 0 c.in-Ok.value no_entry _ c.loop-k.values
          (omega arith) (omega arith) (omega arith)
          (sym c.in-Ok.is
          ∙ (c.merge.ensures.value
          ∙ ap (λ (m : Merges ℕ). m w.location (get_or mains i 0) w.value w.root) c.loop-k.invariant.1))
          c.loop-k.invariant.3,
    )
