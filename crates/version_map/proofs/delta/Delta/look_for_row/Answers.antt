-- Answers of Delta::look_for_row: a row more is 0, or it is the least that is not.
use Rattle.std.proofs.Common.{arith, ◌≡◌, ◌∙◌, ℕ, sym, subst, slice_index}
use mathlib.Core.Logic.{dite}
use native.Mathlib.Decide.{ℕ_discrete}
use Rattle.version_map.specs.Deltas.{mask_of}
use Rattle.version_map.proofs.delta.Delta.look_for_row.Goals as goal

pub returns-then-bits-ne0 : goal.returns-then-bits-ne0
returns-then-bits-ne0 c =
    let within = c.loop-row-test.true in let many = c.mask_rows-row-end.ensures in (
      c.loop-row.auto.row,
      omega (arith, within, many),
      λ zero. c.if-bits-ne0.true (c.mask_row-bits.ensures ∙ zero),
      c.loop-row.invariant,
    )

pub loop-row-preserved : goal.loop-row-preserved
loop-row-preserved c = λ r lo hi.
    let d = c.args.self.now in
    dite (ℕ_discrete r c.loop-row.row)
    (λ is. subst (λ (k : ℕ). slice_index (mask_of d) k ≡ 0) (sym is)
    (sym c.mask_row-bits.ensures ∙ c.if-bits-ne0.false))
    (λ ne. c.loop-row.invariant r lo (omega arith))
