-- Answers of Delta::clear: rows that are passed over are 0, and behind the last row that was not 0 all are.
use Rattle.std.proofs.Common.{arith, ◌≡◌, ◌∙◌, ℕ, sym, subst, slice_index}
use mathlib.Core.Logic.{dite}
use native.Mathlib.Decide.{ℕ_discrete, dec_le}
use Rattle.version_map.specs.Masks.{rows}
use Rattle.version_map.specs.Deltas.{locations, mask_of}
use Rattle.version_map.proofs.Nexts.{none_behind}
use Rattle.version_map.proofs.delta.Delta.clear.Goals as goal

pub overflow_add-from : goal.overflow_add-from
overflow_add-from c =
    let within = c.in-Some.ensures.1 in let few = c.loop-row.self.sized.1 in omega (arith, within, few)

pub loop-row-smaller : goal.loop-row-smaller
loop-row-smaller c =
    let low = c.in-Some.ensures.0 in
    let within = c.in-Some.ensures.1 in
    let size = c.clear_row.ensures.size in omega (arith, low, within, size)

pub loop-row-preserved : goal.loop-row-preserved
loop-row-preserved c =
    let row = c.in-Some.row in (
      c.clear_row.ensures.size ∙ c.loop-row.invariant.0,
      λ r lo hi. dite (ℕ_discrete r row)
          (λ is. subst (λ (k : ℕ). slice_index (mask_of c.clear_row.new.self) k ≡ 0) (sym is) c.clear_row.ensures.here)
          (λ ne. c.clear_row.ensures.others r ne
          ∙ dite (dec_le c.loop-row.from r) (λ ge. c.in-Some.ensures.3 r ge (omega arith))
          (λ less. c.loop-row.invariant.1 r lo (omega arith))),
    )

pub returns-clause-empty : goal.returns-clause-empty
returns-clause-empty c = λ l lt.
    let d = c.loop-row.self in
    none_behind d 0 (rows (locations d)) 0 (locations d)
    (λ r lo hi. dite (dec_le c.loop-row.from r) (λ ge. c.in_default.ensures r ge hi)
    (λ less. c.loop-row.invariant.1 r lo (omega arith)))
    (omega arith) (omega arith) l (omega arith) lt
