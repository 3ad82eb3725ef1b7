-- Answers of compose: the next words go before what the rest composes to, up to the first fault.
use Rattle.std.proofs.Common.{◌≡◌, ◌∙◌, ℕ, List, ap, sym, subst, take, drop, Err, arith}
use Rattle.version_map.specs.declared.end.Written.{Written}
use Rattle.version_map.specs.declared.joining.MergeTrap.{MergeTrap}
use Rattle.version_map.specs.Composing.{Merges, Composition, composed, entries}
use Rattle.version_map.specs.Parts.{before, HasPut, TrapsFrom}
use Rattle.version_map.proofs.Composing.{is_done, before_fault}
use Rattle.version_map.proofs.Faulting.{traps_at_least, none_faults}
use Rattle.version_map.proofs.RowParts.{part_goes_on}
use Rattle.version_map.proofs.joining.compose.Goals as goal

-- a fault behind words that are known is that of all
traps : (m : Merges ℕ) (mains : List ℕ) (ws : List Written) (at : ℕ) (known : List ℕ) (t : MergeTrap)
    (c : Composition ℕ)
    → c ≡ before known (composed m (drop at mains) (entries (drop at ws))) → TrapsFrom m mains ws at t
    → c ≡ Err (t.location, t.fault)
traps m mains ws at known t c so trap = so ∙ (ap (before known) trap ∙ before_fault known (t.location, t.fault))

pub returns-in-Err-clause-composed : goal.returns-in-Err-clause-composed
returns-in-Err-clause-composed g c =
    let merges : Merges ℕ = g.M.MergeBy.merges c.args.merges.now in
    let ws = c.as_slice-written.result.now in
    let mains = c.args.mains.now in
    let at = c.loop-at.at in
    ap (λ xs. composed merges mains (entries xs)) (sym c.as_slice-written.ensures)
    ∙ traps merges mains ws at (take at c.loop-at.values) c.in-Err.trap _ c.loop-at.invariant.4
    (subst (λ (m : Merges ℕ). TrapsFrom m mains ws at c.in-Err.trap) c.loop-at.invariant.1 c.in-Err.ensures.trap)

pub returns-in-Err-clause-least : goal.returns-in-Err-clause-least
returns-in-Err-clause-least g c =
    let merges : Merges ℕ = g.M.MergeBy.merges c.args.merges.now in
    let ws = c.as_slice-written.result.now in
    let mains = c.args.mains.now in
    let at = c.loop-at.at in
    traps_at_least merges mains c.args.end.now.written c.args.end.now.ascending _ _
    (ap (λ xs. composed merges mains (entries xs)) (sym c.as_slice-written.ensures)
    ∙ traps merges mains ws at (take at c.loop-at.values) c.in-Err.trap _ c.loop-at.invariant.4
    (subst (λ (m : Merges ℕ). TrapsFrom m mains ws at c.in-Err.trap) c.loop-at.invariant.1 c.in-Err.ensures.trap))

pub loop-at-preserved : goal.loop-at-preserved
loop-at-preserved g c =
    let merges : Merges ℕ = g.M.MergeBy.merges c.args.merges.now in
    let ws = c.as_slice-written.result.now in
    let mains = c.args.mains.now in
    let at = c.loop-at.at in
    let many = c.in-Ok.many in
    let next = c.in-Ok.ensures.put in
    let put = subst (λ (m : Merges ℕ). HasPut m mains ws at many c.loop-at.values c.compose_next.new.values)
    c.loop-at.invariant.1 next.2 in (
      c.compose_next.ensures.size ∙ c.loop-at.invariant.0,
      c.compose_next.ensures.merges ∙ c.loop-at.invariant.1,
      c.compose_next.ensures.length ∙ c.loop-at.invariant.2,
      next.1,
      part_goes_on merges mains ws at many c.loop-at.values c.compose_next.new.values put.0 _ c.loop-at.invariant.4
          put.1.1 put.2,
    )

pub returns-clause-composed : goal.returns-clause-composed
returns-clause-composed g c =
    ap (λ xs. composed (g.M.MergeBy.merges c.args.merges.now) c.args.mains.now (entries xs))
    (sym c.as_slice-written.ensures)
    ∙ is_done (g.M.MergeBy.merges c.args.merges.now) c.args.mains.now c.loop-at.values c.as_slice-written.result.now
    c.loop-at.at _
    (omega arith) (omega arith) c.loop-at.invariant.4

pub returns-clause-least : goal.returns-clause-least
returns-clause-least g c =
    none_faults (g.M.MergeBy.merges c.args.merges.now) c.args.mains.now c.args.end.now.written c.loop-at.values (
    ap (λ xs. composed (g.M.MergeBy.merges c.args.merges.now) c.args.mains.now (entries xs))
    (sym c.as_slice-written.ensures)
    ∙ is_done (g.M.MergeBy.merges c.args.merges.now) c.args.mains.now c.loop-at.values c.as_slice-written.result.now
    c.loop-at.at _
    (omega arith) (omega arith) c.loop-at.invariant.4
    )
