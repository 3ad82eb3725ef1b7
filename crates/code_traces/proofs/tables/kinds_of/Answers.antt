-- Answers of kinds_of: each variable appends the kinds of its cells, and at the end no variable is left.
use Rattle.std.proofs.Common.{refl, ap, ◌++◌, replicate, arith}
use Rattle.code_soundness.specs.Typed.{location_kinds}
use Rattle.code_traces.proofs.Loops.{one_done, all_done}
use Rattle.code_traces.proofs.tables.kinds_of.Goals as goal

pub loop-at-init : goal.loop-at-init
loop-at-init c = ap (λ l. l ++ location_kinds c.args.variables.now) c.new-list.ensures.items

pub loop-at-preserved : goal.loop-at-preserved
loop-at-preserved c =
    one_done location_kinds (λ v. replicate v.cells v.kind) (λ x xs. refl) c.args.variables.now c.loop-at.at
    c.index-variables-at.result c.loop-at.list.items c.append_kinds.new.list.items (location_kinds c.args.variables.now)
    c.loop-at-test.true c.index-variables-at.is c.in_ok-append_kinds.ensures c.loop-at.invariant

pub returns : goal.returns
returns c = all_done location_kinds (λ v. replicate v.cells v.kind) (λ x xs. refl) c.args.variables.now c.loop-at.at
    refl c.loop-at.list.items (location_kinds c.args.variables.now)
    (let few = c.loop-at-test.false in omega (arith, few)) c.loop-at.invariant
