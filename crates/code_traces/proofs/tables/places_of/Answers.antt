-- Answers of places_of: each variable appends the places of its cells, and at the end no variable is left.
use Rattle.std.proofs.Common.{refl, ap, ◌++◌}
use Rattle.code_traces.specs.Parts.{places, variable_places}
use Rattle.code_traces.proofs.Loops.{one_done, all_done}
use Rattle.code_traces.proofs.tables.places_of.Goals as goal

pub loop-at-init : goal.loop-at-init
loop-at-init c = ap (λ l. l ++ places c.args.variables.now) c.new-list.ensures.items

pub loop-at-preserved : goal.loop-at-preserved
loop-at-preserved c =
    one_done places variable_places (λ x xs. refl) c.args.variables.now c.loop-at.at c.index-variables-at.result
    c.loop-at.list.items c.append_places.new.list.items (places c.args.variables.now)
    c.loop-at-test.true c.index-variables-at.is c.in_ok-append_places.ensures c.loop-at.invariant

pub returns : goal.returns
returns c = all_done places variable_places (λ x xs. refl) c.args.variables.now c.loop-at.at refl c.loop-at.list.items
    (places c.args.variables.now) (let few = c.loop-at-test.false in omega (Rattle.std.proofs.Common.arith, few))
    c.loop-at.invariant
