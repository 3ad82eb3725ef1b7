-- Answers of table_of: the first location plus the cells left is the count of all, so the sum does not overflow.
use Rattle.std.proofs.Common.{◌∙◌, ◌++◌, sym, ap, arith}
use Rattle.std.proofs.lemmas.List.{append-nil}
use Rattle.std.proofs.Math.ListN.{drop_of_length-le}
use Rattle.block_run.specs.Area.{count, table_from}
use Rattle.block_run.proofs.Tables.{few_locations, table_law, count_drop}
use Rattle.block_run.proofs.table.table_of.Goals as goal

pub overflow_add-first : goal.overflow_add-first
overflow_add-first c =
    let few = few_locations c.args.code.now c.requires in
    let e = c.loop-at.invariant.first in
    let v = ap count c.loop-at.invariant.vars in
    let d = count_drop c.as_slice-vars.result.now c.loop-at.at c.index-vars-at.result c.loop-at-test.true in
    omega (arith, few, e, v, d)

pub returns-clause-listed : goal.returns-clause-listed
returns-clause-listed c =
    let vs = c.as_slice-vars.result.now in
    let none = drop_of_length-le vs c.loop-at-test.false in
    sym (append-nil c.loop-at.table.items)
    ∙ ap (λ us. c.loop-at.table.items ++ table_from c.loop-at.first us) (sym none)
    ∙ c.loop-at.invariant.table ∙ ap (table_from 0) c.loop-at.invariant.vars

pub returns-clause-table : goal.returns-clause-table
returns-clause-table c = table_law c.args.code.now c.requires c.loop-at.table.items (returns-clause-listed c)
