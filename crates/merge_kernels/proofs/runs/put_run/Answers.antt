-- Answers of put_run: a row has the definition of its kernel, and whole eights are some of the locations.
use Rattle.std.proofs.Common.{◌*◌, ◌/◌, drop, arith}
use Rattle.merge_kernels.specs.Terms.{definition}
use Rattle.merge_kernels.proofs.RowRuns.{fewer_follow, row_values}
use Rattle.merge_kernels.proofs.runs.put_run.Goals as goal

pub returns-in-Some-clause-put : goal.returns-in-Some-clause-put
returns-in-Some-clause-put g c = λ merges first f v.
    let many = c.args.many in
    c.put_eights.ensures.put merges first
    (fewer_follow (drop c.args.at c.args.written.now) first many (8 * (many / 8)) f (omega arith))
    (row_values (definition c.in-Some.row.now.def) (definition c.args.kernel.now.def) merges first many (8 * (many / 8))
    c.in-Some.ensures.same v (omega arith))
