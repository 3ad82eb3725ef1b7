-- Answers of append_variable: each cell appends what its word shows, and at the end no cell is left.
use Rattle.std.proofs.Common.{refl, arith}
use Rattle.code_runs.specs.Births.{path_in}
use Rattle.code_runs.proofs.Shows.{cell_more, cells_all}
use Rattle.code_runs.proofs.values.append_variable.Goals as goal

pub loop-cell-init : goal.loop-cell-init
loop-cell-init c = λ paths names. refl

pub loop-cell-preserved : goal.loop-cell-preserved
loop-cell-preserved c = λ paths names.
    let x = c.args.variable.now in
    let ws = c.args.words.now in
    let many = c.requires.all in
    let less = c.loop-cell-test.true in
    cell_more (path_in paths) x ws c.loop-cell.cell c.loop-cell.shown.items c.push.new.self.items c.in_ok-one.one _
    (omega (arith, many, less)) (c.in_ok-one.ensures paths names) (c.in_ok-push.ensures).items
    (c.loop-cell.invariant paths names)

pub returns : goal.returns
returns c = λ paths names.
    let many = c.requires.all in
    let few = c.loop-cell-test.false in
    cells_all (path_in paths) c.args.variable.now c.args.words.now c.loop-cell.cell c.loop-cell.shown.items _
    (omega (arith, many, few)) (c.loop-cell.invariant paths names)
