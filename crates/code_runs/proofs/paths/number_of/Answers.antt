-- `number_of`: one number after another.
use Rattle.std.proofs.Common.{◌∙◌, Some, sym, ap, arith}
use Rattle.rev_num.specs.Path.{same}
use Rattle.rev_num.proofs.PostOrder.{same-eq}
use Rattle.code_runs.specs.Births.{path_in}
use Rattle.code_runs.proofs.Naming.{none_there, path_there}
use Rattle.code_runs.proofs.paths.number_of.Goals as goal

pub returns-then-is_path : goal.returns-then-is_path
returns-then-is_path c = λ paths names.
    let n = c.loop-number.number in
    path_there c.args.births.now paths names n c.loop-number-test.true
    ∙ ap Some (same-eq (path_in paths n) c.args.path.now
    (ap (same (path_in paths n)) (sym c.numbers.ensures) ∙ sym (c.is_path.ensures paths names) ∙ c.if-is_path.true))

pub returns : goal.returns
returns c = λ paths names.
    none_there paths c.args.path.now (λ n small e.
    let many = names.all in
    let all = c.loop-number-test.false in
    c.loop-number.invariant paths names n (omega (arith, small, many, all)) e)
