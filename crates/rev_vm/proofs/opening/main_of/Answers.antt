-- Answers of main_of: accepted code has a main block, which is the last and the only one.
use Rattle.std.proofs.Common.{◌∙◌, ◌-◌, List, length, sym, ap}
use Rattle.std.specs.Prelude.{slice_get}
use Rattle.rev_code.specs.declared.code.CodeBlock.{CodeBlock}
use Rattle.rev_vm.proofs.Mains.{main_one, main_there}
use Rattle.rev_vm.proofs.opening.main_of.Goals as goal

pub returns-clause-is : goal.returns-clause-is
returns-clause-is c =
    let q = main_there c.args.code.now c.requires in
    (q.0, ap (λ (bs : List CodeBlock). slice_get c.args.code.now.blocks (length bs - 1)) c.as_slice.ensures ∙ q.1, q.2)

pub returns-clause-one : goal.returns-clause-one
returns-clause-one c = λ n b is m.
    main_one c.args.code.now c.requires n b is m ∙ ap (λ (bs : List CodeBlock). length bs - 1) (sym c.as_slice.ensures)
