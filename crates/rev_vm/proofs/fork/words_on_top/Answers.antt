-- Answers of words_on_top: the words from the top less the count up to the top are the last so many below the top.
use Rattle.std.proofs.Common.{◌∙◌, ◌-◌, ap}
use Rattle.std.specs.Prelude.{slice_range}
use Rattle.rev_vm.proofs.Forking.{range_top}
use Rattle.rev_vm.proofs.fork.words_on_top.Goals as goal

pub returns : goal.returns
returns c =
    ap (λ xs. slice_range xs (c.args.run.now.registers.top - c.args.count) c.args.run.now.registers.top)
    c.as_slice.ensures.value
    ∙ range_top c.args.run.now.words.items c.args.count c.args.run.now.registers.top c.requires.enough
