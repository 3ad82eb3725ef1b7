-- `first_words`: a part of the words.
use Rattle.std.proofs.Common.{◌∙◌, ◌+◌, ap}
use Rattle.std.specs.Prelude.{slice_range}
use Rattle.rev_vm.proofs.Beginnings.{range_here}
use Rattle.rev_vm.proofs.fresh.first_words.Goals as goal

pub returns : goal.returns
returns c =
    ap (λ xs. slice_range xs c.args.run.now.registers.base (c.args.run.now.registers.base + c.args.count))
    c.as_slice.ensures.value
    ∙ range_here c.args.run.now.words.items c.args.run.now.registers.base c.args.count
