-- Answers of tries_in: at the end no instruction is left, so the total is the count up to the greatest number.
use Rattle.code_file.proofs.Sums.{tries_in_end}
use Rattle.code_file.proofs.count.tries_in.Goals as goal

pub returns : goal.returns
returns c = tries_in_end c.loop-instr.total c.args.instrs.now c.loop-instr.instr-index c.loop-instr-test.false
    c.loop-instr.invariant.fits c.loop-instr.invariant.total
