-- Answers of locations: at the end no variable is left, so the total is the sum up to the greatest number of 64 bits.
use Rattle.code_file.proofs.Sums.{locations_end}
use Rattle.code_file.proofs.count.locations.Goals as goal

pub returns : goal.returns
returns c = locations_end c.loop-var.total c.args.vars.now c.loop-var.var-index c.loop-var-test.false
    c.loop-var.invariant.fits c.loop-var.invariant.total
