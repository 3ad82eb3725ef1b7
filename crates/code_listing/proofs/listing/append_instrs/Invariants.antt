-- Loops of append_instrs: the output so far, with the numbered lines of the instructions left, is the whole output.
use Rattle.std.proofs.Common.{◌≡◌, ◌++◌, drop}
use Rattle.code_listing.specs.Listing.{instr_line, numbered}
use Rattle.code_listing.proofs.listing.append_instrs.Given as goal

abbrev pub invariant-loop-n : goal.invariant-loop-n
invariant-loop-n l =
    l.out.items ++ numbered instr_line l.n (drop l.n l.instrs) ≡ l.fn.out.items ++ numbered instr_line 0 l.instrs
