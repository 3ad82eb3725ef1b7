-- Loops of append_vars: the output so far, with the numbered lines of the variables left, is the whole output.
use Rattle.std.proofs.Common.{◌≡◌, ◌++◌, drop}
use Rattle.code_listing.specs.Listing.{var_line, numbered}
use Rattle.code_listing.proofs.listing.append_vars.Given as goal

abbrev pub invariant-loop-n : goal.invariant-loop-n
invariant-loop-n l =
    l.out.items ++ numbered var_line l.n (drop l.n l.vars) ≡ l.fn.out.items ++ numbered var_line 0 l.vars
