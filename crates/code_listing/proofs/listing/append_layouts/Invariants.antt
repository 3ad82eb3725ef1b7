-- Loops of append_layouts: the output so far, with the numbered lines of the layouts left, is the whole output.
use Rattle.std.proofs.Common.{◌≡◌, ◌++◌, drop}
use Rattle.code_listing.specs.Listing.{layout_line, numbered}
use Rattle.code_listing.proofs.listing.append_layouts.Given as goal

abbrev pub invariant-loop-n : goal.invariant-loop-n
invariant-loop-n l =
    l.out.items ++ numbered layout_line l.n (drop l.n l.layouts) ≡ l.fn.out.items ++ numbered layout_line 0 l.layouts
