-- Loops of append_texts: the output so far, with the numbered lines of the texts left, is the whole output.
use Rattle.std.proofs.Common.{◌≡◌, ◌++◌, drop}
use Rattle.code_listing.specs.Listing.{text_line, numbered}
use Rattle.code_listing.proofs.listing.append_texts.Given as goal

abbrev pub invariant-loop-n : goal.invariant-loop-n
invariant-loop-n l =
    l.out.items ++ numbered text_line l.n (drop l.n l.texts) ≡ l.fn.out.items ++ numbered text_line 0 l.texts
