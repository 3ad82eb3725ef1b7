-- Loops of append_locals: the output is what it was, followed by the words for the kinds of the locals so far.
use Rattle.std.proofs.Common.{◌≡◌, ◌++◌, take}
use Rattle.std.specs.List.{flat_map}
use Rattle.code_listing.specs.Listing.{local_text}
use Rattle.code_listing.proofs.listing.append_locals.Given as goal

abbrev pub invariant-loop-kind : goal.invariant-loop-kind
invariant-loop-kind l = l.out.items ≡ l.fn.out.items ++ flat_map local_text (take l.kind-index l.kinds)
