-- Loops of are_digits: whether all bytes are digits is whether those left are.
use Rattle.std.proofs.Common.{◌≡◌, drop}
use Rattle.std.specs.List.{list_all}
use Rattle.rev_syntax.specs.Bytes.{is_digit}
use Rattle.trace_diagram.proofs.places.are_digits.Given as goal

abbrev pub invariant-loop-b : goal.invariant-loop-b
invariant-loop-b l = list_all is_digit l.bytes ≡ list_all is_digit (drop l.b-index l.bytes)
