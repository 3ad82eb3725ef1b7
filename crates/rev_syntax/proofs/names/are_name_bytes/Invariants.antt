-- Loops of are_name_bytes: whether all bytes may stand in a name is whether those left may.
use Rattle.std.proofs.Common.{◌≡◌, drop}
use Rattle.std.specs.List.{list_all}
use Rattle.rev_syntax.specs.Bytes.{is_name_byte}
use Rattle.rev_syntax.proofs.names.are_name_bytes.Given as goal

abbrev pub invariant-loop-b : goal.invariant-loop-b
invariant-loop-b l = list_all is_name_byte l.text ≡ list_all is_name_byte (drop l.b-index l.text)
