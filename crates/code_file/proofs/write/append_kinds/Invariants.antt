-- Loops of append_kinds: the output is what it was, followed by a kind byte for each local so far.
use Rattle.std.proofs.Common.{◌≡◌, ◌++◌, take, map}
use Rattle.code_file.specs.Files.{kind_byte}
use Rattle.code_file.proofs.write.append_kinds.Given as goal

abbrev pub invariant-loop-kind : goal.invariant-loop-kind
invariant-loop-kind l = l.out.items ≡ l.fn.out.items ++ map kind_byte (take l.kind-index l.kinds)
