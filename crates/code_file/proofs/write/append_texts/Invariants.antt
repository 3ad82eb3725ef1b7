-- Loops of append_texts: the output is what it was, followed by the bytes of the texts so far.
use Rattle.std.proofs.Common.{◌≡◌, ◌++◌, take}
use Rattle.std.specs.List.{flat_map}
use Rattle.code_file.specs.Files.{text_bytes}
use Rattle.code_file.proofs.write.append_texts.Given as goal

abbrev pub invariant-loop-text : goal.invariant-loop-text
invariant-loop-text l = l.out.items ≡ l.fn.out.items ++ flat_map text_bytes (take l.text-index l.texts)
