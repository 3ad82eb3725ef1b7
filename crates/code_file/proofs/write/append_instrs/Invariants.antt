-- Loops of append_instrs: the output is what it was, followed by the bytes of the instructions so far.
use Rattle.std.proofs.Common.{◌≡◌, ◌++◌, take}
use Rattle.std.specs.List.{flat_map}
use Rattle.code_file.specs.Files.{instr_bytes}
use Rattle.code_file.proofs.write.append_instrs.Given as goal

abbrev pub invariant-loop-instr : goal.invariant-loop-instr
invariant-loop-instr l = l.out.items ≡ l.fn.out.items ++ flat_map instr_bytes (take l.instr-index l.instrs)
