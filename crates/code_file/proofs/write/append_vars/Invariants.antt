-- Loops of append_vars: the output is what it was, followed by the bytes of the variables so far.
use Rattle.std.proofs.Common.{◌≡◌, ◌++◌, take}
use Rattle.std.specs.List.{flat_map}
use Rattle.code_file.specs.Files.{var_bytes}
use Rattle.code_file.proofs.write.append_vars.Given as goal

abbrev pub invariant-loop-var : goal.invariant-loop-var
invariant-loop-var l = l.out.items ≡ l.fn.out.items ++ flat_map var_bytes (take l.var-index l.vars)
