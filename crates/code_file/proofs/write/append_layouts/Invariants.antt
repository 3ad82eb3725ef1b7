-- Loops of append_layouts: the output is what it was, followed by the bytes of the layouts so far.
use Rattle.std.proofs.Common.{◌≡◌, ◌++◌, take}
use Rattle.std.specs.List.{flat_map}
use Rattle.code_file.specs.Files.{layout_bytes}
use Rattle.code_file.proofs.write.append_layouts.Given as goal

abbrev pub invariant-loop-layout : goal.invariant-loop-layout
invariant-loop-layout l = l.out.items ≡ l.fn.out.items ++ flat_map layout_bytes (take l.layout-index l.layouts)
