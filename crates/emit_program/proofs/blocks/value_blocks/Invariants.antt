-- Loops of value_blocks: the merges so far with those left are all, and so with the count, which is small.
use Rattle.std.proofs.Common.{◌≡◌, ◌<◌, ◌+◌, ◌^◌, ◌++◌, drop, map}
use Rattle.rev_syntax.specs.View.{declaration}
use Rattle.emit_program.specs.Numbering.{merges_from, value_total}
use Rattle.emit_program.proofs.blocks.value_blocks.Given as goal

abbrev pub invariant-loop-d : goal.invariant-loop-d
invariant-loop-d l = record {
  merges : l.blocks.merges.items ++ merges_from l.blocks.next (map declaration (drop l.d-index l.decls))
      ≡ merges_from 0 (map declaration l.decls);
  next : l.blocks.next + value_total (map declaration (drop l.d-index l.decls)) ≡ value_total (map declaration l.decls);
  room : value_total (map declaration l.decls) < 2 ^ 16;
}
