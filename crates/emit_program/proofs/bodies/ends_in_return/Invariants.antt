-- Loops of ends_in_return: whether a return ends the statements left behind the last is whether it ends all.
use Rattle.std.proofs.Common.{◌≡◌, drop}
use Rattle.rev_syntax.specs.View.{stmts}
use Rattle.code_generation.specs.Generated.{ends_in_return}
use Rattle.emit_program.specs.Parts.{ends_behind}
use Rattle.emit_program.proofs.bodies.ends_in_return.Given as goal

abbrev pub invariant-loop-s : goal.invariant-loop-s
invariant-loop-s l = ends_behind l.last (stmts (drop l.s-index l.s-items)) ≡ ends_in_return (stmts l.s-items)
