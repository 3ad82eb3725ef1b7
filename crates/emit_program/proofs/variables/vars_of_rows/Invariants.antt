-- Loops of vars_of_rows: the variables so far, with those of the rows left, are the variables of all rows.
use Rattle.std.proofs.Common.{◌≡◌, ◌++◌, drop, map}
use Rattle.rev_syntax.specs.View.{declaration}
use Rattle.emit_program.specs.Variables.{vars_in}
use Rattle.emit_program.proofs.variables.vars_of_rows.Given as goal

abbrev pub invariant-loop-info : goal.invariant-loop-info
invariant-loop-info l =
    l.vars.items ++ vars_in l.blocks.merges.items l.blocks.next (map declaration l.decls) (drop l.info-index l.rows)
    ≡ vars_in l.blocks.merges.items l.blocks.next (map declaration l.decls) l.rows
