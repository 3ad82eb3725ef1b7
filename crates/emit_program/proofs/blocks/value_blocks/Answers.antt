-- Answers of value_blocks: there are few funs and merges, and none is left at last, so the next number counts them.
use Rattle.std.proofs.Common.{◌++◌, map, ap, arith}
use Rattle.std.proofs.lemmas.List.{at_drop_all}
use Rattle.rev_syntax.specs.View.{declaration}
use Rattle.emit_program.specs.Numbering.{merges_from, value_total}
use Rattle.emit_program.proofs.Numbered.{values_counted}
use Rattle.emit_program.proofs.blocks.value_blocks.Goals as goal

pub loop-d-init : goal.loop-d-init
loop-d-init c =
    let counted = values_counted (map declaration c.args.decls.now) in
    let few = c.requires in
    record {
      merges = ap (λ l. l ++ merges_from 0 (map declaration c.args.decls.now)) c.new.ensures.items;
      next = omega arith;
      room = omega (arith, counted, few);
    }

pub returns-clause-next : goal.returns-clause-next
returns-clause-next c =
    let all = map declaration c.args.decls.now in
    let counted = values_counted all in
    let behind = c.loop-d.invariant.next in
    let none =
    at_drop_all (λ l. value_total (map declaration l)) c.args.decls.now c.loop-d.d-index c.loop-d-test.false in
    omega (arith, counted, behind, none)
