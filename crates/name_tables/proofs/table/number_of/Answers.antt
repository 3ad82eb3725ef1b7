-- Answers of number_of: each byte is one more digit, for which there is room.
use Rattle.std.proofs.Common.{ℕ, ◌-◌, ◌<◌, sym, subst, arith}
use Rattle.std.proofs.lemmas.Grind.{common_steps}
use Rattle.name_tables.proofs.Tables.{number_room, number_step}
use Rattle.name_tables.proofs.table.number_of.Goals as goal

pub with_byte-found-requires : goal.with_byte-found-requires
with_byte-found-requires c =
    subst (λ (v : ℕ). v < 72057594037927936) (sym c.loop-left.invariant.1)
    (number_room c.args.name.now c.loop-left.left (λ i. (c.type_inv.name i).fits) (omega arith) (omega arith))

pub loop-left-preserved : goal.loop-left-preserved
loop-left-preserved c =
    let h = number_step c.args.name.now (c.loop-left.left - 1) (omega arith) in
    grind (arith, common_steps, h)
