-- Answers of PathTable::enter: the map updated at the path's numbers is the table in which the path is entered.
use Rattle.std.proofs.Common.{subst, ◌∙◌}
use Rattle.revision_machine.specs.PathIndex.{IsEntered}
use Rattle.revision_machine.proofs.PathIndex.{entered}
use Rattle.stated_parts.proofs.path_table.PathTable.enter.Goals as goal

pub returns : goal.returns
returns c =
    subst (λ p. IsEntered c.args.self.now.map c.insert.new.self p c.args.number)
    (c.in_ok-key.ensures.items ∙ c.numbers.ensures)
    (entered c.args.self.now.map c.insert.new.self c.in_ok-key.key c.args.number c.in_ok-insert.ensures.updates)
