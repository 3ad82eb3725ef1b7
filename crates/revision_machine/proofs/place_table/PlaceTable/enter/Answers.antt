-- Answers of PlaceTable::enter: the map updated at the path's numbers is the table in which the path has this place.
use Rattle.std.proofs.Common.{subst, ◌∙◌}
use Rattle.revision_machine.specs.PathIndex.{IsEntered}
use Rattle.revision_machine.proofs.PathIndex.{entered}
use Rattle.revision_machine.proofs.place_table.PlaceTable.enter.Goals as goal

pub returns-clause-ok : goal.returns-clause-ok
returns-clause-ok c =
    subst (λ p. IsEntered c.args.self.now.map c.insert.new.self p c.args.place)
    (c.in_ok-key.ensures.items ∙ c.numbers.ensures)
    (entered c.args.self.now.map c.insert.new.self c.in_ok-key.key c.args.place c.in_ok-insert.ensures.updates)
