-- Answers of enter: an insert in the map by the numbers of a path enters that path, and leaves all others.
use Rattle.std.proofs.Common.{subst, ◌∙◌}
use Rattle.revision_machine.specs.PathIndex.{IsEntered}
use Rattle.revision_machine.proofs.PathIndex.{entered}
use Rattle.rev_record.proofs.memo.enter.Goals as goal

pub returns : goal.returns
returns c =
    subst (λ p. IsEntered c.args.places.now c.insert.new.self p c.args.place)
    (c.in_ok-key.ensures.items ∙ c.numbers.ensures)
    (entered c.args.places.now c.insert.new.self c.in_ok-key.key c.args.place c.in_ok-insert.ensures.updates)
