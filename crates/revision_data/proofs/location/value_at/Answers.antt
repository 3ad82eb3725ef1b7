-- Answers of value_at: a number inside of the list shows the view of that location, and one outside shows 0.
use Rattle.std.proofs.Common.{◌∙◌}
use Rattle.revision_data.proofs.Lists.{seen_in, seen_out}
use Rattle.revision_data.proofs.location.value_at.Goals as goal

pub returns-in-Some : goal.returns-in-Some
returns-in-Some c =
    let h = c.in-Some.ensures.lookup in
    c.view.ensures ∙ seen_in c.args.locations.now c.args.number c.in-Some.location.now h.3.0 h.1

pub returns-in-None : goal.returns-in-None
returns-in-None c = seen_out c.args.locations.now c.args.number c.in-None.ensures.lookup.3
