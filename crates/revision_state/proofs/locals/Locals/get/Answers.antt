-- Answers of Locals::get: the local at the place of the name is the first of it, and without a place there is none.
use Rattle.std.proofs.Common.{◌∙◌, sym, ap, get_or, Some}
use Rattle.revision_state.specs.LocalCodes.{Bound}
use Rattle.revision_state.proofs.LocalPlaces.{found, not_found}
use Rattle.revision_state.proofs.locals.Locals.get.Goals as goal

pub returns-in-Some : goal.returns-in-Some
returns-in-Some c =
    ap Some (c.value.ensures
    ∙ ap (λ (t : Bound). t.1) (c.index.ensures ∙ ap (λ es. get_or es c.in-Some.at c.index.result.now) c.self.view_is))
    ∙ found c.args.name.now c.args.self.now c.in-Some.at c.index.result.now (sym c.in-Some.ensures)

pub returns-in-None : goal.returns-in-None
returns-in-None c = not_found c.args.name.now c.args.self.now (sym c.in-None.ensures)
