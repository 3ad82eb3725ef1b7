-- Answers of is_cell: bytes behind the closing bracket mean that there is no cell.
use Rattle.std.proofs.Common.{◌∙◌, sym, ap, subst, length}
use Rattle.std.specs.Prelude.{MatchBool, ◌==◌}
use Rattle.std.proofs.lemmas.Bool.{true≢false}
use Rattle.trace_diagram.specs.Places.{HasCell}
use Rattle.trace_diagram.proofs.PlaceForms.{more_behind}
use Rattle.trace_diagram.proofs.places.is_cell.Goals as goal

pub returns-else-is_empty : goal.returns-else-is_empty
returns-else-is_empty c =
    subst (λ t. MatchBool t (HasCell c.args.array.now c.args.cell.now) (HasCell c.args.array.now c.args.cell.now → ⊥))
    (sym c.if-is_empty.false)
    (more_behind _ _ _ _ c.in-Some.ensures
    (λ none. let full = c.if-is_empty.ensures in true≢false (sym (full ∙ ap (λ t. length t == 0) none))))
