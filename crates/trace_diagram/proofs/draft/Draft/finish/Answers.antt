-- Answers of Draft::finish: the path of main comes last, and what closes under it is a trace, and no other draft is.
use Rattle.std.proofs.Common.{◌∙◌, sym, ap, subst, length}
use Rattle.std.specs.Prelude.{◌==◌}
use Rattle.trace_diagram.specs.Drafts.{IsClosedTo, partial_of}
use Rattle.trace_diagram.proofs.Partials.{empty_if, finished, full_if, stops_main}
use Rattle.trace_diagram.proofs.draft.Draft.finish.Goals as goal

pub returns-then-not-is_empty : goal.returns-then-not-is_empty
returns-then-not-is_empty c = λ h.
    full_if c.args.self.path
    (sym c.if-not-is_empty.true ∙ c.is_empty.ensures ∙ ap (λ t. length t == 0) c.numbers.ensures)
    (stops_main (partial_of c.args.self) h)

pub returns-in-Some : goal.returns-in-Some
returns-in-Some c =
    let closed = rw c.in-Some.is at c.in_ok-parts.ensures in
    finished (partial_of c.args.self) _ c.requires
    (empty_if c.args.self.path
    (sym c.if-not-is_empty.false ∙ c.is_empty.ensures ∙ ap (λ t. length t == 0) c.numbers.ensures))
    (subst (IsClosedTo (partial_of c.args.self)) (sym c.from_vec.ensures) closed)
