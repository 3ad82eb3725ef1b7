-- Answers of Draft::take_more: before any print a write makes the part longer, and else only a print or head does.
use Rattle.std.proofs.Common.{◌∙◌, sym, ap, subst}
use Rattle.std.specs.Prelude.{◌==◌}
use Rattle.trace_diagram.specs.Drafts.{IsLonger, partial_of}
use Rattle.trace_diagram.proofs.Partials.{empty_if, write_extends}
use Rattle.trace_diagram.proofs.draft.Draft.take_more.Goals as goal

pub returns-in_ok-push-in-Some : goal.returns-in_ok-push-in-Some
returns-in_ok-push-in-Some c =
    let change = rw c.in-Some.is at c.in_ok-change.ensures in
    subst (λ ws. IsLonger c.args.line.now (partial_of c.args.self) (record (partial_of c.args.self) { written = ws }))
    (sym c.in_ok-push-in-Some.ensures.items)
    (write_extends (partial_of c.args.self) c.in-Some.change c.args.line.now c.requires.form c.requires.closed
    (empty_if c.args.self.text.items
    (sym c.if-not-is_empty.false ∙ c.is_empty.ensures ∙ ap (λ n. n == 0) c.args.self.text.ok.0))
    change.0 change.1)
