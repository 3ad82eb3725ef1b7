-- Answers of Draft::take_behind: a line that was printed makes the text longer, and any other can only be a head.
use Rattle.std.proofs.Common.{◌≡◌, ◌++◌, ◌∷◌, [], ◌∙◌, sym, ap, subst, append_assoc}
use Rattle.std.proofs.lemmas.Result.{IfOk-weaker}
use Rattle.trace_diagram.specs.Drafts.{IsLonger, partial_of}
use Rattle.trace_diagram.specs.Traces.{ended}
use Rattle.trace_diagram.proofs.Partials.{behind_head, quote_extends}
use Rattle.trace_diagram.proofs.draft.Draft.take_behind.Goals as goal

pub returns-in_ok-push-in-Some : goal.returns-in_ok-push-in-Some
returns-in_ok-push-in-Some c =
    let is : c.args.self.text.items ++ ended c.in-Some.text.now ≡ c.push.new.self.items =
    sym (c.in_ok-push-in-Some.ensures.items ∙ ap (λ t. t ++ 10 ∷ []) c.in_ok-extend_from_slice-in-Some.ensures.items
    ∙ append_assoc c.args.self.text.items c.in-Some.text.now (10 ∷ [])) in
    subst (λ t. IsLonger c.args.line.now (partial_of c.args.self) (record (partial_of c.args.self) { text = t })) is
    (quote_extends (partial_of c.args.self) c.in-Some.text.now c.args.line.now c.requires.form c.requires.closed
    c.in-Some.ensures)

pub returns-in-None : goal.returns-in-None
returns-in-None c =
    IfOk-weaker c.take_head.result _ _ (λ o. behind_head c.args.line.now (partial_of c.args.self) o c.in-None.ensures)
    c.take_head.ensures
