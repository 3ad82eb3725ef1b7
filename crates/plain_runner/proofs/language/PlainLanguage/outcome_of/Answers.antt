-- Answers of PlainLanguage::outcome_of: main is the one revision at the root's path, so its end is the outcome.
use Rattle.std.proofs.Common.{◌∙◌, sym, ap, subst}
use Rattle.std.proofs.lemmas.Result.{IfOk-weaker}
use Rattle.revision_machine.specs.ListStep.{IsAt}
use Rattle.revision_machine.specs.States.{global_of}
use Rattle.revision_calculus.specs.Outcome as calculus
use Rattle.plain_runner.specs.Views.{setting_of}
use Rattle.plain_runner.proofs.Ending.{by_main}
use Rattle.plain_runner.proofs.language.PlainLanguage.outcome_of.Goals as goal

pub returns : goal.returns
returns c =
    let s = setting_of c.args.self.now in
    let list = c.in-Live.revisions.list.items in
    let at = subst (λ p. IsAt list c.in-Some.i p) c.root.ensures c.in-Some.ensures in
    let known =
    by_main s list c.in-Some.i c.swap_remove-main.result c.in-Live.revisions.distinct at
    c.swap_remove-main.ensures.value in
    let live = ap (λ g. calculus.outcome s (global_of g)) (sym c.in-Live.is) in
    IfOk-weaker c.end_of.result _ _ (λ o e. e ∙ known ∙ live) c.end_of.ensures
