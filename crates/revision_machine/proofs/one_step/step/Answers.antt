-- Answers of step: the table has the place of the path, and what the step there does it does to the whole state.
use Rattle.std.proofs.Common.{◌+◌, ◌∙◌, refl, sym, ap, subst}
use Rattle.revision_machine.specs.Machine.{Live}
use Rattle.revision_machine.specs.declared.one_step.StepOutcome.TheVariants as outcome
use Rattle.revision_machine.specs.Rules.{machine_of}
use Rattle.revision_machine.specs.RevisionList.{globe}
use Rattle.revision_machine.specs.States.{global_of, global_after}
use Rattle.revision_machine.specs.StepOutcomes.{IsReached, Tells}
use Rattle.revision_machine.specs.ListStep.{Does}
use Rattle.revision_machine.proofs.PathIndex.{found_at, not_found}
use Rattle.revision_machine.proofs.Steps.{revision_at}
use Rattle.revision_machine.proofs.Exact.{exact, told, after_told}
use Rattle.revision_machine.proofs.Reached.{steps_on}
use Rattle.revision_machine.proofs.one_step.step.Goals as goal

pub returns-clause-answers : goal.returns-clause-answers
returns-clause-answers g c =
    let M = machine_of (g.L.Language.rules c.args.language.now) in
    let there =
    found_at c.in-Live.live.places.map c.in-Live.live.list.items c.args.path.now c.in-Some.i c.in-Live.live.indexed
    (sym c.find.ensures ∙ c.in-Some.is) in
    let old = c.in-Live.live.list.items in
    let new = c.step_at.new.list.items in
    let a = c.in_ok-outcome.outcome in
    let x = revision_at old c.in-Some.i there.within in
    let tells =
    told M a c.args.path.now old new
    (subst (λ v. Does M a v old new) (there.path x.0) (c.in_ok-outcome.ensures.step x.0)) in
    exact M a c.args.path.now (global_of c.args.state) (global_of c.state_after.result)
    (subst (λ v. Tells M a c.args.path.now v (global_of c.state_after.result)) (sym (ap global_of c.in-Live.is))
    (subst (Tells M a c.args.path.now (Live (globe old))) (sym c.state_after.ensures) tells))

pub returns-clause-reached : goal.returns-clause-reached
returns-clause-reached g c =
    let M = machine_of (g.L.Language.rules c.args.language.now) in
    let there =
    found_at c.in-Live.live.places.map c.in-Live.live.list.items c.args.path.now c.in-Some.i c.in-Live.live.indexed
    (sym c.find.ensures ∙ c.in-Some.is) in
    let old = c.in-Live.live.list.items in
    let new = c.step_at.new.list.items in
    let a = c.in_ok-outcome.outcome in
    let x = revision_at old c.in-Some.i there.within in
    let tells =
    told M a c.args.path.now old new
    (subst (λ v. Does M a v old new) (there.path x.0) (c.in_ok-outcome.ensures.step x.0)) in
    let Within =
    IsReached M (g.L.Language.rules c.args.language.now).holds
    (λ l. M.forks l + (g.L.Language.rules c.args.language.now).weight l)
    (g.L.Language.rules c.args.language.now).limit in
    let before = subst Within (ap global_of c.in-Live.is) c.requires in
    subst Within (sym c.state_after.ensures)
    (after_told M Within a c.args.path.now (Live (globe old)) (global_after a new) before
    (λ k s. steps_on M (g.L.Language.rules c.args.language.now).holds (g.L.Language.rules c.args.language.now).weight
    (g.L.Language.rules c.args.language.now).limit (g.met.L.Language.keeps c.args.language.now).counts
    (g.met.L.Language.keeps c.args.language.now).handles (g.met.L.Language.keeps c.args.language.now).spends
    c.args.path.now (Live (globe old)) k before s)
    tells)

pub step_at-requires-clause-within : goal.step_at-requires-clause-within
step_at-requires-clause-within g c =
    let there =
    found_at c.in-Live.live.places.map c.in-Live.live.list.items c.args.path.now c.in-Some.i c.in-Live.live.indexed
    (sym c.find.ensures ∙ c.in-Some.is) in
    there.within

pub returns-in-None-clause-answers : goal.returns-in-None-clause-answers
returns-in-None-clause-answers g c =
    let M = machine_of (g.L.Language.rules c.args.language.now) in
    let old = c.in-Live.live.list.items in
    let out =
    not_found c.in-Live.live.places.map old c.args.path.now c.in-Live.live.indexed
    (sym c.find.ensures ∙ c.in-None.is) in
    exact M outcome.NoSuch c.args.path.now (global_of c.args.state) (Live (globe old))
    (subst (λ v. Tells M outcome.NoSuch c.args.path.now v (Live (globe old))) (sym (ap global_of c.in-Live.is))
    (out, refl))
