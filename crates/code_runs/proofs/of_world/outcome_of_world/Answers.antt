-- Answers of outcome_of_world: where no leg is left main has ended or it is Twice, and a copy of its end tells.
use Rattle.std.proofs.Common.{◌∙◌, sym, ap, subst}
use Rattle.std.specs.Option.{option_copied}
use Rattle.revision_machine.specs.Laws.{local_of}
use Rattle.rev_vm.specs.Starts.{run_under}
use Rattle.code_machine.specs.Outcome.{outcome}
use Rattle.code_world.specs.Endings.{IsEndAt}
use Rattle.code_world.specs.Tables.{IsWorld}
use Rattle.code_runs.specs.Ends.{IsEndOfMain}
use Rattle.code_runs.proofs.Left.{left_by, none_left}
use Rattle.code_runs.proofs.of_world.outcome_of_world.Goals as goal

pub outcome_of-requires-clause-ended : goal.outcome_of-requires-clause-ended
outcome_of-requires-clause-ended c =
    let q = c.requires.over in
    let s = run_under c.args.setting.now in
    let k = left_by s c.args.setting.now.faultless q.0 q.1 c.in-Some.end.now (c.in-Some.ensures s q.0 q.2) in
    (local_of k.entry, subst (IsEndOfMain s (local_of k.entry)) (sym c.in_ok-end-in-Some.ensures) k.end)

pub returns-in-None : goal.returns-in-None
returns-in-None c = λ w h is over.
    let s = run_under c.args.setting.now in
    none_left s c.args.setting.now.faultless w h over
    (subst (IsEndAt s w 0) (ap option_copied c.in-None.is) (c.end_of.ensures s w is))

pub returns-in_ok-outcome-in-Some : goal.returns-in_ok-outcome-in-Some
returns-in_ok-outcome-in-Some c = λ w h is over.
    let s = run_under c.args.setting.now in
    let k = left_by s c.args.setting.now.faultless w h c.in-Some.end.now (c.in-Some.ensures s w is) in
    ap (outcome s) k.is
    ∙ c.in_ok-outcome-in-Some.ensures.world k.entries k.path k.entry k.there
    (subst (IsEndOfMain s (local_of k.entry)) (sym c.in_ok-end-in-Some.ensures) k.end)
    (c.births.ensures s k.entries (subst (IsWorld s c.args.world.now) k.is is))
