-- Answers of outcome_after: after a complete schedule main has ended or it is Twice, and that gives the outcome.
use Rattle.std.proofs.Common.{List, sym, subst}
use Rattle.revision_machine.specs.Machine.{Plain}
use Rattle.revision_machine.specs.Numbered.{paths_of}
use Rattle.code_world.specs.declared.table.Birth.{Birth}
use Rattle.code_world.specs.Endings.{Names}
use Rattle.rev_vm.specs.Starts.{run_under}
use Rattle.code_runs.proofs.Completing.{over, twice, left_by, main_shows}
use Rattle.code_runs.proofs.after.outcome_after.Goals as goal

pub into_main-requires : goal.into_main-requires
into_main-requires c =
    let a = c.requires.over in
    let g = run_under c.args.setting.now in
    (g, a.1.world, a.1.stands, over g c.args.setting.now.faultless a.0 c.args.world a.1)

pub outcome_of-requires-clause-named : goal.outcome_of-requires-clause-named
outcome_of-requires-clause-named c =
    let a = c.requires.over in
    let g = run_under c.args.setting.now in
    let ok = c.args.setting.now.faultless in
    let left = c.into_main.ensures g a.1.world a.1.stands (over g ok a.0 c.args.world a.1) in
    let k = left_by g ok a.0 c.args.world a.1 c.into_main.result left c.in-Some.field-0 c.in-Some.is in
    (paths_of k.0, subst (λ (bs : List Birth). Names bs (paths_of k.0)) (sym c.as_slice.ensures.value) k.2.names)

pub outcome_of-requires-clause-ended : goal.outcome_of-requires-clause-ended
outcome_of-requires-clause-ended c =
    let a = c.requires.over in
    let g = run_under c.args.setting.now in
    let ok = c.args.setting.now.faultless in
    let left = c.into_main.ensures g a.1.world a.1.stands (over g ok a.0 c.args.world a.1) in
    let k = left_by g ok a.0 c.args.world a.1 c.into_main.result left c.in-Some.field-0 c.in-Some.is in
    (k.2.local, k.2.end)

pub returns-in-None : goal.returns-in-None
returns-in-None c = λ fuel a.
    let g = run_under c.args.setting.now in
    let ok = c.args.setting.now.faultless in
    twice g ok fuel c.args.world a c.into_main.result
    (c.into_main.ensures g a.world a.stands (over g ok fuel c.args.world a)) c.in-None.is

pub returns-in_ok-outcome-in-Some : goal.returns-in_ok-outcome-in-Some
returns-in_ok-outcome-in-Some c = λ fuel a.
    let g = run_under c.args.setting.now in
    let ok = c.args.setting.now.faultless in
    let left = c.into_main.ensures g a.world a.stands (over g ok fuel c.args.world a) in
    main_shows g ok fuel c.args.world a c.into_main.result left c.in-Some.field-0 c.in-Some.is
    c.in_ok-outcome-in-Some.outcome
    (λ w k. c.in_ok-outcome-in-Some.ensures.world w _ (Plain k.local) k.there k.end
    (subst (λ (bs : List Birth). Names bs (paths_of w)) (sym c.as_slice.ensures.value) k.names))
