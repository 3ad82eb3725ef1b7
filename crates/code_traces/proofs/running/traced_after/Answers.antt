-- Answers of traced_after: main's end and the births give the outcome, and the births and notes the trace.
use Rattle.std.proofs.Common.{List, sym, subst}
use Rattle.revision_machine.specs.Machine.{Plain}
use Rattle.revision_machine.specs.Numbered.{paths_of}
use Rattle.code_world.specs.declared.table.Birth.{Birth}
use Rattle.code_world.specs.Endings.{Names}
use Rattle.rev_vm.specs.Starts.{run_under}
use Rattle.code_runs.proofs.Completing.{over, twice, left_by, main_shows}
use Rattle.code_traces.proofs.Tracing.{none_traced, some_traced, noted_here, over_here, distinct_here, ended_here}
use Rattle.code_traces.proofs.running.traced_after.Goals as goal

pub into_main-requires : goal.into_main-requires
into_main-requires c =
    let a = c.requires.over in
    let g = run_under c.args.setting.now in
    (g, a.1.after.world, a.1.after.stands, over g c.args.setting.now.faultless a.0 c.args.world a.1.after)

pub trace_of-requires-clause-names : goal.trace_of-requires-clause-names
trace_of-requires-clause-names c =
    let a = c.requires.over in
    let g = run_under c.args.setting.now in
    let ok = c.args.setting.now.faultless in
    let left = c.into_main.ensures g a.1.after.world a.1.after.stands (over g ok a.0 c.args.world a.1.after) in
    let k = left_by g ok a.0 c.args.world a.1.after c.into_main.result left c.in-Some.field-0 c.in-Some.is in
    (paths_of k.0, subst (λ (bs : List Birth). Names bs (paths_of k.0)) (sym c.as_slice-births.ensures.value) k.2.names)

pub trace_of-requires-clause-ended : goal.trace_of-requires-clause-ended
trace_of-requires-clause-ended c =
    let a = c.requires.over in
    let g = run_under c.args.setting.now in
    let ok = c.args.setting.now.faultless in
    let left = c.into_main.ensures g a.1.after.world a.1.after.stands (over g ok a.0 c.args.world a.1.after) in
    let k = left_by g ok a.0 c.args.world a.1.after c.into_main.result left c.in-Some.field-0 c.in-Some.is in
    ended_here g ok a.0 c.args.world c.args.notes.items a.1 k.0 k.1

pub outcome_of-requires-clause-named : goal.outcome_of-requires-clause-named
outcome_of-requires-clause-named c =
    let a = c.requires.over in
    let g = run_under c.args.setting.now in
    let ok = c.args.setting.now.faultless in
    let left = c.into_main.ensures g a.1.after.world a.1.after.stands (over g ok a.0 c.args.world a.1.after) in
    let k = left_by g ok a.0 c.args.world a.1.after c.into_main.result left c.in-Some.field-0 c.in-Some.is in
    (paths_of k.0, subst (λ (bs : List Birth). Names bs (paths_of k.0)) (sym c.as_slice-births.ensures.value) k.2.names)

pub outcome_of-requires-clause-ended : goal.outcome_of-requires-clause-ended
outcome_of-requires-clause-ended c =
    let a = c.requires.over in
    let g = run_under c.args.setting.now in
    let ok = c.args.setting.now.faultless in
    let left = c.into_main.ensures g a.1.after.world a.1.after.stands (over g ok a.0 c.args.world a.1.after) in
    let k = left_by g ok a.0 c.args.world a.1.after c.into_main.result left c.in-Some.field-0 c.in-Some.is in
    (k.2.local, k.2.end)

pub returns-in-None-clause-outcome : goal.returns-in-None-clause-outcome
returns-in-None-clause-outcome c = λ fuel a.
    let g = run_under c.args.setting.now in
    let ok = c.args.setting.now.faultless in
    twice g ok fuel c.args.world a.after c.into_main.result
    (c.into_main.ensures g a.after.world a.after.stands (over g ok fuel c.args.world a.after)) c.in-None.is

pub returns-in-None-clause-trace : goal.returns-in-None-clause-trace
returns-in-None-clause-trace c = λ fuel a.
    let g = run_under c.args.setting.now in
    let ok = c.args.setting.now.faultless in
    none_traced g ok fuel c.args.world c.args.notes.items a c.into_main.result
    (c.into_main.ensures g a.after.world a.after.stands (over g ok fuel c.args.world a.after)) c.in-None.is

pub returns-in_ok-outcome-in-Some-clause-outcome : goal.returns-in_ok-outcome-in-Some-clause-outcome
returns-in_ok-outcome-in-Some-clause-outcome c = λ fuel a.
    let g = run_under c.args.setting.now in
    let ok = c.args.setting.now.faultless in
    let left = c.into_main.ensures g a.after.world a.after.stands (over g ok fuel c.args.world a.after) in
    main_shows g ok fuel c.args.world a.after c.into_main.result left c.in-Some.field-0 c.in-Some.is
    c.in_ok-outcome-in-Some.outcome
    (λ w k. c.in_ok-outcome-in-Some.ensures.world w _ (Plain k.local) k.there k.end
    (subst (λ (bs : List Birth). Names bs (paths_of w)) (sym c.as_slice-births.ensures.value) k.names))

pub returns-in_ok-outcome-in-Some-clause-trace : goal.returns-in_ok-outcome-in-Some-clause-trace
returns-in_ok-outcome-in-Some-clause-trace c = λ fuel a.
    let g = run_under c.args.setting.now in
    let ok = c.args.setting.now.faultless in
    let ns = c.args.notes.items in
    let left = c.into_main.ensures g a.after.world a.after.stands (over g ok fuel c.args.world a.after) in
    let k = left_by g ok fuel c.args.world a.after c.into_main.result left c.in-Some.field-0 c.in-Some.is in
    some_traced g ok fuel c.args.world ns a k.0 k.1 c.in_ok-trace-in-Some.trace
    (c.in_ok-trace-in-Some.ensures k.0
    (subst (λ (bs : List Birth). Names bs (paths_of k.0)) (sym c.as_slice-births.ensures.value) k.2.names)
    (noted_here g ok fuel c.args.world ns a k.0 k.1) (over_here g ok fuel c.args.world ns a k.0 k.1)
    (distinct_here g ok fuel c.args.world ns a k.0 k.1))
