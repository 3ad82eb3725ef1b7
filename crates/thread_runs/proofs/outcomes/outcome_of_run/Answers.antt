-- Answers of outcome_of_run: a run without a halt leaves forkers in order and main's end, which give the outcome.
use Rattle.std.proofs.Common.{◌∙◌, length, sym, ap, subst, arith}
use Rattle.revision_machine.specs.Machine.{Plain}
use Rattle.revision_machine.specs.Numbered.{at_number, paths_of}
use Rattle.rev_vm.specs.Meaning.{IsEnd}
use Rattle.rev_vm.specs.Starts.{run_under}
use Rattle.turn_hub.specs.Names.{run_schedule, run_forkers, run_ends}
use Rattle.thread_runs.specs.Births.{AreBirths, AreEarlier}
use Rattle.thread_runs.proofs.Mains.{left_of, twice_of, end_of_main, shown}
use Rattle.thread_runs.proofs.outcomes.outcome_of_run.Goals as goal

pub unreachable-requires : goal.unreachable-requires
unreachable-requires g c = c.requires.run.1.known (sym c.state.ensures ∙ c.in-NoMemory.is)

pub unreachable-unreachable : goal.unreachable-unreachable
unreachable-unreachable g c = c.requires.run.1.known (sym c.state.ensures ∙ c.in-NoMemory.is)

pub births_of-requires-clause-first : goal.births_of-requires-clause-first
births_of-requires-clause-first g c =
    let l = left_of (run_under c.args.setting.now) c.requires.run.0 c.args.run.now c.requires.run.1
    (sym c.state.ensures ∙ c.in-All.is) in
    ap (λ fs. at_number fs 0) c.forkers.ensures ∙ l.forked.first

pub births_of-requires-clause-earlier : goal.births_of-requires-clause-earlier
births_of-requires-clause-earlier g c =
    let l = left_of (run_under c.args.setting.now) c.requires.run.0 c.args.run.now c.requires.run.1
    (sym c.state.ensures ∙ c.in-All.is) in
    subst AreEarlier (sym c.forkers.ensures) l.earlier

pub births_of-requires-clause-few : goal.births_of-requires-clause-few
births_of-requires-clause-few g c =
    let l = left_of (run_under c.args.setting.now) c.requires.run.0 c.args.run.now c.requires.run.1
    (sym c.state.ensures ∙ c.in-All.is) in
    let few = l.few in
    let same = ap length c.forkers.ensures in
    omega (arith, few, same)

pub main_end-left-requires : goal.main_end-left-requires
main_end-left-requires g c =
    let l = left_of (run_under c.args.setting.now) c.requires.run.0 c.args.run.now c.requires.run.1
    (sym c.state.ensures ∙ c.in-All.is) in
    (l.end, ap (λ es. at_number es 0) c.ends.ensures ∙ l.ends)

pub outcome_of-requires-clause-named : goal.outcome_of-requires-clause-named
outcome_of-requires-clause-named g c =
    let l = left_of (run_under c.args.setting.now) c.requires.run.0 c.args.run.now c.requires.run.1
    (sym c.state.ensures ∙ c.in-All.is) in (
      paths_of l.world,
      l.names c.as_slice.result.now
          (subst (λ bs. AreBirths (run_forkers c.args.run.now) bs) (sym c.as_slice.ensures.value)
          (subst (λ fs. AreBirths fs c.in_ok-births-in-All.births.items) c.forkers.ensures
          c.in_ok-births-in-All.ensures)),
    )

pub outcome_of-requires-clause-ended : goal.outcome_of-requires-clause-ended
outcome_of-requires-clause-ended g c =
    let l = left_of (run_under c.args.setting.now) c.requires.run.0 c.args.run.now c.requires.run.1
    (sym c.state.ensures ∙ c.in-All.is) in (
      l.local,
      end_of_main (run_under c.args.setting.now) c.requires.run.0 (run_schedule c.args.run.now)
          (run_forkers c.args.run.now) (run_ends c.args.run.now) l
          c.main_end-left.result.now c.in_ok-end-in-All.end
          (ap (λ es. at_number es 0) (sym c.ends.ensures) ∙ c.main_end-left.ensures)
          (subst (IsEnd c.main_end-left.result.now.run c.main_end-left.result.now.left) (sym c.in_ok-end-in-All.ensures)
          c.value.ensures),
    )

pub returns-in-Twice : goal.returns-in-Twice
returns-in-Twice g c = λ fuel is.
    twice_of (run_under c.args.setting.now) fuel c.args.run.now is (sym c.state.ensures ∙ c.in-Twice.is)

pub returns-in_ok-outcome-in-All : goal.returns-in_ok-outcome-in-All
returns-in_ok-outcome-in-All g c = λ fuel is.
    let l = left_of (run_under c.args.setting.now) fuel c.args.run.now is (sym c.state.ensures ∙ c.in-All.is) in
    shown (run_under c.args.setting.now) fuel (run_schedule c.args.run.now) (run_forkers c.args.run.now)
    (run_ends c.args.run.now) l c.args.setting.now.faultless c.in_ok-outcome-in-All.outcome
    (c.in_ok-outcome-in-All.ensures.world l.world _ (Plain l.local) l.there
    (end_of_main (run_under c.args.setting.now) fuel (run_schedule c.args.run.now) (run_forkers c.args.run.now)
    (run_ends c.args.run.now) l
    c.main_end-left.result.now c.in_ok-end-in-All.end
    (ap (λ es. at_number es 0) (sym c.ends.ensures) ∙ c.main_end-left.ensures)
    (subst (IsEnd c.main_end-left.result.now.run c.main_end-left.result.now.left) (sym c.in_ok-end-in-All.ensures)
    c.value.ensures))
    (l.names c.as_slice.result.now
    (subst (λ bs. AreBirths (run_forkers c.args.run.now) bs) (sym c.as_slice.ensures.value)
    (subst (λ fs. AreBirths fs c.in_ok-births-in-All.births.items) c.forkers.ensures c.in_ok-births-in-All.ensures))))
