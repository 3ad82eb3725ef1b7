-- Answers of Table::run: the runner taken from its slot advances as its revision's leg, and what comes is put back.
use Rattle.std.proofs.Common.{◌∙◌, arith}
use Rattle.rev_vm.specs.Starts.{run_under}
use Rattle.code_world.proofs.Turning.{many_slots, runner}
use Rattle.code_world.proofs.table.Table.run.Goals as goal

pub overflow_cast-child : goal.overflow_cast-child
overflow_cast-child g c =
    let a = many_slots (run_under c.args.setting.now) c.args.self.now c.requires.runs.0 c.requires.runs.1
    c.args.number in
    let b = c.len-child.ensures ∙ c.args.self.now.slots.ok.0 in omega (arith, a, b)

pub take_runner-runner-requires : goal.take_runner-runner-requires
take_runner-runner-requires g c = c.requires.running

pub advance-requires : goal.advance-requires
advance-requires g c =
    let k = runner (run_under c.args.setting.now) c.args.self.now c.requires.runs.0 c.requires.runs.1 c.args.number
    c.take_runner-runner.result c.take_runner-runner.ensures.was in
    record { stands = (k.state, k.runs) }

pub come-requires : goal.come-requires
come-requires g c = (
  run_under c.args.setting.now,
  c.args.self.now,
  c.requires.runs.0,
  record {
    good = c.requires.runs.1;
    runner = c.take_runner-runner.result;
    there = c.take_runner-runner.ensures.was;
    taken = c.take_runner-runner.ensures.now;
    births = c.take_runner-runner.ensures.births;
    next = c.len-child.ensures ∙ c.args.self.now.slots.ok.0;
    comes = λ d runs. c.in_ok-came.ensures d runs;
  },
  c.requires.size,
)

pub returns-clause-answer : goal.returns-clause-answer
returns-clause-answer g c = λ w good.
    c.come.ensures.answer (run_under c.args.setting.now) c.args.self.now w (record {
      good = good;
      runner = c.take_runner-runner.result;
      there = c.take_runner-runner.ensures.was;
      taken = c.take_runner-runner.ensures.now;
      births = c.take_runner-runner.ensures.births;
      next = c.len-child.ensures ∙ c.args.self.now.slots.ok.0;
      comes = λ d runs. c.in_ok-came.ensures d runs;
    }) c.requires.merges

pub returns-clause-noted : goal.returns-clause-noted
returns-clause-noted g c = λ w good.
    c.come.ensures.noted (run_under c.args.setting.now) c.args.self.now w (record {
      good = good;
      runner = c.take_runner-runner.result;
      there = c.take_runner-runner.ensures.was;
      taken = c.take_runner-runner.ensures.now;
      births = c.take_runner-runner.ensures.births;
      next = c.len-child.ensures ∙ c.args.self.now.slots.ok.0;
      comes = λ d runs. c.in_ok-came.ensures d runs;
    })

pub returns-clause-touches : goal.returns-clause-touches
returns-clause-touches g c =
    c.come.ensures.touches (run_under c.args.setting.now) c.args.self.now c.requires.runs.0 (record {
      good = c.requires.runs.1;
      runner = c.take_runner-runner.result;
      there = c.take_runner-runner.ensures.was;
      taken = c.take_runner-runner.ensures.now;
      births = c.take_runner-runner.ensures.births;
      next = c.len-child.ensures ∙ c.args.self.now.slots.ok.0;
      comes = λ d runs. c.in_ok-came.ensures d runs;
    })
