-- `Table::leg_noting`: as `leg`, and what was noted.
use Rattle.std.proofs.lemmas.Result.{IfOk-weaker}
use Rattle.revision_machine.specs.Numbered.{at_number}
use Rattle.rev_vm.specs.Starts.{run_under}
use Rattle.code_world.proofs.Finding.{stage_running}
use Rattle.code_world.proofs.HasRead.{not_read, read_running}
use Rattle.code_world.proofs.table.Table.leg_noting.Goals as goal

pub run_noting-requires-clause-runs : goal.run_noting-requires-clause-runs
run_noting-requires-clause-runs g c = c.requires.good

pub run_noting-requires-clause-running : goal.run_noting-requires-clause-running
run_noting-requires-clause-running g c =
    stage_running (at_number c.args.self.now.slots.items c.args.number) c.in-Running.ensures

pub returns-in-Running-clause-read : goal.returns-in-Running-clause-read
returns-in-Running-clause-read g c = λ w good.
    let e = stage_running (at_number c.args.self.now.slots.items c.args.number) c.in-Running.ensures in
    IfOk-weaker c.run_noting.result _ _
    (λ a h. read_running (run_under c.args.setting.now) w c.args.number
    (at_number c.args.self.now.slots.items c.args.number) e.0 e.1 c.args.noted.now c.run_noting.new.noted h)
    (c.run_noting.ensures.read w good)

pub returns-in_default-clause-read : goal.returns-in_default-clause-read
returns-in_default-clause-read g c = λ w good.
    IfOk-weaker c.leg.result _ _
    (λ a h. not_read (run_under c.args.setting.now) w c.args.number
    (at_number c.args.self.now.slots.items c.args.number) c.stage.result c.stage.ensures c.in_default.not-Running
    c.args.noted.now)
    (c.leg.ensures.noted w good)
