-- `fresh`: of the table of a world.
use Rattle.std.proofs.lemmas.Result.{IfOk-weaker}
use Rattle.rev_vm.specs.Starts.{run_under}
use Rattle.code_world.proofs.Begun.{fresh_live, fresh_twice, live_good}
use Rattle.code_world.proofs.freshness.fresh.Goals as goal

pub fresh-requires : goal.fresh-requires
fresh-requires c =
    let q = c.requires in
    let k = live_good (run_under c.args.setting.now) c.args.world.now q.0 c.in-Live.table c.in-Live.is q.1 q.2
    c.args.setting.now.faultless in
    (k.0, k.2)

pub returns-in-Live : goal.returns-in-Live
returns-in-Live c = λ w reached is.
    let s = run_under c.args.setting.now in
    let k = live_good s c.args.world.now w c.in-Live.table c.in-Live.is reached is c.args.setting.now.faultless in
    IfOk-weaker c.fresh.result _ _
    (λ o h. fresh_live s c.args.world.now w c.in-Live.table c.in-Live.is k.0 k.1 c.args.revision o h)
    (c.fresh.ensures k.0 k.2)

pub returns-in-Twice : goal.returns-in-Twice
returns-in-Twice c =
    λ w reached is. fresh_twice (run_under c.args.setting.now) c.args.world.now w c.in-Twice.is c.args.revision
