-- `Table::fresh`: a running revision that has listed nothing, and any other.
use Rattle.std.proofs.Common.{◌∙◌, sym, ap}
use Rattle.std.specs.Option.{option_copied}
use Rattle.revision_machine.specs.Numbered.{at_number}
use Rattle.rev_vm.specs.Starts.{run_under}
use Rattle.code_world.proofs.Begun.{fresh_in, listed_not, none_by_length, not_running, other_not, running_there, some_by_length, unlisted_fresh}
use Rattle.code_world.proofs.Turning.{runner}
use Rattle.code_world.proofs.table.Table.fresh.Goals as goal

pub begun-requires : goal.begun-requires
begun-requires c =
    let q = c.requires in
    let s = run_under c.args.setting.now in
    let t = c.args.self.now in
    let n = c.args.number in
    let at = running_there (at_number t.slots.items n) c.in-Some.runner.now
    (sym (ap option_copied c.in-Some.is) ∙ c.runner_of.ensures) in
    let k = runner s t q.0 q.1 n c.in-Some.runner.now at in
    let x = unlisted_fresh s t q.0 q.1 n c.in-Some.runner.now at
    (none_by_length k.state.listed (sym (c.is_fresh.ensures s k.state k.runs) ∙ c.if-not-is_fresh.false)) in
    (k.state, x.0, k.runs, x.1)

pub returns : goal.returns
returns c = λ w good.
    let s = run_under c.args.setting.now in
    let t = c.args.self.now in
    let n = c.args.number in
    let at = running_there (at_number t.slots.items n) c.in-Some.runner.now
    (sym (ap option_copied c.in-Some.is) ∙ c.runner_of.ensures) in
    let k = runner s t w good n c.in-Some.runner.now at in
    let x = unlisted_fresh s t w good n c.in-Some.runner.now at
    (none_by_length k.state.listed (sym (c.is_fresh.ensures s k.state k.runs) ∙ c.if-not-is_fresh.false)) in
    fresh_in s t w good n c.in-Some.runner.now at x.0 x.1 c.in_ok-fresh.fresh
    (c.in_ok-fresh.ensures k.state x.0 k.runs x.1)

pub returns-then-not-is_fresh : goal.returns-then-not-is_fresh
returns-then-not-is_fresh c = λ w good.
    let s = run_under c.args.setting.now in
    let t = c.args.self.now in
    let n = c.args.number in
    let at = running_there (at_number t.slots.items n) c.in-Some.runner.now
    (sym (ap option_copied c.in-Some.is) ∙ c.runner_of.ensures) in
    let k = runner s t w good n c.in-Some.runner.now at in
    listed_not s t w good n c.in-Some.runner.now at
    (some_by_length k.state.listed (sym (c.is_fresh.ensures s k.state k.runs) ∙ c.if-not-is_fresh.true))

pub returns-in_default : goal.returns-in_default
returns-in_default c = λ w good.
    let t = c.args.self.now in
    other_not (run_under c.args.setting.now) t w good c.args.number
    (not_running (at_number t.slots.items c.args.number) (sym (ap option_copied c.in_default.is) ∙ c.runner_of.ensures))
