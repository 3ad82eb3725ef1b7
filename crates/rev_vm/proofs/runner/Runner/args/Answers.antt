-- `Runner::args`: the first locals of a revision that is fresh, or the words that it has before its first leg.
use Rattle.std.proofs.Common.{◌∙◌, sym, ap, subst}
use Rattle.block_run.specs.Agreement.{AreWords}
use Rattle.rev_vm.specs.Starts.{run_under}
use Rattle.rev_vm.proofs.Beginnings.{first_args, first_inside}
use Rattle.rev_vm.proofs.Born.{begun_as, born_as, fresh_start}
use Rattle.rev_vm.proofs.Boxes.{same_at}
use Rattle.rev_vm.proofs.runner.Runner.args.Goals as goal

pub first_args-requires-clause-block : goal.first_args-requires-clause-block
first_args-requires-clause-block t c =
    let q = c.requires in
    let s = same_at (sym c.deref.ensures) (run_under c.args.setting.now) q.0
    (begun_as (run_under c.args.setting.now) c.args.self.now.stage c.in-Begun.revision q.0 c.in-Begun.is q.2) in
    (s.stands.body, s.stands.is)

pub first_args-requires-clause-inside : goal.first_args-requires-clause-inside
first_args-requires-clause-inside t c = λ b is.
    let q = c.requires in
    first_inside (run_under c.args.setting.now) c.deref.result.now.run c.deref.result.now.memory.delta
    (t.P.Snapshot.base c.deref.result.now.memory.snapshot) c.deref.result.now.memory.first.roots q.0
    (same_at (sym c.deref.ensures) (run_under c.args.setting.now) q.0
    (begun_as (run_under c.args.setting.now) c.args.self.now.stage c.in-Begun.revision q.0 c.in-Begun.is q.2)) b is

pub returns-in-Begun : goal.returns-in-Begun
returns-in-Begun t c = λ s f h k.
    let x = same_at (sym c.deref.ensures) (run_under c.args.setting.now) s
    (begun_as (run_under c.args.setting.now) c.args.self.now.stage c.in-Begun.revision s c.in-Begun.is h) in
    subst (AreWords f.args) (sym (c.first_args.ensures x.stands.body x.stands.is))
    (first_args (run_under c.args.setting.now) c.deref.result.now.run c.deref.result.now.memory.delta
    (t.P.Snapshot.base c.deref.result.now.memory.snapshot) c.deref.result.now.memory.first.roots s x x.stands.body
    x.stands.is f k)

pub returns-in-Born : goal.returns-in-Born
returns-in-Born t c = λ s f h k.
    let own = run_under c.args.setting.now in
    let x = born_as own c.args.self.now.stage c.in-Born.beginning s c.in-Born.is h in
    let v = c.in-Born.beginning.value in
    subst (AreWords f.args) (sym (c.as_slice.ensures.value ∙ ap (λ z. z.args.items) c.deref-in-Born.ensures))
    (fresh_start own v.block v.args.items (t.P.Snapshot.base v.snapshot) (t.P.Snapshot.size v.snapshot) v.fuel s x f k)
