-- Answers of fork_off: a state at a fork has the arguments, room for the handle and the child's part of fuel.
use Rattle.std.proofs.Common.{◌∙◌, ap, sym, subst, arith}
use Rattle.rev_code.specs.Events as events
use Rattle.rev_vm.specs.Starts.{IsForker, run_under}
use Rattle.rev_vm.proofs.Forking.{above, child_born, parent_at, place, room_for_handle, safe, top_of, within}
use Rattle.code_machine.proofs.Paying.{part_less}
use Rattle.rev_vm.proofs.fork.fork_off.Goals as goal

pub block-b-requires : goal.block-b-requires
block-b-requires g c =
    let q = c.requires.at in
    let s = safe (run_under c.args.setting.now) c.args.revision.now.run c.args.revision.now.memory.delta
    (g.P.Snapshot.base c.args.revision.now.memory.snapshot) c.args.revision.now.memory.first.roots c.args.block q.0 q.1
    q.2 in
    (s.0.body, s.0.is)

pub words_on_top-requires-clause-enough : goal.words_on_top-requires-clause-enough
words_on_top-requires-clause-enough g c =
    let q = c.requires.at in
    let a = above (run_under c.args.setting.now) c.args.revision.now.run c.args.revision.now.memory.delta
    (g.P.Snapshot.base c.args.revision.now.memory.snapshot) c.args.revision.now.memory.first.roots c.args.block q.0 q.1
    q.2 c.block-b.result.now c.block-b.ensures in
    let e = c.params_of-count.ensures in omega (arith, a, e)

pub words_on_top-requires-clause-within : goal.words_on_top-requires-clause-within
words_on_top-requires-clause-within g c =
    let q = c.requires.at in
    within (run_under c.args.setting.now) c.args.revision.now.run c.args.revision.now.memory.delta
    (g.P.Snapshot.base c.args.revision.now.memory.snapshot) c.args.revision.now.memory.first.roots c.args.block q.0 q.1
    q.2 c.block-b.result.now c.block-b.ensures

pub leave_fork-requires-clause-taken : goal.leave_fork-requires-clause-taken
leave_fork-requires-clause-taken g c =
    let q = c.requires.at in
    let a = above (run_under c.args.setting.now) c.args.revision.now.run c.args.revision.now.memory.delta
    (g.P.Snapshot.base c.args.revision.now.memory.snapshot) c.args.revision.now.memory.first.roots c.args.block q.0 q.1
    q.2 c.block-b.result.now c.block-b.ensures in
    let e = c.params_of-count.ensures in omega (arith, a, e)

pub leave_fork-requires-clause-room : goal.leave_fork-requires-clause-room
leave_fork-requires-clause-room g c =
    let q = c.requires.at in
    let a = room_for_handle (run_under c.args.setting.now) c.args.revision.now.run c.args.revision.now.memory.delta
    (g.P.Snapshot.base c.args.revision.now.memory.snapshot) c.args.revision.now.memory.first.roots c.args.block q.0 q.1
    q.2 c.block-b.result.now c.block-b.ensures in
    let e = c.params_of-count.ensures in omega (arith, a, e)

pub leave_fork-requires-clause-place : goal.leave_fork-requires-clause-place
leave_fork-requires-clause-place g c =
    let q = c.requires.at in
    place (run_under c.args.setting.now) c.args.revision.now.run c.args.revision.now.memory.delta
    (g.P.Snapshot.base c.args.revision.now.memory.snapshot) c.args.revision.now.memory.first.roots c.args.block q.0 q.1
    q.2 c.block-b.result.now c.block-b.ensures

pub leave_fork-requires-clause-part : goal.leave_fork-requires-clause-part
leave_fork-requires-clause-part g c =
    let a = part_less c.args.setting.now.share c.args.revision.now.run.registers.fuel in
    let e = c.part_of-fuel.ensures ∙ ap (λ s. events.part s c.args.revision.now.run.registers.fuel) c.share.ensures in
    omega (arith, a, e)

pub leave_fork-requires-clause-few : goal.leave_fork-requires-clause-few
leave_fork-requires-clause-few g c = c.requires.at.2.stands.stands.few

pub returns-clause-parent : goal.returns-clause-parent
returns-clause-parent g c = λ st xs h.
    parent_at (run_under c.args.setting.now) c.args.revision.now.run c.args.revision.now.memory.delta
    (g.P.Snapshot.base c.args.revision.now.memory.snapshot) c.args.revision.now.memory.first.roots c.args.block st xs h
    c.block-b.result.now c.block-b.ensures
    (g.P.Snapshot.size c.args.revision.now.memory.snapshot) (sym c.args.revision.now.memory.written ∙ h.stands.size)
    c.leave_fork.new.run c.fork.new.self.delta c.fork.new.self.first.roots (g.P.Snapshot.base c.fork.new.self.snapshot)
    (c.fork.new.self.written ∙ c.in_ok-snapshot.ensures.size)
    (subst (λ m.
    IsForker m (events.part c.args.setting.now.share c.args.revision.now.run.registers.fuel) c.args.revision.now.run
    c.leave_fork.new.run)
    c.params_of-count.ensures
    (subst (λ m. IsForker c.params_of-count.result m c.args.revision.now.run c.leave_fork.new.run)
    (c.part_of-fuel.ensures ∙ ap (λ s. events.part s c.args.revision.now.run.registers.fuel) c.share.ensures)
    c.in_ok-leave_fork.ensures.forker))
    c.in_ok-snapshot.ensures.kept

pub returns-clause-child : goal.returns-clause-child
returns-clause-child g c = λ st xs h. (
  c.block-b.result.now,
  c.block-b.ensures,
  child_born (run_under c.args.setting.now) c.args.revision.now.run c.args.revision.now.memory.delta
      (g.P.Snapshot.base c.args.revision.now.memory.snapshot) c.args.revision.now.memory.first.roots c.args.block st xs
      h c.block-b.result.now c.block-b.ensures c.in_ok-args.args.items
      (c.in_ok-args.ensures.items ∙ c.words_on_top.ensures
      ∙ ap (λ m. top_of m c.args.revision.now.run) c.params_of-count.ensures)
      c.part_of-fuel.result
      (c.part_of-fuel.ensures ∙ ap (λ s. events.part s c.args.revision.now.run.registers.fuel) c.share.ensures)
      (g.P.Snapshot.size c.args.revision.now.memory.snapshot) (sym c.args.revision.now.memory.written ∙ h.stands.size)
      (g.P.Snapshot.base c.in_ok-snapshot.snapshot) c.in_ok-snapshot.ensures.child
      (g.P.Snapshot.size c.in_ok-snapshot.snapshot) c.in_ok-snapshot.ensures.child_size,
)

pub returns-clause-shared : goal.returns-clause-shared
returns-clause-shared g c = c.in_ok-snapshot.ensures.shared

pub returns-clause-copied : goal.returns-clause-copied
returns-clause-copied g c = c.in_ok-snapshot.ensures.copied

pub returns-clause-how : goal.returns-clause-how
returns-clause-how g c = c.in_ok-snapshot.ensures.how
