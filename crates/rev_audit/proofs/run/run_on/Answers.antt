-- Answers of run_on: each step of the revision is one of the calculus, and the child of a fork is added.
use Rattle.std.proofs.Common.{◌≡◌, ◌+◌, ◌<◌, ◌≤◌, ◌∙◌, ap, arith, refl, subst, sym}
use Rattle.rev_num.specs.Path.{child}
use Rattle.revision_machine.specs.Machine.{Moves, Forks}
use Rattle.revision_calculus.specs.HandlesHeld.{weight}
use Rattle.revision_calculus.specs.Step.{next}
use Rattle.revision_state.specs.Views.{given}
use Rattle.rev_audit.specs.Alone.{NamesChild, alone_event}
use Rattle.stated_parts.proofs.Accepted.{accepted}
use Rattle.rev_audit.proofs.Running.{few_there, on_fork, on_move, under_there}
use Rattle.rev_audit.proofs.run.run_on.Goals as goal

pub step_alone-requires : goal.step_alone-requires
step_alone-requires c =
    let t = c.args.stated.now in
    let x = c.loop-next.state in
    few_there (given t.setting) t.fuel t.parts.now (accepted t.setting) x.path x.local c.loop-next.children.items
    c.loop-next.invariant.goes t.small

pub loop-next-smaller-in-Moved : goal.loop-next-smaller-in-Moved
loop-next-smaller-in-Moved c =
    let t = c.args.stated.now in
    let x = c.loop-next.state in
    let y = c.in_ok-next.next in
    let event : Moves y.local ≡ next (given t.setting) x.path x.local =
    ap (λ a. alone_event a y.local) (sym c.in-Moved.is) ∙ c.in_ok-next.ensures.event in
    let k = on_move (given t.setting) t.fuel t.parts.now (accepted t.setting) x.path x.local c.loop-next.children.items
    c.loop-next.invariant.goes y.local event in
    let less : weight y.local + 1 ≤ weight x.local = k.2 in
    let fewer : weight y.local < weight x.local = omega arith in
    fewer

pub loop-next-preserved-in-Moved : goal.loop-next-preserved-in-Moved
loop-next-preserved-in-Moved c =
    let t = c.args.stated.now in
    let x = c.loop-next.state in
    let y = c.in_ok-next.next in
    let ks = c.loop-next.children.items in
    let event : Moves y.local ≡ next (given t.setting) x.path x.local =
    ap (λ a. alone_event a y.local) (sym c.in-Moved.is) ∙ c.in_ok-next.ensures.event in
    let k = on_move (given t.setting) t.fuel t.parts.now (accepted t.setting) x.path x.local ks
    c.loop-next.invariant.goes y.local event in
    record {
      goes = under_there (given t.setting) t.fuel t.parts.now x.path y.path y.local ks ks c.in_ok-next.ensures.path refl
          k.0;
      path = c.in_ok-next.ensures.path ∙ c.loop-next.invariant.path;
      joined = k.1 ∙ c.loop-next.invariant.joined;
    }

pub loop-next-smaller : goal.loop-next-smaller
loop-next-smaller c =
    let t = c.args.stated.now in
    let x = c.loop-next.state in
    let y = c.in_ok-next.next in
    let kid = c.in-Forked.child in
    let event : Forks y.local kid.local ≡ next (given t.setting) x.path x.local =
    ap (λ a. alone_event a y.local) (sym c.in-Forked.is) ∙ c.in_ok-next.ensures.event in
    let named : kid.path ≡ child x.path x.local.forks =
    subst (NamesChild x.path x.local.forks) c.in-Forked.is c.in_ok-next.ensures.child in
    let k = on_fork (given t.setting) t.fuel t.parts.now (accepted t.setting) x.path x.local c.loop-next.children.items
    c.loop-next.invariant.goes y.local kid event named in
    let less : weight y.local + 1 ≤ weight x.local = k.2 in
    let fewer : weight y.local < weight x.local = omega arith in
    fewer

pub loop-next-preserved : goal.loop-next-preserved
loop-next-preserved c =
    let t = c.args.stated.now in
    let x = c.loop-next.state in
    let y = c.in_ok-next.next in
    let kid = c.in-Forked.child in
    let event : Forks y.local kid.local ≡ next (given t.setting) x.path x.local =
    ap (λ a. alone_event a y.local) (sym c.in-Forked.is) ∙ c.in_ok-next.ensures.event in
    let named : kid.path ≡ child x.path x.local.forks =
    subst (NamesChild x.path x.local.forks) c.in-Forked.is c.in_ok-next.ensures.child in
    let k = on_fork (given t.setting) t.fuel t.parts.now (accepted t.setting) x.path x.local c.loop-next.children.items
    c.loop-next.invariant.goes y.local kid event named in
    record {
      goes = under_there (given t.setting) t.fuel t.parts.now x.path y.path y.local _ c.push.new.self.items
          c.in_ok-next.ensures.path c.in_ok-push-in-Forked.ensures.items k.0;
      path = c.in_ok-next.ensures.path ∙ c.loop-next.invariant.path;
      joined = k.1 ∙ c.loop-next.invariant.joined;
    }
