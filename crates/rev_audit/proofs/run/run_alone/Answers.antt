-- Answers of run_alone: the run that is under way goes on by its steps to its end or to a join that it cannot take.
use Rattle.std.proofs.Common.{◌≡◌, ◌+◌, ◌<◌, ◌≤◌, ◌∙◌, arith, refl, subst, sym}
use Rattle.revision_machine.specs.Machine.{Joins, Ended}
use Rattle.revision_calculus.specs.Step.{next}
use Rattle.revision_state.specs.Phases.{awaited}
use Rattle.revision_state.specs.Views.{given}
use Rattle.rev_audit.specs.Alone.{JoinsAwaited}
use Rattle.audit_rules.specs.Audited.{made, joined_twice, missing}
use Rattle.audit_rules.specs.Parts.{joined_by}
use Rattle.audit_rules.specs.Traces.{paths_of}
use Rattle.audit_rules.proofs.PartsExist.{left}
use Rattle.rev_audit.specs.Own.{BeginsAt, ComesTo, IsJoinee, StopsAt}
use Rattle.stated_parts.specs.Tables.{IsSetOf}
use Rattle.stated_parts.proofs.Accepted.{accepted}
use Rattle.stated_parts.proofs.Finding.{set_more, set_none}
use Rattle.rev_audit.proofs.Running.{awaited_joins, comes_made, comes_missing, comes_twice, first_under_way, fits_there, none_joined, on_join, under_there}
use Rattle.rev_audit.proofs.run.run_alone.Goals as goal

pub loop-joined-init : goal.loop-joined-init
loop-joined-init c =
    let t = c.args.stated.now in
    let a = c.args.first in
    record {
      goes = under_there (given t.setting) t.fuel t.parts.now a.path a.path a.local _ c.new-children.result.items refl
          c.new-children.ensures.items
          (first_under_way (given t.setting) t.fuel t.parts.now (accepted t.setting) a.path a.local c.requires.begins);
      path = refl;
      joined = subst (IsSetOf c.new-joined.result.map)
          (sym (none_joined (given t.setting) t.fuel t.parts.now (accepted t.setting) a.path a.local c.requires.begins))
          (set_none c.new-joined.result.map c.new-joined.ensures);
    }

pub returns-in-Ended : goal.returns-in-Ended
returns-in-Ended c =
    let t = c.args.stated.now in
    let a = c.args.first in
    let r = c.loop-joined.state.path in
    let l = c.in_ok-next.next.local in
    let ks = c.run_on.new.children.items in
    let at = c.loop-joined.invariant.path in
    let begins = subst (λ p. BeginsAt (given t.setting) t.fuel t.parts.now p a.local) (sym at) c.requires.begins in
    let does : next (given t.setting) r l ≡ Ended =
    subst (StopsAt (given t.setting) t.fuel t.parts.now r l) c.in-Ended.is c.in_ok-next.ensures.stop in
    subst (λ p. ComesTo (given t.setting) t.fuel t.parts.now p a.local (made c.in_ok-part-in-Ended.part) ks) at
    (comes_made (given t.setting) t.fuel t.parts.now (accepted t.setting) r l ks c.in_ok-next.ensures.goes a.local
    c.deref.result.now c.in_ok-next.next.path c.in_ok-part-in-Ended.part begins does (c.deref.ensures.value ∙ t.placed)
    c.in_ok-next.ensures.path c.in_ok-part-in-Ended.ensures)

pub joinee_of-requires-clause-fits : goal.joinee_of-requires-clause-fits
joinee_of-requires-clause-fits c =
    let t = c.args.stated.now in
    let y = c.in_ok-next.next in
    let ks = c.run_on.new.children.items in
    fits_there (given t.setting) t.fuel t.parts.now (accepted t.setting) y.path y.local ks
    (under_there (given t.setting) t.fuel t.parts.now c.loop-joined.state.path y.path y.local ks ks
    c.in_ok-next.ensures.path refl c.in_ok-next.ensures.goes)

pub joinee_of-requires-clause-joined : goal.joinee_of-requires-clause-joined
joinee_of-requires-clause-joined c =
    subst (IsSetOf c.loop-joined.joined.map) (sym c.in_ok-next.ensures.joined) c.loop-joined.invariant.joined

pub returns-in-Twice : goal.returns-in-Twice
returns-in-Twice c =
    let t = c.args.stated.now in
    let a = c.args.first in
    let r = c.loop-joined.state.path in
    let y = c.in_ok-next.next in
    let ks = c.run_on.new.children.items in
    let on = c.in-Wants.on in
    let at = c.loop-joined.invariant.path in
    let begins = subst (λ p. BeginsAt (given t.setting) t.fuel t.parts.now p a.local) (sym at) c.requires.begins in
    let does : next (given t.setting) r y.local ≡ Joins on =
    subst (StopsAt (given t.setting) t.fuel t.parts.now r y.local) c.in-Wants.is c.in_ok-next.ensures.stop in
    let told =
    subst (IsJoinee (given t.setting) t.fuel t.parts.now r y.local on) c.in-Twice.is
    (subst (λ p. IsJoinee (given t.setting) t.fuel t.parts.now p y.local on c.in_ok-end.field-0)
    c.in_ok-next.ensures.path c.in_ok-end.ensures) in
    subst (λ p. ComesTo (given t.setting) t.fuel t.parts.now p a.local joined_twice ks) at
    (comes_twice (given t.setting) t.fuel t.parts.now (accepted t.setting) r y.local ks c.in_ok-next.ensures.goes
    a.local on begins does told)

pub returns-in-Missing : goal.returns-in-Missing
returns-in-Missing c =
    let t = c.args.stated.now in
    let a = c.args.first in
    let r = c.loop-joined.state.path in
    let y = c.in_ok-next.next in
    let ks = c.run_on.new.children.items in
    let on = c.in-Wants.on in
    let at = c.loop-joined.invariant.path in
    let begins = subst (λ p. BeginsAt (given t.setting) t.fuel t.parts.now p a.local) (sym at) c.requires.begins in
    let does : next (given t.setting) r y.local ≡ Joins on =
    subst (StopsAt (given t.setting) t.fuel t.parts.now r y.local) c.in-Wants.is c.in_ok-next.ensures.stop in
    let told =
    subst (IsJoinee (given t.setting) t.fuel t.parts.now r y.local on) c.in-Missing.is
    (subst (λ p. IsJoinee (given t.setting) t.fuel t.parts.now p y.local on c.in_ok-end.field-0)
    c.in_ok-next.ensures.path c.in_ok-end.ensures) in
    subst (λ p. ComesTo (given t.setting) t.fuel t.parts.now p a.local missing ks) at
    (comes_missing (given t.setting) t.fuel t.parts.now (accepted t.setting) r y.local ks c.in_ok-next.ensures.goes
    a.local on begins does told.0 told.1)

pub loop-joined-smaller : goal.loop-joined-smaller
loop-joined-smaller c =
    let t = c.args.stated.now in
    let r = c.loop-joined.state.path in
    let y = c.in_ok-next.next in
    let z = c.in_ok-state-in-Told.state in
    let ks = c.run_on.new.children.items in
    let on = c.in-Wants.on in
    let there = c.in_ok-next.ensures.path in
    let does : next (given t.setting) r y.local ≡ Joins on =
    subst (StopsAt (given t.setting) t.fuel t.parts.now r y.local) c.in-Wants.is c.in_ok-next.ensures.stop in
    let told =
    subst (IsJoinee (given t.setting) t.fuel t.parts.now r y.local on) c.in-Told.is
    (subst (λ p. IsJoinee (given t.setting) t.fuel t.parts.now p y.local on c.in_ok-end.field-0) there
    c.in_ok-end.ensures) in
    let joins =
    awaited_joins (given t.setting) t.fuel t.parts.now (accepted t.setting) r y.local ks c.in_ok-next.ensures.goes
    z.local on c.in-Told.end does
    (subst (λ p. JoinsAwaited (given t.setting) p y.local (awaited y.local.phase) c.in-Told.end z.local) there
    c.in_ok-state-in-Told.ensures.local) in
    let k = on_join (given t.setting) t.fuel t.parts.now (accepted t.setting) r y.local ks c.in_ok-next.ensures.goes
    z.local on c.in-Told.end does told.0 told.1 joins in
    let same = c.in_ok-next.ensures.joined in
    let less : left (paths_of t.parts.now) (joined_by z.local.noted) + 1
    ≤ left (paths_of t.parts.now) (joined_by c.loop-joined.state.local.noted) =
    subst (λ js. left (paths_of t.parts.now) (joined_by z.local.noted) + 1 ≤ left (paths_of t.parts.now) js) same k.2 in
    let fewer : left (paths_of t.parts.now) (joined_by z.local.noted)
    < left (paths_of t.parts.now) (joined_by c.loop-joined.state.local.noted) = omega arith in
    fewer

pub loop-joined-preserved : goal.loop-joined-preserved
loop-joined-preserved c =
    let t = c.args.stated.now in
    let r = c.loop-joined.state.path in
    let y = c.in_ok-next.next in
    let z = c.in_ok-state-in-Told.state in
    let ks = c.run_on.new.children.items in
    let on = c.in-Wants.on in
    let there = c.in_ok-next.ensures.path in
    let does : next (given t.setting) r y.local ≡ Joins on =
    subst (StopsAt (given t.setting) t.fuel t.parts.now r y.local) c.in-Wants.is c.in_ok-next.ensures.stop in
    let told =
    subst (IsJoinee (given t.setting) t.fuel t.parts.now r y.local on) c.in-Told.is
    (subst (λ p. IsJoinee (given t.setting) t.fuel t.parts.now p y.local on c.in_ok-end.field-0) there
    c.in_ok-end.ensures) in
    let joins =
    awaited_joins (given t.setting) t.fuel t.parts.now (accepted t.setting) r y.local ks c.in_ok-next.ensures.goes
    z.local on c.in-Told.end does
    (subst (λ p. JoinsAwaited (given t.setting) p y.local (awaited y.local.phase) c.in-Told.end z.local) there
    c.in_ok-state-in-Told.ensures.local) in
    let k = on_join (given t.setting) t.fuel t.parts.now (accepted t.setting) r y.local ks c.in_ok-next.ensures.goes
    z.local on c.in-Told.end does told.0 told.1 joins in
    let mine =
    subst (IsSetOf c.loop-joined.joined.map) (sym c.in_ok-next.ensures.joined) c.loop-joined.invariant.joined in
    record {
      goes = under_there (given t.setting) t.fuel t.parts.now r z.path z.local ks ks
          (c.in_ok-state-in-Told.ensures.path ∙ there) refl k.0;
      path = c.in_ok-state-in-Told.ensures.path ∙ there ∙ c.loop-joined.invariant.path;
      joined = subst (IsSetOf c.enter.new.self.map) (sym k.1)
          (set_more c.loop-joined.joined.map c.enter.new.self.map (joined_by y.local.noted) on 0 mine
          c.in_ok-enter.ensures);
    }
