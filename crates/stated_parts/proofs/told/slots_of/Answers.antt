-- Answers of slots_of: from the last change on, each that fits fills its slot, and one that does not ends it.
use Rattle.std.proofs.Common.{◌-◌, arith, length, refl, subst}
use Rattle.revision_state.specs.Views.{given}
use Rattle.stated_parts.specs.Told.{Enters}
use Rattle.stated_parts.proofs.Accepted.{accepted}
use Rattle.stated_parts.proofs.Telling.{all_entered, behind_it, fit_so_far, none_entered, one_unfit}
use Rattle.stated_parts.proofs.told.slots_of.Goals as goal

pub loop-j-init : goal.loop-j-init
loop-j-init c =
    let t = c.args.stated.now.setting in
    let h = none_entered (given t) (accepted t) c.args.locations.now c.args.changes.now c.in_ok-slots.slots.items
    (length c.args.locations.now) (length c.args.changes.now) c.requires refl (omega arith) c.in_ok-slots.ensures in
    record { within = omega arith; fit = h.0; so_far = h.1 }

pub enter_change-requires : goal.enter_change-requires
enter_change-requires c =
    let within = c.loop-j.invariant.within in
    record {
      within = omega arith;
      kinds = c.requires;
      slots = behind_it (given c.args.stated.now.setting) c.loop-j.slots.items c.args.changes.now c.loop-j.j
          (c.loop-j.j - 1) (omega arith) c.loop-j.invariant.so_far;
    }

pub loop-j-preserved : goal.loop-j-preserved
loop-j-preserved c =
    let within = c.loop-j.invariant.within in
    let h = subst
    (Enters (given c.args.stated.now.setting) c.args.changes.now (c.loop-j.j - 1) c.enter_change.new.slots.items)
    c.if-not-branch.false c.in_ok-enter_change.ensures in
    record {
      within = omega arith;
      fit = fit_so_far (given c.args.stated.now.setting) c.args.changes.now c.loop-j.j (c.loop-j.j - 1) (omega arith)
          h.0 c.loop-j.invariant.fit;
      so_far = h.1;
    }

pub returns-then-not-branch : goal.returns-then-not-branch
returns-then-not-branch c =
    let unfit =
    subst (Enters (given c.args.stated.now.setting) c.args.changes.now (c.loop-j.j - 1) c.enter_change.new.slots.items)
    c.if-not-branch.true c.in_ok-enter_change.ensures in
    one_unfit (given c.args.stated.now.setting) c.args.changes.now (c.loop-j.j - 1) unfit

pub returns : goal.returns
returns c =
    all_entered (given c.args.stated.now.setting) c.args.changes.now c.loop-j.slots.items c.loop-j.j (omega arith)
    c.loop-j.invariant.fit c.loop-j.invariant.so_far
