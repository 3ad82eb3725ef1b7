-- Answers of taken_end: without a part, or room for its fuel, nothing is taken, and else what the part tells.
use Rattle.std.proofs.Common.{arith, subst, sym}
use Rattle.std.proofs.lemmas.Result.{IfOk-weaker}
use Rattle.revision_calculus.specs.Kinded.{LocationsAre, location_kinds}
use Rattle.revision_state.specs.Views.{given}
use Rattle.stated_parts.proofs.Accepted.{accepted}
use Rattle.rev_audit.proofs.Taking.{takes_no_part, takes_no_room, takes_told}
use Rattle.rev_audit.proofs.joinee.taken_end.Goals as goal

pub returns-in_default : goal.returns-in_default
returns-in_default c =
    let t = c.args.stated.now in
    let x = c.args.state.now in
    takes_no_part (given t.setting) t.fuel t.parts.now (accepted t.setting) x.path x.local c.args.on.now
    (rw c.in_default.is at (sym c.part.ensures))

pub returns-then-part-room : goal.returns-then-part-room
returns-then-part-room c =
    let t = c.args.stated.now in
    let x = c.args.state.now in
    let room = c.requires.fits.room in
    takes_no_room (given t.setting) t.fuel t.parts.now (accepted t.setting) x.path x.local c.args.on.now
    c.in-Some.part.now (rw c.in-Some.is at (sym c.part.ensures)) (omega arith)

pub told_end-requires : goal.told_end-requires
told_end-requires c =
    subst (LocationsAre (location_kinds (given c.args.stated.now.setting))) (sym c.locations.ensures)
    c.requires.fits.kinded.locations

pub returns : goal.returns
returns c =
    let t = c.args.stated.now in
    let x = c.args.state.now in
    let room = c.requires.fits.room in
    IfOk-weaker c.told_end.result _ _
    (λ o told.
    takes_told (given t.setting) t.fuel t.parts.now (accepted t.setting) x.path x.local c.args.on.now c.in-Some.part.now
    o (rw c.in-Some.is at (sym c.part.ensures)) (omega arith) t.small c.requires.fits told)
    c.told_end.ensures
