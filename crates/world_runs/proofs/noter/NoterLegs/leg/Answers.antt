-- Answers of Noter::leg: the notes before a leg, with what the leg lists and leaves, are those after it.
use Rattle.rev_vm.specs.Starts.{run_under}
use Rattle.world_runs.proofs.Keeping.{keeps_so}
use Rattle.world_runs.specs.Notes.{NotesOf}
use Rattle.world_runs.proofs.NotesOfLegs.{noted_after}
use Rattle.world_runs.proofs.noter.NoterLegs.leg.Goals as goal

pub leg_meeting-requires-clause-reached : goal.leg_meeting-requires-clause-reached
leg_meeting-requires-clause-reached g c = let q = c.requires.reached in (q.0, q.1, q.2)

pub leg_meeting-requires-clause-size : goal.leg_meeting-requires-clause-size
leg_meeting-requires-clause-size g c = c.requires.size

pub leg_meeting-requires-clause-merges : goal.leg_meeting-requires-clause-merges
leg_meeting-requires-clause-merges g c = c.requires.merges

pub note_leg-requires : goal.note_leg-requires
note_leg-requires g c =
    let q = c.requires.reached in
    (run_under c.args.setting.now, q.0, c.in_ok-next.ensures.answer q.0 q.1 q.2, q.4.noted)

pub returns-in-Ok-clause-kept : goal.returns-in-Ok-clause-kept
returns-in-Ok-clause-kept g c = λ w reached is told kept.
    let s = run_under c.args.setting.now in
    keeps_so s w c.args.revision (λ u. NotesOf s u c.note_leg.new.notes.items) _
    (λ u noted. record { same = kept.same; noted = noted }) c.in_ok-next.made.answer
    (noted_after s c.args.setting.now.faultless w c.args.world reached is c.args.revision
    c.args.self.now.notes.now.items c.note_leg.new.notes.items kept.noted c.in_ok-next.made.answer
    c.in_ok-next.made.meeting c.in_ok-next.next
    (c.in_ok-next.ensures.answer w reached is) c.in_ok-next.ensures.noted c.in-Ok.ensures)
