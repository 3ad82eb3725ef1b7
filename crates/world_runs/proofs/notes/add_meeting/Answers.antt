-- Answers of add_meeting: the note at the number has the meeting added, and each other note stays.
use Rattle.world_runs.specs.Changes.{HasAdded}
use Rattle.world_runs.proofs.Changing.{changed}
use Rattle.world_runs.proofs.notes.add_meeting.Goals as goal

pub returns : goal.returns
returns c = changed c.args.number (HasAdded c.args.meeting) c.args.notes.now.items c.index_mut.result.now c.add.new.self
    c.requires c.index_mut.ensures.value c.in_ok-add.ensures
