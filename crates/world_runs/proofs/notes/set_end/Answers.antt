-- Answers of set_end: the note at the number has the end and keeps its meetings, and each other note stays.
use Rattle.std.proofs.Common.{subst, sym}
use Rattle.world_runs.specs.Changes.{HasEnd, IsEndIn}
use Rattle.world_runs.proofs.Changing.{changed}
use Rattle.world_runs.proofs.notes.set_end.Goals as goal

pub returns : goal.returns
returns c = λ v is.
    changed c.args.number (HasEnd v c.args.number) c.args.notes.now.items c.index_mut.result.now c.end_with.new.self
    c.requires c.index_mut.ensures.value
    (record {
      meetings = c.end_with.ensures.meetings;
      end = subst (IsEndIn v c.args.number) (sym c.end_with.ensures.end) is;
    })
