-- Answers of Revisions::find: the table has the path's place in the list, or the state has no such revision.
use Rattle.revision_machine.proofs.PathIndex.{looked_up}
use Rattle.revision_machine.proofs.state.RevisionRows.find.Goals as goal

pub returns : goal.returns
returns g c =
    looked_up c.args.self.now.places.map c.args.self.now.list.items c.args.path.now c.args.self.now.indexed
    c.find.result c.find.ensures
