-- Answers of Memo::place_of: what is looked up for a path is its place, since the table of a memo has each entry's.
use Rattle.std.proofs.Common.{sym, subst}
use Rattle.revision_machine.specs.PathIndex.{IsPlace}
use Rattle.rev_record.specs.Entries.{paths}
use Rattle.rev_record.proofs.memo.Memo.place_of.Goals as goal

pub returns : goal.returns
returns c = subst (IsPlace c.args.path.now (paths c.args.self.now.entries.items)) (sym c.look_up.ensures)
    (c.args.self.now.indexed c.args.path.now)
