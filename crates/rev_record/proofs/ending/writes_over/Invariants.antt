-- `writes_over`: one write after another.
use Rattle.std.proofs.Common.{List, take}
use Rattle.rev_num.specs.Path.{Path}
use Rattle.revision_machine.specs.Laws.{IsDistinct}
use Rattle.code_world.specs.Endings.{Names}
use Rattle.rev_record.specs.Words.{AreOver}
use Rattle.rev_record.proofs.ending.writes_over.Given as goal

abbrev pub invariant-loop-one : goal.invariant-loop-one
invariant-loop-one l =
    (paths : List Path) → Names l.births paths → IsDistinct paths
    → AreOver paths l.base (take l.one-index l.written) l.all.items
