-- Answers of Closed::head: the first word of a part lies where the list of words has it from.
use Rattle.std.proofs.Common.{sym, refl, ◌∙◌}
use Rattle.sparse_table.proofs.Ends.{head_in}
use Rattle.sparse_table.proofs.Same.{same_closed}
use Rattle.sparse_table.proofs.closed.Closed.head.Goals as goal

pub returns : goal.returns
returns c = let t = c.args.self.now in (
  same_closed _ t c.word.ensures.0 refl refl refl refl refl refl,
  c.word.ensures.1 ∙ sym (head_in t.len t.width t.shift t.span.items c.args.part c.requires),
)
