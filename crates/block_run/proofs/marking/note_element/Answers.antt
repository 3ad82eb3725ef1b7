-- Answers of note_element: the word on top is the index on the stack, and what is marked is the array's cell at it.
use Rattle.std.proofs.Common.{◌∷◌, ◌∙◌, sym, ap, subst}
use Rattle.std.specs.Prelude.{drop}
use Rattle.version_map.specs.Deltas.{at}
use Rattle.rev_code.specs.Variables.{array}
use Rattle.block_run.specs.Area.{run_of}
use Rattle.block_run.specs.Marks.{HasMarked, cell_marks}
use Rattle.block_run.proofs.marking.note_element.Goals as goal

pub returns : goal.returns
returns g c =
    let v = c.requires.variable in
    let stack = c.top.ensures in
    subst (HasMarked c.args.noted.now c.note_cell.new.noted)
    (sym (ap (λ o. cell_marks (at c.args.memory.now.first.roots) o
    (c.top.result ∷ drop 1 (run_of c.args.b.now c.args.words.now c.args.r.now).stack)) v.is
    ) ∙ sym (ap (cell_marks (at c.args.memory.now.first.roots) (array c.args.code.now.vars c.args.v)) stack))
    (c.note_cell.ensures v.place v.first v.cells)
