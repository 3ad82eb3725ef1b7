-- Answers of note_scalar: the scalar's one location is the first of its variable, and that location is marked.
use Rattle.std.proofs.Common.{◌∙◌, sym, ap, subst}
use Rattle.version_map.specs.Deltas.{at}
use Rattle.block_run.specs.Marks.{HasMarked, if_first, scalar_marks}
use Rattle.block_run.proofs.marking.note_scalar.Goals as goal

pub returns : goal.returns
returns g c =
    let v = c.requires.variable in
    subst (HasMarked c.args.noted.now c.note_location.new.noted)
    (ap (λ n. if_first n (at c.args.memory.now.first.roots n)) (sym v.first)
    ∙ sym (ap (scalar_marks (at c.args.memory.now.first.roots)) v.is))
    c.note_location.ensures
