-- Answers of first_notes: one note in which nothing is noted is that of main at the start.
use Rattle.std.proofs.Common.{◌∙◌, ◌++◌, [], ◌∷◌, ap}
use Rattle.world_runs.proofs.NotesOfLegs.{first_noted}
use Rattle.world_runs.proofs.noted_runs.first_notes.Goals as goal

pub returns : goal.returns
returns c = λ g fuel n m.
    first_noted g fuel n m c.new-first.result c.push.new.self.items c.new-first.ensures
    (c.in_ok-push.ensures.items ∙ ap (λ xs. xs ++ c.new-first.result ∷ []) c.new-notes.ensures.items)
