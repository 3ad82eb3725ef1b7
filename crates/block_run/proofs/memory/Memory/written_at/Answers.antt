-- Answers of Memory::written_at: the word at the fork is known there, and reading changes nothing.
use Rattle.std.proofs.Common.{◌∙◌, ℕ, List, [], ◌∷◌, ap, sym}
use Rattle.version_map.specs.Overlay.{under}
use Rattle.version_map.specs.declared.end.Written.{Written}
use Rattle.block_run.specs.Remembering.{written_there}
use Rattle.block_run.proofs.memory.Memory.written_at.Goals as goal

abbrev one_at : (l root word : ℕ) → List Written
one_at l root word = record { location = l; value = word; root = root } ∷ []

pub returns-clause-value : goal.returns-clause-value
returns-clause-value g c =
    let l = c.args.location in let m = c.args.self.now in
    ap (one_at l c.word-root.result) c.read-value.ensures.value
    ∙ ap (written_there l (under m.delta (g.P.Snapshot.base m.snapshot) l)) (sym c.word-root.ensures)
