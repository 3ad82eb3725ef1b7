-- Answers of write_row: the row has the new words, all else is seen as before, and no word at the fork changes.
use Rattle.std.proofs.Common.{◌∙◌, ◌+◌, ◌*◌, ◌≤◌, ap, sym, subst, refl}
use Rattle.version_map.specs.Overlay.{word_or}
use Rattle.rev_vm.proofs.Rows.{row_fits, word_in_part}
use Rattle.rev_vm.proofs.memory.write_row.Goals as goal

pub has_row-requires : goal.has_row-requires
has_row-requires g c =
    subst (λ n. 64 * c.in-Some.row + 64 ≤ n) (sym c.args.memory.now.roots)
    (row_fits (g.P.Snapshot.size c.args.memory.now.snapshot) c.args.written.now c.args.place c.in-Some.row
    c.in-Some.ensures.row c.requires.within)

pub set_row-requires-clause-row : goal.set_row-requires-clause-row
set_row-requires-clause-row g c =
    subst (λ n. 64 * c.in-Some.row + 64 ≤ n) (sym c.args.memory.now.written)
    (row_fits (g.P.Snapshot.size c.args.memory.now.snapshot) c.args.written.now c.args.place c.in-Some.row
    c.in-Some.ensures.row c.requires.within)

pub returns-else-not-has_row-clause-row : goal.returns-else-not-has_row-clause-row
returns-else-not-has_row-clause-row g c = λ did.
    let r = c.in-Some.ensures.row in
    let base = g.P.Snapshot.base c.args.memory.now.snapshot in
    let row = c.in-Some.row in (
      row,
      r,
      record {
        within = row_fits (g.P.Snapshot.size c.args.memory.now.snapshot) c.args.written.now c.args.place row r
            c.requires.within;
        here = λ k lt. ap (word_or (base (64 * row + k))) (c.set_row.ensures.here k lt)
            ∙ word_in_part c.args.values.now c.args.place k lt;
        before = λ l lt. ap (word_or (base l)) (c.set_row.ensures.before l lt);
        after = λ l le. ap (word_or (base l)) (c.set_row.ensures.after l le);
        known = c.if-not-has_row.ensures;
        roots = λ l. refl;
      },
    )
