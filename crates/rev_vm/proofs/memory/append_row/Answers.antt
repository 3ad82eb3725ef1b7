-- Answers of append_row: the words of a row that the delta has are those that are seen there.
use Rattle.std.proofs.Common.{arith, rules, ◌≡◌, ◌∙◌, ◌++◌, length, ap}
use Rattle.version_map.specs.Deltas.{locations}
use Rattle.rev_vm.proofs.Rows.{row_fits, row_seen}
use Rattle.rev_vm.proofs.memory.append_row.Goals as goal

pub has_row-requires : goal.has_row-requires
has_row-requires c =
    row_fits (locations c.args.delta.now) c.args.written.now c.args.place c.in-Some.row c.in-Some.ensures.row
    c.requires.within

pub returns-else-not-has_row-clause-row : goal.returns-else-not-has_row-clause-row
returns-else-not-has_row-clause-row c = λ did.
    let r = c.in-Some.ensures.row in
    let row = c.in-Some.row in
    let fits = row_fits (locations c.args.delta.now) c.args.written.now c.args.place row r c.requires.within in
    let long = c.row_words.ensures.length in
    let many : length c.row_words.result.now ≡ 64 = omega (arith, fits, long) in
    let items : c.extend_from_slice.new.self.items ≡ c.args.words.now.items ++ c.row_words.result.now =
    search rules in (
      r.within,
      λ base. items ∙ ap (λ ws. c.args.words.now.items ++ ws)
          (row_seen c.args.delta.now base c.args.written.now c.args.place row c.row_words.result.now r many
          c.row_words.ensures.words c.if-not-has_row.ensures),
    )
