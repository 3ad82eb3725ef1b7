-- Answers of merge_row: eight that follow each other lie within all, and their merges are a part of all.
use Rattle.std.proofs.Common.{rules, ◌≡◌, true, arith}
use Rattle.version_map.specs.declared.end.Written.{Written}
use Rattle.version_map.proofs.RowParts.{eight_part, row_within}
use Rattle.version_map.proofs.joining.merge_row.Goals as goal

abbrev no_entry : Written
no_entry = record { location = 0; value = 0; root = 0 }

pub merge_eight-requires-clause-within : goal.merge_eight-requires-clause-within
merge_eight-requires-clause-within g c =
    let yes : c.follow.result ≡ true = search rules in
    row_within c.args.written.now c.args.at _ (g.M.MergeBy.size c.args.merges.now) no_entry (omega arith)
    (c.follow.ensures.run yes) c.requires.within

pub returns-clause-row : goal.returns-clause-row
returns-clause-row g c =
    let yes : c.follow.result ≡ true = search rules in
    eight_part _ (g.M.MergeBy.merges c.args.merges.now) c.args.mains.now c.args.written.now c.args.at _ _ _ _
    c.merge_eight.result
    (omega (arith, c.requires.mains)) (omega arith) (c.follow.ensures.run yes)
    c.eight_words-main.ensures c.eight_values-join.ensures c.eight_roots-root.ensures c.merge_eight.ensures.value
