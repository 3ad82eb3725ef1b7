-- Answers of Stated::part: the indices have the number of the revision's part, and none only where it has no part.
use Rattle.std.proofs.Common.{sym, ◌∙◌}
use Rattle.std.proofs.lemmas.Option.{slice_get_within}
use Rattle.stated_parts.proofs.Finding.{found_part, lost_part, part_at_number}
use Rattle.stated_parts.proofs.stated.Stated.part.Goals as goal

pub nth_part-requires : goal.nth_part-requires
nth_part-requires c =
    let t = c.args.self.now in
    let h = found_part t.parts.now t.indices.map t.indexed c.args.path.now c.in-Some.i
    (sym c.in-Some.is ∙ c.find.ensures) in
    slice_get_within t.parts.now c.in-Some.i h.part h.stands

pub returns-in-Some : goal.returns-in-Some
returns-in-Some c =
    let t = c.args.self.now in
    let h = found_part t.parts.now t.indices.map t.indexed c.args.path.now c.in-Some.i
    (sym c.in-Some.is ∙ c.find.ensures) in
    part_at_number t.parts.now c.in-Some.i c.args.path.now c.nth_part.result.now h c.requires c.nth_part.ensures

pub returns-in-None : goal.returns-in-None
returns-in-None c =
    let t = c.args.self.now in
    sym (lost_part t.parts.now t.indices.map t.indexed c.args.path.now (sym c.in-None.is ∙ c.find.ensures))
