-- Answers of write_all: the last change is put at its own number, and those before it are left to put.
use Rattle.std.proofs.Common.{sym, ap, ◌∙◌}
use Rattle.joined_locations.specs.Changes.{put, put_at}
use Rattle.joined_locations.proofs.Compositions.{put_last, put_empty}
use Rattle.joined_locations.proofs.changes.write_all.Goals as goal

pub loop-change-preserved : goal.loop-change-preserved
loop-change-preserved c =
    let cs = c.pop.new.self.items in
    let ms = c.loop-change.locations in
    ap (λ t. put t cs)
    (c.write_one.ensures ∙ ap (λ n. put_at ms n c.in-Some.change) (c.len.ensures ∙ c.pop.new.self.ok.0))
    ∙ sym (put_last ms cs c.in-Some.change) ∙ ap (put ms) (sym c.in-Some.ensures.items) ∙ c.loop-change.invariant

pub returns : goal.returns
returns c = put_empty c.loop-change.locations c.loop-change.changes.items
    (sym c.loop-change.changes.ok.0 ∙ c.in_default.ensures.cases.0)
    ∙ c.loop-change.invariant
