-- Answers of keep_leaf: a leg that ends a leaf keeps one entry more, and behind any other the entries are as they were.
use Rattle.std.proofs.Common.{◌∙◌, sym}
use Rattle.revision_machine.specs.Numbered.{Listing}
use Rattle.rev_vm.specs.Starts.{run_under}
use Rattle.rev_record.specs.Legs.{IsRecorded}
use Rattle.rev_record.proofs.Recorded.{recorded_on, recorded_more, keeps_leaf, came_out}
use Rattle.rev_record.proofs.recorder.keep_leaf.Goals as goal

pub keep_entry-requires : goal.keep_entry-requires
keep_entry-requires c =
    let q = c.requires in
    (q.0, c.args.made, q.1, q.2, q.3, sym c.is_leaf.ensures ∙ c.if-is_leaf.true)

pub returns-in_ok-keep_entry : goal.returns-in_ok-keep_entry
returns-in_ok-keep_entry c = λ w fuel rec was.
    let s = run_under c.args.setting.now in
    let ok = c.args.setting.now.faultless in
    let is = sym c.is_leaf.ensures ∙ c.if-is_leaf.true in
    let kept = c.in_ok-keep_entry.ensures w c.args.made fuel rec.from was is in
    keeps_leaf (λ u. IsRecorded s fuel u c.keep_entry.new.entries.items) s (Listing w) c.args.revision
    c.args.made.answer c.args.made.meeting is
    (λ u e. recorded_more s ok fuel w c.args.revision c.args.entries.now.items c.keep_entry.new.entries.items rec kept u
    e)

pub returns-else-is_leaf : goal.returns-else-is_leaf
returns-else-is_leaf c = λ w fuel rec was.
    let s = run_under c.args.setting.now in
    let ok = c.args.setting.now.faultless in
    let is = sym c.is_leaf.ensures ∙ c.if-is_leaf.false in
    recorded_on s ok fuel c.args.entries.now.items w c.args.revision
    (λ r l leaf.
    came_out s w c.args.revision r l leaf c.args.made.answer c.args.made.meeting c.args.world.now is was.answers
    was.meeting)
    rec c.args.made.answer
