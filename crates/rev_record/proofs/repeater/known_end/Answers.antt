-- Answers of known_end: a valid entry at the revision's path has the end that it comes to, and else none is valid.
use Rattle.std.proofs.Common.{◌∙◌, sym, subst, arith, true≢false}
use Rattle.revision_machine.specs.Numbered.{paths_of}
use Rattle.rev_vm.specs.Starts.{run_under}
use Rattle.code_memos.specs.Leaf.{IsValid}
use Rattle.rev_record.proofs.Adopting.{known_fits}
use Rattle.rev_record.proofs.Known.{below, path_place}
use Rattle.rev_record.proofs.Legs.{by_path, begins_at}
use Rattle.rev_record.proofs.Repeated.{own_path, refuse_none, refuse_this, entry_here, take, there_at, births_few}
use Rattle.rev_record.proofs.repeater.known_end.Goals as goal

pub path_of-requires : goal.path_of-requires
path_of-requires c =
    let q = c.requires in (paths_of q.0, c.births-births.ensures (run_under c.args.setting.now) q.0 q.4)

pub index-entry-requires : goal.index-entry-requires
index-entry-requires c =
    let ks = c.args.memo.now.entries.items in
    let x = path_place ks c.in-Some.place c.in_ok-path.path (rw c.in-Some.is at c.place_of.ensures) in
    let less = below ks c.in-Some.place x.0 x.1 in
    let many = c.args.memo.now.entries.ok.0 in
    omega (arith, less, many)

pub is_valid-requires-clause-names : goal.is_valid-requires-clause-names
is_valid-requires-clause-names c =
    let q = c.requires in (paths_of q.0, c.births-births.ensures (run_under c.args.setting.now) q.0 q.4)

pub is_valid-requires-clause-begins : goal.is_valid-requires-clause-begins
is_valid-requires-clause-begins c =
    let q = c.requires in
    let s = run_under c.args.setting.now in
    let ok = c.args.setting.now.faultless in (
      paths_of q.0,
      (by_path s ok q.1 q.0 q.3 c.args.revision c.args.start.now q.6).begins.begins,
      begins_at s ok q.1 q.0 q.3 c.args.revision c.args.start.now q.6,
    )

pub end_over-requires-clause-few : goal.end_over-requires-clause-few
end_over-requires-clause-few c =
    let q = c.requires in
    let s = run_under c.args.setting.now in
    let m = c.args.memo.now in
    births_few s c.args.setting.now.faultless q.1 q.2 m.entries.items q.5 m.distinct q.0 q.3 c.args.revision
    c.args.start.now q.6 c.births-births.result.now (c.births-births.ensures s q.0 q.4)

pub end_over-requires-clause-entry : goal.end_over-requires-clause-entry
end_over-requires-clause-entry c =
    let q = c.requires in
    let s = run_under c.args.setting.now in
    let ok = c.args.setting.now.faultless in
    let m = c.args.memo.now in
    let names = c.births-births.ensures s q.0 q.4 in
    let place = rw c.in-Some.is at c.place_of.ensures in
    let p = own_path s ok q.1 q.2 m.entries.items q.5 m.distinct q.0 q.3 c.args.revision c.args.start.now q.6
    c.in_ok-path.path (c.in_ok-path.ensures (paths_of q.0) names) in
    let at = there_at s ok q.1 q.2 m.entries.items q.5 m.distinct q.0 q.3 c.args.revision c.args.start.now q.6
    c.in_ok-path.path c.in-Some.place p place c.index-entry.result.now c.index-entry.ensures in
    let y = entry_here s ok q.1 q.2 m.entries.items q.5 m.distinct q.0 q.3 c.args.revision c.args.start.now q.6
    c.in_ok-path.path c.in-Some.place p place c.index-entry.result.now at in (
      s,
      paths_of q.0,
      (by_path s ok q.1 q.0 q.3 c.args.revision c.args.start.now q.6).begins.begins,
      y.known,
      names,
      begins_at s ok q.1 q.0 q.3 c.args.revision c.args.start.now q.6,
      y.stands,
      known_fits c.args.setting.now.code y.known y.for,
    )

pub returns-in-None : goal.returns-in-None
returns-in-None c = λ w fuel es from is stand start.
    let s = run_under c.args.setting.now in
    let ok = c.args.setting.now.faultless in
    let m = c.args.memo.now in
    let p = own_path s ok fuel es m.entries.items stand m.distinct w from c.args.revision c.args.start.now start
    c.in_ok-path.path (c.in_ok-path.ensures (paths_of w) (c.births-births.ensures s w is)) in
    refuse_none s ok fuel es m.entries.items stand m.distinct w from c.args.revision c.args.start.now start
    c.in_ok-path.path p (rw c.in-None.is at c.place_of.ensures)

pub returns-then-branch : goal.returns-then-branch
returns-then-branch c = λ w fuel es from is stand start.
    let s = run_under c.args.setting.now in
    let ok = c.args.setting.now.faultless in
    let m = c.args.memo.now in
    let names = c.births-births.ensures s w is in
    let place = rw c.in-Some.is at c.place_of.ensures in
    let path = c.in_ok-path.ensures (paths_of w) names in
    let p = own_path s ok fuel es m.entries.items stand m.distinct w from c.args.revision c.args.start.now start
    c.in_ok-path.path path in
    let at = there_at s ok fuel es m.entries.items stand m.distinct w from c.args.revision c.args.start.now start
    c.in_ok-path.path c.in-Some.place p place c.index-entry.result.now c.index-entry.ensures in
    let y = entry_here s ok fuel es m.entries.items stand m.distinct w from c.args.revision c.args.start.now start
    c.in_ok-path.path c.in-Some.place p place c.index-entry.result.now at in
    let f = (by_path s ok fuel w from c.args.revision c.args.start.now start).begins.begins in
    let begins = begins_at s ok fuel w from c.args.revision c.args.start.now start in
    let valid =
    subst (λ z. IsValid y.known z f s.inputs) p
    ((c.in_ok-is_valid.ensures (paths_of w) f y.known names begins y.stands).0 c.if-branch.true) in
    take s ok fuel es m.entries.items stand m.distinct w from c.args.revision c.args.start.now start
    c.index-entry.result.now y valid c.in_ok-end.end
    (c.in_ok-end.ensures s (paths_of w) f y.known names begins y.stands
    (known_fits c.args.setting.now.code y.known y.for))

pub returns : goal.returns
returns c = λ w fuel es from is stand start.
    let s = run_under c.args.setting.now in
    let ok = c.args.setting.now.faultless in
    let m = c.args.memo.now in
    let names = c.births-births.ensures s w is in
    let place = rw c.in-Some.is at c.place_of.ensures in
    let path = c.in_ok-path.ensures (paths_of w) names in
    let p = own_path s ok fuel es m.entries.items stand m.distinct w from c.args.revision c.args.start.now start
    c.in_ok-path.path path in
    let at = there_at s ok fuel es m.entries.items stand m.distinct w from c.args.revision c.args.start.now start
    c.in_ok-path.path c.in-Some.place p place c.index-entry.result.now c.index-entry.ensures in
    let y = entry_here s ok fuel es m.entries.items stand m.distinct w from c.args.revision c.args.start.now start
    c.in_ok-path.path c.in-Some.place p place c.index-entry.result.now at in
    let f = (by_path s ok fuel w from c.args.revision c.args.start.now start).begins.begins in
    let begins = begins_at s ok fuel w from c.args.revision c.args.start.now start in
    refuse_this s ok fuel es m.entries.items stand m.distinct w from c.args.revision c.args.start.now start
    c.in_ok-path.path c.in-Some.place p place c.index-entry.result.now at y
    (λ valid.
    (let yes =
    (c.in_ok-is_valid.ensures (paths_of w) f y.known names begins y.stands).1
    (subst (λ z. IsValid y.known z f s.inputs) (sym p) valid) in
    true≢false (sym yes ∙ c.if-branch.false)))
