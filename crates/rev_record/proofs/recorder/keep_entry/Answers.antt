-- Answers of keep_entry: what the leaf began with, read and left is that of its path in the run, and so is the entry.
use Rattle.std.proofs.Common.{◌∙◌, Some, sym, ap}
use Rattle.std.specs.Prelude.{option_copied}
use Rattle.revision_machine.specs.Numbered.{Listing, paths_of}
use Rattle.rev_vm.specs.Starts.{run_under}
use Rattle.rev_record.proofs.Legs.{by_path, begins_at}
use Rattle.rev_record.proofs.Recorded.{local, leaf, behind, left, not_none, told, named, path_there}
use Rattle.rev_record.proofs.recorder.keep_entry.Goals as goal

pub make_entry-requires-clause-names : goal.make_entry-requires-clause-names
make_entry-requires-clause-names c =
    let q = c.requires in
    let s = run_under c.args.setting.now in
    let ok = c.args.setting.now.faultless in
    let b = behind s ok q.2 q.0 q.3 c.args.revision c.args.start.now q.1 c.args.noted.now c.args.world.now q.4 q.5 in (
      paths_of q.0,
      named s ok q.2 q.0 q.3 c.args.revision c.args.start.now q.1 c.args.noted.now c.args.world.now q.4 q.5
          c.births-births.result.now (c.births-births.ensures s b.entries b.stands),
    )

pub make_entry-requires-clause-begins : goal.make_entry-requires-clause-begins
make_entry-requires-clause-begins c =
    let q = c.requires in
    let s = run_under c.args.setting.now in
    let ok = c.args.setting.now.faultless in (
      paths_of q.0,
      (by_path s ok q.2 q.0 q.3 c.args.revision c.args.start.now q.4.start).begins.begins,
      begins_at s ok q.2 q.0 q.3 c.args.revision c.args.start.now q.4.start,
    )

pub make_entry-requires-clause-locations : goal.make_entry-requires-clause-locations
make_entry-requires-clause-locations c = c.requires.4.rooms

pub make_entry-requires-clause-positions : goal.make_entry-requires-clause-positions
make_entry-requires-clause-positions c = c.requires.4.positions

pub unreachable-requires : goal.unreachable-requires
unreachable-requires c =
    let q = c.requires in
    let s = run_under c.args.setting.now in
    let ok = c.args.setting.now.faultless in
    let b = behind s ok q.2 q.0 q.3 c.args.revision c.args.start.now q.1 c.args.noted.now c.args.world.now q.4 q.5 in
    not_none s ok q.2 q.0 q.3 c.args.revision c.args.start.now q.1 c.args.noted.now c.args.world.now q.4 q.5
    (option_copied c.end_of.result) (c.end_of.ensures s (Listing b.entries) b.stands) (ap option_copied c.in-None.is)

pub returns : goal.returns
returns c = λ w made fuel from was ended.
    let s = run_under c.args.setting.now in
    let ok = c.args.setting.now.faultless in
    let n = c.args.revision in
    let x = c.args.start.now in
    let m = c.args.noted.now in
    let v = c.args.world.now in
    let b = behind s ok fuel w from n x made m v was ended in
    let at = c.end_of.ensures s (Listing b.entries) b.stands in
    let gone =
    left s ok fuel w from n x made m v was ended (option_copied c.end_of.result) at c.in-Some.end.now
    (ap option_copied c.in-Some.is) in
    let t = told s ok fuel w from n x made m v was ended c.in-Some.end.now gone in
    let names =
    named s ok fuel w from n x made m v was ended c.births-births.result.now
    (c.births-births.ensures s b.entries b.stands) in
    record {
      path = was.start.path;
      local = local s ok fuel w from n x made m v was ended;
      leaf = leaf s ok fuel w from n x made m v was ended;
      known = t.known;
      entry = t.entry;
      path_is = t.path;
      kept = c.in_ok-entry-in-Some.entry;
      stands = c.in_ok-entry-in-Some.ensures (paths_of w) t.fresh t.known names
          (path_there s ok fuel w from n x made m v was ended ∙ ap Some (sym t.path)) t.begins t.told;
      more = c.in_ok-push-in-Some.ensures.items;
    }
