-- Answers of read_all: a read changes no word that is seen, so the next words that are read are those seen at first.
use Rattle.std.proofs.Common.{◌∙◌, ◌+◌, ◌++◌, [], ◌∷◌, ap, arith, get_or, map, take, drop, refl}
use Rattle.version_map.specs.Overlay.{under}
use Rattle.block_run.proofs.Turning.{kept_on}
use Rattle.rev_vm.proofs.Rows.{map_part, seen_part}
use Rattle.rev_vm.proofs.Writing.{map_more, no_entry}
use Rattle.rev_vm.proofs.memory.read_all.Goals as goal

pub loop-at-preserved-then-append_row : goal.loop-at-preserved-then-append_row
loop-at-preserved-then-append_row g c =
    let inv = c.loop-at.invariant in
    let at = c.loop-at.at in
    let ws = c.args.written.now in
    let first = under c.args.memory.now.delta (g.P.Snapshot.base c.args.memory.now.snapshot) in
    let now = under c.loop-at.memory.delta (g.P.Snapshot.base c.loop-at.memory.snapshot) in
    let did = c.if-append_row.ensures.row refl in
    let more = did.1 (g.P.Snapshot.base c.loop-at.memory.snapshot)
    ∙ ap (λ xs. c.loop-at.words.items ++ xs)
    (seen_part first now (g.P.Snapshot.size c.args.memory.now.snapshot) inv.kept.words ws at 64 c.requires.within) in
    let a = c.if-append_row.ensures.room in
    let b = inv.room in
    record {
      words = more ∙ (ap (λ xs. xs ++ map (λ w. first w.location) (take 64 (drop at ws))) inv.words
          ∙ map_part (λ w. first w.location) ws at 64);
      within = did.0;
      many = c.if-append_row.ensures.many refl ∙ ap (λ n. n + 64) inv.many;
      room = omega (arith, a, b);
      kept = inv.kept;
      size = inv.size;
      group = inv.group;
      answered = inv.answered;
    }

pub loop-at-preserved : goal.loop-at-preserved
loop-at-preserved g c =
    let inv = c.loop-at.invariant in
    let test = c.loop-at-test.true in
    let small = c.requires.within c.loop-at.at no_entry test in
    let value =
    c.read.ensures.value ∙ inv.kept.words (get_or c.args.written.now c.loop-at.at no_entry).location small in
    let before = c.if-append_row.ensures.none refl ∙ inv.words in
    let a = c.if-append_row.ensures.room in
    let b = inv.room in
    let same = c.push_reserved.ensures.capacity in
    record {
      words = c.push_reserved.ensures.items ∙ (λ i. before i ++ value i ∷ [])
          ∙ map_more (λ w. under c.args.memory.now.delta (g.P.Snapshot.base c.args.memory.now.snapshot) w.location)
          c.args.written.now c.loop-at.at no_entry test;
      within = omega (arith, test);
      many = c.push_reserved.ensures.len ∙ ap (λ n. n + 1) (c.if-append_row.ensures.as_many refl ∙ inv.many);
      room = omega (arith, a, b, same);
      kept = kept_on inv.size inv.kept c.read.ensures.kept;
      size = c.read.ensures.size ∙ inv.size;
      group = c.read.ensures.group ∙ inv.group;
      answered = λ a h. c.read.ensures.answered a (inv.answered a h);
    }
