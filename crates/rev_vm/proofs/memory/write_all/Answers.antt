-- Answers of write_all: one write more, or one row more, makes the memory stand for the locations with that written.
use Rattle.std.proofs.Common.{◌∙◌, ap, refl, sym, get_or, subst, arith}
use Rattle.version_map.specs.Deltas.{at}
use Rattle.version_map.specs.Overlay.{under}
use Rattle.block_run.specs.Remembering.{Wrote}
use Rattle.rev_vm.specs.Rows.{WroteRow}
use Rattle.rev_vm.proofs.Rows.{row_on}
use Rattle.rev_vm.proofs.Writing.{IsOn, all_on, goes_on, no_entry}
use Rattle.rev_vm.proofs.memory.write_all.Goals as goal

pub loop-at-preserved-then-write_row : goal.loop-at-preserved-then-write_row
loop-at-preserved-then-write_row g c =
    let inv = c.loop-at.invariant in
    let did = c.if-write_row.ensures.row refl in
    let kept = c.if-write_row.ensures.snapshot in
    record {
      on = row_on (g.P.Snapshot.size c.args.memory.now.snapshot) c.args.written.now c.args.values.now c.loop-at.at did.0
          (under c.args.memory.now.delta (g.P.Snapshot.base c.args.memory.now.snapshot))
          (at c.args.memory.now.first.roots)
          (under c.loop-at.memory.delta (g.P.Snapshot.base c.loop-at.memory.snapshot))
          (under c.write_row.new.memory.delta (g.P.Snapshot.base c.write_row.new.memory.snapshot))
          (at c.loop-at.memory.first.roots) (at c.write_row.new.memory.first.roots) did.1 c.requires.many
          (subst (λ s.
          WroteRow s did.0 c.loop-at.at c.args.values.now
          (under c.loop-at.memory.delta (g.P.Snapshot.base c.loop-at.memory.snapshot))
          (under c.write_row.new.memory.delta (g.P.Snapshot.base c.write_row.new.memory.snapshot))
          (at c.loop-at.memory.first.roots) (at c.write_row.new.memory.first.roots))
          inv.size did.2) inv.on;
      within = did.1.within;
      size = ap g.P.Snapshot.size kept ∙ inv.size;
      group = ap g.P.Snapshot.group kept ∙ inv.group;
      answered = λ a h. subst (λ s. g.P.Snapshot.answered s a) (sym kept) (inv.answered a h);
    }

pub loop-at-preserved : goal.loop-at-preserved
loop-at-preserved g c =
    let inv = c.loop-at.invariant in
    let test = c.loop-at-test.true in
    let many = c.requires.many in
    let same = c.if-write_row.ensures.none refl in
    let kept = c.if-write_row.ensures.snapshot in
    let size = ap g.P.Snapshot.size kept ∙ inv.size in
    let on = subst (λ m.
    IsOn (g.P.Snapshot.size c.args.memory.now.snapshot) c.args.written.now c.args.values.now c.loop-at.at
    (under c.args.memory.now.delta (g.P.Snapshot.base c.args.memory.now.snapshot)) (at c.args.memory.now.first.roots)
    (under m.delta (g.P.Snapshot.base m.snapshot)) (at m.first.roots)) (sym same) inv.on in
    record {
      on = goes_on (g.P.Snapshot.size c.args.memory.now.snapshot) c.args.written.now c.args.values.now c.loop-at.at
          no_entry _
          (under c.write_row.new.memory.delta (g.P.Snapshot.base c.write_row.new.memory.snapshot))
          (under c.write.new.self.delta (g.P.Snapshot.base c.write.new.self.snapshot)) _
          (at c.write_row.new.memory.first.roots) (at c.write.new.self.first.roots) test (omega (arith, test, many)) on
          (subst (λ s.
          Wrote s (under c.write_row.new.memory.delta (g.P.Snapshot.base c.write_row.new.memory.snapshot))
          (under c.write.new.self.delta (g.P.Snapshot.base c.write.new.self.snapshot))
          (at c.write_row.new.memory.first.roots) (at c.write.new.self.first.roots)
          (get_or c.args.written.now c.loop-at.at no_entry).location (get_or c.args.values.now c.loop-at.at 0))
          size c.write.ensures.wrote);
      within = omega (arith, test);
      size = c.write.ensures.size ∙ size;
      group = c.write.ensures.group ∙ (ap g.P.Snapshot.group kept ∙ inv.group);
      answered = λ a h.
          c.write.ensures.answered a (subst (λ s. g.P.Snapshot.answered s a) (sym kept) (inv.answered a h));
    }

pub returns-clause-wrote : goal.returns-clause-wrote
returns-clause-wrote g c =
    all_on (g.P.Snapshot.size c.args.memory.now.snapshot) c.args.written.now c.args.values.now c.loop-at.at _ _ _ _
    c.loop-at-test.false c.loop-at.invariant.on
