-- Answers of run: each noted round leads on with a smaller clock, so all reads of the leg are noted.
use Rattle.std.proofs.Common.{◌∙◌, refl, subst}
use mathlib.Core.Bool.{not}
use lib.Dec.{eqb}
use Rattle.rev_code.specs.Step as s
use Rattle.version_map.specs.Deltas.{at}
use Rattle.version_map.specs.Overlay.{under}
use Rattle.block_run.specs.Area.{count}
use Rattle.leg_run.specs.Runs.{reads_of}
use Rattle.leg_run.proofs.IfOn.{none_noted, places_still}
use Rattle.leg_run.specs.Noting.{RoundTo, marks_of}
use Rattle.leg_run.specs.Standing.{state_of}
use Rattle.leg_run.proofs.NotedLegs.{leg_noted, round_on_noting}
use Rattle.leg_run.proofs.Rounding.{ends_leg, round_less}
use Rattle.leg_run.proofs.legs.run.Goals as goal

pub loop-end-init : goal.loop-end-init
loop-end-init g c = record {
  ahead = (
    (state_of c.args.setting.now.code c.args.revision.now.run
        (under c.args.revision.now.memory.delta (g.P.Snapshot.base c.args.revision.now.memory.snapshot))
        (at c.args.revision.now.memory.first.roots)),
    s.none,
    c.requires.stands,
    none_noted _ c.args.notes.now,
  );
  size = refl;
  group = refl;
}

pub loop-end-preserved : goal.loop-end-preserved
loop-end-preserved g c =
    let a = c.loop-end.invariant.ahead in
    record {
      ahead = round_on_noting _ c.args.setting.now.code c.args.setting.now.faultless c.args.setting.now.inputs.items
          c.args.setting.now.share (state_of c.args.setting.now.code c.args.revision.now.run
          (under c.args.revision.now.memory.delta (g.P.Snapshot.base c.args.revision.now.memory.snapshot))
          (at c.args.revision.now.memory.first.roots))
          c.loop-end.revision.run c.go_on.new.run
          (under c.loop-end.revision.memory.delta (g.P.Snapshot.base c.loop-end.revision.memory.snapshot))
          (under c.go_on.new.memory.delta (g.P.Snapshot.base c.go_on.new.memory.snapshot))
          (at c.loop-end.revision.memory.first.roots) (at c.go_on.new.memory.first.roots) c.args.notes.now
          c.loop-end.notes c.go_on.new.notes a
          (subst (λ t.
          RoundTo (not (eqb g.row.NOTING 0)) c.args.setting.now.code c.args.setting.now.inputs.items c.args.setting.now.share a.0 t
          c.go_on.new.run
          (under c.go_on.new.memory.delta (g.P.Snapshot.base c.go_on.new.memory.snapshot))
          (at c.go_on.new.memory.first.roots) c.loop-end.notes c.go_on.new.notes)
          c.in-Goes.is (c.in_ok-go_on.ensures.rounds a.0 a.2));
      size = c.in_ok-go_on.ensures.size ∙ c.loop-end.invariant.size;
      group = c.in_ok-go_on.ensures.group ∙ c.loop-end.invariant.group;
    }

pub loop-end-smaller : goal.loop-end-smaller
loop-end-smaller g c =
    let a = c.loop-end.invariant.ahead in
    round_less c.args.setting.now.code c.args.setting.now.faultless c.args.setting.now.inputs.items
    c.args.setting.now.share c.loop-end.revision.run c.go_on.new.run
    (under c.loop-end.revision.memory.delta (g.P.Snapshot.base c.loop-end.revision.memory.snapshot))
    (under c.go_on.new.memory.delta (g.P.Snapshot.base c.go_on.new.memory.snapshot))
    (at c.loop-end.revision.memory.first.roots) (at c.go_on.new.memory.first.roots) a.0 a.2
    _ c.loop-end.notes c.go_on.new.notes (subst (λ t.
    RoundTo (not (eqb g.row.NOTING 0)) c.args.setting.now.code c.args.setting.now.inputs.items c.args.setting.now.share a.0 t
    c.go_on.new.run
    (under c.go_on.new.memory.delta (g.P.Snapshot.base c.go_on.new.memory.snapshot))
    (at c.go_on.new.memory.first.roots) c.loop-end.notes c.go_on.new.notes)
    c.in-Goes.is (c.in_ok-go_on.ensures.rounds a.0 a.2))

pub go_on-requires-clause-stands : goal.go_on-requires-clause-stands
go_on-requires-clause-stands g c = let a = c.loop-end.invariant.ahead in (a.0, a.2)

pub go_on-requires-clause-places : goal.go_on-requires-clause-places
go_on-requires-clause-places g c =
    let a = c.loop-end.invariant.ahead in
    places_still _ (count c.args.setting.now.code.vars) (count c.args.setting.now.code.vars)
    c.args.setting.now.inputs.items
    c.args.notes.now c.loop-end.notes (marks_of (reads_of a.1)) refl a.3 c.requires.places

pub returns-in-Ends-clause-leg : goal.returns-in-Ends-clause-leg
returns-in-Ends-clause-leg g c =
    let a = c.loop-end.invariant.ahead in
    ends_leg c.args.setting.now.code c.args.setting.now.faultless c.args.setting.now.inputs.items
    c.args.setting.now.share c.go_on.new.run
    (under c.go_on.new.memory.delta (g.P.Snapshot.base c.go_on.new.memory.snapshot))
    (at c.go_on.new.memory.first.roots)
    (state_of c.args.setting.now.code c.args.revision.now.run
    (under c.args.revision.now.memory.delta (g.P.Snapshot.base c.args.revision.now.memory.snapshot))
    (at c.args.revision.now.memory.first.roots))
    a.0 a.1 c.in-Ends.end
    _ c.loop-end.notes c.go_on.new.notes (subst (λ t.
    RoundTo (not (eqb g.row.NOTING 0)) c.args.setting.now.code c.args.setting.now.inputs.items c.args.setting.now.share a.0 t
    c.go_on.new.run
    (under c.go_on.new.memory.delta (g.P.Snapshot.base c.go_on.new.memory.snapshot))
    (at c.go_on.new.memory.first.roots) c.loop-end.notes c.go_on.new.notes)
    c.in-Ends.is (c.in_ok-go_on.ensures.rounds a.0 a.2))

pub returns-in-Ends-clause-noted : goal.returns-in-Ends-clause-noted
returns-in-Ends-clause-noted g c =
    let a = c.loop-end.invariant.ahead in
    leg_noted _ c.args.setting.now.code c.args.setting.now.faultless c.args.setting.now.inputs.items
    c.args.setting.now.share (state_of c.args.setting.now.code c.args.revision.now.run
    (under c.args.revision.now.memory.delta (g.P.Snapshot.base c.args.revision.now.memory.snapshot))
    (at c.args.revision.now.memory.first.roots))
    c.loop-end.revision.run c.go_on.new.run
    (under c.loop-end.revision.memory.delta (g.P.Snapshot.base c.loop-end.revision.memory.snapshot))
    (under c.go_on.new.memory.delta (g.P.Snapshot.base c.go_on.new.memory.snapshot))
    (at c.loop-end.revision.memory.first.roots) (at c.go_on.new.memory.first.roots) c.args.notes.now
    c.loop-end.notes c.go_on.new.notes a c.in-Ends.end
    (subst (λ t.
    RoundTo (not (eqb g.row.NOTING 0)) c.args.setting.now.code c.args.setting.now.inputs.items c.args.setting.now.share a.0 t
    c.go_on.new.run
    (under c.go_on.new.memory.delta (g.P.Snapshot.base c.go_on.new.memory.snapshot))
    (at c.go_on.new.memory.first.roots) c.loop-end.notes c.go_on.new.notes)
    c.in-Ends.is (c.in_ok-go_on.ensures.rounds a.0 a.2))
