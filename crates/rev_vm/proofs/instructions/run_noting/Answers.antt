-- Answers of run_noting: what the run has noted is put back, and is what the leg reads.
use Rattle.std.proofs.lemmas.Result.{IfOk-weaker}
use Rattle.version_map.specs.Deltas.{at}
use Rattle.version_map.specs.Overlay.{under}
use Rattle.block_run.specs.Area.{count}
use Rattle.code_machine_laws.specs.LegReads.{leg_reads}
use Rattle.leg_run.specs.Noting.{marks_of}
use Rattle.leg_run.specs.Standing.{state_of}
use Rattle.leg_run.proofs.NotedLegs.{marked_back, places_of}
use Rattle.rev_vm.specs.Starts.{run_under}
use Rattle.rev_vm.proofs.instructions.run_noting.Goals as goal

pub run-end-requires-clause-places : goal.run-end-requires-clause-places
run-end-requires-clause-places g c =
    places_of (count c.args.setting.now.code.vars) c.args.setting.now.inputs.items c.in_ok-notes.notes
    c.args.noted.now c.in_ok-notes.ensures.on (record {
      of_locations = c.requires.locations;
      of_positions = c.requires.positions;
      few = c.requires.few;
    })

pub returns-clause-noted : goal.returns-clause-noted
returns-clause-noted g c =
    IfOk-weaker c.run-end.result _ _ (λ e h.
    marked_back c.args.noted.now c.give_back.new.noted c.in_ok-notes.notes c.run-end.new.notes
    (marks_of (leg_reads (run_under c.args.setting.now) (state_of c.args.setting.now.code c.args.revision.now.run
    (under c.args.revision.now.memory.delta (g.P.Snapshot.base c.args.revision.now.memory.snapshot))
    (at c.args.revision.now.memory.first.roots))))
    c.in_ok-notes.ensures.on c.give_back.ensures.on h)
    c.run-end.ensures.noted
