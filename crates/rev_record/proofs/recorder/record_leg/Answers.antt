-- Answers of record_leg: the blank marks have room for all locations and inputs, so the leg can note its reads.
use Rattle.std.proofs.Common.{◌∙◌, sym, subst}
use Rattle.block_run.proofs.Tables.{few_locations}
use Rattle.code_soundness.proofs.Accepting.{no_fault_accepted}
use Rattle.code_machine_laws.specs.Reached.{IsReached}
use Rattle.code_world.specs.Tables.{IsWorld}
use Rattle.world_runs.specs.KeptByLegs.{KeepsOn}
use Rattle.rev_vm.specs.Starts.{run_under}
use Rattle.rev_record.specs.Legs.{IsRecorded, IsFrom}
use Rattle.rev_record.proofs.Legs.{fresh_live, base_many}
use Rattle.rev_record.proofs.Recorded.{known_leg}
use Rattle.rev_record.proofs.recorder.record_leg.Goals as goal

pub blank_for-requires-clause-inputs : goal.blank_for-requires-clause-inputs
blank_for-requires-clause-inputs g c = c.requires.reached.4.inputs

pub blank_for-requires-clause-locations : goal.blank_for-requires-clause-locations
blank_for-requires-clause-locations g c =
    let q = c.requires.reached in
    let s = run_under c.args.setting.now in
    let ok = c.args.setting.now.faultless in
    let x = fresh_live s c.args.world q.0 c.args.revision c.args.start.now q.5 in
    let many =
    base_many s ok q.3 x.entries (subst (IsFrom s q.3) x.is q.4.from) c.args.revision c.args.start.now x.stands in
    let few = few_locations s.code (no_fault_accepted s.code ok) in
    omega (Rattle.std.proofs.Common.arith, many, few)

pub leg_noting-requires-clause-reached : goal.leg_noting-requires-clause-reached
leg_noting-requires-clause-reached g c = let q = c.requires.reached in (q.0, q.1, q.2)

pub leg_noting-requires-clause-locations : goal.leg_noting-requires-clause-locations
leg_noting-requires-clause-locations g c =
    let q = c.requires.reached in
    let s = run_under c.args.setting.now in
    let ok = c.args.setting.now.faultless in
    let x = fresh_live s c.args.world q.0 c.args.revision c.args.start.now q.5 in
    c.in-Ok.ensures.locations
    ∙ base_many s ok q.3 x.entries (subst (IsFrom s q.3) x.is q.4.from) c.args.revision c.args.start.now x.stands

pub leg_noting-requires-clause-few : goal.leg_noting-requires-clause-few
leg_noting-requires-clause-few g c = c.requires.reached.4.inputs

pub keep_leaf-requires : goal.keep_leaf-requires
keep_leaf-requires g c =
    let q = c.requires.reached in
    let s = run_under c.args.setting.now in
    let b = c.in-Ok.ensures in
    let k = c.in_ok-next.ensures in
    let x = known_leg s c.args.world q.0 c.args.revision c.args.start.now c.in_ok-next.made c.in-Ok.noted
    c.leg_noting.new.noted c.in_ok-next.next q.5 b.blank (k.read q.0 q.1 q.2) (k.answer q.0 q.1 q.2)
    (λ u is. k.noted u (subst (IsReached s) is q.1) (subst (IsWorld s c.args.world) is q.2)) b.locations b.positions in
    (x.entries, q.3, subst (IsFrom s q.3) x.is q.4.from, x.was)

pub returns-in-Ok-keep_leaf-clause-kept : goal.returns-in-Ok-keep_leaf-clause-kept
returns-in-Ok-keep_leaf-clause-kept g c = λ w reached stands fuel rec fresh.
    let s = run_under c.args.setting.now in
    let b = c.in-Ok.ensures in
    let k = c.in_ok-next.ensures in
    let x = known_leg s c.args.world w c.args.revision c.args.start.now c.in_ok-next.made c.in-Ok.noted
    c.leg_noting.new.noted c.in_ok-next.next fresh b.blank (k.read w reached stands) (k.answer w reached stands)
    (λ u is. k.noted u (subst (IsReached s) is reached) (subst (IsWorld s c.args.world) is stands)) b.locations
    b.positions in
    subst
    (λ z. KeepsOn (λ u. IsRecorded s fuel u c.keep_leaf.new.entries.items) s z c.args.revision c.in_ok-next.made.answer)
    (sym x.is)
    (c.in-Ok-keep_leaf.ensures x.entries fuel (subst (λ z. IsRecorded s fuel z c.args.entries.now.items) x.is rec)
    x.was)
