-- Answers of run_leg_block: each act is a step of the machine with what it reads, so the way grows act by act.
use Rattle.std.proofs.Common.{Bool, ◌≡◌, ◌∙◌, ℕ, List, Option, ◌<◌, ◌^◌, length, sym, ap, refl, arith, subst}
use Rattle.std.specs.Prelude.{ℤ, slice_get}
use Rattle.rev_code.specs.Step as step
use Rattle.rev_code.specs.declared.code.Code.{Code}
use Rattle.rev_code.specs.declared.code.CodeBlock.{CodeBlock}
use Rattle.rev_code.specs.State.{State}
use Rattle.block_run.specs.declared.registers.Registers.{Registers}
use Rattle.block_run.specs.declared.registers.Stop.{Stop}
use Rattle.block_run.specs.Standing.{Mode}
use Rattle.block_run.specs.Stops.{stop_of}
use Rattle.block_run.specs.declared.notes.Notes.{Notes}
use Rattle.leg_run.specs.Runs.{EndsNoting}
use Rattle.leg_run.proofs.IfOn.{none_noted, places_still}
use Rattle.leg_run.proofs.Rounds.{onward_noting, ended_noting}
use Rattle.block_run.proofs.Loops.{few_locations, not_goes, roomy_still, same_registers}
use Rattle.block_run.proofs.Turning.{inside_now, found_operand, placed, room, smaller, all_same, below_still}
use Rattle.leg_run.proofs.block.run_leg_block.Goals as goal

stopped : (code : Code) (inputs : List ℤ) (m : Mode) (b : CodeBlock) (c : State ℕ) (s s' : Stop) (ws : List ℕ)
    (r r' : Registers) (seen : ℕ → ℕ) (root : ℕ → Option ℕ) (noting : Bool) (old new : Notes)
    → s ≡ s' → r ≡ r' → EndsNoting noting code inputs m b c s ws r seen root old new
    → EndsNoting noting code inputs m b c s' ws r' seen root old new
stopped code inputs m b c s s' ws r r' seen root noting old new e f h =
    subst (λ k. EndsNoting noting code inputs m b c k ws r' seen root old new) e
    (subst (λ q. EndsNoting noting code inputs m b c s ws q seen root old new) f h)

pub loop-x-init : goal.loop-x-init
loop-x-init g c = record {
  instrs = c.as_slice-instrs.ensures;
  next = c.fetch-x.ensures;
  registers = refl;
  words = refl;
  ahead = λ m c0 here. record {
    ahead = record { now = c0; steps = step.none; here = here; same = all_same c0 };
    noted = none_noted _ c.args.notes.now;
  };
  block = refl;
  base = refl;
  below = refl;
  size = refl;
  group = refl;
}

pub fetch-x-requires : goal.fetch-x-requires
fetch-x-requires g c =
    let q = c.requires.stands in
    inside_now c.args.code.now c.requires.accepted c.args.inputs.now q.0 c.args.b.now q.1 c.args.words.now
    c.args.registers.now _ _ q.2 c.requires.block c.as_slice-instrs.result.now c.as_slice-instrs.ensures

pub fetch-x-requires-in-Goes : goal.fetch-x-requires-in-Goes
fetch-x-requires-in-Goes g c =
    let q = c.requires.stands in
    let v = c.loop-x.invariant in
    let n = v.ahead q.0 q.1 q.2 in
    let a = n.ahead in
    let is = ap (slice_get c.args.code.now.blocks) v.block ∙ c.requires.block in
    let at = ap (λ xs. slice_get xs c.loop-x.r.at) (sym v.instrs) ∙ v.next in
    let e = c.in-Goes.ensures in
    let d =
    (onward_noting c.args.code.now c.requires.accepted c.args.inputs.now c.requires.inputs q.0 c.args.b.now a.now
    c.loop-x.words c.loop-x.r _ _ a.here is _ at _ c.args.notes.now c.loop-x.notes
    c.act.new.notes q.1 a.steps n.noted e.marked c.act.new.words c.act.new.r _ _ _
    (few_locations _ _ _ _ v.size c.requires.size a.here.many) e.int a.same e.does e.stays).ahead in
    inside_now c.args.code.now c.requires.accepted c.args.inputs.now q.0 c.args.b.now d.now c.act.new.words
    c.act.new.r _ _ d.here (ap (slice_get c.args.code.now.blocks) e.stays.block ∙ is) c.as_slice-instrs.result.now
    v.instrs

pub act-requires-clause-operand : goal.act-requires-clause-operand
act-requires-clause-operand g c =
    let q = c.requires.stands in
    let v = c.loop-x.invariant in
    let a = (v.ahead q.0 q.1 q.2).ahead in
    let is = ap (slice_get c.args.code.now.blocks) v.block ∙ c.requires.block in
    let at = ap (λ xs. slice_get xs c.loop-x.r.at) (sym v.instrs) ∙ v.next in
    found_operand c.args.code.now c.requires.accepted c.args.inputs.now c.requires.inputs q.0 c.args.b.now a.now
    c.loop-x.words c.loop-x.r _ _ a.here is _ at

pub act-requires-clause-placed : goal.act-requires-clause-placed
act-requires-clause-placed g c =
    let q = c.requires.stands in
    let v = c.loop-x.invariant in
    let a = (v.ahead q.0 q.1 q.2).ahead in
    let is = ap (slice_get c.args.code.now.blocks) v.block ∙ c.requires.block in
    let at = ap (λ xs. slice_get xs c.loop-x.r.at) (sym v.instrs) ∙ v.next in
    let roomy =
    roomy_still c.args.code.now c.args.b.now c.args.registers.now c.loop-x.r (length c.args.words.now)
    (length c.loop-x.words) c.requires.room v.block v.base v.words in
    let few : length c.args.b.now.instrs < 2 ^ 32 = omega (arith, c.requires.short) in
    placed c.args.code.now c.requires.accepted c.args.inputs.now c.requires.inputs q.0 c.args.b.now a.now
    c.loop-x.words c.loop-x.r _ _ a.here is _ at roomy few

pub act-requires-clause-room : goal.act-requires-clause-room
act-requires-clause-room g c =
    let q = c.requires.stands in
    let v = c.loop-x.invariant in
    let a = (v.ahead q.0 q.1 q.2).ahead in
    let is = ap (slice_get c.args.code.now.blocks) v.block ∙ c.requires.block in
    let at = ap (λ xs. slice_get xs c.loop-x.r.at) (sym v.instrs) ∙ v.next in
    let roomy =
    roomy_still c.args.code.now c.args.b.now c.args.registers.now c.loop-x.r (length c.args.words.now)
    (length c.loop-x.words) c.requires.room v.block v.base v.words in
    let few : length c.args.b.now.instrs < 2 ^ 32 = omega (arith, c.requires.short) in
    room c.args.code.now c.requires.accepted c.args.inputs.now c.requires.inputs q.0 c.args.b.now a.now
    c.loop-x.words c.loop-x.r _ _ a.here is _ at roomy few

pub loop-x-smaller : goal.loop-x-smaller
loop-x-smaller g c =
    let q = c.requires.stands in
    let v = c.loop-x.invariant in
    let a = (v.ahead q.0 q.1 q.2).ahead in
    let is = ap (slice_get c.args.code.now.blocks) v.block ∙ c.requires.block in
    let at = ap (λ xs. slice_get xs c.loop-x.r.at) (sym v.instrs) ∙ v.next in
    let e = c.in-Goes.ensures in
    smaller c.args.code.now c.requires.accepted c.args.inputs.now c.requires.inputs q.0 c.args.b.now a.now
    c.loop-x.words c.loop-x.r _ _ a.here is _ at c.act.new.words c.act.new.r _ _ _
    (few_locations _ _ _ _ v.size c.requires.size a.here.many) e.int e.does e.stays

pub loop-x-preserved : goal.loop-x-preserved
loop-x-preserved g c =
    let v = c.loop-x.invariant in
    let is = ap (slice_get c.args.code.now.blocks) v.block ∙ c.requires.block in
    let at = ap (λ xs. slice_get xs c.loop-x.r.at) (sym v.instrs) ∙ v.next in
    let e = c.in-Goes.ensures in
    record {
      instrs = v.instrs;
      next = c.fetch-x-in-Goes.ensures;
      registers = v.registers;
      words = c.act.auto.words ∙ v.words;
      ahead = λ m c0 here.
          let n = v.ahead m c0 here in
          let a = n.ahead in
          onward_noting c.args.code.now c.requires.accepted c.args.inputs.now c.requires.inputs m c.args.b.now a.now
          c.loop-x.words c.loop-x.r _ _ a.here is _ at _ c.args.notes.now c.loop-x.notes c.act.new.notes
          c0 a.steps n.noted e.marked c.act.new.words c.act.new.r _ _ _
          (few_locations _ _ _ _ v.size c.requires.size a.here.many) e.int a.same e.does e.stays;
      block = e.stays.block ∙ v.block;
      base = e.stays.base ∙ v.base;
      below = below_still _ _ _ v.base e.stays.below v.below;
      size = e.size ∙ v.size;
      group = e.group ∙ v.group;
    }

pub act-requires-clause-places : goal.act-requires-clause-places
act-requires-clause-places g c =
    let q = c.requires.stands in
    let v = c.loop-x.invariant in
    places_still _ _ _ c.args.inputs.now c.args.notes.now c.loop-x.notes _ (v.size ∙ c.requires.size)
    (v.ahead q.0 q.1 q.2).noted c.requires.places

pub returns-in_default : goal.returns-in_default
returns-in_default g c =
    let v = c.loop-x.invariant in
    let is = ap (slice_get c.args.code.now.blocks) v.block ∙ c.requires.block in
    let at = ap (λ xs. slice_get xs c.loop-x.r.at) (sym v.instrs) ∙ v.next in
    let e = c.act.ensures in
    let was : c.loop-x.registers ≡ c.args.registers.now = v.registers in
    let same =
    same_registers c.loop-x.registers c.act.new.r
    (e.stays.block ∙ v.block ∙ sym (ap (λ (r : Registers). r.block) was))
    (e.stays.base ∙ v.base ∙ sym (ap (λ (r : Registers). r.base) was)) in
    record {
      ends = λ m c0 here.
          let n = v.ahead m c0 here in
          let a = n.ahead in
          stopped c.args.code.now c.args.inputs.now m c.args.b.now c0 _ _ c.act.new.words _ _ _ _
          _ c.args.notes.now c.act.new.notes (sym c.stop.ensures) same
          (ended_noting c.args.code.now c.requires.accepted c.args.inputs.now c.requires.inputs m c.args.b.now a.now
          c.loop-x.words c.loop-x.r _ _ a.here is _ at _ c.args.notes.now c.loop-x.notes c.act.new.notes
          c0 a.steps n.noted e.marked c.act.new.words c.act.new.r _ _ _
          (few_locations _ _ _ _ v.size c.requires.size a.here.many) e.int a.same (stop_of c.act.result) e.does e.stays
          (not_goes c.act.result c.in_default.not-Goes));
      block = ap (λ (r : Registers). r.block) was;
      base = ap (λ (r : Registers). r.base) was;
      below = below_still _ _ _ v.base e.stays.below v.below;
      size = e.size ∙ v.size;
      group = e.group ∙ v.group;
    }
