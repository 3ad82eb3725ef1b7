-- Answers of evaluate: the machine's steps in the block and the values of applied funs lead on to the block's value.
use Rattle.std.proofs.Common.{◌≡◌, ◌∙◌, ℕ, ◌+◌, ◌-◌, ◌<◌, ◌≤◌, List, [], Ok, length, take, reverse, set, sym, ap, refl, arith, subst}
use Rattle.std.specs.Prelude.{slice_get}
use Rattle.rev_code.specs.Step.{params, value_at}
use Rattle.block_run.specs.declared.registers.Registers.{Registers}
use Rattle.version_map.specs.Deltas.{at}
use Rattle.version_map.specs.Overlay.{under}
use Rattle.rev_code.specs.Funs.{fun_start, values}
use Rattle.std.proofs.lemmas.List.{take-set-le}
use Rattle.fun_run.proofs.Slices.{take_shorter}
use Rattle.block_run.specs.Standing.{value, Ahead}
use Rattle.block_run.proofs.Locations.{all_kept}
use Rattle.block_run.proofs.Turning.{below_still, kept_on}
use Rattle.fun_run.specs.Values.{HasRoom, IsArgs, IsValue}
use Rattle.fun_run.proofs.Running.{above, applied_block, args_kinds, arithmetic, class_of, fault_there, faults, fits_there, found, frame_room, given_there, gives, leaving_of, less, not_before, of_value, on_from, room_there, roomy, short, stands_inside, starts, trap_from, turn, value_there, within}
use Rattle.fun_run.proofs.evaluation.+evaluate.Goals as goal

pub begin-r-requires : goal.begin-r-requires
begin-r-requires g t c =
    frame_room c.args.code.now c.requires.accepted c.args.n c.block_at-b.result.now c.block_at-b.ensures
    (class_of c.args.code.now c.args.n c.block_at-b.result.now c.block_at-b.ensures c.requires.value) c.args.low
    (length c.args.words.now) c.requires.room

pub loop-cause-init : goal.loop-cause-init
loop-cause-init g t c = record {
  is = c.block_at-b.ensures;
  long = c.begin-r.auto.words;
  ahead = λ args given.
      starts c.args.code.now c.requires.accepted c.args.n c.block_at-b.result.now c.block_at-b.ensures
      (class_of c.args.code.now c.args.n c.block_at-b.result.now c.block_at-b.ensures c.requires.value) args
      c.args.words.now c.args.low given c.begin-r.new.words c.begin-r.result _ _ c.begin-r.ensures.registers
      c.begin-r.ensures.locals;
  block = ap (λ (z : Registers). z.block) c.begin-r.ensures.registers;
  base = ap (λ (z : Registers). z.base) c.begin-r.ensures.registers;
  below = c.begin-r.ensures.below;
  kept = all_kept _ _ _;
  size = refl;
  group = refl;
}

pub run_block-requires-clause-short : goal.run_block-requires-clause-short
run_block-requires-clause-short g t c =
    short c.args.code.now c.requires.accepted c.args.n c.block_at-b.result.now c.block_at-b.ensures
    (class_of c.args.code.now c.args.n c.block_at-b.result.now c.block_at-b.ensures c.requires.value)

pub run_block-requires-clause-stands : goal.run_block-requires-clause-stands
run_block-requires-clause-stands g t c =
    let inv = c.loop-cause.invariant in
    let q = c.requires.args in
    let a = inv.ahead q.0 q.1 in
    (value c.args.n, a.now, a.here)

pub run_block-requires-clause-room : goal.run_block-requires-clause-room
run_block-requires-clause-room g t c =
    let inv = c.loop-cause.invariant in
    λ place h.
    (let k = roomy c.args.code.now c.requires.accepted c.args.n c.block_at-b.result.now c.block_at-b.ensures
    (class_of c.args.code.now c.args.n c.block_at-b.result.now c.block_at-b.ensures c.requires.value) c.args.low
    (length c.args.words.now) c.requires.room c.loop-cause.r inv.block inv.base place h in
    let e = inv.long in
    omega (arith, k, e))

pub fault_of-requires : goal.fault_of-requires
fault_of-requires g t c =
    let inv = c.loop-cause.invariant in
    let q = c.requires.args in
    let a = inv.ahead q.0 q.1 in
    arithmetic c.args.code.now c.requires.accepted c.args.n c.block_at-b.result.now c.block_at-b.ensures
    (class_of c.args.code.now c.args.n c.block_at-b.result.now c.block_at-b.ensures c.requires.value) q.0
    (args_kinds c.args.code.now c.requires.accepted c.args.n c.block_at-b.result.now c.block_at-b.ensures
    (class_of c.args.code.now c.args.n c.block_at-b.result.now c.block_at-b.ensures c.requires.value) q.0
    c.args.words.now c.args.low q.1)
    c.in-Traps.cause c.run_block.new.words c.run_block.new.registers _ _
    (trap_from c.args.code.now c.args.n c.block_at-b.result.now _ c.loop-cause.words c.run_block.new.words
    c.loop-cause.r c.run_block.new.registers _ _ _ _ a c.in-Traps.cause
    (c.in-Traps.ensures.ends (value c.args.n) a.now a.here))

pub returns-in-Traps-clause-value : goal.returns-in-Traps-clause-value
returns-in-Traps-clause-value g t c = λ args given.
    let a = c.loop-cause.invariant.ahead args given in
    faults c.args.code.now c.requires.accepted c.args.n c.block_at-b.result.now c.block_at-b.ensures
    (class_of c.args.code.now c.args.n c.block_at-b.result.now c.block_at-b.ensures c.requires.value) args
    (args_kinds c.args.code.now c.requires.accepted c.args.n c.block_at-b.result.now c.block_at-b.ensures
    (class_of c.args.code.now c.args.n c.block_at-b.result.now c.block_at-b.ensures c.requires.value) args
    c.args.words.now c.args.low given)
    c.run_block.new.words c.run_block.new.registers _ _ c.in-Traps.cause c.fault_of.result
    (trap_from c.args.code.now c.args.n c.block_at-b.result.now _ c.loop-cause.words c.run_block.new.words
    c.loop-cause.r c.run_block.new.registers _ _ _ _ a c.in-Traps.cause
    (c.in-Traps.ensures.ends (value c.args.n) a.now a.here))
    c.fault_of.ensures

pub returns-in-Traps-clause-kept : goal.returns-in-Traps-clause-kept
returns-in-Traps-clause-kept g t c =
    kept_on c.loop-cause.invariant.size c.loop-cause.invariant.kept
    (c.run_block.ensures.kept
    (class_of c.args.code.now c.args.n c.block_at-b.result.now c.block_at-b.ensures c.requires.value))

pub then_at-requires : goal.then_at-requires
then_at-requires g t c =
    let inv = c.loop-cause.invariant in
    let q = c.requires.args in
    let a = inv.ahead q.0 q.1 in
    let l = leaving_of c.args.code.now c.args.n c.block_at-b.result.now _ c.loop-cause.words c.run_block.new.words
    c.loop-cause.r c.run_block.new.registers _ _ _ _ a c.run_block.result
    (c.run_block.ensures.ends (value c.args.n) a.now a.here) c.in_default.not-Traps in
    let on = on_from c.args.code.now c.args.n c.block_at-b.result.now _ c.loop-cause.words c.run_block.new.words
    c.loop-cause.r c.run_block.new.registers _ _ _ _ a l.ahead in
    let kinds =
    (args_kinds c.args.code.now c.requires.accepted c.args.n c.block_at-b.result.now c.block_at-b.ensures
    (class_of c.args.code.now c.args.n c.block_at-b.result.now c.block_at-b.ensures c.requires.value) q.0
    c.args.words.now c.args.low q.1) in
    turn c.args.code.now c.requires.accepted c.args.n c.block_at-b.result.now c.block_at-b.ensures
    (class_of c.args.code.now c.args.n c.block_at-b.result.now c.block_at-b.ensures c.requires.value) q.0 kinds
    c.run_block.new.words c.run_block.new.registers _ _ on l.instr l.at l.leaves

pub returns-in-Gives : goal.returns-in-Gives
returns-in-Gives g t c = record {
  value = λ args given.
      let a = c.loop-cause.invariant.ahead args given in
      let l = leaving_of c.args.code.now c.args.n c.block_at-b.result.now _ c.loop-cause.words c.run_block.new.words
      c.loop-cause.r c.run_block.new.registers _ _ _ _ a c.run_block.result
      (c.run_block.ensures.ends (value c.args.n) a.now a.here) c.in_default.not-Traps in
      let on = on_from c.args.code.now c.args.n c.block_at-b.result.now _ c.loop-cause.words c.run_block.new.words
      c.loop-cause.r c.run_block.new.registers _ _ _ _ a l.ahead in
      let kinds =
      (args_kinds c.args.code.now c.requires.accepted c.args.n c.block_at-b.result.now c.block_at-b.ensures
      (class_of c.args.code.now c.args.n c.block_at-b.result.now c.block_at-b.ensures c.requires.value) args
      c.args.words.now c.args.low given) in
      subst (λ w. IsValue (value_at (slice_get (values c.args.code.now) c.args.n) args) (Ok w)) (sym c.top_word.ensures)
      (gives c.args.code.now c.requires.accepted c.args.n c.block_at-b.result.now c.block_at-b.ensures
      (class_of c.args.code.now c.args.n c.block_at-b.result.now c.block_at-b.ensures c.requires.value) args kinds
      c.run_block.new.words c.run_block.new.registers _ _ on c.in-Gives.ensures);
  below = below_still _ _ _ c.loop-cause.invariant.base c.run_block.ensures.below c.loop-cause.invariant.below;
  kept = kept_on c.loop-cause.invariant.size c.loop-cause.invariant.kept
      (c.run_block.ensures.kept
      (class_of c.args.code.now c.args.n c.block_at-b.result.now c.block_at-b.ensures c.requires.value));
  size = c.run_block.ensures.size ∙ c.loop-cause.invariant.size;
  group = c.run_block.ensures.group ∙ c.loop-cause.invariant.group;
}

pub block_at-requires : goal.block_at-requires
block_at-requires g t c =
    let inv = c.loop-cause.invariant in
    let q = c.requires.args in
    let a = inv.ahead q.0 q.1 in
    let l = leaving_of c.args.code.now c.args.n c.block_at-b.result.now _ c.loop-cause.words c.run_block.new.words
    c.loop-cause.r c.run_block.new.registers _ _ _ _ a c.run_block.result
    (c.run_block.ensures.ends (value c.args.n) a.now a.here) c.in_default.not-Traps in
    let on = on_from c.args.code.now c.args.n c.block_at-b.result.now _ c.loop-cause.words c.run_block.new.words
    c.loop-cause.r c.run_block.new.registers _ _ _ _ a l.ahead in
    let kinds =
    (args_kinds c.args.code.now c.requires.accepted c.args.n c.block_at-b.result.now c.block_at-b.ensures
    (class_of c.args.code.now c.args.n c.block_at-b.result.now c.block_at-b.ensures c.requires.value) q.0
    c.args.words.now c.args.low q.1) in
    applied_block c.args.code.now c.requires.accepted c.args.n c.block_at-b.result.now c.block_at-b.ensures
    (class_of c.args.code.now c.args.n c.block_at-b.result.now c.block_at-b.ensures c.requires.value) q.0 kinds
    c.run_block.new.words c.run_block.new.registers _ _ on c.in-Applies.k c.in-Applies.ensures

pub overflow_sub-base : goal.overflow_sub-base
overflow_sub-base g t c =
    let inv = c.loop-cause.invariant in
    let q = c.requires.args in
    let a = inv.ahead q.0 q.1 in
    let l = leaving_of c.args.code.now c.args.n c.block_at-b.result.now _ c.loop-cause.words c.run_block.new.words
    c.loop-cause.r c.run_block.new.registers _ _ _ _ a c.run_block.result
    (c.run_block.ensures.ends (value c.args.n) a.now a.here) c.in_default.not-Traps in
    let on = on_from c.args.code.now c.args.n c.block_at-b.result.now _ c.loop-cause.words c.run_block.new.words
    c.loop-cause.r c.run_block.new.registers _ _ _ _ a l.ahead in
    let kinds =
    (args_kinds c.args.code.now c.requires.accepted c.args.n c.block_at-b.result.now c.block_at-b.ensures
    (class_of c.args.code.now c.args.n c.block_at-b.result.now c.block_at-b.ensures c.requires.value) q.0
    c.args.words.now c.args.low q.1) in
    let u = above c.args.code.now c.requires.accepted c.args.n c.block_at-b.result.now c.block_at-b.ensures
    (class_of c.args.code.now c.args.n c.block_at-b.result.now c.block_at-b.ensures c.requires.value) q.0 kinds
    c.run_block.new.words c.run_block.new.registers _ _ on c.in-Applies.k c.in-Applies.ensures c.block_at.result.now
    c.block_at.ensures in
    let e = c.params_of.ensures in
    omega (arith, u, e)

pub top_word-requires : goal.top_word-requires
top_word-requires g t c =
    let inv = c.loop-cause.invariant in
    let q = c.requires.args in
    let a = inv.ahead q.0 q.1 in
    let l = leaving_of c.args.code.now c.args.n c.block_at-b.result.now _ c.loop-cause.words c.run_block.new.words
    c.loop-cause.r c.run_block.new.registers _ _ _ _ a c.run_block.result
    (c.run_block.ensures.ends (value c.args.n) a.now a.here) c.in_default.not-Traps in
    let on = on_from c.args.code.now c.args.n c.block_at-b.result.now _ c.loop-cause.words c.run_block.new.words
    c.loop-cause.r c.run_block.new.registers _ _ _ _ a l.ahead in
    let kinds =
    (args_kinds c.args.code.now c.requires.accepted c.args.n c.block_at-b.result.now c.block_at-b.ensures
    (class_of c.args.code.now c.args.n c.block_at-b.result.now c.block_at-b.ensures c.requires.value) q.0
    c.args.words.now c.args.low q.1) in
    let wide =
    roomy c.args.code.now c.requires.accepted c.args.n c.block_at-b.result.now c.block_at-b.ensures
    (class_of c.args.code.now c.args.n c.block_at-b.result.now c.block_at-b.ensures c.requires.value) c.args.low
    (length c.args.words.now) c.requires.room c.run_block.new.registers
    (c.run_block.ensures.block ∙ c.loop-cause.invariant.block)
    (c.run_block.ensures.base ∙ c.loop-cause.invariant.base) in
    let long : length c.run_block.new.words ≡ length c.args.words.now =
    c.run_block.auto.words ∙ c.loop-cause.invariant.long in
    let f = found c.args.code.now c.requires.accepted c.args.n c.block_at-b.result.now c.block_at-b.ensures
    (class_of c.args.code.now c.args.n c.block_at-b.result.now c.block_at-b.ensures c.requires.value) q.0 kinds
    c.run_block.new.words c.run_block.new.registers _ _ on c.in-Gives.ensures in
    let w = within c.args.code.now c.requires.accepted c.args.n c.block_at-b.result.now c.block_at-b.ensures
    (class_of c.args.code.now c.args.n c.block_at-b.result.now c.block_at-b.ensures c.requires.value) q.0 kinds
    c.run_block.new.words c.run_block.new.registers _ _ on (length c.args.words.now) wide in
    record { some = omega (arith, f); within = omega (arith, w, long) }

pub evaluate-requires : goal.evaluate-requires
evaluate-requires g t c = λ κs x.
    let inv = c.loop-cause.invariant in
    let q = c.requires.args in
    let a = inv.ahead q.0 q.1 in
    let l = leaving_of c.args.code.now c.args.n c.block_at-b.result.now _ c.loop-cause.words c.run_block.new.words
    c.loop-cause.r c.run_block.new.registers _ _ _ _ a c.run_block.result
    (c.run_block.ensures.ends (value c.args.n) a.now a.here) c.in_default.not-Traps in
    let on = on_from c.args.code.now c.args.n c.block_at-b.result.now _ c.loop-cause.words c.run_block.new.words
    c.loop-cause.r c.run_block.new.registers _ _ _ _ a l.ahead in
    let kinds =
    (args_kinds c.args.code.now c.requires.accepted c.args.n c.block_at-b.result.now c.block_at-b.ensures
    (class_of c.args.code.now c.args.n c.block_at-b.result.now c.block_at-b.ensures c.requires.value) q.0
    c.args.words.now c.args.low q.1) in
    let wide =
    roomy c.args.code.now c.requires.accepted c.args.n c.block_at-b.result.now c.block_at-b.ensures
    (class_of c.args.code.now c.args.n c.block_at-b.result.now c.block_at-b.ensures c.requires.value) c.args.low
    (length c.args.words.now) c.requires.room c.run_block.new.registers
    (c.run_block.ensures.block ∙ c.loop-cause.invariant.block)
    (c.run_block.ensures.base ∙ c.loop-cause.invariant.base) in
    let long : length c.run_block.new.words ≡ length c.args.words.now =
    c.run_block.auto.words ∙ c.loop-cause.invariant.long in
    let w = within c.args.code.now c.requires.accepted c.args.n c.block_at-b.result.now c.block_at-b.ensures
    (class_of c.args.code.now c.args.n c.block_at-b.result.now c.block_at-b.ensures c.requires.value) q.0 kinds
    c.run_block.new.words c.run_block.new.registers _ _ on (length c.args.words.now) wide in
    let inside : c.run_block.new.registers.top ≤ length c.run_block.new.words = omega (arith, w, long) in
    let there =
    subst (λ m.
    IsArgs c.args.code.now c.in-Applies.k (reverse (take (length (params c.block_at.result.now)) on.now.stack))
    c.run_block.new.words (c.run_block.new.registers.top - m))
    (sym c.params_of.ensures)
    (given_there c.args.code.now c.requires.accepted c.args.n c.block_at-b.result.now c.block_at-b.ensures
    (class_of c.args.code.now c.args.n c.block_at-b.result.now c.block_at-b.ensures c.requires.value) q.0 kinds
    c.run_block.new.words c.run_block.new.registers _ _ on c.in-Applies.k c.in-Applies.ensures c.block_at.result.now
    c.block_at.ensures inside) in
    let s = less c.args.code.now c.requires.accepted c.args.n c.block_at-b.result.now c.block_at-b.ensures
    (class_of c.args.code.now c.args.n c.block_at-b.result.now c.block_at-b.ensures c.requires.value) q.0 kinds
    c.run_block.new.words c.run_block.new.registers _ _ on c.in-Applies.k c.in-Applies.ensures c.block_at.result.now
    c.block_at.ensures in
    let d = c.decreases in
    let room =
    subst (λ z. HasRoom c.args.code.now c.in-Applies.k (c.run_block.new.registers.top - c.params_of.result) z)
    (sym long) (subst
    (λ m. HasRoom c.args.code.now c.in-Applies.k (c.run_block.new.registers.top - m) (length c.args.words.now))
    (sym c.params_of.ensures)
    (room_there c.args.code.now c.requires.accepted c.args.n c.block_at-b.result.now c.block_at-b.ensures
    (class_of c.args.code.now c.args.n c.block_at-b.result.now c.block_at-b.ensures c.requires.value) q.0 kinds
    c.run_block.new.words c.run_block.new.registers _ _ on c.in-Applies.k c.in-Applies.ensures c.block_at.result.now
    c.block_at.ensures c.args.low (length c.args.words.now) c.requires.room (c.run_block.ensures.base ∙ inv.base))) in (
      omega (arith, s, d),
      (
        x.0,
        (
          x.1,
          (
            c.requires.accepted,
            (
              c.requires.table,
              (
                c.run_block.ensures.size ∙ inv.size ∙ c.requires.size,
                (
                  of_value c.args.code.now c.requires.accepted c.args.n c.block_at-b.result.now c.block_at-b.ensures
                      (class_of c.args.code.now c.args.n c.block_at-b.result.now c.block_at-b.ensures c.requires.value)
                      q.0 kinds c.run_block.new.words c.run_block.new.registers _ _ on c.in-Applies.k
                      c.in-Applies.ensures c.block_at.result.now c.block_at.ensures,
                  (room, (reverse (take (length (params c.block_at.result.now)) on.now.stack), there)),
                ),
              ),
            ),
          ),
        ),
      ),
    )

pub go_on-requires : goal.go_on-requires
go_on-requires g t c =
    let inv = c.loop-cause.invariant in
    let q = c.requires.args in
    let a = inv.ahead q.0 q.1 in
    let l = leaving_of c.args.code.now c.args.n c.block_at-b.result.now _ c.loop-cause.words c.run_block.new.words
    c.loop-cause.r c.run_block.new.registers _ _ _ _ a c.run_block.result
    (c.run_block.ensures.ends (value c.args.n) a.now a.here) c.in_default.not-Traps in
    let on = on_from c.args.code.now c.args.n c.block_at-b.result.now _ c.loop-cause.words c.run_block.new.words
    c.loop-cause.r c.run_block.new.registers _ _ _ _ a l.ahead in
    let kinds =
    (args_kinds c.args.code.now c.requires.accepted c.args.n c.block_at-b.result.now c.block_at-b.ensures
    (class_of c.args.code.now c.args.n c.block_at-b.result.now c.block_at-b.ensures c.requires.value) q.0
    c.args.words.now c.args.low q.1) in
    let wide =
    roomy c.args.code.now c.requires.accepted c.args.n c.block_at-b.result.now c.block_at-b.ensures
    (class_of c.args.code.now c.args.n c.block_at-b.result.now c.block_at-b.ensures c.requires.value) c.args.low
    (length c.args.words.now) c.requires.room c.run_block.new.registers
    (c.run_block.ensures.block ∙ c.loop-cause.invariant.block)
    (c.run_block.ensures.base ∙ c.loop-cause.invariant.base) in
    let long : length c.run_block.new.words ≡ length c.args.words.now =
    c.run_block.auto.words ∙ c.loop-cause.invariant.long in
    let w = within c.args.code.now c.requires.accepted c.args.n c.block_at-b.result.now c.block_at-b.ensures
    (class_of c.args.code.now c.args.n c.block_at-b.result.now c.block_at-b.ensures c.requires.value) q.0 kinds
    c.run_block.new.words c.run_block.new.registers _ _ on (length c.args.words.now) wide in
    let inside : c.run_block.new.registers.top ≤ length c.run_block.new.words = omega (arith, w, long) in
    let there =
    subst (λ m.
    IsArgs c.args.code.now c.in-Applies.k (reverse (take (length (params c.block_at.result.now)) on.now.stack))
    c.run_block.new.words (c.run_block.new.registers.top - m))
    (sym c.params_of.ensures)
    (given_there c.args.code.now c.requires.accepted c.args.n c.block_at-b.result.now c.block_at-b.ensures
    (class_of c.args.code.now c.args.n c.block_at-b.result.now c.block_at-b.ensures c.requires.value) q.0 kinds
    c.run_block.new.words c.run_block.new.registers _ _ on c.in-Applies.k c.in-Applies.ensures c.block_at.result.now
    c.block_at.ensures inside) in
    let f = fits_there c.args.code.now c.requires.accepted c.args.n c.block_at-b.result.now c.block_at-b.ensures
    (class_of c.args.code.now c.args.n c.block_at-b.result.now c.block_at-b.ensures c.requires.value) q.0 kinds
    c.run_block.new.words c.run_block.new.registers _ _ on c.in-Applies.k c.in-Applies.ensures c.block_at.result.now
    c.block_at.ensures c.in-Ok.value (length c.args.words.now)
    (c.in-Ok.ensures.value (reverse (take (length (params c.block_at.result.now)) on.now.stack)) there) wide in
    let e = c.params_of.ensures in
    let u = c.evaluate.auto.words in
    let p = stands_inside c.args.code.now c.requires.accepted c.args.n c.block_at-b.result.now c.block_at-b.ensures
    (class_of c.args.code.now c.args.n c.block_at-b.result.now c.block_at-b.ensures c.requires.value) q.0 kinds
    c.run_block.new.words c.run_block.new.registers _ _ on in
    let k = short c.args.code.now c.requires.accepted c.args.n c.block_at-b.result.now c.block_at-b.ensures
    (class_of c.args.code.now c.args.n c.block_at-b.result.now c.block_at-b.ensures c.requires.value) in
    record { within = omega (arith, f, e, u, long); place = omega (arith, p, k) }

pub returns-in-Err : goal.returns-in-Err
returns-in-Err g t c =
    let inv = c.loop-cause.invariant in
    let q = c.requires.args in
    let a = inv.ahead q.0 q.1 in
    let l = leaving_of c.args.code.now c.args.n c.block_at-b.result.now _ c.loop-cause.words c.run_block.new.words
    c.loop-cause.r c.run_block.new.registers _ _ _ _ a c.run_block.result
    (c.run_block.ensures.ends (value c.args.n) a.now a.here) c.in_default.not-Traps in
    let on = on_from c.args.code.now c.args.n c.block_at-b.result.now _ c.loop-cause.words c.run_block.new.words
    c.loop-cause.r c.run_block.new.registers _ _ _ _ a l.ahead in
    let kinds =
    (args_kinds c.args.code.now c.requires.accepted c.args.n c.block_at-b.result.now c.block_at-b.ensures
    (class_of c.args.code.now c.args.n c.block_at-b.result.now c.block_at-b.ensures c.requires.value) q.0
    c.args.words.now c.args.low q.1) in
    let up = above c.args.code.now c.requires.accepted c.args.n c.block_at-b.result.now c.block_at-b.ensures
    (class_of c.args.code.now c.args.n c.block_at-b.result.now c.block_at-b.ensures c.requires.value) q.0 kinds
    c.run_block.new.words c.run_block.new.registers _ _ on c.in-Applies.k c.in-Applies.ensures c.block_at.result.now
    c.block_at.ensures in
    let pe = c.params_of.ensures in
    let be = c.run_block.ensures.base ∙ c.loop-cause.invariant.base in
    let beneath : c.args.low ≤ c.run_block.new.registers.top - c.params_of.result = omega (arith, up, pe, be) in
    record {
      value = λ args given.
          let a = c.loop-cause.invariant.ahead args given in
          let l = leaving_of c.args.code.now c.args.n c.block_at-b.result.now _ c.loop-cause.words c.run_block.new.words
          c.loop-cause.r c.run_block.new.registers _ _ _ _ a c.run_block.result
          (c.run_block.ensures.ends (value c.args.n) a.now a.here) c.in_default.not-Traps in
          let on = on_from c.args.code.now c.args.n c.block_at-b.result.now _ c.loop-cause.words c.run_block.new.words
          c.loop-cause.r c.run_block.new.registers _ _ _ _ a l.ahead in
          let kinds =
          (args_kinds c.args.code.now c.requires.accepted c.args.n c.block_at-b.result.now c.block_at-b.ensures
          (class_of c.args.code.now c.args.n c.block_at-b.result.now c.block_at-b.ensures c.requires.value) args
          c.args.words.now c.args.low given) in
          let wide =
          roomy c.args.code.now c.requires.accepted c.args.n c.block_at-b.result.now c.block_at-b.ensures
          (class_of c.args.code.now c.args.n c.block_at-b.result.now c.block_at-b.ensures c.requires.value) c.args.low
          (length c.args.words.now) c.requires.room c.run_block.new.registers
          (c.run_block.ensures.block ∙ c.loop-cause.invariant.block)
          (c.run_block.ensures.base ∙ c.loop-cause.invariant.base) in
          let long : length c.run_block.new.words ≡ length c.args.words.now =
          c.run_block.auto.words ∙ c.loop-cause.invariant.long in
          let w = within c.args.code.now c.requires.accepted c.args.n c.block_at-b.result.now c.block_at-b.ensures
          (class_of c.args.code.now c.args.n c.block_at-b.result.now c.block_at-b.ensures c.requires.value) args kinds
          c.run_block.new.words c.run_block.new.registers _ _ on (length c.args.words.now) wide in
          let inside : c.run_block.new.registers.top ≤ length c.run_block.new.words = omega (arith, w, long) in
          let there =
          subst (λ m.
          IsArgs c.args.code.now c.in-Applies.k (reverse (take (length (params c.block_at.result.now)) on.now.stack))
          c.run_block.new.words (c.run_block.new.registers.top - m))
          (sym c.params_of.ensures)
          (given_there c.args.code.now c.requires.accepted c.args.n c.block_at-b.result.now c.block_at-b.ensures
          (class_of c.args.code.now c.args.n c.block_at-b.result.now c.block_at-b.ensures c.requires.value) args kinds
          c.run_block.new.words c.run_block.new.registers _ _ on c.in-Applies.k c.in-Applies.ensures
          c.block_at.result.now c.block_at.ensures inside) in
          fault_there c.args.code.now c.requires.accepted c.args.n c.block_at-b.result.now c.block_at-b.ensures
          (class_of c.args.code.now c.args.n c.block_at-b.result.now c.block_at-b.ensures c.requires.value) args kinds
          c.run_block.new.words c.run_block.new.registers _ _ on c.in-Applies.k c.in-Applies.ensures
          c.block_at.result.now c.block_at.ensures c.in-Err.fault
          (c.in-Err.ensures.value (reverse (take (length (params c.block_at.result.now)) on.now.stack)) there);
      below = take_shorter c.evaluate.new.words c.run_block.new.words
          (c.run_block.new.registers.top - c.params_of.result) c.args.low beneath c.evaluate.ensures.below
          ∙ below_still _ _ _ c.loop-cause.invariant.base c.run_block.ensures.below c.loop-cause.invariant.below;
      kept = kept_on (c.run_block.ensures.size ∙ c.loop-cause.invariant.size)
          (kept_on c.loop-cause.invariant.size c.loop-cause.invariant.kept
          (c.run_block.ensures.kept
          (class_of c.args.code.now c.args.n c.block_at-b.result.now c.block_at-b.ensures c.requires.value)))
          c.evaluate.ensures.kept;
      size = c.evaluate.ensures.size ∙ c.run_block.ensures.size ∙ c.loop-cause.invariant.size;
      group = c.evaluate.ensures.group ∙ c.run_block.ensures.group ∙ c.loop-cause.invariant.group;
    }

pub loop-cause-smaller : goal.loop-cause-smaller
loop-cause-smaller g t c =
    let inv = c.loop-cause.invariant in
    let q = c.requires.args in
    let a = inv.ahead q.0 q.1 in
    let l = leaving_of c.args.code.now c.args.n c.block_at-b.result.now _ c.loop-cause.words c.run_block.new.words
    c.loop-cause.r c.run_block.new.registers _ _ _ _ a c.run_block.result
    (c.run_block.ensures.ends (value c.args.n) a.now a.here) c.in_default.not-Traps in
    let on = on_from c.args.code.now c.args.n c.block_at-b.result.now _ c.loop-cause.words c.run_block.new.words
    c.loop-cause.r c.run_block.new.registers _ _ _ _ a l.ahead in
    let kinds =
    (args_kinds c.args.code.now c.requires.accepted c.args.n c.block_at-b.result.now c.block_at-b.ensures
    (class_of c.args.code.now c.args.n c.block_at-b.result.now c.block_at-b.ensures c.requires.value) q.0
    c.args.words.now c.args.low q.1) in
    let b = not_before c.args.code.now c.args.n c.block_at-b.result.now _ c.loop-cause.words c.run_block.new.words
    c.loop-cause.r c.run_block.new.registers _ _ _ _ a c.requires.accepted l.ahead in
    let p = stands_inside c.args.code.now c.requires.accepted c.args.n c.block_at-b.result.now c.block_at-b.ensures
    (class_of c.args.code.now c.args.n c.block_at-b.result.now c.block_at-b.ensures c.requires.value) q.0 kinds
    c.run_block.new.words c.run_block.new.registers _ _ on in
    let e = ap (λ (z : Registers). z.at) c.go_on.ensures.registers in
    omega (arith, b, p, e)

pub loop-cause-preserved : goal.loop-cause-preserved
loop-cause-preserved g t c =
    let inv = c.loop-cause.invariant in
    let q = c.requires.args in
    let a = inv.ahead q.0 q.1 in
    let l = leaving_of c.args.code.now c.args.n c.block_at-b.result.now _ c.loop-cause.words c.run_block.new.words
    c.loop-cause.r c.run_block.new.registers _ _ _ _ a c.run_block.result
    (c.run_block.ensures.ends (value c.args.n) a.now a.here) c.in_default.not-Traps in
    let on = on_from c.args.code.now c.args.n c.block_at-b.result.now _ c.loop-cause.words c.run_block.new.words
    c.loop-cause.r c.run_block.new.registers _ _ _ _ a l.ahead in
    let kinds =
    (args_kinds c.args.code.now c.requires.accepted c.args.n c.block_at-b.result.now c.block_at-b.ensures
    (class_of c.args.code.now c.args.n c.block_at-b.result.now c.block_at-b.ensures c.requires.value) q.0
    c.args.words.now c.args.low q.1) in
    let up = above c.args.code.now c.requires.accepted c.args.n c.block_at-b.result.now c.block_at-b.ensures
    (class_of c.args.code.now c.args.n c.block_at-b.result.now c.block_at-b.ensures c.requires.value) q.0 kinds
    c.run_block.new.words c.run_block.new.registers _ _ on c.in-Applies.k c.in-Applies.ensures c.block_at.result.now
    c.block_at.ensures in
    let pe = c.params_of.ensures in
    let be = c.run_block.ensures.base ∙ c.loop-cause.invariant.base in
    let beneath : c.args.low ≤ c.run_block.new.registers.top - c.params_of.result = omega (arith, up, pe, be) in
    record {
      is = c.block_at-b.ensures;
      long = c.go_on.auto.words ∙ c.evaluate.auto.words ∙ c.run_block.auto.words ∙ inv.long;
      ahead = λ args given.
          let a = c.loop-cause.invariant.ahead args given in
          let l = leaving_of c.args.code.now c.args.n c.block_at-b.result.now _ c.loop-cause.words c.run_block.new.words
          c.loop-cause.r c.run_block.new.registers _ _ _ _ a c.run_block.result
          (c.run_block.ensures.ends (value c.args.n) a.now a.here) c.in_default.not-Traps in
          let on = on_from c.args.code.now c.args.n c.block_at-b.result.now _ c.loop-cause.words c.run_block.new.words
          c.loop-cause.r c.run_block.new.registers _ _ _ _ a l.ahead in
          let kinds =
          (args_kinds c.args.code.now c.requires.accepted c.args.n c.block_at-b.result.now c.block_at-b.ensures
          (class_of c.args.code.now c.args.n c.block_at-b.result.now c.block_at-b.ensures c.requires.value) args
          c.args.words.now c.args.low given) in
          let wide =
          roomy c.args.code.now c.requires.accepted c.args.n c.block_at-b.result.now c.block_at-b.ensures
          (class_of c.args.code.now c.args.n c.block_at-b.result.now c.block_at-b.ensures c.requires.value) c.args.low
          (length c.args.words.now) c.requires.room c.run_block.new.registers
          (c.run_block.ensures.block ∙ c.loop-cause.invariant.block)
          (c.run_block.ensures.base ∙ c.loop-cause.invariant.base) in
          let long : length c.run_block.new.words ≡ length c.args.words.now =
          c.run_block.auto.words ∙ c.loop-cause.invariant.long in
          let w = within c.args.code.now c.requires.accepted c.args.n c.block_at-b.result.now c.block_at-b.ensures
          (class_of c.args.code.now c.args.n c.block_at-b.result.now c.block_at-b.ensures c.requires.value) args kinds
          c.run_block.new.words c.run_block.new.registers _ _ on (length c.args.words.now) wide in
          let inside : c.run_block.new.registers.top ≤ length c.run_block.new.words = omega (arith, w, long) in
          let there =
          subst (λ m.
          IsArgs c.args.code.now c.in-Applies.k (reverse (take (length (params c.block_at.result.now)) on.now.stack))
          c.run_block.new.words (c.run_block.new.registers.top - m))
          (sym c.params_of.ensures)
          (given_there c.args.code.now c.requires.accepted c.args.n c.block_at-b.result.now c.block_at-b.ensures
          (class_of c.args.code.now c.args.n c.block_at-b.result.now c.block_at-b.ensures c.requires.value) args kinds
          c.run_block.new.words c.run_block.new.registers _ _ on c.in-Applies.k c.in-Applies.ensures
          c.block_at.result.now c.block_at.ensures inside) in
          let h = c.in-Ok.ensures.value (reverse (take (length (params c.block_at.result.now)) on.now.stack)) there in
          let f = fits_there c.args.code.now c.requires.accepted c.args.n c.block_at-b.result.now c.block_at-b.ensures
          (class_of c.args.code.now c.args.n c.block_at-b.result.now c.block_at-b.ensures c.requires.value) args kinds
          c.run_block.new.words c.run_block.new.registers _ _ on c.in-Applies.k c.in-Applies.ensures
          c.block_at.result.now c.block_at.ensures c.in-Ok.value (length c.args.words.now) h wide in
          let u = c.evaluate.auto.words in
          let fits :
          c.run_block.new.registers.top - length (params c.block_at.result.now) < length c.evaluate.new.words =
          omega (arith, f, u, long) in
          let low_same =
          subst (λ m.
          take (c.run_block.new.registers.top - m) c.evaluate.new.words
          ≡ take (c.run_block.new.registers.top - m) c.run_block.new.words)
          c.params_of.ensures c.evaluate.ensures.below in
          let v = value_there c.args.code.now c.requires.accepted c.args.n c.block_at-b.result.now c.block_at-b.ensures
          (class_of c.args.code.now c.args.n c.block_at-b.result.now c.block_at-b.ensures c.requires.value) args kinds
          c.run_block.new.words c.run_block.new.registers _ _ on c.in-Applies.k c.in-Applies.ensures
          c.block_at.result.now c.block_at.ensures c.in-Ok.value _ c.evaluate.new.words _ _ h
          (c.run_block.ensures.size ∙ c.loop-cause.invariant.size ∙ c.requires.size) c.evaluate.ensures.kept low_same
          fits in
          let A = λ (ws : List ℕ) (r : Registers).
          Ahead c.args.code.now [] (value c.args.n) c.block_at-b.result.now
          (fun_start c.args.n c.block_at-b.result.now args) ws r
          (under c.evaluate.new.memory.delta (g.P.Snapshot.base c.evaluate.new.memory.snapshot))
          (at c.evaluate.new.memory.first.roots) in
          subst (λ r. A c.go_on.new.words r) (sym c.go_on.ensures.registers)
          (subst (λ ws. A ws (record c.run_block.new.registers {
            at = c.run_block.new.registers.at + 1;
            top = c.run_block.new.registers.top - c.params_of.result + 1;
          })) (sym c.go_on.ensures.words)
          (subst (λ m.
          A (set c.evaluate.new.words (c.run_block.new.registers.top - m) c.in-Ok.value)
          (record c.run_block.new.registers {
            at = c.run_block.new.registers.at + 1;
            top = c.run_block.new.registers.top - m + 1;
          })) (sym c.params_of.ensures) v));
      block = ap (λ (z : Registers). z.block) c.go_on.ensures.registers ∙ c.run_block.ensures.block ∙ inv.block;
      base = ap (λ (z : Registers). z.base) c.go_on.ensures.registers ∙ c.run_block.ensures.base ∙ inv.base;
      below = ap (take c.args.low) c.go_on.ensures.words
          ∙ take-set-le c.args.low c.evaluate.new.words (c.run_block.new.registers.top - c.params_of.result)
          c.in-Ok.value beneath
          ∙ take_shorter c.evaluate.new.words c.run_block.new.words (c.run_block.new.registers.top - c.params_of.result)
          c.args.low beneath c.evaluate.ensures.below
          ∙ below_still _ _ _ c.loop-cause.invariant.base c.run_block.ensures.below c.loop-cause.invariant.below;
      kept = kept_on (c.run_block.ensures.size ∙ c.loop-cause.invariant.size)
          (kept_on c.loop-cause.invariant.size c.loop-cause.invariant.kept
          (c.run_block.ensures.kept
          (class_of c.args.code.now c.args.n c.block_at-b.result.now c.block_at-b.ensures c.requires.value)))
          c.evaluate.ensures.kept;
      size = c.evaluate.ensures.size ∙ c.run_block.ensures.size ∙ c.loop-cause.invariant.size;
      group = c.evaluate.ensures.group ∙ c.run_block.ensures.group ∙ c.loop-cause.invariant.group;
    }
