-- Answers of value: each turn keeps what all that waits comes to, and a fun's body is that of an earlier fun.
use Rattle.std.proofs.Common.{◌∙◌, ◌-◌, ◌++◌, get_or, map, refl, sym, ap, arith}
use Rattle.rev_syntax.specs.View.{parameter, expression, expressions}
use Rattle.typed_programs.specs.Definitions.{names_of}
use Rattle.typed_programs.specs.Evaluation as meant
use Rattle.rev_evaluator.specs.Declarations.{declared_by}
use Rattle.rev_evaluator.specs.Environment.{reads}
use Rattle.rev_evaluator.specs.Locals.{local}
use Rattle.rev_evaluator.specs.Seen.{seen}
use Rattle.rev_evaluator.specs.declared.locals.Locals as locals
use Rattle.typed_programs.specs.Weights.{args_within, weight_of, weights_before}
use Rattle.rev_evaluator.proofs.Weighed.{body_weight}
use Rattle.rev_evaluator.specs.Work.{application, comes_to, kept, next_size, next_weight, passed, remains, waiting, waiting_weight}
use Rattle.rev_evaluator.specs.declared.work.Next.TheVariants as next
use Rattle.rev_evaluator.proofs.Counts.{bodies_to, bodies_to-body, bodies_to-before, expression_count-positive}
use Rattle.typed_programs.proofs.Declared.{no_elements}
use Rattle.rev_evaluator.proofs.Evaluations.{applied-none, applied-fault, applied-given, given-bound, given-unbound, on_fault}
use Rattle.rev_evaluator.proofs.Works as w
use Rattle.rev_evaluator.proofs.value.+value.Goals as goal

pub applied-body_value-requires : goal.applied-body_value-requires
applied-body_value-requires g t c =
    let b = bodies_to-before (declared_by c.args.scope.now.expanded.now) c.args.fun c.args.scope.now.within
    c.requires.before in
    λ κs x. (omega arith, x)

pub applied-returns-in-None : goal.applied-returns-in-None
applied-returns-in-None g t c =
    record {
      work = (let u = c.body_value.ensures.work in omega arith);
      answer =
          c.body_value.ensures.answer
          ∙ applied-none (declared_by c.args.scope.now.expanded.now) c.args.scope.now.within
          (reads g.E.Environment.env c.args.scope.now.reads.now) c.args.fun (names_of (map parameter c.args.params.now))
          (local c.args.earlier.now)
          ∙ ap (λ es.
          meant.applied_within (declared_by c.args.scope.now.expanded.now) c.args.scope.now.within
          (reads g.E.Environment.env c.args.scope.now.reads.now) (expressions es) c.args.fun
          (names_of (map parameter c.args.params.now)) (local c.args.earlier.now))
          (sym (no_elements c.args.args.now c.in-None.ensures.cases));
    }

pub applied-returns-in_err-value-in-Some : goal.applied-returns-in_err-value-in-Some
applied-returns-in_err-value-in-Some g t c =
    record {
      work = (let k =
          ap (λ es. args_within (declared_by c.args.scope.now.expanded.now) c.args.scope.now.within (expressions es))
          c.in-Some.ensures.cases.0 in
          let w = c.take_turns.ensures.work in
          omega arith);
      answer =
          on_fault _ _ _ c.from_residual.ensures.1
          (applied-fault (declared_by c.args.scope.now.expanded.now) c.args.scope.now.within
          (reads g.E.Environment.env c.args.scope.now.reads.now) (expression c.in-Some.arg.now)
          (expressions c.in-Some.more.now) c.args.fun _ (names_of (map parameter c.args.params.now))
          (local c.args.earlier.now) c.in_err-value-in-Some.ensures.answer
          ∙ ap (λ es.
          meant.applied_within (declared_by c.args.scope.now.expanded.now) c.args.scope.now.within
          (reads g.E.Environment.env c.args.scope.now.reads.now) (expressions es) c.args.fun
          (names_of (map parameter c.args.params.now)) (local c.args.earlier.now))
          (sym c.in-Some.ensures.cases.0));
    }

pub applied-returns-in_ok-value-in-Some : goal.applied-returns-in_ok-value-in-Some
applied-returns-in_ok-value-in-Some g t c =
    record {
      work = (let k =
          ap (λ es. args_within (declared_by c.args.scope.now.expanded.now) c.args.scope.now.within (expressions es))
          c.in-Some.ensures.cases.0 in
          let w = c.take_turns.ensures.work in
          let u = c.given.ensures.work in
          omega arith);
      answer =
          c.given.ensures.answer
          ∙ applied-given (declared_by c.args.scope.now.expanded.now) c.args.scope.now.within
          (reads g.E.Environment.env c.args.scope.now.reads.now) (expressions c.in-Some.more.now) c.args.fun
          (expression c.in-Some.arg.now) _ (names_of (map parameter c.args.params.now)) (local c.args.earlier.now)
          c.in_ok-value-in-Some.ensures.answer
          ∙ ap (λ es.
          meant.applied_within (declared_by c.args.scope.now.expanded.now) c.args.scope.now.within
          (reads g.E.Environment.env c.args.scope.now.reads.now) (expressions es) c.args.fun
          (names_of (map parameter c.args.params.now)) (local c.args.earlier.now))
          (sym c.in-Some.ensures.cases.0);
    }

pub body_value-returns-in_default : goal.body_value-returns-in_default
unfolding meant.value_of_body
body_value-returns-in_default g t c =
    record {
      work = omega arith;
      answer =
          ap (λ f. meant.value_of_body (declared_by c.args.scope.now.expanded.now) f (local c.args.locals.now))
          (sym c.in_default.is);
    }

pub body_value-take_turns-requires : goal.body_value-take_turns-requires
body_value-take_turns-requires g t c =
    let b = bodies_to-body (declared_by c.args.scope.now.expanded.now) c.in-Some.number
    (expression c.in-Some-body_at.body.now) (sym c.in-Some-body_at.ensures) in
    let e = ap (bodies_to (declared_by c.args.scope.now.expanded.now)) c.in-Some.is in
    λ κs x. (omega arith, x)

pub body_value-returns-in-Some-body_at : goal.body_value-returns-in-Some-body_at
unfolding meant.value_of_body
body_value-returns-in-Some-body_at g t c =
    record {
      work = (let k =
          body_weight (declared_by c.args.scope.now.expanded.now) c.in-Some.number
          (expression c.in-Some-body_at.body.now) (sym c.in-Some-body_at.ensures) in
          let f = ap (weight_of (declared_by c.args.scope.now.expanded.now)) c.in-Some.is in
          let w = c.take_turns.ensures.work in
          omega arith);
      answer =
          c.take_turns.ensures.answer
          ∙ ap
          (meant.body_within (declared_by c.args.scope.now.expanded.now) c.in-Some.number (local c.args.locals.now))
          c.in-Some-body_at.ensures
          ∙ ap (λ f. meant.value_of_body (declared_by c.args.scope.now.expanded.now) f (local c.args.locals.now))
          (sym c.in-Some.is);
    }

pub body_value-returns-in-None : goal.body_value-returns-in-None
unfolding meant.value_of_body
body_value-returns-in-None g t c =
    record {
      work = omega arith;
      answer =
          ap (meant.body_within (declared_by c.args.scope.now.expanded.now) c.in-Some.number (local c.args.locals.now))
          c.in-None.ensures
          ∙ ap (λ f. meant.value_of_body (declared_by c.args.scope.now.expanded.now) f (local c.args.locals.now))
          (sym c.in-Some.is);
    }

-- ---- the values of arguments before an application

pub called-returns-in-Some : goal.called-returns-in-Some
called-returns-in-Some g t c =
    let es = declared_by c.args.scope.now.expanded.now in
    record {
      work = (let l = c.fun_before-fun.ensures.lighter in let u = c.given.ensures.work in omega arith);
      answer =
          c.given.ensures.answer
          ∙ (λ i. meant.given_within es c.args.scope.now.within (reads g.E.Environment.env c.args.scope.now.reads.now)
          (seen c.in-Some.value) (expressions c.args.call.rest.now) c.fun_before-fun.result
          (w.others c.args.values.now c.params_at-params.result.now c.behind-others.result.now c.behind-others.ensures
          i)
          (w.earlier _ (local locals.Empty) (names_of (map parameter c.params_at-params.result.now))
          (map seen c.args.values.now) refl c.arguments-earlier.ensures i))
          ∙ w.given-application es c.args.scope.now.within (reads g.E.Environment.env c.args.scope.now.reads.now)
          c.args.call.name.now.text.items c.fun_before-fun.result
          (names_of (map parameter c.params_at-params.result.now))
          c.fun_before-fun.ensures.meaning c.params_at-params.ensures (map seen c.args.values.now)
          (seen c.in-Some.value) (expressions c.args.call.rest.now)
          ∙ ap (λ o.
          application es c.args.scope.now.within (reads g.E.Environment.env c.args.scope.now.reads.now)
          c.args.call.name.now.text.items (map seen c.args.values.now ++ passed o) (expressions c.args.call.rest.now))
          (sym c.in-Some.is);
    }

pub called-returns-in-None : goal.called-returns-in-None
called-returns-in-None g t c =
    let es = declared_by c.args.scope.now.expanded.now in
    record {
      work = (let l = c.fun_before-fun.ensures.lighter in let u = c.applied.ensures.work in omega arith);
      answer =
          c.applied.ensures.answer
          ∙ (λ i. meant.applied_within es c.args.scope.now.within (reads g.E.Environment.env c.args.scope.now.reads.now)
          (expressions c.args.call.rest.now) c.fun_before-fun.result
          (w.others c.args.values.now c.params_at-params.result.now c.behind-others.result.now c.behind-others.ensures
          i)
          (w.earlier _ (local locals.Empty) (names_of (map parameter c.params_at-params.result.now))
          (map seen c.args.values.now) refl c.arguments-earlier.ensures i))
          ∙ w.applied-application es c.args.scope.now.within (reads g.E.Environment.env c.args.scope.now.reads.now)
          c.args.call.name.now.text.items c.fun_before-fun.result
          (names_of (map parameter c.params_at-params.result.now))
          c.fun_before-fun.ensures.meaning c.params_at-params.ensures (map seen c.args.values.now)
          (expressions c.args.call.rest.now)
          ∙ ap (λ o.
          application es c.args.scope.now.within (reads g.E.Environment.env c.args.scope.now.reads.now)
          c.args.call.name.now.text.items (map seen c.args.values.now ++ passed o) (expressions c.args.call.rest.now))
          (sym c.in-None.is);
    }

-- ---- the turns

pub take_turns-loop-next-init : goal.take_turns-loop-next-init
take_turns-loop-next-init g t c =
    let z = w.remains-none in (
      omega arith,
      omega arith,
      w.starts (declared_by c.args.scope.now.expanded.now) c.args.scope.now.within
          (reads g.E.Environment.env c.args.scope.now.reads.now) c.args.e,
      omega arith,
      refl,
      (let y = w.weight-none (weights_before (declared_by c.args.scope.now.expanded.now) c.args.scope.now.within) in
          omega arith),
    )

pub take_turns-take_turns-requires : goal.take_turns-take_turns-requires
take_turns-take_turns-requires g t c =
    let e = ap next_size c.in-Part.is in
    let s = c.loop-next.invariant.3 in
    let r = w.remains-full c.loop-next.pending c.loop-next.depth
    (let h = c.loop-next.invariant.4 in let g = c.loop-next.invariant.0 in omega arith) (omega arith) in
    λ κs x. (omega arith, x)

pub take_turns-returns-in_err-take_turns-in-Part : goal.take_turns-returns-in_err-take_turns-in-Part
take_turns-returns-in_err-take_turns-in-Part g t c =
    let es = declared_by c.args.scope.now.expanded.now in
    let l = reads g.E.Environment.env c.args.scope.now.reads.now in
    let ps = waiting c.loop-next.pending c.loop-next.depth in
    let vs = kept c.loop-next.values c.loop-next.held in
    record {
      work = (let u = c.take_turns.ensures.work in
          let p = ap (next_weight (weights_before (declared_by c.args.scope.now.expanded.now) c.args.scope.now.within))
          c.in-Part.is in
          let i = c.loop-next.invariant.5 in
          omega arith);
      answer =
          on_fault _ _ _ c.from_residual.ensures.1
          (w.part-fault es c.args.scope.now.within l ps vs c.in-Part.part _ _ c.in_err-take_turns-in-Part.ensures.answer
          (ap (comes_to es c.args.scope.now.within l ps vs) (sym c.in-Part.is) ∙ c.loop-next.invariant.2));
    }

pub take_turns-returns-in_err-value-in-Call : goal.take_turns-returns-in_err-value-in-Call
take_turns-returns-in_err-value-in-Call g t c =
    let es = declared_by c.args.scope.now.expanded.now in
    let l = reads g.E.Environment.env c.args.scope.now.reads.now in
    let ps = waiting c.loop-next.pending c.loop-next.depth in
    let vs = kept c.loop-next.values c.loop-next.held in
    let d = c.in-Call.call in
    record {
      work = (let u = c.called.ensures.work in
          let p = ap (next_weight (weights_before (declared_by c.args.scope.now.expanded.now) c.args.scope.now.within))
          c.in-Call.is in
          let i = c.loop-next.invariant.5 in
          omega arith);
      answer =
          on_fault _ _ _ c.from_residual-in_err-value-in-Call.ensures.1
          (w.call-fault es c.args.scope.now.within l ps vs d _ _
          (c.in_err-value-in-Call.ensures.answer
          ∙ ap (λ xs.
          application es c.args.scope.now.within l d.name.now.text.items (xs ++ passed d.value)
          (expressions d.rest.now))
          (w.values-last c.loop-next.values c.loop-next.held d.before c.saturating_sub-first.result (omega arith)
          c.saturating_sub-first.ensures))
          (ap (comes_to es c.args.scope.now.within l ps vs) (sym c.in-Call.is) ∙ c.loop-next.invariant.2));
    }

pub take_turns-returns-then-depth-eq0 : goal.take_turns-returns-then-depth-eq0
take_turns-returns-then-depth-eq0 g t c =
    let es = declared_by c.args.scope.now.expanded.now in
    let l = reads g.E.Environment.env c.args.scope.now.reads.now in
    let vs = kept c.loop-next.values c.loop-next.held in
    record {
      work = (let i = c.loop-next.invariant.5 in omega arith);
      answer =
          w.ends es c.args.scope.now.within l vs c.in-Value.x _
          (ap (λ k. comes_to es c.args.scope.now.within l (waiting c.loop-next.pending k) vs (next.Value c.in-Value.x))
          (sym c.if-depth-eq0.true)
          ∙ ap (comes_to es c.args.scope.now.within l (waiting c.loop-next.pending c.loop-next.depth) vs)
          (sym c.in-Value.is)
          ∙ c.loop-next.invariant.2);
    }

pub take_turns-returns-in_err-turn-in-Value : goal.take_turns-returns-in_err-turn-in-Value
take_turns-returns-in_err-turn-in-Value g t c =
    let es = declared_by c.args.scope.now.expanded.now in
    let l = reads g.E.Environment.env c.args.scope.now.reads.now in
    let k = c.loop-next.depth - 1 in
    let ps = waiting c.loop-next.pending k in
    let vs = kept c.loop-next.values c.loop-next.held in
    record {
      work = (let i = c.loop-next.invariant.5 in
          let f = ap
          (waiting_weight (weights_before (declared_by c.args.scope.now.expanded.now) c.args.scope.now.within))
          (w.waits-last c.loop-next.pending k c.loop-next.depth
          (get_or c.loop-next.pending k c.index-pending-depth.result) (omega arith)
          (ap (get_or c.loop-next.pending k) c.index-pending-depth.is) (omega arith)) in
          let y = w.weight-step (weights_before (declared_by c.args.scope.now.expanded.now) c.args.scope.now.within)
          (get_or c.loop-next.pending k c.index-pending-depth.result) ps in
          let x = c.give.ensures.paid in
          let cw = w.cost-within (weights_before (declared_by c.args.scope.now.expanded.now) c.args.scope.now.within)
          (get_or c.loop-next.pending k c.index-pending-depth.result) in
          omega arith);
      answer =
          on_fault _ _ _ c.from_residual-in_err-turn-in-Value.ensures.1
          (w.taken es c.args.scope.now.within l (waiting c.loop-next.pending c.loop-next.depth) ps vs
          (get_or c.loop-next.pending k c.index-pending-depth.result) c.in-Value.x _ _
          (w.waits-last c.loop-next.pending k c.loop-next.depth
          (get_or c.loop-next.pending k c.index-pending-depth.result) (omega arith)
          (ap (get_or c.loop-next.pending k) c.index-pending-depth.is) (omega arith))
          (c.in_err-turn-in-Value.ensures.meaning es c.args.scope.now.within ps vs)
          (ap (comes_to es c.args.scope.now.within l (waiting c.loop-next.pending c.loop-next.depth) vs)
          (sym c.in-Value.is)
          ∙ c.loop-next.invariant.2));
    }

pub take_turns-loop-next-smaller-then-depth-lt-ROOM : goal.take_turns-loop-next-smaller-then-depth-lt-ROOM
take_turns-loop-next-smaller-then-depth-lt-ROOM g t c =
    let e = ap next_size c.in-Part.is in
    let b = c.begin-turn.ensures.smaller in
    let q = ap remains c.wait-depth.ensures.waits in
    let r = w.remains-waits c.begin-turn.result.wait (waiting c.loop-next.pending c.loop-next.depth) in
    omega arith

pub take_turns-loop-next-preserved-then-depth-lt-ROOM : goal.take_turns-loop-next-preserved-then-depth-lt-ROOM
take_turns-loop-next-preserved-then-depth-lt-ROOM g t c =
    let es = declared_by c.args.scope.now.expanded.now in
    let l = reads g.E.Environment.env c.args.scope.now.reads.now in
    let ps = waiting c.loop-next.pending c.loop-next.depth in
    let vs = kept c.loop-next.values c.loop-next.held in
    let e = ap next_size c.in-Part.is in
    let b = c.begin-turn.ensures.smaller in
    let q = ap remains c.wait-depth.ensures.waits in
    let r = w.remains-waits c.begin-turn.result.wait ps in
    let s = c.loop-next.invariant.3 in (
      c.wait-depth.ensures.room,
      c.loop-next.invariant.1,
      w.part-begun es c.args.scope.now.within l ps _ vs c.in-Part.part c.begin-turn.result _
          (c.begin-turn.ensures.meaning es c.args.scope.now.within ps vs) c.begin-turn.ensures.keeps_nothing
          c.wait-depth.ensures.waits
          (ap (comes_to es c.args.scope.now.within l ps vs) (sym c.in-Part.is) ∙ c.loop-next.invariant.2),
      omega arith,
      c.wait-depth.ensures.places,
      (let u = c.loop-next.invariant.5 in
          let y = ap (next_weight (weights_before (declared_by c.args.scope.now.expanded.now) c.args.scope.now.within))
          c.in-Part.is in
          let g = c.begin-turn.ensures.lighter
          (weights_before (declared_by c.args.scope.now.expanded.now) c.args.scope.now.within) in
          let h = ap
          (waiting_weight (weights_before (declared_by c.args.scope.now.expanded.now) c.args.scope.now.within))
          c.wait-depth.ensures.waits in
          let k = w.weight-waits (weights_before (declared_by c.args.scope.now.expanded.now) c.args.scope.now.within)
          c.begin-turn.result.wait ps in
          let x = c.begin-turn.ensures.paid in
          omega arith),
    )

pub take_turns-loop-next-preserved-in_ok-take_turns-in-Part :
    goal.take_turns-loop-next-preserved-in_ok-take_turns-in-Part
take_turns-loop-next-preserved-in_ok-take_turns-in-Part g t c =
    let es = declared_by c.args.scope.now.expanded.now in
    let l = reads g.E.Environment.env c.args.scope.now.reads.now in
    let ps = waiting c.loop-next.pending c.loop-next.depth in
    let vs = kept c.loop-next.values c.loop-next.held in
    let e = ap next_size c.in-Part.is in
    let p = expression_count-positive (expression c.in-Part.part.now) in
    let s = c.loop-next.invariant.3 in (
      c.loop-next.invariant.0,
      c.loop-next.invariant.1,
      w.part-value es c.args.scope.now.within l ps vs c.in-Part.part c.in_ok-take_turns-in-Part.field-0 _
          c.in_ok-take_turns-in-Part.ensures.answer
          (ap (comes_to es c.args.scope.now.within l ps vs) (sym c.in-Part.is) ∙ c.loop-next.invariant.2),
      omega arith,
      c.loop-next.invariant.4,
      (let u = c.loop-next.invariant.5 in
          let y = ap (next_weight (weights_before (declared_by c.args.scope.now.expanded.now) c.args.scope.now.within))
          c.in-Part.is in
          let g = c.take_turns.ensures.work in
          omega arith),
    )

pub take_turns-loop-next-preserved-in_ok-value-in-Call : goal.take_turns-loop-next-preserved-in_ok-value-in-Call
take_turns-loop-next-preserved-in_ok-value-in-Call g t c =
    let es = declared_by c.args.scope.now.expanded.now in
    let l = reads g.E.Environment.env c.args.scope.now.reads.now in
    let ps = waiting c.loop-next.pending c.loop-next.depth in
    let vs = kept c.loop-next.values c.loop-next.held in
    let d = c.in-Call.call in
    let e = ap next_size c.in-Call.is in
    let s = c.loop-next.invariant.3 in (
      c.loop-next.invariant.0,
      (let f = c.saturating_sub-first.ensures in omega arith),
      w.call-value es c.args.scope.now.within l ps vs _ d c.in_ok-value-in-Call.value _
          (c.in_ok-value-in-Call.ensures.answer
          ∙ ap (λ xs.
          application es c.args.scope.now.within l d.name.now.text.items (xs ++ passed d.value)
          (expressions d.rest.now))
          (w.values-last c.loop-next.values c.loop-next.held d.before c.saturating_sub-first.result (omega arith)
          c.saturating_sub-first.ensures))
          (w.values-left c.loop-next.values c.loop-next.held d.before c.saturating_sub-first.result (omega arith)
          c.saturating_sub-first.ensures)
          (ap (comes_to es c.args.scope.now.within l ps vs) (sym c.in-Call.is) ∙ c.loop-next.invariant.2),
      omega arith,
      c.loop-next.invariant.4,
      (let u = c.loop-next.invariant.5 in
          let y = ap (next_weight (weights_before (declared_by c.args.scope.now.expanded.now) c.args.scope.now.within))
          c.in-Call.is in
          let g = c.called.ensures.work in
          omega arith),
    )

pub take_turns-loop-next-smaller : goal.take_turns-loop-next-smaller
take_turns-loop-next-smaller g t c =
    let k = c.loop-next.depth - 1 in
    let e = ap next_size c.in-Value.is in
    let p = ap remains (w.waits-last c.loop-next.pending k c.loop-next.depth
    (get_or c.loop-next.pending k c.index-pending-depth.result) (omega arith)
    (ap (get_or c.loop-next.pending k) c.index-pending-depth.is) (omega arith)) in
    let o = w.remains-step (get_or c.loop-next.pending k c.index-pending-depth.result)
    (waiting c.loop-next.pending k) in
    let b = c.in_ok-turn-in-Value.ensures.smaller in
    let q = ap remains c.wait-depth-in-Value.ensures.waits in
    let r = w.remains-waits c.in_ok-turn-in-Value.turn.wait (waiting c.loop-next.pending k) in
    omega arith

pub take_turns-loop-next-preserved : goal.take_turns-loop-next-preserved
take_turns-loop-next-preserved g t c =
    let es = declared_by c.args.scope.now.expanded.now in
    let l = reads g.E.Environment.env c.args.scope.now.reads.now in
    let k = c.loop-next.depth - 1 in
    let ps = waiting c.loop-next.pending k in
    let vs = kept c.loop-next.values c.loop-next.held in
    let last =
    w.waits-last c.loop-next.pending k c.loop-next.depth (get_or c.loop-next.pending k c.index-pending-depth.result)
    (omega arith) (ap (get_or c.loop-next.pending k) c.index-pending-depth.is) (omega arith) in
    let e = ap next_size c.in-Value.is in
    let p = ap remains last in
    let o = w.remains-step (get_or c.loop-next.pending k c.index-pending-depth.result) ps in
    let b = c.in_ok-turn-in-Value.ensures.smaller in
    let q = ap remains c.wait-depth-in-Value.ensures.waits in
    let r = w.remains-waits c.in_ok-turn-in-Value.turn.wait ps in
    let s = c.loop-next.invariant.3 in (
      c.wait-depth-in-Value.ensures.room,
      c.keep-held.ensures.room,
      w.turned es c.args.scope.now.within l ps _ vs _ c.in_ok-turn-in-Value.turn _
          (w.taken es c.args.scope.now.within l (waiting c.loop-next.pending c.loop-next.depth) ps vs
          (get_or c.loop-next.pending k c.index-pending-depth.result) c.in-Value.x _ _ last
          (c.in_ok-turn-in-Value.ensures.meaning es c.args.scope.now.within ps vs)
          (ap (comes_to es c.args.scope.now.within l (waiting c.loop-next.pending c.loop-next.depth) vs)
          (sym c.in-Value.is)
          ∙ c.loop-next.invariant.2))
          c.wait-depth-in-Value.ensures.waits c.keep-held.ensures.keeps,
      omega arith,
      c.wait-depth-in-Value.ensures.places,
      (let u = c.loop-next.invariant.5 in
          let n = ap (next_weight (weights_before (declared_by c.args.scope.now.expanded.now) c.args.scope.now.within))
          c.in-Value.is in
          let f = ap
          (waiting_weight (weights_before (declared_by c.args.scope.now.expanded.now) c.args.scope.now.within)) last in
          let y = w.weight-step (weights_before (declared_by c.args.scope.now.expanded.now) c.args.scope.now.within)
          (get_or c.loop-next.pending k c.index-pending-depth.result) ps in
          let g = c.in_ok-turn-in-Value.ensures.lighter
          (weights_before (declared_by c.args.scope.now.expanded.now) c.args.scope.now.within) in
          let h = ap
          (waiting_weight (weights_before (declared_by c.args.scope.now.expanded.now) c.args.scope.now.within))
          c.wait-depth-in-Value.ensures.waits in
          let z = w.weight-waits (weights_before (declared_by c.args.scope.now.expanded.now) c.args.scope.now.within)
          c.in_ok-turn-in-Value.turn.wait ps in
          let x = c.give.ensures.paid in
          let cw = w.cost-within (weights_before (declared_by c.args.scope.now.expanded.now) c.args.scope.now.within)
          (get_or c.loop-next.pending k c.index-pending-depth.result) in
          omega arith),
    )

-- ---- a value before the arguments that are left

pub given-returns-in-Some : goal.given-returns-in-Some
given-returns-in-Some g t c =
    let es = declared_by c.args.scope.now.expanded.now in
    record {
      work = (let u = c.applied.ensures.work in omega arith);
      answer =
          c.applied.ensures.answer
          ∙ ap (meant.applied_within es c.args.scope.now.within (reads g.E.Environment.env c.args.scope.now.reads.now)
          (expressions c.args.more.now) c.args.fun (names_of (map parameter c.in-Some.others.now)))
          c.bound-inner.ensures
          ∙ given-bound es c.args.scope.now.within (reads g.E.Environment.env c.args.scope.now.reads.now)
          (expressions c.args.more.now) c.args.fun (seen c.args.value) c.in-Some.param.now.name.text.items
          (names_of (map parameter c.in-Some.others.now)) (local c.args.earlier.now)
          ∙ ap (λ ps.
          meant.given_within es c.args.scope.now.within (reads g.E.Environment.env c.args.scope.now.reads.now)
          (seen c.args.value) (expressions c.args.more.now) c.args.fun (names_of (map parameter ps))
          (local c.args.earlier.now))
          (sym c.in-Some.ensures.cases.0);
    }

pub given-returns-in-None : goal.given-returns-in-None
given-returns-in-None g t c =
    let es = declared_by c.args.scope.now.expanded.now in
    let h = no_elements c.args.params.now c.in-None.ensures.cases in
    record {
      work = (let u = c.applied-in-None.ensures.work in omega arith);
      answer =
          c.applied-in-None.ensures.answer
          ∙ ap (λ ps.
          meant.applied_within es c.args.scope.now.within (reads g.E.Environment.env c.args.scope.now.reads.now)
          (expressions c.args.more.now) c.args.fun (names_of (map parameter ps)) (local c.args.earlier.now))
          h
          ∙ given-unbound es c.args.scope.now.within (reads g.E.Environment.env c.args.scope.now.reads.now)
          (expressions c.args.more.now) c.args.fun (seen c.args.value) (local c.args.earlier.now)
          ∙ ap (λ ps.
          meant.given_within es c.args.scope.now.within (reads g.E.Environment.env c.args.scope.now.reads.now)
          (seen c.args.value) (expressions c.args.more.now) c.args.fun (names_of (map parameter ps))
          (local c.args.earlier.now))
          (sym h);
    }
