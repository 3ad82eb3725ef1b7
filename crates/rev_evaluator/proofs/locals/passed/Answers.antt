-- Answers of passed: a parameter of this name with a value replaces what was found, and any other leaves it.
use Rattle.std.proofs.Common.{◌∙◌, true, false, ap, sym, arith, option_map}
use Rattle.name_tables.specs.Names.{same}
use Rattle.rev_evaluator.specs.Seen.{seen}
use Rattle.rev_evaluator.proofs.Bindings.{passed_turn, unpassed_turn}
use Rattle.rev_evaluator.proofs.locals.passed.Goals.{in-Some+then-eq, in-Some+else-eq, in_default}
use Rattle.rev_evaluator.proofs.locals.passed.Goals as goal

pub loop-i-preserved : goal.loop-i-preserved
loop-i-preserved c =
    let ps = c.args.params.now in
    let xs = c.args.values.now in
    elim c.match-get.branch [
      | in-Some+then-eq w ↦
          passed_turn ps xs c.args.name.now c.loop-i.i c.index-params-i.result (option_map seen c.loop-i.found)
          (option_map seen c.match-get.found) w.in-Some.value.now _ true
          c.loop-i-test.true c.index-params-i.is (let t = w.in-Some.ensures.lookup in omega arith)
          w.in-Some.ensures.lookup.1
          (ap (same c.args.name.now) (sym w.as_slice.ensures.value) ∙ sym w.eq.ensures ∙ w.if-eq.true)
          (ap (option_map seen) w.found-is) c.loop-i.invariant
      | in-Some+else-eq w ↦
          passed_turn ps xs c.args.name.now c.loop-i.i c.index-params-i.result (option_map seen c.loop-i.found)
          (option_map seen c.match-get.found) w.in-Some.value.now _ false
          c.loop-i-test.true c.index-params-i.is (let t = w.in-Some.ensures.lookup in omega arith)
          w.in-Some.ensures.lookup.1
          (ap (same c.args.name.now) (sym w.as_slice.ensures.value) ∙ sym w.eq.ensures ∙ w.if-eq.false)
          (ap (option_map seen) w.found-is) c.loop-i.invariant
      | in_default w ↦
          unpassed_turn ps xs c.args.name.now c.loop-i.i c.index-params-i.result (option_map seen c.loop-i.found)
          (option_map seen c.match-get.found) _ (let t = w.in_default.ensures.lookup in omega arith)
          (ap (option_map seen) w.found-is) c.loop-i.invariant
    ]
