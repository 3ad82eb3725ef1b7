-- Answers of births_of: a forker stands before its child and has few forks, so the child takes its next place.
use Rattle.std.proofs.Common.{◌++◌, [], ◌∷◌, ap, ◌∙◌, arith}
use Rattle.code_world.specs.declared.table.Birth.{Birth}
use Rattle.thread_runs.proofs.Bearing.{first_birth, forker_inside, forks_inside, births_next, all_births}
use Rattle.thread_runs.proofs.births.births_of.Goals as goal

abbrev first : Birth
first = record { forker = 0; place = 0; forks = 0 }

pub loop-number-init : goal.loop-number-init
loop-number-init c =
    first_birth c.args.forkers.now c.push.new.self.items c.requires.first
    ((c.in_ok-push.ensures).items ∙ ap (λ bs. bs ++ first ∷ []) c.in_ok-births.ensures.items)

pub bear-requires-clause-forker : goal.bear-requires-clause-forker
bear-requires-clause-forker c =
    forker_inside c.args.forkers.now c.requires.earlier c.loop-number.number c.loop-number-test.true
    c.loop-number.auto.number c.loop-number.births.items c.loop-number.invariant

pub bear-requires-clause-few : goal.bear-requires-clause-few
bear-requires-clause-few c =
    forks_inside c.args.forkers.now c.requires.earlier c.loop-number.number c.loop-number-test.true
    c.loop-number.auto.number c.loop-number.births.items c.loop-number.invariant c.requires.few

pub loop-number-preserved : goal.loop-number-preserved
loop-number-preserved c =
    let b = c.in_ok-bear.ensures in
    births_next c.args.forkers.now c.requires.earlier c.loop-number.number c.loop-number-test.true
    c.loop-number.auto.number c.loop-number.births.items c.loop-number.invariant c.bear.new.births.items b.0 b.1 b.2

pub returns : goal.returns
returns c =
    let out = c.loop-number-test.false in
    all_births c.args.forkers.now c.loop-number.number c.loop-number.births.items (omega (arith, out))
    c.loop-number.invariant
