-- Answers of most_room: the greater of two is as great as both, so the new room and those before are covered.
use Rattle.std.proofs.Common.{◌≡◌, ◌∙◌, ◌<◌, ◌≤◌, ◌+◌, ℕ, Bool, true, false, Some, refl, sym, ap, arith}
use Rattle.std.specs.Prelude.{nat_lt, slice_get}
use Rattle.std.proofs.lemmas.Bool.Decides.{nat_tests}
use Rattle.std.proofs.lemmas.Option.{get_or_from_slice_get}
use Rattle.fun_run.proofs.room.most_room.Goals as goal
use Rattle.code_soundness.proofs.Lists.{some_within}

pub loop-n-preserved : goal.loop-n-preserved
loop-n-preserved c =
    let greater = c.max-most.ensures in
    let three = c.loop-n.invariant.three in
    record { three = omega (arith, greater, three); each = λ n room lt is. by n room lt is (nat_lt n c.loop-n.n) refl }
  where
    by : (n room : ℕ) → n < c.loop-n.n + 1 → slice_get c.args.rooms.now n ≡ Some room → (d : Bool)
        → nat_lt n c.loop-n.n ≡ d → room ≤ c.max-most.result
    by n room lt is true d =
        let old = c.loop-n.invariant.each n room (grind (arith, nat_tests, d)) is in
        let greater = c.max-most.ensures in
        omega (arith, old, greater)
    by n room lt is false d =
        let same : n ≡ c.loop-n.n = grind (arith, nat_tests, d, lt) in
        let here = ap (λ m. slice_get c.args.rooms.now m) (sym same) ∙ is in
        let found = get_or_from_slice_get c.args.rooms.now c.loop-n.n room 0 here in
        let greater = c.max-most.ensures in
        omega (arith, found, greater)

pub returns-clause-each : goal.returns-clause-each
returns-clause-each c = λ n room is.
    let within = some_within c.args.rooms.now n room is in
    let t = c.loop-n-test.false in
    c.loop-n.invariant.each n room (omega (arith, within, t)) is
