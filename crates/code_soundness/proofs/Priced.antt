-- The two prices.
use Rattle.std.proofs.Common.{ℕ, ◌+◌, ◌≤◌, subst, arith}
use Rattle.code_soundness.specs.Prices.{Bears, leg_prices, entry_prices, total}
use Rattle.code_soundness.specs.Paid.{UsesUp, EveryNumberedStepPays, LegsAreBounded}
use Rattle.code_soundness.proofs.Stepping.{uses}

pub leg_bears : (most : ℕ) → Bears (leg_prices most) most
leg_bears most = record {
  on = λ len at to less inside short. omega (arith, less, inside, short);
  back = λ len at to less short. omega (arith, less, short);
  charge = omega arith;
  call = λ len short. omega (arith, short);
}

pub entry_bears : (most : ℕ) → Bears entry_prices most
entry_bears most = record {
  on = λ len at to less inside short. omega arith;
  back = λ len at to less short. omega arith;
  charge = omega arith;
  call = λ len short. omega arith;
}

pub numbered_pays : EveryNumberedStepPays
numbered_pays s notes certified p most bears short c = uses s notes certified p most bears short c

pub legs_bounded : LegsAreBounded
legs_bounded s notes certified most short c c' e =
    let h : total s.code notes (leg_prices most) c' + 1 ≤ total s.code notes (leg_prices most) c =
    subst (UsesUp s.code notes (leg_prices most) c) e
    (uses s notes certified (leg_prices most) most (leg_bears most) short c) in
    omega (arith, h)
