-- Answers of price_laws: each step lowers what a frame may still cost, so legs end and the prices bear all code.
use Rattle.code_soundness.proofs.Priced.{numbered_pays, legs_bounded, leg_bears, entry_bears}
use Rattle.code_soundness.proofs.Once.{once}
use Rattle.code_soundness.proofs.prices.price_laws.Goals as goal

pub returns-clause-steps : goal.returns-clause-steps
returns-clause-steps c = numbered_pays

pub returns-clause-legs : goal.returns-clause-legs
returns-clause-legs c = legs_bounded

pub returns-clause-leg_prices : goal.returns-clause-leg_prices
returns-clause-leg_prices c = leg_bears

pub returns-clause-entry_prices : goal.returns-clause-entry_prices
returns-clause-entry_prices c = entry_bears

pub returns-clause-once : goal.returns-clause-once
returns-clause-once c = once
