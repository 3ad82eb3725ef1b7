-- What a revision of verified code still has to spend, with all that it forks.
--   weight       entries of a schedule: three for each unit of fuel, three for what a Charge paid
--                in a frame, and two for its end and for its join
--   pay          forks: one for each unit of fuel, and one for what a Charge paid
use Rattle.std.specs.Prelude.{ℕ, ◌+◌, ◌*◌}
use Rattle.rev_code.specs.State.{State}
use Rattle.code_soundness.specs.Prices.{Prices, entry_prices, total}
use Rattle.code_soundness.specs.AcceptedCode.{notes_of}
use Rattle.code_machine.specs.Local.{CodeRun, Phase, running, done, trapped, Local}

module _ {H : Type 0} (g : CodeRun) where
  abbrev pub weight_in : State H → Phase H → ℕ
  weight_in c running = total g.code (notes_of g.code) entry_prices c + 2
  weight_in c done = 3 * c.fuel + 1
  weight_in c (trapped t) = 3 * c.fuel + 1

  abbrev pub weight : Local H → ℕ
  weight l = weight_in l.state l.phase

abbrev pub fork_prices : Prices
fork_prices = record { fuel = 1; paid = 1; other = 0; left = λ len at. 0; each = 0 }

module _ {H : Type 0} (g : CodeRun) where
  abbrev pub pay_in : State H → Phase H → ℕ
  pay_in c running = total g.code (notes_of g.code) fork_prices c
  pay_in c done = c.fuel
  pay_in c (trapped t) = c.fuel

  abbrev pub pay : Local H → ℕ
  pay l = pay_in l.state l.phase
