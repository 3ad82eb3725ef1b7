-- A number of 32 bits is a count exactly where it is that count up to a bound that 32 bits do not reach.
use Rattle.std.proofs.Common.{◌≡◌, ℕ, ◌<◌, min, nat_eq, arith}
use Rattle.std.proofs.lemmas.Grind.{common_steps}

pub capped : (n sum : ℕ) → n < 4294967296 → nat_eq n (min sum 18446744073709551615) ≡ nat_eq n sum
capped n sum fits = grind (arith, common_steps)
