-- How often something stands in a list.
--   total, times  sums over lists, of rev_num
--   flag b        1 where this is so, and else 0
use Rattle.std.specs.Prelude.{ℕ, Bool, cond}
pub use Rattle.rev_num.specs.Sums.{total, is_at, times}

abbrev pub flag : Bool → ℕ
flag b = cond b 1 0
