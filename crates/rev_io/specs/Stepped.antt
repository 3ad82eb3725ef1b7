-- What a source or a sink in memory is, where it moves in steps and fails at chosen calls.
use Rattle.std.specs.Prelude.{ℕ, List}

-- the bytes that are left, the most at a call, the numbers of the calls that fail, the number of
-- the next call, and the count of faults
pub record Feed : Type 0 where
  pub left : List ℕ
  pub step : ℕ
  pub fails : List ℕ
  pub calls : ℕ
  pub faults : ℕ

-- the same of a sink, with the bytes that it holds
pub record Store : Type 0 where
  pub held : List ℕ
  pub step : ℕ
  pub fails : List ℕ
  pub calls : ℕ
  pub faults : ℕ
