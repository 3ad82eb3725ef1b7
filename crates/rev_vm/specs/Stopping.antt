-- What contracts see of a revision that has ended.
--   StoppedValue   its snapshot, and what it leaves
use Rattle.version_map.specs.declared.end.EndValue.{EndValue}

pub record StoppedValue (P : Type 0) : Type 0 where
  pub snapshot : P
  pub end : EndValue
