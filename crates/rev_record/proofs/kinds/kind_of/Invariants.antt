-- `kind_of`: one variable after another.
use Rattle.std.proofs.Common.{◌≡◌, drop}
use Rattle.rev_record.specs.Words.{kind_at}
use Rattle.rev_record.proofs.kinds.kind_of.Given as goal

-- the location lies so far behind the variables that are passed
abbrev pub invariant-loop-variable : goal.invariant-loop-variable
invariant-loop-variable l = kind_at l.variables l.location ≡ kind_at (drop l.variable-index l.variables) l.place
