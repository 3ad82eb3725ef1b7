-- `are_values`: one value after another.
use Rattle.std.proofs.Common.{◌≡◌, take}
use Rattle.rev_record.proofs.values.are_values.Given as goal

-- those before are the same
abbrev pub invariant-loop-at : goal.invariant-loop-at
invariant-loop-at l = take l.at l.a ≡ take l.at l.b
