-- From the facts of a stage to those of the call.
use Rattle.std.proofs.Common.{ℕ, [], refl, arith}
use Rattle.std.specs.Prelude.{Option, Some, None}
use Rattle.rev_io.specs.Stream.{Stream}
use Rattle.mode_reports.specs.Answer.{Takes}

-- what leaves its source as it was took nothing
pub takes_nothing : (r : Option ℕ) (s : Stream) → Takes r s s
takes_nothing None s = refl
takes_nothing (Some limit) s = ([], omega arith, λ all told. (all, told, refl))
