-- What is read of a local state.
--
-- `place_in` tests an index; `shared_at` and `location_at` read a shared variable by its row; `listed` and `prefixed`
-- are answers with several values.
use Rattle.std.specs.declared.alloc.Global.{Global}
use Rattle.std.specs.Prelude.{ℕ, ◌+◌, ℤ, pos, negsuc, nat_lt, if◌then◌else◌, Option, Some, None, Result, Ok, Err, List, ◌++◌, Vec}
use Rattle.rev_num.specs.declared.value.Value.{Value}
use Rattle.rev_num.specs.declared.value.Value.TheVariants as v
use Rattle.rev_num.specs.declared.outcome.Cause.{Cause}
use Rattle.rev_num.specs.declared.outcome.Cause.TheVariants as cause
use Rattle.typed_programs.specs.Value.{Shared, unknown, scalar, array}
use Rattle.typed_programs.specs.declared.shared_info.SharedInfo.{SharedInfo}
use Rattle.revision_calculus.specs.State.{Location, view_at}

-- this value, or the number 0
abbrev pub or_zero : Option Value → Value
or_zero None = v.Int (pos 0)
or_zero (Some x) = x

-- the index, if it is one of this many
abbrev pub place_in : ℕ → ℤ → Option ℕ
place_in count (pos i) = if nat_lt i count then Some i else None
place_in count (negsuc i) = None

-- how a shared variable with this row reads in the view
abbrev pub shared_at : Option SharedInfo → List Location → Shared
shared_at None locations = unknown
shared_at (Some x) locations =
    if x.array then array x.cells (λ i. view_at locations (x.base + i)) else scalar (view_at locations x.base)

-- the location behind this one, or the trap of an index
abbrev pub behind : ℕ → Option ℕ → Result ℕ Cause
behind base (Some i) = Ok (base + i)
behind base None = Err cause.Index

-- the location of the cell of a shared variable with this row
abbrev pub location_at : Option SharedInfo → ℤ → Result ℕ Cause
location_at None index = Err cause.Index
location_at (Some x) index = behind x.base (place_in x.cells index)

-- values as a list of them
abbrev pub listed : {A : Type 0} → Result (Vec A Global) Cause → Result (List A) Cause
listed (Ok values) = Ok values.items
listed (Err c) = Err c

-- these values, and then others, if there is an answer
abbrev pub prefixed : {A : Type 0} → List A → Result (List A) Cause → Result (List A) Cause
prefixed xs (Ok ys) = Ok (xs ++ ys)
prefixed xs (Err c) = Err c
