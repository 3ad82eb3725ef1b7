-- What a join writes, location by location.
--
-- `changed` is a location after the join, `put` all of them;
-- `composed` is the composition that changes or a fault give.
use Rattle.std.specs.declared.alloc.Global.{Global}
use Rattle.std.specs.Prelude.{ℕ, List, [], ◌∷◌, ◌++◌, Option, Some, None, Result, Ok, Err, Vec}
use Rattle.rev_num.specs.declared.value.Value.{Value}
use Rattle.rev_num.specs.declared.value.NumFault.{NumFault}
use Rattle.revision_calculus.specs.State.{Location, with_write, write_at}
use Rattle.revision_calculus.specs.Join.{Composition, merged, faults}
use Rattle.joined_locations.specs.declared.changes.FaultedMerge.{FaultedMerge}

-- the location, with this written, if something is
abbrev pub changed : Location → Option Value → Location
changed m None = m
changed m (Some x) = with_write m.base x

-- the locations, each with its change, as far as there are changes
abbrev pub put : List Location → List (Option Value) → List Location
put [] cs = []
put (m ∷ ms) [] = m ∷ ms
put (m ∷ ms) (c ∷ cs) = changed m c ∷ put ms cs

-- the locations, with this written at the one of this number, if something is
abbrev pub put_at : List Location → ℕ → Option Value → List Location
put_at ms n None = ms
put_at ms n (Some x) = write_at ms n x

abbrev pub change_of : Location → Result (Option Value) NumFault → Result Location NumFault
change_of m (Ok c) = Ok (changed m c)
change_of m (Err f) = Err f

-- these locations, and then what is composed behind them
abbrev pub in_front : List Location → Composition → Composition
in_front ms (merged later) = merged (ms ++ later)
in_front ms (faults n f) = faults n f

-- what changes of these locations, or a fault, give
abbrev pub composed : List Location → Result (Vec (Option Value) Global) FaultedMerge → Composition
composed ms (Ok cs) = merged (put ms cs.items)
composed ms (Err x) = faults x.location x.fault
