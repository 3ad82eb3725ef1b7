-- The places and the numbers of the static rules and limits.
use Rattle.std.specs.Prelude.{◌≡◌, ℕ, [], codes}
use Rattle.rev_report.specs.Limits.{limit_row, more_than, most}
use Rattle.typed_programs.specs.Least.{Row}
use Rattle.rev_report.specs.declared.limit.Limit.{Limit}
use Rattle.typed_programs.specs.declared.fault.TypeFault.{TypeFault}
use Rattle.typed_programs.specs.declared.fault.TypeFault.TheVariants.{UnknownName, Redeclared, WrongType, WrongCount, NoReturn, LimitOf, OutOfMemory}

-- the fault of what goes over a limit at a place, with the number of that limit
abbrev pub exceeded : ℕ → Limit → TypeFault
exceeded at which = LimitOf at which (most which)

-- the rank of a limit
abbrev pub order : Limit → ℕ
order which = (limit_row which).0

-- the place of a fault, the number of its rule, by which two at one place are told apart, and what is
-- said of it; of two limits at one place the earlier in the list of limits counts
abbrev pub row : TypeFault → Row
row (UnknownName at) = (at, 1, codes "unknown name")
row (Redeclared at) = (at, 2, codes "redeclared name")
row (WrongType at) = (at, 3, codes "wrong type")
row (WrongCount at) = (at, 4, codes "wrong count")
row (NoReturn at) = (at, 5, codes "missing return")
row (LimitOf at which limit) = (at, (limit_row which).0, more_than limit which)
row OutOfMemory = (0, 13, [])

abbrev pub place : TypeFault → ℕ
place f = (row f).0

abbrev pub rank : TypeFault → ℕ
rank f = (row f).1

-- a limit that is passed, and no other rule
abbrev pub IsLimit : TypeFault → Type 0
IsLimit (LimitOf at which limit) = Unit {0}
IsLimit (UnknownName at) = ⊥
IsLimit (Redeclared at) = ⊥
IsLimit (WrongType at) = ⊥
IsLimit (WrongCount at) = ⊥
IsLimit (NoReturn at) = ⊥
IsLimit OutOfMemory = ⊥

-- if this is a fault of a limit, its number is that of the limit
abbrev pub HasLimit : TypeFault → Type 0
HasLimit (LimitOf at which limit) = limit ≡ most which
HasLimit (UnknownName at) = Unit {0}
HasLimit (Redeclared at) = Unit {0}
HasLimit (WrongType at) = Unit {0}
HasLimit (WrongCount at) = Unit {0}
HasLimit (NoReturn at) = Unit {0}
HasLimit OutOfMemory = Unit {0}
