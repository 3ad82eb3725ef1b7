-- The limits of the language, each with its number and with its name in a message.
--   limit_row      the rank of a limit behind the other rules, how many there may be, and its name
--   most           how many there may be
--   first_past     how many there are up to and with the first past a limit
--   name_of_limit  what a message says that there is too much of
--   more_than      what a message says of what goes over a limit
use Rattle.std.specs.Prelude.{ℕ, ◌+◌, List, ◌++◌, codes}
use Rattle.std.specs.Fmt.{decimal}
use Rattle.rev_report.specs.declared.limit.Limit.{Limit}
use Rattle.rev_report.specs.declared.limit.Limit.TheVariants as limits

abbrev pub limit_row : Limit → ℕ × ℕ × List ℕ
limit_row limits.Locations = (6, 4096, codes "locations")
limit_row limits.Procedures = (7, 256, codes "procedures")
limit_row limits.Funs = (8, 256, codes "funs")
limit_row limits.Parameters = (9, 8, codes "parameters")
limit_row limits.Locals = (10, 64, codes "locals")
limit_row limits.Items = (11, 64, codes "items")
limit_row limits.Weight = (12, 65536, codes "weight")

abbrev pub most : Limit → ℕ
most limit = (limit_row limit).1

abbrev pub first_past : Limit → ℕ
first_past limit = most limit + 1

abbrev pub name_of_limit : Limit → List ℕ
name_of_limit limit = (limit_row limit).2

abbrev pub more_than : ℕ → Limit → List ℕ
more_than limit which = codes "more than " ++ (decimal limit ++ (codes " " ++ name_of_limit which))
