-- How a path and the cause of a trap are written.
use Rattle.std.specs.Prelude.{ℕ, List, [], ◌∷◌, ◌++◌, codes, map}
use Rattle.std.specs.Fmt.{decimal}
use Rattle.std.specs.List.{join_with_byte}
use Rattle.rev_num.specs.Path.{Path}
use Rattle.rev_num.specs.declared.value.NumFault.{NumFault}
use Rattle.rev_num.specs.declared.value.NumFault.TheVariants as fault
use Rattle.rev_num.specs.declared.outcome.Cause.{Cause}
use Rattle.rev_num.specs.declared.outcome.Cause.TheVariants as cause

-- the numbers with a dot between two of them, and `main` for the empty path
abbrev pub path_text : Path → List ℕ
path_text [] = codes "main"
path_text (k ∷ r) = join_with_byte 46 (map decimal (k ∷ r))

-- a number with a dot in front
abbrev pub behind_dot : ℕ → List ℕ
behind_dot k = 46 ∷ decimal k

abbrev pub fault_text : NumFault → List ℕ
fault_text fault.Overflow = codes "overflow"
fault_text fault.ZeroDivisor = codes "zero divisor"

-- a merge is told by the place of its location
abbrev pub cause_text : Cause → (place : List ℕ) → List ℕ
cause_text cause.Overflow place = codes "overflow"
cause_text cause.ZeroDivisor place = codes "zero divisor"
cause_text cause.Index place = codes "index"
cause_text cause.Assert place = codes "assert"
cause_text cause.JoinNone place = codes "join of none"
cause_text cause.CallDepth place = codes "call depth"
cause_text cause.Spent place = codes "fuel spent"
cause_text (cause.Merge location fault) place = codes "merge of " ++ (place ++ (codes ": " ++ fault_text fault))
