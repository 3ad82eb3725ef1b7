-- What an audit looks up: which part a revision has, and which part lists it as joined.
--
-- `joiner_from` is the first part that lists a revision as joined; `IsSetOf` says that a table has these paths, and no
-- others.
use Rattle.std.specs.Prelude.{ℕ, suc, Bool, true, false, List, [], ◌∷◌, Option, Some, None, if◌then◌else◌, Vec}
use Rattle.std.specs.declared.alloc.Global.{Global}
use Rattle.std.specs.BTreeMap.{BTreeMap}
use Rattle.rev_num.specs.Path.{Path, same}
use Rattle.revision_machine.specs.Laws.{IsIn}
use Rattle.revision_machine.specs.PathIndex.{place_by}
use Rattle.trace_diagram.specs.declared.diagram.Part.{Part}
use Rattle.trace_diagram.specs.declared.diagram.TraceEvent.{TraceEvent}
use Rattle.trace_diagram.specs.declared.diagram.TraceEvent.TheVariants as event

-- the events list the revision as joined
abbrev pub lists : List TraceEvent → Path → Bool
lists [] q = false
lists (event.Forked r line ∷ es) q = lists es q
lists (event.Joined r line ∷ es) q = if same r q then true else lists es q

-- the number of the first of these parts that lists the revision as joined, where the first part has this number
abbrev pub joiner_from : ℕ → List Part → Path → Option ℕ
joiner_from n [] q = None
joiner_from n (p ∷ ps) q = if lists p.events q then Some n else joiner_from (suc n) ps q

-- the path is one of these, or none
abbrev pub Marks : List Path → Path → Option ℕ → Type 0
Marks ps p None = IsIn p ps → ⊥
Marks ps p (Some n) = IsIn p ps

-- the table has these paths, and no others
abbrev pub IsSetOf : BTreeMap (Vec ℕ Global) ℕ → List Path → Type 0
IsSetOf m ps = (p : Path) → Marks ps p (place_by m p)
