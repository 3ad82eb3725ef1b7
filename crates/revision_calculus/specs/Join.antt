-- The join of a revision that has ended.
--
-- `compose` gives the joiner's locations after the join of a done joinee, or the least location whose merge faults;
-- `absorb` is the joiner after that, `inherit` the joiner of a trapped joinee, and `note` lists the join.
use Rattle.std.specs.Prelude.{ℕ, suc, ◌+◌, ℤ, true, false, List, [], ◌∷◌, ◌++◌, replicate, Option, Some, None, Result, Ok, Err}
use Rattle.rev_num.specs.Path.{Path}
use Rattle.rev_num.specs.declared.value.Value.{Value}
use Rattle.rev_num.specs.declared.value.Value.TheVariants as v
use Rattle.rev_num.specs.declared.value.NumFault.{NumFault}
use Rattle.rev_num.specs.declared.outcome.Cause.TheVariants as cause
use Rattle.rev_syntax.specs.Trees.{ProgramTree}
use Rattle.name_tables.specs.Names.{Name}
use Rattle.typed_programs.specs.Value.{number_of}
use Rattle.typed_programs.specs.Definitions.{merge_value_of}
use Rattle.typed_programs.specs.Evaluation.{merge_answer}
use Rattle.typed_programs.specs.Layout.{SharedVariable, variables}
use Rattle.revision_calculus.specs.Program.{Setting}
use Rattle.revision_calculus.specs.State.{Location, view, joined, Phase, running, joining, done, trapped, Local}
use Rattle.revision_calculus.specs.Evaluation.{give}

-- ---- compose

-- of each location: the number of its merge, or none where it is versioned
abbrev pub merges_of : List SharedVariable → List (Option ℕ)
merges_of [] = []
merges_of (x ∷ xs) = replicate x.info.cells x.info.merge ++ merges_of xs

-- the merge of this number of the joiner's, the joinee's and the root's number, which is `Typed::merge_value`
abbrev pub merge_of_numbers : ProgramTree → ℕ → ℤ → ℤ → ℤ → Result ℤ NumFault
merge_of_numbers p k m j r = merge_answer (merge_value_of p k (v.Int m) (v.Int j) (v.Int r))

abbrev pub number_value : Result ℤ NumFault → Result Value NumFault
number_value (Ok z) = Ok (v.Int z)
number_value (Err f) = Err f

-- The joiner's new value of a location in which the joinee wrote this value. With a merge the three values are numbers:
-- the value of the joiner's view, the one that the joinee wrote, and that of the joinee's snapshot.
abbrev pub new_value : ProgramTree → Option ℕ → Location → Location → Value → Result Value NumFault
new_value p None joiner joinee x = Ok x
new_value p (Some k) joiner joinee x =
    number_value (merge_of_numbers p k (number_of (view joiner)) (number_of x) (number_of joinee.base))

-- the joiner's location after the join, or the fault of its merge
abbrev pub overwrite : Location → Result Value NumFault → Result Location NumFault
overwrite joiner (Ok x) = Ok (record { base = joiner.base; written = Some x })
overwrite joiner (Err f) = Err f

abbrev pub join_location : ProgramTree → Option ℕ → Location → Location → Option Value → Result Location NumFault
join_location p merge joiner joinee None = Ok joiner
join_location p merge joiner joinee (Some x) = overwrite joiner (new_value p merge joiner joinee x)

-- the joiner's locations after the join, or the least location whose merge faults, with the fault
pub data Composition : Type 0 where
  merged : List Location → Composition
  faults : ℕ → NumFault → Composition

-- the location with this number, before those after it
abbrev pub and_later : ℕ → Result Location NumFault → Composition → Composition
and_later n (Err f) later = faults n f
and_later n (Ok m) (faults k f) = faults k f
and_later n (Ok m) (merged ms) = merged (m ∷ ms)

-- the locations from this number on: their merges, the joiner's locations and the joinee's
abbrev pub compose : ProgramTree → ℕ → List (Option ℕ) → List Location → List Location → Composition
compose p n (k ∷ ks) (m ∷ ms) (j ∷ js) = and_later n (join_location p k m j j.written) (compose p (suc n) ks ms js)
compose p n ks ms js = merged ms

-- ---- the joiner after the join

-- r with the trap of the least fault, or with the joinee's writes, text and fuel
abbrev pub absorb : Setting → Path → Local → Option Name → Local → Composition → Local
absorb s r l left j (faults n f) =
    record l { phase = trapped (record { cause = cause.Merge n f; line = l.line; origin = r }) }
absorb s r l left j (merged locations) =
    give s
    (record l { locations = locations; text = l.text ++ j.text; fuel = l.fuel + j.fuel; phase = running })
    left (Some (v.Bool true))

-- a join of a trapped revision: with no left side its trap is the joiner's too
abbrev pub inherit : Setting → Local → Option Name → Phase → Local
inherit s l None trap = record l { phase = trap }
inherit s l (Some name) trap = give s (record l { phase = running }) (Some name) (Some (v.Bool false))

-- r after its join of j, which ended in this phase; where it has not ended, there is no join
abbrev pub join_in : Setting → Path → Local → Option Name → Local → Phase → Local
join_in s r l left j done =
    absorb s r l left j (compose s.program 0 (merges_of (variables s.program)) l.locations j.locations)
join_in s r l left j (trapped t) = inherit s l left (trapped t)
join_in s r l left j _ = l

-- the left side that waits at a join
abbrev pub left_side : Phase → Option Name
left_side (joining q left) = left
left_side _ = None

-- the joiner lists the join
abbrev pub note : Path → Local → Local
note q l = record l { noted = l.noted ++ joined q l.line ∷ [] }

-- the joiner at r after it joined the ended revision at q
abbrev pub join : Setting → Path → Local → Path → Local → Local
join s r l q j = join_in s r (note q l) (left_side l.phase) j j.phase
