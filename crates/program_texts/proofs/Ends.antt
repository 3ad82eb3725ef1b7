-- Whether a line is the end of a revision: each form that a line of an end has is tried.
use Rattle.std.proofs.Common.{◌≡◌, ◌≢◌, ◌∙◌, ◌⊎◌, inl, inr, sym, ℕ, ◌<◌, ◌^◌, List, [], ◌∷◌, ◌++◌, refl}
use Rattle.std.specs.Prelude.{codes}
use Rattle.std.specs.Fmt.{decimal}
use Rattle.std.specs.List.{AllByRecursion}
use Rattle.rev_num.specs.Path.{Path}
use Rattle.rev_num.specs.Text.{path_text}
use Rattle.rev_num.specs.declared.outcome.Cause.{Cause}
use Rattle.rev_num.specs.declared.outcome.Cause.TheVariants as cause
use Rattle.rev_num.specs.declared.value.NumFault.{NumFault}
use Rattle.rev_num.specs.declared.value.NumFault.TheVariants as fault
use Rattle.trace_diagram.specs.Ends.{NoMerge}
use Rattle.trace_diagram.specs.Lines.{FitsEnd, FitsPath, FitsTrap, cause_text, end_text}
use Rattle.trace_diagram.specs.Places.{IsPlace}
use Rattle.trace_diagram.specs.declared.diagram.PartEnd.{PartEnd}
use Rattle.trace_diagram.specs.declared.diagram.PartEnd.TheVariants as part_end
use Rattle.trace_diagram.proofs.EndForms.{no_place}
use Rattle.trace_diagram.proofs.LineForms.{behind_colon, line_without, merge_split, no_colon}
use Rattle.program_texts.proofs.Deciding.{Readable, Reader, spells, spells_none, read_behind, same_or_not}
use Rattle.program_texts.proofs.Numbers.{read_small}
use Rattle.program_texts.proofs.Pairing.{FitBoth, read_as, read_cut, text_of_both}
use Rattle.program_texts.proofs.Paths.{read_path}
use Rattle.program_texts.proofs.PlaceNames.{place_text, read_place}

-- ---- where a revision trapped

abbrev Small : ℕ → Type 0
Small n = n < 2 ^ 32

abbrev origin_text : Path → List ℕ
origin_text path = codes "in revision " ++ path_text path

-- the line, and the revision that trapped first
abbrev FitsSpot : ℕ × Path → Type 0
FitsSpot = FitBoth Small FitsPath

abbrev spot_text : ℕ × Path → List ℕ
spot_text x = codes " at line " ++ text_of_both decimal 32 origin_text x

read_spot : Reader FitsSpot spot_text
read_spot =
    read_behind FitsSpot (text_of_both decimal 32 origin_text) (codes " at line ")
    (read_cut Small decimal 32 FitsPath origin_text line_without read_small
    (read_behind FitsPath path_text (codes "in revision ") read_path))

-- ---- causes that are no merge's

abbrev plain_text : Cause → ℕ × Path → List ℕ
plain_text c x = cause_text c [] ++ spot_text x

abbrev LacksCause : List ℕ → Cause → Type 0
LacksCause bytes c = (x : ℕ × Path) → FitsSpot x → plain_text c x ≡ bytes → ⊥

read_cause : (c : Cause) → Reader FitsSpot (plain_text c)
read_cause c = read_behind FitsSpot spot_text (cause_text c []) read_spot

-- a trap whose cause is no merge's
record PlainTrap (bytes : List ℕ) : Type 0 where
  why : Cause
  spot : ℕ × Path
  plain : NoMerge why
  fit : FitsSpot spot
  is : plain_text why spot ≡ bytes

-- by one of these causes, or by none of them
find_cause : (bytes : List ℕ) (cs : List Cause) → AllByRecursion NoMerge cs
    → PlainTrap bytes ⊎ AllByRecursion (LacksCause bytes) cs
find_cause bytes [] plain = inr tt
find_cause bytes (c ∷ cs) plain = by_first (read_cause c bytes) (find_cause bytes cs plain.1)
  where
    by_first : Readable FitsSpot (plain_text c) bytes → PlainTrap bytes ⊎ AllByRecursion (LacksCause bytes) cs
        → PlainTrap bytes ⊎ AllByRecursion (LacksCause bytes) (c ∷ cs)
    by_first (spells x fit is) others = inl (record { why = c; spot = x; plain = plain.0; fit = fit; is = is })
    by_first (spells_none none) (inl found) = inl found
    by_first (spells_none none) (inr others) = inr (none, others)

abbrev plain_causes : List Cause
plain_causes =
    cause.Overflow ∷ cause.ZeroDivisor ∷ cause.Index ∷ cause.Assert ∷ cause.JoinNone ∷ cause.CallDepth ∷ cause.Spent
    ∷ []

abbrev LacksPlains : List ℕ → Type 0
LacksPlains bytes = AllByRecursion (LacksCause bytes) plain_causes

find_plain : (bytes : List ℕ) → PlainTrap bytes ⊎ LacksPlains bytes
find_plain bytes = find_cause bytes plain_causes (tt, (tt, (tt, (tt, (tt, (tt, (tt, tt)))))))

-- ---- the causes of merges

abbrev FitsFault : NumFault × (ℕ × Path) → Type 0
FitsFault x = FitsSpot x.1

abbrev fault_spot_text : NumFault × (ℕ × Path) → List ℕ
fault_spot_text x = behind_colon x.0 (spot_text x.1)

no_fault : (bytes : List ℕ) → ((x : ℕ × Path) → FitsSpot x → codes " overflow" ++ spot_text x ≡ bytes → ⊥)
    → ((x : ℕ × Path) → FitsSpot x → codes " zero divisor" ++ spot_text x ≡ bytes → ⊥) → (f : NumFault) (x : ℕ × Path)
    → FitsSpot x → behind_colon f (spot_text x) ≡ bytes → ⊥
no_fault bytes over zero fault.Overflow x fit is = over x fit is
no_fault bytes over zero fault.ZeroDivisor x fit is = zero x fit is

read_fault : Reader FitsFault fault_spot_text
read_fault bytes =
    by_kinds (read_behind FitsSpot spot_text (codes " overflow") read_spot bytes)
    (read_behind FitsSpot spot_text (codes " zero divisor") read_spot bytes)
  where
    by_kinds : Readable FitsSpot (λ x. codes " overflow" ++ spot_text x) bytes
        → Readable FitsSpot (λ x. codes " zero divisor" ++ spot_text x) bytes → Readable FitsFault fault_spot_text bytes
    by_kinds (spells x fit is) other = spells (fault.Overflow, x) fit is
    by_kinds (spells_none over) (spells x fit is) = spells (fault.ZeroDivisor, x) fit is
    by_kinds (spells_none over) (spells_none zero) = spells_none (λ x fit is. no_fault bytes over zero x.0 x.1 fit is)

-- the place of the merge's location, its fault, and where the revision trapped
abbrev Merged : Type 0
Merged = List ℕ × (NumFault × (ℕ × Path))

abbrev FitsMerged : Merged → Type 0
FitsMerged = FitBoth IsPlace FitsFault

abbrev merged_text : Merged → List ℕ
merged_text x = codes "merge of " ++ text_of_both place_text 58 fault_spot_text x

read_merged : Reader FitsMerged merged_text
read_merged =
    read_behind FitsMerged (text_of_both place_text 58 fault_spot_text) (codes "merge of ")
    (read_cut IsPlace place_text 58 FitsFault fault_spot_text no_colon read_place read_fault)

-- ---- what stands behind the word of an end

abbrev behind_end : PartEnd → List ℕ
behind_end part_end.Done = codes "done"
behind_end (part_end.Trapped trap place) = cause_text trap.cause place ++ spot_text (trap.line, trap.origin)

-- the bytes are of no form that an end has
record NoForm (bytes : List ℕ) : Type 0 where
  done : codes "done" ≢ bytes
  plain : LacksPlains bytes
  merged : (x : Merged) → FitsMerged x → merged_text x ≡ bytes → ⊥

no_trap : (bytes : List ℕ) → NoForm bytes → (c : Cause) (n : ℕ) (origin : Path) (place : List ℕ)
    → FitsTrap c n origin place → cause_text c place ++ spot_text (n, origin) ≡ bytes → ⊥
no_trap bytes h cause.Overflow n r place fit is = h.plain.0 (n, r) (fit.small, fit.path) is
no_trap bytes h cause.ZeroDivisor n r place fit is = h.plain.1.0 (n, r) (fit.small, fit.path) is
no_trap bytes h cause.Index n r place fit is = h.plain.1.1.0 (n, r) (fit.small, fit.path) is
no_trap bytes h cause.Assert n r place fit is = h.plain.1.1.1.0 (n, r) (fit.small, fit.path) is
no_trap bytes h cause.JoinNone n r place fit is = h.plain.1.1.1.1.0 (n, r) (fit.small, fit.path) is
no_trap bytes h cause.CallDepth n r place fit is = h.plain.1.1.1.1.1.0 (n, r) (fit.small, fit.path) is
no_trap bytes h cause.Spent n r place fit is = h.plain.1.1.1.1.1.1.0 (n, r) (fit.small, fit.path) is
no_trap bytes h (cause.Merge l f) n r place fit is =
    h.merged (place, (f, (n, r))) (fit.place_of, (fit.small, fit.path))
    (sym (merge_split place f (spot_text (n, r))) ∙ is)

no_end : (bytes : List ℕ) → NoForm bytes → (e : PartEnd) → FitsEnd e → behind_end e ≡ bytes → ⊥
no_end bytes h part_end.Done fit is = h.done is
no_end bytes h (part_end.Trapped trap place) fit is = no_trap bytes h trap.cause trap.line trap.origin place fit is

plain_trap : (bytes : List ℕ) → PlainTrap bytes → Readable FitsEnd behind_end bytes
plain_trap bytes h =
    spells (part_end.Trapped (record { cause = h.why; line = h.spot.0; origin = h.spot.1 }) [])
    (record { place_of = no_place h.why h.plain; small = h.fit.0; path = h.fit.1 }) h.is

merge_trap : (bytes : List ℕ) (x : Merged) → FitsMerged x → merged_text x ≡ bytes → Readable FitsEnd behind_end bytes
merge_trap bytes x fit is =
    spells (part_end.Trapped (record { cause = cause.Merge 0 x.1.0; line = x.1.1.0; origin = x.1.1.1 }) x.0)
    (record { place_of = fit.0; small = fit.1.0; path = fit.1.1 }) (merge_split x.0 x.1.0 (spot_text x.1.1) ∙ is)

read_behind_end : Reader FitsEnd behind_end
read_behind_end bytes = by_forms (same_or_not (codes "done") bytes) (find_plain bytes) (read_merged bytes)
  where
    by_forms : (codes "done" ≡ bytes) ⊎ (codes "done" ≢ bytes) → PlainTrap bytes ⊎ LacksPlains bytes
        → Readable FitsMerged merged_text bytes → Readable FitsEnd behind_end bytes
    by_forms (inl done) plain merged = spells part_end.Done tt done
    by_forms (inr other) (inl plain) merged = plain_trap bytes plain
    by_forms (inr other) (inr lacks) (spells x fit is) = merge_trap bytes x fit is
    by_forms (inr other) (inr lacks) (spells_none none) =
        spells_none (no_end bytes (record { done = other; plain = lacks; merged = none }))

-- ---- the line of an end

end_is : (e : PartEnd) → end_text e ≡ codes "end " ++ behind_end e
end_is part_end.Done = refl
end_is (part_end.Trapped trap place) = refl

pub read_end : Reader FitsEnd end_text
read_end = read_as FitsEnd (λ e. codes "end " ++ behind_end e) FitsEnd end_text (record {
  to = λ e. e;
  from = λ e. e;
  to_suits = λ e fit. fit;
  to_text = end_is;
  from_fits = λ e fit. fit;
  from_text = λ e. sym (end_is e);
}) (read_behind FitsEnd behind_end (codes "end ") read_behind_end)
