-- The places of a program's locations are names of the language, and names with a number in brackets.
use Rattle.std.proofs.Common.{◌≡◌, ℕ, zero, suc, ◌+◌, ◌^◌, ◌<◌, ◌≤◌, Bool, true, false, ◌&&◌, pos, negsuc, List, [], ◌∷◌, ◌++◌, length, get_or, map, Option, Some, None, refl, ap, inl, inr, arith, rules}
use Rattle.std.specs.Prelude.{not, ◌==◌, ◌||◌, IsTrue}
use Rattle.std.specs.Fmt.{decimal}
use Rattle.std.specs.List.{list_all, AllByRecursion}
use Rattle.std.specs.Str.{all_ascii_digits}
use Rattle.std.proofs.lemmas.Bool.{and_from, and_parts, le-leb, leb-true, or_left}
use Rattle.std.proofs.lemmas.Fmt.{decimal_digit, decimal_nonempty, digits_decimal, first_decimal}
use Rattle.std.proofs.lemmas.Str.Parse.{tells_all_ascii_digits}
use Rattle.rev_num.specs.declared.outcome.Cause.{Cause}
use Rattle.rev_num.specs.declared.outcome.Cause.TheVariants as cause
use Rattle.rev_num.specs.declared.outcome.Shown.{Shown}
use Rattle.rev_num.proofs.Decimals.{own}
use Rattle.rev_syntax.specs.Bytes.{is_digit}
use Rattle.rev_syntax.specs.Words.{is_name}
use Rattle.rev_syntax.specs.Small.{IsSmall, by_formed, declaration_small, first_formed, greatest, name_formed, size_formed}
use Rattle.rev_syntax.specs.Trees.{ArraySize, SharedDeclaration, Declaration, fun, merge, shared, proc}
use Rattle.rev_report.specs.Outcome.{place_of}
use Rattle.name_tables.specs.Names.{Name}
use Rattle.typed_programs.specs.Layout.{variable_behind, variables_behind, variables}
use Rattle.typed_programs.specs.Limits.{cells}
use Rattle.typed_programs.specs.Scopes.{cells_of}
use Rattle.revision_calculus.specs.Program.{Setting}
use Rattle.revision_calculus.specs.State.{Location}
use Rattle.revision_calculus.specs.Outcome.{show_cells, show_variable, show_all}
use Rattle.revision_calculus.specs.KeptBySteps.{IsFaultBelow}
use Rattle.trace_diagram.specs.Lines.{IsPlaceOf}
use Rattle.trace_diagram.specs.Places.{IsPlace, is_plain}
use Rattle.audit_rules.specs.Parts.{cause_place, place_at, places}

-- ---- numbers in brackets

digits_tested : (ds : List ℕ) → all_ascii_digits ds ≡ true → list_all is_digit ds ≡ true
digits_tested [] h = refl
digits_tested (d ∷ ds) h =
    let parts = tells_all_ascii_digits.parts d ds h in
    let range = parts.0 in
    and_from (is_digit d) (list_all is_digit ds)
    (and_from _ _ (le-leb 48 d (omega (arith, range))) (le-leb d 57 (omega (arith, range)))) (digits_tested ds parts.1)

plain_first : (ds : List ℕ) → list_all is_digit ds ≡ true → 0 < length ds → 48 < get_or ds 0 0 → is_plain ds ≡ true
plain_first [] h some first = absurd (omega (arith, some))
plain_first (d ∷ ds) h some first =
    and_from (list_all is_digit (d ∷ ds)) (not (d == 48) || (length ds == 0)) h
    (or_left (not (d == 48)) (length ds == 0) (by_test (d == 48) refl))
  where
    by_test : (t : Bool) → (d == 48) ≡ t → not t ≡ true
    by_test true e = absurd (let is : d ≡ 48 = grind (arith, rules) in omega (arith, is, first))
    by_test false e = refl

decimal_plain : (n : ℕ) → n < 2 ^ 64 → is_plain (decimal n) ≡ true
decimal_plain zero small = ap is_plain (decimal_digit 0 (omega arith))
decimal_plain (suc n) small =
    plain_first (decimal (suc n)) (digits_tested (decimal (suc n)) (digits_decimal own (suc n) small))
    (decimal_nonempty (suc n) small) (first_decimal (suc n) (omega arith) small)

-- ---- places

abbrev IsShownPlace : Shown → Type 0
IsShownPlace x = IsPlace (place_of x.name x.cell)

cell_place : (name : Name) (i : ℕ) → IsTrue (is_name name) → i < 2 ^ 64 → IsPlace (place_of name (Some i))
cell_place name i named small =
    inr (record { array = name; index = decimal i; name = named; number = decimal_plain i small; is = refl })

cells_placed : (name : Name) (ls : List Location) (base cell count : ℕ) → IsTrue (is_name name) → cell + count ≤ 2 ^ 64
    → AllByRecursion IsShownPlace (show_cells name ls base cell count)
cells_placed name ls base cell zero named few = tt
cells_placed name ls base cell (suc n) named few =
    (cell_place name cell named (omega (arith, few)), cells_placed name ls base (suc cell) n named (omega (arith, few)))

few_cells : (size : ArraySize) → IsTrue (size_formed (Some size)) → cells_of (Some size) ≤ 2 ^ 64
few_cells size h = by size.cells h
  where
    by : (z : _) → IsTrue (size_formed (Some (record size { cells = z })))
        → cells_of (Some (record size { cells = z })) ≤ 2 ^ 64
    by (pos n) h = let few : n ≤ greatest = leb-true n greatest h in omega (arith, few)
    by (negsuc n) h = absurd cc

variable_placed : (before : List Declaration) (ls : List Location) (x : SharedDeclaration)
    → IsTrue (is_name x.name.text) → IsTrue (size_formed x.size)
    → AllByRecursion IsShownPlace (show_variable ls (variable_behind before x) (variable_behind before x).info.array)
variable_placed before ls x named h = by x.size h
  where
    by : (size : Option ArraySize) → IsTrue (size_formed size)
        → AllByRecursion IsShownPlace
        (show_variable ls (variable_behind before (record x { size = size }))
        (variable_behind before (record x { size = size })).info.array)
    by None h = (inl named, tt)
    by (Some y) h =
        cells_placed x.name.text ls (cells before) 0 (cells_of (Some y)) named
        (let few = few_cells y h in omega (arith, few))

both_placed : (xs ys : List Shown) → AllByRecursion IsShownPlace xs → AllByRecursion IsShownPlace ys
    → AllByRecursion IsShownPlace (xs ++ ys)
both_placed [] ys p q = q
both_placed (x ∷ xs) ys p q = (p.0, both_placed xs ys p.1 q)

all_placed : (before es : List Declaration) (ls : List Location) → IsTrue (list_all declaration_small es)
    → AllByRecursion IsShownPlace (show_all (variables_behind before es) ls)
all_placed before [] ls h = tt
all_placed before (fun w ps r body ∷ es) ls h =
    all_placed (before ++ fun w ps r body ∷ []) es ls
    (and_parts (declaration_small (fun w ps r body)) (list_all declaration_small es) h).1
all_placed before (merge w m j r body ∷ es) ls h =
    all_placed (before ++ merge w m j r body ∷ []) es ls
    (and_parts (declaration_small (merge w m j r body)) (list_all declaration_small es) h).1
all_placed before (proc w ps r body ∷ es) ls h =
    all_placed (before ++ proc w ps r body ∷ []) es ls
    (and_parts (declaration_small (proc w ps r body)) (list_all declaration_small es) h).1
all_placed before (shared x ∷ es) ls h =
    let here = and_parts (declaration_small (shared x)) (list_all declaration_small es) h in
    let front = and_parts (name_formed x.name && by_formed x.by && size_formed x.size) (first_formed x.first) here.0 in
    let sized = and_parts (name_formed x.name && by_formed x.by) (size_formed x.size) front.0 in
    let named = and_parts (name_formed x.name) (by_formed x.by) sized.0 in
    both_placed (show_variable ls (variable_behind before x) (variable_behind before x).info.array)
    (show_all (variables_behind (before ++ shared x ∷ []) es) ls)
    (variable_placed before ls x named.0 sized.1) (all_placed (before ++ shared x ∷ []) es ls here.1)

map_placed : (xs : List Shown) → AllByRecursion IsShownPlace xs
    → AllByRecursion IsPlace (map (λ x. place_of x.name x.cell) xs)
map_placed [] h = tt
map_placed (x ∷ xs) h = (h.0, map_placed xs h.1)

pub places_placed : (s : Setting) → IsSmall s.program → AllByRecursion IsPlace (places s)
places_placed s small =
    map_placed (show_all (variables s.program) []) (all_placed [] s.program.declarations [] small.declarations)

-- ---- the place of a merge that faulted

place_here : (ps : List (List ℕ)) (n : ℕ) → AllByRecursion IsPlace ps → n < length ps → IsPlace (place_at ps n)
place_here [] n h less = absurd (omega (arith, less))
place_here (p ∷ ps) zero h less = h.0
place_here (p ∷ ps) (suc n) h less = place_here ps n h.1 (omega (arith, less))

pub cause_placed : (ps : List (List ℕ)) (c : Cause) → AllByRecursion IsPlace ps → IsFaultBelow (length ps) c
    → IsPlaceOf c (cause_place ps c)
cause_placed ps (cause.Merge n f) h below = place_here ps n h below
cause_placed ps cause.Overflow h below = refl
cause_placed ps cause.ZeroDivisor h below = refl
cause_placed ps cause.Index h below = refl
cause_placed ps cause.Assert h below = refl
cause_placed ps cause.JoinNone h below = refl
cause_placed ps cause.CallDepth h below = refl
cause_placed ps cause.Spent h below = refl
