-- Answers of worked_traces: each row is computed, and the paths of its worlds differ, so the trace is theirs.
use Rattle.std.proofs.Common.{◌≡◌, ◌∙◌, inl, inr, Bool, true, ◌&&◌, List, [], ◌∷◌, refl, sym, ap}
use Rattle.std.proofs.lemmas.Bool.{and_parts, true≢false}
use Rattle.std.specs.Fmt.{digits}
use Rattle.std.specs.Prelude.{not}
use Rattle.rev_num.specs.Path.{Path, same}
use Rattle.rev_num.proofs.PostOrder.{same_refl}
use Rattle.revision_machine.specs.Laws.{IsIn, IsDistinct}
use Rattle.code_traces.proofs.Listings.{the_listing}
use Rattle.code_traces.proofs.rows.worked_traces.Goals as goal

-- ---- lists of different paths

is_apart : Path → List Path → Bool
is_apart p [] = true
is_apart p (q ∷ qs) = not (same p q) && is_apart p qs

are_distinct : List Path → Bool
are_distinct [] = true
are_distinct (p ∷ ps) = is_apart p ps && are_distinct ps

apart : (p : Path) (qs : List Path) → is_apart p qs ≡ true → IsIn p qs → ⊥
unfolding is_apart
apart p [] h i = i
apart p (q ∷ qs) h (inl e) =
    let z = (and_parts (not (same p q)) (is_apart p qs) h).0 in
    true≢false (sym z ∙ ap not (ap (same p) (sym e) ∙ same_refl p))
apart p (q ∷ qs) h (inr i) = apart p qs (and_parts (not (same p q)) (is_apart p qs) h).1 i

distinct : (ps : List Path) → are_distinct ps ≡ true → IsDistinct ps
unfolding are_distinct
distinct [] h = tt
distinct (p ∷ ps) h =
    let z = and_parts (is_apart p ps) (are_distinct ps) h in
    (apart p ps z.0, distinct ps z.1)

-- the paths of the revisions by their numbers
two_paths : IsDistinct ([] ∷ (0 ∷ []) ∷ [])
unfolding is_apart are_distinct
two_paths = distinct ([] ∷ (0 ∷ []) ∷ []) refl

one_order : IsDistinct ([] ∷ (0 ∷ []) ∷ (1 ∷ []) ∷ (0 ∷ 0 ∷ []) ∷ (1 ∷ 0 ∷ []) ∷ [])
unfolding is_apart are_distinct
one_order = distinct ([] ∷ (0 ∷ []) ∷ (1 ∷ []) ∷ (0 ∷ 0 ∷ []) ∷ (1 ∷ 0 ∷ []) ∷ []) refl

other_order : IsDistinct ([] ∷ (0 ∷ []) ∷ (1 ∷ []) ∷ (1 ∷ 0 ∷ []) ∷ (0 ∷ 0 ∷ []) ∷ [])
unfolding is_apart are_distinct
other_order = distinct ([] ∷ (0 ∷ []) ∷ (1 ∷ []) ∷ (1 ∷ 0 ∷ []) ∷ (0 ∷ 0 ∷ []) ∷ []) refl

pub returns : goal.returns
unfolding digits
returns c = record {
  merges = record { verified = refl; world = _; replays = refl; trace = the_listing _ _ two_paths; text = refl };
  faults = record { verified = refl; world = _; replays = refl; trace = the_listing _ _ two_paths; text = refl };
  passes_on = record { verified = refl; world = _; replays = refl; trace = the_listing _ _ two_paths; text = refl };
  paths_stay = (
    record { verified = refl; world = _; replays = refl; trace = the_listing _ _ one_order; text = refl },
    record { verified = refl; world = _; replays = refl; trace = the_listing _ _ other_order; text = refl },
  );
}
