-- The parts of the revisions of a final state are its trace.
use Rattle.std.proofs.Common.{◌≡◌, ℕ, Bool, true, false, cond, List, [], ◌∷◌, ◌++◌, Option, Some, None, refl, sym, ap, ◌∙◌, subst}
use Rattle.std.specs.List.Sorted.{IsPermutation, IsSortedBy}
use Rattle.std.proofs.lemmas.List.Sorted.{IsPermutation-pop_more, IsPermutation-to_front}
use Rattle.rev_num.specs.Path.{Path, same}
use Rattle.rev_num.proofs.PostOrder.{same-eq}
use Rattle.revision_machine.specs.Machine.{Global, Twice, Live}
use Rattle.revision_machine.specs.Laws.{local_of, IsDistinct}
use Rattle.revision_machine.specs.RevisionList.{paths, entry_with, entry_of, globe}
use Rattle.revision_machine.specs.StepOutcomes.{IsEnd}
use Rattle.revision_machine.specs.declared.state.RevisionRow.{RevisionRow}
use Rattle.revision_calculus.specs.Program.{Setting}
use Rattle.revision_calculus.specs.State.{Local}
use Rattle.revision_calculus.specs.Calculus.{main, calculus}
use Rattle.trace_diagram.specs.declared.diagram.Part.{Part}
use Rattle.trace_diagram.specs.declared.diagram.Trace.{Trace}
use Rattle.audit_rules.specs.Parts.{places, part_of}
use Rattle.audit_rules.specs.Traces.{part_at, paths_of, IsPartOf, IsTrace}
use Rattle.audit_rules.specs.Traced.{IsTraceAt, HasTrace}
use Rattle.trace_parts.specs.PartOfRevision.{part_by, is_sooner}
use Rattle.plain_runner.specs.Made.{parts_by}
use Rattle.trace_parts.proofs.InOrder.{AreOnce, distinct_once, once_moved, same_at, in_order}

pub parts_append : (ps : List (List ℕ)) (xs : List (RevisionRow Local)) (x : RevisionRow Local)
    → parts_by ps (xs ++ x ∷ []) ≡ parts_by ps xs ++ parts_by ps (x ∷ [])
parts_append ps [] x = refl
parts_append ps (y ∷ xs) x = ap (λ l. parts_by ps (y ∷ []) ++ l) (parts_append ps xs x)

-- one revision less to go
pub popped_more : (ls : List (List ℕ)) (all left rest : List (RevisionRow Local)) (x : RevisionRow Local) (q : Part)
    (out new : List Part)
    → left ≡ rest ++ x ∷ [] → q ≡ part_by ls x.path x.state → new ≡ out ++ q ∷ []
    → IsPermutation (parts_by ls all) (out ++ parts_by ls left)
    → IsPermutation (parts_by ls all) (new ++ parts_by ls rest)
popped_more ls all left rest x q out new is made pushed so_far =
    let p : Part = part_by ls x.path x.state in
    let parts : parts_by ls left ≡ parts_by ls rest ++ p ∷ [] = ap (parts_by ls) is ∙ parts_append ls rest x in
    subst (λ l. IsPermutation (parts_by ls all) (l ++ parts_by ls rest)) (sym (pushed ∙ ap (λ v. out ++ v ∷ []) made))
    (IsPermutation-pop_more (parts_by ls all) out (parts_by ls left) (parts_by ls rest) p so_far
    (subst (λ l. IsPermutation l (p ∷ parts_by ls rest)) (sym parts) (IsPermutation-to_front (parts_by ls rest) p)))

module _ (s : Setting) where
  same_paths : (xs : List (RevisionRow Local)) → paths_of (parts_by (places s) xs) ≡ paths xs
  same_paths [] = refl
  same_paths (x ∷ xs) = ap (λ l. x.path ∷ l) (same_paths xs)

  -- the part of a revision that is listed, and none of another
  is_part : (xs : List (RevisionRow Local)) (r : Path) → IsPartOf s r (part_at (parts_by (places s) xs) r) (globe xs r)
  is_part [] r = tt
  is_part (x ∷ xs) r = go (same x.path r) refl (is_part xs r)
    where
      local : (b : Bool) → local_of (entry_with b x.state) ≡ x.state
      local true = refl
      local false = refl

      go : (b : Bool) → same x.path r ≡ b → IsPartOf s r (part_at (parts_by (places s) xs) r) (globe xs r)
          → IsPartOf s r (cond b (Some (part_of s x.path x.state)) (part_at (parts_by (places s) xs) r))
          (cond b (Some (entry_of x)) (globe xs r))
      go true is rest = λ i. part_of s (same-eq x.path r is i) (sym (local x.joined) i)
      go false is rest = rest

  pub is_trace : (xs : List (RevisionRow Local)) (ps qs : List Part) → IsDistinct (paths xs)
      → IsPermutation (parts_by (places s) xs) ps → IsPermutation ps qs → IsSortedBy is_sooner qs
      → IsTrace s (Live (globe xs)) qs
  is_trace xs ps qs distinct first then_so up =
      (in_order qs later up, λ r. subst (λ o. IsPartOf s r o (globe xs r)) (sym (at r)) (is_part xs r))
    where
      once : AreOnce (parts_by (places s) xs)
      once = distinct_once (parts_by (places s) xs) (subst IsDistinct (sym (same_paths xs)) distinct)

      mid : AreOnce ps
      mid = once_moved (parts_by (places s) xs) ps first once

      later : AreOnce qs
      later = once_moved ps qs then_so mid

      at : (r : Path) → part_at qs r ≡ part_at (parts_by (places s) xs) r
      at r = same_at ps qs r then_so mid ∙ same_at (parts_by (places s) xs) ps r first once

  -- every complete run has it
  pub has_trace : (fuel : ℕ) (g : Global Local) (t : Option Trace) → IsEnd (calculus s) (main s fuel) g
      → IsTraceAt s t g → HasTrace s fuel t
  has_trace fuel g t end is = record {
    by = end.by;
    end = g;
    complete = end.complete;
    each = λ rs h c. subst (IsTraceAt s t) (sym (end.only rs h c)) is;
  }

-- with the parts in any order, put into post-order
pub trace_made : (s t : Setting) (fuel : ℕ) (ls : List (List ℕ)) (xs : List (RevisionRow Local)) (ps qs : List Part)
    → s ≡ t → ls ≡ places t → IsDistinct (paths xs) → IsPermutation (parts_by ls xs) ps → IsPermutation ps qs
    → IsSortedBy is_sooner qs
    → IsEnd (calculus s) (main s fuel) (Live (globe xs)) → HasTrace t fuel (Some (record { parts = qs }))
trace_made s t fuel ls xs ps qs st lt distinct first then_so up end =
    has_trace t fuel (Live (globe xs)) (Some (record { parts = qs }))
    (subst (λ v. IsEnd (calculus v) (main v fuel) (Live (globe xs))) st end)
    (is_trace t xs ps qs distinct (subst (λ l. IsPermutation (parts_by l xs) ps) lt first) then_so up)

pub none_made : (s t : Setting) (fuel : ℕ) → s ≡ t → IsEnd (calculus s) (main s fuel) Twice → HasTrace t fuel None
none_made s t fuel st end =
    has_trace t fuel Twice None (subst (λ v. IsEnd (calculus v) (main v fuel) Twice) st end) refl
