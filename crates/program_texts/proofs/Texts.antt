-- All lines of the bytes, from the first: a trace text, or the first fault.
use Rattle.std.proofs.Common.{◌≡◌, ◌≢◌, ◌∙◌, ◌⊎◌, inl, inr, sym, ap, ℕ, List, [], ◌∷◌, ◌++◌, refl}
use Rattle.std.specs.Prelude.{codes, is_some, Option, Some, None}
use Rattle.std.proofs.lemmas.Bool.{true≢false}
use Rattle.rev_num.specs.Path.{Path}
use Rattle.trace_diagram.specs.Cuts.{IsCut, IsWithout}
use Rattle.trace_diagram.specs.Drafts.{HasRead, IsClosedTo, PartialTrace, stage_of}
use Rattle.trace_diagram.specs.Following.{Stops}
use Rattle.trace_diagram.specs.Lines.{FitsPath, head_text}
use Rattle.trace_diagram.specs.Traces.{IsFirstFault, IsTraceText}
use Rattle.trace_diagram.specs.declared.diagram.Part.{Part}
use Rattle.trace_diagram.specs.declared.diagram.PartEnd.{PartEnd}
use Rattle.trace_diagram.specs.declared.diagram.Trace.{Trace}
use Rattle.trace_diagram.proofs.Partials.{begun, closed_part, finished, stops_closed, stops_main}
use Rattle.trace_diagram.proofs.Reading.{has_head, has_more, is_text, no_head, no_title, wrong_end, wrong_head, wrong_line, wrong_rest}
use Rattle.program_texts.proofs.Deciding.{Pieces, last_piece, next_piece, Prefixed, has_prefix, lacks_prefix, Readable, spells, spells_none, pieces, prefixed}
use Rattle.program_texts.proofs.Events.{read_head}
use Rattle.program_texts.proofs.NextLines.{Extended, follows, follows_none, extend}

abbrev Answer : List ℕ → Type 0
Answer bytes = IsTraceText bytes ⊎ ((at : ℕ) × IsFirstFault bytes at)

-- ---- at the end

-- no line of the last part is wanting, and it is that of `main`
record IsWhole (p : PartialTrace) : Type 0 where
  main : p.path ≡ []
  parts : List Part
  closed : IsClosedTo p parts

main_or_not : (r : Path) → (r ≡ []) ⊎ (r ≢ [])
main_or_not [] = inl refl
main_or_not (k ∷ r) = inr (λ none. cc)

closed_or_not : (p : PartialTrace) (end : Option PartEnd) (fuel : Option ℕ) → p.end ≡ end → p.fuel ≡ fuel
    → ((parts : List Part) × IsClosedTo p parts) ⊎ (Stops (stage_of p) → ⊥)
closed_or_not p None fuel ended left = inr (λ stops. true≢false (sym (stops_closed p stops).end ∙ ap is_some ended))
closed_or_not p (Some end) None ended left =
    inr (λ stops. true≢false (sym (stops_closed p stops).fuel ∙ ap is_some left))
closed_or_not p (Some end) (Some fuel) ended left =
    inl (
      p.parts ++ closed_part p end fuel ∷ [],
      record { end = end; fuel = fuel; ended = ended; left = left; parts_are = refl },
    )

whole_or_not : (p : PartialTrace) → IsWhole p ⊎ (Stops (stage_of p) → ⊥)
whole_or_not p = by_both (main_or_not p.path) (closed_or_not p p.end p.fuel refl refl)
  where
    by_both : (p.path ≡ []) ⊎ (p.path ≢ []) → ((parts : List Part) × IsClosedTo p parts) ⊎ (Stops (stage_of p) → ⊥)
        → IsWhole p ⊎ (Stops (stage_of p) → ⊥)
    by_both (inl main) (inl closed) = inl (record { main = main; parts = closed.0; closed = closed.1 })
    by_both (inl main) (inr open_yet) = inr open_yet
    by_both (inr other) closed = inr (λ stops. other (stops_main p stops))

at_end : (bytes : List ℕ) (p : PartialTrace) (rest : List ℕ) → HasRead bytes p rest → IsWithout 10 rest → rest ≡ []
    → IsWhole p ⊎ (Stops (stage_of p) → ⊥) → Answer bytes
at_end bytes p rest h none empty (inl whole) =
    let t : Trace = record { parts = whole.parts } in
    inl (t, is_text bytes p rest t h empty (finished p t h.form whole.main whole.closed))
at_end bytes p rest h none empty (inr wanting) = inr (_, wrong_end bytes p rest h none wanting)

at_rest : (bytes : List ℕ) (p : PartialTrace) (rest : List ℕ) → HasRead bytes p rest → IsWithout 10 rest → Answer bytes
at_rest bytes p [] h none = at_end bytes p [] h none refl (whole_or_not p)
at_rest bytes p (b ∷ bs) h none = inr (_, wrong_rest bytes p (b ∷ bs) h none (λ empty. cc))

-- ---- from the second line on

read_on : (bytes rest : List ℕ) (p : PartialTrace) → Pieces 10 rest → HasRead bytes p rest → Answer bytes
read_on bytes rest p (last_piece r none) h = at_rest bytes p r h none
read_on bytes rest p (next_piece r line behind cut later) h =
    by_line (λ q. read_on bytes behind q later) (extend p line h.form)
  where
    by_line : ((q : PartialTrace) → HasRead bytes q behind → Answer bytes) → Extended line p → Answer bytes
    by_line next (follows q longer) = next q (has_more bytes p q r line behind h cut longer)
    by_line next (follows_none none) = inr (_, wrong_line bytes p r line behind h cut none)

-- ---- the first lines

at_head : (bytes rest line behind : List ℕ) → bytes ≡ codes "revisions trace 1\n" ++ rest → IsCut 10 rest line behind
    → Pieces 10 behind → Readable FitsPath head_text line → Answer bytes
at_head bytes rest line behind title cut later (spells r fit is) =
    read_on bytes behind (begun [] r) later (has_head bytes rest line behind r title cut fit is)
at_head bytes rest line behind title cut later (spells_none none) =
    inr (_, wrong_head bytes rest line behind title cut none)

behind_title : (bytes rest : List ℕ) → bytes ≡ codes "revisions trace 1\n" ++ rest → Pieces 10 rest → Answer bytes
behind_title bytes rest title (last_piece r none) = inr (_, no_head bytes r title none)
behind_title bytes rest title (next_piece r line behind cut later) =
    at_head bytes r line behind title cut later (read_head line)

pub each_is_read_or_fails : (bytes : List ℕ) → Answer bytes
each_is_read_or_fails bytes = by_title (prefixed (codes "revisions trace 1\n") bytes)
  where
    by_title : Prefixed (codes "revisions trace 1\n") bytes → Answer bytes
    by_title (has_prefix rest title) = behind_title bytes rest title (pieces 10 rest)
    by_title (lacks_prefix lacks) = inr (0, no_title bytes lacks)
