-- The same bytes are the text of one trace, but for the numbers of the locations of merges.
use Rattle.std.proofs.Common.{◌≡◌, ◌≢◌, ◌∙◌, sym, ℕ, List, [], ◌∷◌, ◌++◌, get_or, map, refl, arith, append_assoc}
use Rattle.std.specs.List.{flat_map, AllByRecursion}
use Rattle.trace_diagram.specs.Following.{no_part}
use Rattle.trace_diagram.specs.Lines.{change_text, end_text, event_text, fuel_text, head_text, quoted}
use Rattle.trace_diagram.specs.Shown.{shown_part}
use Rattle.trace_diagram.specs.Traces.{IsOneLine, IsPart, IsTrace, ended, first_line, part_lines, text_lines}
use Rattle.trace_diagram.specs.declared.diagram.Change.{Change}
use Rattle.trace_diagram.specs.declared.diagram.Part.{Part}
use Rattle.trace_diagram.specs.declared.diagram.PartEnd.{PartEnd}
use Rattle.trace_diagram.specs.declared.diagram.PartEnd.TheVariants as part_end
use Rattle.trace_diagram.specs.declared.diagram.Trace.{Trace}
use Rattle.trace_diagram.specs.declared.diagram.TraceEvent.{TraceEvent}
use Rattle.trace_diagram.specs.declared.diagram.TraceEvent.TheVariants as event
use Rattle.trace_diagram.proofs.Cutting.{append_cancel, cut_once}
use Rattle.trace_diagram.proofs.LineOrder.{behind_head, trace_goes}
use Rattle.trace_diagram.proofs.OneLines.{goes_lines}
use Rattle.trace_diagram.proofs.OneText.{parts_are_told}
use Rattle.program_texts.specs.Verdicts.{TextsHaveOneTrace}
use Rattle.trace_diagram.proofs.Reading.{no_line}
use Rattle.trace_diagram.proofs.Stages.{first as first_byte}

-- ---- bytes are cut into lines in one way

line_first : (line : List ℕ) (lines : List (List ℕ)) → flat_map ended (line ∷ lines) ≡ line ++ 10 ∷ flat_map ended lines
line_first line lines = append_assoc line (10 ∷ []) (flat_map ended lines)

lines_once : (xs ys : List (List ℕ)) → AllByRecursion IsOneLine xs → AllByRecursion IsOneLine ys
    → flat_map ended xs ≡ flat_map ended ys → xs ≡ ys
lines_once [] [] f g is = refl
lines_once [] (y ∷ ys) f g is = absurd (no_line y (flat_map ended ys) (is ∙ line_first y ys))
lines_once (x ∷ xs) [] f g is = absurd (no_line x (flat_map ended xs) (sym is ∙ line_first x xs))
lines_once (x ∷ xs) (y ∷ ys) f g is =
    let both =
    cut_once 10 x (flat_map ended xs) y (flat_map ended ys) f.0 g.0 (sym (line_first x xs) ∙ is ∙ line_first y ys) in
    let heads : x ≡ y = both.0 in
    let tails : xs ≡ ys = lines_once xs ys f.1 g.1 both.1 in
    λ i. heads i ∷ tails i

trace_once : (t t' : Trace) → IsTrace t → IsTrace t'
    → flat_map ended (first_line ∷ flat_map part_lines t.parts)
    ≡ flat_map ended (first_line ∷ flat_map part_lines t'.parts)
    → flat_map part_lines t.parts ≡ flat_map part_lines t'.parts
trace_once t t' f g is =
    lines_once (flat_map part_lines t.parts) (flat_map part_lines t'.parts)
    (goes_lines no_part (flat_map part_lines t.parts) (trace_goes t f))
    (goes_lines no_part (flat_map part_lines t'.parts) (trace_goes t' g))
    (append_cancel (ended first_line) _ _ is)

-- ---- lines are cut into parts in one way

-- with an `r` begins the first line of a part, and no other
abbrev NoHead : List ℕ → Type 0
NoHead line = get_or line 0 0 ≢ 114

abbrev Heads : List (List ℕ) → Type 0
Heads [] = Unit {0}
Heads (line ∷ lines) = get_or line 0 0 ≡ 114

event_no_head : (e : TraceEvent) → NoHead (event_text e)
event_no_head (event.Forked q n) k = omega (arith, k)
event_no_head (event.Joined q n) k = omega (arith, k)

end_no_head : (e : PartEnd) → NoHead (end_text e)
end_no_head part_end.Done k = omega (arith, k)
end_no_head (part_end.Trapped t p) k = omega (arith, k)

fuel_no_head : (n : ℕ) → NoHead (fuel_text n)
fuel_no_head n k = omega (arith, k)

change_no_head : (c : Change) → NoHead (change_text c)
change_no_head c k = omega (arith, k)

quote_no_head : (line : List ℕ) → NoHead (quoted line)
quote_no_head line k = omega (arith, k)

all_no_head : {A : Type 0} (f : A → List ℕ) (xs : List A) → ((x : A) → NoHead (f x)) → AllByRecursion NoHead (map f xs)
all_no_head f [] h = tt
all_no_head f (x ∷ xs) h = (h x, all_no_head f xs h)

both_no_head : (xs ys : List (List ℕ)) → AllByRecursion NoHead xs → AllByRecursion NoHead ys
    → AllByRecursion NoHead (xs ++ ys)
both_no_head [] ys h k = k
both_no_head (x ∷ xs) ys h k = (h.0, both_no_head xs ys h.1 k)

behind_no_head : (p : Part) → AllByRecursion NoHead (behind_head p)
behind_no_head p =
    both_no_head (map event_text p.events) _ (all_no_head event_text p.events event_no_head) (
      end_no_head p.end,
      (
        fuel_no_head p.fuel,
        both_no_head (map change_text p.written) (map quoted (text_lines p.text))
            (all_no_head change_text p.written change_no_head)
            (all_no_head quoted (text_lines p.text) quote_no_head),
      ),
    )

parts_head : (ps : List Part) → Heads (flat_map part_lines ps)
parts_head [] = tt
parts_head (p ∷ ps) = refl

part_once : (xs ys rest rest' : List (List ℕ)) → AllByRecursion NoHead xs → AllByRecursion NoHead ys → Heads rest
    → Heads rest' → xs ++ rest ≡ ys ++ rest' → (xs ≡ ys) × (rest ≡ rest')
part_once [] [] rest rest' f g h k is = (refl, is)
part_once [] (y ∷ ys) [] rest' f g h k is = absurd cc
part_once [] (y ∷ ys) (l ∷ rest) rest' f g h k is =
    absurd (let head : l ≡ y = cc in g.0 (sym (first_byte l y head) ∙ h))
part_once (x ∷ xs) [] rest [] f g h k is = absurd cc
part_once (x ∷ xs) [] rest (l ∷ rest') f g h k is = absurd (let head : x ≡ l = cc in f.0 (first_byte x l head ∙ k))
part_once (x ∷ xs) (y ∷ ys) rest rest' f g h k is =
    let head : x ≡ y = cc in
    let tail : xs ++ rest ≡ ys ++ rest' = cc in
    let both = part_once xs ys rest rest' f.1 g.1 h k tail in
    let fronts : xs ≡ ys = both.0 in
    (λ i. head i ∷ fronts i, both.1)

parts_once : (ps qs : List Part) → AllByRecursion IsPart ps → AllByRecursion IsPart qs
    → flat_map part_lines ps ≡ flat_map part_lines qs → map shown_part ps ≡ map shown_part qs
parts_once [] [] f g is = refl
parts_once [] (q ∷ qs) f g is = absurd cc
parts_once (p ∷ ps) [] f g is = absurd cc
parts_once (p ∷ ps) (q ∷ qs) f g is =
    let head : head_text p.path ≡ head_text q.path = cc in
    let tail : behind_head p ++ flat_map part_lines ps ≡ behind_head q ++ flat_map part_lines qs = cc in
    let both =
    part_once (behind_head p) (behind_head q) (flat_map part_lines ps) (flat_map part_lines qs) (behind_no_head p)
    (behind_no_head q) (parts_head ps) (parts_head qs) tail in
    let lines : behind_head p ≡ behind_head q = both.0 in
    let first : shown_part p ≡ shown_part q = (parts_are_told p q f.0 g.0).0 (λ i. head i ∷ lines i) in
    let rest : map shown_part ps ≡ map shown_part qs = parts_once ps qs f.1 g.1 both.1 in
    λ i. first i ∷ rest i

-- ---- traces

pub same_trace : TextsHaveOneTrace
same_trace bytes t t' h k =
    parts_once t.parts t'.parts h.form.each k.form.each (trace_once t t' h.form k.form (sym h.text ∙ k.text))
