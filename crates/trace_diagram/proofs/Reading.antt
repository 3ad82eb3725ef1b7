-- What was read of a text, with one more line, with a fault, and at its end.
use Rattle.std.proofs.Common.{◌≡◌, ◌≢◌, ◌∙◌, inl, inr, sym, ap, subst, ℕ, ◌-◌, ◌+◌, List, [], ◌∷◌, ◌++◌, length, refl, arith, append_assoc, length-append}
use Rattle.std.specs.Prelude.{codes, not, ◌==◌}
use Rattle.std.specs.List.{flat_map, AllByRecursion}
use Rattle.rev_num.specs.Path.{Path}
use Rattle.trace_diagram.specs.Cuts.{IsCut, IsWithout}
use Rattle.trace_diagram.specs.Drafts.{HasRead, IsFinished, IsLonger, LeadsTo, PartialTrace, partial_lines, stage_of}
use Rattle.trace_diagram.specs.Following.{Stage, no_part, Follows, Goes, Stops}
use Rattle.trace_diagram.specs.Lines.{FitsPath, head_text}
use Rattle.trace_diagram.specs.Reading.{LacksPrefix}
use Rattle.trace_diagram.specs.Traces.{BeginsTraceText, GoesWrong, IsFirstFault, IsOneLine, IsTextOf, IsTrace, IsTraceText, IsWholeLines, ended, first_line, part_lines, trace_text}
use Rattle.trace_diagram.specs.declared.diagram.Trace.{Trace}
use Rattle.trace_diagram.proofs.Cutting.{append_cancel, cut_once, not_without}
use Rattle.trace_diagram.proofs.Faults.{lines_ended, append_nothing}
use Rattle.trace_diagram.proofs.LineOrder.{flat_append, least_form, least_trace, partial_begins, trace_goes}
use Rattle.trace_diagram.proofs.OneLines.{follows_line, goes_lines}
use Rattle.trace_diagram.proofs.Partials.{all_more_one, begun}
use Rattle.trace_diagram.proofs.Stages.{goes_behind}
use Rattle.trace_diagram.proofs.PlaceForms.{all_without}

-- ---- lines that are ended are cut in one way

behind_line : (line rest more : List ℕ) → (ended line ++ rest) ++ more ≡ line ++ 10 ∷ (rest ++ more)
behind_line line rest more = append_assoc (ended line) rest more ∙ append_assoc line (10 ∷ []) (rest ++ more)

pub no_line : (line more : List ℕ) → [] ≡ line ++ 10 ∷ more → ⊥
no_line [] more is = cc
no_line (b ∷ line) more is = cc

pub record SplitLines (lines read : List (List ℕ)) (rest : List ℕ) : Type 0 where
  pub more : List (List ℕ)
  pub is : lines ≡ read ++ more
  pub text : flat_map ended more ≡ rest

split_lines : (read lines : List (List ℕ)) (rest : List ℕ) → AllByRecursion IsOneLine read
    → AllByRecursion IsOneLine lines → flat_map ended lines ≡ flat_map ended read ++ rest → SplitLines lines read rest
split_lines [] lines rest one two is = record { more = lines; is = refl; text = is }
split_lines (r ∷ read) [] rest one two is =
    absurd (no_line r (flat_map ended read ++ rest) (is ∙ behind_line r (flat_map ended read) rest))
split_lines (r ∷ read) (l ∷ lines) rest one two is =
    let both = cut_once 10 l (flat_map ended lines) r (flat_map ended read ++ rest) two.0 one.0
    (sym (append_assoc l (10 ∷ []) (flat_map ended lines)) ∙ is ∙ behind_line r (flat_map ended read) rest) in
    let h = split_lines read lines rest one.1 two.1 both.1 in
    let heads : l ≡ r = both.0 in
    let tails = h.is in
    record { more = h.more; is = λ i. heads i ∷ tails i; text = h.text }

-- ---- the lines of a trace text that begins with what was read

of_trace : (t : Trace) (read : List (List ℕ)) (s : Stage) (rest : List ℕ) → IsTrace t → LeadsTo read s
    → trace_text t ≡ flat_map ended (first_line ∷ read) ++ rest
    → (more : List (List ℕ)) × Goes s more × (flat_map ended more ≡ rest)
of_trace t read s rest form leads is =
    let goes = trace_goes t form in
    let lines : List (List ℕ) = flat_map part_lines t.parts in
    let behind : flat_map ended lines ≡ flat_map ended read ++ rest =
    append_cancel (ended first_line) _ _ (is ∙ append_assoc (ended first_line) (flat_map ended read) rest) in
    let h = split_lines read lines rest leads.one_line (goes_lines no_part lines goes) behind in
    (h.more, leads.goes h.more (subst (Goes no_part) h.is goes), h.text)

stops_here : (s : Stage) (more : List (List ℕ)) → Goes s more → flat_map ended more ≡ [] → Stops s
stops_here s [] goes is = goes
stops_here s (l ∷ ls) goes is =
    absurd (no_line l (flat_map ended ls) (sym is ∙ append_assoc l (10 ∷ []) (flat_map ended ls)))

next_here : (s : Stage) (more : List (List ℕ)) (line rest : List ℕ) → Goes s more → IsOneLine line
    → flat_map ended more ≡ ended line ++ rest → (next : Stage) × Follows s line next
next_here s [] line rest goes one is = absurd (no_line line rest (is ∙ append_assoc line (10 ∷ []) rest))
next_here s (l ∷ ls) line rest goes one is =
    let both = cut_once 10 l (flat_map ended ls) line rest (follows_line s l goes.0 goes.1) one
    (sym (append_assoc l (10 ∷ []) (flat_map ended ls)) ∙ is ∙ append_assoc line (10 ∷ []) rest) in
    (goes.0, subst (λ v. Follows s v goes.0) both.0 goes.1)

goes_wrong : (read : List (List ℕ)) (s : Stage) (rest : List ℕ) → LeadsTo read s → (rest ≡ [] → Stops s → ⊥)
    → ((line more : List ℕ) (next : Stage) → IsOneLine line → rest ≡ ended line ++ more → Follows s line next → ⊥)
    → GoesWrong (flat_map ended (first_line ∷ read)) rest
goes_wrong read s rest leads no_stop no_next = record { at_end = at_end; in_line = in_line }
  where
    front : List ℕ
    front = flat_map ended (first_line ∷ read)

    at_end : rest ≡ [] → IsTraceText (flat_map ended (first_line ∷ read)) → ⊥
    at_end none text =
        let h = of_trace text.0 read s [] text.1.form leads
        (sym text.1.text ∙ sym (append_nothing (flat_map ended (first_line ∷ read)))) in
        no_stop none (stops_here s h.0 h.1 h.2)

    in_line : (line more : List ℕ) → IsOneLine line → rest ≡ ended line ++ more
        → BeginsTraceText (flat_map ended (first_line ∷ read) ++ ended line) → ⊥
    in_line line more one is begins =
        let text = begins.1 in
        let h = of_trace text.0 read s (ended line ++ begins.0) text.1.form leads
        (sym text.1.text ∙ append_assoc (flat_map ended (first_line ∷ read)) (ended line) begins.0) in
        let next = next_here s h.0 line begins.0 h.1 one h.2 in
        no_next line more next.0 one is next.1

-- ---- first faults

whole_lines : (ls : List (List ℕ)) → IsWholeLines (flat_map ended (first_line ∷ ls))
whole_lines ls = let h = lines_ended first_line ls in inr (h.front, h.is)

place_of_rest : (bytes front rest : List ℕ) → bytes ≡ front ++ rest → length front ≡ length bytes - length rest
place_of_rest bytes front rest is =
    let sum : length bytes ≡ length front + length rest = ap length is ∙ length-append front rest in omega (arith, sum)

fault_at : (bytes : List ℕ) (read : List (List ℕ)) (s : Stage) (rest : List ℕ)
    → bytes ≡ flat_map ended (first_line ∷ read) ++ rest → BeginsTraceText (flat_map ended (first_line ∷ read))
    → LeadsTo read s → (rest ≡ [] → Stops s → ⊥)
    → ((line more : List ℕ) (next : Stage) → IsOneLine line → rest ≡ ended line ++ more → Follows s line next → ⊥)
    → IsFirstFault bytes (length bytes - length rest)
fault_at bytes read s rest is begins leads no_stop no_next = record {
  lines = flat_map ended (first_line ∷ read);
  rest = rest;
  is = is;
  place = place_of_rest bytes (flat_map ended (first_line ∷ read)) rest is;
  whole = whole_lines read;
  begins = begins;
  fault = goes_wrong read s rest leads no_stop no_next;
}

same_line : (rest line behind l more : List ℕ) → IsCut 10 rest line behind → IsOneLine l → rest ≡ ended l ++ more
    → l ≡ line
same_line rest line behind l more cut one is =
    (cut_once 10 l more line behind one cut.first (sym (append_assoc l (10 ∷ []) more) ∙ sym is ∙ cut.is)).0

cut_some : (rest line behind : List ℕ) → IsCut 10 rest line behind → rest ≢ []
cut_some rest line behind cut none = no_line line behind (sym none ∙ cut.is)

-- a line that can't come
pub wrong_line : (bytes : List ℕ) (p : PartialTrace) (rest line behind : List ℕ) → HasRead bytes p rest
    → IsCut 10 rest line behind → ((next : Stage) → Follows (stage_of p) line next → ⊥)
    → IsFirstFault bytes (length bytes - length rest)
wrong_line bytes p rest line behind h cut wrong =
    fault_at bytes (partial_lines p) (stage_of p) rest h.is (partial_begins p h.form) h.leads
    (λ none stops. cut_some rest line behind cut none)
    (λ l more next one is follows.
    wrong next (subst (λ v. Follows (stage_of p) v next) (same_line rest line behind l more cut one is) follows))

no_feed : (rest l more : List ℕ) → IsWithout 10 rest → rest ≡ ended l ++ more → ⊥
no_feed rest l more none is = not_without 10 l more (subst (IsWithout 10) (is ∙ append_assoc l (10 ∷ []) more) none)

-- a rest with no line feed
pub wrong_rest : (bytes : List ℕ) (p : PartialTrace) (rest : List ℕ) → HasRead bytes p rest → IsWithout 10 rest
    → rest ≢ [] → IsFirstFault bytes (length bytes - length rest)
wrong_rest bytes p rest h none some =
    fault_at bytes (partial_lines p) (stage_of p) rest h.is (partial_begins p h.form) h.leads
    (λ empty stops. some empty)
    (λ l more next one is follows. no_feed rest l more none is)

-- the end, where something is wanting
pub wrong_end : (bytes : List ℕ) (p : PartialTrace) (rest : List ℕ) → HasRead bytes p rest → IsWithout 10 rest
    → (Stops (stage_of p) → ⊥) → IsFirstFault bytes (length bytes - length rest)
wrong_end bytes p rest h none wanting =
    fault_at bytes (partial_lines p) (stage_of p) rest h.is (partial_begins p h.form) h.leads
    (λ empty stops. wanting stops)
    (λ l more next one is follows. no_feed rest l more none is)

-- ---- one more line

leads_more : (read : List (List ℕ)) (s next : Stage) (line : List ℕ) → LeadsTo read s → Follows s line next
    → LeadsTo (read ++ line ∷ []) next
leads_more read s next line leads follows = record {
  one_line = all_more_one IsOneLine read line leads.one_line (follows_line s line next follows);
  goes = λ more h.
      goes_behind s next line more follows
      (leads.goes (line ∷ more) (subst (Goes no_part) (append_assoc read (line ∷ []) more) h));
}

text_more : (read : List (List ℕ)) (line behind : List ℕ)
    → flat_map ended (first_line ∷ (read ++ line ∷ [])) ++ behind
    ≡ flat_map ended (first_line ∷ read) ++ (line ++ 10 ∷ behind)
text_more read line behind =
    ap (λ t. t ++ behind) (flat_append ended (first_line ∷ read) (line ∷ []))
    ∙ append_assoc (flat_map ended (first_line ∷ read)) (flat_map ended (line ∷ [])) behind
    ∙ ap (λ t. flat_map ended (first_line ∷ read) ++ t)
    (ap (λ t. t ++ behind) (append_nothing (ended line)) ∙ append_assoc line (10 ∷ []) behind)

pub has_more : (bytes : List ℕ) (p q : PartialTrace) (rest line behind : List ℕ) → HasRead bytes p rest
    → IsCut 10 rest line behind → IsLonger line p q → HasRead bytes q behind
has_more bytes p q rest line behind h cut longer = record {
  form = longer.form;
  is = h.is ∙ ap (λ t. flat_map ended (first_line ∷ partial_lines p) ++ t) cut.is
      ∙ sym (text_more (partial_lines p) line behind)
      ∙ ap (λ ls. flat_map ended (first_line ∷ ls) ++ behind) (sym longer.lines);
  leads = subst (λ ls. LeadsTo ls (stage_of q)) (sym longer.lines)
      (leads_more (partial_lines p) (stage_of p) (stage_of q) line h.leads longer.follows);
}

-- ---- the end

pub is_text : (bytes : List ℕ) (p : PartialTrace) (rest : List ℕ) (t : Trace) → HasRead bytes p rest → rest ≡ []
    → IsFinished p t → IsTextOf bytes t
is_text bytes p rest t h none f = record {
  form = f.form;
  text = h.is ∙ ap (λ r. flat_map ended (first_line ∷ partial_lines p) ++ r) none ∙ append_nothing _
      ∙ ap (λ ls. flat_map ended (first_line ∷ ls)) (sym f.lines);
}

-- ---- the first lines

leads_none : LeadsTo [] no_part
leads_none = record { one_line = tt; goes = λ more h. h }

begins_title : BeginsTraceText (ended first_line)
begins_title =
    (flat_map ended (flat_map part_lines least_trace.parts), (least_trace, record { form = least_form; text = refl }))

pub has_head : (bytes parts line behind : List ℕ) (r : Path) → bytes ≡ codes "revisions trace 1\n" ++ parts
    → IsCut 10 parts line behind → FitsPath r → head_text r ≡ line → HasRead bytes (begun [] r) behind
has_head bytes parts line behind r at cut fit is = record {
  form = record {
    each = tt;
    order = tt;
    path = fit;
    events = tt;
    end = tt;
    fuel = tt;
    written = tt;
    text = record { whole = refl; printable = tt };
    not_yet = (refl, refl, refl);
  };
  is = at ∙ ap (λ t. ended first_line ++ t) (cut.is ∙ ap (λ t. t ++ 10 ∷ behind) (sym is))
      ∙ sym (text_more [] (head_text r) behind);
  leads = leads_more [] no_part _ (head_text r) leads_none (record { path = r; fits = fit; is = refl; to = refl });
}

no_parts_fault : (bytes parts : List ℕ) → bytes ≡ codes "revisions trace 1\n" ++ parts
    → ((line more : List ℕ) (next : Stage) → IsOneLine line → parts ≡ ended line ++ more → Follows no_part line next
    → ⊥)
    → IsFirstFault bytes (length bytes - length parts)
no_parts_fault bytes parts at no_next =
    fault_at bytes [] no_part parts at begins_title leads_none (λ none stops. stops) no_next

pub wrong_head : (bytes parts line behind : List ℕ) → bytes ≡ codes "revisions trace 1\n" ++ parts
    → IsCut 10 parts line behind → ((r : Path) → FitsPath r → head_text r ≡ line → ⊥)
    → IsFirstFault bytes (length bytes - length parts)
wrong_head bytes parts line behind at cut none =
    no_parts_fault bytes parts at
    (λ l more next one is follows.
    none follows.path follows.fits (follows.is ∙ same_line parts line behind l more cut one is))

pub no_head : (bytes parts : List ℕ) → bytes ≡ codes "revisions trace 1\n" ++ parts → IsWithout 10 parts
    → IsFirstFault bytes (length bytes - length parts)
no_head bytes parts at none = no_parts_fault bytes parts at (λ l more next one is follows. no_feed parts l more none is)

title_line : IsWithout 10 first_line
title_line = all_without (λ c. not (c == 10)) 10 refl first_line refl

pub no_title : (bytes : List ℕ) → LacksPrefix bytes (codes "revisions trace 1\n") → IsFirstFault bytes 0
no_title bytes lacks = record {
  lines = [];
  rest = bytes;
  is = refl;
  place = refl;
  whole = inl refl;
  begins = (trace_text least_trace, (least_trace, record { form = least_form; text = refl }));
  fault = record { at_end = at_end; in_line = in_line };
}
  where
    at_end : bytes ≡ [] → IsTraceText [] → ⊥
    at_end none text = let e = text.1.text in cc

    in_line : (line more : List ℕ) → IsOneLine line → bytes ≡ ended line ++ more → BeginsTraceText (ended line) → ⊥
    in_line line more one is begins =
        let text = begins.1 in
        let lines : List ℕ = flat_map ended (flat_map part_lines text.0.parts) in
        let both =
        cut_once 10 line begins.0 first_line lines one title_line
        (sym (append_assoc line (10 ∷ []) begins.0) ∙ text.1.text ∙ append_assoc first_line (10 ∷ []) lines) in
        lacks more (is ∙ ap (λ l. ended l ++ more) both.0)
