-- Whether a line follows what was read of a trace, and what was read then.
use Rattle.std.proofs.Common.{◌≡◌, ◌∙◌, ◌⊎◌, inl, inr, sym, ap, subst, ℕ, ◌<◌, ◌^◌, Bool, true, false, List, [], ◌∷◌, ◌++◌, map, refl, append_assoc}
use Rattle.std.specs.Prelude.{Option, Some, None, is_some}
use Rattle.std.specs.List.{flat_map}
use Rattle.std.proofs.lemmas.List.{append-nil, map-append}
use Rattle.rev_num.specs.Path.{Path, before}
use Rattle.trace_diagram.specs.Drafts.{IsClosed, IsClosedTo, IsLonger, IsPartial, PartialTrace, partial_lines, stage_of}
use Rattle.trace_diagram.specs.Following.{Stage, in_writes, in_text, BeginsLater, Behind, Follows}
use Rattle.trace_diagram.specs.Lines.{FitsChange, FitsEnd, FitsEvent, FitsPath, change_text, end_text, event_text, fuel_text, head_text, quoted}
use Rattle.trace_diagram.specs.Traces.{part_lines}
use Rattle.trace_diagram.specs.declared.diagram.Change.{Change}
use Rattle.trace_diagram.specs.declared.diagram.Part.{Part}
use Rattle.trace_diagram.specs.declared.diagram.PartEnd.{PartEnd}
use Rattle.trace_diagram.specs.declared.diagram.TraceEvent.{TraceEvent}
use Rattle.trace_diagram.proofs.Partials.{all_more_one, begun, closed_part, head_extends, lines_more, not_later, quote_extends, write_extends}
use Rattle.program_texts.proofs.Deciding.{Readable, spells, spells_none}
use Rattle.program_texts.proofs.Changes.{read_change}
use Rattle.program_texts.proofs.Ends.{read_end}
use Rattle.program_texts.proofs.Events.{IsPrintable, read_event, read_fuel, read_head, read_quoted}

-- what was read with the line, or that the line can't come
pub data Extended (line : List ℕ) (p : PartialTrace) : Type 0 where
  follows : (q : PartialTrace) → IsLonger line p q → Extended line p
  follows_none : ((next : Stage) → Follows (stage_of p) line next → ⊥) → Extended line p

-- ---- among the forks and joins

-- a part of which so many forks and joins were read
abbrev listed : List Part → Path → List TraceEvent → PartialTrace
listed parts path events =
    record { parts = parts; path = path; events = events; end = None; fuel = None; written = []; text = [] }

listed_lines : (parts : List Part) (path : Path) (events : List TraceEvent)
    → partial_lines (listed parts path events) ≡ flat_map part_lines parts ++ head_text path ∷ map event_text events
listed_lines parts path events =
    ap (λ t. flat_map part_lines parts ++ head_text path ∷ t) (append-nil (map event_text events))

event_extends : (parts : List Part) (path : Path) (events : List TraceEvent) (line : List ℕ) (e : TraceEvent)
    → IsPartial (listed parts path events) → FitsEvent e → event_text e ≡ line
    → IsLonger line (listed parts path events) (listed parts path (events ++ e ∷ []))
event_extends parts path events line e form fit is = record {
  form = record {
    each = form.each;
    order = form.order;
    path = form.path;
    events = all_more_one FitsEvent events e form.events fit;
    end = form.end;
    fuel = form.fuel;
    written = form.written;
    text = form.text;
    not_yet = form.not_yet;
  };
  lines = listed_lines parts path (events ++ e ∷ [])
      ∙ ap (λ t. flat_map part_lines parts ++ head_text path ∷ t)
      (map-append event_text events (e ∷ []) ∙ ap (λ t. map event_text events ++ t ∷ []) is)
      ∙ sym (append_assoc (flat_map part_lines parts) (head_text path ∷ map event_text events) (line ∷ []))
      ∙ ap (λ t. t ++ line ∷ []) (sym (listed_lines parts path events));
  follows = inl (record { entry = e; fits = fit; is = is; to = refl });
}

-- a part that has its end
abbrev over : List Part → Path → List TraceEvent → PartEnd → PartialTrace
over parts path events end =
    record { parts = parts; path = path; events = events; end = Some end; fuel = None; written = []; text = [] }

end_extends : (parts : List Part) (path : Path) (events : List TraceEvent) (line : List ℕ) (e : PartEnd)
    → IsPartial (listed parts path events) → FitsEnd e → end_text e ≡ line
    → IsLonger line (listed parts path events) (over parts path events e)
end_extends parts path events line e form fit is = record {
  form = record {
    each = form.each;
    order = form.order;
    path = form.path;
    events = form.events;
    end = fit;
    fuel = form.fuel;
    written = form.written;
    text = form.text;
    not_yet = (refl, refl);
  };
  lines = lines_more (flat_map part_lines parts) (head_text path) (map event_text events) [] (end_text e ∷ []) line
      (ap (λ t. t ∷ []) is);
  follows = inr (record { end = e; fits = fit; is = is; to = refl });
}

extend_listed : (parts : List Part) (path : Path) (events : List TraceEvent) (line : List ℕ)
    → IsPartial (listed parts path events) → Extended line (listed parts path events)
extend_listed parts path events line form = by_kinds (read_event line) (read_end line)
  where
    no_line : ((e : TraceEvent) → FitsEvent e → event_text e ≡ line → ⊥)
        → ((e : PartEnd) → FitsEnd e → end_text e ≡ line → ⊥) → (next : Stage)
        → Follows (stage_of (listed parts path events)) line next → ⊥
    no_line entries ends next (inl h) = entries h.entry h.fits h.is
    no_line entries ends next (inr h) = ends h.end h.fits h.is

    by_kinds : Readable FitsEvent event_text line → Readable FitsEnd end_text line
        → Extended line (listed parts path events)
    by_kinds (spells e fit is) end =
        follows (listed parts path (events ++ e ∷ [])) (event_extends parts path events line e form fit is)
    by_kinds (spells_none entries) (spells e fit is) =
        follows (over parts path events e) (end_extends parts path events line e form fit is)
    by_kinds (spells_none entries) (spells_none ends) = follows_none (no_line entries ends)

-- ---- behind the end

-- a part that has its fuel
abbrev closed : List Part → Path → List TraceEvent → PartEnd → ℕ → List Change → List ℕ → PartialTrace
closed parts path events end fuel written text = record {
  parts = parts;
  path = path;
  events = events;
  end = Some end;
  fuel = Some fuel;
  written = written;
  text = text;
}

fuel_extends : (parts : List Part) (path : Path) (events : List TraceEvent) (end : PartEnd) (line : List ℕ) (n : ℕ)
    → IsPartial (over parts path events end) → n < 2 ^ 64 → fuel_text n ≡ line
    → IsLonger line (over parts path events end) (closed parts path events end n [] [])
fuel_extends parts path events end line n form small is = record {
  form = record {
    each = form.each;
    order = form.order;
    path = form.path;
    events = form.events;
    end = form.end;
    fuel = small;
    written = form.written;
    text = form.text;
    not_yet = tt;
  };
  lines = lines_more (flat_map part_lines parts) (head_text path) (map event_text events) (end_text end ∷ [])
      (end_text end ∷ fuel_text n ∷ []) line (ap (λ t. end_text end ∷ t ∷ []) is);
  follows = record { fuel = n; fits = small; is = is; to = refl };
}

extend_over : (parts : List Part) (path : Path) (events : List TraceEvent) (end : PartEnd) (line : List ℕ)
    → IsPartial (over parts path events end) → Extended line (over parts path events end)
extend_over parts path events end line form = by_fuel (read_fuel line)
  where
    by_fuel : Readable (λ n. n < 2 ^ 64) fuel_text line → Extended line (over parts path events end)
    by_fuel (spells n small is) =
        follows (closed parts path events end n [] []) (fuel_extends parts path events end line n form small is)
    by_fuel (spells_none none) = follows_none (λ next h. none h.fuel h.fits h.is)

-- ---- behind the fuel

abbrev Longer : List ℕ → PartialTrace → Type 0
Longer line p = (q : PartialTrace) × IsLonger line p q

-- what was read with a line that is printed or begins a part, or that the line is neither
abbrev Behinds : List ℕ → PartialTrace → Type 0
Behinds line p = Longer line p ⊎ ((next : Stage) → Behind p.path line next → ⊥)

-- of a part that has its end and its fuel
record IsClosedBy (p : PartialTrace) (end : PartEnd) (fuel : ℕ) : Type 0 where
  ended : p.end ≡ Some end
  left : p.fuel ≡ Some fuel

to_closed : (p : PartialTrace) (end : PartEnd) (fuel : ℕ) → IsClosedBy p end fuel → IsClosed p
to_closed p end fuel h = record { end = ap is_some h.ended; fuel = ap is_some h.left }

abbrev parts_with : PartialTrace → PartEnd → ℕ → List Part
parts_with p end fuel = p.parts ++ closed_part p end fuel ∷ []

closed_to : (p : PartialTrace) (end : PartEnd) (fuel : ℕ) → IsClosedBy p end fuel → IsClosedTo p (parts_with p end fuel)
closed_to p end fuel h = record { end = end; fuel = fuel; ended = h.ended; left = h.left; parts_are = refl }

-- the line begins a part that comes later, or none does
abbrev Begins : List ℕ → PartialTrace → Type 0
Begins line p = Longer line p ⊎ ((next : Stage) → BeginsLater p.path line next → ⊥)

begin_part : (p : PartialTrace) (end : PartEnd) (fuel : ℕ) (line : List ℕ) → IsPartial p → IsClosedBy p end fuel
    → Readable FitsPath head_text line → Begins line p
begin_part p end fuel line form h (spells r fit is) = by_order (before p.path r) refl
  where
    by_order : (t : Bool) → before p.path r ≡ t → Begins line p
    by_order true later = inl (
      begun (parts_with p end fuel) r,
      head_extends p (parts_with p end fuel) r line form (closed_to p end fuel h) fit is later,
    )
    by_order false other = inr (λ next begins. not_later p.path r line next fit is other begins)
begin_part p end fuel line form h (spells_none none) =
    inr (λ next begins. none begins.part.path begins.part.fits begins.part.is)

extend_behind : (p : PartialTrace) (end : PartEnd) (fuel : ℕ) (line : List ℕ) → IsPartial p → IsClosedBy p end fuel
    → Behinds line p
extend_behind p end fuel line form h = by_kinds (read_quoted line) (begin_part p end fuel line form h (read_head line))
  where
    neither : ((text : List ℕ) → IsPrintable text → quoted text ≡ line → ⊥)
        → ((next : Stage) → BeginsLater p.path line next → ⊥) → (next : Stage) → Behind p.path line next → ⊥
    neither quotes parts next (inl x) = quotes x.text x.quote.printable x.quote.is
    neither quotes parts next (inr x) = parts next x

    by_kinds : Readable IsPrintable quoted line → Begins line p → Behinds line p
    by_kinds (spells text print is) part =
        inl (_, quote_extends p text line form (to_closed p end fuel h) (record { printable = print; is = is }))
    by_kinds (spells_none quotes) (inl longer) = inl longer
    by_kinds (spells_none quotes) (inr parts) = inr (neither quotes parts)

-- behind the writes, a write too may come
extend_writes : (p : PartialTrace) (end : PartEnd) (fuel : ℕ) (line : List ℕ) → IsPartial p → IsClosedBy p end fuel
    → p.text ≡ [] → stage_of p ≡ in_writes p.path → Extended line p
extend_writes p end fuel line form h none stage = by_kinds (read_change line) (extend_behind p end fuel line form h)
  where
    neither : ((c : Change) → FitsChange c → change_text c ≡ line → ⊥) → ((next : Stage) → Behind p.path line next → ⊥)
        → (next : Stage) → Follows (in_writes p.path) line next → ⊥
    neither changes others next (inl x) = changes x.change x.fits x.is
    neither changes others next (inr x) = others next x

    by_kinds : Readable FitsChange change_text line → Behinds line p → Extended line p
    by_kinds (spells c fit is) other = follows _ (write_extends p c line form (to_closed p end fuel h) none fit is)
    by_kinds (spells_none changes) (inl longer) = follows longer.0 longer.1
    by_kinds (spells_none changes) (inr others) =
        follows_none (λ next x. neither changes others next (subst (λ s. Follows s line next) stage x))

extend_text : (p : PartialTrace) (end : PartEnd) (fuel : ℕ) (line : List ℕ) → IsPartial p → IsClosedBy p end fuel
    → stage_of p ≡ in_text p.path → Extended line p
extend_text p end fuel line form h stage = by_kinds (extend_behind p end fuel line form h)
  where
    by_kinds : Behinds line p → Extended line p
    by_kinds (inl longer) = follows longer.0 longer.1
    by_kinds (inr others) = follows_none (λ next x. others next (subst (λ s. Follows s line next) stage x))

-- ---- of whatever was read

extend_at : (parts : List Part) (path : Path) (events : List TraceEvent) (end : Option PartEnd) (fuel : Option ℕ)
    (written : List Change) (text line : List ℕ)
    → IsPartial
    (record { parts = parts; path = path; events = events; end = end; fuel = fuel; written = written; text = text })
    → Extended line
    (record { parts = parts; path = path; events = events; end = end; fuel = fuel; written = written; text = text })
extend_at parts path events None None [] [] line form = extend_listed parts path events line form
extend_at parts path events None None (w ∷ ws) text line form = absurd (let h = form.not_yet.1 in cc)
extend_at parts path events None None [] (b ∷ bs) line form = absurd (let h = form.not_yet.2 in cc)
extend_at parts path events None (Some fuel) written text line form = absurd (let h = form.not_yet.0 in cc)
extend_at parts path events (Some end) None [] [] line form = extend_over parts path events end line form
extend_at parts path events (Some end) None (w ∷ ws) text line form = absurd (let h = form.not_yet.0 in cc)
extend_at parts path events (Some end) None [] (b ∷ bs) line form = absurd (let h = form.not_yet.1 in cc)
extend_at parts path events (Some end) (Some fuel) written [] line form =
    extend_writes (closed parts path events end fuel written []) end fuel line form
    (record { ended = refl; left = refl }) refl refl
extend_at parts path events (Some end) (Some fuel) written (b ∷ bs) line form =
    extend_text (closed parts path events end fuel written (b ∷ bs)) end fuel line form
    (record { ended = refl; left = refl }) refl

pub extend : (p : PartialTrace) (line : List ℕ) → IsPartial p → Extended line p
extend p line form = extend_at p.parts p.path p.events p.end p.fuel p.written p.text line form
