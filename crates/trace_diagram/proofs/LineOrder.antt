-- The lines of a trace follow one another, and what was read of a trace can be completed.
use Rattle.std.proofs.Common.{◌≡◌, ◌∙◌, inl, inr, sym, ap, subst, ℕ, ◌<◌, ◌^◌, List, [], ◌∷◌, ◌++◌, map, refl, arith, append_assoc}
use Rattle.std.specs.Prelude.{Option, Some, None, IfSome, IsTrue, unwrap_or}
use Rattle.std.specs.List.{flat_map, list_all, AllByRecursion}
use Rattle.rev_num.specs.Path.{Path, before}
use Rattle.trace_diagram.specs.Drafts.{Ascends, IsPartial, NotYet, PartialTrace, last_lines, open_lines, partial_lines}
use Rattle.trace_diagram.specs.Following.{no_part, in_events, at_fuel, in_writes, in_text, Goes}
use Rattle.trace_diagram.specs.Lines.{FitsChange, FitsEnd, FitsEvent, change_text, end_text, event_text, fuel_text, head_text, is_printable, quoted}
use Rattle.trace_diagram.specs.Traces.{BeginsTraceText, IsPart, IsTrace, MainIsLast, ended, first_line, part_lines, text_lines}
use Rattle.trace_diagram.specs.declared.diagram.Change.{Change}
use Rattle.trace_diagram.specs.declared.diagram.Part.{Part}
use Rattle.trace_diagram.specs.declared.diagram.PartEnd.{PartEnd}
use Rattle.trace_diagram.specs.declared.diagram.PartEnd.TheVariants as part_end
use Rattle.trace_diagram.specs.declared.diagram.Trace.{Trace}
use Rattle.trace_diagram.specs.declared.diagram.TraceEvent.{TraceEvent}
use Rattle.trace_diagram.proofs.Partials.{closed_part}

-- ---- the lines of a trace follow one another

-- what may come behind a printed line may come behind the writes
widen : (r : Path) (lines : List (List ℕ)) → Goes (in_text r) lines → Goes (in_writes r) lines
widen r [] h = h
widen r (line ∷ lines) h = (h.0, inr h.1, h.2)

texts_go : (r : Path) (ts lines : List (List ℕ)) → AllByRecursion (λ l. IsTrue (list_all is_printable l)) ts
    → Goes (in_text r) lines → Goes (in_text r) (map quoted ts ++ lines)
texts_go r [] lines fit h = h
texts_go r (t ∷ ts) lines fit h = (
  in_text r,
  inl (record { text = t; quote = record { printable = fit.0; is = refl }; to = refl }),
  texts_go r ts lines fit.1 h,
)

writes_go : (r : Path) (ws : List Change) (lines : List (List ℕ)) → AllByRecursion FitsChange ws
    → Goes (in_writes r) lines → Goes (in_writes r) (map change_text ws ++ lines)
writes_go r [] lines fit h = h
writes_go r (c ∷ ws) lines fit h =
    (in_writes r, inl (record { change = c; fits = fit.0; is = refl; to = refl }), writes_go r ws lines fit.1 h)

events_go : (r : Path) (es : List TraceEvent) (lines : List (List ℕ)) → AllByRecursion FitsEvent es
    → Goes (in_events r) lines → Goes (in_events r) (map event_text es ++ lines)
events_go r [] lines fit h = h
events_go r (e ∷ es) lines fit h =
    (in_events r, inl (record { entry = e; fits = fit.0; is = refl; to = refl }), events_go r es lines fit.1 h)

-- the lines of a part behind its first
abbrev pub behind_head : Part → List (List ℕ)
behind_head p =
    map event_text p.events
    ++ (end_text p.end ∷ fuel_text p.fuel ∷ (map change_text p.written ++ map quoted (text_lines p.text)))

part_goes : (p : Part) (lines : List (List ℕ)) → IsPart p → Goes (in_text p.path) lines
    → Goes (in_events p.path) (behind_head p ++ lines)
part_goes p lines fit h =
    subst (Goes (in_events p.path)) (sym (append_assoc (map event_text p.events) _ lines))
    (events_go p.path p.events _ fit.events (
      at_fuel p.path,
      inr (record { end = p.end; fits = fit.end; is = refl; to = refl }),
      (
        in_writes p.path,
        record { fuel = p.fuel; fits = fit.fuel; is = refl; to = refl },
        subst (Goes (in_writes p.path))
            (sym (append_assoc (map change_text p.written) (map quoted (text_lines p.text)) lines))
            (writes_go p.path p.written _ fit.written
            (widen p.path _ (texts_go p.path (text_lines p.text) lines fit.text.printable h))),
      ),
    ))

parts_go : (p : Part) (ps : List Part) → AllByRecursion IsPart (p ∷ ps) → MainIsLast (p ∷ ps)
    → Goes (in_events p.path) (behind_head p ++ flat_map part_lines ps)
parts_go p [] each order = part_goes p [] each.0 order
parts_go p (q ∷ ps) each order =
    part_goes p (part_lines q ++ flat_map part_lines ps) each.0 (
      in_events q.path,
      inr (record { part = record { path = q.path; fits = each.1.0.path; is = refl; to = refl }; later = order.0 }),
      parts_go q ps each.1 order.1,
    )

all_go : (ps : List Part) → AllByRecursion IsPart ps → MainIsLast ps → Goes no_part (flat_map part_lines ps)
all_go [] each order = absurd order
all_go (p ∷ ps) each order =
    (in_events p.path, record { path = p.path; fits = each.0.path; is = refl; to = refl }, parts_go p ps each order)

pub trace_goes : (t : Trace) → IsTrace t → Goes no_part (flat_map part_lines t.parts)
trace_goes t h = all_go t.parts h.each h.order

-- ---- what was read can be completed

-- the part with what is wanting
abbrev completed : PartialTrace → Part
completed p = closed_part p (unwrap_or p.end part_end.Done) (unwrap_or p.fuel 0)

abbrev main_part : Part
main_part = record { path = []; events = []; end = part_end.Done; fuel = 0; written = []; text = [] }

main_form : IsPart main_part
main_form = record {
  path = tt;
  events = tt;
  end = tt;
  fuel = omega arith;
  written = tt;
  text = record { whole = refl; printable = tt };
}

-- the part of `main`, where this is not that of `main`
abbrev parts_behind : Path → List Part
parts_behind [] = []
parts_behind (k ∷ r) = main_part ∷ []

end_fits : (o : Option PartEnd) → IfSome o FitsEnd → FitsEnd (unwrap_or o part_end.Done)
end_fits None h = tt
end_fits (Some e) h = h

fuel_fits : (o : Option ℕ) → IfSome o (λ n. n < 2 ^ 64) → unwrap_or o 0 < 2 ^ 64
fuel_fits None h = omega arith
fuel_fits (Some n) h = h

completed_form : (p : PartialTrace) → IsPartial p → IsPart (completed p)
completed_form p form = record {
  path = form.path;
  events = form.events;
  end = end_fits p.end form.end;
  fuel = fuel_fits p.fuel form.fuel;
  written = form.written;
  text = form.text;
}

missing : (e : Option PartEnd) (f : Option ℕ) (ws : List Change) (text : List ℕ) → NotYet e f ws text
    → (more : List (List ℕ))
    × (last_lines (Some (unwrap_or e part_end.Done)) (Some (unwrap_or f 0)) ws text ≡ last_lines e f ws text ++ more)
missing None f ws text h = (_, refl)
missing (Some e) None ws text h = (fuel_text 0 ∷ (map change_text ws ++ map quoted (text_lines text)), refl)
missing (Some e) (Some f) ws text h = ([], sym (nothing (last_lines (Some e) (Some f) ws text)))
  where
    nothing : (xs : List (List ℕ)) → xs ++ [] ≡ xs
    nothing [] = refl
    nothing (x ∷ xs) = ap (λ t. x ∷ t) (nothing xs)

completed_lines : (p : PartialTrace) → IsPartial p
    → (more : List (List ℕ)) × (part_lines (completed p) ≡ open_lines p ++ more)
completed_lines p form =
    let h = missing p.end p.fuel p.written p.text form.not_yet in (
      h.0,
      ap (λ t. head_text p.path ∷ (map event_text p.events ++ t)) h.1
          ∙ ap (λ t. head_text p.path ∷ t)
          (sym (append_assoc (map event_text p.events) (last_lines p.end p.fuel p.written p.text) h.0)),
    )

each_behind : (r : Path) → AllByRecursion IsPart (parts_behind r)
each_behind [] = tt
each_behind (k ∷ r) = (main_form, tt)

main_behind : (x : Part) (r : Path) → x.path ≡ r → MainIsLast (x ∷ parts_behind r)
main_behind x [] is = is
main_behind x (k ∷ r) is = (ap (λ q. before q []) is, refl)

main_last : (ps : List Part) (x : Part) (rest : List Part) → Ascends ps x.path → MainIsLast (x ∷ rest)
    → MainIsLast (ps ++ x ∷ rest)
main_last [] x rest h last = last
main_last (p ∷ []) x rest h last = (h, last)
main_last (p ∷ q ∷ ps) x rest h last = (h.0, main_last (q ∷ ps) x rest h.1 last)

each_append : (ps qs : List Part) → AllByRecursion IsPart ps → AllByRecursion IsPart qs
    → AllByRecursion IsPart (ps ++ qs)
each_append [] qs h k = k
each_append (p ∷ ps) qs h k = (h.0, each_append ps qs h.1 k)

pub flat_append : {A B : Type 0} (f : A → List B) (xs ys : List A)
    → flat_map f (xs ++ ys) ≡ flat_map f xs ++ flat_map f ys
flat_append f [] ys = refl
flat_append f (x ∷ xs) ys =
    ap (λ t. f x ++ t) (flat_append f xs ys) ∙ sym (append_assoc (f x) (flat_map f xs) (flat_map f ys))

abbrev whole_trace : PartialTrace → Trace
whole_trace p = record { parts = p.parts ++ completed p ∷ parts_behind p.path }

whole_form : (p : PartialTrace) → IsPartial p → IsTrace (whole_trace p)
whole_form p form = record {
  each = each_append p.parts (completed p ∷ parts_behind p.path) form.each (completed_form p form, each_behind p.path);
  order = main_last p.parts (completed p) (parts_behind p.path) form.order (main_behind (completed p) p.path refl);
}

whole_lines : (p : PartialTrace) → IsPartial p
    → (more : List (List ℕ)) × (flat_map part_lines (whole_trace p).parts ≡ partial_lines p ++ more)
whole_lines p form =
    let h = completed_lines p form in
    let last : List (List ℕ) = flat_map part_lines (parts_behind p.path) in (
      h.0 ++ last,
      flat_append part_lines p.parts (completed p ∷ parts_behind p.path)
          ∙ ap (λ t. flat_map part_lines p.parts ++ (t ++ last)) h.1
          ∙ ap (λ t. flat_map part_lines p.parts ++ t) (append_assoc (open_lines p) h.0 last)
          ∙ sym (append_assoc (flat_map part_lines p.parts) (open_lines p) (h.0 ++ last)),
    )

pub partial_begins : (p : PartialTrace) → IsPartial p → BeginsTraceText (flat_map ended (first_line ∷ partial_lines p))
partial_begins p form =
    let h = whole_lines p form in (
      flat_map ended h.0,
      (
        whole_trace p,
        record {
          form = whole_form p form;
          text = sym (ap (λ ls. flat_map ended (first_line ∷ ls)) h.1
              ∙ flat_append ended (first_line ∷ partial_lines p) h.0);
        },
      ),
    )

-- ---- one trace

abbrev pub least_trace : Trace
least_trace = record { parts = main_part ∷ [] }

pub least_form : IsTrace least_trace
least_form = record { each = (main_form, tt); order = refl }
