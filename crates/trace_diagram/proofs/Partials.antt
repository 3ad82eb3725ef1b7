-- What was read of a trace, with one more line.
use Rattle.std.proofs.Common.{◌≡◌, ◌≢◌, ◌∙◌, inl, inr, sym, ap, subst, ℕ, ◌<◌, ◌^◌, true, false, List, [], ◌∷◌, ◌++◌, length, map, refl, arith, rules, append_assoc}
use Rattle.std.specs.Prelude.{Option, Some, None, IfSome, is_some, IsTrue, ◌==◌}
use Rattle.std.specs.List.{flat_map, list_all, AllByRecursion}
use Rattle.std.proofs.lemmas.Bool.{true≢false}
use Rattle.std.proofs.lemmas.List.{append-nil, map-append}
use Rattle.rev_num.specs.Path.{Path, before}
use Rattle.trace_diagram.specs.Drafts.{Ascends, IsClosed, IsClosedTo, IsFinished, IsLonger, IsPartial, NotYet, PartialTrace, last_lines, open_lines, partial_lines, stage_at, stage_of, TakesBehind, TakesHead}
use Rattle.trace_diagram.specs.Following.{Stage, in_events, in_writes, in_text, BeginsLater, Behind, Follows, Stops}
use Rattle.trace_diagram.specs.Lines.{FitsChange, FitsEnd, FitsPath, change_text, end_text, event_text, fuel_text, head_text, is_printable, quoted}
use Rattle.trace_diagram.specs.Reading.{IsNoQuote, IsQuote}
use Rattle.trace_diagram.specs.Traces.{IsOneLine, IsPart, IsText, MainIsLast, ended, part_lines, text_lines}
use Rattle.trace_diagram.specs.declared.draft.Draft.{Draft}
use Rattle.trace_diagram.specs.declared.diagram.Change.{Change}
use Rattle.trace_diagram.specs.declared.diagram.Part.{Part}
use Rattle.trace_diagram.specs.declared.diagram.PartEnd.{PartEnd}
use Rattle.trace_diagram.specs.declared.diagram.Trace.{Trace}
use Rattle.trace_diagram.proofs.PlaceForms.{all_without}
use Rattle.trace_diagram.proofs.Stages.{head_injective}
use Rattle.trace_diagram.proofs.TextLines.{text_lines-cut}

-- ---- lists

flat_more : {A B : Type 0} (f : A → List B) (xs : List A) (x : A) → flat_map f (xs ++ x ∷ []) ≡ flat_map f xs ++ f x
flat_more f [] x = append-nil (f x)
flat_more f (y ∷ xs) x = ap (λ t. f y ++ t) (flat_more f xs x) ∙ sym (append_assoc (f y) (flat_map f xs) (f x))

pub all_more_one : {A : Type 0} (P : A → Type 0) (xs : List A) (x : A) → AllByRecursion P xs → P x
    → AllByRecursion P (xs ++ x ∷ [])
all_more_one P [] x h k = (k, tt)
all_more_one P (y ∷ xs) x h k = (h.0, all_more_one P xs x h.1 k)

pub empty_if : {A : Type 0} (xs : List A) → true ≡ (length xs == 0) → xs ≡ []
empty_if [] h = refl
empty_if (x ∷ xs) h = absurd (grind (arith, rules, h))

pub full_if : {A : Type 0} (xs : List A) → false ≡ (length xs == 0) → xs ≢ []
full_if xs h is = true≢false (sym (h ∙ ap (λ t. length t == 0) is))

-- ---- stages

closed_writes : (r : Path) (e : Option PartEnd) (f : Option ℕ) (text : List ℕ) → is_some e ≡ true → is_some f ≡ true
    → text ≡ [] → stage_at r e f text ≡ in_writes r
closed_writes r None f text h k is = absurd (true≢false (sym h))
closed_writes r (Some e) None text h k is = absurd (true≢false (sym k))
closed_writes r (Some e) (Some f) text h k is = ap (stage_at r (Some e) (Some f)) is

closed_text : (r : Path) (e : Option PartEnd) (f : Option ℕ) (text : List ℕ) → is_some e ≡ true → is_some f ≡ true
    → text ≢ [] → stage_at r e f text ≡ in_text r
closed_text r None f text h k some = absurd (true≢false (sym h))
closed_text r (Some e) None text h k some = absurd (true≢false (sym k))
closed_text r (Some e) (Some f) [] h k some = absurd (some refl)
closed_text r (Some e) (Some f) (b ∷ bs) h k some = refl

follow_by : (s t a b : Stage) (line : List ℕ) → s ≡ a → t ≡ b → Follows a line b → Follows s line t
follow_by s t a b line from to h = subst (λ v. Follows v line t) (sym from) (subst (λ v. Follows a line v) (sym to) h)

-- behind a whole part comes what may stand behind the writes
pub closed_follows : (p : PartialTrace) (line : List ℕ) (next : Stage) → IsClosed p → Behind p.path line next
    → Follows (stage_of p) line next
closed_follows p line next closed h = go p.text refl
  where
    go : (text : List ℕ) → p.text ≡ text → Follows (stage_of p) line next
    go [] is = follow_by (stage_of p) next (in_writes p.path) next line
        (closed_writes p.path p.end p.fuel p.text closed.end closed.fuel is) refl (inr h)
    go (b ∷ bs) is =
        follow_by (stage_of p) next (in_text p.path) next line
        (closed_text p.path p.end p.fuel p.text closed.end closed.fuel
        (λ none. let k : b ∷ bs ≡ [] = sym is ∙ none in cc))
        refl h

closed_not_yet : (e : Option PartEnd) (f : Option ℕ) (ws : List Change) (text : List ℕ) → is_some e ≡ true
    → is_some f ≡ true → NotYet e f ws text
closed_not_yet None f ws text h k = absurd (true≢false (sym h))
closed_not_yet (Some e) None ws text h k = absurd (true≢false (sym k))
closed_not_yet (Some e) (Some f) ws text h k = tt

-- ---- lines

-- a line behind those of a part
pub lines_more : (front : List (List ℕ)) (head : List ℕ) (es xs ys : List (List ℕ)) (line : List ℕ)
    → ys ≡ xs ++ line ∷ [] → front ++ (head ∷ (es ++ ys)) ≡ (front ++ (head ∷ (es ++ xs))) ++ line ∷ []
lines_more front head es xs ys line is =
    ap (λ t. front ++ (head ∷ (es ++ t))) is
    ∙ ap (λ t. front ++ (head ∷ t)) (sym (append_assoc es xs (line ∷ [])))
    ∙ sym (append_assoc front (head ∷ (es ++ xs)) (line ∷ []))

-- ---- a write

write_lines : (e : Option PartEnd) (f : Option ℕ) (ws : List Change) (text : List ℕ) (c : Change) → is_some e ≡ true
    → is_some f ≡ true → text ≡ [] → last_lines e f (ws ++ c ∷ []) text ≡ last_lines e f ws text ++ change_text c ∷ []
write_lines None f ws text c h k none = absurd (true≢false (sym h))
write_lines (Some e) None ws text c h k none = absurd (true≢false (sym k))
write_lines (Some e) (Some f) ws text c h k none =
    subst (λ t. last_lines (Some e) (Some f) (ws ++ c ∷ []) t ≡ last_lines (Some e) (Some f) ws t ++ change_text c ∷ [])
    (sym none) bare
  where
    bare : last_lines (Some e) (Some f) (ws ++ c ∷ []) [] ≡ last_lines (Some e) (Some f) ws [] ++ change_text c ∷ []
    bare = ap (λ t. end_text e ∷ fuel_text f ∷ t)
        (append-nil (map change_text (ws ++ c ∷ [])) ∙ map-append change_text ws (c ∷ [])
        ∙ ap (λ t. t ++ change_text c ∷ []) (sym (append-nil (map change_text ws))))

pub write_extends : (p : PartialTrace) (c : Change) (line : List ℕ) → IsPartial p → IsClosed p → p.text ≡ []
    → FitsChange c → change_text c ≡ line → IsLonger line p (record p { written = p.written ++ c ∷ [] })
write_extends p c line form closed none fit is = record {
  form = record {
    each = form.each;
    order = form.order;
    path = form.path;
    events = form.events;
    end = form.end;
    fuel = form.fuel;
    written = all_more_one FitsChange p.written c form.written fit;
    text = form.text;
    not_yet = closed_not_yet p.end p.fuel (p.written ++ c ∷ []) p.text closed.end closed.fuel;
  };
  lines = lines_more (flat_map part_lines p.parts) (head_text p.path) (map event_text p.events)
      (last_lines p.end p.fuel p.written p.text) (last_lines p.end p.fuel (p.written ++ c ∷ []) p.text) line
      (write_lines p.end p.fuel p.written p.text c closed.end closed.fuel none
      ∙ ap (λ t. last_lines p.end p.fuel p.written p.text ++ t ∷ []) is);
  follows = follow_by (stage_of p) (stage_of p) (in_writes p.path) (in_writes p.path) line here here
      (inl (record { change = c; fits = fit; is = is; to = refl }));
}
  where
    here : stage_of p ≡ in_writes p.path
    here = closed_writes p.path p.end p.fuel p.text closed.end closed.fuel none

-- ---- a line that was printed

pub printable_one_line : (line : List ℕ) → list_all is_printable line ≡ true → IsOneLine line
printable_one_line line h = all_without is_printable 10 refl line h

all_one_line : (ls : List (List ℕ)) → AllByRecursion (λ l. IsTrue (list_all is_printable l)) ls
    → AllByRecursion IsOneLine ls
all_one_line [] h = tt
all_one_line (l ∷ ls) h = (printable_one_line l h.0, all_one_line ls h.1)

text_lines_behind : (ls : List (List ℕ)) (more : List ℕ) → AllByRecursion IsOneLine ls
    → text_lines (flat_map ended ls ++ more) ≡ ls ++ text_lines more
text_lines_behind [] more h = refl
text_lines_behind (l ∷ ls) more h =
    ap text_lines
    (append_assoc (ended l) (flat_map ended ls) more ∙ append_assoc l (10 ∷ []) (flat_map ended ls ++ more))
    ∙ text_lines-cut l (flat_map ended ls ++ more) h.0
    ∙ ap (λ t. l ∷ t) (text_lines_behind ls more h.1)

text_lines_more : (text t : List ℕ) → IsText text → IsOneLine t
    → text_lines (text ++ ended t) ≡ text_lines text ++ t ∷ []
text_lines_more text t h one =
    ap (λ v. text_lines (v ++ ended t)) h.whole
    ∙ text_lines_behind (text_lines text) (ended t) (all_one_line (text_lines text) h.printable)
    ∙ ap (λ v. text_lines text ++ v) (text_lines-cut t [] one)

text_more : (text t : List ℕ) → IsText text → list_all is_printable t ≡ true → IsText (text ++ ended t)
text_more text t h print =
    let lines = text_lines_more text t h (printable_one_line t print) in
    record {
      whole = ap (λ v. v ++ ended t) h.whole ∙ sym (flat_more ended (text_lines text) t)
          ∙ ap (flat_map ended) (sym lines);
      printable = subst (AllByRecursion (λ l. IsTrue (list_all is_printable l))) (sym lines)
          (all_more_one (λ l. IsTrue (list_all is_printable l)) (text_lines text) t h.printable print);
    }

quote_lines : (e : Option PartEnd) (f : Option ℕ) (ws : List Change) (text text' t : List ℕ) → is_some e ≡ true
    → is_some f ≡ true → text_lines text' ≡ text_lines text ++ t ∷ []
    → last_lines e f ws text' ≡ last_lines e f ws text ++ quoted t ∷ []
quote_lines None f ws text text' t h k is = absurd (true≢false (sym h))
quote_lines (Some e) None ws text text' t h k is = absurd (true≢false (sym k))
quote_lines (Some e) (Some f) ws text text' t h k is =
    ap (λ v. end_text e ∷ fuel_text f ∷ (map change_text ws ++ v))
    (ap (map quoted) is ∙ map-append quoted (text_lines text) (t ∷ []))
    ∙ ap (λ v. end_text e ∷ fuel_text f ∷ v)
    (sym (append_assoc (map change_text ws) (map quoted (text_lines text)) (quoted t ∷ [])))

some_text : (text t : List ℕ) → text ++ ended t ≢ []
some_text [] [] is = cc
some_text [] (b ∷ t) is = cc
some_text (b ∷ text) t is = cc

pub quote_extends : (p : PartialTrace) (t line : List ℕ) → IsPartial p → IsClosed p → IsQuote line t
    → IsLonger line p (record p { text = p.text ++ ended t })
quote_extends p t line form closed quote = record {
  form = record {
    each = form.each;
    order = form.order;
    path = form.path;
    events = form.events;
    end = form.end;
    fuel = form.fuel;
    written = form.written;
    text = text_more p.text t form.text quote.printable;
    not_yet = closed_not_yet p.end p.fuel p.written (p.text ++ ended t) closed.end closed.fuel;
  };
  lines = lines_more (flat_map part_lines p.parts) (head_text p.path) (map event_text p.events)
      (last_lines p.end p.fuel p.written p.text) (last_lines p.end p.fuel p.written (p.text ++ ended t)) line
      (quote_lines p.end p.fuel p.written p.text (p.text ++ ended t) t closed.end closed.fuel
      (text_lines_more p.text t form.text (printable_one_line t quote.printable))
      ∙ ap (λ v. last_lines p.end p.fuel p.written p.text ++ v ∷ []) quote.is);
  follows = subst (λ v. Follows (stage_of p) line v) (sym there)
      (closed_follows p line (in_text p.path) closed (inl (record { text = t; quote = quote; to = refl })));
}
  where
    there : stage_at p.path p.end p.fuel (p.text ++ ended t) ≡ in_text p.path
    there = closed_text p.path p.end p.fuel (p.text ++ ended t) closed.end closed.fuel (some_text p.text t)

-- ---- the end of a part

abbrev pub closed_part : PartialTrace → PartEnd → ℕ → Part
closed_part p e f = record { path = p.path; events = p.events; end = e; fuel = f; written = p.written; text = p.text }

closed_lines : (p : PartialTrace) (e : PartEnd) (f : ℕ) → p.end ≡ Some e → p.fuel ≡ Some f
    → part_lines (closed_part p e f) ≡ open_lines p
closed_lines p e f is left =
    λ i. head_text p.path ∷ (map event_text p.events ++ last_lines (sym is i) (sym left i) p.written p.text)

closed_form : (p : PartialTrace) (e : PartEnd) (f : ℕ) → IsPartial p → p.end ≡ Some e → p.fuel ≡ Some f
    → IsPart (closed_part p e f)
closed_form p e f form is left = record {
  path = form.path;
  events = form.events;
  end = subst (λ o. IfSome o FitsEnd) is form.end;
  fuel = subst (λ o. IfSome o (λ n. n < 2 ^ 64)) left form.fuel;
  written = form.written;
  text = form.text;
}

pub to_closed : (p : PartialTrace) (parts : List Part) → IsClosedTo p parts → IsClosed p
to_closed p parts h = record { end = ap is_some h.ended; fuel = ap is_some h.left }

closed_all_lines : (p : PartialTrace) (parts : List Part) → IsClosedTo p parts
    → flat_map part_lines parts ≡ partial_lines p
closed_all_lines p parts h =
    ap (flat_map part_lines) h.parts_are
    ∙ flat_more part_lines p.parts (closed_part p h.end h.fuel)
    ∙ ap (λ t. flat_map part_lines p.parts ++ t) (closed_lines p h.end h.fuel h.ended h.left)

closed_all : (p : PartialTrace) (parts : List Part) → IsPartial p → IsClosedTo p parts → AllByRecursion IsPart parts
closed_all p parts form h =
    subst (AllByRecursion IsPart) (sym h.parts_are)
    (all_more_one IsPart p.parts (closed_part p h.end h.fuel) form.each
    (closed_form p h.end h.fuel form h.ended h.left))

-- ---- the beginning of a part

ascends_more : (ps : List Part) (x : Part) (r : Path) → Ascends ps x.path → IsTrue (before x.path r)
    → Ascends (ps ++ x ∷ []) r
ascends_more [] x r h k = k
ascends_more (p ∷ []) x r h k = (h, k)
ascends_more (p ∷ q ∷ ps) x r h k = (h.0, ascends_more (q ∷ ps) x r h.1 k)

abbrev pub begun : List Part → Path → PartialTrace
begun parts r = record { parts = parts; path = r; events = []; end = None; fuel = None; written = []; text = [] }

pub head_extends : (p : PartialTrace) (parts : List Part) (r : Path) (line : List ℕ) → IsPartial p → IsClosedTo p parts
    → FitsPath r → head_text r ≡ line → IsTrue (before p.path r) → IsLonger line p (begun parts r)
head_extends p parts r line form h fit is later = record {
  form = record {
    each = closed_all p parts form h;
    order = subst (λ ps. Ascends ps r) (sym h.parts_are)
        (ascends_more p.parts (closed_part p h.end h.fuel) r form.order later);
    path = fit;
    events = tt;
    end = tt;
    fuel = tt;
    written = tt;
    text = record { whole = refl; printable = tt };
    not_yet = (refl, refl, refl);
  };
  lines = (λ i. closed_all_lines p parts h i ++ is i ∷ []);
  follows = closed_follows p line (in_events r) (to_closed p parts h)
      (inr (record { part = record { path = r; fits = fit; is = is; to = refl }; later = later }));
}

pub not_later : (r path : Path) (line : List ℕ) (next : Stage) → FitsPath path → head_text path ≡ line
    → before r path ≡ false → BeginsLater r line next → ⊥
not_later r path line next fit is other h =
    let same = head_injective h.part.path path h.part.fits fit (h.part.is ∙ sym is) in
    true≢false (sym h.later ∙ ap (before r) same ∙ other)

-- ---- the end

pub stops_main : (p : PartialTrace) → Stops (stage_of p) → p.path ≡ []
stops_main p h = go p.end p.fuel p.text h
  where
    go : (e : Option PartEnd) (f : Option ℕ) (text : List ℕ) → Stops (stage_at p.path e f text) → p.path ≡ []
    go None f text k = absurd k
    go (Some e) None text k = absurd k
    go (Some e) (Some f) [] k = k
    go (Some e) (Some f) (b ∷ bs) k = k

pub stops_closed : (p : PartialTrace) → Stops (stage_of p) → IsClosed p
stops_closed p h = go p.end p.fuel p.text refl refl h
  where
    go : (e : Option PartEnd) (f : Option ℕ) (text : List ℕ) → p.end ≡ e → p.fuel ≡ f → Stops (stage_at p.path e f text)
        → IsClosed p
    go None f text is left k = absurd k
    go (Some e) None text is left k = absurd k
    go (Some e) (Some f) text is left k = record { end = ap is_some is; fuel = ap is_some left }

main_last : (ps : List Part) (x : Part) → Ascends ps x.path → x.path ≡ [] → MainIsLast (ps ++ x ∷ [])
main_last [] x h is = is
main_last (p ∷ []) x h is = (h, is)
main_last (p ∷ q ∷ ps) x h is = (h.0, main_last (q ∷ ps) x h.1 is)

pub finished : (p : PartialTrace) (t : Trace) → IsPartial p → p.path ≡ [] → IsClosedTo p t.parts → IsFinished p t
finished p t form main h = record {
  form = record {
    each = closed_all p t.parts form h;
    order = subst MainIsLast (sym h.parts_are) (main_last p.parts (closed_part p h.end h.fuel) form.order main);
  };
  lines = closed_all_lines p t.parts h;
}

-- ---- with a call's answer

pub behind_head : (line : List ℕ) (p : PartialTrace) (o : Option Draft) → IsNoQuote line → TakesHead line p o
    → TakesBehind line p o
behind_head line p (Some d) none h = h
behind_head line p None none h = by
  where
    by : (next : Stage) → Behind p.path line next → ⊥
    by next (inl x) = none x.text x.quote
    by next (inr x) = h next x
