-- Where bytes that are no trace text go wrong is one place.
use Rattle.std.proofs.Common.{◌≡◌, ◌≢◌, ◌∙◌, ◌⊎◌, inl, inr, sym, ap, subst, ℕ, Bool, true, false, List, [], ◌∷◌, ◌++◌, length, refl, arith, rules, append_assoc}
use Rattle.std.specs.Prelude.{◌==◌}
use Rattle.std.specs.List.{flat_map}
use Rattle.std.proofs.lemmas.Bool.{eqb-true}
use Rattle.trace_diagram.specs.Cuts.{IsCut, IsWithout}
use Rattle.trace_diagram.specs.Traces.{BeginsTraceText, GoesWrong, IsFirstFault, IsTraceText, IsWholeLines, ended, first_line, part_lines, trace_text}
use Rattle.trace_diagram.specs.declared.diagram.Trace.{Trace}
use Rattle.trace_diagram.proofs.Cutting.{not_without}

-- ---- the first line feed

pub record HasLine (bytes : List ℕ) : Type 0 where
  pub line : List ℕ
  pub more : List ℕ
  pub cut : IsCut 10 bytes line more

longer : (b : ℕ) (bs : List ℕ) → b ≢ 10 → IsWithout 10 bs ⊎ HasLine bs → IsWithout 10 (b ∷ bs) ⊎ HasLine (b ∷ bs)
longer b bs other (inl h) = inl (other, h)
longer b bs other (inr h) =
    inr (record {
      line = b ∷ h.line;
      more = h.more;
      cut = record { is = ap (λ t. b ∷ t) h.cut.is; first = (other, h.cut.first) };
    })

by_feed : (b : ℕ) (bs : List ℕ) (t : Bool) → (b == 10) ≡ t → IsWithout 10 bs ⊎ HasLine bs
    → IsWithout 10 (b ∷ bs) ⊎ HasLine (b ∷ bs)
by_feed b bs true is later =
    inr (record { line = []; more = bs; cut = record { is = ap (λ c. c ∷ bs) (eqb-true b 10 is); first = tt } })
by_feed b bs false is later = longer b bs (λ same. grind (arith, rules, same)) later

-- bytes have a first line feed or none
pub line_or_none : (bytes : List ℕ) → IsWithout 10 bytes ⊎ HasLine bytes
line_or_none [] = inl tt
line_or_none (b ∷ bs) = by_feed b bs (b == 10) refl (line_or_none bs)

-- ---- the last line feed

pub record IsEnded (bytes : List ℕ) : Type 0 where
  pub front : List ℕ
  pub is : bytes ≡ ended front

behind_line : (line bytes : List ℕ) → IsEnded bytes → IsEnded (ended line ++ bytes)
behind_line line bytes h =
    record {
      front = ended line ++ h.front;
      is = ap (λ t. ended line ++ t) h.is ∙ sym (append_assoc (ended line) h.front (10 ∷ []));
    }

pub lines_ended : (l : List ℕ) (ls : List (List ℕ)) → IsEnded (flat_map ended (l ∷ ls))
lines_ended l [] = record { front = l; is = simp append_assoc }
lines_ended l (m ∷ ls) = behind_line l (flat_map ended (m ∷ ls)) (lines_ended m ls)

nothing_behind : (f r : List ℕ) → f ++ r ≡ [] → r ≡ []
nothing_behind [] r h = h
nothing_behind (y ∷ f) r h = absurd cc

-- bytes that end with a line feed have one in each rest that is not empty
pub rest_ended : (front rest last : List ℕ) → front ++ rest ≡ ended last → rest ≢ [] → IsWithout 10 rest → ⊥
rest_ended [] rest last is some none = not_without 10 last [] (subst (IsWithout 10) is none)
rest_ended (x ∷ front) rest [] is some none =
    let tail : front ++ rest ≡ [] = cc in some (nothing_behind front rest tail)
rest_ended (x ∷ front) rest (y ∷ last) is some none =
    let tail : front ++ rest ≡ ended last = cc in rest_ended front rest last tail some none

-- ---- no trace text has a fault

goes_on : (bytes lines rest : List ℕ) → bytes ≡ lines ++ rest → (h : HasLine rest) → IsTraceText bytes
    → BeginsTraceText (lines ++ ended h.line)
goes_on bytes lines rest is h text =
    let split : bytes ≡ (lines ++ ended h.line) ++ h.more = is ∙ ap (λ t. lines ++ t) h.cut.is ∙ simp append_assoc in
    (h.more, subst IsTraceText split text)

trace_ended : (t : Trace) → IsEnded (trace_text t)
trace_ended t = lines_ended first_line (flat_map part_lines t.parts)

line_of : (rest : List ℕ) (h : HasLine rest) → rest ≡ ended h.line ++ h.more
line_of rest h = h.cut.is ∙ sym (append_assoc h.line (10 ∷ []) h.more)

pub append_nothing : (xs : List ℕ) → xs ++ [] ≡ xs
append_nothing [] = refl
append_nothing (x ∷ xs) = ap (λ t. x ∷ t) (append_nothing xs)

wrong_by_line : (bytes lines : List ℕ) (b : ℕ) (bs : List ℕ) → bytes ≡ lines ++ b ∷ bs → GoesWrong lines (b ∷ bs)
    → IsTraceText bytes → IsWithout 10 (b ∷ bs) ⊎ HasLine (b ∷ bs) → ⊥
wrong_by_line bytes lines b bs is wrong text (inl none) =
    let end = trace_ended text.0 in
    rest_ended lines (b ∷ bs) end.front (sym is ∙ text.1.text ∙ end.is) (λ nothing. cc) none
wrong_by_line bytes lines b bs is wrong text (inr h) =
    wrong.in_line h.line h.more h.cut.first (line_of (b ∷ bs) h) (goes_on bytes lines (b ∷ bs) is h text)

no_text : (bytes lines rest : List ℕ) → bytes ≡ lines ++ rest → GoesWrong lines rest → IsTraceText bytes → ⊥
no_text bytes lines [] is wrong text = wrong.at_end refl (subst IsTraceText (is ∙ append_nothing lines) text)
no_text bytes lines (b ∷ bs) is wrong text = wrong_by_line bytes lines b bs is wrong text (line_or_none (b ∷ bs))

pub fault_is_no_text : (bytes : List ℕ) (at : ℕ) → IsFirstFault bytes at → IsTraceText bytes → ⊥
fault_is_no_text bytes at f text = no_text bytes f.lines f.rest f.is f.fault text

-- ---- one first fault

-- b goes on behind a, and what is behind a is that and what is behind b
pub record IsLonger (a behind_a b behind_b : List ℕ) : Type 0 where
  pub next : ℕ
  pub others : List ℕ
  pub is : b ≡ a ++ next ∷ others
  pub rest : behind_a ≡ (next ∷ others) ++ behind_b

one_more : (x y : ℕ) (a ra b rb : List ℕ) → x ≡ y → IsLonger a ra b rb → IsLonger (x ∷ a) ra (y ∷ b) rb
one_more x y a ra b rb same h =
    let tail = h.is in record { next = h.next; others = h.others; is = λ i. sym same i ∷ tail i; rest = h.rest }

step : (x y : ℕ) (a ra b rb : List ℕ) → x ≡ y → (a ≡ b) ⊎ (IsLonger a ra b rb ⊎ IsLonger b rb a ra)
    → (x ∷ a ≡ y ∷ b) ⊎ (IsLonger (x ∷ a) ra (y ∷ b) rb ⊎ IsLonger (y ∷ b) rb (x ∷ a) ra)
step x y a ra b rb same (inl h) = inl (λ i. same i ∷ h i)
step x y a ra b rb same (inr (inl h)) = inr (inl (one_more x y a ra b rb same h))
step x y a ra b rb same (inr (inr h)) = inr (inr (one_more y x b rb a ra (sym same) h))

compare : (a ra b rb : List ℕ) → a ++ ra ≡ b ++ rb → (a ≡ b) ⊎ (IsLonger a ra b rb ⊎ IsLonger b rb a ra)
compare [] ra [] rb h = inl refl
compare [] ra (y ∷ b) rb h = inr (inl (record { next = y; others = b; is = refl; rest = h }))
compare (x ∷ a) ra [] rb h = inr (inr (record { next = x; others = a; is = refl; rest = sym h }))
compare (x ∷ a) ra (y ∷ b) rb h =
    let head : x ≡ y = cc in
    let tail : a ++ ra ≡ b ++ rb = cc in
    step x y a ra b rb head (compare a ra b rb tail)

whole_has_line : (a b : List ℕ) (x : ℕ) (m : List ℕ) → b ≡ a ++ x ∷ m → IsWholeLines b → IsWithout 10 (x ∷ m) → ⊥
whole_has_line a b x m is (inl nothing) none =
    let empty : x ∷ m ≡ [] = nothing_behind a (x ∷ m) (sym is ∙ nothing) in cc
whole_has_line a b x m is (inr end) none = rest_ended a (x ∷ m) end.0 (sym is ∙ end.1) (λ nothing. cc) none

earlier : (a ra b rb : List ℕ) (h : IsLonger a ra b rb) → GoesWrong a ra → BeginsTraceText b
    → HasLine (h.next ∷ h.others) → ⊥
earlier a ra b rb h wrong begins line =
    let rest : ra ≡ ended line.line ++ (line.more ++ rb) =
    h.rest ∙ ap (λ t. t ++ rb) (line_of (h.next ∷ h.others) line) ∙ append_assoc (ended line.line) line.more rb in
    let split : b ++ begins.0 ≡ (a ++ ended line.line) ++ (line.more ++ begins.0) =
    ap (λ t. t ++ begins.0) (h.is ∙ ap (λ t. a ++ t) (line_of (h.next ∷ h.others) line)) ∙ simp append_assoc in
    wrong.in_line line.line (line.more ++ rb) line.cut.first rest
    (line.more ++ begins.0, subst IsTraceText split begins.1)

by_line : (a ra b rb : List ℕ) (h : IsLonger a ra b rb) → GoesWrong a ra → IsWholeLines b → BeginsTraceText b
    → IsWithout 10 (h.next ∷ h.others) ⊎ HasLine (h.next ∷ h.others) → ⊥
by_line a ra b rb h wrong whole begins (inl none) = whole_has_line a b h.next h.others h.is whole none
by_line a ra b rb h wrong whole begins (inr line) = earlier a ra b rb h wrong begins line

no_later : (bytes : List ℕ) (at at' : ℕ) (f : IsFirstFault bytes at) (g : IsFirstFault bytes at')
    → IsLonger f.lines f.rest g.lines g.rest → ⊥
no_later bytes at at' f g h =
    by_line f.lines f.rest g.lines g.rest h f.fault g.whole g.begins (line_or_none (h.next ∷ h.others))

by_order : (bytes : List ℕ) (at at' : ℕ) (f : IsFirstFault bytes at) (g : IsFirstFault bytes at')
    → (f.lines ≡ g.lines) ⊎ (IsLonger f.lines f.rest g.lines g.rest ⊎ IsLonger g.lines g.rest f.lines f.rest) → at ≡ at'
by_order bytes at at' f g (inl same) = sym f.place ∙ ap length same ∙ g.place
by_order bytes at at' f g (inr (inl h)) = absurd (no_later bytes at at' f g h)
by_order bytes at at' f g (inr (inr h)) = absurd (no_later bytes at' at g f h)

pub one_fault : (bytes : List ℕ) (at at' : ℕ) → IsFirstFault bytes at → IsFirstFault bytes at' → at ≡ at'
one_fault bytes at at' f g = by_order bytes at at' f g (compare f.lines f.rest g.lines g.rest (sym f.is ∙ g.is))
