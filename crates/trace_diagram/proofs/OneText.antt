-- What has one text is the same but for the numbers of the locations of merges.
use Rattle.std.proofs.Common.{◌≡◌, ◌∙◌, sym, ap, subst, ℕ, ◌<◌, ◌≤◌, ◌^◌, true, false, ℤ, pos, negsuc, List, [], ◌∷◌, ◌++◌, get_or, length, map, refl, arith}
use Rattle.std.specs.Prelude.{◌↔◌, codes, if◌then◌else◌, ◌==◌, Some, None}
use Rattle.std.specs.Fmt.{decimal, signed_decimal}
use Rattle.std.specs.List.{flat_map, AllByRecursion}
use Rattle.std.specs.Str.{all_ascii_digits}
use Rattle.std.proofs.lemmas.Fmt.{decimal_injective, decimal_nonempty, digits_decimal}
use Rattle.std.proofs.lemmas.List.{append_cancel_right}
use Rattle.std.proofs.lemmas.Str.Parse.{tells_all_ascii_digits}
use Rattle.rev_num.specs.Arith.{fits_i64}
use Rattle.rev_num.specs.Path.{Path}
use Rattle.rev_num.specs.Text.{path_text}
use Rattle.rev_num.specs.declared.value.Value.{Value}
use Rattle.rev_num.specs.declared.value.Value.TheVariants as value
use Rattle.rev_num.specs.declared.value.NumFault.{NumFault}
use Rattle.rev_num.specs.declared.value.NumFault.TheVariants as fault
use Rattle.rev_num.specs.declared.outcome.Cause.{Cause}
use Rattle.rev_num.specs.declared.outcome.Cause.TheVariants as cause
use Rattle.rev_num.specs.Decimal.{decimal_in}
use Rattle.rev_num.proofs.Decimals.{decimal_in-signed_decimal, own}
use Rattle.trace_diagram.specs.Ends.{NoMerge, where_text}
use Rattle.trace_diagram.specs.Lines.{FitsChange, FitsEnd, FitsEvent, FitsPath, FitsValue, IsPlaceOf, cause_text, change_text, end_text, event_text, fuel_text, head_text, quoted, value_text}
use Rattle.trace_diagram.specs.Places.{IsPlace}
use Rattle.trace_diagram.specs.Shown.{cause_shown, end_shown, shown_part}
use Rattle.trace_diagram.specs.Traces.{IsPart, ended, part_lines, text_lines}
use Rattle.trace_diagram.specs.declared.diagram.Change.{Change}
use Rattle.trace_diagram.specs.declared.diagram.Part.{Part}
use Rattle.trace_diagram.specs.declared.diagram.PartEnd.{PartEnd}
use Rattle.trace_diagram.specs.declared.diagram.PartEnd.TheVariants as part_end
use Rattle.trace_diagram.specs.declared.diagram.TraceEvent.{TraceEvent}
use Rattle.trace_diagram.specs.declared.diagram.TraceEvent.TheVariants as event
use Rattle.trace_diagram.specs.declared.lines.Located.{Located}
use Rattle.trace_diagram.proofs.ChangeForms.{no_space as place_no_space, space, value_without, values_text, fits_pos}
use Rattle.trace_diagram.proofs.Cutting.{append_cancel, cut_once}
use Rattle.trace_diagram.proofs.EndForms.{cause_once, Kind, kind, merge, plain}
use Rattle.trace_diagram.proofs.Forks.{wide}
use Rattle.trace_diagram.proofs.LineForms.{behind_colon, line_without, merge_split, no_colon, no_space}
use Rattle.trace_diagram.proofs.Stages.{event_no_end, head_injective, path_injective}

-- ---- forks and joins

located : (p q : Path) (m n : ℕ) → FitsPath p → FitsPath q → m < 2 ^ 32 → n < 2 ^ 32
    → path_text p ++ (codes " line " ++ decimal m) ≡ path_text q ++ (codes " line " ++ decimal n) → (p ≡ q) × (m ≡ n)
located p q m n f g small few is =
    let both =
    cut_once 32 (path_text p) (codes "line " ++ decimal m) (path_text q) (codes "line " ++ decimal n) (no_space p f)
    (no_space q g) is in (
      path_injective p q f g both.0,
      decimal_injective m n (wide m small) (wide n few) (append_cancel (codes "line ") (decimal m) (decimal n) both.1),
    )

event_injective : (e f : TraceEvent) → FitsEvent e → FitsEvent f → event_text e ≡ event_text f → e ≡ f
event_injective (event.Forked p m) (event.Forked q n) f g is =
    let h = located p q m n f.0 g.0 f.1 g.1 (append_cancel (codes "forked ") _ _ is) in
    let a = h.0 in let b = h.1 in λ i. event.Forked (a i) (b i)
event_injective (event.Joined p m) (event.Joined q n) f g is =
    let h = located p q m n f.0 g.0 f.1 g.1 (append_cancel (codes "joined ") _ _ is) in
    let a = h.0 in let b = h.1 in λ i. event.Joined (a i) (b i)
event_injective (event.Forked p m) (event.Joined q n) f g is =
    absurd (let k = ap (λ b. get_or b 0 0) is in omega (arith, k))
event_injective (event.Joined p m) (event.Forked q n) f g is =
    absurd (let k = ap (λ b. get_or b 0 0) is in omega (arith, k))

-- ---- values

first_digit : (ds : List ℕ) → all_ascii_digits ds ≡ true → 0 < length ds → get_or ds 0 0 ≤ 57
first_digit [] h some = absurd (omega arith)
first_digit (d ∷ ds) h some =
    let parts = tells_all_ascii_digits.parts d ds h in let digit = parts.0 in omega (arith, digit)

int_first : (n : ℤ) → fits_i64 n ≡ true → get_or (signed_decimal n) 0 0 ≤ 57
int_first (pos n) fit =
    let small = fits_pos n fit in first_digit (decimal n) (digits_decimal own n small) (decimal_nonempty n small)
int_first (negsuc n) fit = omega arith

other_first : (x : Value) (n : ℤ) → fits_i64 n ≡ true → 57 < get_or (value_text x) 0 0 → signed_decimal n ≡ value_text x
    → ⊥
other_first x n fit more is = let k = int_first n fit in let e = ap (λ b. get_or b 0 0) is in omega (arith, k, e, more)

int_injective : (m n : ℤ) → fits_i64 m ≡ true → fits_i64 n ≡ true → signed_decimal m ≡ signed_decimal n → m ≡ n
int_injective m n f g is =
    let one = decimal_in-signed_decimal m f in
    let two = decimal_in-signed_decimal n g in
    let both : Some m ≡ Some n = sym one ∙ ap decimal_in is ∙ two in
    cc

value_injective : (x y : Value) → FitsValue x → FitsValue y → value_text x ≡ value_text y → x ≡ y
value_injective (value.Int m) (value.Int n) f g is = ap value.Int (int_injective m n f g is)
value_injective (value.Int m) (value.Bool true) f g is = absurd (other_first (value.Bool true) m f (omega arith) is)
value_injective (value.Int m) (value.Bool false) f g is = absurd (other_first (value.Bool false) m f (omega arith) is)
value_injective (value.Int m) (value.Rev None) f g is = absurd (other_first (value.Rev None) m f (omega arith) is)
value_injective (value.Int m) (value.Rev (Some p)) f g is =
    absurd (other_first (value.Rev (Some p)) m f (omega arith) is)
value_injective (value.Bool true) (value.Int n) f g is =
    absurd (other_first (value.Bool true) n g (omega arith) (sym is))
value_injective (value.Bool false) (value.Int n) f g is =
    absurd (other_first (value.Bool false) n g (omega arith) (sym is))
value_injective (value.Rev None) (value.Int n) f g is = absurd (other_first (value.Rev None) n g (omega arith) (sym is))
value_injective (value.Rev (Some p)) (value.Int n) f g is =
    absurd (other_first (value.Rev (Some p)) n g (omega arith) (sym is))
value_injective (value.Bool true) (value.Bool true) f g is = refl
value_injective (value.Bool false) (value.Bool false) f g is = refl
value_injective (value.Bool true) (value.Bool false) f g is =
    absurd (let k = ap (λ b. get_or b 0 0) is in omega (arith, k))
value_injective (value.Bool false) (value.Bool true) f g is =
    absurd (let k = ap (λ b. get_or b 0 0) is in omega (arith, k))
value_injective (value.Bool true) (value.Rev None) f g is =
    absurd (let k = ap (λ b. get_or b 0 0) is in omega (arith, k))
value_injective (value.Bool true) (value.Rev (Some p)) f g is =
    absurd (let k = ap (λ b. get_or b 0 0) is in omega (arith, k))
value_injective (value.Bool false) (value.Rev None) f g is =
    absurd (let k = ap (λ b. get_or b 0 0) is in omega (arith, k))
value_injective (value.Bool false) (value.Rev (Some p)) f g is =
    absurd (let k = ap (λ b. get_or b 0 0) is in omega (arith, k))
value_injective (value.Rev None) (value.Bool true) f g is =
    absurd (let k = ap (λ b. get_or b 0 0) is in omega (arith, k))
value_injective (value.Rev None) (value.Bool false) f g is =
    absurd (let k = ap (λ b. get_or b 0 0) is in omega (arith, k))
value_injective (value.Rev (Some p)) (value.Bool true) f g is =
    absurd (let k = ap (λ b. get_or b 0 0) is in omega (arith, k))
value_injective (value.Rev (Some p)) (value.Bool false) f g is =
    absurd (let k = ap (λ b. get_or b 0 0) is in omega (arith, k))
value_injective (value.Rev None) (value.Rev None) f g is = refl
value_injective (value.Rev None) (value.Rev (Some p)) f g is =
    absurd (let k = ap (λ b. get_or b 0 0) is in omega (arith, k))
value_injective (value.Rev (Some p)) (value.Rev None) f g is =
    absurd (let k = ap (λ b. get_or b 0 0) is in omega (arith, k))
value_injective (value.Rev (Some p)) (value.Rev (Some q)) f g is =
    ap (λ r. value.Rev (Some r)) (path_injective p q f g (append_cancel (codes "@") (path_text p) (path_text q) is))

change_injective : (x y : Change) → FitsChange x → FitsChange y → change_text x ≡ change_text y → x ≡ y
change_injective x y f g is =
    let places =
    cut_once 32 x.place (values_text x) y.place (values_text y) (place_no_space x f) (place_no_space y g)
    (append_cancel (codes "write ") _ _ is) in
    let values =
    cut_once 32 (value_text x.value) (codes "root " ++ value_text x.root) (value_text y.value)
    (codes "root " ++ value_text y.root) (value_without 32 space x.value f.value)
    (value_without 32 space y.value g.value) places.1 in
    let a = places.0 in
    let b = value_injective x.value y.value f.value g.value values.0 in
    let c = value_injective x.root y.root f.root g.root (append_cancel (codes "root ") _ _ values.1) in
    λ i. record { place = a i; value = b i; root = c i }

-- ---- ends

-- the cause that begins with this byte
abbrev cause_for : ℕ → Cause
cause_for b =
    if b == 111 then cause.Overflow
    else if b == 122 then cause.ZeroDivisor
    else if b == 105 then cause.Index
    else if b == 97 then cause.Assert
    else if b == 106 then cause.JoinNone
    else if b == 99 then cause.CallDepth
    else if b == 102 then cause.Spent
    else if b == 109 then cause.Merge 0 fault.Overflow
    else cause.Overflow

plain_for : (c : Cause) (p : List ℕ) → NoMerge c → cause_for (get_or (cause_text c p) 0 0) ≡ c
plain_for cause.Overflow p h = refl
plain_for cause.ZeroDivisor p h = refl
plain_for cause.Index p h = refl
plain_for cause.Assert p h = refl
plain_for cause.JoinNone p h = refl
plain_for cause.CallDepth p h = refl
plain_for cause.Spent p h = refl
plain_for (cause.Merge n f) p h = absurd h

plain_place : (c : Cause) (p : List ℕ) → NoMerge c → IsPlaceOf c p → p ≡ []
plain_place cause.Overflow p h is = is
plain_place cause.ZeroDivisor p h is = is
plain_place cause.Index p h is = is
plain_place cause.Assert p h is = is
plain_place cause.JoinNone p h is = is
plain_place cause.CallDepth p h is = is
plain_place cause.Spent p h is = is
plain_place (cause.Merge n f) p h is = absurd h

faults_same : (f g : NumFault) → behind_colon f [] ≡ behind_colon g [] → f ≡ g
faults_same fault.Overflow fault.Overflow e = refl
faults_same fault.ZeroDivisor fault.ZeroDivisor e = refl
faults_same fault.Overflow fault.ZeroDivisor e = absurd (let k = ap (λ b. get_or b 1 0) e in omega (arith, k))
faults_same fault.ZeroDivisor fault.Overflow e = absurd (let k = ap (λ b. get_or b 1 0) e in omega (arith, k))

abbrev SameCause : Cause → List ℕ → Cause → List ℕ → Type 0
SameCause c p d q = (cause_shown c ≡ cause_shown d) × (p ≡ q)

merges_same : (f g : NumFault) (p q : List ℕ) → IsPlace p → IsPlace q
    → cause_text (cause.Merge 0 f) p ≡ cause_text (cause.Merge 0 g) q → (f ≡ g) × (p ≡ q)
merges_same f g p q hp hq is =
    let split : p ++ 58 ∷ behind_colon f [] ≡ q ++ 58 ∷ behind_colon g [] =
    append_cancel (codes "merge of ") _ _ (sym (merge_split p f []) ∙ ap (λ t. t ++ []) is ∙ merge_split q g []) in
    let both = cut_once 58 p (behind_colon f []) q (behind_colon g []) (no_colon p hp) (no_colon q hq) split in
    (faults_same f g both.1, both.0)

cause_same : (c d : Cause) (p q : List ℕ) → IsPlaceOf c p → IsPlaceOf d q → cause_text c p ≡ cause_text d q
    → SameCause c p d q
cause_same c d p q hp hq is = go (kind c) (kind d)
  where
    firsts : get_or (cause_text c p) 0 0 ≡ get_or (cause_text d q) 0 0
    firsts = ap (λ b. get_or b 0 0) is

    not_merge : (e : Cause) (r : List ℕ) → NoMerge e → get_or (cause_text e r) 0 0 ≡ 109 → ⊥
    not_merge cause.Overflow r h k = omega arith
    not_merge cause.ZeroDivisor r h k = omega arith
    not_merge cause.Index r h k = omega arith
    not_merge cause.Assert r h k = omega arith
    not_merge cause.JoinNone r h k = omega arith
    not_merge cause.CallDepth r h k = omega arith
    not_merge cause.Spent r h k = omega arith
    not_merge (cause.Merge n f) r h k = h

    go : Kind c → Kind d → SameCause c p d q
    go (plain h) (plain k) = (
      ap cause_shown (sym (plain_for c p h) ∙ ap cause_for firsts ∙ plain_for d q k),
      plain_place c p h hp ∙ sym (plain_place d q k hq),
    )
    go (plain h) (merge n f e) = absurd (not_merge c p h (firsts ∙ ap (λ x. get_or (cause_text x q) 0 0) e))
    go (merge n f e) (plain k) = absurd (not_merge d q k (sym firsts ∙ ap (λ x. get_or (cause_text x p) 0 0) e))
    go (merge n f e) (merge m g u) =
        let same =
        merges_same f g p q (subst (λ x. IsPlaceOf x p) e hp) (subst (λ x. IsPlaceOf x q) u hq)
        (sym (ap (λ x. cause_text x p) e) ∙ is ∙ ap (λ x. cause_text x q) u) in
        (ap cause_shown e ∙ ap (cause.Merge 0) same.0 ∙ sym (ap cause_shown u), same.1)

where_same : (x y : Located) → (x.line < 2 ^ 32) → (y.line < 2 ^ 32) → FitsPath x.path → FitsPath y.path
    → where_text x ≡ where_text y → (x.line ≡ y.line) × (x.path ≡ y.path)
where_same x y small few f g is =
    let both =
    cut_once 32 (decimal x.line) (codes "in revision " ++ path_text x.path) (decimal y.line)
    (codes "in revision " ++ path_text y.path) (line_without x.line small) (line_without y.line few)
    (append_cancel (codes " at line ") _ _ is) in (
      decimal_injective x.line y.line (wide x.line small) (wide y.line few) both.0,
      path_injective x.path y.path f g (append_cancel (codes "in revision ") _ _ both.1),
    )

no_done : (c : Cause) (p r : List ℕ) → cause_text c p ++ r ≡ codes "done" → ⊥
no_done cause.Overflow p r is = let k = ap (λ b. get_or b 0 0) is in omega (arith, k)
no_done cause.ZeroDivisor p r is = let k = ap (λ b. get_or b 0 0) is in omega (arith, k)
no_done cause.Index p r is = let k = ap (λ b. get_or b 0 0) is in omega (arith, k)
no_done cause.Assert p r is = let k = ap (λ b. get_or b 0 0) is in omega (arith, k)
no_done cause.JoinNone p r is = let k = ap (λ b. get_or b 0 0) is in omega (arith, k)
no_done cause.CallDepth p r is = let k = ap (λ b. get_or b 0 0) is in omega (arith, k)
no_done cause.Spent p r is = let k = ap (λ b. get_or b 0 0) is in omega (arith, k)
no_done (cause.Merge n f) p r is = let k = ap (λ b. get_or b 0 0) is in omega (arith, k)

end_same : (e f : PartEnd) → FitsEnd e → FitsEnd f → end_text e ≡ end_text f → end_shown e ≡ end_shown f
end_same part_end.Done part_end.Done f g is = refl
end_same part_end.Done (part_end.Trapped u q) f g is =
    absurd (no_done u.cause q (where_text (record { path = u.origin; line = u.line }))
    (sym (append_cancel (codes "end ") (codes "done") _ is)))
end_same (part_end.Trapped t p) part_end.Done f g is =
    absurd (no_done t.cause p (where_text (record { path = t.origin; line = t.line }))
    (append_cancel (codes "end ") _ (codes "done") is))
end_same (part_end.Trapped t p) (part_end.Trapped u q) f g is =
    let x : Located = record { path = t.origin; line = t.line } in
    let y : Located = record { path = u.origin; line = u.line } in
    let both : cause_text t.cause p ++ where_text x ≡ cause_text u.cause q ++ where_text y =
    append_cancel (codes "end ") _ _ is in
    let rest : where_text x ≡ where_text y =
    cause_once t.cause u.cause p q (where_text x) (where_text y) f.place_of g.place_of both in
    let at = where_same x y f.small g.small f.path g.path rest in
    let front : cause_text t.cause p ≡ cause_text u.cause q =
    append_cancel_right (cause_text t.cause p) (cause_text u.cause q) (where_text y)
    (sym (ap (λ r. cause_text t.cause p ++ r) rest) ∙ both) in
    let causes = cause_same t.cause u.cause p q f.place_of g.place_of front in
    let a = causes.0 in
    let b = at.0 in
    let c = at.1 in
    let d = causes.1 in
    λ i. part_end.Trapped (record { cause = a i; line = b i; origin = c i }) (d i)

-- ---- lists of lines

events_same : (es fs : List TraceEvent) (e f : PartEnd) (xs ys : List (List ℕ)) → AllByRecursion FitsEvent es
    → AllByRecursion FitsEvent fs → map event_text es ++ (end_text e ∷ xs) ≡ map event_text fs ++ (end_text f ∷ ys)
    → (es ≡ fs) × (end_text e ≡ end_text f) × (xs ≡ ys)
events_same [] [] e f xs ys h k is = (refl, cc, cc)
events_same [] (g ∷ fs) e f xs ys h k is =
    absurd (event_no_end g e (end_text e) (let hd : event_text g ≡ end_text e = cc in hd) refl)
events_same (g ∷ es) [] e f xs ys h k is =
    absurd (event_no_end g f (end_text f) (let hd : event_text g ≡ end_text f = cc in hd) refl)
events_same (g ∷ es) (j ∷ fs) e f xs ys h k is =
    let hd : event_text g ≡ event_text j = cc in
    let tl : map event_text es ++ (end_text e ∷ xs) ≡ map event_text fs ++ (end_text f ∷ ys) = cc in
    let one = event_injective g j h.0 k.0 hd in
    let rest = events_same es fs e f xs ys h.1 k.1 tl in
    let others = rest.0 in
    (λ i. one i ∷ others i, rest.1, rest.2)

quotes_same : (ts us : List (List ℕ)) → map quoted ts ≡ map quoted us → ts ≡ us
quotes_same [] [] is = refl
quotes_same [] (u ∷ us) is = cc
quotes_same (t ∷ ts) [] is = cc
quotes_same (t ∷ ts) (u ∷ us) is =
    let hd : quoted t ≡ quoted u = cc in
    let tl : map quoted ts ≡ map quoted us = cc in
    let one : t ≡ u = append_cancel (codes "> ") t u hd in
    let rest = quotes_same ts us tl in
    λ i. one i ∷ rest i

no_quote : (c : Change) (cs : List Change) (ts us : List (List ℕ))
    → map quoted ts ≡ change_text c ∷ (map change_text cs ++ map quoted us) → ⊥
no_quote c cs [] us is = cc
no_quote c cs (t ∷ ts) us is =
    let hd : quoted t ≡ change_text c = cc in let k = ap (λ b. get_or b 0 0) hd in omega (arith, k)

changes_same : (ws vs : List Change) (ts us : List (List ℕ)) → AllByRecursion FitsChange ws
    → AllByRecursion FitsChange vs → map change_text ws ++ map quoted ts ≡ map change_text vs ++ map quoted us
    → (ws ≡ vs) × (ts ≡ us)
changes_same [] [] ts us h k is = (refl, quotes_same ts us is)
changes_same [] (v ∷ vs) ts us h k is = absurd (no_quote v vs ts us is)
changes_same (w ∷ ws) [] ts us h k is = absurd (no_quote w ws us ts (sym is))
changes_same (w ∷ ws) (v ∷ vs) ts us h k is =
    let hd : change_text w ≡ change_text v = cc in
    let tl : map change_text ws ++ map quoted ts ≡ map change_text vs ++ map quoted us = cc in
    let one = change_injective w v h.0 k.0 hd in
    let rest = changes_same ws vs ts us h.1 k.1 tl in
    let others = rest.0 in
    (λ i. one i ∷ others i, rest.1)

-- ---- parts

lines_tell : (p q : Part) → IsPart p → IsPart q → part_lines p ≡ part_lines q → shown_part p ≡ shown_part q
lines_tell p q f g is =
    let heads : head_text p.path ≡ head_text q.path = cc in
    let rests : map event_text p.events
    ++ (end_text p.end ∷ fuel_text p.fuel ∷ (map change_text p.written ++ map quoted (text_lines p.text)))
    ≡ map event_text q.events
    ++ (end_text q.end ∷ fuel_text q.fuel ∷ (map change_text q.written ++ map quoted (text_lines q.text))) = cc in
    let events = events_same p.events q.events p.end q.end _ _ f.events g.events rests in
    let tails = events.2 in
    let fuels : fuel_text p.fuel ≡ fuel_text q.fuel = cc in
    let lasts : map change_text p.written ++ map quoted (text_lines p.text)
    ≡ map change_text q.written ++ map quoted (text_lines q.text) = cc in
    let last = changes_same p.written q.written (text_lines p.text) (text_lines q.text) f.written g.written lasts in
    let a = head_injective p.path q.path f.path g.path heads in
    let b = events.0 in
    let c = end_same p.end q.end f.end g.end events.1 in
    let d = decimal_injective p.fuel q.fuel f.fuel g.fuel
    (append_cancel (codes "fuel ") (decimal p.fuel) (decimal q.fuel) fuels) in
    let e = last.0 in
    let t = f.text.whole ∙ ap (flat_map ended) last.1 ∙ sym g.text.whole in
    λ i. record { path = a i; events = b i; end = c i; fuel = d i; written = e i; text = t i }

cause_told : (c : Cause) (p : List ℕ) → cause_text (cause_shown c) p ≡ cause_text c p
cause_told cause.Overflow p = refl
cause_told cause.ZeroDivisor p = refl
cause_told cause.Index p = refl
cause_told cause.Assert p = refl
cause_told cause.JoinNone p = refl
cause_told cause.CallDepth p = refl
cause_told cause.Spent p = refl
cause_told (cause.Merge n f) p = refl

end_told : (e : PartEnd) → end_text (end_shown e) ≡ end_text e
end_told part_end.Done = refl
end_told (part_end.Trapped t p) =
    ap (λ v. codes "end " ++ (v ++ where_text (record { path = t.origin; line = t.line }))) (cause_told t.cause p)

pub lines_shown : (p : Part) → part_lines (shown_part p) ≡ part_lines p
lines_shown p =
    ap (λ v. head_text p.path
    ∷ (map event_text p.events
    ++ (v ∷ fuel_text p.fuel ∷ (map change_text p.written ++ map quoted (text_lines p.text)))))
    (end_told p.end)

pub parts_are_told : (p q : Part) → IsPart p → IsPart q → (part_lines p ≡ part_lines q) ↔ (shown_part p ≡ shown_part q)
parts_are_told p q f g = (lines_tell p q f g, λ is. sym (lines_shown p) ∙ ap part_lines is ∙ lines_shown q)
