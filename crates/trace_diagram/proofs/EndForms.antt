-- A trap's cause ends at one place, so that an end is read in one way.
use Rattle.std.proofs.Common.{◌≡◌, ◌≢◌, ◌∙◌, sym, ap, subst, ℕ, List, [], ◌∷◌, ◌++◌, get_or, drop, refl, arith}
use Rattle.std.specs.Prelude.{codes, if◌then◌else◌, ◌==◌, Option, Some, None}
use Rattle.rev_num.specs.declared.outcome.Cause.{Cause}
use Rattle.rev_num.specs.declared.outcome.Cause.TheVariants as cause
use Rattle.rev_num.specs.declared.value.NumFault.{NumFault}
use Rattle.rev_num.specs.declared.value.NumFault.TheVariants as fault
use Rattle.trace_diagram.specs.Ends.{EndsSo, IsMerge, IsPlain, NoMerge, where_text}
use Rattle.trace_diagram.specs.Lines.{FitsEnd, IsPlaceOf, cause_text, end_text}
use Rattle.trace_diagram.specs.Places.{IsPlace}
use Rattle.trace_diagram.specs.Reading.{Reads}
use Rattle.trace_diagram.specs.declared.diagram.PartEnd.{PartEnd}
use Rattle.trace_diagram.specs.declared.diagram.PartEnd.TheVariants as part_end
use Rattle.trace_diagram.specs.declared.lines.Located.{Located}
use Rattle.trace_diagram.proofs.Cutting.{append_cancel, cut_once}
use Rattle.trace_diagram.proofs.LineForms.{behind_colon, merge_split, no_colon}

-- ---- causes that are no merge's

-- how long the cause is that begins with this byte
abbrev size : ℕ → ℕ
size b =
    if b == 111 then 8 else if b == 122 then 12 else if b == 105 then 5 else if b == 97 then 6 else if b == 106 then 12
    else 10

abbrev behind_cause : List ℕ → List ℕ
behind_cause bytes = drop (size (get_or bytes 0 0)) bytes

plain_behind : (c : Cause) (p r : List ℕ) → NoMerge c → behind_cause (cause_text c p ++ r) ≡ r
plain_behind cause.Overflow p r h = refl
plain_behind cause.ZeroDivisor p r h = refl
plain_behind cause.Index p r h = refl
plain_behind cause.Assert p r h = refl
plain_behind cause.JoinNone p r h = refl
plain_behind cause.CallDepth p r h = refl
plain_behind cause.Spent p r h = refl
plain_behind (cause.Merge n f) p r h = absurd h

plain_first : (c : Cause) (p r : List ℕ) → NoMerge c → get_or (cause_text c p ++ r) 0 0 ≢ 109
plain_first cause.Overflow p r h e = omega arith
plain_first cause.ZeroDivisor p r h e = omega arith
plain_first cause.Index p r h e = omega arith
plain_first cause.Assert p r h e = omega arith
plain_first cause.JoinNone p r h e = omega arith
plain_first cause.CallDepth p r h e = omega arith
plain_first cause.Spent p r h e = omega arith
plain_first (cause.Merge n f) p r h e = h

-- ---- the causes of merges

merges_once : (f g : NumFault) (p q r s : List ℕ) → IsPlace p → IsPlace q
    → cause_text (cause.Merge 0 f) p ++ r ≡ cause_text (cause.Merge 0 g) q ++ s → r ≡ s
merges_once f g p q r s hp hq is =
    let split : p ++ 58 ∷ behind_colon f r ≡ q ++ 58 ∷ behind_colon g s =
    append_cancel (codes "merge of ") _ _ (sym (merge_split p f r) ∙ is ∙ merge_split q g s) in
    go f g (cut_once 58 p (behind_colon f r) q (behind_colon g s) (no_colon p hp) (no_colon q hq) split).1
  where
    go : (f g : NumFault) → behind_colon f r ≡ behind_colon g s → r ≡ s
    go fault.Overflow fault.Overflow e = append_cancel (codes " overflow") r s e
    go fault.ZeroDivisor fault.ZeroDivisor e = append_cancel (codes " zero divisor") r s e
    go fault.Overflow fault.ZeroDivisor e = absurd (let k = ap (λ b. get_or b 1 0) e in omega (arith, k))
    go fault.ZeroDivisor fault.Overflow e = absurd (let k = ap (λ b. get_or b 1 0) e in omega (arith, k))

-- ---- both

pub data Kind (c : Cause) : Type 0 where
  plain : NoMerge c → Kind c
  merge : (n : ℕ) (f : NumFault) → c ≡ cause.Merge n f → Kind c

pub kind : (c : Cause) → Kind c
kind cause.Overflow = plain tt
kind cause.ZeroDivisor = plain tt
kind cause.Index = plain tt
kind cause.Assert = plain tt
kind cause.JoinNone = plain tt
kind cause.CallDepth = plain tt
kind cause.Spent = plain tt
kind (cause.Merge n f) = merge n f refl

merge_first : (c : Cause) (n : ℕ) (f : NumFault) (p r : List ℕ) → c ≡ cause.Merge n f
    → get_or (cause_text c p ++ r) 0 0 ≡ 109
merge_first c n f p r e = subst (λ d. get_or (cause_text d p ++ r) 0 0 ≡ 109) (sym e) refl

pub cause_once : (c d : Cause) (p q r s : List ℕ) → IsPlaceOf c p → IsPlaceOf d q
    → cause_text c p ++ r ≡ cause_text d q ++ s → r ≡ s
cause_once c d p q r s hp hq is = go (kind c) (kind d)
  where
    go : Kind c → Kind d → r ≡ s
    go (plain h) (plain k) = sym (plain_behind c p r h) ∙ ap behind_cause is ∙ plain_behind d q s k
    go (plain h) (merge n f e) = absurd (plain_first c p r h (ap (λ b. get_or b 0 0) is ∙ merge_first d n f q s e))
    go (merge n f e) (plain k) =
        absurd (plain_first d q s k (ap (λ b. get_or b 0 0) (sym is) ∙ merge_first c n f p r e))
    go (merge n f e) (merge m g u) =
        merges_once f g p q r s (subst (λ x. IsPlaceOf x p) e hp) (subst (λ x. IsPlaceOf x q) u hq)
        (sym (ap (λ x. cause_text x p ++ r) e) ∙ is ∙ ap (λ x. cause_text x q ++ s) u)

-- ---- ends

pub no_place : (c : Cause) → NoMerge c → IsPlaceOf c []
no_place cause.Overflow h = refl
no_place cause.ZeroDivisor h = refl
no_place cause.Index h = refl
no_place cause.Assert h = refl
no_place cause.JoinNone h = refl
no_place cause.CallDepth h = refl
no_place cause.Spent h = refl
no_place (cause.Merge n f) h = absurd h

reads_end : (line end rest : List ℕ) (c : Cause) (place : List ℕ) (o : Option PartEnd) → line ≡ codes "end " ++ end
    → end ≢ codes "done" → IsPlaceOf c place → end ≡ cause_text c place ++ rest → EndsSo c place rest o
    → Reads FitsEnd end_text line o
reads_end line end rest c place (Some e) at not_done of is h =
    (h.0, h.1 ∙ ap (λ t. codes "end " ++ t) (sym is) ∙ sym at)
reads_end line end rest c place None at not_done of is none = by
  where
    by : (e : PartEnd) → FitsEnd e → end_text e ≡ line → ⊥
    by part_end.Done fit text = not_done (sym (append_cancel (codes "end ") (codes "done") end (text ∙ at)))
    by (part_end.Trapped t p) fit text =
        let x : Located = record { path = t.origin; line = t.line } in
        let both : cause_text t.cause p ++ where_text x ≡ cause_text c place ++ rest =
        append_cancel (codes "end ") _ _ (text ∙ at) ∙ is in
        none x (fit.path, fit.small) (cause_once t.cause c p place (where_text x) rest fit.place_of of both)

pub plain_end : (line end rest : List ℕ) (c : Cause) (o : Option PartEnd) → line ≡ codes "end " ++ end
    → end ≢ codes "done" → IsPlain c end rest → EndsSo c [] rest o → Reads FitsEnd end_text line o
plain_end line end rest c o at not_done h ends =
    reads_end line end rest c [] o at not_done (no_place c h.plain) h.text ends

pub merge_end : {line end rest place : List ℕ} {f : NumFault} (o : Option PartEnd) → line ≡ codes "end " ++ end
    → end ≢ codes "done" → IsMerge place f end rest → EndsSo (cause.Merge 0 f) place rest o
    → Reads FitsEnd end_text line o
merge_end {line} {end} {rest} {place} {f} o at not_done h ends =
    reads_end line end rest (cause.Merge 0 f) place o at not_done h.place_is h.text ends
