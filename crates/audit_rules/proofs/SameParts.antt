-- Whether two parts are equal is decided.
use Rattle.std.proofs.Common.{◌≡◌, ◌≢◌, ◌⊎◌, inl, inr, ℕ, pos, negsuc, true, false, List, [], ◌∷◌, get_or, Some, None, refl, sym, ap, ◌∙◌}
use Rattle.std.specs.Prelude.{if◌then◌else◌, ◌==◌}
use Rattle.rev_num.specs.declared.value.Value.{Value}
use Rattle.rev_num.specs.declared.value.Value.TheVariants as v
use Rattle.rev_num.specs.declared.value.NumFault.TheVariants as fault
use Rattle.rev_num.specs.declared.outcome.Cause.{Cause}
use Rattle.rev_num.specs.declared.outcome.Cause.TheVariants as cause
use Rattle.rev_num.specs.declared.outcome.Trap.{Trap}
use Rattle.revision_machine.proofs.Paths.{decide_same}
use Rattle.trace_diagram.specs.declared.diagram.Part.{Part}
use Rattle.trace_diagram.specs.declared.diagram.Change.{Change}
use Rattle.trace_diagram.specs.declared.diagram.PartEnd.{PartEnd}
use Rattle.trace_diagram.specs.declared.diagram.PartEnd.TheVariants as part_end
use Rattle.trace_diagram.specs.declared.diagram.TraceEvent.{TraceEvent}
use Rattle.trace_diagram.specs.declared.diagram.TraceEvent.TheVariants as event

abbrev Same : {A : Type 0} → A → A → Type 0
Same x y = (x ≡ y) ⊎ (x ≢ y)

-- ---- by a code in numbers

module _ {A : Type 0} (code : A → List ℕ) (decode : List ℕ → A) (back : (x : A) → decode (code x) ≡ x) where
  by_code : (x y : A) → Same x y
  by_code x y = go (decide_same (code x) (code y))
    where
      go : (code x ≡ code y) ⊎ (code x ≢ code y) → Same x y
      go (inl e) = inl (sym (back x) ∙ ap decode e ∙ back y)
      go (inr apart) = inr (λ e. apart (ap code e))

same_number : (x y : ℕ) → Same x y
same_number = by_code (λ n. n ∷ []) (λ l. get_or l 0 0) (λ n. refl)

abbrev value_code : Value → List ℕ
value_code (v.Int (pos n)) = 0 ∷ n ∷ []
value_code (v.Int (negsuc n)) = 1 ∷ n ∷ []
value_code (v.Bool true) = 2 ∷ []
value_code (v.Bool false) = 3 ∷ []
value_code (v.Rev None) = 4 ∷ []
value_code (v.Rev (Some path)) = 5 ∷ path

abbrev value_at : ℕ → List ℕ → Value
value_at b r =
    if b == 0 then v.Int (pos (get_or r 0 0))
    else if b == 1 then v.Int (negsuc (get_or r 0 0))
    else if b == 2 then v.Bool true
    else if b == 3 then v.Bool false
    else if b == 4 then v.Rev None
    else v.Rev (Some r)

abbrev coded_value : List ℕ → Value
coded_value [] = v.Rev None
coded_value (b ∷ r) = value_at b r

value_back : (x : Value) → coded_value (value_code x) ≡ x
value_back (v.Int (pos n)) = refl
value_back (v.Int (negsuc n)) = refl
value_back (v.Bool true) = refl
value_back (v.Bool false) = refl
value_back (v.Rev None) = refl
value_back (v.Rev (Some path)) = refl

same_value : (x y : Value) → Same x y
same_value = by_code value_code coded_value value_back

abbrev event_code : TraceEvent → List ℕ
event_code (event.Forked q line) = 0 ∷ line ∷ q
event_code (event.Joined q line) = 1 ∷ line ∷ q

abbrev coded_event : List ℕ → TraceEvent
coded_event [] = event.Forked [] 0
coded_event (b ∷ []) = event.Forked [] 0
coded_event (b ∷ line ∷ q) = if b == 0 then event.Forked q line else event.Joined q line

event_back : (x : TraceEvent) → coded_event (event_code x) ≡ x
event_back (event.Forked q line) = refl
event_back (event.Joined q line) = refl

same_event : (x y : TraceEvent) → Same x y
same_event = by_code event_code coded_event event_back

abbrev cause_code : Cause → List ℕ
cause_code cause.Overflow = 0 ∷ []
cause_code cause.ZeroDivisor = 1 ∷ []
cause_code cause.Index = 2 ∷ []
cause_code cause.Assert = 3 ∷ []
cause_code cause.JoinNone = 4 ∷ []
cause_code cause.CallDepth = 5 ∷ []
cause_code cause.Spent = 6 ∷ []
cause_code (cause.Merge n fault.Overflow) = 7 ∷ n ∷ []
cause_code (cause.Merge n fault.ZeroDivisor) = 8 ∷ n ∷ []

abbrev cause_at : ℕ → ℕ → Cause
cause_at b n =
    if b == 0 then cause.Overflow
    else if b == 1 then cause.ZeroDivisor
    else if b == 2 then cause.Index
    else if b == 3 then cause.Assert
    else if b == 4 then cause.JoinNone
    else if b == 5 then cause.CallDepth
    else if b == 6 then cause.Spent
    else if b == 7 then cause.Merge n fault.Overflow
    else cause.Merge n fault.ZeroDivisor

abbrev coded_cause : List ℕ → Cause
coded_cause l = cause_at (get_or l 0 0) (get_or l 1 0)

cause_back : (x : Cause) → coded_cause (cause_code x) ≡ x
cause_back cause.Overflow = refl
cause_back cause.ZeroDivisor = refl
cause_back cause.Index = refl
cause_back cause.Assert = refl
cause_back cause.JoinNone = refl
cause_back cause.CallDepth = refl
cause_back cause.Spent = refl
cause_back (cause.Merge n fault.Overflow) = refl
cause_back (cause.Merge n fault.ZeroDivisor) = refl

same_cause : (x y : Cause) → Same x y
same_cause = by_code cause_code coded_cause cause_back

-- ---- by parts

abbrev Told : Type 0 → Type 0
Told P = P ⊎ (P → ⊥)

both : {P Q : Type 0} → Told P → Told Q → Told (P × Q)
both (inl p) (inl q) = inl (p, q)
both (inr n) q = inr (λ h. n h.0)
both (inl p) (inr n) = inr (λ h. n h.1)

by_parts : {P Q : Type 0} → (P → Q) → (Q → P) → Told P → Told Q
by_parts f g (inl p) = inl (f p)
by_parts f g (inr n) = inr (λ q. n (g q))

module _ {A : Type 0} (same : (x y : A) → Same x y) where
  same_lists : (xs ys : List A) → Same xs ys
  same_lists [] [] = inl refl
  same_lists [] (y ∷ ys) = inr (λ e. cc)
  same_lists (x ∷ xs) [] = inr (λ e. cc)
  same_lists (x ∷ xs) (y ∷ ys) =
      by_parts (λ h. let hd : x ≡ y = h.0 in let tl : xs ≡ ys = h.1 in λ i. hd i ∷ tl i) (λ e. (cc, cc))
      (both (same x y) (same_lists xs ys))

same_change : (x y : Change) → Same x y
same_change x y =
    by_parts {P = (x.place ≡ y.place) × ((x.value ≡ y.value) × (x.root ≡ y.root))}
    (λ h. let a = h.0 in let b = h.1.0 in let c = h.1.1 in λ i. record { place = a i; value = b i; root = c i })
    (λ e. (ap (λ z. z.place) e, (ap (λ z. z.value) e, ap (λ z. z.root) e)))
    (both (decide_same x.place y.place) (both (same_value x.value y.value) (same_value x.root y.root)))

same_trap : (x y : Trap) → Same x y
same_trap x y =
    by_parts {P = (x.cause ≡ y.cause) × ((x.line ≡ y.line) × (x.origin ≡ y.origin))}
    (λ h. let a = h.0 in let b = h.1.0 in let c = h.1.1 in λ i. record { cause = a i; line = b i; origin = c i })
    (λ e. (ap (λ z. z.cause) e, (ap (λ z. z.line) e, ap (λ z. z.origin) e)))
    (both (same_cause x.cause y.cause) (both (same_number x.line y.line) (decide_same x.origin y.origin)))

same_end : (x y : PartEnd) → Same x y
same_end part_end.Done part_end.Done = inl refl
same_end part_end.Done (part_end.Trapped t p) = inr (λ e. cc)
same_end (part_end.Trapped t p) part_end.Done = inr (λ e. cc)
same_end (part_end.Trapped t p) (part_end.Trapped u q) =
    by_parts {P = (t ≡ u) × (p ≡ q)} (λ h. let a = h.0 in let b = h.1 in λ i. part_end.Trapped (a i) (b i))
    (λ e. (cc, cc)) (both (same_trap t u) (decide_same p q))

pub same_part : (x y : Part) → Same x y
same_part x y =
    by_parts {P =
    (x.path ≡ y.path)
    × ((x.events ≡ y.events) × ((x.end ≡ y.end) × ((x.fuel ≡ y.fuel) × ((x.written ≡ y.written) × (x.text ≡ y.text)))))}
    (λ h.
    let a = h.0 in
    let b = h.1.0 in
    let c = h.1.1.0 in
    let d = h.1.1.1.0 in
    let f = h.1.1.1.1.0 in
    let g = h.1.1.1.1.1 in
    λ i. record { path = a i; events = b i; end = c i; fuel = d i; written = f i; text = g i })
    (λ e. (
      ap (λ z. z.path) e,
      (ap (λ z. z.events) e, (ap (λ z. z.end) e, (ap (λ z. z.fuel) e, (ap (λ z. z.written) e, ap (λ z. z.text) e)))),
    ))
    (both (decide_same x.path y.path)
    (both (same_lists same_event x.events y.events)
    (both (same_end x.end y.end)
    (both (same_number x.fuel y.fuel)
    (both (same_lists same_change x.written y.written) (decide_same x.text y.text))))))
