-- One stage after another.
use Rattle.std.proofs.Common.{◌≡◌, ◌≢◌, ◌∙◌, refl, sym, subst, ap}
use Rattle.std.specs.Prelude.{Option, Some, None, Result, Ok, Err, IsErrAnd}
use Rattle.rev_report.specs.declared.refusal.Refusal.{Refusal}
use Rattle.mode_reports.specs.Stages.{Onward, Reports, Then}
use Rattle.mode_reports.specs.Stops.{Meets, stop_of}
use Rattle.mode_reports.specs.declared.stop.Stop.{Stop}
use Rattle.mode_reports.specs.declared.stop.Stop.TheVariants as stops

-- a stage has one value or refusal at most
abbrev pub One : {X : Type 0} → (Result X Refusal → Type 0) → Type 0
One {X = X} Stage = (a b : Result X Refusal) → Stage a → Stage b → a ≡ b

module _ {X Y : Type 0} (Stage : Result X Refusal → Type 0) (Says : X → Result Y Refusal → Type 0) where
  -- ---- how the code goes through two stages

  -- a stage with no value ends it
  stops_there : {A B : Type 0} (seen : A → X) (view : B → Y) (e : Stop)
      → Meets seen (Err e) Stage → Meets view (Err e) (Then Stage Says)
  stops_there seen view (stops.Refused f) h = (Err f, h, refl)
  stops_there seen view stops.OutOfMemory h = tt

  -- the same of the exit by `?`
  pub leaves : {A B : Type 0} (seen : A → X) (view : B → Y) (r : Result B Stop) (e : Stop) → IsErrAnd r (λ x. x ≡ e)
      → Meets seen (Err e) Stage → Meets view r (Then Stage Says)
  leaves seen view (Ok x) e never h = absurd never
  leaves seen view (Err x) e same h =
      subst (λ (y : Stop). Meets view (Err y) (Then Stage Says)) (sym same) (stops_there seen view e h)

  -- a value goes on
  pub goes_on : {B : Type 0} (view : B → Y) (x : X) (r : Result B Stop) → Stage (Ok x) → Meets view r (Says x)
      → Meets view r (Then Stage Says)
  goes_on view x (Ok y) g h = (Ok x, g, h)
  goes_on view x (Err (stops.Refused f)) g h = (Ok x, g, h)
  goes_on view x (Err stops.OutOfMemory) g h = tt

  -- ---- laws

  -- what holds of the refusals of both stages
  pub refusal_of : (P : Refusal → Type 0) → ((f : Refusal) → Stage (Err f) → P f)
      → ((x : X) (f : Refusal) → Says x (Err f) → P f) → (f : Refusal) → Then Stage Says (Err f) → P f
  refusal_of P first second f h = go h.0 h.1 h.2
    where
      go : (found : Result X Refusal) → Stage found → Onward Says found (Err f) → P f
      go (Ok x) s on = second x f on
      go (Err g) s on = let same : f ≡ g = cc in subst P (sym same) (first g s)

  -- the next stage may rest on the value of this one
  pub one_after : One Stage → ((x : X) → Stage (Ok x) → One (Says x)) → One (Then Stage Says)
  one_after one next a b h k = go h.0 k.0 (one h.0 k.0 h.1 k.1) h.1 h.2 k.2
    where
      go : (x y : Result X Refusal) → x ≡ y → Stage x → Onward Says x a → Onward Says y b → a ≡ b
      go (Ok x) (Ok y) same s on on2 = let e : x ≡ y = cc in next x s a b on (subst (λ z. Says z b) (sym e) on2)
      go (Ok x) (Err g) same s on on2 = cc
      go (Err f) (Ok y) same s on on2 = cc
      go (Err f) (Err g) same s on on2 = let e : f ≡ g = cc in on ∙ ap (λ (z : Refusal). Err z) e ∙ sym on2

  pub one_then : One Stage → ((x : X) → One (Says x)) → One (Then Stage Says)
  one_then one next = one_after one (λ x s. next x)

-- what is made of a fault that is reported
reported : {X Y : Type 0} (view : X → Y) (Stage : Result Y Refusal → Type 0) (o : Option Refusal)
    → ((r : Refusal) → o ≡ Some r → Stage (Err r)) → Meets view (Err (stop_of o)) Stage
reported view Stage (Some r) h = h r refl
reported view Stage None h = tt

none_some : (r : Refusal) (o : Option Refusal) → o ≡ Some r → o ≡ None → ⊥
none_some r o some none = let e : Some r ≡ None = sym some ∙ none in cc

module _ {F X Y : Type 0} (report : F → Option Refusal) (out : F) (silent : report out ≡ None) (Comes : F → Type 0)
    (Stage : Result Y Refusal → Type 0)
    (stage : (r : Refusal) → Reports Comes report r → Stage (Err r)) where
  pub refuses : (view : X → Y) (f : F) (e : Stop) → e ≡ stop_of (report f) → (f ≢ out → Comes f)
      → Meets view (Err e) Stage
  refuses view f e is h =
      subst (λ (x : Stop). Meets view (Err x) Stage) (sym is)
      (reported view Stage (report f) (λ r some. stage r (record {
        fault = f;
        comes = h (λ same. none_some r (report f) some (ap report same ∙ silent));
        reported = some;
      })))
