-- Bytes have one reading as a code file: code that keeps all rules, or one first fault, which is reported.
use Rattle.std.proofs.Common.{◌≡◌, ◌≢◌, ◌∙◌, refl, sym, subst, ap, List, [], ℕ, ◌⊎◌, inl, inr}
use Rattle.std.specs.Prelude.{Option, Some, None, Result, Ok, Err}
use Rattle.rev_code.specs.declared.code.Code.{Code}
use Rattle.code_rules.specs.declared.Fault.{Fault}
use Rattle.code_rules.specs.declared.Rule.{Rule}
use Rattle.code_rules.specs.declared.Rule.TheVariants as rule
use Rattle.code_rules.specs.Verdict.{first_fault}
use Rattle.code_file.specs.Fields.{Reading, Got, Failed}
use Rattle.code_file.specs.Reads.{reading}
use Rattle.code_file.specs.Laws.{IsFile, ReadsBack}
use Rattle.code_file.specs.declared.fault.ReadFault.{ReadFault}
use Rattle.code_file.specs.declared.fault.ReadFault.TheVariants as read
use Rattle.code_file.proofs.EachRead.{each_read}
use Rattle.code_verifier.specs.Verdicts.{IsRefusal, KeepsRules, fault_of}
use Rattle.code_verifier.specs.declared.fault.CodeFault.{CodeFault}
use Rattle.code_verifier.specs.declared.fault.CodeFault.TheVariants as code
use Rattle.rev_report.specs.Refusals.{status_of}
use Rattle.rev_report.specs.declared.refusal.Refusal.{Refusal}
use Rattle.mode_reports.specs.Codes.{ChecksCode, KeepsCodeRules, ReadsFile, report_of_code, report_of_file}
use Rattle.mode_reports.specs.Stages.{Onward, Reports, Then}
use Rattle.mode_reports.specs.Stops.{Meets, stop_of}
use Rattle.mode_reports.specs.declared.stop.Stop.{Stop}
use Rattle.mode_reports.proofs.Stages.{One, one_then, refusal_of, refuses}

-- ---- there is one reading at most

one_some : (r s : Refusal) (o : Option Refusal) → o ≡ Some r → o ≡ Some s → r ≡ s
one_some r s o a b = let e : Some r ≡ Some s = sym a ∙ b in cc

abbrev failed : ReadFault → Reading Code
failed f = Failed f

one_file : (bytes : List ℕ) → One (ReadsFile bytes)
one_file bytes (Ok c) (Ok d) h k =
    let e : Got c [] ≡ Got d [] = sym h ∙ k in let same : c ≡ d = cc in ap (λ (x : Code). Ok x) same
one_file bytes (Ok c) (Err s) h k = let e : Got c [] ≡ Failed k.fault = sym h ∙ k.comes in absurd (cc)
one_file bytes (Err r) (Ok d) h k = let e : Got d [] ≡ Failed h.fault = sym k ∙ h.comes in absurd (cc)
one_file bytes (Err r) (Err s) h k =
    let e : failed h.fault ≡ failed k.fault = sym h.comes ∙ k.comes in
    let same : h.fault ≡ k.fault = cc in
    ap (λ (x : Refusal). Err x)
    (one_some r s (report_of_file k.fault) (ap report_of_file (sym same) ∙ h.reported) k.reported)

-- a refusal that is reported is the first fault of the code
found_fault : (c : Code) (e : CodeFault) (r : Refusal) → IsRefusal c e → report_of_code e ≡ Some r
    → (f : Fault) × (first_fault c ≡ Some f) × (e ≡ fault_of f)
found_fault c (code.BadJump block at) r is told = is
found_fault c (code.BadOperand block at) r is told = is
found_fault c (code.StackShape block at) r is told = is
found_fault c (code.WrongKind block at) r is told = is
found_fault c (code.BadLocal block at) r is told = is
found_fault c (code.FallsOff block at) r is told = is
found_fault c (code.LimitOf block at) r is told = is
found_fault c code.OutOfMemory r is told = absurd (cc)

none_found : (c : Code) (f : Fault) → KeepsRules c → first_fault c ≡ Some f → ⊥
none_found c f keeps some = let e : None ≡ Some f = sym keeps ∙ some in cc

one_rules : (c : Code) → One (KeepsCodeRules c)
one_rules c (Ok d) (Ok e) h k = ap (λ (x : Code). Ok x) (h.0 ∙ sym k.0)
one_rules c (Ok d) (Err s) h k = let f = found_fault c k.fault s k.comes k.reported in absurd (none_found c f.0 h.1 f.1)
one_rules c (Err r) (Ok d) h k = let f = found_fault c h.fault r h.comes h.reported in absurd (none_found c f.0 k.1 f.1)
one_rules c (Err r) (Err s) h k =
    let f = found_fault c h.fault r h.comes h.reported in
    let g = found_fault c k.fault s k.comes k.reported in
    let both : Some f.0 ≡ Some g.0 = sym f.1 ∙ g.1 in
    let same : f.0 ≡ g.0 = cc in
    let faults : h.fault ≡ k.fault = f.2 ∙ ap fault_of same ∙ sym g.2 in
    ap (λ (x : Refusal). Err x)
    (one_some r s (report_of_code k.fault) (ap report_of_code (sym faults) ∙ h.reported) k.reported)

pub one_code : (bytes : List ℕ) → One (ChecksCode bytes)
unfolding ChecksCode
one_code bytes = one_then (ReadsFile bytes) KeepsCodeRules (one_file bytes) one_rules

-- ---- there is one

file_told : (f : ReadFault) → f ≢ read.OutOfMemory → (r : Refusal) × (report_of_file f ≡ Some r)
file_told read.BadMagic real = (_, refl)
file_told read.BadVersion real = (_, refl)
file_told (read.Truncated at) real = (_, refl)
file_told (read.BadField at) real = (_, refl)
file_told (read.Trailing at) real = (_, refl)
file_told read.OutOfMemory real = absurd (real refl)

some_file : (bytes : List ℕ) → (found : Result Code Refusal) × ReadsFile bytes found
some_file bytes = go (each_read bytes)
  where
    go : ((c : Code) × (reading bytes ≡ Got c []))
        ⊎ ((f : ReadFault) × (reading bytes ≡ Failed f) × (f ≢ read.OutOfMemory))
        → (found : Result Code Refusal) × ReadsFile bytes found
    go (inl h) = (Ok h.0, h.1)
    go (inr h) = let told = file_told h.0 h.2 in (Err told.0, record { fault = h.0; comes = h.1; reported = told.1 })

-- a fault of code is reported
fault_told : (c : Code) (r : Rule) (block at : ℕ) → first_fault c ≡ Some (record { block = block; at = at; rule = r })
    → (s : Refusal) × Reports (IsRefusal c) report_of_code s
fault_told c rule.BadJump block at is =
    (_, record { fault = code.BadJump block at; comes = (_, is, refl); reported = refl })
fault_told c rule.BadOperand block at is =
    (_, record { fault = code.BadOperand block at; comes = (_, is, refl); reported = refl })
fault_told c rule.StackShape block at is =
    (_, record { fault = code.StackShape block at; comes = (_, is, refl); reported = refl })
fault_told c rule.WrongKind block at is =
    (_, record { fault = code.WrongKind block at; comes = (_, is, refl); reported = refl })
fault_told c rule.BadLocal block at is =
    (_, record { fault = code.BadLocal block at; comes = (_, is, refl); reported = refl })
fault_told c rule.FallsOff block at is =
    (_, record { fault = code.FallsOff block at; comes = (_, is, refl); reported = refl })
fault_told c rule.LimitOf block at is =
    (_, record { fault = code.LimitOf block at; comes = (_, is, refl); reported = refl })

some_rules : (c : Code) → (found : Result Code Refusal) × KeepsCodeRules c found
some_rules c = go (first_fault c) refl
  where
    go : (o : Option Fault) → first_fault c ≡ o → (found : Result Code Refusal) × KeepsCodeRules c found
    go None is = (Ok c, (refl, is))
    go (Some f) is = let told = fault_told c f.rule f.block f.at is in (Err told.0, told.1)

pub some_code : (bytes : List ℕ) → (found : Result Code Refusal) × ChecksCode bytes found
unfolding ChecksCode
some_code bytes = let one = some_file bytes in go one.0 one.1
  where
    go : (found : Result Code Refusal) → ReadsFile bytes found
        → (last : Result Code Refusal) × Then (ReadsFile bytes) KeepsCodeRules last
    go (Ok c) h = let next = some_rules c in (next.0, (Ok c, h, next.1))
    go (Err f) h = (Err f, (Err f, h, refl))

-- ---- bytes are refused with the status of a refusal

same_status : (r s : Refusal) → status_of r ≡ 2 → Some r ≡ Some s → status_of s ≡ 2
same_status r s is same = let e : r ≡ s = cc in subst (λ (x : Refusal). status_of x ≡ 2) e is

file_status : (f : ReadFault) (r : Refusal) → report_of_file f ≡ Some r → status_of r ≡ 2
file_status read.BadMagic r is = same_status _ r refl is
file_status read.BadVersion r is = same_status _ r refl is
file_status (read.Truncated at) r is = same_status _ r refl is
file_status (read.BadField at) r is = same_status _ r refl is
file_status (read.Trailing at) r is = same_status _ r refl is
file_status read.OutOfMemory r is = absurd (cc)

code_status : (f : CodeFault) (r : Refusal) → report_of_code f ≡ Some r → status_of r ≡ 2
code_status (code.BadJump block at) r is = same_status _ r refl is
code_status (code.BadOperand block at) r is = same_status _ r refl is
code_status (code.StackShape block at) r is = same_status _ r refl is
code_status (code.WrongKind block at) r is = same_status _ r refl is
code_status (code.BadLocal block at) r is = same_status _ r refl is
code_status (code.FallsOff block at) r is = same_status _ r refl is
code_status (code.LimitOf block at) r is = same_status _ r refl is
code_status code.OutOfMemory r is = absurd (cc)

pub code_refused : (bytes : List ℕ) (r : Refusal) → ChecksCode bytes (Err r) → status_of r ≡ 2
unfolding ChecksCode
code_refused bytes =
    refusal_of (ReadsFile bytes) KeepsCodeRules (λ r. status_of r ≡ 2)
    (λ r h. file_status h.fault r h.reported) (λ c r h. code_status h.fault r h.reported)

-- ---- code that was read

pub kept_of : (bytes : List ℕ) (c : Code) → ChecksCode bytes (Ok c) → KeepsRules c
unfolding ChecksCode
kept_of bytes c h = go h.0 h.2
  where
    go : (found : Result Code Refusal) → Onward KeepsCodeRules found (Ok c) → KeepsRules c
    go (Ok d) on = subst (λ (x : Code). KeepsRules x) (sym on.0) on.1
    go (Err f) on = absurd (cc)

-- ---- what the code makes of the answers of the calls

pub is_read : ReadsBack → (bytes : List ℕ) (c : Code) → IsFile c bytes → ReadsFile bytes (Ok c)
is_read back bytes c is = ap reading is.spelled ∙ back c is.has

module _ {X : Type 0} (view : X → Code) where
  pub no_file : (bytes : List ℕ) (f : ReadFault) (e : Stop) → e ≡ stop_of (report_of_file f)
      → (f ≢ read.OutOfMemory → reading bytes ≡ Failed f) → Meets view (Err e) (ReadsFile bytes)
  no_file bytes f e is h =
      refuses report_of_file read.OutOfMemory refl (λ g. reading bytes ≡ Failed g) (ReadsFile bytes) (λ r x. x) view f e
      is h

  pub no_rules : (c : Code) (f : CodeFault) (e : Stop) → e ≡ stop_of (report_of_code f) → IsRefusal c f
      → Meets view (Err e) (KeepsCodeRules c)
  no_rules c f e is h =
      refuses report_of_code code.OutOfMemory refl (IsRefusal c) (KeepsCodeRules c) (λ r x. x) view f e is (λ n. h)
