-- A source that holds a text and a trace has one answer to its audit.
use Rattle.std.proofs.Common.{◌≡◌, ◌∙◌, ◌⊎◌, inl, inr, refl, sym, ap, List, ℕ, Bool, true, false, nat_le, length, arith, rules}
use Rattle.std.specs.Prelude.{Result, Ok, Err}
use Rattle.rev_num.specs.Path.{Path}
use Rattle.rev_words.specs.declared.Words.{Words}
use Rattle.rev_syntax.specs.Trees.{ProgramTree}
use Rattle.rev_parse.specs.SmallTree.{most_bytes}
use Rattle.rev_report.specs.declared.refusal.Refusal.{Refusal}
use Rattle.rev_report.specs.declared.refusal.Refusal.TheVariants as refusals
use Rattle.revision_calculus.specs.Kinded.{IsAccepted}
use Rattle.trace_diagram.specs.Traces.{IsFirstFault, IsTextOf, IsTraceText}
use Rattle.trace_diagram.specs.declared.diagram.Trace.{Trace}
use Rattle.trace_diagram.proofs.Faults.{fault_is_no_text, one_fault}
use Rattle.program_texts.proofs.Texts.{each_is_read_or_fails}
use Rattle.trace_diagram.specs.Dividing.{Divides, DividesOnce}
use Rattle.trace_diagram.proofs.Dividing.{sources_divide_once}
use Rattle.audit_rules.specs.declared.verdict.Verdict.{Verdict}
use Rattle.audit_rules.specs.declared.verdict.Verdict.TheVariants as verdict
use Rattle.audit_rules.proofs.Verdicts.{each_has_one}
use Rattle.program_texts.specs.Verdicts.{SameVerdict}
use Rattle.program_texts.proofs.OneVerdict.{text_has_one}
use Rattle.mode_reports.specs.Answer.{Answer, AuditsTrace, setting}
use Rattle.mode_reports.specs.Stages.{Onward}
use Rattle.mode_reports.specs.Traces.{Judges, Parts, ReadsTrace, Splits, answer_of}
use Rattle.mode_reports.proofs.Stages.{One}

-- ---- the parts of a source

one_parts : (all : List ℕ) (p q : Parts) → Divides all p.text p.trace → Divides all q.text q.trace → p ≡ q
one_parts all p q h k =
    let one = sources_divide_once all in
    let a = one.only p.text p.trace h in
    let b = one.only q.text q.trace k in
    let text : p.text ≡ q.text = a.0 ∙ sym b.0 in
    let trace : p.trace ≡ q.trace = a.1 ∙ sym b.1 in
    ap (λ (x : List ℕ). record { text = x; trace = p.trace }) text
    ∙ ap (λ (x : List ℕ). record { text = q.text; trace = x }) trace

pub one_split : (all : List ℕ) → One (Splits all)
one_split all (Ok p) (Ok q) h k = ap (λ (x : Parts). Ok x) (one_parts all p q h.0 k.0)
one_split all (Ok p) (Err g) h k =
    let e = ap (λ (x : Parts). length x.text) (one_parts all p k.1.0 h.0 k.1.1) in
    let short = h.1 in
    let long = k.1.2 in
    absurd (omega (arith, e, short, long))
one_split all (Err f) (Ok q) h k =
    let e = ap (λ (x : Parts). length x.text) (one_parts all q h.1.0 k.0 h.1.1) in
    let short = k.1 in
    let long = h.1.2 in
    absurd (omega (arith, e, short, long))
one_split all (Err f) (Err g) h k = ap (λ (x : Refusal). Err x) (h.0 ∙ sym k.0)

pub some_split : (all : List ℕ) → (found : Result Parts Refusal) × Splits all found
some_split all = go (nat_le (length one.text) most_bytes) refl
  where
    one : DividesOnce all
    one = sources_divide_once all

    parts : Parts
    parts = record { text = one.text; trace = one.trace }

    go : (b : Bool) → nat_le (length one.text) most_bytes ≡ b → (found : Result Parts Refusal) × Splits all found
    go true is = (Ok parts, (one.divides, grind (arith, rules)))
    go false is = (Err refusals.TooLong, (refl, (parts, one.divides, grind (arith, rules))))

-- ---- the trace and its verdict

same_answer : (v u : Verdict) → SameVerdict v u → answer_of v ≡ answer_of u
same_answer verdict.Yes verdict.Yes h = refl
same_answer verdict.Yes (verdict.No q stated c) h = absurd h
same_answer (verdict.No r stated c) verdict.Yes h = absurd h
same_answer (verdict.No r stated c) (verdict.No q stated' d) h = ap (λ (x : Path). Err (refusals.Differs x)) h.0

module _ (w : Words) (p : ProgramTree) (accepted : IsAccepted p) (bytes : List ℕ) where
  one_judged : (a b : Answer) (t u : Trace) → IsTextOf bytes t → IsTextOf bytes u
      → Judges (setting w p) w.fuel t a → Judges (setting w p) w.fuel u b → a ≡ b
  one_judged a b t u h k x y =
      x.2 ∙ same_answer x.0 y.0 (text_has_one (setting w p) w.fuel accepted bytes t u x.0 y.0 h k x.1 y.1) ∙ sym y.2

  pub one_audited : One (AuditsTrace w bytes p)
  one_audited a b h k = go h.0 k.0 h.1 k.1 h.2 k.2
    where
      go : (x y : Result Trace Refusal) → ReadsTrace bytes x → ReadsTrace bytes y
          → Onward (Judges (setting w p) w.fuel) x a → Onward (Judges (setting w p) w.fuel) y b → a ≡ b
      go (Ok t) (Ok u) r s on on2 = one_judged a b t u r s on on2
      go (Ok t) (Err g) r s on on2 = absurd (fault_is_no_text bytes s.0 s.1 (t, r))
      go (Err f) (Ok u) r s on on2 = absurd (fault_is_no_text bytes r.0 r.1 (u, s))
      go (Err f) (Err g) r s on on2 =
          on
          ∙ ap (λ (x : Refusal). Err x)
          (r.2 ∙ ap (λ (n : ℕ). refusals.Trace n) (one_fault bytes r.0 s.0 r.1 s.1) ∙ sym s.2)
          ∙ sym on2

  pub some_audited : (a : Answer) × AuditsTrace w bytes p a
  some_audited = go (each_is_read_or_fails bytes)
    where
      go : IsTraceText bytes ⊎ ((at : ℕ) × IsFirstFault bytes at) → (a : Answer) × AuditsTrace w bytes p a
      go (inl h) =
          let one = each_has_one (setting w p) w.fuel accepted h.0 in
          (answer_of one.verdict_is, (Ok h.0, h.1, (one.verdict_is, one.is, refl)))
      go (inr h) = (Err (refusals.Trace h.0), (Err (refusals.Trace h.0), (h.0, h.1, refl), refl))
