-- Traces that are the same by their texts have verdicts that say the same.
use Rattle.std.proofs.Common.{◌≡◌, ℕ, List, Option, Some, None, refl, sym, ◌∙◌, subst}
use Rattle.revision_calculus.specs.Program.{Setting}
use Rattle.revision_calculus.specs.Calculus.{main, calculus}
use Rattle.revision_calculus.specs.Kinded.{IsAccepted}
use Rattle.trace_diagram.specs.declared.diagram.Part.{Part}
use Rattle.trace_diagram.specs.declared.diagram.Trace.{Trace}
use Rattle.audit_rules.specs.Parts.{calculus_parts}
use Rattle.audit_rules.specs.Traces.{Always, SameStated, SameTrace, part_at}
use Rattle.audit_rules.specs.Verdicts.{Audits}
use Rattle.audit_rules.specs.declared.verdict.Verdict.{Verdict}
use Rattle.audit_rules.specs.declared.verdict.Verdict.TheVariants as verdict
use Rattle.audit_rules.proofs.CalculusMeets.{tells}
use Rattle.audit_rules.proofs.TracesAsParts.{lists_alike}
use Rattle.audit_rules.proofs.Verdicts.{each_has_one}
use Rattle.program_texts.specs.Verdicts.{EachTextHasOne, SameTracesHaveSame, SameVerdict, TextsHaveOneVerdict}
use Rattle.program_texts.proofs.Carried.{Alike, AllAlike, TellsByText, no_carried, yes_carried}
use Rattle.program_texts.proofs.OneTrace.{same_trace}

alike_by_text : (s : Setting) (fuel : ℕ) (o u : Option Part) → SameStated o u
    → Alike (calculus s) (calculus_parts s fuel) o u
alike_by_text s fuel None None h = tt
alike_by_text s fuel None (Some q) h = h
alike_by_text s fuel (Some p) None h = h
alike_by_text s fuel (Some p) (Some q) h = h

by_text : (s : Setting) (fuel : ℕ) → IsAccepted s.program → TellsByText (calculus s) (calculus_parts s fuel)
by_text s fuel well = let h = tells s fuel well in record { takes = h.takes-same; joins = h.joins-same }

all_alike : (s : Setting) (fuel : ℕ) (ps qs : List Part) → SameTrace ps qs
    → AllAlike (calculus s) (calculus_parts s fuel) (part_at ps) (part_at qs)
all_alike s fuel ps qs e r = alike_by_text s fuel (part_at ps r) (part_at qs r) (lists_alike ps qs e r)

-- a verdict of the one, as a verdict of the other
there : List Part → Verdict → Verdict
there ps verdict.Yes = verdict.Yes
there ps (verdict.No r stated c) = verdict.No r (part_at ps r) c

carried : (s : Setting) (fuel : ℕ) → IsAccepted s.program → (t t' : Trace) (v : Verdict) → SameTrace t.parts t'.parts
    → Audits s fuel t v → Audits s fuel t' (there t'.parts v)
unfolding there
carried s fuel well t t' verdict.Yes e h =
    yes_carried (calculus s) (calculus_parts s fuel) (by_text s fuel well) (part_at t.parts) (part_at t'.parts)
    (main s fuel) (all_alike s fuel t.parts t'.parts e) h
carried s fuel well t t' (verdict.No r stated c) e h =
    no_carried (calculus s) (calculus_parts s fuel) (by_text s fuel well) (part_at t.parts) (part_at t'.parts)
    (main s fuel) (all_alike s fuel t.parts t'.parts e) r stated _ h

same_there : (s : Setting) (fuel : ℕ) (t t' : Trace) (v : Verdict) → SameTrace t.parts t'.parts → Audits s fuel t v
    → SameVerdict v (there t'.parts v)
unfolding there
same_there s fuel t t' verdict.Yes e h = tt
same_there s fuel t t' (verdict.No r stated c) e h =
    (refl, subst (λ v. SameStated v (part_at t'.parts r)) h.states (lists_alike t.parts t'.parts e r), refl)

pub same_verdict : Always SameTracesHaveSame
same_verdict s fuel well t t' v v' e h k =
    let one = each_has_one s fuel well t' in
    let is : there t'.parts v ≡ v' =
    one.only (there t'.parts v) (carried s fuel well t t' v e h) ∙ sym (one.only v' k) in
    subst (SameVerdict v) is (same_there s fuel t t' v e h)

pub text_has_one : Always TextsHaveOneVerdict
text_has_one s fuel well bytes t t' v v' f g h k = same_verdict s fuel well t t' v v' (same_trace bytes t t' f g) h k

pub each_text_has_one : Always EachTextHasOne
each_text_has_one s fuel well bytes text =
    let one = each_has_one s fuel well text.0 in
    record {
      trace = text.0;
      text = text.1;
      verdict_is = one.verdict_is;
      is = one.is;
      only = λ t v f h. text_has_one s fuel well bytes t text.0 v one.verdict_is f text.1 h one.is;
    }
