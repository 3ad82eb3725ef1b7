-- Each program has a trace, and all its traces have one text.
use Rattle.std.proofs.Common.{◌≡◌, ◌∙◌, refl, sym, subst, ap, List, [], ◌∷◌, ℕ}
use Rattle.std.specs.Prelude.{◌++◌, map, Option, Some, None}
use Rattle.std.specs.List.{flat_map}
use Rattle.rev_num.specs.Path.{Path}
use Rattle.revision_machine.specs.Machine.{Complete, Global, Live, Reached, Twice}
use Rattle.revision_machine.proofs.Ends.{unique_end}
use Rattle.revision_calculus.specs.Program.{Setting}
use Rattle.revision_calculus.specs.State.{Local}
use Rattle.revision_calculus.specs.Calculus.{calculus, main}
use Rattle.revision_calculus.specs.Complete.{start_of}
use Rattle.revision_calculus.specs.Kinded.{IsAccepted}
use Rattle.revision_calculus.proofs.Meets.{counts}
use Rattle.revision_calculus.proofs.Outcomes.{one_outcome}
use Rattle.trace_diagram.specs.Shown.{shown_part}
use Rattle.trace_diagram.proofs.OneText.{lines_shown}
use Rattle.trace_diagram.specs.Traces.{ended, first_line, part_lines, trace_text}
use Rattle.trace_diagram.specs.declared.diagram.Part.{Part}
use Rattle.trace_diagram.specs.declared.diagram.Trace.{Trace}
use Rattle.audit_rules.specs.Traces.{InPostOrder, IsTrace, SameTrace}
use Rattle.audit_rules.specs.Traced.{HasTrace, IsTraceAt}
use Rattle.audit_rules.proofs.FinalTraces.{end_has_trace}
use Rattle.audit_rules.proofs.TracesAsParts.{trace_has_yes, yes_tells}
use Rattle.mode_reports.specs.Traces.{text_of}

-- ---- there is one

module _ (s : Setting) (fuel : ℕ) where
  here : Reached (calculus s) (main s fuel) (start_of s fuel)
  here = record { by = []; runs = refl }

  some_at : (g : Global Local) (rs : List Path) → Complete (calculus s) (start_of s fuel) rs g
      → (t : Option Trace) × IsTraceAt s t g
  some_at Twice rs c = (None, refl)
  some_at (Live revs) rs c =
      let ps = end_has_trace s fuel rs (Live revs) c (λ is. cc) in (Some (record { parts = ps.0 }), ps.1)

  pub some_trace : (t : Option Trace) × HasTrace s fuel t
  some_trace =
      let o = (one_outcome s fuel).has in
      let t = some_at o.end o.by o.complete in (
        t.0,
        record {
          by = o.by;
          end = o.end;
          complete = o.complete;
          each = λ rs g c.
              subst (λ (h : Global Local). IsTraceAt s t.0 h)
              (unique_end (calculus s) (main s fuel) (counts s) (start_of s fuel) o.end g o.by rs here o.complete c)
              t.1;
        },
      )

-- ---- a text does not tell the number of a merge's location

all_told : (ps : List Part) → flat_map part_lines (map shown_part ps) ≡ flat_map part_lines ps
all_told [] = refl
all_told (p ∷ ps) =
    ap (λ (x : List (List ℕ)). x ++ flat_map part_lines (map shown_part ps)) (lines_shown p)
    ∙ ap (λ (x : List (List ℕ)). part_lines p ++ x) (all_told ps)

same_text : (t u : Trace) → SameTrace t.parts u.parts → trace_text t ≡ trace_text u
same_text t u same =
    ap (λ (ls : List (List ℕ)). flat_map ended (first_line ∷ ls))
    (sym (all_told t.parts) ∙ ap (λ (ps : List Part). flat_map part_lines ps) same ∙ all_told u.parts)

-- ---- there is one at most

module _ (s : Setting) (fuel : ℕ) (accepted : IsAccepted s.program) where
  order : (g : Global Local) (ps : List Part) → IsTrace s g ps → InPostOrder ps
  order Twice ps h = absurd h
  order (Live revs) ps h = h.0

  none_at : (g : Global Local) (ps : List Part) → g ≡ Twice → IsTrace s g ps → ⊥
  none_at Twice ps is h = h
  none_at (Live revs) ps is h = cc

  one_at : (t u : Option Trace) (g : Global Local) (rs : List Path) → Complete (calculus s) (start_of s fuel) rs g
      → IsTraceAt s t g → IsTraceAt s u g → text_of t ≡ text_of u
  one_at None None g rs c h k = refl
  one_at None (Some u) g rs c h k = absurd (none_at g u.parts h k)
  one_at (Some t) None g rs c h k = absurd (none_at g t.parts k h)
  one_at (Some t) (Some u) g rs c h k =
      let says = trace_has_yes s fuel accepted rs g t.parts t.parts c h refl in
      same_text t u ((yes_tells s fuel accepted t.parts (order g t.parts h) says rs g c).only u.parts k)

  pub one_trace : (t u : Option Trace) → HasTrace s fuel t → HasTrace s fuel u → text_of t ≡ text_of u
  one_trace t u h k = one_at t u h.end h.by h.complete (h.each h.by h.end h.complete) (k.each h.by h.end h.complete)
