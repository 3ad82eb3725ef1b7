-- The outcome and the trace of a program's code are those of the program.
use Rattle.std.proofs.Common.{◌≡◌, subst, List, ℤ}
use Rattle.std.specs.Prelude.{IfOk, Option, Result, Ok, Err}
use Rattle.rev_num.specs.declared.outcome.Outcome.{Outcome}
use Rattle.rev_syntax.specs.View.{program as whole}
use Rattle.typed_programs.specs.declared.typed.Typed.{Typed}
use Rattle.rev_words.specs.declared.Words.{Words}
use Rattle.rev_code.specs.declared.code.Code.{Code}
use Rattle.code_generation.specs.Generated.{code_of}
use Rattle.code_machine_laws.specs.Outcomes as code
use Rattle.revision_calculus.specs.Complete.{HasOutcome}
use Rattle.program_meaning.proofs.Outcomes.{of_program}
use Rattle.trace_diagram.specs.declared.diagram.Trace.{Trace}
use Rattle.audit_rules.specs.Traced.{HasTrace}
use Rattle.code_traces.specs.Traced as code_trace
use Rattle.code_traces.specs.declared.running.TracedRun.{TracedRun}
use Rattle.code_traces.proofs.Tracing as tracing
use Rattle.mode_reports.specs.Answer.{setting}

module _ (w : Words) (t : Typed) where
  abbrev pub Runs : Code → List ℤ → Outcome → Type 0
  Runs c inputs o = code.HasOutcome (record { code = c; inputs = inputs; share = w.share }) w.fuel o

  pub ran : {E : Type 0} (c : Code) (inputs : List ℤ) (r : Result Outcome E) → c ≡ code_of (whole t.expanded.program)
      → inputs ≡ w.numbers
      → IfOk r (λ o. Runs c inputs o) → IfOk r (λ o. HasOutcome (setting w (whole t.expanded.program)) w.fuel o)
  ran c inputs (Ok o) is same h =
      of_program (setting w (whole t.expanded.program))
      (record { small = t.expanded.small; funs = t.expanded.keeps_rules; rules = t.well_typed }) w.fuel o
      (subst (λ (x : Code). Runs x w.numbers o) is (subst (λ (n : List ℤ). Runs c n o) same h))
  ran c inputs (Err e) is same h = tt

  -- the same of the outcome of a run that is traced
  pub traced_by : {E : Type 0} (c : Code) (inputs : List ℤ) (r : Result TracedRun E)
      → c ≡ code_of (whole t.expanded.program) → inputs ≡ w.numbers
      → IfOk r (λ x. Runs c inputs x.outcome)
      → IfOk r (λ x. HasOutcome (setting w (whole t.expanded.program)) w.fuel x.outcome)
  traced_by {E = E} c inputs (Ok x) is same h = ran {E = E} c inputs (Ok x.outcome) is same h
  traced_by c inputs (Err e) is same h = tt

  abbrev pub Leaves : Code → List ℤ → Option Trace → Type 0
  Leaves c inputs x = code_trace.HasTrace (record { code = c; inputs = inputs; share = w.share }) w.fuel x

  pub traced : {E : Type 0} (c : Code) (inputs : List ℤ) (r : Result TracedRun E)
      → c ≡ code_of (whole t.expanded.program) → inputs ≡ w.numbers
      → IfOk r (λ x. Leaves c inputs x.trace)
      → IfOk r (λ x. HasTrace (setting w (whole t.expanded.program)) w.fuel x.trace)
  traced c inputs (Ok x) is same h =
      tracing.of_program (setting w (whole t.expanded.program))
      (record { small = t.expanded.small; funs = t.expanded.keeps_rules; rules = t.well_typed }) w.fuel x.trace
      (subst (λ (y : Code). Leaves y w.numbers x.trace) is (subst (λ (n : List ℤ). Leaves c n x.trace) same h))
  traced c inputs (Err e) is same h = tt
