-- The run by threads of a program's code: its outcome is that of the program, and it is one of the program's code.
use Rattle.std.proofs.Common.{◌≡◌, sym, subst, map, List, ℕ, ℤ}
use Rattle.std.specs.Prelude.{IfOk, Option, Result, Ok, Err}
use Rattle.rev_syntax.specs.Trees.{Expression}
use Rattle.rev_syntax.specs.View.{program as whole}
use Rattle.typed_programs.specs.declared.typed.Typed.{Typed}
use Rattle.rev_words.specs.declared.Words.{Words}
use Rattle.rev_code.specs.declared.code.Code.{Code}
use Rattle.code_generation.specs.Generated.{code_of}
use Rattle.revision_calculus.specs.Complete.{HasOutcome}
use Rattle.rev_workers.specs.Plans.{IsPlanFor}
use Rattle.thread_runs.specs.declared.ran.Ran.{Ran}
use Rattle.thread_runs.specs.Runs.{IsRunOf}
use Rattle.mode_reports.specs.Answer.{code_run, setting}
use Rattle.mode_reports.proofs.CodeRuns as code_runs

-- the choices and the kernels of a plan are those that it was made of
pub plan_for : {K : Type 0} (seen : K → Expression) (c c' : Code) (cs cs' : List (Option ℕ)) (ks ks' : List K)
    → c' ≡ c → cs' ≡ cs → ks' ≡ ks → IsPlanFor c cs (map seen ks) → IsPlanFor c' cs' (map seen ks')
plan_for {K = K} seen c c' cs cs' ks ks' of_code of_choices of_kernels h =
    subst (λ (x : Code). IsPlanFor x cs' (map seen ks')) (sym of_code)
    (subst (λ (x : List (Option ℕ)). IsPlanFor c x (map seen ks')) (sym of_choices)
    (subst (λ (x : List K). IsPlanFor c cs (map seen x)) (sym of_kernels) h))

module _ (w : Words) (t : Typed) where
  -- the same of the outcome of a run by threads
  pub ran_by : {E : Type 0} (c : Code) (inputs : List ℤ) (r : Result Ran E) → c ≡ code_of (whole t.expanded.program)
      → inputs ≡ w.numbers
      → IfOk r (λ x. code_runs.Runs w t c inputs x.outcome)
      → IfOk r (λ x. HasOutcome (setting w (whole t.expanded.program)) w.fuel x.outcome)
  ran_by {E = E} c inputs (Ok x) is same h = code_runs.ran w t {E = E} c inputs (Ok x.outcome) is same h
  ran_by c inputs (Err e) is same h = tt

  pub ran_of : {E : Type 0} (c : Code) (inputs : List ℤ) (r : Result Ran E) → c ≡ code_of (whole t.expanded.program)
      → inputs ≡ w.numbers
      → IfOk r (λ x. IsRunOf (record { code = c; inputs = inputs; share = w.share }) w.fuel x)
      → IfOk r (λ x. IsRunOf (code_run w (code_of (whole t.expanded.program))) w.fuel x)
  ran_of c inputs (Ok x) is same h =
      subst (λ (y : Code). IsRunOf (record { code = y; inputs = w.numbers; share = w.share }) w.fuel x) is
      (subst (λ (n : List ℤ). IsRunOf (record { code = c; inputs = n; share = w.share }) w.fuel x) same h)
  ran_of c inputs (Err e) is same h = tt
