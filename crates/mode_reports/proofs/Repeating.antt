-- What a recorded and a repeated run of a program's code tell of the program.
use Rattle.std.proofs.Common.{◌≡◌, subst, List}
use Rattle.std.specs.Prelude.{ℤ, IfOk, Result, Ok, Err}
use Rattle.rev_syntax.specs.View.{program as whole}
use Rattle.typed_programs.specs.declared.typed.Typed.{Typed}
use Rattle.rev_words.specs.declared.Words.{Words}
use Rattle.rev_code.specs.declared.code.Code.{Code}
use Rattle.code_generation.specs.Generated.{code_of}
use Rattle.code_machine.specs.Local.{CodeRun}
use Rattle.code_memos.specs.Leaf.{Known}
use Rattle.rev_record.specs.declared.repeats.RepeatedRun.{RepeatedRun}
use Rattle.rev_record.specs.Memos.{IsMemoOf, Reuses}
use Rattle.rev_record.specs.declared.memo.Memo.{Memo}
use Rattle.revision_calculus.specs.Complete.{HasOutcome}
use Rattle.rev_record.specs.MemoLaws.{MemoIn, ReusedIn}
use Rattle.mode_reports.specs.Answer.{code_run, code_run_before, setting}
use Rattle.mode_reports.proofs.CodeRuns.{Runs, ran}

module _ (w : Words) (t : Typed) where
  abbrev own_code : Code
  own_code = code_of (whole t.expanded.program)

  abbrev run_of : Code → List ℤ → CodeRun
  run_of c inputs = record { code = c; inputs = inputs; share = w.share }

  pub recorded_by : {E : Type 0} (c : Code) (inputs : List ℤ) (r : Result Memo E) → c ≡ own_code → inputs ≡ w.before
      → IfOk r (λ m. IsMemoOf (run_of c inputs) w.fuel m) → IfOk r (λ m. IsMemoOf (code_run_before w own_code) w.fuel m)
  recorded_by c inputs (Ok m) is same h =
      subst (λ (x : Code). IsMemoOf (run_of x w.before) w.fuel m) is
      (subst (λ (n : List ℤ). IsMemoOf (run_of c n) w.fuel m) same h)
  recorded_by c inputs (Err e) is same h = tt

  pub repeated_by : {E : Type 0} (c : Code) (inputs : List ℤ) (r : Result RepeatedRun E) → c ≡ own_code
      → inputs ≡ w.numbers
      → IfOk r (λ x. Runs w t c inputs x.outcome)
      → IfOk r (λ x. HasOutcome (setting w (whole t.expanded.program)) w.fuel x.outcome)
  repeated_by {E = E} c inputs (Ok x) is same h = ran w t {E = E} c inputs (Ok x.outcome) is same h
  repeated_by c inputs (Err e) is same h = tt

  -- by the entries of a memo of the run before
  pub reused_by : {E : Type 0} (c : Code) (inputs : List ℤ) (m : Memo) (r : Result RepeatedRun E) → c ≡ own_code
      → inputs ≡ w.numbers
      → (k : IsMemoOf (code_run_before w own_code) w.fuel m)
      → IfOk r (λ x. Reuses (run_of c inputs) w.fuel k.known x.reused)
      → IfOk r (λ x.
      (es : List Known) × MemoIn (code_run_before w own_code) w.fuel es
      × ReusedIn (code_run w own_code) w.fuel es x.reused)
  reused_by c inputs m (Ok x) is same k h =
      let moved : Reuses (code_run w own_code) w.fuel k.known x.reused =
      subst (λ (y : Code). Reuses (run_of y w.numbers) w.fuel k.known x.reused) is
      (subst (λ (n : List ℤ). Reuses (run_of c n) w.fuel k.known x.reused) same h) in (
        k.known,
        record { number = k.number; main = k.main; memo = k.memo },
        record { number = moved.number; main = moved.main; reused = moved.reused },
      )
  reused_by c inputs m (Err e) is same k h = tt
