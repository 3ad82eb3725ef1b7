-- By which kernels the run was planned: what each function of the call hands on of it.
use Rattle.std.proofs.Common.{◌∙◌, refl, subst, sym, Vec, Global, ℕ, List}
use Rattle.std.specs.Prelude.{◌≡◌, IfOk, Option, Some, None, Result, Ok, Err}
use Rattle.rev_io.specs.Stream.{Stream}
use Rattle.rev_words.specs.declared.Mode.{Mode}
use Rattle.rev_words.specs.declared.Words.{Words}
use Rattle.rev_report.specs.declared.report.Report.{Report}
use Rattle.rev_syntax.specs.Trees.{Expression, ProgramTree}
use Rattle.typed_programs.specs.Layout.{variables}
use Rattle.revision_calculus.specs.Join.{merges_of}
use Rattle.kernel_choices.specs.Choices.{AreChoices}
use Rattle.thread_runs.specs.declared.ran.Ran.{Ran}
use Rattle.mode_reports.specs.Answer.{Given, reads_of}
use Rattle.rev_top.specs.Kernels.{HasChosen, HasChosenIn, KernelsOf, text_of}
use Rattle.rev_top.specs.Making.{without_run}
use Rattle.mode_reports.specs.Texts.{Checks}
use Rattle.rev_top.specs.declared.made.Made.{Made}
use Rattle.mode_reports.specs.declared.stop.Stop.{Stop}

-- a run hands out the choices of the plan that was made of these
pub run_planned : {E : Type 0} (p : ProgramTree) (kernels : List Expression) (choices planned : Vec (Option ℕ) Global)
    → AreChoices p kernels (merges_of (variables p)) choices.items → planned ≡ choices
    → (r : Result Ran E) → IfOk r (λ x. x.choices ≡ planned) → IfOk r (λ x. HasChosen p kernels (Some x))
run_planned p kernels choices planned are same (Ok x) is =
    subst (λ (v : Vec (Option ℕ) Global). AreChoices p kernels (merges_of (variables p)) v.items) (sym (is ∙ same)) are
run_planned p kernels choices planned are same (Err e) is = tt

-- a program that was checked is that of its text
pub of_text : (text : List ℕ) (p : ProgramTree) (kernels : List Expression) → Checks text (Ok p)
    → (r : Result Made Stop) → IfOk r (λ m. HasChosen p kernels m.ran) → IfOk r (λ m. HasChosenIn text kernels m.ran)
of_text text p kernels checked (Ok m) h = go m.ran h
  where
    go : (ran : Option Ran) → HasChosen p kernels ran → HasChosenIn text kernels ran
    go (Some r) chosen = record { program = p; checked = checked; chosen = chosen }
    go None nothing = tt
of_text text p kernels checked (Err e) h = tt

-- the text of this mode
pub in_mode : (w : Words) (read : List ℕ) (kernels : List Expression) (r : Result Made Stop) (m m' : Mode) → m ≡ m'
    → IfOk r (λ x. HasChosenIn (text_of m' w read) kernels x.ran)
    → IfOk r (λ x. HasChosenIn (text_of m w read) kernels x.ran)
in_mode w read kernels r m m' is =
    subst (λ (x : Mode). IfOk r (λ y. HasChosenIn (text_of x w read) kernels y.ran)) (sym is)

-- a report without a run
pub without : (text : List ℕ) (kernels : List Expression) (report : Result Report Stop) (r : Result Made Stop)
    → r ≡ without_run report → IfOk r (λ m. HasChosenIn text kernels m.ran)
without text kernels (Ok o) r is = subst (λ x. IfOk x (λ m. HasChosenIn text kernels m.ran)) (sym is) tt
without text kernels (Err e) r is = subst (λ x. IfOk x (λ m. HasChosenIn text kernels m.ran)) (sym is) tt

-- the source gave the text
pub of_call : (w : Words) (old new : Stream) (kernels : List Expression) (read : List ℕ)
    → Given (reads_of w.mode) old new (Ok read) → (r : Result Made Stop)
    → IfOk r (λ m. HasChosenIn (text_of w.mode w read) kernels m.ran)
    → IfOk r (λ m. KernelsOf (Some w) old new kernels m.ran)
of_call w old new kernels read given (Ok m) h = go m.ran h
  where
    go : (ran : Option Ran) → HasChosenIn (text_of w.mode w read) kernels ran → KernelsOf (Some w) old new kernels ran
    go (Some r) planned = record { word = w; said_by = refl; read = read; given = given; planned = planned }
    go None nothing = tt
of_call w old new kernels read given (Err e) h = tt
