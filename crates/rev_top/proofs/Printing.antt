-- A run of a program that keeps the affine rule, whose text goes to `out` as it runs.
use Rattle.std.proofs.Common.{◌≡◌, ◌∙◌, refl, sym, subst, ap, List, ℕ, ℤ, false}
use Rattle.std.specs.Prelude.{IsErrAnd, Some, Result, Ok, Err}
use Rattle.std.proofs.lemmas.List.{append-nil}
use Rattle.rev_io.specs.Stream.{Stream, Took, TookSome}
use Rattle.rev_num.specs.declared.outcome.Outcome.{Outcome}
use Rattle.rev_num.specs.declared.outcome.Outcome.TheVariants as o
use Rattle.rev_words.specs.declared.Words.{Words}
use Rattle.rev_report.specs.Outcome.{report}
use Rattle.rev_syntax.specs.Trees.{ProgramTree}
use Rattle.rev_code.specs.declared.code.Code.{Code}
use Rattle.revision_calculus.specs.Kinded.{IsAccepted}
use Rattle.revision_calculus.specs.Complete.{HasOutcome}
use Rattle.code_generation.specs.Generated.{code_of}
use Rattle.code_machine.specs.Local.{CodeRun}
use Rattle.code_machine_laws.specs.Outcomes.{HasOutcome as HasCodeOutcome}
use Rattle.code_machine_laws.proofs.Outcomes.{each_has_one}
use Rattle.generated_blocks.proofs.Accepted.{code_accepted}
use Rattle.code_machine_laws.specs.Texts.{NeverJoinsTwice, said}
use Rattle.program_code.specs.Never.{AffineCode}
use Rattle.affine_check.specs.Affine.{IsAffine}
use Rattle.program_meaning.proofs.Outcomes.{of_program}
use Rattle.revision_calculus.proofs.Outcomes.{one_outcome}
use Rattle.world_streams.specs.Streamed as run
use Rattle.world_streams.specs.declared.fault.StreamFault.{StreamFault}
use Rattle.world_streams.specs.declared.fault.StreamFault.TheVariants as stream
use Rattle.mode_reports.specs.Answer.{code_run, setting}
use Rattle.rev_top.specs.Streaming.{Streamed, StreamsOutcome}

-- the report without the values has the text of the outcome
pub report_says : (end : Outcome) → said end ≡ (report false end).out
report_says (o.Done text values) = sym (append-nil text)
report_says (o.Trapped text values t) = sym (append-nil text)
report_says o.Twice = refl

-- nothing was taken
pub untouched : (old : Stream) (bytes : List ℕ) → TookSome old bytes old
untouched old bytes held told = (0, told ∙ ap (λ (xs : List ℕ). Some xs) (sym (append-nil held)))

module _ (w : Words) (p : ProgramTree) (accepted : IsAccepted p) where
  -- before there is code to run
  pub not_begun : (old : Stream) (r : Result Outcome StreamFault) → IsErrAnd r (λ f. f ≡ stream.OutOfMemory)
      → StreamsOutcome w p old old r
  not_begun old (Ok x) never end has = absurd never
  not_begun old (Err f) e end has =
      subst (λ (x : StreamFault). Streamed end old old (Err x)) (sym e) (refl, untouched old (report false end).out)

  module _ (c : Code) (inputs : List ℤ) (is : c ≡ code_of p) (same : inputs ≡ w.numbers) where
    abbrev made : CodeRun
    made = record { code = c; inputs = inputs; share = w.share }

    is_made : code_run w (code_of p) ≡ made
    is_made =
        ap (λ (x : Code). code_run w x) (sym is)
        ∙ ap (λ (n : List ℤ). record { code = c; inputs = n; share = w.share }) (sym same)

    pub never : AffineCode → IsAffine p → NeverJoinsTwice made w.fuel
    never law affine =
        subst (λ (g : CodeRun). NeverJoinsTwice g w.fuel) is_made (law (setting w p) accepted affine w.fuel)

    -- the outcome of the code is that of the program
    only : (x end : Outcome) → HasCodeOutcome made w.fuel x → HasOutcome (setting w p) w.fuel end → x ≡ end
    only x end code has =
        let one = one_outcome (setting w p) w.fuel in
        let own =
        of_program (setting w p) accepted w.fuel x
        (subst (λ (g : CodeRun). HasCodeOutcome g w.fuel x) (sym is_made) code) in
        one.only x own ∙ sym (one.only end has)

    -- and the code has it
    has_code : (end : Outcome) → HasOutcome (setting w p) w.fuel end → HasCodeOutcome made w.fuel end
    has_code end has =
        let one = each_has_one (code_run w (code_of p)) (code_accepted p accepted) w.fuel in
        let own = subst (λ (g : CodeRun). HasCodeOutcome g w.fuel one.is) is_made one.has in
        subst (λ (x : Outcome). HasCodeOutcome made w.fuel x) (only one.is end own has) own

    pub streams : (old new : Stream) (r : Result Outcome StreamFault) → run.Streamed made w.fuel old new r
        → StreamsOutcome w p old new r
    streams old new (Ok x) h end has =
        let e = only x end h.0 has in
        (e, subst (λ (xs : List ℕ). Took old xs new) (ap said e ∙ report_says end) h.1)
    streams old new (Err stream.Sink) h end has =
        (h.0, subst (λ (xs : List ℕ). TookSome old xs new) (report_says end) (h.1 end (has_code end has)))
    streams old new (Err stream.OutOfMemory) h end has =
        (h.0, subst (λ (xs : List ℕ). TookSome old xs new) (report_says end) (h.1 end (has_code end has)))
