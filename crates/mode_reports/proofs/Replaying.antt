-- A schedule of a program's code is legal or at fault, once.
use Rattle.std.proofs.Common.{◌≡◌, ◌∙◌, ◌⊎◌, inl, inr, refl, sym, subst, ap, ap₂, List, ℕ, ℤ}
use Rattle.std.specs.Prelude.{Some, Result, Ok, Err}
use Rattle.rev_num.specs.declared.outcome.Outcome.{Outcome}
use Rattle.rev_words.specs.declared.Words.{Words}
use Rattle.rev_report.specs.Outcome.{report}
use Rattle.rev_report.specs.Report.{Output, output}
use Rattle.rev_syntax.specs.Trees.{ProgramTree}
use Rattle.rev_report.specs.Refusals.{status_of}
use Rattle.rev_report.specs.declared.refusal.Refusal.{Refusal}
use Rattle.rev_report.specs.declared.refusal.Refusal.TheVariants as refusals
use Rattle.revision_calculus.specs.Kinded.{IsAccepted}
use Rattle.revision_machine.specs.Numbered.{World}
use Rattle.rev_code.specs.declared.code.Code.{Code}
use Rattle.code_generation.specs.Generated.{code_of}
use Rattle.code_machine.specs.Local.{CodeRun, IsVerified, Local}
use Rattle.code_machine_laws.specs.Outcomes.{HasOutcome as HasCodeOutcome}
use Rattle.generated_blocks.proofs.Accepted.{code_accepted}
use Rattle.world_runs.specs.Replay.{IsIllegal, StopsAt}
use Rattle.world_runs.specs.declared.replaying.ReplayFault.{ReplayFault}
use Rattle.world_runs.specs.declared.replaying.ReplayFault.TheVariants as faults
use Rattle.code_runs.specs.Schedules.{IsLegal}
use Rattle.code_runs.proofs.Schedules.{each_is_legal_or_stops, legal_never_stops, one_stop, world_is_one}
use Rattle.program_meaning.proofs.Outcomes.{of_program}
use Rattle.mode_reports.specs.Answer.{Replays, code_run, setting}
use Rattle.mode_reports.specs.Schedules.{ReplaysCode, report_of_replay}
use Rattle.mode_reports.specs.Stops.{Meets, stop_of}
use Rattle.mode_reports.specs.declared.stop.Stop.{Stop}
use Rattle.mode_reports.proofs.Stages.{One, refuses}

-- how a replay of the program's code is answered
module _ (w : Words) (p : ProgramTree) (c : Code) (inputs : List ℤ) (schedule : List ℕ) (is : c ≡ code_of p)
    (same : inputs ≡ w.numbers) (own : schedule ≡ w.schedule) where
  abbrev made : CodeRun
  made = record { code = c; inputs = inputs; share = w.share }

  -- what holds of the code that was made holds of the program's code
  of_code : (P : CodeRun → Type 0) → P made → P (code_run w (code_of p))
  of_code P h =
      subst (λ (x : Code). P (code_run w x)) is
      (subst (λ (n : List ℤ). P (record { code = c; inputs = n; share = w.share })) same h)

  pub is_written : IsAccepted p → (o : Outcome) (x : Output) → IsLegal made w.fuel schedule
      → HasCodeOutcome made w.fuel o → x ≡ report w.values o → Replays w p (Ok x)
  is_written accepted o x legal has e =
      let l = of_code (λ (g : CodeRun). IsLegal g w.fuel w.schedule)
      (subst (λ (ns : List ℕ). IsLegal made w.fuel ns) own legal) in (
        Ok l.0,
        l.1,
        (
          o,
          of_program (setting w p) accepted w.fuel o (of_code (λ (g : CodeRun). HasCodeOutcome g w.fuel o) has),
          ap (λ (y : Output). Ok y) e,
        ),
      )

  pub is_refused : (f : ReplayFault) (e : Stop) → e ≡ stop_of (report_of_replay f) → IsIllegal made w.fuel schedule f
      → Meets output (Err e) (Replays w p)
  is_refused f e told h =
      refuses report_of_replay faults.OutOfMemory refl (IsIllegal (code_run w (code_of p)) w.fuel w.schedule)
      (Replays w p)
      (λ r reports. (Err r, reports, refl)) output f e told
      (λ other.
      of_code (λ (g : CodeRun). IsIllegal g w.fuel w.schedule f)
      (subst (λ (ns : List ℕ). IsIllegal made w.fuel ns f) own h))

-- the code of a program that keeps all rules is verified
pub program_verified : (w : Words) (p : ProgramTree) → IsAccepted p → IsVerified (code_run w (code_of p))
program_verified w p accepted = code_accepted p accepted

module _ (g : CodeRun) (fuel : ℕ) (ns : List ℕ) where
  -- a refusal names a first entry without a leg
  record Names (r : Refusal) : Type 0 where
    at : ℕ
    revision : ℕ
    stops : StopsAt g fuel ns at revision
    is : r ≡ refusals.Schedule at revision

  names : (r : Refusal) → ReplaysCode g fuel ns (Err r) → Names r
  names r h = go h.fault h.comes h.reported
    where
      go : (f : ReplayFault) → IsIllegal g fuel ns f → report_of_replay f ≡ Some r → Names r
      go (faults.Illegal at revision) stops told =
          record {
            at = at;
            revision = revision;
            stops = stops;
            is = (let same : refusals.Schedule at revision ≡ r = cc in sym same);
          }
      go faults.OutOfMemory stops told = cc

  pub replay_refused : (r : Refusal) → ReplaysCode g fuel ns (Err r) → status_of r ≡ 2
  replay_refused r h = ap status_of (names r h).is

  module _ (ok : IsVerified g) where
    pub one_replay : One (ReplaysCode g fuel ns)
    one_replay (Ok w) (Ok v) h k = ap (λ (x : World (Local ℕ)). Ok x) (world_is_one g ok fuel ns w v h k)
    one_replay (Ok w) (Err r) h k =
        let s = names r k in absurd (legal_never_stops g ok fuel ns (w, h) s.at s.revision s.stops)
    one_replay (Err r) (Ok w) h k =
        let s = names r h in absurd (legal_never_stops g ok fuel ns (w, k) s.at s.revision s.stops)
    one_replay (Err r) (Err q) h k =
        let s = names r h in
        let t = names q k in
        let same = one_stop g ok fuel ns s.at s.revision s.stops t.at t.revision t.stops in
        ap (λ (x : Refusal). Err x) (s.is ∙ ap₂ (λ (a n : ℕ). refusals.Schedule a n) same.0 same.1 ∙ sym t.is)

    pub some_replay : (found : Result (World (Local ℕ)) Refusal) × ReplaysCode g fuel ns found
    some_replay = go (each_is_legal_or_stops g ok fuel ns)
      where
        go : IsLegal g fuel ns ⊎ ((at revision : ℕ) × StopsAt g fuel ns at revision)
            → (found : Result (World (Local ℕ)) Refusal) × ReplaysCode g fuel ns found
        go (inl h) = (Ok h.0, h.1)
        go (inr s) =
            (Err (refusals.Schedule s.0 s.1), record { fault = faults.Illegal s.0 s.1; comes = s.2; reported = refl })
