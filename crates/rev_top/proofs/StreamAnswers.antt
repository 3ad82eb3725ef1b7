-- What happened in a call that prints as it runs, or whose words have no reading.
use Rattle.std.proofs.Common.{◌≡◌, inl, inr, refl, sym, subst, ap, List, ℕ, false}
use Rattle.std.specs.Prelude.{Option, Some, None, Result, Ok, Err}
use Rattle.rev_io.specs.Stream.{Stream}
use Rattle.rev_num.specs.declared.outcome.Outcome.{Outcome}
use Rattle.rev_words.specs.Answer.{Gives}
use Rattle.rev_words.specs.declared.Mode.{Mode}
use Rattle.rev_words.specs.declared.Mode.TheVariants as modes
use Rattle.rev_words.specs.declared.Words.{Words}
use Rattle.rev_words.specs.declared.fault.WordsFault.{WordsFault}
use Rattle.rev_words.specs.declared.fault.WordsFault.TheVariants as faults
use Rattle.rev_report.specs.Outcome.{report}
use Rattle.rev_report.specs.declared.refusal.Refusal.{Refusal}
use Rattle.rev_report.specs.declared.refusal.Refusal.TheVariants as refusals
use Rattle.rev_syntax.specs.Trees.{ProgramTree}
use Rattle.affine_check.specs.Affine.{IsAffine}
use Rattle.revision_calculus.specs.Complete.{HasOutcome}
use Rattle.mode_reports.specs.Affine.{KeepsAffine, ReadsAffine}
use Rattle.mode_reports.specs.Answer.{Answer, Answers, Given, SaysAs, Streams, reads_of, setting}
use Rattle.mode_reports.specs.declared.sizes.TheConstants.{SOURCE_LIMIT as source_limit}
use Rattle.rev_top.specs.Rans.{Happened, Leaves, answered, goes_by_threads, no_report}
use Rattle.mode_reports.specs.Stages.{Onward, Then}
use Rattle.mode_reports.specs.Stops.{Meets, stop_of_words}
use Rattle.rev_top.specs.Streaming.{DeliversOutcome, DeliversRefusal}
use Rattle.mode_reports.specs.Texts.{Checks}
use Rattle.mode_reports.specs.declared.stop.Stop.{Stop}
use Rattle.mode_reports.specs.declared.stop.Stop.TheVariants as stops

-- ---- from what was read to the answer

module _ (w : Words) (text : List ℕ) where
  says_outcome : (p : ProgramTree) (end : Outcome) → HasOutcome (setting w p) w.fuel end
      → ReadsAffine text (Ok p) → SaysAs modes.Stream w text (Ok (report false end))
  unfolding SaysAs
  says_outcome p end has h = go h.0 h.1 h.2
    where
      go : (found : Result ProgramTree Refusal) → Checks text found → Onward (KeepsAffine text) found (Ok p)
          → Then (Checks text) (Streams w text) (Ok (report false end))
      go (Ok q) s on = (Ok q, s, (Ok p, on, (end, has, refl)))
      go (Err f) s on = cc

  says_refusal : (f : Refusal) → ReadsAffine text (Err f) → SaysAs modes.Stream w text (Err f)
  unfolding SaysAs
  says_refusal f h = go h.0 h.1 h.2
    where
      go : (found : Result ProgramTree Refusal) → Checks text found → Onward (KeepsAffine text) found (Err f)
          → Then (Checks text) (Streams w text) (Err f)
      go (Ok q) s on = (Ok q, s, (Err f, on, refl))
      go (Err g) s on = let e : f ≡ g = cc in (Err g, s, ap (λ (z : Refusal). Err z) e)

-- what was read keeps the affine rule
kept_affine : (text : List ℕ) (p : ProgramTree) → ReadsAffine text (Ok p) → IsAffine p
kept_affine text p h = go h.0 h.2
  where
    go : (found : Result ProgramTree Refusal) → Onward (KeepsAffine text) found (Ok p) → IsAffine p
    go (Ok q) on = subst (λ (x : ProgramTree). IsAffine x) (sym on.0) on.1
    go (Err f) on = cc

pub read_affine : (source source' : Stream) (p : ProgramTree)
    → Then (Given (Some source_limit) source source') ReadsAffine (Ok p) → IsAffine p
read_affine source source' p h = go h.0 h.2
  where
    go : (found : Result (List ℕ) Refusal) → Onward ReadsAffine found (Ok p) → IsAffine p
    go (Ok text) on = kept_affine text p on
    go (Err f) on = cc

module _ (w : Words) (mode : w.mode ≡ modes.Stream) (source source' : Stream) where
  abbrev Reads : Result ProgramTree Refusal → Type 0
  Reads = Then (Given (Some source_limit) source source') ReadsAffine

  in_mode : (a : Answer) → Then (Given (Some source_limit) source source') (SaysAs modes.Stream w) a
      → Answers (Some w) source source' a
  in_mode a h = subst (λ (m : Mode). Then (Given (reads_of m) source source') (SaysAs m w) a) (sym mode) h

  answers_outcome : (p : ProgramTree) (end : Outcome) → HasOutcome (setting w p) w.fuel end → Reads (Ok p)
      → Answers (Some w) source source' (Ok (report false end))
      × Leaves (Some w) source source' None (Ok (report false end))
  answers_outcome p end has h = go h.0 h.1 h.2
    where
      go : (found : Result (List ℕ) Refusal) → Given (Some source_limit) source source' found
          → Onward ReadsAffine found (Ok p)
          → Answers (Some w) source source' (Ok (report false end))
          × Leaves (Some w) source source' None (Ok (report false end))
      go (Ok text) g on = (
        in_mode (Ok (report false end)) (Ok text, g, says_outcome w text p end has on),
        (text, subst (λ (m : Mode). Given (reads_of m) source source' (Ok text)) (sym mode) g, ap goes_by_threads mode),
      )
      go (Err f) g on = cc

  answers_refusal : (f : Refusal) → Reads (Err f) → Answers (Some w) source source' (Err f)
  answers_refusal f h = in_mode (Err f) (go h.0 h.1 h.2)
    where
      go : (found : Result (List ℕ) Refusal) → Given (Some source_limit) source source' found
          → Onward ReadsAffine found (Err f)
          → Then (Given (Some source_limit) source source') (SaysAs modes.Stream w) (Err f)
      go (Ok text) g on = (Ok text, g, says_refusal w text f on)
      go (Err k) g on = let e : f ≡ k = cc in (Err k, g, ap (λ (z : Refusal). Err z) e)

  -- ---- what happened

  module _ {out out' err err' : Stream} {status : ℕ} where
    pub streamed : (p : ProgramTree) → Reads (Ok p) → DeliversOutcome w p out out' err err' status
        → Happened (Some w) source source' out out' err err' None status
    streamed p h d =
        let both = answers_outcome p d.outcome d.has_outcome h in
        answered (Ok (report false d.outcome)) both.0 both.1 d.delivered

    pub refused : {X : Type 0} (view : X → ProgramTree) (e : Stop) → Meets view (Err e) Reads
        → DeliversRefusal e out out' err err' status
        → Happened (Some w) source source' out out' err err' None status
    refused view (stops.Refused f) h (inl d) = answered (Err f) (answers_refusal f h) refl d
    refused view (stops.Refused f) h (inr n) = no_report n.0 refl n.1
    refused view stops.OutOfMemory h n = no_report n.0 refl n.1

-- ---- words without a reading

module _ {source out out' err err' : Stream} {status : ℕ} where
  by_words : (fault : WordsFault) (words : Option Words) → Gives (λ (w : Words). w) (Err fault) words
      → DeliversRefusal (stop_of_words fault) out out' err err' status
      → Happened words source source out out' err err' None status
  by_words faults.Usage words unread d =
      subst (λ (x : Option Words). Happened x source source out out' err err' None status) (sym unread) (go d)
    where
      go : DeliversRefusal (stops.Refused refusals.Usage) out out' err err' status
          → Happened None source source out out' err err' None status
      go (inl d) = answered (Err refusals.Usage) (refl, refl) refl d
      go (inr n) = no_report n.0 refl n.1
  by_words faults.OutOfMemory words unread n = no_report n.0 refl n.1

  pub words_refused : (fault : WordsFault) (words : Option Words) → Gives (λ (w : Words). w) (Err fault) words
      → (e : Stop) → e ≡ stop_of_words fault → DeliversRefusal e out out' err err' status
      → Happened words source source out out' err err' None status
  words_refused fault words unread e is d =
      by_words fault words unread (subst (λ (x : Stop). DeliversRefusal x out out' err err' status) is d)
