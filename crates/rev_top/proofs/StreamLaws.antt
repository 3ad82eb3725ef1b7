-- What standard output takes in a call that prints as it runs.
use Rattle.std.proofs.Common.{◌≡◌, ◌∙◌, sym, subst, ap, List, [], ◌++◌, ℕ, false, take, rules}
use Rattle.std.specs.Prelude.{Some, Result, Ok, Err}
use Rattle.rev_io.specs.Stream.{Stream, TookSome}
use Rattle.rev_io.proofs.Whole.{all_taken}
use Rattle.rev_num.specs.declared.outcome.Outcome.{Outcome}
use Rattle.rev_words.specs.declared.Mode.{Mode}
use Rattle.rev_words.specs.declared.Mode.TheVariants as modes
use Rattle.rev_words.specs.declared.Words.{Words}
use Rattle.rev_report.specs.Outcome.{report}
use Rattle.rev_report.specs.Report.{Output}
use Rattle.rev_report.specs.Refusals.{shown}
use Rattle.rev_report.specs.declared.refusal.Refusal.{Refusal}
use Rattle.rev_syntax.specs.Trees.{ProgramTree}
use Rattle.affine_check.specs.Affine.{IsAffine}
use Rattle.revision_calculus.specs.Complete.{HasOutcome}
use Rattle.revision_calculus.proofs.Outcomes.{one_outcome}
use Rattle.code_machine_laws.specs.Texts.{said}
use Rattle.mode_reports.specs.Affine.{KeepsAffine}
use Rattle.mode_reports.specs.Answer.{Answer, Given, RunsTo, SaysAs, Streams, reads_of, setting}
use Rattle.mode_reports.specs.declared.sizes.TheConstants.{SOURCE_LIMIT as source_limit}
use Rattle.rev_top.specs.Delivery.{Delivered, all_written, err_failed, no_room_at_err, no_room_at_out, out_failed}
use Rattle.rev_top.specs.Rans.{answered, no_report}
use Rattle.mode_reports.specs.Stages.{Onward, Then}
use Rattle.rev_top.specs.StreamLaws.{PrintsFirstParts}
use Rattle.mode_reports.specs.Texts.{Checks}
use Rattle.mode_reports.proofs.Faults.{one_check}
use Rattle.rev_top.proofs.Printing.{report_says, untouched}

-- ---- what was delivered

delivered_part : (x : Output) (out out' err err' : Stream) (status : ℕ) → Delivered x out out' err err' status
    → TookSome out x.out out'
delivered_part x out out' err err' status (all_written w) = all_taken out out' x.out w.on_out
delivered_part x out out' err err' status (out_failed is d) = d.part
delivered_part x out out' err err' status (err_failed is d) = all_taken out out' x.out d.on_out
delivered_part x out out' err err' status (no_room_at_out is d) = d.part
delivered_part x out out' err err' status (no_room_at_err is d) = all_taken out out' x.out d.on_out

take_of_none : (held : List ℕ) (n : ℕ) (bytes : List ℕ) → held ++ take n [] ≡ held ++ take 0 bytes
take_of_none held n bytes = grind rules

-- a first part of nothing is one of any text
of_nothing : (out out' : Stream) (bytes : List ℕ) → TookSome out [] out' → TookSome out bytes out'
of_nothing out out' bytes h held told =
    let k = h held told in
    (0, k.1 ∙ ap (λ (xs : List ℕ). Some xs) (take_of_none held k.0 bytes))

-- ---- which answer it is

module _ (w : Words) (p : ProgramTree) (affine : IsAffine p) (end : Outcome)
    (has : HasOutcome (setting w p) w.fuel end) where
  -- a first part of what is shown of the answer is one of the text of `main`
  abbrev Fits : Answer → Type 0
  Fits a = (out out' : Stream) → TookSome out (shown a).out out' → TookSome out (said end) out'

  fits_refusal : (a : Answer) (f : Refusal) → a ≡ Err f → Fits a
  fits_refusal a f is out out' h =
      of_nothing out out' (said end) (subst (λ (x : Answer). TookSome out (shown x).out out') is h)

  fits_run : (a : Answer) → RunsTo w (report false) p a → Fits a
  fits_run a r out out' h =
      let one = one_outcome (setting w p) w.fuel in
      let same : r.0 ≡ end = one.only r.0 r.1 ∙ sym (one.only end has) in
      let is : a ≡ Ok (report false end) = r.2 ∙ ap (λ (x : Outcome). Ok (report false x)) same in
      subst (λ (bytes : List ℕ). TookSome out bytes out') (sym (report_says end))
      (subst (λ (x : Answer). TookSome out (shown x).out out') is h)

  module _ (text : List ℕ) (checked : Checks text (Ok p)) where
    fits_program : (a : Answer) → Streams w text p a → Fits a
    fits_program a h = go h.0 h.1 h.2
      where
        go : (found : Result ProgramTree Refusal) → KeepsAffine text p found → Onward (RunsTo w (report false)) found a
            → Fits a
        go (Ok q) k on = fits_run a (subst (λ (x : ProgramTree). RunsTo w (report false) x a) k.0 on)
        go (Err f) k on = absurd (affine k.0.how k.0.at k.1.broken)

    fits_text : (a : Answer) → SaysAs modes.Stream w text a → Fits a
    unfolding SaysAs
    fits_text a h = go h.0 h.1 h.2
      where
        go : (found : Result ProgramTree Refusal) → Checks text found → Onward (Streams w text) found a → Fits a
        go (Ok q) s on =
            let same : ◌≡◌ {A = Result ProgramTree Refusal} (Ok q) (Ok p) = one_check text (Ok q) (Ok p) s checked in
            let e : q ≡ p = cc in
            fits_program a (subst (λ (x : ProgramTree). Streams w text x a) e on)
        go (Err f) s on =
            let same : ◌≡◌ {A = Result ProgramTree Refusal} (Err f) (Ok p) = one_check text (Err f) (Ok p) s checked in
            cc

    fits_answer : (source source' : Stream) → source.told ≡ Some text → (a : Answer)
        → Then (Given (Some source_limit) source source') (SaysAs modes.Stream w) a → Fits a
    fits_answer source source' told a h = go h.0 h.1 h.2
      where
        go : (found : Result (List ℕ) Refusal) → Given (Some source_limit) source source' found
            → Onward (SaysAs modes.Stream w) found a → Fits a
        go (Ok read) g on =
            let whole : text ≡ read = g.2 text told in
            fits_text a (subst (λ (t : List ℕ). SaysAs modes.Stream w t a) (sym whole) on)
        go (Err f) g on = fits_refusal a f on

pub prints_first_parts : PrintsFirstParts
prints_first_parts w mode source source' out out' err err' ran status (answered a h l d) text told p checked affine end
    has =
    fits_answer w p affine end has text checked source source' told a
    (subst (λ (m : Mode). Then (Given (reads_of m) source source') (SaysAs m w) a) mode h)
    out out' (delivered_part (shown a) out out' err err' status d)
prints_first_parts w mode source source' out out' err err' ran status (no_report is none n) text told p checked affine
    end has =
    subst (λ (s : Stream). TookSome out (said end) s) (sym n.untouched) (untouched out (said end))
