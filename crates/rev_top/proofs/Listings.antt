-- What `dis` lists of bytes is the code of which they are the file.
use Rattle.std.proofs.Common.{◌≡◌, ◌∙◌, refl, sym, subst, ap, List, [], ℕ, ◌≤◌, length}
use Rattle.std.specs.Prelude.{◌↔◌, Result, Ok, Err}
use Rattle.rev_code.specs.declared.code.Code.{Code}
use Rattle.code_file.specs.Fields.{Got}
use Rattle.code_file.specs.Laws.{AreBytes, ReadIsFile, ReadsBack}
use Rattle.code_file.specs.Reads.{reading}
use Rattle.code_listing.specs.Listing.{listing}
use Rattle.code_verifier.specs.Verdicts.{KeepsRules}
use Rattle.rev_report.specs.Report.{Output, done}
use Rattle.rev_report.specs.declared.refusal.Refusal.{Refusal}
use Rattle.rev_words.specs.declared.Mode.{Mode}
use Rattle.rev_words.specs.declared.Mode.TheVariants as modes
use Rattle.rev_words.specs.declared.Words.{Words}
use Rattle.mode_reports.specs.Answer.{Fits, Lists, SaysAs, reads_of}
use Rattle.mode_reports.specs.declared.sizes.TheConstants.{FILE_LIMIT as file_limit}
use Rattle.mode_reports.specs.Codes.{ChecksCode, KeepsCodeRules, ReadsFile}
use Rattle.mode_reports.specs.Stages.{Onward, Then}
use Rattle.rev_top.specs.Statuses.{IsSoundFile, ListingLaw}
use Rattle.mode_reports.proofs.Codes.{is_read}

-- code that was read and keeps all rules
checked : (bytes : List ℕ) (c : Code) → ChecksCode bytes (Ok c) → (reading bytes ≡ Got c []) × KeepsRules c
unfolding ChecksCode
checked bytes c h = go h.0 h.1 h.2
  where
    go : (found : Result Code Refusal) → ReadsFile bytes found → Onward KeepsCodeRules found (Ok c)
        → (reading bytes ≡ Got c []) × KeepsRules c
    go (Ok d) is on =
        (is ∙ ap (λ (x : Code). Got x []) (sym on.0), subst (λ (x : Code). KeepsRules x) (sym on.0) on.1)
    go (Err f) is on = absurd (cc)

checks : (bytes : List ℕ) (c : Code) → reading bytes ≡ Got c [] → KeepsRules c → ChecksCode bytes (Ok c)
unfolding ChecksCode
checks bytes c is keeps = (Ok c, is, (refl, keeps))

module _ (exact : ReadIsFile) (back : ReadsBack) (w : Words) (all : List ℕ) (bytes : AreBytes all) (o : Output) where
  abbrev IsListed : Type 0
  IsListed = (c : Code) × IsSoundFile all c × (o ≡ done (listing c))

  of_code : (found : Result Code Refusal) → ChecksCode all found → Onward Lists found (Ok o) → length all ≤ file_limit
      → IsListed
  of_code (Ok c) h on short =
      let e : o ≡ done (listing c) = cc in
      let both = checked all c h in
      (c, record { spelled = exact all c bytes both.0; keeps = both.1; fits = short }, e)
  of_code (Err f) h on short = absurd (cc)

  of_listing : Then (ChecksCode all) Lists (Ok o) → length all ≤ file_limit → IsListed
  of_listing h short = of_code h.0 h.1 h.2 short

  of_read : (found : Result (List ℕ) Refusal) → Fits (reads_of modes.Dis) all found
      → Onward (SaysAs modes.Dis w) found (Ok o) → IsListed
  unfolding SaysAs
  of_read (Ok read) fits on = of_listing (subst (λ (t : List ℕ). Then (ChecksCode t) Lists (Ok o)) fits.0 on) fits.1
  of_read (Err f) fits on = absurd (cc)

  says : IsListed → Then (Fits (reads_of modes.Dis) all) (SaysAs modes.Dis w) (Ok o)
  unfolding SaysAs
  says h =
      let sound = h.1 in (
        Ok all,
        (refl, sound.fits),
        (Ok h.0, checks all h.0 (is_read back all h.0 sound.spelled) sound.keeps, ap (λ (x : Output). Ok x) h.2),
      )

  listed : (m : Mode) → m ≡ modes.Dis → Then (Fits (reads_of m) all) (SaysAs m w) (Ok o) ↔ IsListed
  listed m is =
      subst (λ (n : Mode). Then (Fits (reads_of n) all) (SaysAs n w) (Ok o) ↔ IsListed) (sym is)
      (λ h. of_read h.0 h.1 h.2, says)

pub listing_law : ReadIsFile → ReadsBack → ListingLaw
listing_law exact back w is all bytes o = listed exact back w all bytes o w.mode is
