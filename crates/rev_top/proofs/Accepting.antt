-- What `run` does with a sound text follows from the headline.
use Rattle.std.proofs.Common.{◌≡◌, ◌∙◌, ◌≤◌, ℕ, List, length, sym, ap, subst, arith}
use Rattle.std.specs.Prelude.{Option, Some, Result, Ok, Err}
use Rattle.rev_io.specs.Stream.{Stream}
use Rattle.rev_words.specs.declared.Mode.{Mode}
use Rattle.rev_words.specs.declared.Mode.TheVariants as modes
use Rattle.rev_words.specs.declared.Words.{Words}
use Rattle.rev_report.specs.Report.{Output}
use Rattle.rev_report.specs.Outcome.{report}
use Rattle.rev_report.specs.Refusals.{shown}
use Rattle.rev_report.specs.declared.refusal.Refusal.{Refusal}
use Rattle.rev_syntax.specs.Trees.{ProgramTree}
use Rattle.rev_top.specs.Accepted.{Accepted, IsSound}
use Rattle.mode_reports.specs.Answer.{Answer, Fits, RunsTo, Says, SaysAs, reads, reads_of}
use Rattle.mode_reports.specs.declared.sizes.TheConstants.{SOURCE_LIMIT as source_limit}
use Rattle.rev_top.specs.Delivery.{Wrote}
use Rattle.rev_top.specs.Promises.{Calm, Feeds, IsWritten}
use Rattle.mode_reports.specs.Stages.{Onward, Then}
use Rattle.mode_reports.specs.Texts.{Checks}
use Rattle.mode_reports.proofs.Faults.{one_check}
use Rattle.rev_top.proofs.Writing.{said, sound_checks}

module _ (w : Words) (text : List ℕ) (short : length text ≤ source_limit) (s : IsSound text) where
  of_check : (c : Result ProgramTree Refusal) → Checks text c → (a : Answer) → Onward (RunsTo w (report w.values)) c a
      → RunsTo w (report w.values) s.tree a
  of_check c h a on = go c (one_check text (Ok s.tree) c (sound_checks text s) h) on
    where
      go : (c : Result ProgramTree Refusal) → Ok s.tree ≡ c → Onward (RunsTo w (report w.values)) c a
          → RunsTo w (report w.values) s.tree a
      go (Ok p) same on = let e : p ≡ s.tree = cc in subst (λ (q : ProgramTree). RunsTo w (report w.values) q a) e on
      go (Err f) same on = cc

  runs : (a : Answer) → SaysAs modes.Run w text a → RunsTo w (report w.values) s.tree a
  unfolding SaysAs
  runs a h = of_check h.0 h.1 a h.2

  of_fit : (found : Result (List ℕ) Refusal) → Fits (Some source_limit) text found → (a : Answer)
      → Onward (SaysAs modes.Run w) found a → RunsTo w (report w.values) s.tree a
  of_fit (Ok read) fit a on = runs a (subst (λ (t : List ℕ). SaysAs modes.Run w t a) fit.0 on)
  of_fit (Err f) fit a on = let long = fit.1 in absurd (omega (arith, long, short))

  of_mode : (m : Mode) → m ≡ modes.Run → (a : Answer) → Then (Fits (reads_of m) text) (SaysAs m w) a
      → RunsTo w (report w.values) s.tree a
  of_mode m is a h =
      let k = subst (λ (x : Mode). Then (Fits (reads_of x) text) (SaysAs x w) a) is h in of_fit k.0 k.1 a k.2

  of_answer : (words : Option Words) → words ≡ Some w → w.mode ≡ modes.Run → (a : Answer) → Says words text a
      → RunsTo w (report w.values) s.tree a
  of_answer words is run a h = of_mode w.mode run a (subst (λ (x : Option Words). Says x text a) is h)

fed : (words : Option Words) (w : Words) (source source' : Stream) (text : List ℕ) → words ≡ Some w → w.mode ≡ modes.Run
    → Feeds (Some source_limit) source source' text → Feeds (reads words) source source' text
fed words w source source' text is run h =
    let limit : reads words ≡ Some source_limit = ap reads is ∙ ap reads_of run in
    subst (λ (r : Option ℕ). Feeds r source source' text) (sym limit) h

pub accepted : {words : Option Words} {source : Stream} (source' : Stream) {out out' err err' : Stream} {status : ℕ}
    → (Calm out out' err err' status → (all : List ℕ) → Feeds (reads words) source source' all
    → IsWritten words all out out' err err' status)
    → Accepted words source source' out out' err err' status
accepted {words} {source} source' {out} {out'} {err} {err'} {status} headline w is run text told short sound rose
    calm =
    let k = headline calm text (fed words w source source' text is run (told, rose)) in
    let h = said words text k.output k.writes in
    let r = of_answer w text short sound words is run h.0 h.1 in
    record {
      outcome = r.0;
      has_outcome = r.1;
      wrote = subst (λ (o : Output). Wrote o out out' err err' status) (h.2 ∙ ap shown r.2) k.wrote;
    }
