-- The report of a run by threads is what its mode says, and the run stands beside it; and what a call promises of
-- the run that it hands out follows from what happened.
use Rattle.std.proofs.Common.{◌≡◌, ◌∙◌, refl, sym, subst, ap, List, [], ℕ, ◌≤◌, ◌++◌, inl, inr, arith, rules, true, false, length, take}
use Rattle.std.specs.Prelude.{Bool, Option, Some, None, Result, Ok, Err, IfOk, is_some}
use Rattle.rev_io.specs.Stream.{Stream, Took, TookSome}
use Rattle.rev_num.specs.declared.outcome.Outcome.{Outcome}
use Rattle.rev_num.specs.declared.outcome.Outcome.TheVariants as o
use Rattle.rev_words.specs.Load.{load_text}
use Rattle.rev_words.specs.declared.Mode.{Mode}
use Rattle.rev_words.specs.declared.Mode.TheVariants as modes
use Rattle.rev_words.specs.declared.Words.{Words}
use Rattle.rev_syntax.specs.Trees.{ProgramTree}
use Rattle.rev_report.specs.Report.{Output, output}
use Rattle.rev_report.specs.Outcome.{report}
use Rattle.rev_report.specs.Modes.{summary}
use Rattle.rev_report.specs.Refusals.{shown, status_of}
use Rattle.rev_report.specs.declared.refusal.Refusal.{Refusal}
use Rattle.rev_report.specs.declared.refusal.Refusal.TheVariants as refusals
use Rattle.thread_runs.specs.declared.ran.Ran.{Ran}
use Rattle.code_generation.specs.Generated.{code_of}
use Rattle.revision_calculus.specs.Complete.{HasOutcome}
use Rattle.thread_runs.specs.Runs.{IsRunOf, numbers_of}
use Rattle.mode_reports.specs.Answer.{Answer, Answers, Fits, Given, Orders, RunsTo, SaysAs, code_run, reads, reads_of, setting}
use Rattle.rev_top.specs.Delivery.{Delivered, Wrote, all_written, err_failed, no_room_at_err, no_room_at_out, out_failed}
use Rattle.rev_top.specs.Promises.{IsRefused}
use Rattle.rev_top.specs.Making.{IsMade, RunsBy, RunsText, Told, said, told}
use Rattle.rev_top.specs.RanLaws.{IsDelivered, IsRunStatus, IsReported, IsRunOfCall, RanLaw, RanSays, Tells}
use Rattle.rev_top.specs.Rans.{Happened, Holds, Leaves, Reports, answered, goes_by_threads, no_report, of_load, of_order, of_run}
use Rattle.mode_reports.specs.Stages.{Onward, Then}
use Rattle.mode_reports.specs.Stops.{Meets}
use Rattle.mode_reports.specs.Texts.{Checks}
use Rattle.rev_top.specs.declared.made.Made.{Made}
use Rattle.mode_reports.specs.declared.stop.Stop.{Stop}
use Rattle.mode_reports.specs.declared.stop.Stop.TheVariants as stops

-- ---- from a run to its report

module _ (w : Words) (write : Ran → Output) (text : List ℕ) where
  -- the answer alone
  run_told : (Second : ProgramTree → Answer → Type 0)
      → ((p : ProgramTree) (o : Output) (ran : Option Ran) → RunsBy w write p (Ok (record { output = o; ran = ran }))
      → Second p (Ok o))
      → (o : Output) (ran : Option Ran) → RunsText w write text (Ok (record { output = o; ran = ran }))
      → Then (Checks text) Second (Ok o)
  run_told Second second o ran h = go h.0 h.1 h.2
    where
      go : (found : Result ProgramTree Refusal) → Checks text found
          → Onward (RunsBy w write) found (Ok (record { output = o; ran = ran })) → Then (Checks text) Second (Ok o)
      go (Ok p) s on = (Ok p, s, second p o ran on)
      go (Err f) s on = cc

  refusal_told : (Second : ProgramTree → Answer → Type 0)
      → (f : Refusal) → RunsText w write text (Err f) → Then (Checks text) Second (Err f)
  refusal_told Second f h = go h.0 h.1 h.2
    where
      go : (found : Result ProgramTree Refusal) → Checks text found
          → Onward (RunsBy w write) found (Err f) → Then (Checks text) Second (Err f)
      go (Ok p) s on = let e = on.writes in cc
      go (Err g) s on = let e : f ≡ g = cc in (Err g, s, ap (λ (z : Refusal). Err z) e)

  -- so the report of the run is what the mode says
  pub says : (Second : ProgramTree → Answer → Type 0)
      → ((p : ProgramTree) (o : Output) (ran : Option Ran) → RunsBy w write p (Ok (record { output = o; ran = ran }))
      → Second p (Ok o))
      → (r : Result Made Stop) → Meets told r (RunsText w write text) → Meets said r (Then (Checks text) Second)
  says Second second (Ok m) h = run_told Second second (output m.report) m.ran h
  says Second second (Err (stops.Refused f)) h = refusal_told Second f h
  says Second second (Err stops.OutOfMemory) h = tt

-- ---- of the modes that make a run

-- a report that is written of a run, beside it
pub made_of : (w : Words) (write : Ran → Output) (p : ProgramTree) (r : Ran) (o : Output)
    → IsRunOf (code_run w (code_of p)) w.fuel r
    → HasOutcome (setting w p) w.fuel r.outcome → o ≡ write r
    → RunsBy w write p (Ok (record { output = o; ran = Some r }))
made_of w write p r o is_run has e =
    record { run = r; is_run = is_run; has_outcome = has; writes = λ i. Ok (record { output = e i; ran = Some r }) }

told_output : (o : Output) (ran : Option Ran) (p : Output) (r : Ran)
    → ◌≡◌ {A = Result Told Refusal} (Ok (record { output = o; ran = ran })) (Ok (record { output = p; ran = Some r }))
    → o ≡ p
told_output o ran p r e =
    let same : ◌≡◌ {A = Told} (record { output = o; ran = ran }) (record { output = p; ran = Some r }) = cc in
    ap (λ (t : Told). t.output) same

outcome_written : (w : Words) (write : Outcome → Output) (p : ProgramTree) (o : Output) (ran : Option Ran)
    → RunsBy w (λ r. write r.outcome) p (Ok (record { output = o; ran = ran })) → RunsTo w write p (Ok o)
outcome_written w write p o ran h =
    (h.run.outcome, h.has_outcome, ap (λ (x : Output). Ok x) (told_output o ran (write h.run.outcome) h.run h.writes))

order_written : (w : Words) (p : ProgramTree) (o : Output) (ran : Option Ran)
    → RunsBy w of_order p (Ok (record { output = o; ran = ran })) → Orders w p (Ok o)
order_written w p o ran h = record {
  schedule = numbers_of h.run;
  world = h.is_run.world;
  complete = h.is_run.complete;
  outcome = h.run.outcome;
  has_outcome = h.has_outcome;
  writes = ap (λ (x : Output). Ok x) (told_output o ran (of_order h.run) h.run h.writes);
}

module _ (w : Words) (read : List ℕ) where
  run_says : (r : Result Made Stop) → Meets told r (RunsText w (of_run w) read) → Meets said r (SaysAs modes.Run w read)
  unfolding SaysAs
  run_says r h = says w (of_run w) read (RunsTo w (report w.values)) (outcome_written w (report w.values)) r h

  load_says : (r : Result Made Stop) → Meets told r (RunsText w (of_load w) (load_text w.seed w.size))
      → Meets said r (SaysAs modes.Load w read)
  unfolding SaysAs
  load_says r h =
      says w (of_load w) (load_text w.seed w.size) (RunsTo w (summary w.seed w.size))
      (outcome_written w (summary w.seed w.size)) r h

  order_says : (r : Result Made Stop) → Meets told r (RunsText w of_order read)
      → Meets said r (SaysAs modes.Order w read)
  unfolding SaysAs
  order_says r h = says w of_order read (Orders w) (order_written w) r h

  -- the same, of a mode that is this one
  module _ (r : Result Made Stop) (m : Mode) where
    pub run_in : m ≡ modes.Run → Meets told r (RunsText w (of_run w) read) → Meets said r (SaysAs m w read)
    run_in is h = subst (λ (x : Mode). Meets said r (SaysAs x w read)) (sym is) (run_says r h)

    pub load_in : m ≡ modes.Load → Meets told r (RunsText w (of_load w) (load_text w.seed w.size))
        → Meets said r (SaysAs m w read)
    load_in is h = subst (λ (x : Mode). Meets said r (SaysAs x w read)) (sym is) (load_says r h)

    pub order_in : m ≡ modes.Order → Meets told r (RunsText w of_order read) → Meets said r (SaysAs m w read)
    order_in is h = subst (λ (x : Mode). Meets said r (SaysAs x w read)) (sym is) (order_says r h)

-- ---- beside an answer

pub leaves_by : (w : Words) (old new : Stream) (read : List ℕ) → Given (reads_of w.mode) old new (Ok read)
    → (r : Result Made Stop)
    → IfOk r (λ m. Holds w.mode w read m.ran (output m.report))
    → IfOk r (λ m. Leaves (Some w) old new m.ran (Ok (output m.report)))
leaves_by w old new read given (Ok m) h = (read, given, h)
leaves_by w old new read given (Err e) h = tt

-- a refusal is made into a report without a run
pub refusal_made : (words : Option Words) (old new : Stream) (e : Stop) → Meets said (Err e) (Answers words old new)
    → (f : Refusal) → e ≡ stops.Refused f → (o : Output) → o ≡ shown (Err f) → IsMade words old new None o
refusal_made words old new e h f is o same =
    (Err f, subst (λ (x : Stop). Meets said (Err x) (Answers words old new)) is h, refl, same)

-- ---- what happened

pub happened :
    {words : Option Words} {source source' out out' err err' : Stream} {ran : Option Ran} {status : ℕ} {o : Output}
    → IsMade words source source' ran o → Delivered o out out' err err' status
    → Happened words source source' out out' err err' ran status
happened {words} {source} {source'} {out} {out'} {err} {err'} {ran} {status} {o} m d =
    answered m.0 m.1 m.2 (subst (λ (x : Output). Delivered x out out' err err' status) m.3 d)

-- ---- statuses

refused_by : (f : Refusal) → IsRefused (status_of f)
refused_by refusals.Usage = inr (inl refl)
refused_by refusals.ReadFault = inr (inr refl)
refused_by refusals.TooLong = inl refl
refused_by (refusals.Text place fault) = inl refl
refused_by (refusals.OverLimit place limit which) = inl refl
refused_by refusals.BadMagic = inl refl
refused_by refusals.BadVersion = inl refl
refused_by (refusals.File at fault) = inl refl
refused_by (refusals.Code block at fault) = inl refl
refused_by (refusals.Trace at) = inl refl
refused_by (refusals.Schedule entry revision) = inl refl
refused_by (refusals.Differs revision) = inl refl

-- a run has no status of a refusal, and neither has a call that was cut short
not_both : (n : ℕ) → IsRefused n → IsRunStatus n → ⊥
not_both n (inl a) (inl b) = absurd (omega arith)
not_both n (inl a) (inr (inl b)) = absurd (omega arith)
not_both n (inl a) (inr (inr b)) = absurd (omega arith)
not_both n (inr (inl a)) (inl b) = absurd (omega arith)
not_both n (inr (inl a)) (inr (inl b)) = absurd (omega arith)
not_both n (inr (inl a)) (inr (inr b)) = absurd (omega arith)
not_both n (inr (inr a)) (inl b) = absurd (omega arith)
not_both n (inr (inr a)) (inr (inl b)) = absurd (omega arith)
not_both n (inr (inr a)) (inr (inr b)) = absurd (omega arith)

most_of_run : (n : ℕ) → IsRunStatus n → n ≤ 3
most_of_run n (inl a) = omega arith
most_of_run n (inr (inl a)) = omega arith
most_of_run n (inr (inr a)) = omega arith

most_of_refusal : (n : ℕ) → IsRefused n → n ≤ 5
most_of_refusal n (inl a) = omega arith
most_of_refusal n (inr (inl a)) = omega arith
most_of_refusal n (inr (inr a)) = omega arith

report_ends : (asked : Bool) (x : Outcome) → IsRunStatus (report asked x).status
report_ends asked (o.Done text values) = inl refl
report_ends asked (o.Trapped text values t) = inr (inl refl)
report_ends asked o.Twice = inr (inr refl)

summary_ends : (seed size : ℕ) (x : Outcome) → IsRunStatus (summary seed size x).status
summary_ends seed size (o.Done text values) = inl refl
summary_ends seed size (o.Trapped text values t) = inr (inl refl)
summary_ends seed size o.Twice = inr (inr refl)

by_output : (x y : Output) → x ≡ y → IsRunStatus y.status → IsRunStatus x.status
by_output x y same h = subst (λ (z : Output). IsRunStatus z.status) (sym same) h

-- one line for each mode
reports_end : (m : Mode) (w : Words) (read : List ℕ) (r : Ran) (x : Output) → Reports m w read r x
    → IsRunStatus x.status
reports_end modes.Run w read r x h = by_output x (of_run w r) h.1 (report_ends w.values r.outcome)
reports_end modes.Check w read r x h = absurd h
reports_end modes.Load w read r x h = by_output x (of_load w r) h.1 (summary_ends w.seed w.size r.outcome)
reports_end modes.Dis w read r x h = absurd h
reports_end modes.Exec w read r x h = absurd h
reports_end modes.Emit w read r x h = absurd h
reports_end modes.Trace w read r x h = absurd h
reports_end modes.Audit w read r x h = absurd h
reports_end modes.Replay w read r x h = absurd h
reports_end modes.Order w read r x h = by_output x (of_order r) h.1 (report_ends false r.outcome)
reports_end modes.Stream w read r x h = absurd h
reports_end modes.Repeat w read r x h = absurd h

no_run : (m : Mode) (w : Words) (read : List ℕ) (r : Ran) (x : Output) → goes_by_threads m ≡ false
    → Reports m w read r x → ⊥
no_run modes.Run w read r x is h = cc
no_run modes.Check w read r x is h = h
no_run modes.Load w read r x is h = cc
no_run modes.Dis w read r x is h = h
no_run modes.Exec w read r x is h = h
no_run modes.Emit w read r x is h = h
no_run modes.Trace w read r x is h = h
no_run modes.Audit w read r x is h = h
no_run modes.Replay w read r x is h = h
no_run modes.Order w read r x is h = cc
no_run modes.Stream w read r x is h = h
no_run modes.Repeat w read r x is h = h

-- ---- where the source told its bytes

fits : (reads : Option ℕ) (old new : Stream) (all read : List ℕ) → Given reads old new (Ok read) → Tells reads old all
    → Fits reads all (Ok read)
fits None old new all read g tells = g.0
fits (Some limit) old new all read g tells =
    let whole = g.2 all tells in (sym whole, subst (λ (t : List ℕ). length t ≤ limit) (sym whole) g.1)

-- ---- what was delivered

module _ (x : Output) (out out' err err' : Stream) (status : ℕ) where
  -- all of it, where the status is that of a run or of a refusal
  wrote : Delivered x out out' err err' status → status ≤ 5 → Wrote x out out' err err' status
  wrote (all_written w) most = w
  wrote (out_failed is d) most = absurd (omega arith)
  wrote (err_failed is d) most = absurd (omega arith)
  wrote (no_room_at_out is d) most = absurd (omega arith)
  wrote (no_room_at_err is d) most = absurd (omega arith)

  same_none : (held : List ℕ) (n : ℕ) → held ++ take n [] ≡ held
  same_none held n = grind rules

  -- of nothing `out` took no byte
  took_none : Delivered x out out' err err' status → x.out ≡ [] → (held : List ℕ) → out.told ≡ Some held
      → out'.told ≡ Some held
  took_none d none held told = go d
    where
      whole : Took out x.out out' → out'.told ≡ Some held
      whole t = t.told held told ∙ ap (λ (bytes : List ℕ). Some (held ++ bytes)) none
          ∙ ap (λ (bytes : List ℕ). Some bytes) (same_none held 0)

      part : TookSome out x.out out' → out'.told ≡ Some held
      part t =
          let k = t held told in
          k.1 ∙ ap (λ (bytes : List ℕ). Some (held ++ take k.0 bytes)) none
          ∙ ap (λ (bytes : List ℕ). Some bytes) (same_none held k.0)

      go : Delivered x out out' err err' status → out'.told ≡ Some held
      go (all_written w) = whole w.on_out
      go (out_failed is d) = part d.part
      go (err_failed is d) = whole d.on_out
      go (no_room_at_out is d) = part d.part
      go (no_room_at_err is d) = whole d.on_out

-- ---- each promise

-- what stands beside an output is the run of the mode, or the mode makes none
module _ (w : Words) (source source' : Stream) where
  is_there : (ran : Option Ran) (x : Output) → Leaves (Some w) source source' ran (Ok x) → goes_by_threads w.mode ≡ true
      → is_some ran ≡ true
  is_there None x l threads = let no = l.2 in cc
  is_there (Some r) x l threads = refl

  not_there : (ran : Option Ran) (x : Output) → Leaves (Some w) source source' ran (Ok x)
      → goes_by_threads w.mode ≡ false → ran ≡ None
  not_there None x l alone = refl
  not_there (Some r) x l alone = absurd (no_run w.mode w l.0 r x alone l.2)

  none_refused : (ran : Option Ran) (x : Output) → Leaves (Some w) source source' ran (Ok x) → IsRefused x.status
      → ran ≡ None
  none_refused None x l refused = refl
  none_refused (Some r) x l refused = absurd (not_both x.status refused (reports_end w.mode w l.0 r x l.2))

  of_call : (r : Ran) (ran : Option Ran) (x : Output) → Leaves (Some w) source source' ran (Ok x) → ran ≡ Some r
      → (all : List ℕ) → Tells (reads_of w.mode) source all → IsRunOfCall (Some w) all r x
  of_call r None x l is all tells = cc
  of_call r (Some s) x l is all tells =
      let same : s ≡ r = cc in
      record {
        word = w;
        said_by = refl;
        read = l.0;
        fits = fits (reads_of w.mode) source source' all l.0 l.1 tells;
        reports = subst (λ (y : Ran). Reports w.mode w l.0 y x) same l.2;
      }

module _ (source source' out out' err err' : Stream) (ran : Option Ran) (status : ℕ) where
  abbrev EndedBy : Option Words → Type 0
  EndedBy words = Happened words source source' out out' err err' ran status

  ends_at : (a : Answer) → Delivered (shown a) out out' err err' status → status ≤ 5 → status ≡ (shown a).status
  ends_at a d most = (wrote (shown a) out out' err err' status d most).ends

  -- a refusal has no status of a run
  not_refusal : (f : Refusal) → Delivered (shown (Err f)) out out' err err' status → IsRunStatus status → ⊥
  not_refusal f d over =
      let most = most_of_run status over in
      not_both status (subst (λ (n : ℕ). IsRefused n) (sym (ends_at (Err f) d (omega (arith, most)))) (refused_by f))
      over

  present_of : (words : Option Words) → EndedBy words → (w : Words) → words ≡ Some w → goes_by_threads w.mode ≡ true
      → IsRunStatus status → is_some ran ≡ true
  present_of words (no_report at none d) w is threads over =
      let most = most_of_run status over in absurd (omega (arith, most, at))
  present_of words (answered (Err f) h l d) w is threads over = absurd (not_refusal f d over)
  present_of words (answered (Ok x) h l d) w is threads over =
      is_there w source source' ran x (subst (λ (y : Option Words). Leaves y source source' ran (Ok x)) is l) threads

  refused_of : (words : Option Words) → EndedBy words → IsRefused status → ran ≡ None
  refused_of words (no_report at none d) refused = none
  refused_of words (answered (Err f) h l d) refused = l
  refused_of None (answered (Ok x) h l d) refused = absurd l
  refused_of (Some w) (answered (Ok x) h l d) refused =
      let most = most_of_refusal status refused in
      none_refused w source source' ran x l (subst (λ (n : ℕ). IsRefused n) (ends_at (Ok x) d most) refused)

  unread_of : (words : Option Words) → EndedBy words → words ≡ None → ran ≡ None
  unread_of words (no_report at none d) is = none
  unread_of words (answered (Err f) h l d) is = l
  unread_of words (answered (Ok x) h l d) is =
      absurd (subst (λ (y : Option Words). Leaves y source source' ran (Ok x)) is l)

  other_of : (words : Option Words) → EndedBy words → (w : Words) → words ≡ Some w → goes_by_threads w.mode ≡ false
      → ran ≡ None
  other_of words (no_report at none d) w is alone = none
  other_of words (answered (Err f) h l d) w is alone = l
  other_of words (answered (Ok x) h l d) w is alone =
      not_there w source source' ran x (subst (λ (y : Option Words). Leaves y source source' ran (Ok x)) is l) alone

  nothing_is : (r : Ran) → ran ≡ None → ran ≡ Some r → ⊥
  nothing_is r none some = let e : None ≡ Some r = sym none ∙ some in cc

  run_of : (words : Option Words) → EndedBy words → (r : Ran) → ran ≡ Some r → (all : List ℕ)
      → Tells (reads words) source all → IsDelivered words all r out out' err err' status
  run_of words (no_report at none d) r is all tells = absurd (nothing_is r none is)
  run_of words (answered (Err f) h l d) r is all tells = absurd (nothing_is r l is)
  run_of None (answered (Ok x) h l d) r is all tells = absurd l
  run_of (Some w) (answered (Ok x) h l d) r is all tells =
      record { report = x; is_run = of_call w source source' r ran x l is all tells; delivered = d }

  reported_of : (words : Option Words) → EndedBy words → (r : Ran) → ran ≡ Some r → IsRunStatus status → (all : List ℕ)
      → Tells (reads words) source all → IsReported words all r out out' err err' status
  reported_of words e r is over all tells =
      let k = run_of words e r is all tells in
      let most = most_of_run status over in
      record {
        report = k.report;
        is_run = k.is_run;
        wrote = wrote k.report out out' err err' status k.delivered (omega (arith, most));
      }

  behind_of : (words : Option Words) → EndedBy words → (w : Words) → words ≡ Some w → goes_by_threads w.mode ≡ true
      → (held : List ℕ) → out.told ≡ Some held → (out'.told ≡ Some held → ⊥) → is_some ran ≡ true
  behind_of words (no_report at none d) w is threads held told more =
      absurd (more (ap (λ (x : Stream). x.told) d.untouched ∙ told))
  behind_of words (answered (Err f) h l d) w is threads held told more =
      absurd (more (took_none (shown (Err f)) out out' err err' status d refl held told))
  behind_of words (answered (Ok x) h l d) w is threads held told more =
      is_there w source source' ran x (subst (λ (y : Option Words). Leaves y source source' ran (Ok x)) is l) threads

pub ran_says : RanLaw
ran_says words source source' out out' err err' ran status e = record {
  present = present_of source source' out out' err err' ran status words e;
  reported = reported_of source source' out out' err err' ran status words e;
  refused = refused_of source source' out out' err err' ran status words e;
  unread = unread_of source source' out out' err err' ran status words e;
  other = other_of source source' out out' err err' ran status words e;
  run = run_of source source' out out' err err' ran status words e;
  behind_bytes = behind_of source source' out out' err err' ran status words e;
}

pub ran_of : {words : Option Words} {source source' out out' err err' : Stream} {ran : Option Ran} {status : ℕ}
    → Happened words source source' out out' err err' ran status → RanSays words source out out' err err' ran status
ran_of {words} {source} {source'} {out} {out'} {err} {err'} {ran} {status} h =
    ran_says words source source' out out' err err' ran status h
