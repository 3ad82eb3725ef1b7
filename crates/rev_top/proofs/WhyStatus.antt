-- The statuses 1, 2 and 3 have their causes, and come exactly there.
use Rattle.std.proofs.Common.{◌≡◌, ◌∙◌, refl, sym, subst, ap, List, ℕ, false, length, inl, inr, arith}
use Rattle.std.specs.Prelude.{Option, Some, None, Result, Ok, Err}
use Rattle.rev_num.specs.declared.outcome.Outcome.{Outcome}
use Rattle.rev_num.specs.declared.outcome.Outcome.TheVariants as o
use Rattle.rev_words.specs.Load.{load_text}
use Rattle.rev_words.specs.declared.Mode.{Mode}
use Rattle.rev_words.specs.declared.Mode.TheVariants as modes
use Rattle.rev_words.specs.declared.Words.{Words}
use Rattle.rev_syntax.specs.Trees.{ProgramTree}
use Rattle.rev_report.specs.Report.{Output}
use Rattle.rev_report.specs.Outcome.{report}
use Rattle.rev_report.specs.Modes.{ordered, reused, summary, traced}
use Rattle.rev_report.specs.Refusals.{shown, status_of}
use Rattle.rev_report.specs.declared.refusal.Refusal.{Refusal}
use Rattle.rev_report.specs.declared.refusal.Refusal.TheVariants as refusals
use Rattle.revision_calculus.specs.Program.{Setting}
use Rattle.revision_calculus.specs.Complete.{HasOutcome}
use Rattle.trace_diagram.specs.declared.diagram.Trace.{Trace}
use Rattle.audit_rules.specs.Verdicts.{Audits}
use Rattle.audit_rules.specs.declared.verdict.Verdict.{Verdict}
use Rattle.audit_rules.specs.declared.verdict.Verdict.TheVariants as verdict
use Rattle.rev_code.specs.declared.code.Code.{Code}
use Rattle.code_generation.specs.Generated.{code_of}
use Rattle.revision_machine.specs.Numbered.{World}
use Rattle.code_machine.specs.Local.{Local}
use Rattle.mode_reports.specs.Affine.{KeepsAffine}
use Rattle.mode_reports.specs.Codes.{ChecksCode}
use Rattle.mode_reports.specs.Stages.{Onward, Then}
use Rattle.mode_reports.specs.Texts.{Checks}
use Rattle.mode_reports.specs.Traces.{Judges, Parts, ReadsTrace, Splits, answer_of, text_of}
use Rattle.mode_reports.specs.Answer.{Accepts, Answer, AuditsParts, AuditsTrace, Emits, Fits, IsWithin, Lists, Orders, Repeats, Replays, RunsCode, RunsTo, Says, SaysAs, Streams, Traces, code_run, reads_of, setting}
use Rattle.mode_reports.specs.Schedules.{ReplaysCode}
use Rattle.rev_top.specs.Statuses.{Ends, EndsAs, HasCauses, IsAtFault, IsAuditFault, IsFault, IsReplayFault, IsStreamFault, IsTrap, Ran, StatusLaw, differs, in_length, in_program, in_schedule, in_handles, in_text, in_text_of, in_trace}
use Rattle.rev_top.proofs.Answering.{end_status, ordered_status, report_status, reused_status, split_refused, summary_status, trace_refused, traced_status}
use Rattle.rev_top.proofs.TraceTexts.{some_trace}
use Rattle.mode_reports.proofs.Codes.{code_refused}
use Rattle.mode_reports.proofs.Faults.{one_check, text_refused}
use Rattle.rev_top.proofs.Handles.{affine_refused}
use Rattle.rev_top.proofs.OneAnswers.{accepted_of, all_alike, one_fits, within}
use Rattle.program_meaning.proofs.Outcomes.{of_code}
use Rattle.mode_reports.proofs.Replaying.{replay_refused}

-- why a mode says what it says: what it was given is at fault, or what it ran has ended, or there was
-- nothing to run
data Tells (m : Mode) (w : Words) (read : List ℕ) (a : Answer) : Type 0 where
  at_fault : (f : Refusal) → IsFault m w read f → a ≡ Err f → Tells m w read a
  at_end : (x : Outcome) → Ends m w read x → (shown a).status ≡ end_status x → Tells m w read a
  no_run : (shown a).status ≡ 0 → Tells m w read a

-- of a mode that runs a text
runs_text : (m : Mode) (w : Words) (read text : List ℕ) → ((f : Refusal) → Checks text (Err f) → IsFault m w read f)
    → ((x : Outcome) → EndsAs w text x → Ends m w read x)
    → (write : Outcome → Output) → ((x : Outcome) → (write x).status ≡ end_status x)
    → (a : Answer) → Then (Checks text) (RunsTo w write) a → Tells m w read a
runs_text m w read text fault end write status a h = go h.0 h.1 h.2
  where
    go : (found : Result ProgramTree Refusal) → Checks text found → Onward (RunsTo w write) found a → Tells m w read a
    go (Ok p) s on =
        at_end on.0 (end on.0 (p, s, on.1))
        (ap (λ (x : Answer). (shown x).status) on.2 ∙ status on.0)
    go (Err f) s on = at_fault f (fault f s) on

-- of a mode that writes something of a text, and runs nothing
makes_of : {X : Type 0} (m : Mode) (w : Words) (read : List ℕ) (Stage : Result X Refusal → Type 0)
    → ((f : Refusal) → Stage (Err f) → IsFault m w read f)
    → (Says : X → Answer → Type 0) → ((x : X) (a : Answer) → Says x a → (shown a).status ≡ 0)
    → (a : Answer) → Then Stage Says a → Tells m w read a
makes_of {X = X} m w read Stage fault Says status a h = go h.0 h.1 h.2
  where
    go : (found : Result X Refusal) → Stage found → Onward Says found a → Tells m w read a
    go (Ok x) s on = no_run (status x a on)
    go (Err f) s on = at_fault f (fault f s) on

tells_trace : (w : Words) (read : List ℕ) (a : Answer) → Then (Checks read) (Traces w) a → Tells modes.Trace w read a
tells_trace w read a h = go h.0 h.1 h.2
  where
    go : (found : Result ProgramTree Refusal) → Checks read found → Onward (Traces w) found a
        → Tells modes.Trace w read a
    go (Ok p) s on =
        at_end on.outcome (p, s, on.has_outcome)
        (ap (λ (x : Answer). (shown x).status) on.writes ∙ traced_status (text_of on.trace) on.outcome)
    go (Err f) s on = at_fault f s on

tells_exec : (w : Words) (read : List ℕ) (a : Answer) → Then (ChecksCode read) (RunsCode w) a
    → Tells modes.Exec w read a
tells_exec w read a h = go h.0 h.1 h.2
  where
    go : (found : Result Code Refusal) → ChecksCode read found → Onward (RunsCode w) found a → Tells modes.Exec w read a
    go (Ok c) s on =
        at_end on.0 (c, s, on.1)
        (ap (λ (x : Answer). (shown x).status) on.2 ∙ report_status w.values on.0)
    go (Err f) s on = at_fault f s on

tells_order : (w : Words) (read : List ℕ) (a : Answer) → Then (Checks read) (Orders w) a → Tells modes.Order w read a
tells_order w read a h = go h.0 h.1 h.2
  where
    go : (found : Result ProgramTree Refusal) → Checks read found → Onward (Orders w) found a
        → Tells modes.Order w read a
    go (Ok p) s on =
        at_end on.outcome (p, s, on.has_outcome)
        (ap (λ (x : Answer). (shown x).status) on.writes ∙ ordered_status on.schedule on.outcome)
    go (Err f) s on = at_fault f s on

tells_repeat : (w : Words) (read : List ℕ) (a : Answer) → Then (Checks read) (Repeats w) a → Tells modes.Repeat w read a
tells_repeat w read a h = go h.0 h.1 h.2
  where
    go : (found : Result ProgramTree Refusal) → Checks read found → Onward (Repeats w) found a
        → Tells modes.Repeat w read a
    go (Ok p) s on =
        at_end on.outcome (p, s, on.has_outcome)
        (ap (λ (x : Answer). (shown x).status) on.writes ∙ reused_status on.count on.outcome)
    go (Err f) s on = at_fault f s on

-- ---- of an audit

tells_verdict : (w : Words) (read : List ℕ) (p : Parts) → Splits read (Ok p) → (t : ProgramTree) → Checks p.text (Ok t)
    → (trace : Trace) → ReadsTrace p.trace (Ok trace) → (a : Answer) → Judges (setting w t) w.fuel trace a
    → Tells modes.Audit w read a
tells_verdict w read p split t checked trace r a h = go h.0 h.1 h.2
  where
    go : (v : Verdict) → Audits (setting w t) w.fuel trace v → a ≡ answer_of v → Tells modes.Audit w read a
    go verdict.Yes says is = no_run (ap (λ (x : Answer). (shown x).status) is)
    go (verdict.No q stated c) says is =
        at_fault (refusals.Differs q) (differs p split t checked trace r (verdict.No q stated c, says, refl)) is

tells_bytes : (w : Words) (read : List ℕ) (p : Parts) → Splits read (Ok p) → (t : ProgramTree) → Checks p.text (Ok t)
    → (a : Answer) → AuditsTrace w p.trace t a → Tells modes.Audit w read a
tells_bytes w read p split t checked a h = go h.0 h.1 h.2
  where
    go : (found : Result Trace Refusal) → ReadsTrace p.trace found → Onward (Judges (setting w t) w.fuel) found a
        → Tells modes.Audit w read a
    go (Ok trace) r on = tells_verdict w read p split t checked trace r a on
    go (Err f) r on = at_fault f (in_trace p split t checked r) on

tells_parts : (w : Words) (read : List ℕ) (p : Parts) → Splits read (Ok p) → (a : Answer) → AuditsParts w p a
    → Tells modes.Audit w read a
tells_parts w read p split a h = go h.0 h.1 h.2
  where
    go : (found : Result ProgramTree Refusal) → Checks p.text found → Onward (AuditsTrace w p.trace) found a
        → Tells modes.Audit w read a
    go (Ok t) s on = tells_bytes w read p split t s a on
    go (Err f) s on = at_fault f (in_text p split s) on

tells_audit : (w : Words) (read : List ℕ) (a : Answer) → Then (Splits read) (AuditsParts w) a
    → Tells modes.Audit w read a
tells_audit w read a h = go h.0 h.1 h.2
  where
    go : (found : Result Parts Refusal) → Splits read found → Onward (AuditsParts w) found a
        → Tells modes.Audit w read a
    go (Ok p) s on = tells_parts w read p s a on
    go (Err f) s on = at_fault f (in_length s) on

-- ---- of a replay

tells_schedule : (w : Words) (read : List ℕ) (p : ProgramTree) → Checks read (Ok p) → (a : Answer) → Replays w p a
    → Tells modes.Replay w read a
tells_schedule w read p checked a h = go h.0 h.1 h.2
  where
    go : (found : Result (World (Local ℕ)) Refusal) → ReplaysCode (code_run w (code_of p)) w.fuel w.schedule found
        → Onward (λ v. RunsTo w (report w.values) p) found a → Tells modes.Replay w read a
    go (Ok v) r on =
        at_end on.0 (p, checked, (v, r), on.1)
        (ap (λ (x : Answer). (shown x).status) on.2 ∙ report_status w.values on.0)
    go (Err f) r on = at_fault f (in_schedule p checked r) on

tells_replay : (w : Words) (read : List ℕ) (a : Answer) → Then (Checks read) (Replays w) a → Tells modes.Replay w read a
tells_replay w read a h = go h.0 h.1 h.2
  where
    go : (found : Result ProgramTree Refusal) → Checks read found → Onward (Replays w) found a
        → Tells modes.Replay w read a
    go (Ok p) s on = tells_schedule w read p s a on
    go (Err f) s on = at_fault f (in_program s) on

-- ---- of a stream

tells_handles : (w : Words) (read : List ℕ) (p : ProgramTree) → Checks read (Ok p) → (a : Answer) → Streams w read p a
    → Tells modes.Stream w read a
tells_handles w read p checked a h = go h.0 h.1 h.2
  where
    go : (found : Result ProgramTree Refusal) → KeepsAffine read p found → Onward (RunsTo w (report false)) found a
        → Tells modes.Stream w read a
    go (Ok q) k on =
        at_end on.0 (p, checked, k.1, subst (λ (x : ProgramTree). HasOutcome (setting w x) w.fuel on.0) k.0 on.1)
        (ap (λ (x : Answer). (shown x).status) on.2 ∙ report_status false on.0)
    go (Err f) k on = at_fault f (in_handles p checked k) on

tells_stream : (w : Words) (read : List ℕ) (a : Answer) → Then (Checks read) (Streams w read) a
    → Tells modes.Stream w read a
tells_stream w read a h = go h.0 h.1 h.2
  where
    go : (found : Result ProgramTree Refusal) → Checks read found → Onward (Streams w read) found a
        → Tells modes.Stream w read a
    go (Ok p) s on = tells_handles w read p s a on
    go (Err f) s on = at_fault f (in_text_of s) on

-- one line for each mode
tells : (m : Mode) (w : Words) (read : List ℕ) (a : Answer) → SaysAs m w read a → Tells m w read a
unfolding SaysAs
tells modes.Run w read a h =
    runs_text modes.Run w read read (λ f k. k) (λ x k. k) (report w.values) (report_status w.values) a h
tells modes.Check w read a h =
    makes_of modes.Check w read (Checks read) (λ f k. k) Accepts (λ p b k. ap (λ (x : Answer). (shown x).status) k) a h
tells modes.Load w read a h =
    runs_text modes.Load w read (load_text w.seed w.size) (λ f k. k) (λ x k. k)
    (summary w.seed w.size) (summary_status w.seed w.size) a h
tells modes.Dis w read a h =
    makes_of modes.Dis w read (ChecksCode read) (λ f k. k) Lists (λ c b k. ap (λ (x : Answer). (shown x).status) k) a h
tells modes.Exec w read a h = tells_exec w read a h
tells modes.Emit w read a h =
    makes_of modes.Emit w read (Checks read) (λ f k. k) Emits (λ p b k. ap (λ (x : Answer). (shown x).status) k) a h
tells modes.Trace w read a h = tells_trace w read a h
tells modes.Audit w read a h = tells_audit w read a h
tells modes.Replay w read a h = tells_replay w read a h
tells modes.Order w read a h = tells_order w read a h
tells modes.Stream w read a h = tells_stream w read a h
tells modes.Repeat w read a h = tells_repeat w read a h

-- the same program with its memo and its number, where an answer has these
repeated_end : (w : Words) (read : List ℕ) (b : Answer) → Then (Checks read) (Repeats w) b → (x : Outcome)
    → EndsAs w read x
    → (a : Answer) × Then (Checks read) (Repeats w) a × ((shown a).status ≡ end_status x)
repeated_end w read b h x e = go h.0 h.1 h.2
  where
    go : (found : Result ProgramTree Refusal) → Checks read found → Onward (Repeats w) found b
        → (a : Answer) × Then (Checks read) (Repeats w) a × ((shown a).status ≡ end_status x)
    go (Ok p) s on =
        let same : e.0 ≡ p =
        (let z : ◌≡◌ {A = Result ProgramTree Refusal} (Ok e.0) (Ok p) = one_check read (Ok e.0) (Ok p) e.1 s in cc) in (
          Ok (reused on.count x),
          (
            Ok p,
            s,
            record {
              entries = on.entries;
              memo = on.memo;
              count = on.count;
              reuses = on.reuses;
              outcome = x;
              has_outcome = subst (λ (q : ProgramTree). HasOutcome (setting w q) w.fuel x) same e.2;
              writes = refl;
            },
          ),
          reused_status on.count x,
        )
    go (Err f) s on =
        absurd (let z : ◌≡◌ {A = Result ProgramTree Refusal} (Ok e.0) (Err f) = one_check read (Ok e.0) (Err f) e.1 s in
        cc)

-- an answer of the mode, where it has one and what it runs has an outcome, with this status
says_end : (m : Mode) (w : Words) (read : List ℕ) → IsWithin (reads_of m) (length read) → (b : Answer)
    → SaysAs m w read b → (x : Outcome) → Ends m w read x
    → (a : Answer) × SaysAs m w read a × ((shown a).status ≡ end_status x)
unfolding SaysAs
says_end modes.Run w read short b on x h =
    (Ok (report w.values x), (Ok h.0, h.1, (x, h.2, refl)), report_status w.values x)
says_end modes.Check w read short b on x h = absurd h
says_end modes.Load w read short b on x h =
    (Ok (summary w.seed w.size x), (Ok h.0, h.1, (x, h.2, refl)), summary_status w.seed w.size x)
says_end modes.Dis w read short b on x h = absurd h
says_end modes.Exec w read short b on x h =
    (Ok (report w.values x), (Ok h.0, h.1, (x, h.2, refl)), report_status w.values x)
says_end modes.Emit w read short b on x h = absurd h
says_end modes.Trace w read short b on x h =
    let t = some_trace (setting w h.0) w.fuel in (
      Ok (traced (text_of t.0) x),
      (Ok h.0, h.1, record { outcome = x; has_outcome = h.2; trace = t.0; has_trace = t.1; writes = refl }),
      traced_status (text_of t.0) x,
    )
says_end modes.Audit w read short b on x h = absurd h
says_end modes.Replay w read short b on x h =
    (Ok (report w.values x), (Ok h.0, h.1, (Ok h.2.0, h.2.1, (x, h.3, refl))), report_status w.values x)
says_end modes.Order w read short b on x h =
    let code = of_code (setting w h.0) (accepted_of read short h.0 h.1) w.fuel x h.2 in (
      Ok (ordered code.schedule x),
      (
        Ok h.0,
        h.1,
        record {
          schedule = code.schedule;
          world = code.world;
          complete = code.complete;
          outcome = x;
          has_outcome = h.2;
          writes = refl;
        },
      ),
      ordered_status code.schedule x,
    )
says_end modes.Stream w read short b on x h =
    (Ok (report false x), (Ok h.0, h.1, (Ok h.0, (refl, h.2), (x, h.3, refl))), report_status false x)
says_end modes.Repeat w read short b on x h = repeated_end w read b on x h

trap_status : (x : Outcome) → end_status x ≡ 1 → IsTrap x
unfolding end_status
trap_status (o.Done text values) is = absurd (omega (arith, is))
trap_status (o.Trapped text values t) is = tt
trap_status o.Twice is = absurd (omega (arith, is))

status_of_trap : (x : Outcome) → IsTrap x → end_status x ≡ 1
unfolding end_status
status_of_trap (o.Done text values) is = absurd is
status_of_trap (o.Trapped text values t) is = refl
status_of_trap o.Twice is = absurd is

is_twice : (x : Outcome) → end_status x ≡ 3 → x ≡ o.Twice
unfolding end_status
is_twice (o.Done text values) is = absurd (omega (arith, is))
is_twice (o.Trapped text values t) is = absurd (omega (arith, is))
is_twice o.Twice is = refl

twice_status : end_status o.Twice ≡ 3
unfolding end_status
twice_status = refl

not_two : (x : Outcome) → end_status x ≡ 2 → ⊥
unfolding end_status
not_two (o.Done text values) is = absurd (omega (arith, is))
not_two (o.Trapped text values t) is = absurd (omega (arith, is))
not_two o.Twice is = absurd (omega (arith, is))

judged_refused : (s : Setting) (fuel : ℕ) (t : Trace) (f : Refusal) → Judges s fuel t (Err f) → status_of f ≡ 2
judged_refused s fuel t f h = go h.0 h.2
  where
    go : (v : Verdict) → Err f ≡ answer_of v → status_of f ≡ 2
    go verdict.Yes is = cc
    go (verdict.No r stated c) is = let e : f ≡ refusals.Differs r = cc in ap status_of e

audit_refused : (w : Words) (all : List ℕ) (f : Refusal) → IsAuditFault w all f → status_of f ≡ 2
audit_refused w all f (in_length s) = split_refused all f s
audit_refused w all f (in_text p s t) = text_refused p.text f t
audit_refused w all f (in_trace p s t c r) = trace_refused p.trace f r
audit_refused w all f (differs p s t c trace r j) = judged_refused (setting w t) w.fuel trace f j

replay_fault_refused : (w : Words) (text : List ℕ) (f : Refusal) → IsReplayFault w text f → status_of f ≡ 2
replay_fault_refused w text f (in_program c) = text_refused text f c
replay_fault_refused w text f (in_schedule p c r) = replay_refused (code_run w (code_of p)) w.fuel w.schedule f r

stream_fault_refused : (text : List ℕ) (f : Refusal) → IsStreamFault text f → status_of f ≡ 2
stream_fault_refused text f (in_text_of c) = text_refused text f c
stream_fault_refused text f (in_handles p c k) = affine_refused text p f k

-- one line for each mode
fault_is_refused : (m : Mode) (w : Words) (read : List ℕ) (f : Refusal) → IsFault m w read f → status_of f ≡ 2
fault_is_refused modes.Run w read f h = text_refused read f h
fault_is_refused modes.Check w read f h = text_refused read f h
fault_is_refused modes.Load w read f h = text_refused (load_text w.seed w.size) f h
fault_is_refused modes.Dis w read f h = code_refused read f h
fault_is_refused modes.Exec w read f h = code_refused read f h
fault_is_refused modes.Emit w read f h = text_refused read f h
fault_is_refused modes.Trace w read f h = text_refused read f h
fault_is_refused modes.Audit w read f h = audit_refused w read f h
fault_is_refused modes.Replay w read f h = replay_fault_refused w read f h
fault_is_refused modes.Order w read f h = text_refused read f h
fault_is_refused modes.Stream w read f h = stream_fault_refused read f h
fault_is_refused modes.Repeat w read f h = text_refused read f h

module _ (w : Words) (all : List ℕ) where
  -- too long
  long_is : (r : Option ℕ) (f : Refusal) → Fits r all (Err f) → status_of f ≡ 2
  long_is None f h = cc
  long_is (Some limit) f h = ap status_of h.0

  fault_is : (f : Refusal) → IsAtFault w all f → status_of f ≡ 2
  fault_is f (inl h) = long_is (reads_of w.mode) f h
  fault_is f (inr h) = fault_is_refused w.mode w h.0 f h.2

  module _ (a : Answer) (says : Says (Some w) all a) where
    -- why there is this answer
    data Reason : Type 0 where
      fault : (f : Refusal) → IsAtFault w all f → a ≡ Err f → Reason
      ran : (x : Outcome) → Ran w all x → (shown a).status ≡ end_status x → Reason
      done : (shown a).status ≡ 0 → Reason

    of_tells : (read : List ℕ) → Fits (reads_of w.mode) all (Ok read) → Tells w.mode w read a → Reason
    of_tells read fits (at_fault f h is) = fault f (inr (read, fits, h)) is
    of_tells read fits (at_end x e is) =
        ran x (record { read = read; fits = fits; ends = e }) is
    of_tells read fits (no_run is) = done is

    of_read : (found : Result (List ℕ) Refusal) → Fits (reads_of w.mode) all found → Onward (SaysAs w.mode w) found a
        → Reason
    of_read (Ok read) fits on = of_tells read fits (tells w.mode w read a on)
    of_read (Err f) fits on = fault f (inl fits) on

    reason : Reason
    reason = of_read says.0 says.1 says.2

    fault_status : (f : Refusal) → IsAtFault w all f → a ≡ Err f → (shown a).status ≡ 2
    fault_status f at is = ap (λ (x : Answer). (shown x).status) is ∙ fault_is f at

    -- the answer to a run has its status
    ran_status : (x : Outcome) → Ran w all x → (shown a).status ≡ end_status x
    ran_status x r =
        let whole : says.0 ≡ Ok r.read = one_fits (reads_of w.mode) all says.0 (Ok r.read) says.1 r.fits in
        let on : SaysAs w.mode w r.read a =
        subst (λ (found : Result (List ℕ) Refusal). Onward (SaysAs w.mode w) found a) whole says.2 in
        let one = says_end w.mode w r.read (within (reads_of w.mode) all r.read r.fits) a on x r.ends in
        (all_alike (Some w) all a one.0 says (Ok r.read, r.fits, one.1)).status ∙ one.2

    trapped_why : Reason → (shown a).status ≡ 1 → (x : Outcome) × Ran w all x × IsTrap x
    trapped_why (fault f at is) one = absurd (omega (arith, one, fault_status f at is))
    trapped_why (ran x r is) one = (x, r, trap_status x (sym is ∙ one))
    trapped_why (done is) one = absurd (omega (arith, one, is))

    twice_why : Reason → (shown a).status ≡ 3 → Ran w all o.Twice
    twice_why (fault f at is) three = absurd (omega (arith, three, fault_status f at is))
    twice_why (ran x r is) three = subst (λ (y : Outcome). Ran w all y) (is_twice x (sym is ∙ three)) r
    twice_why (done is) three = absurd (omega (arith, three, is))

    refused_why : Reason → (shown a).status ≡ 2 → (f : Refusal) × IsAtFault w all f × (a ≡ Err f)
    refused_why (fault f at is) two = (f, at, is)
    refused_why (ran x r is) two = absurd (not_two x (sym is ∙ two))
    refused_why (done is) two = absurd (omega (arith, two, is))

    has_causes : HasCauses w all a
    has_causes = record {
      trapped = (trapped_why reason, λ h. ran_status h.0 h.1 ∙ status_of_trap h.0 h.2);
      twice = (twice_why reason, λ h. ran_status o.Twice h ∙ twice_status);
      refused = (refused_why reason, λ h. fault_status h.0 h.1 h.2);
    }

pub status_law : StatusLaw
status_law w all a says = has_causes w all a says
