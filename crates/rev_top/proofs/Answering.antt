-- What an answer to words and a source is like: its status, what it writes on `out`, and the bytes that it answers.
use Rattle.std.proofs.Common.{◌≡◌, ◌∙◌, refl, sym, subst, List, [], ℕ, ◌≤◌, inl, inr, arith, true, length, ap}
use Rattle.std.specs.Prelude.{Option, Some, None, Result, Ok, Err, Bool, false, is_some}
use Rattle.rev_io.specs.Stream.{Stream, Rose}
use Rattle.rev_num.specs.declared.outcome.Outcome.{Outcome}
use Rattle.rev_num.specs.declared.outcome.Outcome.TheVariants as o
use Rattle.rev_words.specs.Load.{load_text}
use Rattle.rev_words.specs.declared.Mode.{Mode}
use Rattle.rev_words.specs.declared.Mode.TheVariants as modes
use Rattle.rev_words.specs.declared.Words.{Words}
use Rattle.rev_syntax.specs.Trees.{ProgramTree}
use Rattle.rev_report.specs.Report.{Output}
use Rattle.rev_report.specs.Outcome.{report}
use Rattle.rev_report.specs.Modes.{ordered, reused, summary, traced}
use Rattle.rev_report.specs.Refusals.{shown, status_of}
use Rattle.rev_report.specs.declared.refusal.Refusal.{Refusal}
use Rattle.mode_reports.specs.Stages.{Onward, Then}
use Rattle.mode_reports.specs.Texts.{Checks}
use Rattle.rev_code.specs.declared.code.Code.{Code}
use Rattle.code_generation.specs.Generated.{code_of}
use Rattle.revision_calculus.specs.Program.{Setting}
use Rattle.trace_diagram.specs.declared.diagram.Trace.{Trace}
use Rattle.audit_rules.specs.declared.verdict.Verdict.{Verdict}
use Rattle.audit_rules.specs.declared.verdict.Verdict.TheVariants as verdict
use Rattle.mode_reports.specs.Codes.{ChecksCode}
use Rattle.mode_reports.specs.Traces.{Judges, Parts, ReadsTrace, Splits, answer_of, text_of}
use Rattle.mode_reports.specs.Answer.{Accepts, Answer, Answers, AuditsParts, AuditsTrace, Emits, Fits, Given, Lists, Orders, Repeats, Replays, RunsCode, RunsTo, Says, SaysAs, Streams, Traces, code_run, reads, reads_of, setting}
use Rattle.mode_reports.specs.Schedules.{ReplaysCode}
use Rattle.rev_top.specs.Promises.{Feeds, IsRefused}
use Rattle.mode_reports.specs.Affine.{KeepsAffine}
use Rattle.mode_reports.proofs.Codes.{code_refused}
use Rattle.mode_reports.proofs.Faults.{text_refused}
use Rattle.rev_top.proofs.Handles.{affine_refused}
use Rattle.mode_reports.proofs.Replaying.{replay_refused}

-- ---- the status of what a mode says

unfoldable pub end_status : Outcome → ℕ
end_status (o.Done text values) = 0
end_status (o.Trapped text values t) = 1
end_status o.Twice = 3

pub report_status : (asked : Bool) (x : Outcome) → (report asked x).status ≡ end_status x
unfolding end_status
report_status asked (o.Done text values) = refl
report_status asked (o.Trapped text values t) = refl
report_status asked o.Twice = refl

pub summary_status : (seed size : ℕ) (x : Outcome) → (summary seed size x).status ≡ end_status x
unfolding end_status
summary_status seed size (o.Done text values) = refl
summary_status seed size (o.Trapped text values t) = refl
summary_status seed size o.Twice = refl

pub reused_status : (count : ℕ) (x : Outcome) → (reused count x).status ≡ end_status x
unfolding end_status
reused_status count (o.Done text values) = refl
reused_status count (o.Trapped text values t) = refl
reused_status count o.Twice = refl

pub traced_status : (trace : List ℕ) (x : Outcome) → (traced trace x).status ≡ end_status x
unfolding end_status
traced_status trace (o.Done text values) = refl
traced_status trace (o.Trapped text values t) = refl
traced_status trace o.Twice = refl

pub ordered_status : (schedule : List ℕ) (x : Outcome) → (ordered schedule x).status ≡ end_status x
ordered_status schedule x = report_status false x

-- a run's own status
abbrev IsEnd : ℕ → Type 0
IsEnd n = (n ≤ 3) × (n ≡ 2 → ⊥)

is_end : (x : Outcome) → IsEnd (end_status x)
unfolding end_status
is_end (o.Done text values) = (omega arith, λ is. absurd (omega arith))
is_end (o.Trapped text values t) = (omega arith, λ is. absurd (omega arith))
is_end o.Twice = (omega arith, λ is. absurd (omega arith))

-- an output of a run, or of bytes that were made, or a refusal of what was read, which writes nothing on `out`
pub data IsPlain (a : Answer) : Type 0 where
  ends : IsEnd (shown a).status → IsPlain a
  refuses : (shown a).out ≡ [] → (shown a).status ≡ 2 → IsPlain a

run_ends : (write : Outcome → Output) → ((x : Outcome) → (write x).status ≡ end_status x)
    → (w : Words) (p : ProgramTree) (a : Answer) → RunsTo w write p a → IsEnd (shown a).status
run_ends write writes w p a h =
    subst (λ (n : ℕ). IsEnd n) (sym (ap (λ (x : Answer). (shown x).status) h.2 ∙ writes h.0)) (is_end h.0)

accept_ends : (p : ProgramTree) (a : Answer) → Accepts p a → IsEnd (shown a).status
accept_ends p a h =
    subst (λ (n : ℕ). IsEnd n) (sym (ap (λ (x : Answer). (shown x).status) h)) (omega arith, λ is. absurd (omega arith))

code_run_ends : (w : Words) (c : Code) (a : Answer) → RunsCode w c a → IsEnd (shown a).status
code_run_ends w c a h =
    subst (λ (n : ℕ). IsEnd n) (sym (ap (λ (x : Answer). (shown x).status) h.2 ∙ report_status w.values h.0))
    (is_end h.0)

emit_ends : (p : ProgramTree) (a : Answer) → Emits p a → IsEnd (shown a).status
emit_ends p a h =
    subst (λ (n : ℕ). IsEnd n) (sym (ap (λ (x : Answer). (shown x).status) h)) (omega arith, λ is. absurd (omega arith))

trace_ends : (w : Words) (p : ProgramTree) (a : Answer) → Traces w p a → IsEnd (shown a).status
trace_ends w p a h =
    subst (λ (n : ℕ). IsEnd n)
    (sym (ap (λ (x : Answer). (shown x).status) h.writes ∙ traced_status (text_of h.trace) h.outcome))
    (is_end h.outcome)

order_ends : (w : Words) (p : ProgramTree) (a : Answer) → Orders w p a → IsEnd (shown a).status
order_ends w p a h =
    subst (λ (n : ℕ). IsEnd n)
    (sym (ap (λ (x : Answer). (shown x).status) h.writes ∙ ordered_status h.schedule h.outcome)) (is_end h.outcome)

repeat_ends : (w : Words) (p : ProgramTree) (a : Answer) → Repeats w p a → IsEnd (shown a).status
repeat_ends w p a h =
    subst (λ (n : ℕ). IsEnd n)
    (sym (ap (λ (x : Answer). (shown x).status) h.writes ∙ reused_status h.count h.outcome)) (is_end h.outcome)

list_ends : (c : Code) (a : Answer) → Lists c a → IsEnd (shown a).status
list_ends c a h =
    subst (λ (n : ℕ). IsEnd n) (sym (ap (λ (x : Answer). (shown x).status) h)) (omega arith, λ is. absurd (omega arith))

of_stages : {X : Type 0} (Stage : Result X Refusal → Type 0) → ((f : Refusal) → Stage (Err f) → status_of f ≡ 2)
    → (Second : X → Answer → Type 0) → ((x : X) (a : Answer) → Second x a → IsPlain a)
    → (a : Answer) → Then Stage Second a → IsPlain a
of_stages {X = X} Stage refused Second second a h = go h.0 h.1 h.2
  where
    go : (found : Result X Refusal) → Stage found → Onward Second found a → IsPlain a
    go (Ok x) s on = second x a on
    go (Err f) s on =
        refuses (ap (λ (x : Answer). (shown x).out) on)
        (ap (λ (x : Answer). (shown x).status) on ∙ refused f s)

of_stage : {X : Type 0} (Stage : Result X Refusal → Type 0) → ((f : Refusal) → Stage (Err f) → status_of f ≡ 2)
    → (Second : X → Answer → Type 0) → ((x : X) (a : Answer) → Second x a → IsEnd (shown a).status)
    → (a : Answer) → Then Stage Second a → IsPlain a
of_stage Stage refused Second second = of_stages Stage refused Second (λ x a h. ends (second x a h))

of_text : (text : List ℕ) (Second : ProgramTree → Answer → Type 0)
    → ((p : ProgramTree) (a : Answer) → Second p a → IsEnd (shown a).status)
    → (a : Answer) → Then (Checks text) Second a → IsPlain a
of_text text Second second a h = of_stage (Checks text) (text_refused text) Second second a h

-- ---- of an audit

pub split_refused : (all : List ℕ) (f : Refusal) → Splits all (Err f) → status_of f ≡ 2
split_refused all f h = ap status_of h.0

pub trace_refused : (bytes : List ℕ) (f : Refusal) → ReadsTrace bytes (Err f) → status_of f ≡ 2
trace_refused bytes f h = ap status_of h.2

judged : (s : Setting) (fuel : ℕ) (t : Trace) (a : Answer) → Judges s fuel t a → IsPlain a
judged s fuel t a h = go h.0 h.2
  where
    go : (v : Verdict) → a ≡ answer_of v → IsPlain a
    go verdict.Yes is =
        ends (subst (λ (n : ℕ). IsEnd n) (sym (ap (λ (x : Answer). (shown x).status) is))
        (omega arith, λ two. absurd (omega arith)))
    go (verdict.No r stated c) is =
        refuses (ap (λ (x : Answer). (shown x).out) is) (ap (λ (x : Answer). (shown x).status) is)

audited : (w : Words) (p : Parts) (a : Answer) → AuditsParts w p a → IsPlain a
audited w p a h =
    of_stages (Checks p.text) (text_refused p.text) (AuditsTrace w p.trace)
    (λ t b k.
    of_stages (ReadsTrace p.trace) (trace_refused p.trace) (Judges (setting w t) w.fuel) (judged (setting w t) w.fuel) b
    k)
    a h

-- ---- of a replay

replayed : (w : Words) (p : ProgramTree) (a : Answer) → Replays w p a → IsPlain a
replayed w p a h =
    of_stage (ReplaysCode (code_run w (code_of p)) w.fuel w.schedule)
    (replay_refused (code_run w (code_of p)) w.fuel w.schedule)
    (λ v. RunsTo w (report w.values) p) (λ v b k. run_ends (report w.values) (report_status w.values) w p b k) a h

-- ---- of a stream

streamed : (w : Words) (text : List ℕ) (p : ProgramTree) (a : Answer) → Streams w text p a → IsPlain a
streamed w text p a h =
    of_stage (KeepsAffine text p) (affine_refused text p) (RunsTo w (report false))
    (run_ends (report false) (report_status false) w) a h

-- one line for each mode
says_plain : (m : Mode) (w : Words) (read : List ℕ) (a : Answer) → SaysAs m w read a → IsPlain a
unfolding SaysAs
says_plain modes.Run w read a h =
    of_text read (RunsTo w (report w.values)) (run_ends (report w.values) (report_status w.values) w) a h
says_plain modes.Check w read a h = of_text read Accepts accept_ends a h
says_plain modes.Load w read a h =
    of_text (load_text w.seed w.size) (RunsTo w (summary w.seed w.size))
    (run_ends (summary w.seed w.size) (summary_status w.seed w.size) w) a h
says_plain modes.Dis w read a h = of_stage (ChecksCode read) (code_refused read) Lists list_ends a h
says_plain modes.Exec w read a h = of_stage (ChecksCode read) (code_refused read) (RunsCode w) (code_run_ends w) a h
says_plain modes.Emit w read a h = of_text read Emits emit_ends a h
says_plain modes.Trace w read a h = of_text read (Traces w) (trace_ends w) a h
says_plain modes.Audit w read a h = of_stages (Splits read) (split_refused read) (AuditsParts w) (audited w) a h
says_plain modes.Replay w read a h = of_stages (Checks read) (text_refused read) (Replays w) (replayed w) a h
says_plain modes.Order w read a h = of_text read (Orders w) (order_ends w) a h
says_plain modes.Stream w read a h = of_stages (Checks read) (text_refused read) (Streams w read) (streamed w read) a h
says_plain modes.Repeat w read a h = of_text read (Repeats w) (repeat_ends w) a h

at_most_3 : (a : Answer) → IsPlain a → (shown a).status ≤ 3
at_most_3 a (ends is) = is.0
at_most_3 a (refuses none is) = omega (arith, is)

-- ---- why an answer has its status

pub data Why (w : Option Words) (old new : Stream) (status : ℕ) : Type 0 where
  unread : w ≡ None → status ≡ 4 → Why w old new status
  failed : is_some w ≡ true → (reads w ≡ None → ⊥) → Rose old new → status ≡ 5 → Why w old new status
  plain : is_some w ≡ true → new.faults ≡ old.faults → status ≤ 3 → Why w old new status

module _ (w : Words) (old new : Stream) (a : Answer) where
  why_read : (r : Option ℕ) → reads_of w.mode ≡ r → (found : Result (List ℕ) Refusal) → Given r old new found
      → Onward (SaysAs w.mode w) found a → Why (Some w) old new (shown a).status
  why_read None is (Ok read) g on =
      plain refl (ap (λ (x : Stream). x.faults) g.1) (at_most_3 a (says_plain w.mode w read a on))
  why_read None is (Err f) g on = cc
  why_read (Some limit) is (Ok read) g on = plain refl g.0.calm (at_most_3 a (says_plain w.mode w read a on))
  why_read (Some limit) is (Err f) (inl g) on =
      plain refl g.1 (omega (arith, ap (λ (x : Answer). (shown x).status) on, ap status_of g.0))
  why_read (Some limit) is (Err f) (inr g) on =
      failed refl (λ none. let e : Some limit ≡ None = sym is ∙ none in cc) g.1
      (ap (λ (x : Answer). (shown x).status) on ∙ ap status_of g.0)

  out_read : (r : Option ℕ) (found : Result (List ℕ) Refusal) → Given r old new found → Onward (SaysAs w.mode w) found a
      → IsRefused (shown a).status → (shown a).out ≡ []
  out_read r (Err f) g on refused = ap (λ (x : Answer). (shown x).out) on
  out_read r (Ok read) g on refused = go (says_plain w.mode w read a on) refused
    where
      go : IsPlain a → IsRefused (shown a).status → (shown a).out ≡ []
      go (refuses none is) r = none
      go (ends is) (inl two) = absurd (is.1 two)
      go (ends is) (inr (inl four)) = let most = is.0 in absurd (omega (arith, four, most))
      go (ends is) (inr (inr five)) = let most = is.0 in absurd (omega (arith, five, most))

pub why : (w : Option Words) (old new : Stream) (a : Answer) → Answers w old new a → Why w old new (shown a).status
why None old new a h = unread refl (ap (λ (x : Answer). (shown x).status) h.0)
why (Some w) old new a h = why_read w old new a (reads_of w.mode) refl h.0 h.1 h.2

pub out_of : (w : Option Words) (old new : Stream) (a : Answer) → Answers w old new a → IsRefused (shown a).status
    → (shown a).out ≡ []
out_of None old new a h refused = ap (λ (x : Answer). (shown x).out) h.0
out_of (Some w) old new a h refused = out_read w old new a (reads_of w.mode) h.0 h.1 h.2 refused

pub at_most_5 : (w : Option Words) (old new : Stream) (n : ℕ) → Why w old new n → n ≤ 5
at_most_5 w old new n (unread a is) = omega arith
at_most_5 w old new n (failed a b c is) = omega arith
at_most_5 w old new n (plain a b most) = omega arith

-- ---- where the source told its bytes and did not fail, the answer is the one to these bytes

fits : (r : Option ℕ) (old new : Stream) (all : List ℕ) (found : Result (List ℕ) Refusal) → Given r old new found
    → Feeds r old new all → Fits r all found
fits None old new all found g fed = g.0
fits (Some limit) old new all (Ok text) g fed =
    let whole = g.2 all fed.0 in (sym whole, subst (λ (t : List ℕ). length t ≤ limit) (sym whole) g.1)
fits (Some limit) old new all (Err f) (inl g) fed = (g.0, g.2 all fed.0)
fits (Some limit) old new all (Err f) (inr g) fed = absurd (fed.1 g.1)

pub answer_to : (w : Option Words) (old new : Stream) (a : Answer) → Answers w old new a → (all : List ℕ)
    → Feeds (reads w) old new all → Says w all a
answer_to None old new a h all fed = h.0
answer_to (Some w) old new a h all fed = (h.0, fits (reads_of w.mode) old new all h.0 h.1 fed, h.2)
