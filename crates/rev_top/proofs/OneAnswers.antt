-- There is one answer to the same words and bytes.
use Rattle.std.proofs.Common.{◌≡◌, ◌∙◌, ◌⊎◌, inl, inr, refl, sym, subst, ap, List, [], ℕ, ◌≤◌, Bool, true, false, nat_le, length, arith, rules}
use Rattle.std.specs.Prelude.{Option, Some, None, Result, Ok, Err}
use Rattle.rev_num.specs.declared.outcome.Outcome.{Outcome}
use Rattle.rev_words.specs.Load.{load_text}
use Rattle.rev_words.specs.Reading.{KeepsRanges, reading}
use Rattle.rev_words.specs.declared.Mode.{Mode}
use Rattle.rev_words.specs.declared.Mode.TheVariants as modes
use Rattle.rev_words.specs.declared.Words.{Words}
use Rattle.rev_words.proofs.Loads.{load_text-short}
use Rattle.rev_words.proofs.Ranges.{reading_keeps}
use Rattle.rev_syntax.specs.Trees.{ProgramTree}
use Rattle.rev_syntax.specs.Tokens.{IsFirstFault}
use Rattle.rev_syntax.specs.declared.scan.LexFault.{LexFault}
use Rattle.rev_parse.specs.Verdicts.{Verdict, tree, unexpected, too_deep}
use Rattle.rev_report.specs.Report.{Output}
use Rattle.rev_report.specs.Outcome.{report}
use Rattle.rev_report.specs.Modes.{accepted, ordered, reused, summary, traced}
use Rattle.rev_report.specs.Refusals.{shown}
use Rattle.rev_report.specs.declared.refusal.Refusal.{Refusal}
use Rattle.rev_report.specs.declared.refusal.Refusal.TheVariants as refusals
use Rattle.revision_calculus.specs.Kinded.{IsAccepted}
use Rattle.revision_calculus.proofs.Outcomes.{one_outcome}
use Rattle.rev_code.specs.declared.code.Code.{Code}
use Rattle.rev_report.specs.Report.{done}
use Rattle.code_file.specs.Files.{file_of}
use Rattle.code_generation.specs.Generated.{code_of}
use Rattle.code_listing.specs.Listing.{listing}
use Rattle.mode_reports.specs.Affine.{KeepsAffine}
use Rattle.mode_reports.specs.Codes.{ChecksCode}
use Rattle.mode_reports.specs.Stages.{Onward, Then}
use Rattle.mode_reports.specs.Texts.{Checks, ChecksTree, reading as read_of}
use Rattle.rev_top.specs.Findings.{Finding, lexical, syntax, of_funs, of_rules, accepted as accepts, HasVerdict, IsFinding, IsSyntaxFault}
use Rattle.mode_reports.specs.Answer.{Accepts, Answer, AuditsParts, AuditsTrace, Emits, Fits, IsWithin, Lists, Orders, Repeats, Replays, RunsCode, RunsTo, Says, SaysAs, Streams, Traces, code_run, code_run_before, reads_of, setting}
use Rattle.mode_reports.specs.declared.sizes.TheConstants.{SOURCE_LIMIT as source_limit}
use Rattle.mode_reports.specs.Schedules.{ReplaysCode}
use Rattle.code_verifier.specs.Verdicts.{KeepsRules}
use Rattle.code_machine_laws.proofs.Outcomes.{each_has_one}
use Rattle.rev_record.proofs.MemoExists.{each_has_memo, each_is_reused}
use Rattle.rev_record.proofs.OneNumber.{one_reused}
use Rattle.rev_top.specs.Statuses.{EndAlike, HasOneAnswer, IsOrder, OneAnswer}
use Rattle.program_meaning.proofs.Outcomes.{of_code}
use Rattle.mode_reports.specs.Traces.{Splits, text_of}
use Rattle.rev_top.proofs.Auditing.{one_audited, one_split, some_audited, some_split}
use Rattle.mode_reports.proofs.Codes.{kept_of, one_code, some_code}
use Rattle.mode_reports.proofs.Faults.{one_check}
use Rattle.rev_top.proofs.Findings.{front_end}
use Rattle.rev_top.proofs.Handles.{one_affine, some_affine}
use Rattle.rev_top.proofs.Real.{funs_told, lexical_told, types_told}
use Rattle.mode_reports.proofs.Replaying.{one_replay, program_verified, some_replay}
use Rattle.static_rules.proofs.Fronts.{none_broken}
use Rattle.mode_reports.proofs.Stages.{One, one_after, one_then}
use Rattle.rev_top.proofs.TraceTexts.{one_trace, some_trace}

-- ---- there is one at most

one_run : (w : Words) (write : Outcome → Output) (p : ProgramTree) → One (RunsTo w write p)
one_run w write p a b h k =
    let one = one_outcome (setting w p) w.fuel in
    let same : h.0 ≡ k.0 = one.only h.0 h.1 ∙ sym (one.only k.0 k.1) in
    h.2 ∙ ap (λ (x : Outcome). Ok (write x)) same ∙ sym k.2

one_accept : (p : ProgramTree) → One (Accepts p)
one_accept p a b h k = h ∙ sym k

one_list : (c : Code) → One (Lists c)
one_list c a b h k = h ∙ sym k

one_code_run : (w : Words) (c : Code) → KeepsRules c → One (RunsCode w c)
one_code_run w c keeps a b h k =
    let one = each_has_one (code_run w c) keeps w.fuel in
    let same : h.0 ≡ k.0 = one.only h.0 h.1 ∙ sym (one.only k.0 k.1) in
    h.2 ∙ ap (λ (x : Outcome). Ok (report w.values x)) same ∙ sym k.2

one_emit : (p : ProgramTree) → One (Emits p)
one_emit p a b h k = h ∙ sym k

pub accepted_of : (text : List ℕ) → length text ≤ source_limit → (p : ProgramTree) → Checks text (Ok p) → IsAccepted p
accepted_of text short p h =
    let one = front_end text short in
    let ready = one.ready p ((one.same p).0 h) in
    record { small = ready.small; funs = ready.funs; rules = ready.rules }

one_traces : (w : Words) (p : ProgramTree) → IsAccepted p → One (Traces w p)
one_traces w p accepted a b h k =
    let one = one_outcome (setting w p) w.fuel in
    let same : h.outcome ≡ k.outcome = one.only h.outcome h.has_outcome ∙ sym (one.only k.outcome k.has_outcome) in
    let text = one_trace (setting w p) w.fuel accepted h.trace k.trace h.has_trace k.has_trace in
    h.writes ∙ ap (λ (x : Outcome). Ok (traced (text_of h.trace) x)) same
    ∙ ap (λ (x : List ℕ). Ok (traced x k.outcome)) text ∙ sym k.writes

one_replays : (w : Words) (p : ProgramTree) → IsAccepted p → One (Replays w p)
one_replays w p accepted =
    one_then (ReplaysCode (code_run w (code_of p)) w.fuel w.schedule) (λ v. RunsTo w (report w.values) p)
    (one_replay (code_run w (code_of p)) w.fuel w.schedule (program_verified w p accepted))
    (λ v. one_run w (report w.values) p)

one_repeats : (w : Words) (p : ProgramTree) → IsAccepted p → One (Repeats w p)
one_repeats w p accepted a b h k =
    let verified = program_verified w p accepted in
    let one = one_outcome (setting w p) w.fuel in
    let same : h.outcome ≡ k.outcome = one.only h.outcome h.has_outcome ∙ sym (one.only k.outcome k.has_outcome) in
    let count : h.count ≡ k.count =
    one_reused (code_run_before w (code_of p)) (code_run w (code_of p)) verified verified w.fuel w.fuel h.entries
    k.entries h.memo k.memo h.count k.count h.reuses k.reuses in
    h.writes ∙ ap (λ (x : Outcome). Ok (reused h.count x)) same ∙ ap (λ (n : ℕ). Ok (reused n k.outcome)) count
    ∙ sym k.writes

one_streams : (w : Words) (text : List ℕ) (p : ProgramTree) → One (Streams w text p)
one_streams w text p =
    one_then (KeepsAffine text p) (RunsTo w (report false)) (one_affine text p) (one_run w (report false))

one_audit : (w : Words) (all : List ℕ) → One (SaysAs modes.Audit w all)
unfolding SaysAs
one_audit w all =
    one_after (Splits all) (AuditsParts w) (one_split all)
    (λ p s. one_after (Checks p.text) (AuditsTrace w p.trace) (one_check p.text)
    (λ t c. one_audited w t (accepted_of p.text s.1 t c) p.trace))

-- one line for each mode but `order`
pub one_as : (m : Mode) (w : Words) (read : List ℕ) → (m ≡ modes.Order → ⊥) → IsWithin (reads_of m) (length read)
    → One (SaysAs m w read)
unfolding SaysAs
one_as modes.Run w read other short =
    one_then (Checks read) (RunsTo w (report w.values)) (one_check read) (one_run w (report w.values))
one_as modes.Check w read other short = one_then (Checks read) Accepts (one_check read) one_accept
one_as modes.Load w read other short =
    one_then (Checks (load_text w.seed w.size)) (RunsTo w (summary w.seed w.size)) (one_check (load_text w.seed w.size))
    (one_run w (summary w.seed w.size))
one_as modes.Dis w read other short = one_then (ChecksCode read) Lists (one_code read) one_list
one_as modes.Exec w read other short =
    one_after (ChecksCode read) (RunsCode w) (one_code read) (λ c h. one_code_run w c (kept_of read c h))
one_as modes.Emit w read other short = one_then (Checks read) Emits (one_check read) one_emit
one_as modes.Trace w read other short =
    one_after (Checks read) (Traces w) (one_check read) (λ p h. one_traces w p (accepted_of read short p h))
one_as modes.Audit w read other short = one_audit w read
one_as modes.Replay w read other short =
    one_after (Checks read) (Replays w) (one_check read) (λ p h. one_replays w p (accepted_of read short p h))
one_as modes.Order w read other short = absurd (other refl)
one_as modes.Stream w read other short = one_then (Checks read) (Streams w read) (one_check read) (one_streams w read)
one_as modes.Repeat w read other short =
    one_after (Checks read) (Repeats w) (one_check read) (λ p h. one_repeats w p (accepted_of read short p h))

pub one_fits : (r : Option ℕ) (all : List ℕ) → One (Fits r all)
one_fits None all a b h k = h ∙ sym k
one_fits (Some limit) all (Ok x) (Ok y) h k = ap (λ (z : List ℕ). Ok z) (h.0 ∙ sym k.0)
one_fits (Some limit) all (Ok x) (Err g) h k = absurd (omega (arith, h.1, k.1))
one_fits (Some limit) all (Err f) (Ok y) h k = absurd (omega (arith, h.1, k.1))
one_fits (Some limit) all (Err f) (Err g) h k = ap (λ (z : Refusal). Err z) (h.0 ∙ sym k.0)

pub within : (r : Option ℕ) (all read : List ℕ) → Fits r all (Ok read) → IsWithin r (length read)
within None all read h = tt
within (Some limit) all read h = subst (λ (t : List ℕ). length t ≤ limit) (sym h.0) h.1

one_says : (w : Option Words) → (IsOrder w → ⊥) → (all : List ℕ) → One (Says w all)
one_says None other all a b h k = h ∙ sym k
one_says (Some w) other all a b h k =
    one_after (Fits (reads_of w.mode) all) (SaysAs w.mode w) (one_fits (reads_of w.mode) all)
    (λ read fits. one_as w.mode w read other (within (reads_of w.mode) all read fits)) a b h k

-- ---- all end alike

same_end : (a b : Answer) → a ≡ b → EndAlike a b
same_end a b same =
    record { err = ap (λ (x : Answer). (shown x).err) same; status = ap (λ (x : Answer). (shown x).status) same }

-- one stage, and a second one of which all answers end alike
alike_after : {X : Type 0} (Stage : Result X Refusal → Type 0) → One Stage → (Second : X → Answer → Type 0)
    → ((x : X) → Stage (Ok x) → (a b : Answer) → Second x a → Second x b → EndAlike a b)
    → (a b : Answer) → Then Stage Second a → Then Stage Second b → EndAlike a b
alike_after {X = X} Stage one Second second a b h k = go h.0 k.0 (one h.0 k.0 h.1 k.1) h.1 h.2 k.2
  where
    go : (x y : Result X Refusal) → x ≡ y → Stage x → Onward Second x a → Onward Second y b → EndAlike a b
    go (Ok x) (Ok y) same s on on2 = let e : x ≡ y = cc in second x s a b on (subst (λ z. Second z b) (sym e) on2)
    go (Ok x) (Err g) same s on on2 = cc
    go (Err f) (Ok y) same s on on2 = cc
    go (Err f) (Err g) same s on on2 = let e : f ≡ g = cc in same_end a b (on ∙ ap (λ (z : Refusal). Err z) e ∙ sym on2)

orders_alike : (w : Words) (p : ProgramTree) (a b : Answer) → Orders w p a → Orders w p b → EndAlike a b
orders_alike w p a b h k =
    let one = one_outcome (setting w p) w.fuel in
    let same : h.outcome ≡ k.outcome = one.only h.outcome h.has_outcome ∙ sym (one.only k.outcome k.has_outcome) in
    record {
      err =
          ap (λ (x : Answer). (shown x).err) h.writes ∙ ap (λ (x : Outcome). (report false x).err) same
          ∙ sym (ap (λ (x : Answer). (shown x).err) k.writes);
      status =
          ap (λ (x : Answer). (shown x).status) h.writes ∙ ap (λ (x : Outcome). (report false x).status) same
          ∙ sym (ap (λ (x : Answer). (shown x).status) k.writes);
    }

order_alike : (w : Words) (read : List ℕ) (a b : Answer) → SaysAs modes.Order w read a → SaysAs modes.Order w read b
    → EndAlike a b
unfolding SaysAs
order_alike w read = alike_after (Checks read) (one_check read) (Orders w) (λ p s. orders_alike w p)

order_or : (m : Mode) → (m ≡ modes.Order) ⊎ (m ≡ modes.Order → ⊥)
order_or modes.Run = inr (λ is. cc)
order_or modes.Check = inr (λ is. cc)
order_or modes.Load = inr (λ is. cc)
order_or modes.Dis = inr (λ is. cc)
order_or modes.Exec = inr (λ is. cc)
order_or modes.Emit = inr (λ is. cc)
order_or modes.Trace = inr (λ is. cc)
order_or modes.Audit = inr (λ is. cc)
order_or modes.Replay = inr (λ is. cc)
order_or modes.Order = inl refl
order_or modes.Stream = inr (λ is. cc)
order_or modes.Repeat = inr (λ is. cc)

says_alike : (m : Mode) (w : Words) (read : List ℕ) → IsWithin (reads_of m) (length read)
    → (a b : Answer) → SaysAs m w read a → SaysAs m w read b → EndAlike a b
says_alike m w read short a b h k = go (order_or m)
  where
    go : (m ≡ modes.Order) ⊎ (m ≡ modes.Order → ⊥) → EndAlike a b
    go (inl is) =
        order_alike w read a b (subst (λ (x : Mode). SaysAs x w read a) is h)
        (subst (λ (x : Mode). SaysAs x w read b) is k)
    go (inr other) = same_end a b (one_as m w read other short a b h k)

pub all_alike : (w : Option Words) (all : List ℕ) (a b : Answer) → Says w all a → Says w all b → EndAlike a b
all_alike None all a b h k = same_end a b (h ∙ sym k)
all_alike (Some w) all a b h k =
    alike_after (Fits (reads_of w.mode) all) (one_fits (reads_of w.mode) all) (SaysAs w.mode w)
    (λ read fits. says_alike w.mode w read (within (reads_of w.mode) all read fits)) a b h k

-- ---- there is one

some_fits : (r : Option ℕ) (all : List ℕ) → (found : Result (List ℕ) Refusal) × Fits r all found
some_fits None all = (Ok [], refl)
some_fits (Some limit) all = go (nat_le (length all) limit) refl
  where
    go : (b : Bool) → nat_le (length all) limit ≡ b → (found : Result (List ℕ) Refusal) × Fits (Some limit) all found
    go true is = (Ok all, (refl, grind (arith, rules)))
    go false is = (Err refusals.TooLong, (refl, grind (arith, rules)))

-- a finding of the text is what it is as a program, or its first fault as it is reported
module _ (text : List ℕ) where
  abbrev IsChecked : Type 0
  IsChecked = (found : Result ProgramTree Refusal) × Checks text found

  of_lexical : (f : LexFault) → IsFirstFault text f → IsChecked
  unfolding Checks
  of_lexical f h =
      let told = lexical_told text f h in
      (Err told.0, (Err told.0, record { fault = f; comes = h; reported = told.1 }, refl))

  -- what the tokens with this verdict are
  of_tokens : (v : Verdict) → HasVerdict text v → (found : Result ProgramTree Refusal)
      → Onward (ChecksTree text) (read_of text v) found → IsChecked
  unfolding Checks
  of_tokens v h found on = (found, (Ok h.tokens, h.cut, (read_of text v, (v, h.verdict, refl), on)))

  of_syntax : (v : Verdict) → HasVerdict text v → IsSyntaxFault v → IsChecked
  of_syntax (tree p) h is = absurd is
  of_syntax (unexpected at) h is = of_tokens (unexpected at) h _ refl
  of_syntax (too_deep at) h is = of_tokens (too_deep at) h _ refl

  of_finding : (a : Finding) → IsFinding text a → IsChecked
  of_finding (lexical f) h = of_lexical f h
  of_finding (syntax v) h = of_syntax v h.0 h.1
  of_finding (of_funs p f) h =
      let told = funs_told text p f h.1.broken in
      of_tokens (tree p) h.0 (Err told.0) (Err told.0, record { fault = f; comes = h.1; reported = told.1 }, refl)
  of_finding (of_rules p f) h =
      let told = types_told text p f h.2.broken in
      of_tokens (tree p) h.0 (Err told.0) (Ok p, (refl, h.1), record { fault = f; comes = h.2; reported = told.1 })
  of_finding (accepts p) h = of_tokens (tree p) h.0 (Ok p) (Ok p, (refl, h.1), (refl, none_broken p h.2))

  some_check : length text ≤ source_limit → (found : Result ProgramTree Refusal) × Checks text found
  some_check short = let one = front_end text short in of_finding one.finding one.found

-- the next stage may rest on the value of this one
some_after : {X : Type 0} (Stage : Result X Refusal → Type 0) → ((found : Result X Refusal) × Stage found)
    → (Second : X → Answer → Type 0) → ((x : X) → Stage (Ok x) → (a : Answer) × Second x a)
    → (a : Answer) × Then Stage Second a
some_after {X = X} Stage one Second second = go one.0 one.1
  where
    go : (found : Result X Refusal) → Stage found → (a : Answer) × Then Stage Second a
    go (Ok x) s = let next = second x s in (next.0, (Ok x, s, next.1))
    go (Err f) s = (Err f, (Err f, s, refl))

some_stage : {X : Type 0} (Stage : Result X Refusal → Type 0) → ((found : Result X Refusal) × Stage found)
    → (Second : X → Answer → Type 0) → ((x : X) → (a : Answer) × Second x a) → (a : Answer) × Then Stage Second a
some_stage Stage one Second second = some_after Stage one Second (λ x s. second x)

some_then : (text : List ℕ) (Second : ProgramTree → Answer → Type 0) → ((p : ProgramTree) → (a : Answer) × Second p a)
    → length text ≤ source_limit
    → (a : Answer) × Then (Checks text) Second a
some_then text Second second short = some_stage (Checks text) (some_check text short) Second second

some_run : (w : Words) (write : Outcome → Output) (p : ProgramTree) → (a : Answer) × RunsTo w write p a
some_run w write p = let one = one_outcome (setting w p) w.fuel in (Ok (write one.is), (one.is, one.has, refl))

some_accept : (p : ProgramTree) → (a : Answer) × Accepts p a
some_accept p = (Ok accepted, refl)

some_list : (c : Code) → (a : Answer) × Lists c a
some_list c = (Ok (done (listing c)), refl)

some_code_run : (w : Words) (c : Code) → KeepsRules c → (a : Answer) × RunsCode w c a
some_code_run w c keeps =
    let one = each_has_one (code_run w c) keeps w.fuel in
    (Ok (report w.values one.is), (one.is, one.has, refl))

some_emit : (p : ProgramTree) → (a : Answer) × Emits p a
some_emit p = (Ok (done (file_of (code_of p))), refl)

some_traces : (w : Words) (p : ProgramTree) → (a : Answer) × Traces w p a
some_traces w p =
    let one = one_outcome (setting w p) w.fuel in
    let t = some_trace (setting w p) w.fuel in (
      Ok (traced (text_of t.0) one.is),
      record { outcome = one.is; has_outcome = one.has; trace = t.0; has_trace = t.1; writes = refl },
    )

some_replays : (w : Words) (p : ProgramTree) → IsAccepted p → (a : Answer) × Replays w p a
some_replays w p accepted =
    some_stage (ReplaysCode (code_run w (code_of p)) w.fuel w.schedule)
    (some_replay (code_run w (code_of p)) w.fuel w.schedule (program_verified w p accepted))
    (λ v. RunsTo w (report w.values) p) (λ v. some_run w (report w.values) p)

some_orders : (w : Words) (p : ProgramTree) → IsAccepted p → (a : Answer) × Orders w p a
some_orders w p accepted =
    let one = one_outcome (setting w p) w.fuel in
    let h = of_code (setting w p) accepted w.fuel one.is one.has in (
      Ok (ordered h.schedule one.is),
      record {
        schedule = h.schedule;
        world = h.world;
        complete = h.complete;
        outcome = one.is;
        has_outcome = one.has;
        writes = refl;
      },
    )

some_repeats : (w : Words) → KeepsRanges w → (p : ProgramTree) → IsAccepted p → (a : Answer) × Repeats w p a
some_repeats w keeps p accepted =
    let verified = program_verified w p accepted in
    let one = one_outcome (setting w p) w.fuel in
    let memo = each_has_memo (code_run_before w (code_of p)) verified w.fuel keeps.fuel.1 in
    let count = each_is_reused (code_run w (code_of p)) verified w.fuel keeps.fuel.1 memo.0 in (
      Ok (reused count.0 one.is),
      record {
        entries = memo.0;
        memo = memo.1;
        count = count.0;
        reuses = count.1;
        outcome = one.is;
        has_outcome = one.has;
        writes = refl;
      },
    )

some_streams : (w : Words) (text : List ℕ) (p : ProgramTree) → IsAccepted p → (a : Answer) × Streams w text p a
some_streams w text p accepted =
    some_stage (KeepsAffine text p) (some_affine text p accepted) (RunsTo w (report false)) (some_run w (report false))

some_audit : (w : Words) (all : List ℕ) → (a : Answer) × SaysAs modes.Audit w all a
unfolding SaysAs
some_audit w all =
    some_after (Splits all) (some_split all) (AuditsParts w)
    (λ p s. some_after (Checks p.text) (some_check p.text s.1) (AuditsTrace w p.trace)
    (λ t c. some_audited w t (accepted_of p.text s.1 t c) p.trace))

-- one line for each mode
some_as : (m : Mode) (w : Words) → KeepsRanges w → (read all : List ℕ) → Fits (reads_of m) all (Ok read)
    → (a : Answer) × SaysAs m w read a
unfolding SaysAs
some_as modes.Run w keeps read all h =
    some_then read (RunsTo w (report w.values)) (some_run w (report w.values))
    (subst (λ (t : List ℕ). length t ≤ source_limit) (sym h.0) h.1)
some_as modes.Check w keeps read all h =
    some_then read Accepts some_accept (subst (λ (t : List ℕ). length t ≤ source_limit) (sym h.0) h.1)
some_as modes.Load w keeps read all h =
    let size = keeps.size.1 in
    some_then (load_text w.seed w.size) (RunsTo w (summary w.seed w.size)) (some_run w (summary w.seed w.size))
    (load_text-short w.seed w.size (omega (arith, size)))
some_as modes.Dis w keeps read all h = some_stage (ChecksCode read) (some_code read) Lists some_list
some_as modes.Exec w keeps read all h =
    some_after (ChecksCode read) (some_code read) (RunsCode w) (λ c k. some_code_run w c (kept_of read c k))
some_as modes.Emit w keeps read all h =
    some_then read Emits some_emit (subst (λ (t : List ℕ). length t ≤ source_limit) (sym h.0) h.1)
some_as modes.Trace w keeps read all h =
    some_then read (Traces w) (some_traces w) (subst (λ (t : List ℕ). length t ≤ source_limit) (sym h.0) h.1)
some_as modes.Audit w keeps read all h = some_audit w read
some_as modes.Replay w keeps read all h =
    let short : length read ≤ source_limit = subst (λ (t : List ℕ). length t ≤ source_limit) (sym h.0) h.1 in
    some_after (Checks read) (some_check read short) (Replays w) (λ p k. some_replays w p (accepted_of read short p k))
some_as modes.Order w keeps read all h =
    let short : length read ≤ source_limit = subst (λ (t : List ℕ). length t ≤ source_limit) (sym h.0) h.1 in
    some_after (Checks read) (some_check read short) (Orders w) (λ p c. some_orders w p (accepted_of read short p c))
some_as modes.Stream w keeps read all h =
    let short : length read ≤ source_limit = subst (λ (t : List ℕ). length t ≤ source_limit) (sym h.0) h.1 in
    some_after (Checks read) (some_check read short) (Streams w read)
    (λ p c. some_streams w read p (accepted_of read short p c))
some_as modes.Repeat w keeps read all h =
    let short : length read ≤ source_limit = subst (λ (t : List ℕ). length t ≤ source_limit) (sym h.0) h.1 in
    some_after (Checks read) (some_check read short) (Repeats w)
    (λ p c. some_repeats w keeps p (accepted_of read short p c))

some_says : (w : Words) → KeepsRanges w → (all : List ℕ) → (a : Answer) × Says (Some w) all a
some_says w keeps all = let one = some_fits (reads_of w.mode) all in go one.0 one.1
  where
    go : (found : Result (List ℕ) Refusal) → Fits (reads_of w.mode) all found → (a : Answer) × Says (Some w) all a
    go (Ok read) h = let next = some_as w.mode w keeps read all h in (next.0, (Ok read, h, next.1))
    go (Err f) h = (Err f, (Err f, h, refl))

-- ---- of all words

pub one_answer_to : OneAnswer
one_answer_to texts all = go (reading texts) refl
  where
    go : (o : Option Words) → reading texts ≡ o → HasOneAnswer o all
    go None is =
        record {
          answer = Err refusals.Usage;
          says = refl;
          only = λ other a h. h;
          alike = λ a h. same_end a (Err refusals.Usage) h;
        }
    go (Some w) is =
        let one = some_says w (reading_keeps texts w is) all in
        record {
          answer = one.0;
          says = one.1;
          only = λ other a h. one_says (Some w) other all a one.0 h one.1;
          alike = λ a h. all_alike (Some w) all a one.0 h one.1;
        }
