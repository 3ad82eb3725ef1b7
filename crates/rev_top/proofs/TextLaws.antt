-- The text of `load` is accepted, no program begins a trace, and a run's own trace is audited to `yes`.
use Rattle.std.proofs.Common.{◌≡◌, ◌∙◌, ◌⊎◌, inl, inr, ◌≤◌, ◌<◌, ◌+◌, ℕ, zero, suc, Bool, true, false, nat_le, List, [], ◌∷◌, ◌++◌, length, refl, sym, ap, subst, arith, rules}
use Rattle.std.specs.Prelude.{ℤ, Option, Some, None, Result, Ok, Err, codes, not, nat_eq, option_and_then, option_map, slice_get, unwrap_or, if◌then◌else◌}
use Rattle.std.specs.List.{list_all}
use Rattle.std.proofs.lemmas.Bool.{and_parts}
use Rattle.std.proofs.lemmas.List.{append_assoc, append-nil}
use Rattle.rev_words.specs.Load.{load_text}
use Rattle.clap.specs.Words.{Row, all_of, first_of, matches_of}
use Rattle.block_run.specs.Agreement.{AreInputs}
use Rattle.rev_num.specs.Arith.{fits_i64}
use Rattle.rev_num.specs.Decimal.{decimal_in}
use Rattle.rev_num.specs.Limits.{most_fuel}
use Rattle.rev_num.proofs.Decimals.{decimal_in-is}
use Rattle.rev_words.specs.Command.{command}
use Rattle.rev_words.specs.Numbers.{few_numbers_in, list_in, numbers_in}
use Rattle.rev_words.specs.Reading.{◌>>=◌, KeepsRanges, is_taken, mode_named, reading, said, setting as option_of}
use Rattle.rev_words.specs.Schedule.{schedule_in}
use Rattle.rev_words.proofs.Ranges.{reading_keeps}
use Rattle.rev_words.specs.declared.Mode.{Mode}
use Rattle.rev_words.specs.declared.Mode.TheVariants as modes
use Rattle.rev_words.specs.declared.Words.{Words}
use Rattle.rev_num.specs.declared.outcome.Outcome.{Outcome}
use Rattle.rev_num.specs.declared.outcome.Outcome.TheVariants as o
use Rattle.rev_report.specs.Modes.{agreed, summary}
use Rattle.rev_report.specs.Refusals.{shown}
use Rattle.rev_report.specs.declared.refusal.Refusal.{Refusal}
use Rattle.rev_syntax.specs.Trees.{ProgramTree}
use Rattle.rev_syntax.specs.declared.token.Token.{Token}
use Rattle.rev_syntax.specs.Tokens.{IsTokens}
use Rattle.rev_parse.specs.Verdicts.{Verdict, tree, unexpected, too_deep, IsProgram, IsVerdict}
use Rattle.static_rules.proofs.Fronts.{none_broken}
use Rattle.trace_diagram.specs.Traces.{IsWholeLines, ended, first_line, trace_text}
use Rattle.trace_diagram.specs.Dividing.{BeginsTrace, Divides, IsCutAt, with_trace}
use Rattle.audit_rules.proofs.TracesAsParts.{trace_has_yes}
use Rattle.audit_rules.specs.declared.verdict.Verdict.TheVariants as verdict
use Rattle.program_texts.proofs.Lines.{no_trace_line}
use Rattle.program_texts.proofs.LoadPrograms.{load_programs}
use Rattle.program_texts.proofs.Programs.{texts_written}
use Rattle.program_texts.proofs.Traces.{traces_have_form}
use Rattle.rev_top.specs.Accepted.{IsSound}
use Rattle.mode_reports.specs.Answer.{Answer, AuditsTrace, Fits, RunsTo, SaysAs, reads_of, setting}
use Rattle.rev_top.specs.RanLaws.{IsRunStatus}
use Rattle.mode_reports.specs.Stages.{Onward, Then}
use Rattle.rev_top.specs.TextLaws.{AuditsOwnTrace, LoadEndsAsRuns, LoadIsAccepted, NoProgramBeginsATrace, TraceHasForm}
use Rattle.mode_reports.specs.Texts.{Checks, ChecksTokens, ChecksTree, Cuts, reading as read_of}
use Rattle.rev_top.proofs.Writing.{sound_checks}
use Rattle.mode_reports.proofs.Faults.{one_check}
use Rattle.rev_top.proofs.OneAnswers.{accepted_of}

-- ---- the text of `load`

pub load_accepted : LoadIsAccepted
load_accepted seed size least most =
    let k = load_programs seed size least most in
    let sound : IsSound (load_text seed size) = record {
      tokens = k.tokens;
      cut = k.cut;
      tree = k.tree;
      parsed = k.parsed;
      funs = k.funs;
      rules = none_broken k.tree k.typed;
    } in
    (k.tree, sound_checks (load_text seed size) sound)

summary_ends : (seed size : ℕ) (x : Outcome) → IsRunStatus (summary seed size x).status
summary_ends seed size (o.Done text values) = inl refl
summary_ends seed size (o.Trapped text values t) = inr (inl refl)
summary_ends seed size o.Twice = inr (inr refl)

module _ (w : Words) (keeps : KeepsRanges w) where
  of_run : (p : ProgramTree) (a : Answer) → RunsTo w (summary w.seed w.size) p a → IsRunStatus (shown a).status
  of_run p a h = subst (λ (x : Answer). IsRunStatus (shown x).status) (sym h.2) (summary_ends w.seed w.size h.0)

  of_check : (a : Answer) (c : Result ProgramTree Refusal) → Checks (load_text w.seed w.size) c
      → Onward (RunsTo w (summary w.seed w.size)) c a → IsRunStatus (shown a).status
  of_check a (Ok p) h on = of_run p a on
  of_check a (Err f) h on =
      let k = load_accepted w.seed w.size keeps.size.0 keeps.size.1 in
      let e = one_check (load_text w.seed w.size) (Ok k.0) (Err f) k.1 h in cc

  of_load : (read : List ℕ) (a : Answer) → SaysAs modes.Load w read a → IsRunStatus (shown a).status
  unfolding SaysAs
  of_load read a h = of_check a h.0 h.1 h.2

  of_fit : (all : List ℕ) (a : Answer) (found : Result (List ℕ) Refusal) → Fits None all found
      → Onward (SaysAs modes.Load w) found a → IsRunStatus (shown a).status
  of_fit all a found fit on =
      let k : SaysAs modes.Load w [] a =
      subst (λ (x : Result (List ℕ) Refusal). Onward (SaysAs modes.Load w) x a) fit on in
      of_load [] a k

  of_mode : (m : Mode) → m ≡ modes.Load → (all : List ℕ) (a : Answer) → Then (Fits (reads_of m) all) (SaysAs m w) a
      → IsRunStatus (shown a).status
  of_mode m is all a h =
      let k = subst (λ (x : Mode). Then (Fits (reads_of x) all) (SaysAs x w) a) is h in of_fit all a k.0 k.1 k.2

pub load_ends : LoadEndsAsRuns
load_ends w keeps is all a h = of_mode w keeps w.mode is all a h

-- ---- no program begins a trace

record HasProgram (text : List ℕ) (p : ProgramTree) : Type 0 where
  tokens : List Token
  cut : IsTokens text tokens
  parsed : IsProgram text tokens p

module _ (text : List ℕ) where
  of_tree : (ts : List Token) → IsTokens text ts → (q p : ProgramTree) → IsProgram text ts q
      → Onward (ChecksTree text) (Ok q) (Ok p) → HasProgram text p
  of_tree ts cut q p h (Ok r, kept, (same, none)) =
      let e : q ≡ p = sym (same ∙ kept.0) in
      record { tokens = ts; cut = cut; parsed = subst (λ (x : ProgramTree). IsProgram text ts x) e h }
  of_tree ts cut q p h (Err f, kept, on) = cc

  of_verdict : (ts : List Token) → IsTokens text ts → (p : ProgramTree) (v : Verdict) → IsVerdict text ts v
      → (r : Result ProgramTree Refusal) → r ≡ read_of text v → Onward (ChecksTree text) r (Ok p) → HasProgram text p
  of_verdict ts cut p (tree q) h r is on =
      of_tree ts cut q p h (subst (λ (x : Result ProgramTree Refusal). Onward (ChecksTree text) x (Ok p)) is on)
  of_verdict ts cut p (unexpected at) h r is on =
      let e : Onward (ChecksTree text) (read_of text (unexpected at)) (Ok p) =
      subst (λ (x : Result ProgramTree Refusal). Onward (ChecksTree text) x (Ok p)) is on in
      cc
  of_verdict ts cut p (too_deep at) h r is on =
      let e : Onward (ChecksTree text) (read_of text (too_deep at)) (Ok p) =
      subst (λ (x : Result ProgramTree Refusal). Onward (ChecksTree text) x (Ok p)) is on in
      cc

  of_cut : (p : ProgramTree) (c : Result (List Token) Refusal) → Cuts text c → Onward (ChecksTokens text) c (Ok p)
      → HasProgram text p
  of_cut p (Ok ts) cut on = of_verdict ts cut p on.1.0 on.1.1 on.0 on.1.2 on.2
  of_cut p (Err f) cut on = cc

  has_program : (p : ProgramTree) → Checks text (Ok p) → HasProgram text p
  unfolding Checks
  has_program p h = of_cut p h.0 h.1 h.2

pub none_begins : NoProgramBeginsATrace
none_begins text p h front back cut =
    let k = has_program text p h in no_trace_line text k.tokens p k.cut k.parsed front back cut

-- ---- where the trace behind a text begins

-- behind so many bytes of the text more of it stands
record Rest (front text trace back : List ℕ) : Type 0 where
  first : ℕ
  more : List ℕ
  is : text ≡ front ++ first ∷ more
  behind : back ≡ (first ∷ more) ++ trace

rest_of : (front text trace back : List ℕ) → text ++ trace ≡ front ++ back → length front < length text
    → Rest front text trace back
rest_of [] (b ∷ text) trace back e less = record { first = b; more = text; is = refl; behind = sym e }
rest_of front [] trace back e less = absurd (omega (arith, less))
rest_of (c ∷ front) (b ∷ text) trace back e less =
    let same : b ≡ c = cc in
    let tail : text ++ trace ≡ front ++ back = cc in
    let r = rest_of front text trace back tail (omega (arith, less)) in
    record {
      first = r.first;
      more = r.more;
      is = ap (λ (x : ℕ). x ∷ text) same ∙ ap (λ (l : List ℕ). c ∷ l) r.is;
      behind = r.behind;
    }

-- whole lines behind whole lines
whole_rest : (front : List ℕ) (first : ℕ) (more : List ℕ) → IsWholeLines (front ++ first ∷ more)
    → (g : List ℕ) × (first ∷ more ≡ ended g)
whole_rest [] first more (inl none) = absurd cc
whole_rest [] first more (inr h) = h
whole_rest (b ∷ front) first more (inl none) = absurd cc
whole_rest (b ∷ []) first more (inr ([], is)) = absurd cc
whole_rest (b ∷ c ∷ front) first more (inr ([], is)) = absurd cc
whole_rest (b ∷ front) first more (inr (x ∷ g, is)) =
    let tail : front ++ first ∷ more ≡ ended g = cc in whole_rest front first more (inr (g, tail))

abbrev is_on_a_line : List ℕ → Bool
is_on_a_line w = list_all (λ b. not (nat_eq b 10)) w

no_feed : (w : List ℕ) (b : ℕ) → 10 ≡ b → is_on_a_line (b ∷ w) ≡ true → ⊥
no_feed w b ten line = subst (λ (n : ℕ). is_on_a_line (n ∷ w) ≡ true → ⊥) ten (λ h. cc) line

-- what has no line feed, and stands at the front of whole lines and more, stands at the front of the lines
within : (w g trace rest : List ℕ) → is_on_a_line w ≡ true → ended g ++ trace ≡ w ++ rest
    → (h : List ℕ) × (ended g ≡ w ++ h) × (rest ≡ h ++ trace)
within [] g trace rest line e = (ended g, refl, sym e)
within (b ∷ w) [] trace rest line e = let ten : 10 ≡ b = cc in absurd (no_feed w b ten line)
within (b ∷ w) (c ∷ g) trace rest line e =
    let same : c ≡ b = cc in
    let tail : ended g ++ trace ≡ w ++ rest = cc in
    let parts = and_parts (not (nat_eq b 10)) (is_on_a_line w) line in
    let k = within w g trace rest parts.1 tail in
    (k.0, ap (λ (x : ℕ). x ∷ ended g) same ∙ ap (λ (l : List ℕ). b ∷ l) k.1, k.2)

begins_here : (g h trace rest : List ℕ) → ended g ≡ first_line ++ h → ([] ≡ h ++ trace) ⊎ (10 ∷ rest ≡ h ++ trace)
    → BeginsTrace (ended g)
begins_here g [] trace rest e k = inl (e ∙ append-nil first_line)
begins_here g (x ∷ h) trace rest e (inl k) = absurd cc
begins_here g (x ∷ h) trace rest e (inr k) =
    let ten : x ≡ 10 = cc in
    inr (h, e ∙ ap (λ (y : ℕ). first_line ++ y ∷ h) ten ∙ sym (append_assoc first_line (10 ∷ []) h))

-- whole lines that begin a trace with what stands behind them begin it themselves
begins_within : (g trace back : List ℕ) → back ≡ ended g ++ trace → BeginsTrace back → BeginsTrace (ended g)
begins_within g trace back is (inl e) =
    let k = within first_line g trace [] refl (sym is ∙ e ∙ sym (append-nil first_line)) in
    begins_here g k.0 trace [] k.1 (inl k.2)
begins_within g trace back is (inr h) =
    let k = within first_line g trace (10 ∷ h.0) refl (sym is ∙ h.1 ∙ append_assoc first_line (10 ∷ []) h.0) in
    begins_here g k.0 trace h.0 k.1 (inr k.2)

module _ (text : List ℕ) (p : ProgramTree) (checked : Checks text (Ok p)) (whole : IsWholeLines text)
    (trace : List ℕ) where
  no_earlier : (front back : List ℕ) → IsCutAt (text ++ trace) front back → length front < length text → ⊥
  no_earlier front back cut less =
      let r = rest_of front text trace back cut.is less in
      let g = whole_rest front r.first r.more (subst IsWholeLines r.is whole) in
      let behind : back ≡ ended g.0 ++ trace = r.behind ∙ ap (λ (l : List ℕ). l ++ trace) g.1 in
      let here : IsCutAt text front (ended g.0) = record {
        is = r.is ∙ ap (λ (l : List ℕ). front ++ l) g.1;
        whole = cut.whole;
        begins = begins_within g.0 trace back behind cut.begins;
      } in
      none_begins text p checked front (ended g.0) here

  pub divides : BeginsTrace trace → Divides (text ++ trace) text trace
  divides begins =
      with_trace (record { is = refl; whole = whole; begins = begins })
      (λ front back cut. go front back cut (nat_le (length text) (length front)) refl)
    where
      go : (front back : List ℕ) → IsCutAt (text ++ trace) front back → (b : Bool)
          → nat_le (length text) (length front) ≡ b → length text ≤ length front
      go front back cut true is = grind (arith, rules)
      go front back cut false is = absurd (no_earlier front back cut (grind (arith, rules)))

-- ---- the form of a trace

some_is : {A : Type 0} {a b : A} → Some a ≡ Some b → a ≡ b
some_is e = cc

none_is : {A B : Type 0} {b : A} → None ≡ Some b → B
none_is e = absurd cc

-- where a step of a reading gives something, so did what stands before it
record Given {A B : Type 0} (o : Option A) (f : A → Option B) (b : B) : Type 0 where
  value : A
  is : o ≡ Some value
  next : f value ≡ Some b

given : {A B : Type 0} (o : Option A) (f : A → Option B) (b : B) → (o >>= f) ≡ Some b → Given o f b
given None f b e = none_is e
given (Some a) f b e = record { value = a; is = refl; next = e }

each_fits : (texts : List (List ℕ)) (zs : List ℤ) → numbers_in texts ≡ Some zs → (n : ℕ) (z : ℤ)
    → slice_get zs n ≡ Some z → fits_i64 z ≡ true
each_fits [] zs e n z h = let none : [] ≡ zs = some_is e in none_is (ap (λ (l : List ℤ). slice_get l n) none ∙ h)
each_fits (x ∷ texts) zs e n z h =
    by (λ rest later k g. each_fits texts rest later k z g) (decimal_in x) refl (numbers_in texts) refl e
  where
    Rest : Type 0
    Rest = (rest : List ℤ) → numbers_in texts ≡ Some rest → (k : ℕ) → slice_get rest k ≡ Some z → fits_i64 z ≡ true

    here : Rest → (first : ℤ) (rest : List ℤ) → decimal_in x ≡ Some first → numbers_in texts ≡ Some rest → (k : ℕ)
        → slice_get (first ∷ rest) k ≡ Some z → fits_i64 z ≡ true
    here each first rest read later zero g =
        let is : first ≡ z = some_is g in subst (λ (y : ℤ). fits_i64 y ≡ true) is (decimal_in-is x first read).0
    here each first rest read later (suc k) g = each rest later k g

    by : Rest → (o : Option ℤ) → decimal_in x ≡ o → (r : Option (List ℤ)) → numbers_in texts ≡ r
        → option_and_then (λ y. option_map (λ ys. y ∷ ys) r) o ≡ Some zs → fits_i64 z ≡ true
    by each None read r later g = none_is g
    by each (Some first) read None later g = none_is g
    by each (Some first) read (Some rest) later g =
        let is : first ∷ rest ≡ zs = some_is g in
        here each first rest read later n (ap (λ (l : List ℤ). slice_get l n) is ∙ h)

few_fit : (texts : List (List ℕ)) (zs : List ℤ) → few_numbers_in texts ≡ Some zs → (n : ℕ) (z : ℤ)
    → slice_get zs n ≡ Some z → fits_i64 z ≡ true
few_fit texts zs e n z h = by (nat_le (length texts) 1024) e
  where
    by : (b : Bool) → (if b then numbers_in texts else None) ≡ Some zs → fits_i64 z ≡ true
    by true g = each_fits texts zs g n z h
    by false g = none_is g

said_numbers : (rows : List Row) (w : Words) → said rows ≡ Some w
    → few_numbers_in (unwrap_or (all_of (codes "numbers") rows) []) ≡ Some w.numbers
said_numbers rows w h =
    let mode = given (option_and_then mode_named (first_of (codes "mode") rows)) _ w h in
    let numbers = given (few_numbers_in (unwrap_or (all_of (codes "numbers") rows) [])) _ w mode.next in
    let workers = given (option_of 1 64 4 (first_of (codes "workers") rows)) _ w numbers.next in
    let segments = given (option_of 0 65536 1024 (first_of (codes "segments") rows)) _ w workers.next in
    let fuel = given (option_of 1 most_fuel 1000000000 (first_of (codes "fuel") rows)) _ w segments.next in
    let share = given (option_of 0 most_fuel 1000000 (first_of (codes "share") rows)) _ w fuel.next in
    let schedule = given (schedule_in (unwrap_or (first_of (codes "schedule") rows) [])) _ w share.next in
    let before = given (list_in (unwrap_or (first_of (codes "before") rows) [])) _ w schedule.next in
    let seed = given (option_of 0 2147483647 1 (first_of (codes "seed") rows)) _ w before.next in
    let size = given (option_of 1 500 200 (first_of (codes "size") rows)) _ w seed.next in
    numbers.is ∙ ap (λ (v : Words). Some v.numbers) (some_is size.next)

reading_inputs : (texts : List (List ℕ)) (w : Words) → reading texts ≡ Some w → AreInputs w.numbers
reading_inputs texts w h = (
  λ n z e. few_fit (unwrap_or (all_of (codes "numbers") (matches_of command texts)) []) w.numbers
      (by (is_taken texts) h) n z e,
  (let few = (reading_keeps texts w h).numbers in omega (arith, few)),
)
  where
    by : (b : Bool) → (if b then said (matches_of command texts) else None) ≡ Some w
        → few_numbers_in (unwrap_or (all_of (codes "numbers") (matches_of command texts)) []) ≡ Some w.numbers
    by true g = said_numbers (matches_of command texts) w g
    by false g = none_is g

pub has_form : TraceHasForm
has_form words w is text p checked short t has =
    let k = has_program text p checked in
    let most = (reading_keeps words w is).fuel.1 in
    traces_have_form (setting w p) w.fuel (accepted_of text short p checked)
    (texts_written text k.tokens p k.cut short k.parsed) (reading_inputs words w is) most has.by has.end t has.complete
    (has.each has.by has.end has.complete)

-- ---- the audit of a run's own trace

pub audits_own : AuditsOwnTrace
unfolding SaysAs
audits_own words w said is text p checked whole short t has fits =
    subst (λ (m : Mode). Then (Fits (reads_of m) all) (SaysAs m w) (Ok agreed)) (sym is) (Ok all, (refl, fits), answers)
  where
    all : List ℕ
    all = text ++ trace_text t

    begins : BeginsTrace (trace_text t)
    begins = inr (_, refl)

    audited : AuditsTrace w (trace_text t) p (Ok agreed)
    audited = (
      Ok t,
      record { form = has_form words w said text p checked short t has; text = refl },
      (
        verdict.Yes,
        trace_has_yes (setting w p) w.fuel (accepted_of text short p checked) has.by has.end t.parts t.parts
            has.complete (has.each has.by has.end has.complete) refl,
        refl,
      ),
    )

    answers : SaysAs modes.Audit w all (Ok agreed)
    answers = (
      Ok (record { text = text; trace = trace_text t }),
      (divides text p checked whole (trace_text t) begins, short),
      (Ok p, checked, audited),
    )
