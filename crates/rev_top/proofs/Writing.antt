-- What is written is what is shown of the answers, by which the code goes.
use Rattle.std.proofs.Common.{◌≡◌, ◌∙◌, inl, inr, ℕ, Bool, true, false, List, [], length, if◌then◌else◌, refl, sym, ap, subst}
use Rattle.std.specs.Prelude.{◌==◌, codes, Option, Some, None, Result, Ok, Err}
use Rattle.rev_num.specs.declared.outcome.Outcome.{Outcome}
use Rattle.rev_words.specs.Load.{load_text}
use Rattle.rev_words.specs.declared.Mode.{Mode}
use Rattle.rev_words.specs.declared.Mode.TheVariants as modes
use Rattle.rev_words.specs.declared.Words.{Words}
use Rattle.rev_report.specs.Outcome.{report}
use Rattle.rev_report.specs.Report.{Output}
use Rattle.rev_report.specs.Modes.{summary}
use Rattle.rev_report.specs.Refusals.{refused, shown}
use Rattle.rev_report.specs.declared.fault.TextFault.TheVariants as fault
use Rattle.rev_report.specs.declared.refusal.Refusal.{Refusal}
use Rattle.rev_report.specs.declared.refusal.Refusal.TheVariants as refusals
use Rattle.rev_syntax.specs.Tokens.{IsFirstFault, IsTokens}
use Rattle.rev_syntax.specs.Trees.{ProgramTree}
use Rattle.rev_syntax.specs.declared.scan.LexFault.{LexFault}
use Rattle.rev_syntax.specs.declared.scan.LexFault.TheVariants as lex
use Rattle.rev_syntax.specs.declared.token.Token.{Token}
use Rattle.rev_parse.specs.Verdicts.{IsProgram, IsVerdict, Verdict, tree, unexpected, too_deep}
use Rattle.typed_programs.specs.FunRules as fun_rules
use Rattle.typed_programs.specs.Least.{Row}
use Rattle.typed_programs.specs.declared.fun_fault.MergeFault.{MergeFault}
use Rattle.typed_programs.specs.declared.fun_fault.MergeFault.TheVariants as fun
use Rattle.typed_programs.specs.Faults as type_rules
use Rattle.typed_programs.specs.declared.fault.TypeFault.{TypeFault}
use Rattle.typed_programs.specs.declared.fault.TypeFault.TheVariants as type
use Rattle.revision_calculus.specs.Complete.{HasOutcome}
use Rattle.static_rules.specs.Funs.{KeepsFunRules}
use Rattle.static_rules.specs.Breaks.{BreaksNone}
use Rattle.mode_reports.specs.Answer.{Accepts, Answer, Emits, Fits, Orders, Repeats, Replays, RunsTo, Says, SaysAs, Streams, Traces, reads_of, setting}
use Rattle.mode_reports.specs.Stages.{Onward, Then}
use Rattle.mode_reports.specs.Texts.{Checks, ChecksTokens, ChecksTree, Cuts, KeepsFuns, KeepsTypes, fault_at, place_in, reading, report_of_funs, report_of_lexical, report_of_types, unexpected_at}
use Rattle.rev_top.specs.Writes.{IsSound, OfRead, OfText, Refuses, Shown, Writes, WritesAs, WritingLaw, at_fault, bad_byte, bad_number, broken_fun_rule, broken_rule, many_levels, no_program, open_text, unexpected_name}
use Rattle.rev_top.proofs.Real.{funs_told, types_told}

some_is : (r s : Refusal) → Some s ≡ Some r → s ≡ r
some_is r s e = cc

-- a stage with no value
abbrev error : (X : Type 0) → Refusal → Result X Refusal
error X r = Err r

error_is : (X : Type 0) (r s : Refusal) → error X r ≡ error X s → s ≡ r
error_is X r s e = cc

-- ---- a fault, as a refusal and as what is written

unexpected_said : (text : List ℕ) (at : ℕ)
    → refused (fault_at text at (unexpected_at text at)) ≡ at_fault text at (unexpected_name text at)
unexpected_said text at = by (at == length text)
  where
    by : (b : Bool)
        → refused (fault_at text at (if b then fault.UnexpectedEnd else fault.UnexpectedToken))
        ≡ at_fault text at (if b then codes "unexpected end" else codes "unexpected token")
    by true = refl
    by false = refl

-- what is written of a row
abbrev row_fault : List ℕ → Row → Output
row_fault text row = at_fault text row.0 row.2

fun_said : (text : List ℕ) (f : MergeFault) (r : Refusal)
    → report_of_funs text f ≡ Some r → row_fault text (fun_rules.row f) ≡ refused r
fun_said text (fun.UnknownFun at) r e = ap refused (some_is r (fault_at text at fault.UnknownFun) e)
fun_said text (fun.LaterFun at) r e = ap refused (some_is r (fault_at text at fault.LaterFun) e)
fun_said text (fun.Arity at) r e = ap refused (some_is r (fault_at text at fault.ArgumentCount) e)
fun_said text fun.OutOfMemory r e = cc

rule_said : (text : List ℕ) (f : TypeFault) (r : Refusal)
    → report_of_types text f ≡ Some r → row_fault text (type_rules.row f) ≡ refused r
rule_said text (type.UnknownName at) r e = ap refused (some_is r (fault_at text at fault.UnknownName) e)
rule_said text (type.Redeclared at) r e = ap refused (some_is r (fault_at text at fault.Redeclared) e)
rule_said text (type.WrongType at) r e = ap refused (some_is r (fault_at text at fault.WrongType) e)
rule_said text (type.WrongCount at) r e = ap refused (some_is r (fault_at text at fault.WrongCount) e)
rule_said text (type.NoReturn at) r e = ap refused (some_is r (fault_at text at fault.NoReturn) e)
rule_said text (type.LimitOf at which limit) r e =
    ap refused (some_is r (refusals.OverLimit (place_in text at) limit which) e)
rule_said text type.OutOfMemory r e = cc

-- ---- a text that is refused, from its answer on

module _ (text : List ℕ) where
  -- what is shown of this refusal is written
  abbrev Refused : Refusal → Type 0
  Refused r = Refuses text (refused r)

  lexical_to : (f : LexFault) → IsFirstFault text f → (r : Refusal) → report_of_lexical text f ≡ Some r → Refused r
  lexical_to (lex.BadByte at) h r e = subst Refused (some_is r (fault_at text at fault.BadByte) e) (bad_byte h)
  lexical_to (lex.BadNumber at) h r e = subst Refused (some_is r (fault_at text at fault.BadNumber) e) (bad_number h)
  lexical_to (lex.OpenText at) h r e = subst Refused (some_is r (fault_at text at fault.OpenText) e) (open_text h)
  lexical_to lex.OutOfMemory h r e = absurd h

  types_to : (ts : List Token) → IsTokens text ts → (p : ProgramTree) → IsProgram text ts p → KeepsFunRules p
      → (r : Refusal) → KeepsTypes text p (Err r) → Refused r
  types_to ts cut p parsed keeps r h =
      subst (λ (o : Output). Refuses text o) (rule_said text h.fault r h.reported)
      (broken_rule cut parsed keeps h.comes)

  funs_to : (ts : List Token) → IsTokens text ts → (p : ProgramTree) → IsProgram text ts p
      → (c : Result ProgramTree Refusal) → KeepsFuns text p c
      → (r : Refusal) → Onward (KeepsTypes text) c (Err r) → Refused r
  funs_to ts cut p parsed (Ok q) h r on =
      types_to ts cut p parsed h.1 r (subst (λ (x : ProgramTree). KeepsTypes text x (Err r)) h.0 on)
  funs_to ts cut p parsed (Err f) h r on =
      let told = subst (λ (o : Output). Refuses text o) (fun_said text h.fault f h.reported)
      (broken_fun_rule cut parsed h.comes) in
      subst Refused (error_is ProgramTree r f on) told

  verdict_to : (ts : List Token) → IsTokens text ts → (v : Verdict) → IsVerdict text ts v
      → (r : Refusal) → Onward (ChecksTree text) (reading text v) (Err r) → Refused r
  verdict_to ts cut (tree p) is r on = funs_to ts cut p is on.0 on.1 r on.2
  verdict_to ts cut (unexpected at) is r on =
      let told = subst (λ (o : Output). Refuses text o) (sym (unexpected_said text at)) (no_program cut is.1 is.2) in
      subst Refused (error_is ProgramTree r (fault_at text at (unexpected_at text at)) on) told
  verdict_to ts cut (too_deep at) is r on =
      subst Refused (error_is ProgramTree r (fault_at text at fault.TooDeep) on) (many_levels cut is.1 is.2)

  -- the tree that is read goes on as the verdict says
  read_as : (r s : Result ProgramTree Refusal) (a : Result ProgramTree Refusal)
      → r ≡ s → Onward (ChecksTree text) r a → Onward (ChecksTree text) s a
  read_as r s a is on = subst (λ (x : Result ProgramTree Refusal). Onward (ChecksTree text) x a) is on

  cut_to : (c : Result (List Token) Refusal) → Cuts text c
      → (r : Refusal) → Onward (ChecksTokens text) c (Err r) → Refused r
  cut_to (Ok ts) cut r on =
      verdict_to ts cut on.1.0 on.1.1 r (read_as on.0 (reading text on.1.0) (Err r) on.1.2 on.2)
  cut_to (Err f) h r on =
      subst Refused (error_is ProgramTree r f on) (lexical_to h.fault h.comes f h.reported)

  refuses : (r : Refusal) → Checks text (Err r) → Refused r
  unfolding Checks
  refuses r h = cut_to h.0 h.1 r h.2

  -- ---- a sound text

  abbrev Sound : ProgramTree → Type 0
  Sound q = (s : IsSound text) × (s.tree ≡ q)

  kept_sound : (ts : List Token) → IsTokens text ts → (p : ProgramTree) → IsProgram text ts p
      → (c : Result ProgramTree Refusal) → KeepsFuns text p c
      → (q : ProgramTree) → Onward (KeepsTypes text) c (Ok q) → Sound q
  kept_sound ts cut p parsed (Ok x) h q on =
      let rules : BreaksNone p = subst (λ (y : ProgramTree). BreaksNone y) h.0 on.1 in
      (record { tokens = ts; cut = cut; tree = p; parsed = parsed; funs = h.1; rules = rules }, sym (on.0 ∙ h.0))
  kept_sound ts cut p parsed (Err f) h q on = cc

  verdict_sound : (ts : List Token) → IsTokens text ts → (v : Verdict) → IsVerdict text ts v
      → (q : ProgramTree) → Onward (ChecksTree text) (reading text v) (Ok q) → Sound q
  verdict_sound ts cut (tree p) is q on = kept_sound ts cut p is on.0 on.1 q on.2
  verdict_sound ts cut (unexpected at) is q on = cc
  verdict_sound ts cut (too_deep at) is q on = cc

  cut_sound : (c : Result (List Token) Refusal) → Cuts text c
      → (q : ProgramTree) → Onward (ChecksTokens text) c (Ok q) → Sound q
  cut_sound (Ok ts) cut q on =
      verdict_sound ts cut on.1.0 on.1.1 q (read_as on.0 (reading text on.1.0) (Ok q) on.1.2 on.2)
  cut_sound (Err f) h q on = cc

  sound_of : (q : ProgramTree) → Checks text (Ok q) → Sound q
  unfolding Checks
  sound_of q h = cut_sound h.0 h.1 q h.2

  -- a sound text is what the top call takes as a program
  pub sound_checks : (s : IsSound text) → Checks text (Ok s.tree)
  unfolding Checks
  sound_checks s =
      (Ok s.tokens, s.cut, (Ok s.tree, (tree s.tree, s.parsed, refl), (Ok s.tree, (refl, s.funs), (refl, s.rules))))

  -- ---- and back

  -- the text is refused so, and this is shown of it
  abbrev RefusedAs : Output → Type 0
  RefusedAs o = (r : Refusal) × Checks text (Err r) × (o ≡ refused r)

  lexical_by : (f : LexFault) → IsFirstFault text f → (r : Refusal) → report_of_lexical text f ≡ Some r
      → RefusedAs (refused r)
  unfolding Checks
  lexical_by f h r e = (r, (Err r, record { fault = f; comes = h; reported = e }, refl), refl)

  verdict_by : (ts : List Token) → IsTokens text ts → (v : Verdict) → IsVerdict text ts v
      → (r : Refusal) → Onward (ChecksTree text) (reading text v) (Err r) → Checks text (Err r)
  unfolding Checks
  verdict_by ts cut v is r on = (Ok ts, cut, (reading text v, (v, is, refl), on))

  refused_by : (o : Output) → Refuses text o → RefusedAs o
  refused_by _ (bad_byte {at = at} h) = lexical_by (lex.BadByte at) h _ refl
  refused_by _ (bad_number {at = at} h) = lexical_by (lex.BadNumber at) h _ refl
  refused_by _ (open_text {at = at} h) = lexical_by (lex.OpenText at) h _ refl
  refused_by _ (no_program {ts = ts} {n = n} {at = at} cut is e) =
      let r = fault_at text at (unexpected_at text at) in
      (r, verdict_by ts cut (unexpected at) (n, is, e) r refl, sym (unexpected_said text at))
  refused_by _ (many_levels {ts = ts} {n = n} {at = at} cut is e) =
      let r = fault_at text at fault.TooDeep in (r, verdict_by ts cut (too_deep at) (n, is, e) r refl, refl)
  refused_by _ (broken_fun_rule {ts = ts} {p = p} {f = f} cut parsed first) =
      let told = funs_told text p f first.broken in
      let kept : KeepsFuns text p (Err told.0) = record { fault = f; comes = first; reported = told.1 } in
      (told.0, verdict_by ts cut (tree p) parsed told.0 (Err told.0, kept, refl), fun_said text f told.0 told.1)
  refused_by _ (broken_rule {ts = ts} {p = p} {f = f} cut parsed keeps first) =
      let told = types_told text p f first.broken in
      let kept : KeepsTypes text p (Err told.0) = record { fault = f; comes = first; reported = told.1 } in
      (told.0, verdict_by ts cut (tree p) parsed told.0 (Ok p, (refl, keeps), kept), rule_said text f told.0 told.1)

  -- ---- a text, and what comes behind it

  module _ (Second : ProgramTree → Answer → Type 0) (WritesOf : ProgramTree → Output → Type 0) where
    of_text : (a : Answer) → ((p : ProgramTree) → Second p a → WritesOf p (shown a))
        → Then (Checks text) Second a → OfText text WritesOf (shown a)
    of_text a to h = go h.0 h.1 h.2
      where
        go : (found : Result ProgramTree Refusal) → Checks text found → Onward Second found a
            → OfText text WritesOf (shown a)
        go (Ok p) c on =
            let s = sound_of p c in
            inr (s.0, subst (λ (q : ProgramTree). WritesOf q (shown a)) (sym s.1) (to p on))
        go (Err f) c on = inl (subst (λ (x : Answer). Refuses text (shown x)) (sym on) (refuses f c))

    to_text : (o : Output) → ((p : ProgramTree) → WritesOf p o → Shown (Second p) o)
        → OfText text WritesOf o → Shown (Then (Checks text) Second) o
    to_text o back (inl r) = let k = refused_by o r in (Err k.0, (Err k.0, k.1, refl), k.2)
    to_text o back (inr (s, t)) = let k = back s.tree t in (k.0, (Ok s.tree, sound_checks s, k.1), k.2)

-- ---- modes

abbrev answered : Output → Answer
answered o = Ok o

-- an answer that is no refusal is what is shown of it
plain : (Says : Answer → Type 0) → ((a : Answer) → Says a → (o : Output) × (a ≡ Ok o))
    → (a : Answer) → Says a → Says (Ok (shown a))
plain Says ok a h = let k = ok a h in subst Says (k.1 ∙ ap answered (sym (ap shown k.1))) h

gives : (a : Answer) (o : Output) → a ≡ Ok o → (o : Output) × (a ≡ Ok o)
gives a o e = (o, e)

-- what is written of an answer that is no refusal
abbrev Ended : (ProgramTree → Answer → Type 0) → ProgramTree → Output → Type 0
Ended Second p o = Second p (Ok o)

abbrev Reported : Words → ProgramTree → Output → Type 0
Reported w p o = (x : Outcome) × HasOutcome (setting w p) w.fuel x × (o ≡ report w.values x)

module _ (text : List ℕ) (Second : ProgramTree → Answer → Type 0) where
  plain_text : ((p : ProgramTree) (a : Answer) → Second p a → (o : Output) × (a ≡ Ok o))
      → (a : Answer) → Then (Checks text) Second a → OfText text (Ended Second) (shown a)
  plain_text ok a h = of_text text Second (Ended Second) a (λ p. plain (Second p) (ok p) a) h

  text_plain : (o : Output) → OfText text (Ended Second) o → Shown (Then (Checks text) Second) o
  text_plain o h = to_text text Second (Ended Second) o (λ p s. (Ok o, s, refl)) h

  shown_text : (a : Answer) → Then (Checks text) Second a → OfText text (λ p. Shown (Second p)) (shown a)
  shown_text a h = of_text text Second (λ p. Shown (Second p)) a (λ p s. (a, s, refl)) h

  text_shown : (o : Output) → OfText text (λ p. Shown (Second p)) o → Shown (Then (Checks text) Second) o
  text_shown o h = to_text text Second (λ p. Shown (Second p)) o (λ p s. s) h

-- a line for each mode, here and below
writes_as : (m : Mode) (w : Words) (read : List ℕ) (a : Answer) → SaysAs m w read a → WritesAs m w read (shown a)
unfolding SaysAs WritesAs
writes_as modes.Run w read a h =
    of_text read (RunsTo w (report w.values)) (Reported w) a (λ p r. (r.0, r.1, ap shown r.2)) h
writes_as modes.Check w read a h = plain_text read Accepts (λ p b k. gives b _ k) a h
writes_as modes.Load w read a h =
    plain_text (load_text w.seed w.size) (RunsTo w (summary w.seed w.size)) (λ p b k. gives b _ k.2) a h
writes_as modes.Dis w read a h = (a, h, refl)
writes_as modes.Exec w read a h = (a, h, refl)
writes_as modes.Emit w read a h = plain_text read Emits (λ p b k. gives b _ k) a h
writes_as modes.Trace w read a h = plain_text read (Traces w) (λ p b k. gives b _ k.writes) a h
writes_as modes.Audit w read a h = (a, h, refl)
writes_as modes.Replay w read a h = shown_text read (Replays w) a h
writes_as modes.Order w read a h = plain_text read (Orders w) (λ p b k. gives b _ k.writes) a h
writes_as modes.Stream w read a h = shown_text read (Streams w read) a h
writes_as modes.Repeat w read a h = plain_text read (Repeats w) (λ p b k. gives b _ k.writes) a h

says_as : (m : Mode) (w : Words) (read : List ℕ) (o : Output) → WritesAs m w read o → Shown (SaysAs m w read) o
unfolding SaysAs WritesAs
says_as modes.Run w read o h =
    to_text read (RunsTo w (report w.values)) (Reported w) o
    (λ p r. (Ok (report w.values r.0), (r.0, r.1, refl), r.2)) h
says_as modes.Check w read o h = text_plain read Accepts o h
says_as modes.Load w read o h = text_plain (load_text w.seed w.size) (RunsTo w (summary w.seed w.size)) o h
says_as modes.Dis w read o h = h
says_as modes.Exec w read o h = h
says_as modes.Emit w read o h = text_plain read Emits o h
says_as modes.Trace w read o h = text_plain read (Traces w) o h
says_as modes.Audit w read o h = h
says_as modes.Replay w read o h = text_shown read (Replays w) o h
says_as modes.Order w read o h = text_plain read (Orders w) o h
says_as modes.Stream w read o h = text_shown read (Streams w read) o h
says_as modes.Repeat w read o h = text_plain read (Repeats w) o h

-- ---- the whole

module _ (Says : List ℕ → Answer → Type 0) (WritesOf : List ℕ → Output → Type 0) (all : List ℕ) where
  of_read : (r : Option ℕ) (a : Answer) → ((read : List ℕ) → Says read a → WritesOf read (shown a))
      → Then (Fits r all) Says a → OfRead r all WritesOf (shown a)
  of_read r a to h = go r h.0 h.1 h.2
    where
      moved : (read other : List ℕ) → read ≡ other → Says read a → WritesOf other (shown a)
      moved read other is s = subst (λ (z : List ℕ). WritesOf z (shown a)) is (to read s)

      go : (r : Option ℕ) (found : Result (List ℕ) Refusal) → Fits r all found → Onward Says found a
          → OfRead r all WritesOf (shown a)
      go None (Ok read) fit on = let e : read ≡ [] = cc in moved read [] e on
      go None (Err f) fit on = cc
      go (Some limit) (Ok read) fit on = inl (fit.1, moved read all fit.0 on)
      go (Some limit) (Err f) fit on = inr (fit.1, ap shown on ∙ ap refused fit.0)

  to_read : (r : Option ℕ) (o : Output) → ((read : List ℕ) → WritesOf read o → Shown (Says read) o)
      → OfRead r all WritesOf o → Shown (Then (Fits r all) Says) o
  to_read None o back h = let k = back [] h in (k.0, (Ok [], refl, k.1), k.2)
  to_read (Some limit) o back (inl h) = let k = back all h.1 in (k.0, (Ok all, (refl, h.0), k.1), k.2)
  to_read (Some limit) o back (inr h) = (Err refusals.TooLong, (Err refusals.TooLong, (refl, h.0), refl), h.1)

pub written : (words : Option Words) (all : List ℕ) (a : Answer) → Says words all a → Writes words all (shown a)
written None all a h = ap shown h
written (Some w) all a h =
    of_read (SaysAs w.mode w) (WritesAs w.mode w) all (reads_of w.mode) a (λ read s. writes_as w.mode w read a s) h

pub said : (words : Option Words) (all : List ℕ) (o : Output) → Writes words all o → Shown (Says words all) o
said None all o h = (Err refusals.Usage, refl, h)
said (Some w) all o h =
    to_read (SaysAs w.mode w) (WritesAs w.mode w) all (reads_of w.mode) o (λ read t. says_as w.mode w read o t) h

pub writing : WritingLaw
writing words all o =
    (said words all o, λ k. subst (λ (x : Output). Writes words all x) (sym k.2) (written words all k.0 k.1))
