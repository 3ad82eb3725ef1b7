-- A text has one reading at most: one tree that keeps all rules, or one first fault.
use Rattle.std.proofs.Common.{◌≡◌, ◌≢◌, ◌∙◌, ℕ, refl, sym, subst, ap, List, nat_eq, if◌then◌else◌}
use Rattle.std.specs.Prelude.{Option, Some, None, Ok, Err}
use Rattle.rev_syntax.specs.Trees.{ProgramTree}
use Rattle.rev_syntax.specs.Tokens.{IsFirstFault}
use Rattle.rev_syntax.specs.declared.token.Token.{Token}
use Rattle.rev_syntax.specs.declared.scan.LexFault.{LexFault}
use Rattle.rev_syntax.specs.declared.scan.LexFault.TheVariants as lex
use Rattle.rev_syntax.proofs.Unique.{one-list, one-fault, no-fault}
use Rattle.rev_parse.specs.Verdicts.{Verdict, tree, unexpected, too_deep}
use Rattle.rev_parse.specs.Parsing.{Parses}
use Rattle.rev_parse.specs.declared.whole.SyntaxFault.{SyntaxFault}
use Rattle.rev_parse.specs.declared.whole.SyntaxFault.TheVariants as syntax
use Rattle.rev_parse.proofs.OneVerdict.{one_verdict}
use Rattle.typed_programs.specs.Least.{Among, IsFirst}
use Rattle.typed_programs.proofs.Firsts.{no_first, one_first}
use Rattle.typed_programs.specs.FunRules as funs
use Rattle.typed_programs.specs.Expands as expands
use Rattle.typed_programs.specs.declared.fun_fault.MergeFault.{MergeFault}
use Rattle.typed_programs.specs.declared.fun_fault.MergeFault.TheVariants as fun
use Rattle.typed_programs.specs.Faults as types
use Rattle.typed_programs.specs.declared.fault.TypeFault.{TypeFault}
use Rattle.typed_programs.specs.declared.fault.TypeFault.TheVariants as type
use Rattle.rev_report.specs.Limits.{most}
use Rattle.rev_report.specs.declared.limit.Limit.{Limit}
use Rattle.rev_report.specs.declared.limit.Limit.TheVariants as limits
use Rattle.typed_programs.specs.Program as program
use Rattle.rev_types.specs.Tables as tables
use Rattle.rev_types.proofs.OwnLimits.{own_limits}
use Rattle.rev_report.specs.declared.fault.TextFault.TheVariants as fault
use Rattle.rev_report.specs.declared.refusal.Refusal.{Refusal}
use Rattle.rev_report.specs.declared.refusal.Refusal.TheVariants as refusals
use Rattle.rev_report.specs.Refusals.{status_of}
use Rattle.static_rules.specs.Funs.{IsFirstBrokenFun}
use Rattle.static_rules.specs.Breaks.{IsFirstBroken}
use Rattle.static_rules.proofs.FunFaults.{same_first_fun}
use Rattle.static_rules.proofs.Fronts.{none_listed, same_first}
use Rattle.mode_reports.specs.Stops.{Meets, report_of_syntax, stop_of}
use Rattle.mode_reports.specs.Stages.{Reports}
use Rattle.mode_reports.specs.Texts.{Checks, ChecksTokens, ChecksTree, Cuts, KeepsFuns, KeepsTypes, Reads, fault_at, place_in, reading, report_of_funs, report_of_lexical, report_of_types, unexpected_at}
use Rattle.mode_reports.specs.declared.stop.Stop.{Stop}
use Rattle.mode_reports.proofs.Stages.{One, one_then, refusal_of, refuses}

-- ---- the first of some faults is reported in one way

module _ {F : Type 0} (place rank : F → ℕ) (report : F → Option Refusal) (by : ℕ → ℕ → Option Refusal) (fs : List F)
    (by_rank : (f : F) → Among fs f → report f ≡ by (place f) (rank f)) where
  one_report : (r s : Refusal) → Reports (IsFirst place rank fs) report r → Reports (IsFirst place rank fs) report s
      → r ≡ s
  one_report r s h k =
      let both = one_first place rank fs h.fault k.fault h.comes k.comes in
      let same : by (place h.fault) (rank h.fault) ≡ by (place k.fault) (rank k.fault) =
      ap (λ n. by n (rank h.fault)) both.0 ∙ ap (λ n. by (place k.fault) n) both.1 in
      let some : Some r ≡ Some s =
      sym h.reported ∙ by_rank h.fault h.comes.among ∙ same ∙ sym (by_rank k.fault k.comes.among) ∙ k.reported in
      cc

-- the report of a fault by its place and its rank
funs_by : List ℕ → ℕ → ℕ → Option Refusal
funs_by text at n =
    if nat_eq n 1 then Some (fault_at text at fault.UnknownFun) else
    (if nat_eq n 2 then Some (fault_at text at fault.LaterFun) else
    (if nat_eq n 3 then Some (fault_at text at fault.ArgumentCount) else None))

funs_by_rank : (text : List ℕ) (f : MergeFault) → report_of_funs text f ≡ funs_by text (funs.place f) (funs.rank f)
unfolding funs_by
funs_by_rank text (fun.UnknownFun at) = refl
funs_by_rank text (fun.LaterFun at) = refl
funs_by_rank text (fun.Arity at) = refl
funs_by_rank text fun.OutOfMemory = refl

over : List ℕ → ℕ → Limit → Option Refusal
over text at w = Some (refusals.OverLimit (place_in text at) (most w) w)

limits_by : List ℕ → ℕ → ℕ → Option Refusal
limits_by text at n =
    if nat_eq n 6 then over text at limits.Locations else
    (if nat_eq n 7 then over text at limits.Procedures else
    (if nat_eq n 8 then over text at limits.Funs else
    (if nat_eq n 9 then over text at limits.Parameters else
    (if nat_eq n 10 then over text at limits.Locals else
    (if nat_eq n 11 then over text at limits.Items else
    (if nat_eq n 12 then over text at limits.Weight else None))))))

types_by : List ℕ → ℕ → ℕ → Option Refusal
types_by text at n =
    if nat_eq n 1 then Some (fault_at text at fault.UnknownName) else
    (if nat_eq n 2 then Some (fault_at text at fault.Redeclared) else
    (if nat_eq n 3 then Some (fault_at text at fault.WrongType) else
    (if nat_eq n 4 then Some (fault_at text at fault.WrongCount) else
    (if nat_eq n 5 then Some (fault_at text at fault.NoReturn) else limits_by text at n))))

limits_by_rank : (text : List ℕ) (at : ℕ) (w : Limit) → over text at w ≡ types_by text at (types.order w)
unfolding limits_by types_by
limits_by_rank text at limits.Locations = refl
limits_by_rank text at limits.Procedures = refl
limits_by_rank text at limits.Funs = refl
limits_by_rank text at limits.Parameters = refl
limits_by_rank text at limits.Locals = refl
limits_by_rank text at limits.Items = refl
limits_by_rank text at limits.Weight = refl

types_by_rank : (text : List ℕ) (f : TypeFault) → types.HasLimit f
    → report_of_types text f ≡ types_by text (types.place f) (types.rank f)
unfolding over limits_by types_by
types_by_rank text (type.UnknownName at) own = refl
types_by_rank text (type.Redeclared at) own = refl
types_by_rank text (type.WrongType at) own = refl
types_by_rank text (type.WrongCount at) own = refl
types_by_rank text (type.NoReturn at) own = refl
types_by_rank text (type.LimitOf at w n) own =
    ap (λ (x : ℕ). Some (refusals.OverLimit (place_in text at) x w)) own ∙ limits_by_rank text at w
types_by_rank text type.OutOfMemory own = refl

-- ---- each stage has one value or refusal at most

one_cuts : (text : List ℕ) → One (Cuts text)
one_cuts text (Ok ts) (Ok us) h k = ap (λ (x : List Token). Ok x) (one-list text ts us h k)
one_cuts text (Ok ts) (Err s) h k = absurd (no-fault text ts k.fault h k.comes)
one_cuts text (Err r) (Ok us) h k = absurd (no-fault text us h.fault k h.comes)
one_cuts text (Err r) (Err s) h k =
    let same = one-fault text h.fault k.fault h.comes k.comes in
    let some : Some r ≡ Some s = sym h.reported ∙ ap (report_of_lexical text) same ∙ k.reported in
    cc

one_reads : (text : List ℕ) (ts : List Token) → One (Reads text ts)
one_reads text ts a b h k = h.2 ∙ ap (reading text) (one_verdict text ts h.0 k.0 h.1 k.1) ∙ sym k.2

-- the first rule on funs that is broken is the first of the list
of_fun_list : (text : List ℕ) (p : ProgramTree) (r : Refusal)
    → Reports (IsFirstBrokenFun p) (report_of_funs text) r
    → Reports (IsFirst funs.place funs.rank (funs.fun_faults p)) (report_of_funs text) r
of_fun_list text p r h = record { fault = h.fault; comes = (same_first_fun p h.fault).1 h.comes; reported = h.reported }

one_funs : (text : List ℕ) (p : ProgramTree) → One (KeepsFuns text p)
one_funs text p (Ok q) (Ok r) h k = ap (λ (x : ProgramTree). Ok x) (h.0 ∙ sym k.0)
one_funs text p (Ok q) (Err s) h k = absurd (h.1 k.fault k.comes.broken)
one_funs text p (Err r) (Ok q) h k = absurd (k.1 h.fault h.comes.broken)
one_funs text p (Err r) (Err s) h k =
    ap (λ (x : Refusal). Err x)
    (one_report funs.place funs.rank (report_of_funs text) (funs_by text) (funs.fun_faults p)
    (λ f among. funs_by_rank text f) r s (of_fun_list text p r h) (of_fun_list text p s k))

-- the first rule that is broken is the first of the checker's list
of_list : (text : List ℕ) (p : ProgramTree) (r : Refusal)
    → Reports (IsFirstBroken p) (report_of_types text) r
    → Reports (IsFirst types.place types.rank (program.faults p)) (report_of_types text) r
of_list text p r h = record { fault = h.fault; comes = (same_first p h.fault).1 h.comes; reported = h.reported }

one_types : (text : List ℕ) (p : ProgramTree) → One (KeepsTypes text p)
one_types text p (Ok q) (Ok r) h k = ap (λ (x : ProgramTree). Ok x) (h.0 ∙ sym k.0)
one_types text p (Ok q) (Err s) h k =
    absurd (no_first types.place types.rank (program.faults p) k.fault (none_listed p h.1)
    ((same_first p k.fault).1 k.comes))
one_types text p (Err r) (Ok q) h k =
    absurd (no_first types.place types.rank (program.faults p) h.fault (none_listed p k.1)
    ((same_first p h.fault).1 h.comes))
one_types text p (Err r) (Err s) h k =
    ap (λ (x : Refusal). Err x)
    (one_report types.place types.rank (report_of_types text) (types_by text) (program.faults p)
    (λ f among. types_by_rank text f (own_limits p f among)) r s (of_list text p r h) (of_list text p s k))

pub one_check : (text : List ℕ) → One (Checks text)
unfolding Checks
one_check text =
    one_then (Cuts text) (ChecksTokens text) (one_cuts text)
    (λ ts. one_then (Reads text ts) (ChecksTree text) (one_reads text ts)
    (λ p. one_then (KeepsFuns text p) (KeepsTypes text) (one_funs text p) (one_types text)))

-- ---- a text is refused for a fault at a place of it

abbrev pub IsOfText : Refusal → Type 0
IsOfText (refusals.Text place f) = Unit {0}
IsOfText (refusals.OverLimit place limit w) = Unit {0}
IsOfText refusals.Usage = ⊥
IsOfText refusals.ReadFault = ⊥
IsOfText refusals.TooLong = ⊥
IsOfText refusals.BadMagic = ⊥
IsOfText refusals.BadVersion = ⊥
IsOfText (refusals.File at f) = ⊥
IsOfText (refusals.Code block at f) = ⊥
IsOfText (refusals.Trace at) = ⊥
IsOfText (refusals.Schedule entry revision) = ⊥
IsOfText (refusals.Differs revision) = ⊥

status_of_text : (r : Refusal) → IsOfText r → status_of r ≡ 2
status_of_text (refusals.Text place f) is = refl
status_of_text (refusals.OverLimit place limit w) is = refl
status_of_text refusals.Usage is = absurd is
status_of_text refusals.ReadFault is = absurd is
status_of_text refusals.TooLong is = absurd is
status_of_text refusals.BadMagic is = absurd is
status_of_text refusals.BadVersion is = absurd is
status_of_text (refusals.File at f) is = absurd is
status_of_text (refusals.Code block at f) is = absurd is
status_of_text (refusals.Trace at) is = absurd is
status_of_text (refusals.Schedule entry revision) is = absurd is
status_of_text (refusals.Differs revision) is = absurd is

same_refusal : (r s : Refusal) → IsOfText r → Some r ≡ Some s → IsOfText s
same_refusal r s is same = let e : r ≡ s = cc in subst (λ (x : Refusal). IsOfText x) e is

lexical_of_text : (text : List ℕ) (f : LexFault) (r : Refusal) → report_of_lexical text f ≡ Some r → IsOfText r
lexical_of_text text (lex.BadByte at) r is = same_refusal _ r tt is
lexical_of_text text (lex.BadNumber at) r is = same_refusal _ r tt is
lexical_of_text text (lex.OpenText at) r is = same_refusal _ r tt is
lexical_of_text text lex.OutOfMemory r is = cc

syntax_of_text : (text : List ℕ) (v : Verdict) (r : Refusal) → Err r ≡ reading text v → IsOfText r
syntax_of_text text (tree p) r is = cc
syntax_of_text text (unexpected at) r is =
    let e : Some (fault_at text at (unexpected_at text at)) ≡ Some r = cc in same_refusal _ r tt e
syntax_of_text text (too_deep at) r is =
    let e : Some (fault_at text at fault.TooDeep) ≡ Some r = cc in same_refusal _ r tt e

funs_of_text : (text : List ℕ) (f : MergeFault) (r : Refusal) → report_of_funs text f ≡ Some r → IsOfText r
funs_of_text text (fun.UnknownFun at) r is = same_refusal _ r tt is
funs_of_text text (fun.LaterFun at) r is = same_refusal _ r tt is
funs_of_text text (fun.Arity at) r is = same_refusal _ r tt is
funs_of_text text fun.OutOfMemory r is = cc

types_of_text : (text : List ℕ) (f : TypeFault) (r : Refusal) → report_of_types text f ≡ Some r → IsOfText r
types_of_text text (type.UnknownName at) r is = same_refusal _ r tt is
types_of_text text (type.Redeclared at) r is = same_refusal _ r tt is
types_of_text text (type.WrongType at) r is = same_refusal _ r tt is
types_of_text text (type.WrongCount at) r is = same_refusal _ r tt is
types_of_text text (type.NoReturn at) r is = same_refusal _ r tt is
types_of_text text (type.LimitOf at w n) r is = same_refusal _ r tt is
types_of_text text type.OutOfMemory r is = cc

check_of_text : (text : List ℕ) (r : Refusal) → Checks text (Err r) → IsOfText r
unfolding Checks
check_of_text text =
    let P : Refusal → Type 0 = λ r. IsOfText r in
    refusal_of (Cuts text) (ChecksTokens text) P (λ r h. lexical_of_text text h.fault r h.reported)
    (λ ts. refusal_of (Reads text ts) (ChecksTree text) P (λ r h. syntax_of_text text h.0 r h.2)
    (λ p. refusal_of (KeepsFuns text p) (KeepsTypes text) P (λ r h. funs_of_text text h.fault r h.reported)
    (λ q r h. types_of_text text h.fault r h.reported)))

pub text_refused : (text : List ℕ) (r : Refusal) → Checks text (Err r) → status_of r ≡ 2
text_refused text r h = status_of_text r (check_of_text text r h)

-- ---- what the code makes of the answers of the calls

module _ {X : Type 0} (text : List ℕ) where
  pub no_tokens : (view : X → List Token) (f : LexFault) (e : Stop) → e ≡ stop_of (report_of_lexical text f)
      → (f ≢ lex.OutOfMemory → IsFirstFault text f) → Meets view (Err e) (Cuts text)
  no_tokens view f e is h =
      refuses (report_of_lexical text) lex.OutOfMemory refl (IsFirstFault text) (Cuts text) (λ r x. x) view f e is h

  module _ (view : X → ProgramTree) where
    pub no_tree : (ts : List Token) (f : SyntaxFault) (e : Stop) → e ≡ stop_of (report_of_syntax text f)
        → Parses text ts (Err f) → Meets view (Err e) (Reads text ts)
    no_tree ts f e is h = subst (λ (x : Stop). Meets view (Err x) (Reads text ts)) (sym is) (go f h)
      where
        go : (g : SyntaxFault) → Parses text ts (Err g)
            → Meets view (Err (stop_of (report_of_syntax text g))) (Reads text ts)
        go (syntax.Unexpected at) k = (unexpected at, k, refl)
        go (syntax.TooDeep at) k = (too_deep at, k, refl)
        go syntax.OutOfMemory k = tt

    pub no_funs : (p : ProgramTree) (f : MergeFault) (e : Stop) → e ≡ stop_of (report_of_funs text f)
        → expands.Refuses p f → Meets view (Err e) (KeepsFuns text p)
    no_funs p f e is h =
        refuses (report_of_funs text) fun.OutOfMemory refl (IsFirstBrokenFun p) (KeepsFuns text p) (λ r x. x) view f e
        is (λ n. (same_first_fun p f).0 (h n))

    pub no_types : (p : ProgramTree) (f : TypeFault) (e : Stop) → e ≡ stop_of (report_of_types text f)
        → tables.Refuses p f → Meets view (Err e) (KeepsTypes text p)
    no_types p f e is h =
        refuses (report_of_types text) type.OutOfMemory refl (IsFirstBroken p) (KeepsTypes text p) (λ r x. x) view f e
        is (λ n. (same_first p f).0 (h n))
