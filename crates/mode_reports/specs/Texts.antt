-- What a text is: a program that keeps all rules, or at fault; and how its first fault is reported.
--
-- A fault of the tokens, anywhere in the text, comes before one of the syntax, that before a fault of
-- the funs, and that before the other static faults.
use Rattle.std.specs.Prelude.{◌≡◌, ◌==◌, ℕ, if◌then◌else◌, List, length, Option, Some, None, Result, Ok, Err}
use Rattle.rev_syntax.specs.Places.{line_of, column_of}
use Rattle.rev_syntax.specs.Tokens.{IsTokens, IsFirstFault}
use Rattle.rev_syntax.specs.Trees.{ProgramTree}
use Rattle.rev_syntax.specs.declared.token.Token.{Token}
use Rattle.rev_syntax.specs.declared.scan.LexFault.{LexFault}
use Rattle.rev_syntax.specs.declared.scan.LexFault.TheVariants as lex
use Rattle.rev_parse.specs.Verdicts.{Verdict, tree, unexpected, too_deep, IsVerdict}
use Rattle.typed_programs.specs.declared.fun_fault.MergeFault.{MergeFault}
use Rattle.typed_programs.specs.declared.fun_fault.MergeFault.TheVariants as fun
use Rattle.typed_programs.specs.declared.fault.TypeFault.{TypeFault}
use Rattle.typed_programs.specs.declared.fault.TypeFault.TheVariants as type
use Rattle.static_rules.specs.Funs.{IsFirstBrokenFun, KeepsFunRules}
use Rattle.static_rules.specs.Breaks.{BreaksNone, IsFirstBroken}
use Rattle.rev_report.specs.declared.fault.Place.{Place}
use Rattle.rev_report.specs.declared.fault.TextFault.{TextFault}
use Rattle.rev_report.specs.declared.fault.TextFault.TheVariants as fault
use Rattle.rev_report.specs.declared.refusal.Refusal.{Refusal}
use Rattle.rev_report.specs.declared.refusal.Refusal.TheVariants as refusals
use Rattle.mode_reports.specs.Stages.{Reports, Then}

-- ---- how faults are reported; want of memory is no fault of a text

-- line and column of an offset of the text
abbrev pub place_in : List ℕ → ℕ → Place
place_in text at = record { line = line_of text at; column = column_of text at }

abbrev pub fault_at : List ℕ → ℕ → TextFault → Refusal
fault_at text at f = refusals.Text (place_in text at) f

abbrev pub report_of_lexical : List ℕ → LexFault → Option Refusal
report_of_lexical text (lex.BadByte at) = Some (fault_at text at fault.BadByte)
report_of_lexical text (lex.BadNumber at) = Some (fault_at text at fault.BadNumber)
report_of_lexical text (lex.OpenText at) = Some (fault_at text at fault.OpenText)
report_of_lexical text lex.OutOfMemory = None

-- an unexpected token, or the end of the text
abbrev pub unexpected_at : List ℕ → ℕ → TextFault
unexpected_at text at = if at == length text then fault.UnexpectedEnd else fault.UnexpectedToken

abbrev pub reading : List ℕ → Verdict → Result ProgramTree Refusal
reading text (tree p) = Ok p
reading text (unexpected at) = Err (fault_at text at (unexpected_at text at))
reading text (too_deep at) = Err (fault_at text at fault.TooDeep)

abbrev pub report_of_funs : List ℕ → MergeFault → Option Refusal
report_of_funs text (fun.UnknownFun at) = Some (fault_at text at fault.UnknownFun)
report_of_funs text (fun.LaterFun at) = Some (fault_at text at fault.LaterFun)
report_of_funs text (fun.Arity at) = Some (fault_at text at fault.ArgumentCount)
report_of_funs text fun.OutOfMemory = None

abbrev pub report_of_types : List ℕ → TypeFault → Option Refusal
report_of_types text (type.UnknownName at) = Some (fault_at text at fault.UnknownName)
report_of_types text (type.Redeclared at) = Some (fault_at text at fault.Redeclared)
report_of_types text (type.WrongType at) = Some (fault_at text at fault.WrongType)
report_of_types text (type.WrongCount at) = Some (fault_at text at fault.WrongCount)
report_of_types text (type.NoReturn at) = Some (fault_at text at fault.NoReturn)
report_of_types text (type.LimitOf at w n) = Some (refusals.OverLimit (place_in text at) n w)
report_of_types text type.OutOfMemory = None

-- ---- the stages

-- the tokens of the text, or its first lexical fault
abbrev pub Cuts : List ℕ → Result (List Token) Refusal → Type 0
Cuts text (Ok ts) = IsTokens text ts
Cuts text (Err r) = Reports (IsFirstFault text) (report_of_lexical text) r

-- the one tree of the tokens, or their first syntax fault
abbrev pub Reads : List ℕ → List Token → Result ProgramTree Refusal → Type 0
Reads text ts r = (v : Verdict) × IsVerdict text ts v × (r ≡ reading text v)

-- the program, where it has no fault of its funs, or the first of them
abbrev pub KeepsFuns : List ℕ → ProgramTree → Result ProgramTree Refusal → Type 0
KeepsFuns text p (Ok q) = (q ≡ p) × KeepsFunRules p
KeepsFuns text p (Err r) = Reports (IsFirstBrokenFun p) (report_of_funs text) r

-- the program, where it breaks none of the other rules and no limit, or the first that it breaks
abbrev pub KeepsTypes : List ℕ → ProgramTree → Result ProgramTree Refusal → Type 0
KeepsTypes text p (Ok q) = (q ≡ p) × BreaksNone p
KeepsTypes text p (Err r) = Reports (IsFirstBroken p) (report_of_types text) r

abbrev pub ChecksTree : List ℕ → ProgramTree → Result ProgramTree Refusal → Type 0
ChecksTree text p = Then (KeepsFuns text p) (KeepsTypes text)

abbrev pub ChecksTokens : List ℕ → List Token → Result ProgramTree Refusal → Type 0
ChecksTokens text ts = Then (Reads text ts) (ChecksTree text)

-- the program that the text is, where it keeps all rules, or its first fault
unfoldable pub Checks : List ℕ → Result ProgramTree Refusal → Type 0
Checks text = Then (Cuts text) (ChecksTokens text)
