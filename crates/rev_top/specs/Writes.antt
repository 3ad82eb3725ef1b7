-- What a call writes, by its words and by all bytes of its source, where nothing fails.
--
-- `Refuses` is what is written of a text that is at fault: of its tokens, anywhere in it, before its
-- syntax, that before its funs, and these before the other static rules. `WritesAs` is what each mode
-- writes of what it read, and `Writes` is the whole: usage, then the length, then the mode.
-- `WritingLaw` says that this is what is shown of the answers of `Answer`, by which the code goes.
use Rattle.std.specs.Prelude.{◌≡◌, ◌≤◌, ◌<◌, ◌⊎◌, ◌↔◌, ◌==◌, ◌++◌, ℕ, if◌then◌else◌, List, [], length, drop, codes, Option, Some, None, Ok}
use Rattle.std.specs.Fmt.{decimal}
use Rattle.rev_num.specs.declared.outcome.Outcome.{Outcome}
use Rattle.rev_words.specs.Load.{load_text}
use Rattle.rev_words.specs.declared.Mode.{Mode}
use Rattle.rev_words.specs.declared.Mode.TheVariants as modes
use Rattle.rev_words.specs.declared.Words.{Words}
use Rattle.rev_report.specs.Outcome.{report}
use Rattle.rev_report.specs.Report.{Output, failed}
use Rattle.rev_report.specs.declared.status.TheConstants.{REFUSED, USAGE}
use Rattle.rev_report.specs.Modes.{summary}
use Rattle.rev_report.specs.Refusals.{shown}
use Rattle.rev_syntax.specs.Places.{line_of, column_of}
use Rattle.rev_syntax.specs.Tokens.{IsBadByte, IsBadNumber, IsOpenText, IsTokens, Stops}
use Rattle.rev_syntax.specs.Trees.{ProgramTree}
use Rattle.rev_syntax.specs.declared.token.Token.{Token}
use Rattle.rev_parse.specs.Verdicts.{IsProgram, IsTooDeep, IsUnexpected, place_of}
use Rattle.typed_programs.specs.FunRules as fun_rules
use Rattle.typed_programs.specs.Least.{IsFirstOf}
use Rattle.typed_programs.specs.declared.fun_fault.MergeFault.{MergeFault}
use Rattle.typed_programs.specs.Faults as type_rules
use Rattle.typed_programs.specs.declared.fault.TypeFault.{TypeFault}
use Rattle.revision_calculus.specs.Complete.{HasOutcome}
use Rattle.static_rules.specs.Funs.{BreaksFun, KeepsFunRules}
use Rattle.static_rules.specs.Breaks.{Breaks, BreaksNone}
use Rattle.mode_reports.specs.Answer.{Accepts, Answer, Emits, Orders, Repeats, Replays, RunsTo, Says, SaysAs, Streams, Traces, reads_of, setting}

-- ---- texts

-- the text has tokens, which are one tree, and the tree keeps the rules on funs and breaks no other
pub record IsSound (text : List ℕ) : Type 0 where
  pub tokens : List Token
  pub cut : IsTokens text tokens
  pub tree : ProgramTree
  pub parsed : IsProgram text tokens tree
  pub funs : KeepsFunRules tree
  pub rules : BreaksNone tree

-- what is written of a fault at a place of the text
abbrev pub at_fault : List ℕ → ℕ → List ℕ → Output
at_fault text at what =
    failed REFUSED
    (codes "error: line " ++
    (decimal (line_of text at) ++ (codes " column " ++ (decimal (column_of text at) ++ (codes ": " ++ what)))))

-- an unexpected token, or the end of the text
abbrev pub unexpected_name : List ℕ → ℕ → List ℕ
unexpected_name text at = if at == length text then codes "unexpected end" else codes "unexpected token"

-- this is written of a text that is at fault
pub data Refuses (text : List ℕ) : Output → Type 0 where
  bad_byte : {at : ℕ} → Stops IsBadByte text at → Refuses text (at_fault text at (codes "bad byte"))
  bad_number : {at : ℕ} → Stops IsBadNumber text at → Refuses text (at_fault text at (codes "bad number"))
  open_text : {at : ℕ} → Stops IsOpenText text at → Refuses text (at_fault text at (codes "open text"))
  no_program : {ts : List Token} {n at : ℕ}
      → IsTokens text ts → IsUnexpected text ts n → at ≡ place_of text (drop n ts)
      → Refuses text (at_fault text at (unexpected_name text at))
  many_levels : {ts : List Token} {n at : ℕ}
      → IsTokens text ts → IsTooDeep text ts n → at ≡ place_of text (drop n ts)
      → Refuses text (at_fault text at (codes "nested too deep"))
  broken_fun_rule : {ts : List Token} {p : ProgramTree} {f : MergeFault}
      → IsTokens text ts → IsProgram text ts p → IsFirstOf (BreaksFun p) fun_rules.row f
      → Refuses text (at_fault text (fun_rules.row f).0 (fun_rules.row f).2)
  broken_rule : {ts : List Token} {p : ProgramTree} {f : TypeFault}
      → IsTokens text ts → IsProgram text ts p → KeepsFunRules p → IsFirstOf (Breaks p) type_rules.row f
      → Refuses text (at_fault text (type_rules.row f).0 (type_rules.row f).2)

-- of a text: its refusal, or what is written of its program
abbrev pub OfText : List ℕ → (ProgramTree → Output → Type 0) → Output → Type 0
OfText text WritesOf o = Refuses text o ⊎ ((s : IsSound text) × WritesOf s.tree o)

-- ---- what a mode writes

-- it is what is shown of such an answer
abbrev pub Shown : (Answer → Type 0) → Output → Type 0
Shown Says o = (a : Answer) × Says a × (o ≡ shown a)

-- what each mode writes of the bytes that it read; `run` the report of the outcome that every complete run has
unfoldable pub WritesAs : Mode → Words → List ℕ → Output → Type 0
WritesAs modes.Run w text =
    OfText text (λ p o. (x : Outcome) × HasOutcome (setting w p) w.fuel x × (o ≡ report w.values x))
WritesAs modes.Check w text = OfText text (λ p o. Accepts p (Ok o))
WritesAs modes.Load w nothing = OfText (load_text w.seed w.size) (λ p o. RunsTo w (summary w.seed w.size) p (Ok o))
WritesAs modes.Dis w file = Shown (SaysAs modes.Dis w file)
WritesAs modes.Exec w file = Shown (SaysAs modes.Exec w file)
WritesAs modes.Emit w text = OfText text (λ p o. Emits p (Ok o))
WritesAs modes.Trace w text = OfText text (λ p o. Traces w p (Ok o))
WritesAs modes.Audit w all = Shown (SaysAs modes.Audit w all)
WritesAs modes.Replay w text = OfText text (λ p. Shown (Replays w p))
WritesAs modes.Order w text = OfText text (λ p o. Orders w p (Ok o))
WritesAs modes.Stream w text = OfText text (λ p. Shown (Streams w text p))
WritesAs modes.Repeat w text = OfText text (λ p o. Repeats w p (Ok o))

-- ---- the whole

-- of what is read of all bytes, if they are not too many
abbrev pub OfRead : Option ℕ → List ℕ → (List ℕ → Output → Type 0) → Output → Type 0
OfRead None all WritesOf o = WritesOf [] o
OfRead (Some limit) all WritesOf o = ((length all ≤ limit) × WritesOf all o)
    ⊎ ((limit < length all) × (o ≡ failed REFUSED (codes "error: source too long")))

-- this is written for these words and for all bytes of a source that does not fail
abbrev pub Writes : Option Words → List ℕ → Output → Type 0
Writes None all o = o ≡ failed USAGE (codes "usage: revise MODE [options] [numbers]")
Writes (Some w) all o = OfRead (reads_of w.mode) all (WritesAs w.mode w) o

-- what is written is what is shown of an answer to the same words and bytes, and of each
abbrev pub WritingLaw : Type 0
WritingLaw = (words : Option Words) (all : List ℕ) (o : Output) → Writes words all o ↔ Shown (Says words all) o
