-- Traces and their texts.
--   text_lines       the lines of what a revision printed
--   part_lines       the lines of a part, and trace_lines of a trace
--   trace_text       the text of a trace
--   IsTrace          what has a text
--   IsTextOf         the bytes are the text of the trace
--   BeginsTraceText  some trace text begins so
--   IsFirstFault     where bytes that are no trace text go wrong
--   FailsAt          what a reader's fault says of the bytes
use Rattle.std.specs.Prelude.{◌≡◌, ◌≢◌, ℕ, ◌^◌, ◌<◌, ◌⊎◌, ◌==◌, if◌then◌else◌, IsTrue, List, [], ◌∷◌, ◌++◌, length, map, codes}
use Rattle.std.specs.List.{flat_map, list_all, onto_first, AllByRecursion}
use Rattle.rev_num.specs.Path.{before}
use Rattle.trace_diagram.specs.Lines.{FitsChange, FitsEnd, FitsEvent, FitsPath, change_text, end_text, event_text, fuel_text, head_text, is_printable, quoted}
use Rattle.trace_diagram.specs.declared.diagram.Part.{Part}
use Rattle.trace_diagram.specs.declared.diagram.Trace.{Trace}
use Rattle.trace_diagram.specs.declared.fault.TraceFault.{TraceFault}
use Rattle.trace_diagram.specs.declared.fault.TraceFault.TheVariants as fault

-- ---- the lines of a trace

-- a line and its line feed
abbrev pub ended : List ℕ → List ℕ
ended line = line ++ 10 ∷ []

-- the lines of a text, without their line feeds
abbrev pub text_lines : List ℕ → List (List ℕ)
text_lines [] = []
text_lines (b ∷ bs) = if b == 10 then [] ∷ text_lines bs else onto_first b (text_lines bs)

-- the lines of one revision, in their order
abbrev pub part_lines : Part → List (List ℕ)
part_lines p =
    head_text p.path ∷
    (map event_text p.events ++
    (end_text p.end ∷ fuel_text p.fuel ∷
    (map change_text p.written ++ map quoted (text_lines p.text))))

abbrev pub first_line : List ℕ
first_line = codes "revisions trace 1"

abbrev pub trace_lines : Trace → List (List ℕ)
trace_lines t = first_line ∷ flat_map part_lines t.parts

-- the text of a trace: its lines, each ended by a line feed
abbrev pub trace_text : Trace → List ℕ
trace_text t = flat_map ended (trace_lines t)

-- ---- which traces have a text

-- whole lines of printable bytes
pub record IsText (text : List ℕ) : Type 0 where
  pub whole : text ≡ flat_map ended (text_lines text)
  pub printable : AllByRecursion (λ line. IsTrue (list_all is_printable line)) (text_lines text)

pub record IsPart (p : Part) : Type 0 where
  pub path : FitsPath p.path
  pub events : AllByRecursion FitsEvent p.events
  pub end : FitsEnd p.end
  pub fuel : p.fuel < 2 ^ 64
  pub written : AllByRecursion FitsChange p.written
  pub text : IsText p.text

-- in ascending post-order, with `main` last
abbrev pub MainIsLast : List Part → Type 0
MainIsLast [] = ⊥
MainIsLast (p ∷ []) = p.path ≡ []
MainIsLast (p ∷ q ∷ ps) = IsTrue (before p.path q.path) × MainIsLast (q ∷ ps)

pub record IsTrace (t : Trace) : Type 0 where
  pub each : AllByRecursion IsPart t.parts
  pub order : MainIsLast t.parts

-- ---- texts

pub record IsTextOf (bytes : List ℕ) (t : Trace) : Type 0 where
  pub form : IsTrace t
  pub text : bytes ≡ trace_text t

abbrev pub IsTraceText : List ℕ → Type 0
IsTraceText bytes = (t : Trace) × IsTextOf bytes t

abbrev pub BeginsTraceText : List ℕ → Type 0
BeginsTraceText front = (rest : List ℕ) × IsTraceText (front ++ rest)

-- ---- the first fault

-- no byte of the line is a line feed
abbrev pub IsOneLine : List ℕ → Type 0
IsOneLine line = AllByRecursion (λ b. b ≢ 10) line

-- nothing, or bytes of which the last is a line feed
abbrev pub IsWholeLines : List ℕ → Type 0
IsWholeLines bytes = (bytes ≡ []) ⊎ ((front : List ℕ) × (bytes ≡ ended front))

-- behind these lines of a trace text the rest goes wrong at once: it is empty too early, or a
-- line with which no trace text goes on, or a line without its line feed
pub record GoesWrong (lines rest : List ℕ) : Type 0 where
  pub at_end : rest ≡ [] → IsTraceText lines → ⊥
  pub in_line : (line more : List ℕ) → IsOneLine line → rest ≡ ended line ++ more
      → BeginsTraceText (lines ++ ended line) → ⊥

-- the bytes up to `at` are lines with which a trace text begins, and the rest goes wrong at once
pub record IsFirstFault (bytes : List ℕ) (at : ℕ) : Type 0 where
  pub lines : List ℕ
  pub rest : List ℕ
  pub is : bytes ≡ lines ++ rest
  pub place : length lines ≡ at
  pub whole : IsWholeLines lines
  pub begins : BeginsTraceText lines
  pub fault : GoesWrong lines rest

-- the fault is the first of the bytes, or no memory was left
abbrev pub FailsAt : List ℕ → TraceFault → Type 0
FailsAt bytes (fault.Malformed at) = IsFirstFault bytes at
FailsAt bytes fault.OutOfMemory = Unit {0}
