-- Whether a line lists a fork or a join, and the other lines of one piece behind a word.
use Rattle.std.proofs.Common.{◌≡◌, ◌⊎◌, inl, inr, subst, ℕ, ◌<◌, ◌^◌, List, ◌++◌, refl}
use Rattle.std.specs.Prelude.{codes, IsTrue}
use Rattle.std.specs.List.{list_all}
use Rattle.std.specs.Fmt.{decimal}
use Rattle.rev_num.specs.Path.{Path}
use Rattle.rev_num.specs.Text.{path_text}
use Rattle.trace_diagram.specs.Lines.{FitsEvent, FitsPath, event_text, fuel_text, head_text, is_printable, quoted}
use Rattle.trace_diagram.specs.declared.diagram.TraceEvent.{TraceEvent}
use Rattle.trace_diagram.specs.declared.diagram.TraceEvent.TheVariants as event
use Rattle.trace_diagram.proofs.LineForms.{no_space}
use Rattle.program_texts.proofs.Deciding.{Readable, Reader, spells, spells_none, read_behind, true_or_not}
use Rattle.program_texts.proofs.Numbers.{read_small, read_wide}
use Rattle.program_texts.proofs.Pairing.{FitBoth, read_cut, text_of_both}
use Rattle.program_texts.proofs.Paths.{read_path}

-- ---- a path and a line

abbrev Small : ℕ → Type 0
Small n = n < 2 ^ 32

abbrev line_text : ℕ → List ℕ
line_text n = codes "line " ++ decimal n

abbrev FitsEntry : Path × ℕ → Type 0
FitsEntry = FitBoth FitsPath Small

abbrev entry_text : Path × ℕ → List ℕ
entry_text = text_of_both path_text 32 line_text

read_entry : Reader FitsEntry entry_text
read_entry = read_cut FitsPath path_text 32 Small line_text no_space read_path
    (read_behind Small decimal (codes "line ") read_small)

-- ---- forks and joins

abbrev fork_text : Path × ℕ → List ℕ
fork_text x = codes "forked " ++ entry_text x

abbrev join_text : Path × ℕ → List ℕ
join_text x = codes "joined " ++ entry_text x

abbrev HasNone : (Path × ℕ → List ℕ) → List ℕ → Type 0
HasNone text bytes = (x : Path × ℕ) → FitsEntry x → text x ≡ bytes → ⊥

no_event : (line : List ℕ) → HasNone fork_text line → HasNone join_text line → (e : TraceEvent) → FitsEvent e
    → event_text e ≡ line → ⊥
no_event line forks joins (event.Forked child n) fit is = forks (child, n) fit is
no_event line forks joins (event.Joined on n) fit is = joins (on, n) fit is

pub read_event : Reader FitsEvent event_text
read_event line =
    by_kinds (read_behind FitsEntry entry_text (codes "forked ") read_entry line)
    (read_behind FitsEntry entry_text (codes "joined ") read_entry line)
  where
    by_kinds : Readable FitsEntry fork_text line → Readable FitsEntry join_text line
        → Readable FitsEvent event_text line
    by_kinds (spells x fit is) join = spells (event.Forked x.0 x.1) fit is
    by_kinds (spells_none forks) (spells x fit is) = spells (event.Joined x.0 x.1) fit is
    by_kinds (spells_none forks) (spells_none joins) = spells_none (no_event line forks joins)

-- ---- the lines of one piece

-- with which a part begins
pub read_head : Reader FitsPath head_text
read_head = read_behind FitsPath path_text (codes "revision ") read_path

pub read_fuel : Reader (λ n. n < 2 ^ 64) fuel_text
read_fuel = read_behind (λ n. n < 2 ^ 64) decimal (codes "fuel ") read_wide

abbrev pub IsPrintable : List ℕ → Type 0
IsPrintable text = IsTrue (list_all is_printable text)

read_printable : Reader IsPrintable (λ text. text)
read_printable bytes = by_test (true_or_not (list_all is_printable bytes))
  where
    by_test : IsPrintable bytes ⊎ (IsPrintable bytes → ⊥) → Readable IsPrintable (λ text. text) bytes
    by_test (inl print) = spells bytes print refl
    by_test (inr other) = spells_none (λ text print is. other (subst IsPrintable is print))

-- what the revision printed
pub read_quoted : Reader IsPrintable quoted
read_quoted = read_behind IsPrintable (λ text. text) (codes "> ") read_printable
