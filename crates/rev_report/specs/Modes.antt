-- What the modes write that do not report the outcome of a run alone.
--
-- `accepted` is the answer of `check` to a text that keeps all rules; `summary` is what `load` writes of the
-- outcome of its program, `traced` what `trace` writes of a trace and an outcome, `ordered` what `order` writes of
-- a schedule and an outcome, `reused` what `repeat` writes of a count and an outcome, and `agreed` the answer of
-- `audit` to a trace that is the run's own. A mode that makes bytes writes them and nothing else (`done`).
use Rattle.std.specs.Prelude.{ℕ, List, ◌∷◌, ◌++◌, codes, false, map}
use Rattle.std.specs.Fmt.{decimal}
use Rattle.std.specs.List.{join_with_byte}
use Rattle.rev_num.specs.declared.outcome.Outcome.{Outcome}
use Rattle.rev_num.specs.declared.outcome.Outcome.TheVariants as o
use Rattle.rev_report.specs.Lines.{with_line_feed}
use Rattle.rev_report.specs.Report.{Output, done}
use Rattle.rev_report.specs.Outcome.{report, trap_report, trap_text, twice_report}

abbrev pub accepted : Output
accepted = done (with_line_feed (codes "ok"))

-- `load seed S size N`
abbrev pub first_line : ℕ → ℕ → List ℕ
first_line seed size = codes "load seed " ++ (decimal seed ++ (codes " size " ++ decimal size))

-- the output with this line before it
abbrev pub behind : List ℕ → Output → Output
behind line r = record { out = with_line_feed line ++ r.out; err = r.err; status = r.status }

-- the report of an outcome behind the first line, without the values of `main`; nothing but the
-- message where a revision was joined twice
abbrev pub summary : ℕ → ℕ → Outcome → Output
summary seed size (o.Done text values) =
    behind (first_line seed size) (report false (o.Done text values))
summary seed size (o.Trapped text values t) =
    behind (first_line seed size) (report false (o.Trapped text values t))
summary seed size o.Twice = twice_report

-- `reused N`
abbrev pub reused_line : ℕ → List ℕ
reused_line count = codes "reused " ++ decimal count

-- the report of an outcome behind that line, without the values of `main`; nothing but the message where a
-- revision was joined twice
abbrev pub reused : ℕ → Outcome → Output
reused count (o.Done text values) = behind (reused_line count) (report false (o.Done text values))
reused count (o.Trapped text values t) = behind (reused_line count) (report false (o.Trapped text values t))
reused count o.Twice = twice_report

-- a trace in place of what `main` printed, and the message and status of the outcome; nothing but the
-- message where a revision was joined twice
abbrev pub traced : List ℕ → Outcome → Output
traced trace (o.Done text values) = done trace
traced trace (o.Trapped text values t) = trap_report trace (trap_text values t)
traced trace o.Twice = twice_report

-- the numbers of a schedule, with a comma between two of them
abbrev pub schedule_text : List ℕ → List ℕ
schedule_text schedule = join_with_byte 44 (map decimal schedule)

-- a number with a comma in front
abbrev pub behind_comma : ℕ → List ℕ
behind_comma n = 44 ∷ decimal n

-- a schedule in place of what `main` printed, and the message and status of the outcome; also where a
-- revision was joined twice
abbrev pub ordered : List ℕ → Outcome → Output
ordered schedule x = record {
  out = with_line_feed (schedule_text schedule);
  err = (report false x).err;
  status = (report false x).status;
}

abbrev pub agreed : Output
agreed = done (with_line_feed (codes "yes"))
