-- What is written of the outcome of a run.
--
-- `value_text` is a value, as `print` and the values of `main` show it; `place_of` is a location by its name; `report`
-- is what a call writes of an outcome, with the values of `main` where they are asked for.
use Rattle.std.specs.Prelude.{ℕ, List, [], ◌++◌, codes, Bool, true, false, if◌then◌else◌, Option, Some, None, slice_get}
use Rattle.std.specs.Fmt.{decimal, signed_decimal}
use Rattle.std.specs.List.{flat_map}
use Rattle.std.specs.Option.{option_map_or}
use Rattle.rev_num.specs.Text.{path_text}
use Rattle.rev_num.specs.Text as texts
use Rattle.rev_num.specs.declared.value.Value.{Value}
use Rattle.rev_num.specs.declared.value.Value.TheVariants as v
use Rattle.rev_num.specs.declared.value.NumFault.{NumFault}
use Rattle.rev_num.specs.declared.outcome.Cause.{Cause}
use Rattle.rev_num.specs.declared.outcome.Cause.TheVariants as cause
use Rattle.rev_num.specs.declared.outcome.Trap.{Trap}
use Rattle.rev_num.specs.declared.outcome.Outcome.{Outcome}
use Rattle.rev_num.specs.declared.outcome.Outcome.TheVariants as o
use Rattle.rev_num.specs.declared.outcome.Shown.{Shown}
use Rattle.rev_report.specs.Lines.{with_line_feed}
use Rattle.rev_report.specs.Report.{Output, done, failed}
use Rattle.rev_report.specs.Status.{trapped_status, twice_status}

-- ---- values and places

abbrev pub value_text : Value → List ℕ
value_text (v.Int n) = signed_decimal n
value_text (v.Bool true) = codes "true"
value_text (v.Bool false) = codes "false"
value_text (v.Rev None) = codes "none"
value_text (v.Rev (Some q)) = path_text q

-- a location by its name: `x`, or `a[3]` for a cell
abbrev pub place_of : List ℕ → Option ℕ → List ℕ
place_of name None = name
place_of name (Some i) = name ++ (codes "[" ++ (decimal i ++ codes "]"))

abbrev pub place_text : Option Shown → List ℕ
place_text found = option_map_or (λ x. place_of x.name x.cell) found []

-- ---- the values of `main`

-- `x = 1`
abbrev pub value_line : Shown → List ℕ
value_line x = with_line_feed (place_of x.name x.cell ++ (codes " = " ++ value_text x.value))

-- where they are asked for
abbrev pub asked_lines : Bool → List Shown → List ℕ
asked_lines asked values = if asked then flat_map value_line values else []

-- ---- messages

-- the place of the location whose merge faulted
abbrev pub merge_place : List Shown → Cause → List ℕ
merge_place values (cause.Merge n f) = option_map_or (λ x. place_of x.name x.cell) (slice_get values n) []
merge_place values _ = []

abbrev pub merge_text : List Shown → ℕ → NumFault → List ℕ
merge_text values n f = texts.cause_text (cause.Merge n f) (place_text (slice_get values n))

abbrev pub cause_text : List Shown → Cause → List ℕ
cause_text values c = texts.cause_text c (merge_place values c)

abbrev pub trap_text : List Shown → Trap → List ℕ
trap_text values t =
    codes "trap: " ++ (cause_text values t.cause
    ++ ((codes " at line " ++ decimal t.line) ++ (codes " in revision " ++ path_text t.origin)))

-- ---- reports

-- of a run that printed this and in which `main` trapped, with this message
abbrev pub trap_report : List ℕ → List ℕ → Output
trap_report out message = record { out = out; err = with_line_feed message; status = trapped_status }

-- of a run in which a revision was joined twice: nothing of what `main` printed
abbrev pub twice_report : Output
twice_report = failed twice_status (codes "error: a revision was joined twice")

-- the report of an outcome, with the values of `main` where they are asked for
abbrev pub report : Bool → Outcome → Output
report asked (o.Done text values) = done (text ++ asked_lines asked values)
report asked (o.Trapped text values t) = trap_report (text ++ asked_lines asked values) (trap_text values t)
report asked o.Twice = twice_report
