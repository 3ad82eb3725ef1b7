-- Answers of read_where: the text is cut where its line ends, so a part that cannot be read means that it is none.
use Rattle.std.proofs.Common.{◌∙◌, sym}
use Rattle.std.specs.Prelude.{codes}
use Rattle.trace_diagram.proofs.Cutting.{append_cancel}
use Rattle.trace_diagram.proofs.LineForms.{nowhere, where_is, where_parts}
use Rattle.trace_diagram.proofs.lines.read_where.Goals as goal

pub returns-in_default-cut : goal.returns-in_default-cut
returns-in_default-cut c = nowhere _ _ c.in-Some.ensures c.in_default-cut.ensures

pub returns-in_default-read_small : goal.returns-in_default-read_small
returns-in_default-read_small c = λ x fit is.
    c.in_default-read_small.ensures x.line fit.1
    (where_parts _ _ _ _ c.in-Some.ensures c.in-Some-cut.ensures x fit is).line

pub returns-in_default-behind : goal.returns-in_default-behind
returns-in_default-behind c = λ x fit is.
    c.in_default-behind.ensures _ (sym (where_parts _ _ _ _ c.in-Some.ensures c.in-Some-cut.ensures x fit is).path)

pub returns-in-Some-2 : goal.returns-in-Some-2
returns-in-Some-2 c =
    let path = rw c.in-Some-2.is at c.in_ok-path.ensures in
    let line = c.in-Some-read_small.ensures in (
      (path.0, line.0),
      where_is (record { path = c.in-Some-2.path; line = c.in-Some-read_small.line }) c.in-Some.ensures
          c.in-Some-cut.ensures line.1 c.in-Some-behind.ensures path.1,
    )

pub returns-in-None : goal.returns-in-None
returns-in-None c = λ x fit is.
    let none = rw c.in-None.is at c.in_ok-path.ensures in
    none x.path fit.0
    (append_cancel (codes "in revision ") _ _
    ((where_parts _ _ _ _ c.in-Some.ensures c.in-Some-cut.ensures x fit is).path ∙ c.in-Some-behind.ensures))
