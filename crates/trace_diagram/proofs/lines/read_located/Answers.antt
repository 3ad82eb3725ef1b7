-- Answers of read_located: the text is cut where its path ends, so a part that cannot be read means that it is none.
use Rattle.std.proofs.Common.{◌∙◌, sym}
use Rattle.std.specs.Prelude.{codes}
use Rattle.trace_diagram.proofs.Cutting.{append_cancel}
use Rattle.trace_diagram.proofs.LineForms.{located_parts, unlocated}
use Rattle.trace_diagram.proofs.lines.read_located.Goals as goal

pub returns-in_default : goal.returns-in_default
returns-in_default c = unlocated _ c.in_default.ensures

pub returns-in_default-behind : goal.returns-in_default-behind
returns-in_default-behind c =
    λ x fit is. c.in_default-behind.ensures _ (sym (located_parts x _ _ _ c.in-Some.ensures fit is).line)

pub returns-in_default-read_small : goal.returns-in_default-read_small
returns-in_default-read_small c = λ x fit is.
    c.in_default-read_small.ensures x.line fit.1
    (append_cancel (codes "line ") _ _
    ((located_parts x _ _ _ c.in-Some.ensures fit is).line ∙ c.in-Some-behind.ensures))

pub returns-in-None : goal.returns-in-None
returns-in-None c = λ x fit is.
    let none = rw c.in-None.is at c.in_ok-path.ensures in
    none x.path fit.0 (located_parts x _ _ _ c.in-Some.ensures fit is).path
