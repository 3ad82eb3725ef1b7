-- Answers of read_change: a write's text is cut where its parts end, so a part not read means that it is none.
use Rattle.std.proofs.Common.{◌∙◌, sym, subst}
use Rattle.std.specs.Prelude.{codes}
use Rattle.trace_diagram.specs.Places.{IsPlace}
use Rattle.trace_diagram.proofs.Cutting.{append_cancel}
use Rattle.trace_diagram.proofs.ChangeForms.{no_place_end, no_value_end, place_parts, value_parts}
use Rattle.trace_diagram.proofs.lines.read_change.Goals as goal

pub returns-in_default-cut : goal.returns-in_default-cut
returns-in_default-cut c = no_place_end _ _ c.in-Some.ensures c.in_default-cut.ensures

pub returns-in_default-cut-2 : goal.returns-in_default-cut-2
returns-in_default-cut-2 c = λ x fit is.
    no_value_end x _ (place_parts _ _ _ _ c.in-Some.ensures c.in-Some-cut.ensures x fit is).values_are
    c.in_default-cut-2.ensures

pub returns-in_default-behind : goal.returns-in_default-behind
returns-in_default-behind c = λ x fit is.
    let parts = place_parts _ _ _ _ c.in-Some.ensures c.in-Some-cut.ensures x fit is in
    c.in_default-behind.ensures _ (sym (value_parts x _ _ _ fit parts.values_are c.in-Some-cut-2.ensures).root_is)

pub returns-then-not-is_place : goal.returns-then-not-is_place
returns-then-not-is_place c = λ x fit is.
    let parts = place_parts _ _ _ _ c.in-Some.ensures c.in-Some-cut.ensures x fit is in
    c.if-not-is_place.ensures (subst IsPlace parts.place_is fit.place)

pub returns-in_default-2 : goal.returns-in_default-2
returns-in_default-2 c = λ x fit is.
    let parts = place_parts _ _ _ _ c.in-Some.ensures c.in-Some-cut.ensures x fit is in
    let none = rw c.in_default-2.is at c.in_ok-value.ensures in
    none x.value fit.value (value_parts x _ _ _ fit parts.values_are c.in-Some-cut-2.ensures).value_is

pub returns-in_default-3 : goal.returns-in_default-3
returns-in_default-3 c = λ x fit is.
    let parts = place_parts _ _ _ _ c.in-Some.ensures c.in-Some-cut.ensures x fit is in
    let none = rw c.in_default-3.is at c.in_ok-root.ensures in
    none x.root fit.root
    (append_cancel (codes "root ") _ _
    ((value_parts x _ _ _ fit parts.values_are c.in-Some-cut-2.ensures).root_is ∙ c.in-Some-behind.ensures))
