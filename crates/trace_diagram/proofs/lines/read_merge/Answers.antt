-- Answers of read_merge: the text is cut where its place ends, so a part not read means that it is no merge's.
use Rattle.rev_num.specs.declared.value.NumFault.TheVariants as fault
use Rattle.trace_diagram.proofs.LineForms.{is_merge, no_merge_colon, no_merge_fault, no_merge_place}
use Rattle.trace_diagram.proofs.lines.read_merge.Goals as goal

pub returns-in_default-cut : goal.returns-in_default-cut
returns-in_default-cut c = no_merge_colon _ _ c.in-Some.ensures c.in_default-cut.ensures

pub returns-then-not-is_place : goal.returns-then-not-is_place
returns-then-not-is_place c = no_merge_place _ _ _ _ c.in-Some.ensures c.in-Some-cut.ensures c.if-not-is_place.ensures

pub returns-in-Some-behind-2 : goal.returns-in-Some-behind-2
returns-in-Some-behind-2 c =
    is_merge fault.ZeroDivisor c.in-Some.ensures c.in-Some-cut.ensures c.if-not-is_place.ensures
    c.in-Some-behind-2.ensures

pub returns-in-None : goal.returns-in-None
returns-in-None c =
    no_merge_fault _ _ _ _ c.in-Some.ensures c.in-Some-cut.ensures c.in_default-behind.ensures c.in-None.ensures
