-- Answers of coming_after: what comes has a record, which stands at the place of its number.
use Rattle.std.proofs.Common.{rules, ◌<◌, ◌≤◌, length, sym, ap, ◌∙◌, subst}
use Rattle.revision_machine.proofs.Numbers.{none_some}
use Rattle.hub_core.specs.Tally.{record_at}
use Rattle.turn_hub.specs.Comings.{IsFirstKept}
use Rattle.turn_hub.proofs.Seeks.{record_beyond, record_read}
use Rattle.turn_hub.proofs.firsts.coming_after.Goals as goal

pub unreachable-requires : goal.unreachable-requires
unreachable-requires g c =
    let rs = c.args.records.now.list.items in
    let n = c.in-Some.number in
    let kept = subst (IsFirstKept rs) (sym c.first_once_ended.ensures ∙ c.in-Some.is) c.requires.first in
    let above : length c.as_slice.result.now ≤ n = search rules in
    let beyond = record_beyond rs n (subst (λ l. length l ≤ n) c.as_slice.ensures.value above) in
    none_some (sym beyond ∙ kept.1)

pub coming_by-requires-clause-record : goal.coming_by-requires-clause-record
coming_by-requires-clause-record g c =
    let n = c.in-Some.number in
    let below : n < length c.as_slice.result.now = search rules in
    ap (λ l. record_at l n) (sym c.as_slice.ensures.value)
    ∙ (record_read c.as_slice.result.now n _ below ∙ sym c.in-Some-get.ensures.lookup.1)

pub coming_by-requires-clause-open : goal.coming_by-requires-clause-open
coming_by-requires-clause-open g c =
    let rs = c.args.records.now.list.items in
    let n = c.in-Some.number in
    let kept = subst (IsFirstKept rs) (sym c.first_once_ended.ensures ∙ c.in-Some.is) c.requires.first in
    let below : n < length c.as_slice.result.now = search rules in
    let is =
    ap (λ l. record_at l n) (sym c.as_slice.ensures.value)
    ∙ (record_read c.as_slice.result.now n _ below ∙ sym c.in-Some-get.ensures.lookup.1) in
    (kept.0, sym is ∙ kept.1, kept.2)
