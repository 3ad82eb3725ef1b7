-- Answers of joinee_of: what stands at the place of a number is its record.
use Rattle.std.proofs.Common.{rules, ◌≤◌, ◌<◌, length, sym, ap, ◌∙◌, subst}
use Rattle.hub_core.specs.Tally.{record_at}
use Rattle.turn_hub.specs.Joinings.{IsJoinee}
use Rattle.turn_hub.proofs.Seeks.{record_beyond, record_read}
use Rattle.turn_hub.proofs.seeking.joinee_of.Goals as goal

pub returns-in-None : goal.returns-in-None
returns-in-None g c =
    let above : length c.as_slice.result.now ≤ c.args.number = search rules in
    record_beyond c.args.records.now.list.items c.args.number
    (subst (λ l. length l ≤ c.args.number) c.as_slice.ensures.value above)

pub returns-in-Some : goal.returns-in-Some
returns-in-Some g c =
    let below : c.args.number < length c.as_slice.result.now = search rules in
    let is =
    ap (λ l. record_at l c.args.number) (sym c.as_slice.ensures.value)
    ∙ (record_read c.as_slice.result.now c.args.number _ below ∙ sym c.in-Some.ensures.lookup.1) in
    subst (λ o. IsJoinee o c.kind_of.result) (sym is) c.kind_of.ensures
