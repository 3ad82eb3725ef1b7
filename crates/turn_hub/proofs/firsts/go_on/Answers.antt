-- Answers of go_on: the joinee of what was taken has a record with its end.
use Rattle.std.proofs.Common.{Some, sym, ap, ◌∙◌, subst}
use Rattle.hub_core.specs.declared.status.Status.TheVariants.{Over, Gone}
use Rattle.hub_core.specs.Recorded.{put_record}
use Rattle.hub_core.specs.Tally.{record_at}
use Rattle.turn_hub.specs.Comings.{FirstJoins}
use Rattle.turn_hub.proofs.firsts.go_on.Goals as goal

pub exchange-requires : goal.exchange-requires
exchange-requires g c =
    let m = g.L.Revision.machine in
    let taken = c.in-Retry.ensures in
    let mid = c.take_first.new.records.list.items in
    let joins = subst (FirstJoins m c.args.records.now.list.items) taken.first c.requires.joins c.in-Retry.at
    taken.was in (
      Over joins.0,
      ap (record_at mid) c.on-joinee.ensures ∙ (ap (λ l. record_at l (m.on c.in-Retry.at)) taken.list ∙ joins.1),
    )

pub returns-in-Over : goal.returns-in-Over
returns-in-Over g c =
    let mid = c.take_first.new.records.list.items in
    let on = c.on-joinee.ensures in (
      c.take_first.new.records,
      c.in-Retry.at,
      c.in-Over.end,
      c.in-Retry.ensures,
      ap (record_at mid) (sym on) ∙ (c.exchange.ensures.was ∙ ap Some c.in-Over.is),
      c.exchange.ensures.now ∙ ap (λ i. put_record mid i Gone) on,
      c.exchange.ensures.queue,
      c.take_in.ensures,
    )
