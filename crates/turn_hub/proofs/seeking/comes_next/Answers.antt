-- Answers of comes_next: what stands at the place of a number is its record.
use Rattle.std.proofs.Common.{rules, ◌<◌, length, sym, ap, ◌∙◌}
use Rattle.hub_core.specs.Tally.{record_at}
use Rattle.turn_hub.proofs.Seeks.{record_read}
use Rattle.turn_hub.proofs.seeking.comes_next.Goals as goal

pub returns-in-Some-clause-ready : goal.returns-in-Some-clause-ready
returns-in-Some-clause-ready g c = λ e.
    let below : c.args.number < length c.as_slice.result.now = search rules in
    let is =
    ap (λ l. record_at l c.args.number) (sym c.as_slice.ensures.value)
    ∙ (record_read c.as_slice.result.now c.args.number _ below ∙ sym c.in-Some.ensures.lookup.1) in
    let got = c.is_runner.ensures e in
    (got.0, is ∙ got.1)
