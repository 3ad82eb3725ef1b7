-- Answers of TurnHub::enter_but: a kept child that is another gets a record, and nothing else changes.
use Rattle.std.proofs.Common.{rules, ◌≡◌, true, option_to_list, ap, ◌∙◌, sym}
use Rattle.std.specs.Option.{is_some}
use Rattle.turn_hub.specs.Plans.{lone_list}
use Rattle.turn_hub.proofs.hub.TurnHub.enter_but.Goals as goal

pub returns-clause-told : goal.returns-clause-told
returns-clause-told g c =
    let r = c.record_kept-desk.ensures in
    let recorded : c.record_kept-desk.result.1 ≡ true = search rules in
    let none = r.none recorded in (
      r.own.1,
      r.free,
      r.mine ∙ (ap option_to_list none ∙ sym (ap (λ o. lone_list (is_some o) c.args.joinee) none)),
      r.told c.args.place.now.me.0 c.in_ok-desk.ensures.told.2,
    )
