-- Answers of TurnHub::enter_recorded: to record a kept child is a step of the turn that leaves all else as it was.
use Rattle.std.proofs.Common.{rules, ◌≡◌, true, option_to_list, ap, ◌∙◌}
use Rattle.turn_hub.proofs.hub.TurnHub.enter_recorded.Goals as goal

pub returns-clause-told : goal.returns-clause-told
returns-clause-told g c =
    let r = c.record_kept-desk.ensures in
    let recorded : c.record_kept-desk.result.1 ≡ true = search rules in (
      r.own.1,
      r.free,
      r.mine ∙ ap option_to_list (r.none recorded),
      r.told c.args.place.now.me.0 c.in_ok-desk.ensures.told.2,
    )
