-- Answers of TurnHub::make_round: the round is noted in the seat's list, and its child is the one that it keeps.
use Rattle.std.proofs.Common.{rules, ◌≡◌, Some, option_to_list, refl, ap, ◌∙◌, arith}
use Rattle.hub_core.specs.Woven.{triples}
use Rattle.turn_hub.proofs.Rounds.{kept_by_round, round_mine, round_made, round_rests}
use Rattle.turn_hub.proofs.hub.TurnHub.make_round.Goals as goal

pub invariant_of-seat-2 : goal.invariant_of-seat-2
invariant_of-seat-2 g c =
    let m = g.L.Revision.machine in
    let ends = g.L.Revision.ends in
    let seat = c.args.seat.now in
    let v = seat.place.me.0 in
    let w = c.find_round.new.place.me.0 in
    let n = c.in_ok-number.number in
    let made = c.in_ok-number.ensures.made in
    let kept : seat.kept ≡ Some c.args.joinee = search rules in
    let r = round_rests m ends v w c.args.joinee c.args.of n made.0 in
    let room = seat.room in
    let limit = r.2 in
    record {
      idle = (r.0, made.1 ∙ seat.idle.1, r.1 ∙ seat.idle.2);
      made = round_made m ends v w c.args.joinee c.args.of n made.0 _ _
          (record { child = n; joinee = c.args.joinee; forker = c.args.of })
          (ap triples c.try_reserve.ensures.items ∙ seat.made) c.append.ensures.items refl refl refl;
      mine = round_mine m ends v w c.args.joinee c.args.of n made.0 (seat.mine ∙ ap option_to_list kept);
      room = omega arith;
    }

pub returns-clause-told : goal.returns-clause-told
returns-clause-told g c = λ l owes.
    let e = c.requires.event in
    kept_by_round g.L.Revision.machine g.L.Revision.ends c.args.seat.now.place.me.0 c.find_round.new.place.me.0
    c.args.joinee c.args.of c.in_ok-number.number c.in_ok-number.ensures.made.0 l e.0 owes e.2 e.1 c.args.child.now e.3
    c.requires.group
