-- What a seat knows when it has taken the turn.
use Rattle.hub_core.specs.HubMachine.{HubMachine}
use Rattle.hub_core.specs.declared.desk.Desk.{Desk}
use Rattle.hub_core.specs.declared.sight.Sight.{Sight}
use Rattle.hub_core.specs.Tally.{Took}
use Rattle.turn_hub.specs.Turns.{IsIn}

module _ {L R A E : Type 0} (d : HubMachine L R A E) (ends : E → L → Type 0) where
  -- when it has taken the turn
  pub in_taken : {v w : Sight L} {desk : Desk R A E} → Took d ends v w desk → IsIn d ends v w desk
  in_taken took = record {
    hand = took.hand;
    same = (took.same.0, took.same.1, took.same.2, took.same.3, took.same.4, took.same.5);
    limit = took.limit;
    over = took.over;
    said = took.said;
    entered = took.entered_is;
    found = took.found;
    known = took.known;
  }
