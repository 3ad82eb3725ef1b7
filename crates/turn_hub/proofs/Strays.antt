-- A joiner waits for a number that no revision has, while no seat keeps a child; and a turn that was given back as if
-- there had been none.
use Rattle.std.proofs.Common.{◌≡◌, ◌≢◌, true, refl, ◌∙◌, arith}
use Rattle.hub_core.specs.declared.state.HubState.{HubState}
use Rattle.hub_core.specs.declared.state.HubState.TheVariants.{All, Twice, NoMemory}
use Rattle.hub_core.specs.HubMachine.{HubMachine}
use Rattle.hub_core.specs.declared.desk.Desk.{Desk}
use Rattle.hub_core.specs.declared.records.Records.{Records}
use Rattle.hub_core.specs.declared.sight.Sight.{Sight}
use Rattle.hub_core.specs.Recorded.{IsLonger}
use Rattle.hub_core.specs.Tally.{records_of, queue_of, lets_pass}
use Rattle.hub_core.proofs.Standing.{Stands, stands_longer}
use Rattle.turn_hub.specs.Turns.{IsIn}
use Rattle.turn_hub.specs.Joinings.{IsBefore}

module _ {L R A E : Type 0} (d : HubMachine L R A E) (ends : E → L → Type 0) where
  -- a place for what waits, and joiners are tracked no more
  pub in_stray : (v0 v : Sight L) (held : Desk R A E) (records : Records R A E) (h : IsIn d ends v0 v held)
      → IsLonger held.records.queue records.queue held.records.list.items records.list.items → held.lent ≡ 0
      → (after : IsIn d ends v0 v (record held { records = records; strays = true }))
      × (after.hand.slots ≡ h.hand.slots)
  in_stray v0 v held records h longer lent =
      let hand = h.hand in
      let st : Stands d ends v.seat.group (records_of held) (queue_of held) hand.slots v.lone held.strays =
      record { shadows = hand.shadows; queued = hand.queued; tracked = hand.tracked; grouped = hand.grouped } in
      let more =
      stands_longer d ends v.seat.group (records_of held) (queue_of held) hand.slots v.lone held.strays st
      records.list.items records.queue longer in (
        record {
          hand = record {
            has = hand.has;
            part = hand.part;
            slots = hand.slots;
            sound = hand.sound;
            outs = hand.outs;
            current = hand.current;
            alone = hand.alone;
            kept = hand.kept;
            entries = hand.entries;
            limit_is = hand.limit_is;
            lent_is = hand.lent_is;
            shadows = more.shadows;
            queued = more.queued;
            tracked = λ q. absurd cc;
            strayed = λ q. lent;
            grouped = more.grouped;
            saw = hand.saw;
            halt = hand.halt;
          };
          same = h.same;
          limit = h.limit;
          over = h.over;
          said = h.said;
          entered = h.entered;
          found = h.found;
          known = h.known;
        },
        refl,
      )

  none_by : (h : HubState) → (h ≢ All → h ≡ All) → h ≡ All
  none_by All n = refl
  none_by Twice n = n (λ q. cc)
  none_by NoMemory n = n (λ q. cc)

  -- what is told of the next turn is told of the view before the turn that was given back so
  pub before_pass : (v0 v : Sight L) (desk : Desk R A E) → IsIn d ends v0 v desk → desk.state ≡ All
      → IsBefore d ends v0 (lets_pass v)
  before_pass v0 v desk h free =
      let none : v0.seat.halt ≡ All = none_by v0.seat.halt (λ n. h.known n ∙ free) in record {
        turn = λ w next i. record {
          hand = i.hand;
          same = (
            i.same.0 ∙ h.same.0,
            i.same.1 ∙ h.same.1,
            i.same.2 ∙ h.same.2,
            i.same.3 ∙ h.same.3,
            i.same.4 ∙ h.same.4,
            i.same.5 ∙ h.same.5,
          );
          limit = let a = h.limit in let b = i.limit in omega arith;
          over = i.over;
          said = i.said;
          entered = i.entered;
          found = i.found;
          known = λ n. absurd (n none);
        };
        halted = λ x i. record {
          keeps = (
            (i.keeps.0.0 ∙ h.same.1, i.keeps.0.1 ∙ h.same.2, i.keeps.0.2 ∙ h.same.0),
            i.keeps.1 ∙ h.same.3,
            λ n. absurd (n none),
          );
          saw = i.saw;
          halt = i.halt;
          entry = i.entry;
        };
        turns = h.same.4;
      }

  pub before_same : (v : Sight L) → IsBefore d ends v v
  before_same v = record { turn = λ w desk h. h; halted = λ x i. i; turns = refl }

  pub before_over : (v0 v w : Sight L) → IsBefore d ends v0 v → IsBefore d ends v w → IsBefore d ends v0 w
  before_over v0 v w a b = record {
    turn = λ x desk h. a.turn x desk (b.turn x desk h);
    halted = λ x i. a.halted x (b.halted x i);
    turns = b.turns ∙ a.turns;
  }
