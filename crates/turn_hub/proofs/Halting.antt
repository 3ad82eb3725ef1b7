-- Want of memory is entered, behind no entries, or a halt was entered before.
use Rattle.std.proofs.Common.{◌≡◌, ◌≢◌, ℕ, Bool, false, List, [], ◌∷◌, length, true, refl, sym, ap, ◌∙◌, subst, append-nil, Option, Some, None, MatchOption}
use Rattle.std.specs.Option.{is_some}
use Rattle.hub_core.specs.declared.status.Status.{Status}
use Rattle.hub_core.specs.declared.state.HubState.{HubState}
use Rattle.hub_core.specs.declared.state.HubState.TheVariants.{All, Twice, NoMemory}
use Rattle.hub_core.specs.HubMachine.{HubMachine, numbered, values}
use Rattle.hub_core.specs.Hub.{Tied}
use Rattle.hub_core.specs.Halts.{halt_by}
use Rattle.hub_core.proofs.Slots.{no_more}
use Rattle.hub_core.specs.declared.desk.Desk.{Desk}
use Rattle.hub_core.specs.declared.records.Records.{Records}
use Rattle.hub_core.specs.declared.sight.Sight.{Sight}
use Rattle.hub_core.specs.declared.view.View.{View}
use Rattle.hub_core.specs.Views.{rests, or_no_memory}
use Rattle.hub_core.specs.Rule.{says, done}
use Rattle.hub_core.specs.Tally.{pairs, HasDesk, Now, IsLast, MayShut, Shut, gives_back, shuts}
use Rattle.hub_core.proofs.Rests.{keeps_halt}
use Rattle.hub_core.proofs.Standing.{Stands}
use Rattle.hub_core.proofs.Staying.{shut_hand}
use Rattle.turn_hub.specs.Answers.{IsHalted}
use Rattle.turn_hub.specs.Turns.{IsIn}
use Rattle.turn_hub.specs.Plans.{CanHalt, IsShut, HasPlan}
use Rattle.turn_hub.proofs.Values.{can_shut, told_shut}
use Rattle.turn_hub.proofs.Afters.{start_in, tied_in, stands_now, after_of}

-- a value that says a halt has one
halt_named : (b : Bool) → halt_by b ≢ All
halt_named true q = cc
halt_named false q = cc

pub halted_some : (o : Option Bool) (h : HubState) → MatchOption o (h ≡ All) (λ b. h ≡ halt_by b) → is_some o ≡ true
    → h ≢ All
halted_some None h m some q = no_more some
halted_some (Some b) h m some q = halt_named b (sym m ∙ q)

module _ {L R A E : Type 0} (d : HubMachine L R A E) (ends : E → L → Type 0) where
  abbrev Slots : Type 0
  Slots = List (Status R A E)

  module _ (v : Sight L) (desk : Desk R A E) (hand : HasDesk d ends v desk) (free : desk.state ≡ All) where
    abbrev start : L
    start = (start_in d ends v desk hand).0

    last : (log out lone : List ℕ) (now : Slots) (fs : List ℕ) → Now d ends v start hand.slots log out lone now fs
        → IsLast d ends NoMemory v start [] v.mine log out lone lone now now fs
    last log out lone now fs n = record {
      can = tt;
      sound = subst (λ l. Tied (numbered d) (values d ends) start l now fs) (sym (append-nil log)) n.tied;
      outs = n.outs;
      lones = λ j. refl;
      few = n.few;
      kept = n.kept;
    }

    abbrev may : MayShut d ends NoMemory v [] v.mine (λ l. l) (λ slots. slots)
    may = record {
      has = hand.has;
      part = hand.part;
      free = hand.halt ∙ free;
      halts = λ q. cc;
      start = start;
      begun = (start_in d ends v desk hand).1;
      slots = hand.slots;
      tied = tied_in d ends v desk hand start (start_in d ends v desk hand).1 free;
      outs = hand.outs;
      legal = last;
    }

    pub can_halt : HasPlan desk [] None None → CanHalt d ends NoMemory v desk
    can_halt plan = can_shut d ends NoMemory v desk hand [] None None (λ slots. slots) plan may refl

    -- the halt, of whatever statuses the seat knows
    shut : (w : Sight L) → HasPlan desk [] None None → IsShut d ends NoMemory v w desk
        → Shut d ends NoMemory v w start hand.slots [] v.mine (λ l. l)
    shut w plan told =
        told_shut d ends NoMemory v w desk hand [] None None plan told start (start_in d ends v desk hand).1

    pub halted_hand : (w : Sight L) (desk' : Desk R A E) → HasPlan desk [] None None → IsShut d ends NoMemory v w desk
        → desk'.journal ≡ desk.journal → desk'.records ≡ desk.records → desk'.lent ≡ desk.lent
        → desk'.strays ≡ desk.strays → desk'.state ≡ NoMemory → HasDesk d ends w desk'
    halted_hand w desk' plan told journal records lent strays state =
        let sh = shut w plan told in
        let st = stands_now d ends v desk hand start sh.log sh.out sh.lone sh.slots sh.forkers sh.now in
        shut_hand d ends NoMemory v w desk desk' hand (λ q. cc) start (start_in d ends v desk hand).1 [] v.mine (λ l. l)
        (λ slots. slots) sh (last sh.log sh.out sh.lone sh.slots sh.forkers sh.now)
        (after_of d ends NoMemory v desk desk' hand (length sh.slots) [] sh.slots sh.lone
        (subst
        (λ (z : Records R A E × Bool). Stands d ends v.seat.group z.0.list.items z.0.queue sh.slots sh.lone z.1)
        (λ i. (sym records i, sym strays i)) st)
        (ap (λ j. pairs j.entries.items) journal ∙ sym (append-nil (pairs desk.journal.entries.items))) state
        (ap (λ j. j.limit) journal) (lent ∙ (hand.lent_is ∙ sym sh.now.moves.as_many))
        (λ s. lent ∙ hand.strayed (sym strays ∙ s)))

    -- what an answer tells of it
    pub halted_now : (v0 w x : Sight L) → IsIn d ends v0 v desk → HasPlan desk [] None None
        → IsShut d ends NoMemory v w desk → x ≡ gives_back w → IsHalted v0.seat x.seat
    halted_now v0 w x h plan told is =
        let sh = shut w plan told in
        subst (λ (y : View L). IsHalted v0.seat y) (sym (ap (λ y. y.seat) is ∙ ap (λ y. rests y.seat) sh.is)) record {
          keeps = ((h.same.1, h.same.2, h.same.0), h.same.3, λ n. absurd (n (h.known n ∙ free)));
          saw = refl;
          halt = refl;
          entry = refl;
        }

    pub halted_rests : (w x : Sight L) → HasPlan desk [] None None → IsShut d ends NoMemory v w desk
        → x ≡ gives_back w
        → (x.seat.parts ≡ v.seat.parts) × (x.seat.turns ≡ x.seat.log ∷ v.seat.turns) × (x.rounds ≡ v.rounds)
        × (x.limit ≡ v.limit) × (x.mine ≡ v.mine)
    halted_rests w x plan told is =
        let sh = shut w plan told in
        let e : x ≡ gives_back (shuts NoMemory sh.log sh.forkers sh.out (says d ends sh.slots) [] (length sh.slots)
        v.mine sh.lone v) =
        is ∙ ap gives_back sh.is in
        subst (λ (y : Sight L).
        (y.seat.parts ≡ v.seat.parts) × (y.seat.turns ≡ y.seat.log ∷ v.seat.turns) × (y.rounds ≡ v.rounds)
        × (y.limit ≡ v.limit) × (y.mine ≡ v.mine))
        (sym e) (refl, refl, refl, refl, refl)

  done_halted : (h : HubState) (slots : Slots) → h ≢ All → done h slots ≡ true
  done_halted All slots n = absurd (n refl)
  done_halted Twice slots n = refl
  done_halted NoMemory slots n = refl

  -- a halt that was entered before
  pub was_halted : (v0 v x : Sight L) (desk : Desk R A E) → IsIn d ends v0 v desk → desk.state ≢ All → x ≡ gives_back v
      → IsHalted v0.seat x.seat
  was_halted v0 v x desk h halted is = subst (λ (y : View L). IsHalted v0.seat y) (sym (ap (λ y. y.seat) is)) record {
    keeps = ((h.same.1, h.same.2, h.same.0), h.same.3, λ n. h.hand.halt ∙ sym (h.known n));
    saw = h.over (done_halted desk.state h.hand.slots halted);
    halt = h.hand.halt
        ∙ (sym (keeps_halt desk.state halted) ∙ ap or_no_memory (sym h.entered));
    entry = sym h.found;
  }
