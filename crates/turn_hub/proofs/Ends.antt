-- The end of a revision, at one moment: one entry, and none where its join trapped it.
use Rattle.std.proofs.Common.{◌≡◌, ℕ, ◌/◌, ◌<◌, Bool, true, false, List, [], ◌∷◌, ◌++◌, length, refl, sym, ap, ◌∙◌, subst, arith, Option, Some, None, MatchBool}
use Rattle.revision_machine.specs.Numbered.{put_number}
use Rattle.hub_core.specs.declared.status.Status.{Status}
use Rattle.hub_core.specs.declared.status.Status.TheVariants.{Out, Over}
use Rattle.hub_core.specs.declared.state.HubState.TheVariants.{All}
use Rattle.hub_core.specs.HubMachine.{HubMachine, numbered, values}
use Rattle.hub_core.specs.declared.desk.Desk.{Desk}
use Rattle.hub_core.specs.declared.sight.Sight.{Sight}
use Rattle.hub_core.specs.declared.view.View.{View}
use Rattle.hub_core.specs.Hub.{EndsLeg, WasTrapped}
use Rattle.hub_core.specs.Chains.{EndsOne, IsWithin, chain_at}
use Rattle.hub_core.specs.Counts.{times}
use Rattle.hub_core.specs.Passes.{named, IsPass}
use Rattle.hub_core.specs.Recorded.{put_record}
use Rattle.hub_core.specs.Rounds.{stamped}
use Rattle.hub_core.specs.Seats.{HasPass, HasTrap, HasEnd}
use Rattle.hub_core.specs.Views.{rests, ends_in}
use Rattle.hub_core.specs.Rule.{says}
use Rattle.hub_core.specs.declared.deed.Deed.{Deed}
use Rattle.hub_core.specs.Tally.{pairs, record_at, records_of, queue_of, found_in, entered, do_all, CanDo, HasDesk, Now, AreLegal, MayEnter, Entered, gives_back}
use Rattle.hub_core.proofs.Passes.{pass_named}
use Rattle.hub_core.proofs.Deeds.{named_commit}
use Rattle.hub_core.proofs.Moments.{Moment, leaves_none, one_at, state_at, end_moment, trap_moment, legal_by}
use Rattle.hub_core.proofs.Standing.{Stands, stands_end}
use Rattle.hub_core.proofs.Staying.{entered_hand}
use Rattle.turn_hub.specs.Answers.{EndedSays}
use Rattle.turn_hub.specs.Turns.{IsIn}
use Rattle.turn_hub.specs.Plans.{CanEnter, IsEntered, HasPlan, end_deeds}
use Rattle.turn_hub.proofs.Values.{can_plan, told_plan}
use Rattle.turn_hub.proofs.Finding.{found_at, ended_says}
use Rattle.turn_hub.proofs.Afters.{not_over, tied_in, saw_over, stands_now, moment, out_now, not_lone, record_now, within_now, counted_below, rests_entered, after_of}

module _ {L R A E : Type 0} (d : HubMachine L R A E) (ends : E → L → Type 0) where
  abbrev Slots : Type 0
  Slots = List (Status R A E)

  abbrev pub IsEndAt : Bool → ℕ → E → L → List ℕ → Type 0
  IsEndAt b k e start at =
      MatchBool b (WasTrapped (numbered d) (values d ends) start at k e) (EndsLeg (numbered d) (values d ends) start
      at k e)

  pub end_pass : (b : Bool) (v : View L) (k : ℕ) (e : E) → MatchBool b (HasTrap d ends v k e) (HasEnd d ends v k e)
      → HasPass d ends v k (IsEndAt b k e)
  end_pass true v k e event = event
  end_pass false v k e event = event

  -- the deeds of an end lead to this moment
  pub end_by : (b : Bool) (start : L) (u : View L) (slots : Slots) (fs lone mine : List ℕ) (m : Moment d ends start u
      slots fs lone mine)
      (k : ℕ) (e : E) (at : List ℕ) → IsPass u.passes k at → IsEndAt b k e start at → times k lone ≡ 0 → times k
      mine ≡ 0
      → CanDo (end_deeds b k) u
      × Moment d ends start (do_all (end_deeds b k) u) (put_number slots k (Over e)) fs lone mine
  end_by true start u slots fs lone mine m k e at pass was none not =
      let pos = pass_named u.passes k at pass in (
        (pos, tt),
        trap_moment d ends start u slots fs lone mine m k e lone mine pos
            record {
              state = was.state;
              stands = state_at d ends start u slots fs lone mine m k at was.state pass was.stands;
              is_end = was.is_end;
            }
            (leaves_none k lone none) (leaves_none k mine not),
      )
  end_by false start u slots fs lone mine m k e at pass leg none not =
      let pos = pass_named u.passes k at pass in
      let again = named_commit k u (one_at d ends start u slots fs lone mine m k pos).0 k in (
        (pos, ((omega arith), tt)),
        end_moment d ends start u slots fs lone mine m k e lone mine pos
            record {
              state = leg.state;
              last = leg.last;
              stands = state_at d ends start u slots fs lone mine m k at leg.state pass leg.stands;
              goes = leg.goes;
              is_end = leg.is_end;
            }
            (leaves_none k lone none) (leaves_none k mine not),
      )

  pub ends_all : (b : Bool) (k : ℕ) (u : View L) → do_all (end_deeds b k) u ≡ ends_in b k u
  ends_all true k u = refl
  ends_all false k u = refl

  module _ (v : Sight L) (desk : Desk R A E) (hand : HasDesk d ends v desk) (free : desk.state ≡ All) (mine : v.mine
      ≡ [])
      (b : Bool) (k : ℕ) (e : E) (p : HasPass d ends v.seat k (IsEndAt b k e)) where
    abbrev start : L
    start = p.0

    abbrev ds : List Deed
    ds = end_deeds b k

    has_k : 0 < named k v.seat.passes
    has_k = pass_named v.seat.passes k p.1 p.3

    not_mine : times k v.mine ≡ 0
    not_mine = ap (times k) mine

    module _ (log out lone : List ℕ) (slots : Slots) (fs : List ℕ)
        (now : Now d ends v start hand.slots log out lone slots fs) where
      legal : AreLegal d ends v start ds None v.mine log out lone lone slots (put_number slots k (Over e)) fs
      legal =
          let m = moment d ends v desk hand start log out lone slots fs now in
          let none = not_lone d ends v desk hand start log out lone slots fs now k has_k not_mine in
          let h =
          end_by b start (found_in log out (says d ends slots) v.seat) slots fs lone v.mine m k e p.1 p.3 p.4 none
          not_mine in
          legal_by d ends v start hand.slots log out lone slots fs now ds None lone v.mine (put_number slots k (Over e))
          h.0 h.1 (λ j. refl)
          (λ o. not_over d ends slots k (out_now d ends v desk hand start log out lone slots fs now k has_k) o)

    abbrev may : MayEnter d ends v ds (entered ds) None (λ n. Unit {0}) v.mine (λ l. l) (λ slots. put_number slots k
        (Over e))
    may = record {
      entries = refl;
      has = hand.has;
      part = hand.part;
      free = hand.halt ∙ free;
      start = start;
      begun = p.2;
      slots = hand.slots;
      tied = tied_in d ends v desk hand start p.2 free;
      outs = hand.outs;
      saw = saw_over d ends v desk hand free;
      legal = λ log out lone slots fs now _. legal log out lone slots fs now;
    }

    pub can_end : HasPlan desk ds None None → CanEnter d ends v desk None (λ n. Unit {0})
    can_end plan =
        can_plan d ends v desk hand ds None None None (λ n. Unit {0}) (entered ds) (λ slots. put_number slots k
        (Over e))
        plan may refl

    module _ (w : Sight L) (count : ℕ) (plan : HasPlan desk ds None None) (told : IsEntered d ends v w desk None
        count) where
      abbrev pub end_told : Entered d ends v w start hand.slots ds None v.mine (λ l. l) count
      end_told = told_plan d ends v w desk hand ds None None None count plan told start p.2

      pub end_record : record_at (records_of desk) k ≡ Some Out
      end_record =
          let t = end_told in
          record_now d ends v desk hand start t.log t.out t.lone t.slots t.forkers t.now k has_k not_mine

      pub end_hand : (desk' : Desk R A E) → desk'.records.list.items ≡ put_record (records_of desk) k (Over e)
          → EndsOne (queue_of desk) (queue_of desk') k
          → pairs desk'.journal.entries.items ≡ pairs desk.journal.entries.items ++ stamped (length end_told.slots)
          (entered ds)
          → desk'.state ≡ desk.state → desk'.journal.limit ≡ desk.journal.limit → desk'.lent ≡ desk.lent
          → desk'.strays ≡ desk.strays → HasDesk d ends w desk'
      end_hand desk' records queue entries state limit lent strays =
          let t = end_told in
          let st = stands_now d ends v desk hand start t.log t.out t.lone t.slots t.forkers t.now in
          let after =
          stands_end d ends v.seat.group (records_of desk) (queue_of desk) t.slots t.lone desk.strays st k e
          (queue_of desk') end_record queue in
          entered_hand d ends v w desk desk' hand free start p.2 ds None v.mine (λ l. l)
          (λ slots. put_number slots k (Over e)) count t (legal t.log t.out t.lone t.slots t.forkers t.now)
          (after_of d ends All v desk desk' hand (length t.slots) ds (put_number t.slots k (Over e)) t.lone
          (subst
          (λ (z : List (Option (Status R A E)) × Bool).
          Stands d ends v.seat.group z.0 (queue_of desk') (put_number t.slots k (Over e)) t.lone z.1)
          (λ i. (sym records i, sym strays i)) after)
          entries (state ∙ free) limit (lent ∙ (hand.lent_is ∙ sym t.now.moves.as_many))
          (λ s. lent ∙ hand.strayed (sym strays ∙ s)))

      pub end_says : (v0 x : Sight L) → IsIn d ends v0 v desk → x ≡ gives_back w → EndedSays d ends v0.seat x.seat k b
      end_says v0 x h is =
          let t = end_told in
          subst (λ (y : View L). EndedSays d ends v0.seat y k b)
          (sym (ap (λ y. y.seat) is ∙ (ap (λ y. rests y.seat) t.is ∙ ap rests (ends_all b k (found_in t.log t.out
          (says d ends t.slots) v.seat)))))
          (ended_says d ends (found_at d ends v0 v desk t.log t.out t.slots h free) k b)

      pub end_can : CanDo ds (found_in end_told.log end_told.out (says d ends end_told.slots) v.seat)
      end_can = let t = end_told in (legal t.log t.out t.lone t.slots t.forkers t.now).can

      pub end_rests : (x : Sight L) → x ≡ gives_back w
          → (x.seat.parts ≡ v.seat.parts) × (x.seat.turns ≡ x.seat.log ∷ v.seat.turns) × (x.rounds ≡ v.rounds)
          × (x.limit ≡ v.limit) × (x.mine ≡ v.mine)
      end_rests x is = rests_entered d ends v w x start hand.slots ds None v.mine (λ l. l) count end_told end_can is

      pub end_within : (k < length (queue_of desk).links.items)
          × ((k < length (queue_of desk).waiters.items)
          × IsWithin (chain_at (queue_of desk).waiters.items k) (length (queue_of desk).links.items))
          × (0 < (queue_of desk).unfinished)
      end_within =
          let t = end_told in
          within_now d ends v desk hand start t.log t.out t.lone t.slots t.forkers t.now k has_k not_mine

      pub end_count : (count < 8589934592) × (count / 2 ≡ length end_told.slots)
      end_count = counted_below d ends v w desk hand start ds None v.mine (λ l. l) count end_told
