-- A joiner is handed in and waits, and the seat takes what comes first, at one moment of its turn.
use Rattle.std.proofs.Common.{◌≡◌, ℕ, ◌<◌, false, List, [], ◌∷◌, ◌++◌, length, refl, sym, ap, ◌∙◌, subst, append-nil, Option, Some, None}
use Rattle.revision_machine.specs.Numbered.{at_number, put_number}
use Rattle.hub_core.specs.declared.status.Status.{Status}
use Rattle.hub_core.specs.declared.status.Status.TheVariants.{Ready, Out, Waiting}
use Rattle.hub_core.specs.declared.state.HubState.TheVariants.{All}
use Rattle.hub_core.specs.declared.deed.Deed.{Deed}
use Rattle.hub_core.specs.declared.deed.Deed.TheVariants.{HandsIn}
use Rattle.hub_core.specs.declared.desk.Desk.{Desk}
use Rattle.hub_core.specs.declared.records.Records.{Records}
use Rattle.hub_core.specs.declared.sight.Sight.{Sight}
use Rattle.hub_core.specs.declared.view.Said.TheVariants as mark
use Rattle.hub_core.specs.declared.view.View.{View}
use Rattle.hub_core.specs.HubMachine.{HubMachine}
use Rattle.hub_core.specs.Chains.{DelaysOne, IsWithin}
use Rattle.hub_core.specs.Counts.{times, flag}
use Rattle.hub_core.specs.Rounds.{stamped}
use Rattle.hub_core.specs.Found.{is_ready, ended_here}
use Rattle.hub_core.specs.Marks.{first_in}
use Rattle.hub_core.specs.Passes.{named}
use Rattle.hub_core.specs.Queued.{waits_for}
use Rattle.hub_core.specs.Recorded.{put_record}
use Rattle.hub_core.specs.Rule.{says}
use Rattle.hub_core.specs.Seats.{HasJoin}
use Rattle.hub_core.specs.Tally.{pairs, record_at, records_of, queue_of, found_in, entered, do_all, HasDesk, Entered, gives_back}
use Rattle.hub_core.specs.Views.{hands_in, draws, rests}
use Rattle.hub_core.proofs.Passes.{pass_named}
use Rattle.hub_core.proofs.Moments.{Moment}
use Rattle.hub_core.proofs.Standing.{Stands, stands_wait}
use Rattle.hub_core.proofs.Rests.{lacks_in}
use Rattle.turn_hub.specs.declared.answers.Onward.{Onward}
use Rattle.turn_hub.specs.declared.answers.Onward.TheVariants as onward
use Rattle.turn_hub.specs.Answers.{Waited, WaitedOn, OnwardSays, IsSameTurn}
use Rattle.turn_hub.proofs.Says.{where_waits, says_put}
use Rattle.turn_hub.specs.Turns.{IsIn}
use Rattle.turn_hub.specs.Plans.{CanEnter, IsEntered, HasPlan}
use Rattle.turn_hub.specs.Joinings.{IsOpenIn}
use Rattle.turn_hub.specs.Comings.{IsFirstKept, IsFirstTaken, TakesFirst, coming_deeds, coming_slots, coming_of}
use Rattle.turn_hub.proofs.Finding.{found_at, keeps_in}
use Rattle.turn_hub.proofs.Hands.{may_wait}
use Rattle.turn_hub.proofs.Draws.{can_draw}
use Rattle.turn_hub.proofs.Heads.{ComesAt, list_head, ready_on, first_ran, first_retried, first_none}
use Rattle.turn_hub.proofs.Onwards.{MayGo, Comes, can_go, go_told, go_rests, go_hand, first_ready, first_within, first_kept, taken_stands, none_stands}
use Rattle.turn_hub.proofs.Afters.{stands_now, out_now, not_lone, record_now, within_now}

-- what is taken alone is no entry
none_entered : (o : Option ℕ) (n : ℕ) (l : List (ℕ × ℕ)) → l ++ stamped n (entered (coming_deeds (coming_of o))) ≡ l
none_entered None n l = append-nil l
none_entered (Some i) n l = append-nil l

module _ {L R A E : Type 0} (d : HubMachine L R A E) (ends : E → L → Type 0) where
  abbrev Slots : Type 0
  Slots = List (Status R A E)

  module _ (v : Sight L) (desk : Desk R A E) (hand : HasDesk d ends v desk) (free : desk.state ≡ All) (mine : v.mine
      ≡ [])
      (k : ℕ) (a : A) (p : HasJoin d ends v.seat k a) where
    abbrev pos : 0 < named k v.seat.passes
    pos = pass_named v.seat.passes k p.1 p.3

    abbrev x : Status R A E
    x = Waiting a

    abbrev first : Option ℕ
    first = first_in (queue_of desk).ready

    abbrev pub wait_go : MayGo d ends v desk hand (HandsIn k ∷ []) k x p.0
    wait_go = λ log out lone slots fs now. (
      (pos, tt),
      may_wait d ends v desk hand free mine k a p log out lone slots fs now
          (not_lone d ends v desk hand p.0 log out lone slots fs now k pos (ap (times k) mine)) (ap (times k) mine),
    )

    pub wait_comes : Comes d ends v desk hand k x p.0 (coming_of first)
    wait_comes log out lone slots fs now = by first refl
      where
        st : Stands d ends v.seat.group (records_of desk) (queue_of desk) slots lone desk.strays
        st = stands_now d ends v desk hand p.0 log out lone slots fs now

        by : (o : Option ℕ) → first ≡ o → ComesAt d ends (put_number slots k x) (coming_of o)
        by None e = tt
        by (Some n) e =
            can_draw d ends (put_number slots k x) (at_number (put_number slots k x) n)
            (ready_on d ends slots k x n (out_now d ends v desk hand p.0 log out lone slots fs now k pos)
            (first_ready d ends v.seat.group desk.records slots lone desk.strays st n e))

    abbrev pub wait_deeds : List Deed
    wait_deeds = HandsIn k ∷ coming_deeds (coming_of first)

    pub can_wait : HasPlan desk wait_deeds None None → CanEnter d ends v desk None (λ n. Unit {0})
    can_wait plan =
        can_go d ends v desk hand free (HandsIn k ∷ []) k pos x p.0 p.2 wait_go (coming_of first) wait_comes plan

    module _ (w : Sight L) (count : ℕ) (plan : HasPlan desk wait_deeds None None)
        (told : IsEntered d ends v w desk None count) where
      abbrev pub wait_told : Entered d ends v w p.0 hand.slots wait_deeds None v.mine (λ l. l) count
      wait_told =
          go_told d ends v desk hand free (HandsIn k ∷ []) k pos x p.0 p.2 wait_go (coming_of first) wait_comes w count
          plan told

      pub wait_rests : (y : Sight L) → y ≡ gives_back w
          → (y.seat.parts ≡ v.seat.parts) × (y.seat.turns ≡ y.seat.log ∷ v.seat.turns) × (y.rounds ≡ v.rounds)
          × (y.limit ≡ v.limit) × (y.mine ≡ v.mine)
      wait_rests =
          go_rests d ends v desk hand free (HandsIn k ∷ []) k pos x p.0 p.2 wait_go (coming_of first) wait_comes w count
          plan told

      pub wait_record : (record_at (records_of desk) k ≡ Some Out) × (k < length (queue_of desk).links.items)
      wait_record = let t = wait_told in let none = ap (times k) mine in (
        record_now d ends v desk hand p.0 t.log t.out t.lone t.slots t.forkers t.now k pos none,
        (within_now d ends v desk hand p.0 t.log t.out t.lone t.slots t.forkers t.now k pos none).0,
      )

      -- the records behind the wait
      module _ (open_in : IsOpenIn d ends v hand.slots (d.on a)) (group : d.joiner_group a ≡ v.seat.group)
          (recorded : desk.strays ≡ false → (z : Status R A E) × (record_at (records_of desk) (d.on a) ≡ Some z))
          (one : Records R A E) (list : one.list.items ≡ put_record (records_of desk) k x)
          (delays : DelaysOne (queue_of desk) one.queue k (d.on a)) where
        abbrev slots1 : Slots
        slots1 = put_number wait_told.slots k x

        st0 : Stands d ends v.seat.group (records_of desk) (queue_of desk) wait_told.slots wait_told.lone desk.strays
        st0 = let t = wait_told in stands_now d ends v desk hand p.0 t.log t.out t.lone t.slots t.forkers t.now

        out_k : at_number wait_told.slots k ≡ Some Out
        out_k = let t = wait_told in out_now d ends v desk hand p.0 t.log t.out t.lone t.slots t.forkers t.now k pos

        open_now : ended_here (at_number wait_told.slots (d.on a)) ≡ false
        open_now = let t = wait_told in open_in p.0 t.log t.out t.lone t.slots t.forkers t.now

        st1 : Stands d ends v.seat.group one.list.items one.queue slots1 wait_told.lone desk.strays
        st1 =
            subst
            (λ (l : List (Option (Status R A E))). Stands d ends v.seat.group l one.queue slots1 wait_told.lone
            desk.strays)
            (sym list)
            (stands_wait d ends v.seat.group (records_of desk) (queue_of desk) wait_told.slots wait_told.lone
            desk.strays
            st0 k a one.queue wait_record.0 open_now delays group recorded)

        -- what comes first is as before
        same_first : first_in one.queue.ready ≡ first
        same_first =
            let q = st0.queued in
            let lists = delays.0 q.ready q.waits q.lists record {
              in_ready = q.ready_are k ∙ ap (λ o. flag (is_ready d wait_told.slots o)) out_k;
              in_waits = λ m. q.waits_are m k ∙ ap (λ o. flag (waits_for d wait_told.slots m o)) out_k;
            } in
            list_head one.queue.links.items one.queue.ready q.ready lists.ready_is
            ∙ sym (list_head (queue_of desk).links.items (queue_of desk).ready q.ready q.lists.ready_is)

        pub wait_first : IsWithin one.queue.ready (length one.queue.links.items)
            × IsFirstKept one.list.items (first_in one.queue.ready)
        wait_first = (
          first_within d ends v.seat.group one slots1 wait_told.lone desk.strays st1,
          by (first_in one.queue.ready) refl,
        )
          where
            by : (o : Option ℕ) → first_in one.queue.ready ≡ o → IsFirstKept one.list.items o
            by None e = tt
            by (Some n) e = first_kept d ends v.seat.group one slots1 wait_told.lone desk.strays st1 n e

        -- the value is in hand again
        module _ (two : Records R A E) where
          taken_by : (n : ℕ) (y : Status R A E) → TakesFirst one two n y
              → Stands d ends v.seat.group two.list.items two.queue (coming_slots
              (coming_of first) slots1) wait_told.lone
              desk.strays
          taken_by n y h =
              subst
              (λ (o : Option ℕ). Stands d ends v.seat.group two.list.items two.queue (coming_slots (coming_of o) slots1)
              wait_told.lone desk.strays)
              (sym h.first ∙ same_first)
              (taken_stands d ends v.seat.group one slots1 wait_told.lone desk.strays st1 two n y h)

          st2 : (next : Onward R A) → IsFirstTaken one two next
              → Stands d ends v.seat.group two.list.items two.queue (coming_slots
              (coming_of first) slots1) wait_told.lone
              desk.strays
          st2 (onward.Run n r) h = taken_by n (Ready r) h
          st2 (onward.Retry n b) h = taken_by n (Waiting b) h
          st2 onward.Nothing h =
              subst
              (λ (o : Option ℕ). Stands d ends v.seat.group two.list.items two.queue (coming_slots (coming_of o) slots1)
              wait_told.lone desk.strays)
              (sym h.0 ∙ same_first)
              (subst
              (λ (z : Records R A E). Stands d ends v.seat.group z.list.items z.queue slots1 wait_told.lone desk.strays)
              (sym h.1) st1)

          pub wait_hand : (next : Onward R A) → IsFirstTaken one two next → (desk' : Desk R A E) → desk'.records ≡ two
              → desk'.journal ≡ desk.journal → desk'.state ≡ desk.state → desk'.lent ≡ desk.lent
              → desk'.strays ≡ desk.strays → HasDesk d ends w desk'
          wait_hand next h desk' records journal state lent strays =
              go_hand d ends v desk hand free (HandsIn k ∷ []) k pos x p.0 p.2 wait_go (coming_of first) wait_comes w
              count plan told desk'
              (subst
              (λ (z : Records R A E). Stands d ends v.seat.group z.list.items z.queue
              (coming_slots (coming_of first) slots1) wait_told.lone desk.strays)
              (sym records) (st2 next h))
              (ap (λ j. pairs j.entries.items) journal
              ∙ sym (none_entered first (length wait_told.slots) (pairs desk.journal.entries.items)))
              state (ap (λ j. j.limit) journal) lent strays

          -- ---- what is told of it

          module _ (v0 y : Sight L) (h : IsIn d ends v0 v desk) (is : y ≡ gives_back w) where
            abbrev u : View L
            u = found_in wait_told.log wait_told.out (says d ends wait_told.slots) v.seat

            m1 : Moment d ends p.0 (hands_in k u) slots1 wait_told.forkers wait_told.lone v.mine
            m1 = let t = wait_told in (wait_go t.log t.out t.lone t.slots t.forkers t.now).1

            waited : Waited d ends v0.seat (rests (hands_in k u)) k a
            waited =
                let f = found_at d ends v0 v desk wait_told.log wait_told.out wait_told.slots h free in
                record {
                  free = f.entered;
                  keeps = keeps_in d ends f k;
                  gone = lacks_in d ends u k;
                  entry = sym f.found;
                  unfinished = where_waits d ends (says d ends wait_told.slots) wait_told.slots (d.on a) refl open_now;
                }

            -- of the view behind these deeds
            on_by : (z : View L) (next : Onward R A) → IsSameTurn (rests (hands_in k u)) z
                → OnwardSays d ends (says d ends slots1) (rests (hands_in k u)) z next
                → WaitedOn d ends v0.seat z k a next
            on_by z next same says1 = record {
              between = rests (hands_in k u);
              waited = waited;
              same = same;
              onward = subst (λ s. OnwardSays d ends s (rests (hands_in k u)) z next)
                  (says_put d ends wait_told.slots k x ∙ ap (λ s. put_number s k (mark.Waits (d.on a))) (sym same.said))
                  says1;
            }

            seat_is : (o : Option ℕ) → first_in one.queue.ready ≡ o
                → y.seat ≡ rests (do_all (coming_deeds (coming_of o)) (hands_in k u))
            seat_is o e =
                ap (λ z. z.seat) is
                ∙ (ap (λ z. rests z.seat) wait_told.is
                ∙ ap (λ (q : Option ℕ). rests (do_all (coming_deeds (coming_of q)) (hands_in k u)))
                (sym same_first ∙ e))

            pub wait_says : (next : Onward R A) → IsFirstTaken one two next → WaitedOn d ends v0.seat y.seat k a next
            wait_says (onward.Run n r) t =
                let at = (st1.shadows.recorded n (Ready r) t.was).0 in
                subst (λ (z : View L). WaitedOn d ends v0.seat z k a (onward.Run n r)) (sym (seat_is (Some n) t.first))
                (on_by (rests (draws n (hands_in k u))) (onward.Run n r)
                record { said = refl; entered = refl; found = refl; log = refl; saw = refl; halt = refl }
                (first_ran d ends p.0 (hands_in k u) slots1 wait_told.forkers wait_told.lone v.mine m1 refl p.2 n r at
                (st1.grouped n (Ready r) t.was)))
            wait_says (onward.Retry n b) t =
                let at = (st1.shadows.recorded n (Waiting b) t.was).0 in
                let ready = first_ready d ends v.seat.group one slots1 wait_told.lone desk.strays st1 n t.first in
                subst (λ (z : View L). WaitedOn d ends v0.seat z k a (onward.Retry n b)) (sym (seat_is
                (Some n) t.first))
                (on_by (rests (draws n (hands_in k u))) (onward.Retry n b)
                record { said = refl; entered = refl; found = refl; log = refl; saw = refl; halt = refl }
                (first_retried d ends p.0 (hands_in k u) slots1 wait_told.forkers wait_told.lone v.mine m1 refl p.2 n
                b at
                (sym (ap (is_ready d slots1) at) ∙ ready) (st1.grouped n (Waiting b) t.was)))
            wait_says onward.Nothing t =
                subst (λ (z : View L). WaitedOn d ends v0.seat z k a onward.Nothing) (sym (seat_is None t.0))
                (on_by (rests (hands_in k u)) onward.Nothing
                record { said = refl; entered = refl; found = refl; log = refl; saw = refl; halt = refl }
                (first_none d ends p.0 (hands_in k u) slots1 wait_told.forkers wait_told.lone v.mine m1 refl p.2
                (none_stands d ends v.seat.group one slots1 wait_told.lone desk.strays st1 t.0)))
