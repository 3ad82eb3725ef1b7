-- The end of a revision. What comes first then is a joiner whose joinee was joined before: its entry is the last.
use Rattle.std.proofs.Common.{◌≡◌, ℕ, ◌+◌, ◌*◌, ◌/◌, ◌<◌, ◌≤◌, Bool, true, false, cond, List, [], ◌∷◌, ◌++◌, length, refl, sym, ap, ◌∙◌, subst, arith, append_assoc, Option, Some, None}
use Rattle.revision_machine.specs.Numbered.{Both, at_number, put_number}
use Rattle.revision_machine.proofs.Paths.{some_inj}
use Rattle.revision_machine.proofs.Numbers.{none_some}
use Rattle.hub_core.specs.declared.status.Status.{Status}
use Rattle.hub_core.specs.declared.status.Status.TheVariants.{Ready, Out, Waiting, Over, Gone}
use Rattle.hub_core.specs.declared.state.HubState.TheVariants.{All, Twice}
use Rattle.hub_core.specs.declared.deed.Deed.{Deed}
use Rattle.hub_core.specs.declared.desk.Desk.{Desk}
use Rattle.hub_core.specs.declared.records.Records.{Records}
use Rattle.hub_core.specs.declared.sight.Sight.{Sight}
use Rattle.hub_core.specs.declared.view.Said.TheVariants as mark
use Rattle.hub_core.specs.declared.view.View.{View}
use Rattle.hub_core.specs.HubMachine.{HubMachine, numbered, values}
use Rattle.hub_core.specs.Chains.{EndsOne, IsWithin, chain_at}
use Rattle.hub_core.specs.Counts.{times}
use Rattle.hub_core.specs.Hub.{Joins}
use Rattle.hub_core.specs.Marks.{first_in}
use Rattle.hub_core.specs.Passes.{named}
use Rattle.hub_core.specs.Recorded.{put_record}
use Rattle.hub_core.specs.Replay.{replay}
use Rattle.hub_core.specs.Rounds.{stamped}
use Rattle.hub_core.specs.Rule.{OutsAre, is_out, says}
use Rattle.hub_core.specs.Seats.{HasPass}
use Rattle.hub_core.specs.Tally.{pairs, record_at, records_of, queue_of, found_in, entered, do_all, CanDo, HasDesk, Now, IsLast, MayShut, Shut, shuts, gives_back}
use Rattle.hub_core.specs.TallySteps.{leaving, keeping}
use Rattle.hub_core.specs.Views.{commits, draws, rests, stops as halts_as}
use Rattle.hub_core.proofs.Hub as hub
use Rattle.hub_core.proofs.Deeds.{all_done, named_commit}
use Rattle.hub_core.proofs.Lists.{is_at_same}
use Rattle.hub_core.proofs.Passes.{pass_named}
use Rattle.hub_core.proofs.Moments.{Moment, retry_moment, one_at, out_at}
use Rattle.hub_core.proofs.Standing.{Stands, stands_end}
use Rattle.hub_core.proofs.Staying.{shut_hand}
use Rattle.turn_hub.specs.declared.answers.EndStep.TheVariants as ending
use Rattle.turn_hub.specs.declared.answers.JoinAnswer.TheVariants as join
use Rattle.turn_hub.specs.declared.answers.Onward.{Onward}
use Rattle.turn_hub.specs.declared.answers.Onward.TheVariants as onward
use Rattle.turn_hub.specs.Answers.{EndedSays, CameOn, EndedOn}
use Rattle.turn_hub.proofs.Says.{says_put}
use Rattle.turn_hub.specs.declared.coming.Coming.TheVariants as coming
use Rattle.turn_hub.specs.Turns.{IsIn}
use Rattle.turn_hub.specs.Plans.{CanHalt, HasPlan, end_deeds}
use Rattle.turn_hub.specs.Joinings.{IsShutAt}
use Rattle.turn_hub.specs.Comings.{IsFirstKept, IsFirstTaken, TakesFirst, IsComing, coming_deeds}
use Rattle.turn_hub.proofs.Values.{can_shut}
use Rattle.turn_hub.proofs.Finding.{found_at, ended_says}
use Rattle.turn_hub.proofs.Ends.{IsEndAt, ends_all}
use Rattle.turn_hub.proofs.EndsOn.{end_go}
use Rattle.turn_hub.proofs.Heads.{do_append, can_append, entered_append, still_over}
use Rattle.turn_hub.proofs.Onwards.{first_within, first_kept, taken_stands}
use Rattle.turn_hub.proofs.Nexts.{stops_next, ended_first}
use Rattle.turn_hub.proofs.Comes.{twice_says}
use Rattle.turn_hub.proofs.Afters.{tied_in, stands_now, out_now, record_now, within_now, after_of}

module _ {R A : Type 0} where
  abbrev retry_or : ℕ × A → Onward R A → ℕ × A
  retry_or z (onward.Run i r) = z
  retry_or z (onward.Retry i c) = (i, c)
  retry_or z onward.Nothing = z

  pub retry_same : (next : Onward R A) (i n : ℕ) (c a : A) → next ≡ onward.Retry i c → next ≡ onward.Retry n a
      → ◌≡◌ {A = ℕ × A} (n, a) (i, c)
  retry_same next i n c a e h = ap (retry_or (n, a)) (sym h ∙ e)

module _ {L R A E : Type 0} (d : HubMachine L R A E) (ends : E → L → Type 0) where
  abbrev Slots : Type 0
  Slots = List (Status R A E)

  abbrev joiner_or : A → Status R A E → A
  joiner_or b (Ready r) = b
  joiner_or b Out = b
  joiner_or b (Waiting a) = a
  joiner_or b (Over e) = b
  joiner_or b Gone = b

  module _ (v : Sight L) (desk : Desk R A E) (hand : HasDesk d ends v desk) (free : desk.state ≡ All)
      (mine : v.mine ≡ []) (b : Bool) (k : ℕ) (e : E) (p : HasPass d ends v.seat k (IsEndAt d ends b k e)) (n : ℕ)
      (is_coming : IsComing d desk.records k (coming.Stops n)) where
    abbrev pos : 0 < named k v.seat.passes
    pos = pass_named v.seat.passes k p.1 p.3

    abbrev a : A
    a = is_coming.1.0

    abbrev pre : List Deed
    pre = end_deeds b k

    abbrev pub stop_deeds : List Deed
    stop_deeds = end_deeds b k ++ coming_deeds (coming.Stops n)

    abbrev to : Slots → Slots
    to slots = put_number (put_number slots k (Over e)) n Out

    -- ---- the plan

    module _ (log out lone : List ℕ) (slots : Slots) (fs : List ℕ)
        (now : Now d ends v p.0 hand.slots log out lone slots fs) where
      abbrev u : View L
      u = found_in log out (says d ends slots) v.seat

      abbrev u1 : View L
      u1 = do_all pre u

      ended : CanDo pre u × Moment d ends p.0 u1 (put_number slots k (Over e)) fs lone v.mine
      ended = end_go d ends v desk hand free mine b k e p log out lone slots fs now

      stops : (at_number (put_number slots k (Over e)) n ≡ Some (Waiting a))
          × (at_number (put_number slots k (Over e)) (d.on a) ≡ Some Gone)
      stops =
          stops_next d ends v.seat.group desk.records slots lone desk.strays
          (stands_now d ends v desk hand p.0 log out lone slots fs now) k
          (out_now d ends v desk hand p.0 log out lone slots fs now k pos) e n is_coming

      drawn : Moment d ends p.0 (draws n u1) (to slots) fs lone v.mine
          × Joins (numbered d) (values d ends) p.0 u1.log n a
      drawn = retry_moment d ends p.0 u1 (put_number slots k (Over e)) fs lone v.mine ended.1 n a stops.0

      pos_n : 0 < named n (draws n u1).passes
      pos_n = let i = is_at_same n in omega arith

      log_one : u1.log ≡ log ++ entered pre
      log_one = (all_done pre u (now.fresh, now.has) now.single ended.0).log

      log_is : log ++ entered stop_deeds ≡ u1.log ++ n ∷ []
      log_is =
          ap (λ l. log ++ l) (entered_append pre (coming_deeds (coming.Stops n)))
          ∙ (sym (append_assoc log (entered pre) (n ∷ [])) ∙ ap (λ l. l ++ n ∷ []) (sym log_one))

      met : replay (numbered d) p.0 (u1.log ++ n ∷ []) ≡ Some Both
      met =
          hub.twice (numbered d) (values d ends) p.0 u1.log (to slots) fs drawn.0.tied n a
          (out_at d ends p.0 (draws n u1) (to slots) fs lone v.mine drawn.0 n pos_n) drawn.1
          (still_over d ends (put_number slots k (Over e)) n a Gone stops.0 refl stops.1)

      one_n : named n (draws n u1).passes ≡ 1
      one_n = (one_at d ends p.0 (draws n u1) (to slots) fs lone v.mine drawn.0 n pos_n).0

      -- what holds behind the entry
      abbrev AreKept : View L → Type 0
      AreKept z =
          OutsAre (to slots) z.out × ((j : ℕ) → times j lone ≤ times j z.out)
          × ((j : ℕ) → times j v.mine ≤ named j z.passes)

      are_kept : AreKept (do_all stop_deeds u)
      are_kept = subst AreKept (sym (do_append pre (coming_deeds (coming.Stops n)) u)) (
        drawn.0.outs,
        drawn.0.few,
        λ j. let f = drawn.0.kept j in let g = named_commit n (draws n u1) one_n j in omega arith,
      )

      stop_last : IsLast d ends Twice v p.0 stop_deeds v.mine log out lone lone slots (to slots) fs
      stop_last = record {
        can = can_append pre (coming_deeds (coming.Stops n)) u ended.0
            (ended.1.outs n ∙ ap is_out stops.0, (pos_n, tt));
        sound = record {
          before = u1.log;
          last = n;
          is = log_is;
          tied = drawn.0.tied;
          twice = ap (replay (numbered d) p.0) log_is ∙ met;
        };
        outs = are_kept.0;
        lones = λ j. refl;
        few = are_kept.1;
        kept = are_kept.2;
      }

    abbrev may : MayShut d ends Twice v stop_deeds v.mine (λ l. l) to
    may = record {
      has = hand.has;
      part = hand.part;
      free = hand.halt ∙ free;
      halts = λ q. cc;
      start = p.0;
      begun = p.2;
      slots = hand.slots;
      tied = tied_in d ends v desk hand p.0 p.2 free;
      outs = hand.outs;
      legal = λ log out lone slots fs now. stop_last log out lone slots fs now;
    }

    pub can_stop_on : HasPlan desk stop_deeds None None → CanHalt d ends Twice v desk
    can_stop_on plan = can_shut d ends Twice v desk hand stop_deeds None None to plan may refl

    module _ (w : Sight L) (count : ℕ) (plan : HasPlan desk stop_deeds None None)
        (told : IsShutAt d ends Twice v w desk count) where
      pub closed : (sh : Shut d ends Twice v w p.0 hand.slots stop_deeds v.mine (λ l. l)) ×
          (count ≡ 2 * length sh.slots)
      closed =
          subst
          (λ (z : List Deed × Option ℕ × Option ℕ).
          (sh : Shut d ends Twice v w p.0 hand.slots z.0 (keeping z.2 (leaving z.1 v.mine)) (λ l. keeping z.2 (leaving
          z.1 l)))
          × (count ≡ 2 * length sh.slots))
          (λ i. (plan.0 i, plan.1 i, plan.2 i)) (told p.0 hand p.2)

      abbrev t : Shut d ends Twice v w p.0 hand.slots stop_deeds v.mine (λ l. l)
      t = closed.0

      last : IsLast d ends Twice v p.0 stop_deeds v.mine t.log t.out t.lone t.lone t.slots (to t.slots) t.forkers
      last = stop_last t.log t.out t.lone t.slots t.forkers t.now

      pub halt_count : (count < 8589934592) × (count / 2 ≡ length t.slots)
      halt_count =
          let a = closed.1 in
          let b = t.now.roomy in
          let c = hand.limit_is in
          let e = desk.journal.few in
          (omega arith, omega arith)

      pub halt_rests : (y : Sight L) → y ≡ gives_back w
          → (y.seat.parts ≡ v.seat.parts) × (y.seat.turns ≡ y.seat.log ∷ v.seat.turns) × (y.rounds ≡ v.rounds)
          × (y.limit ≡ v.limit) × (y.mine ≡ v.mine)
      halt_rests y is =
          let z = found_in t.log t.out (says d ends t.slots) v.seat in
          let done = all_done stop_deeds z (t.now.fresh, t.now.has) t.now.single last.can in
          let q : y ≡ gives_back (shuts Twice t.log t.forkers t.out (says d ends t.slots) stop_deeds (length t.slots)
          v.mine t.lone v) = is ∙ ap gives_back t.is in
          subst (λ (y : Sight L).
          (y.seat.parts ≡ v.seat.parts) × (y.seat.turns ≡ y.seat.log ∷ v.seat.turns) × (y.rounds ≡ v.rounds)
          × (y.limit ≡ v.limit) × (y.mine ≡ v.mine))
          (sym q) (done.same.1, ap (λ l. (do_all stop_deeds z).log ∷ l) done.same.6, refl, refl, refl)

      st0 : Stands d ends v.seat.group (records_of desk) (queue_of desk) t.slots t.lone desk.strays
      st0 = stands_now d ends v desk hand p.0 t.log t.out t.lone t.slots t.forkers t.now

      out_k : at_number t.slots k ≡ Some Out
      out_k = out_now d ends v desk hand p.0 t.log t.out t.lone t.slots t.forkers t.now k pos

      pub halt_record : record_at (records_of desk) k ≡ Some Out
      halt_record =
          record_now d ends v desk hand p.0 t.log t.out t.lone t.slots t.forkers t.now k pos (ap (times k) mine)

      pub halt_within : (k < length (queue_of desk).links.items)
          × ((k < length (queue_of desk).waiters.items)
          × IsWithin (chain_at (queue_of desk).waiters.items k) (length (queue_of desk).links.items))
          × (0 < (queue_of desk).unfinished)
      halt_within =
          within_now d ends v desk hand p.0 t.log t.out t.lone t.slots t.forkers t.now k pos (ap (times k) mine)

      -- ---- the records behind the end

      module _ (one : Records R A E) (list : one.list.items ≡ put_record (records_of desk) k (Over e))
          (ended_one : EndsOne (queue_of desk) one.queue k) where
        abbrev slots1 : Slots
        slots1 = put_number t.slots k (Over e)

        st1 : Stands d ends v.seat.group one.list.items one.queue slots1 t.lone desk.strays
        st1 =
            subst (λ (l : List (Option (Status R A E))). Stands d ends v.seat.group l one.queue slots1 t.lone
            desk.strays)
            (sym list)
            (stands_end d ends v.seat.group (records_of desk) (queue_of desk) t.slots t.lone desk.strays st0 k e
            one.queue
            halt_record ended_one)

        same_first : first_in one.queue.ready ≡ Some n
        same_first =
            ended_first d ends v.seat.group desk.records t.slots t.lone desk.strays st0 k out_k e one.queue ended_one
            ∙ is_coming.0

        pub halt_first : IsWithin one.queue.ready (length one.queue.links.items)
            × IsFirstKept one.list.items (first_in one.queue.ready)
        halt_first = (
          first_within d ends v.seat.group one slots1 t.lone desk.strays st1,
          subst (IsFirstKept one.list.items) (sym same_first)
              (first_kept d ends v.seat.group one slots1 t.lone desk.strays st1 n same_first),
        )

        waits_now : at_number slots1 n ≡ Some (Waiting a)
        waits_now = (stops t.log t.out t.lone t.slots t.forkers t.now).0

        -- what is taken is that joiner
        pub halt_taken : (two : Records R A E) (next : Onward R A) → IsFirstTaken one two next → next ≡ onward.Retry n a
        halt_taken two (onward.Run i r) h =
            let same : i ≡ n = some_inj (sym h.first ∙ same_first) in
            let at = (st1.shadows.recorded i (Ready r) h.was).0 in
            absurd (clash r (sym at ∙ (ap (at_number slots1) same ∙ waits_now)))
          where
            clash : (r : R) → ◌≡◌ {A = Option (Status R A E)} (Some (Ready r)) (Some (Waiting a)) → ⊥
            clash r q = cc
        halt_taken two (onward.Retry i c) h =
            let same : i ≡ n = some_inj (sym h.first ∙ same_first) in
            let at = (st1.shadows.recorded i (Waiting c) h.was).0 in
            let got : ◌≡◌ {A = Status R A E} (Waiting c) (Waiting a) =
            some_inj (sym at ∙ (ap (at_number slots1) same ∙ waits_now)) in
            ap (λ (z : ℕ × A). onward.Retry z.0 z.1) (λ q. (same q, ap (joiner_or c) got q))
        halt_taken two onward.Nothing h = none_some (sym h.0 ∙ same_first)

        -- ---- the value is in hand again

        module _ (two : Records R A E) (next : Onward R A) (taken : IsFirstTaken one two next) where
          takes : TakesFirst one two n (Waiting a)
          takes = subst (IsFirstTaken one two) (halt_taken two next taken) taken

          pub halt_hand : (desk' : Desk R A E) → desk'.records ≡ two
              → pairs desk'.journal.entries.items ≡ pairs desk.journal.entries.items ++ stamped (length t.slots)
              (entered stop_deeds)
              → desk'.journal.limit ≡ desk.journal.limit → desk'.lent ≡ desk.lent → desk'.strays ≡ desk.strays
              → desk'.state ≡ Twice → HasDesk d ends w desk'
          halt_hand desk' records entries limit lent strays state =
              shut_hand d ends Twice v w desk desk' hand (λ q. cc) p.0 p.2 stop_deeds v.mine (λ l. l) to t last
              (after_of d ends Twice v desk desk' hand (length t.slots) stop_deeds (to t.slots) t.lone
              (subst
              (λ (z : Records R A E × Bool). Stands d ends v.seat.group z.0.list.items z.0.queue
              (to t.slots) t.lone z.1)
              (λ i. (sym records i, sym strays i))
              (taken_stands d ends v.seat.group one slots1 t.lone desk.strays st1 two n (Waiting a) takes))
              entries state limit (lent ∙ (hand.lent_is ∙ sym t.now.moves.as_many))
              (λ s. lent ∙ hand.strayed (sym strays ∙ s)))

          -- ---- what is told of it

          module _ {C S : Type 0} (claimed : C → A → E → Type 0) (stopped : S → A → E → Type 0) (group : C → List ℕ)
              (halted : S → List ℕ) (v0 y : Sight L) (h : IsIn d ends v0 v desk) (is : y ≡ gives_back w) where
            abbrev z0 : View L
            z0 = found_in t.log t.out (says d ends t.slots) v.seat

            abbrev z1 : View L
            z1 = do_all (end_deeds b k) z0

            m1 : Moment d ends p.0 z1 slots1 t.forkers t.lone v.mine
            m1 = (ended t.log t.out t.lone t.slots t.forkers t.now).1

            -- what the end leaves as it was
            abbrev IsSame : View L → Type 0
            IsSame z =
                (z.said ≡ says d ends t.slots) × (z.entered ≡ All) × (z.start ≡ Some p.0) × (z.group ≡ v.seat.group)
                × (z.halt ≡ All)

            same_one : IsSame z1
            same_one = by b
              where
                by : (b : Bool) → IsSame (do_all (end_deeds b k) z0)
                by true = (refl, refl, p.2, refl, hand.halt ∙ free)
                by false = (refl, refl, p.2, refl, hand.halt ∙ free)

            ended_says_one : EndedSays d ends v0.seat (rests z1) k b
            ended_says_one =
                subst (λ (z : View L). EndedSays d ends v0.seat (rests z) k b) (sym (ends_all d ends b k z0))
                (ended_says d ends (found_at d ends v0 v desk t.log t.out t.slots h free) k b)

            seat_is : y.seat ≡ rests (halts_as Twice (commits n (draws n z1)))
            seat_is =
                ap (λ z. z.seat) is
                ∙ (ap (λ z. rests z.seat) t.is
                ∙ ap (λ z. rests (halts_as Twice z)) (do_append (end_deeds b k) (coming_deeds (coming.Stops n)) z0))

            pub halt_says : EndedOn d ends claimed stopped group halted v0.seat y.seat k e b
                (ending.Came n (join.Twice a))
            halt_says =
                let one = same_one in
                subst
                (λ (z : View L). EndedOn d ends claimed stopped group halted v0.seat z k e b (ending.Came n
                (join.Twice a)))
                (sym seat_is)
                record {
                  between = rests z1;
                  ended = ended_says_one;
                  turn = record { said = refl; entered = refl; found = refl };
                  onward = subst
                      (λ s. CameOn d ends claimed stopped group halted s (rests z1)
                      (rests (halts_as Twice (commits n (draws n z1)))) n (join.Twice a))
                      (says_put d ends t.slots k (Over e)
                      ∙ ap (λ s. put_number s k (cond (d.trapped e) mark.Trapped mark.Done)) (sym one.0))
                      (twice_says d ends p.0 z1 slots1 t.forkers t.lone v.mine m1 one.1 one.2 claimed stopped group
                      halted n
                      a waits_now (stops t.log t.out t.lone t.slots t.forkers t.now).1
                      (st1.grouped n (Waiting a) takes.was ∙ sym one.3) one.4);
                }
