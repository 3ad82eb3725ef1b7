-- What the seat with the turn does at one moment keeps the rule,
-- though rounds of others were made since it looked last.
use Rattle.std.proofs.Common.{◌≡◌, ◌≢◌, ℕ, suc, ◌+◌, ◌*◌, ◌<◌, ◌≤◌, true, List, [], ◌∷◌, ◌++◌, eqb, length, length-set, get_or, get_or-set_same, get_or-set_other, set, sym, refl, ap, ◌∙◌, subst, arith, ⊎_elim, eq-eqb, ne_eqb, add-zero, append_assoc, append-nil, Option, Some, None}
use mathlib.Core.Option as opt
use mathlib.Core.Logic.{dite}
use native.Mathlib.Decide.{ℕ_discrete}
use prog.Atomic.{either}
use lib.ListN.{get_elem?}
use lib.Seq.{set-get_or}
use Rattle.atomic_table.specs.Table.{State, Me, Act, keeps, Valid, stepped, carried_after, Allows}
use Rattle.atomic_table.proofs.Lists.{at_set, set_again}
use Rattle.hub_core.specs.declared.status.Status.{Status}
use Rattle.hub_core.specs.declared.state.HubState.{HubState}
use Rattle.hub_core.specs.declared.state.HubState.TheVariants.{All, Twice, NoMemory}
use Rattle.hub_core.specs.declared.view.View.{View}
use Rattle.hub_core.specs.Hub.{Tied}
use Rattle.hub_core.specs.HubMachine.{HubMachine, numbered, values}
use Rattle.hub_core.specs.Counts.{times}
use Rattle.hub_core.specs.Queued.{unfinished}
use Rattle.hub_core.specs.Passes.{named, Fresh, AreStartsOf}
use Rattle.hub_core.specs.Views.{halt_count}
use Rattle.hub_core.specs.Rule.{done, SoundFrom, says}
use Rattle.hub_core.specs.Rounds.{Item, born, turn_part, round_part, IsRound, children, ones, stamped, add_last, add_birth, births}
use Rattle.hub_core.specs.declared.desk.DeskSlot.{DeskSlot}
use Rattle.hub_core.specs.declared.deed.Deed.{Deed}
use Rattle.hub_core.specs.declared.sight.Sight.{Sight}
use Rattle.hub_core.specs.Tally.{turn_of, part_of, halt_of, names_of, mine_of, makes_of, found_in, entered, Follows, HoldsTurn, SeatKnows, Tallied, Now, enters, AreLegal, MayEnter, Entered}
use Rattle.hub_core.proofs.Lists.{total_set, total_one, total_two, total_rest}
use Rattle.hub_core.proofs.Items.{last_length, flat_turn, born_turn, turn_turn, round_turn}
use Rattle.hub_core.proofs.Moves.{moves_refl, over_none, none_over}
use Rattle.hub_core.proofs.Deeds.{AreDone, all_done}
use Rattle.hub_core.proofs.Loops.{forkers_long}

halt_most : (h : HubState) → halt_count h ≤ 1
halt_most All = omega arith
halt_most Twice = omega arith
halt_most NoMemory = omega arith

-- a schedule goes on
starts_on : (log es : List ℕ) (ats : List (List ℕ)) → AreStartsOf log ats → AreStartsOf (log ++ es) ats
starts_on log es [] h = tt
starts_on log es (at ∷ ats) h =
    ((h.0.0 ++ es, ap (λ l. l ++ es) h.0.1 ∙ append_assoc at h.0.0 es), starts_on log es ats h.1)

module _ {L R A E : Type 0} (d : HubMachine L R A E) (ends : E → L → Type 0) (first : Sight L) where
  abbrev V : Type 0
  V = Sight L

  abbrev S : Type 0
  S = DeskSlot R A E

  abbrev St : Type 0
  St = State S V

  abbrev Rule : St → Type 0
  Rule = Tallied d ends first

  abbrev At : St → ℕ → V → Type 0
  At s id v = get_elem? s.views id ≡ opt.some v

  abbrev Slots : Type 0
  Slots = List (Status R A E)

  abbrev Ties : L → List ℕ → Slots → List ℕ → Type 0
  Ties start log slots fs = Tied (numbered d) (values d ends) start log slots fs

  tied_of : (start : L) (o : Option L) (h : HubState) (log : List ℕ) (slots : Slots) (fs : List ℕ) → o ≡ Some start
      → h ≡ All → SoundFrom d ends o h log slots fs → Ties start log slots fs
  tied_of start o h log slots fs e n x =
      subst (λ (z : Option L × HubState). SoundFrom d ends z.0 z.1 log slots fs) (λ i. (e i, n i)) x

  sound_of : (start : L) (o : Option L) (h : HubState) (log : List ℕ) (slots : Slots) (fs : List ℕ) → o ≡ Some start
      → h ≡ All → Ties start log slots fs → SoundFrom d ends o h log slots fs
  sound_of start o h log slots fs e n x =
      subst (λ (z : Option L × HubState). SoundFrom d ends z.0 z.1 log slots fs) (λ i. (sym e i, sym n i)) x

  module _ (s : St) (r : Rule s) (id : ℕ) (v : V) (at : At s id v) (ds : List Deed) (es : List ℕ) (birth : Option ℕ)
      (fits : ℕ → Type 0) (mine : List ℕ) (lone_to : List ℕ → List ℕ) (to : Slots → Slots)
      (may : MayEnter d ends v ds es birth fits mine lone_to to) (fit : fits (length r.slots))
      (room : length r.slots + births birth ≤ r.limit) where
    its : SeatKnows d ends first.seat.start first.seat.group r.items r.log r.forkers r.out r.lone r.over r.limit r.state
        v
    its = r.seats id v at

    turn : HoldsTurn d ends first.seat.start r.items r.log r.forkers r.out r.lone r.over r.limit r.state v
    turn = its.holds may.has

    start_is : first.seat.start ≡ Some may.start
    start_is = sym (its.begun may.part).0 ∙ may.begun

    state_is : r.state ≡ All
    state_is = sym turn.halt ∙ may.free

    -- the statuses of now
    gone : Follows d ends first.seat.start r.state may.slots v.lone r.log r.forkers r.out r.lone
    gone =
        turn.goes may.slots
        (sound_of may.start first.seat.start r.state v.seat.log may.slots v.forkers start_is state_is may.tied) may.outs

    abbrev slots : Slots
    slots = gone.slots

    tied : Ties may.start r.log slots r.forkers
    tied = tied_of may.start first.seat.start r.state r.log slots r.forkers start_is state_is gone.sound

    as_many : length slots ≡ length r.slots
    as_many =
        let a = forkers_long (numbered d) (values d ends) may.start r.log slots r.forkers tied in
        let b =
        forkers_long (numbered d) (values d ends) may.start r.log r.slots r.forkers
        (tied_of may.start first.seat.start r.state r.log r.slots r.forkers start_is state_is r.sound) in
        omega arith

    now : Now d ends v may.start may.slots r.log r.out r.lone slots r.forkers
    now = record {
      tied = tied;
      outs = gone.outs;
      moves = gone.moves;
      still = gone.still;
      begins = turn.begins;
      fresh = its.fresh;
      has = λ j. let t = total_one (names_of j) s.views id v at in let o = r.once j in omega arith;
      single = r.single;
      roomy = let a = r.roomy in let b = as_many in let e = turn.limit_is in omega arith;
      few = r.kept_out;
      own = λ j. let t = total_one (mine_of j) s.views id v at in let o = r.kept_once j in omega arith;
      alone = λ j pos.
          let t = total_rest (mine_of j) (names_of j) s.views id v at (λ i x e. (r.seats i x e).kept j) in
          let a = r.once j in
          let b = r.single j in
          let o = r.kept_once j in
          omega arith;
      kept = its.kept;
    }

    legal : AreLegal d ends v may.start ds birth mine r.log r.out r.lone (lone_to r.lone) slots (to slots) r.forkers
    legal = may.legal r.log r.out r.lone slots r.forkers now (subst fits (sym as_many) fit)

    abbrev u : View L
    u = found_in r.log r.out (says d ends slots) v.seat

    abbrev w : V
    w = enters r.log (add_last birth r.forkers) r.out (says d ends slots) ds (length slots) mine (lone_to r.lone) v

    deeds : AreDone u w.seat (entered ds)
    deeds = all_done ds u (now.fresh, now.has) now.single legal.can

    abbrev log' : List ℕ
    log' = r.log ++ entered ds

    abbrev items' : List Item
    items' = add_birth birth (r.items ++ ones es)

    abbrev forkers' : List ℕ
    forkers' = add_last birth r.forkers

    now_many : length (to slots) ≡ length slots + births birth
    now_many =
        let a = forkers_long (numbered d) (values d ends) may.start r.log slots r.forkers tied in
        let b = forkers_long (numbered d) (values d ends) may.start log' (to slots) forkers' legal.tied in
        let l = last_length birth r.forkers in
        omega arith

    born_is : 1 + length (born r.items) ≡ length slots
    born_is =
        let a = forkers_long (numbered d) (values d ends) may.start r.log slots r.forkers tied in
        let p : length r.forkers ≡ suc (length (born r.items)) = ap length r.forkers_are in
        omega arith

    rounds_are : round_part 1 items' ≡ round_part 1 r.items
    rounds_are = round_turn birth 1 r.items es

    made_on : (x : V) → ((n i k : ℕ) → IsRound x.rounds n i k → IsRound (round_part 1 r.items) n i k)
        → (n i k : ℕ) → IsRound x.rounds n i k → IsRound (round_part 1 items') n i k
    made_on x made n i k h = subst (λ l. IsRound l n i k) (sym rounds_are) (made n i k h)

    alone : (j : ℕ) (x : V) → j ≢ id → At s j x → x.seat.has ≡ 0
    alone j x ne e =
        let t = total_two turn_of s.views id j v x ne at e in
        let a = r.word in
        let b = r.small in
        let h = may.has in
        omega arith

    apart : (j : ℕ) (x : V) → j ≢ id → At s j x → (n : ℕ) → named n u.passes + named n x.seat.passes ≤ times n u.out
    apart j x ne e n = let t = total_two (names_of n) s.views id j v x ne at e in let o = r.once n in omega arith

    holds_now : HoldsTurn d ends first.seat.start items' log' forkers' w.seat.out w.lone r.over r.limit r.state w
    holds_now = record {
      limit_is = turn.limit_is;
      entries = ap (λ l. l ++ stamped (length slots) (entered ds)) turn.entries
          ∙ (ap (λ (z : ℕ × List ℕ). turn_part 1 r.items ++ stamped z.0 z.1) (λ i. (sym born_is i, may.entries i))
          ∙ sym (turn_turn birth 1 r.items es));
      over_seen = λ o. deeds.same.4 ∙ turn.over_seen o;
      halt = deeds.same.5 ∙ turn.halt;
      begins = ([], sym deeds.log ∙ sym (append-nil w.seat.log));
      goes = λ slots1 sound outs. record {
        slots = slots1;
        sound = subst (λ l. SoundFrom d ends first.seat.start r.state l slots1 forkers') deeds.log sound;
        outs = outs;
        moves = moves_refl slots1 w.seat.out w.lone outs legal.few;
        still = λ _. refl;
      };
      as_many = refl;
    }

    own : SeatKnows d ends first.seat.start first.seat.group items' log' forkers' w.seat.out w.lone r.over r.limit
        r.state w
    own = record {
      begun = λ p.
          let b = its.begun (let q = deeds.same.1 in omega arith) in (deeds.same.2 ∙ b.0, deeds.same.3 ∙ b.1);
      idle = λ p. let q = deeds.same.1 in let h = may.part in absurd (omega arith);
      holds = λ o. holds_now;
      fresh = subst (λ l. Fresh l w.seat.passes) deeds.log deeds.current.0;
      behind = subst (AreStartsOf log') (sym deeds.same.6) (starts_on r.log (entered ds) v.seat.turns its.behind);
      saw = λ o. its.saw (sym deeds.same.4 ∙ o);
      halted = λ h. deeds.same.5 ∙ turn.halt;
      kept = legal.kept;
      made = made_on v its.made;
      within = its.within;
    }

    other : (j : ℕ) (x : V) → j ≢ id → At s j x
        → SeatKnows d ends first.seat.start first.seat.group items' log' forkers' w.seat.out w.lone r.over r.limit
        r.state x
    other j x ne e = let h = r.seats j x e in record {
      begun = h.begun;
      idle = h.idle;
      holds = λ o. let z = alone j x ne e in absurd (omega arith);
      fresh = subst (λ l. Fresh l x.seat.passes) deeds.log (deeds.others x.seat.passes (apart j x ne e) h.fresh);
      behind = starts_on r.log (entered ds) x.seat.turns h.behind;
      saw = h.saw;
      halted = h.halted;
      kept = h.kept;
      made = made_on x h.made;
      within = h.within;
    }

    over_on : r.over ≡ 1 → done r.state (to slots) ≡ true
    over_on o =
        let none : unfinished may.slots ≡ 0 = over_none may.slots (may.saw (turn.over_seen o)) in
        subst (λ h. done h (to slots) ≡ true) (sym state_is)
        (legal.over (none_over slots (gone.moves.count ∙ none)))

    entered_rule : (words : List ℕ) → length words ≡ length s.words → get_or words 0 0 ≡ get_or s.words 0 0
        → get_or words 16 0 ≡ get_or s.words 16 0 + 2 * births birth
        → Rule record { words = words; homes = s.homes; views = set s.views id w }
    entered_rule words as_wide same_turn count = record {
      items = items';
      log = log';
      forkers = forkers';
      slots = to slots;
      out = w.seat.out;
      lone = w.lone;
      over = r.over;
      state = r.state;
      limit = r.limit;
      log_is = ap (λ (z : List ℕ × List ℕ). z.0 ++ z.1) (λ i. (r.log_is i, may.entries i))
          ∙ flat_turn birth r.items es;
      forkers_are = ap (add_last birth) r.forkers_are ∙ born_turn birth r.items es;
      sound = sound_of may.start first.seat.start r.state log' (to slots) forkers' start_is state_is legal.tied;
      outs = legal.outs;
      wide = as_wide ∙ r.wide;
      long = r.long;
      word =
          let t = total_set turn_of s.views id v w at in
          let b = r.word in
          let q = deeds.same.0 in
          let g = same_turn in
          omega arith;
      small = let g = same_turn in let b = r.small in omega arith;
      tally = let t = r.tally in let a = as_many in let b = now_many in let g = count in omega arith;
      roomy = let a = as_many in let b = now_many in let g = room in omega arith;
      all = let t = total_set part_of s.views id v w at in let b = r.all in let q = deeds.same.1 in omega arith;
      home = λ z.
          let t = total_one turn_of s.views id v at in
          let b = r.word in
          let h = may.has in
          let g = same_turn in
          absurd (omega arith);
      over_is = over_on;
      seats = λ j x e. ⊎_elim
          (λ (q : (j ≡ id) × (w ≡ x)).
          subst (SeatKnows d ends first.seat.start first.seat.group items' log' forkers' w.seat.out w.lone r.over
          r.limit r.state) q.1 own)
          (λ (q : (j ≢ id) × At s j x). other j x q.0 q.1)
          (at_set s.views id j w x e);
      once = λ n.
          let t = total_set (names_of n) s.views id v w at in
          let o = r.once n in
          let c = deeds.counts n in
          omega arith;
      single = deeds.single;
      kept_once = λ n.
          let t = total_set (mine_of n) s.views id v w at in
          let o = r.kept_once n in
          let c = legal.lones n in
          omega arith;
      kept_out = legal.few;
      made_once = λ n.
          let t = total_set (makes_of n) s.views id v w at in
          let o = r.made_once n in
          let c : times n (children (round_part 1 items')) ≡ times n (children (round_part 1 r.items)) =
          ap (λ l. times n (children l)) rounds_are in
          omega arith;
      known = λ h.
          let t = total_set halt_of s.views id v w at in
          let o = r.known h in
          let c : halt_of w ≡ halt_of v = ap halt_count deeds.same.5 in
          omega arith;
    }

    entered_told : Entered d ends v w may.start may.slots ds birth mine lone_to (get_or s.words 16 0)
    entered_told = record {
      log = r.log;
      out = r.out;
      lone = r.lone;
      slots = slots;
      forkers = r.forkers;
      now = now;
      counted =
          let t = r.tally in let a = as_many in let h : halt_count r.state ≡ 0 = ap halt_count state_is in omega arith;
      is = refl;
    }

  -- a load of the tally
  pub enter : (homes id : ℕ) (me : Me S V) (ds : List Deed) (es mine : List ℕ) (lone_to : List ℕ → List ℕ)
      (to : Slots → Slots) (may : MayEnter d ends me.0 ds es None (λ n. Unit {0}) mine lone_to to)
      → Allows Rule homes id me 16 (λ x. x)
      (λ x me'. Entered d ends me.0 me'.0 may.start may.slots ds None mine lone_to x × (me'.1 ≡ me.1))
  enter homes id me ds es mine lone_to to may s r wide at _ =
      let room : length r.slots + 0 ≤ r.limit = let g = r.roomy in omega arith in
      let made : V = w s r id me.0 at ds es None (λ n. Unit {0}) mine lone_to to may tt room in (
        made,
        keeps,
        tt,
        entered_rule s r id me.0 at ds es None (λ n. Unit {0}) mine lone_to to may tt room
            (set s.words 16 (get_or s.words 16 0))
            (ap length (set-get_or s.words 16 0)) (ap (λ ws. get_or ws 0 0) (set-get_or s.words 16 0))
            (ap (λ ws. get_or ws 16 0) (set-get_or s.words 16 0) ∙ sym (add-zero (get_or s.words 16 0))),
        (entered_told s r id me.0 at ds es None (λ n. Unit {0}) mine lone_to to may tt room, refl),
      )

  abbrev Born : (s : St) → ℕ → (me : Me S V) → (start : L) → Slots → List Deed → ℕ → ℕ → List ℕ → (List ℕ → List ℕ)
      → Type 0
  Born s id me start before ds k n mine lone_to =
      (y : V) × (t : Act S) × Valid s.homes me.1 t
      × Rule (stepped s 16 (either (eqb (get_or s.words 16 0) (2 * n)) (2 * n + 2) (get_or s.words 16 0)) id me.1 y t)
      × ((get_or s.words 16 0 ≡ 2 * n
      → Entered d ends me.0 y start before ds (Some k) mine lone_to (get_or s.words 16 0)
      × (carried_after me.1 t ≡ me.1))
      × (get_or s.words 16 0 ≢ 2 * n → (y, carried_after me.1 t) ≡ me))

  -- an exchange of the tally, for a fork
  pub bear : (homes id : ℕ) (me : Me S V) (ds : List Deed) (es : List ℕ) (k n : ℕ) (mine : List ℕ)
      (lone_to : List ℕ → List ℕ) (to : Slots → Slots)
      (may : MayEnter d ends me.0 ds es (Some k) (λ i. i ≡ n) mine lone_to to) → n < me.0.limit
      → Allows Rule homes id me 16 (λ x. either (eqb x (2 * n)) (2 * n + 2) x)
      (λ x me'.
      (x ≡ 2 * n → Entered d ends me.0 me'.0 may.start may.slots ds (Some k) mine lone_to x × (me'.1 ≡ me.1))
      × (x ≢ 2 * n → me' ≡ me))
  bear homes id me ds es k n mine lone_to to may below s r wide at _ =
      dite (ℕ_discrete (get_or s.words 16 0) (2 * n)) hit miss
    where
      hit : get_or s.words 16 0 ≡ 2 * n → Born s id me may.start may.slots ds k n mine lone_to
      hit z =
          let y = r.tally in
          let h = halt_most r.state in
          let long : length r.slots ≡ n = omega arith in
          let g = (r.seats id me.0 at).within in
          let room : length r.slots + 1 ≤ r.limit = omega arith in (
            w s r id me.0 at ds es (Some k) (λ i. i ≡ n) mine lone_to to may long room,
            keeps,
            tt,
            subst
                (λ q. Rule (stepped s 16 (either q (2 * n + 2) (get_or s.words 16 0)) id me.1
                (w s r id me.0 at ds es (Some k) (λ i. i ≡ n) mine lone_to to may long room) keeps))
                (sym (eq-eqb (get_or s.words 16 0) (2 * n) z))
                (entered_rule s r id me.0 at ds es (Some k) (λ i. i ≡ n) mine lone_to to may long room
                (set s.words 16 (2 * n + 2)) (length-set s.words 16 (2 * n + 2))
                (get_or-set_other s.words 16 0 (2 * n + 2) 0 (λ q. omega arith))
                (get_or-set_same s.words 16 (2 * n + 2) 0 (let g = r.wide in omega arith)
                ∙ ap (λ (i : ℕ). i + 2) (sym z))),
            (
              (λ _. (entered_told s r id me.0 at ds es (Some k) (λ i. i ≡ n) mine lone_to to may long room, refl)),
              λ ne. absurd (ne z),
            ),
          )

      miss : get_or s.words 16 0 ≢ 2 * n → Born s id me may.start may.slots ds k n mine lone_to
      miss ne = (
        me.0,
        keeps,
        tt,
        subst (λ q. Rule (stepped s 16 (either q (2 * n + 2) (get_or s.words 16 0)) id me.1 me.0 keeps))
            (sym (ne_eqb (get_or s.words 16 0) (2 * n) ne))
            (subst (λ (z : List ℕ × List V). Rule record { words = z.0; homes = s.homes; views = z.1 })
            (λ p. (sym (set-get_or s.words 16 0) p, sym (set_again s.views id me.0 at) p)) r),
        ((λ z. absurd (ne z)), λ _. refl),
      )
