-- A halt closes the tally, also behind rounds of others that were made since the seat with the turn looked last.
use Rattle.std.proofs.Common.{◌≡◌, ◌≢◌, ℕ, suc, ◌+◌, ◌*◌, ◌%◌, ◌<◌, ◌≤◌, mod-eq_of_lt, true, List, [], ◌∷◌, ◌++◌, length, length-set, get_or, get_or-set_same, get_or-set_other, set, sym, refl, ap, ◌∙◌, subst, arith, ⊎_elim, append_assoc, append-nil, Option, Some, None}
use mathlib.Core.Option as opt
use lib.ListN.{get_elem?}
use Rattle.atomic_table.specs.Table.{State, Me, keeps, Allows}
use Rattle.atomic_table.proofs.Lists.{at_set}
use Rattle.hub_core.specs.declared.status.Status.{Status}
use Rattle.hub_core.specs.declared.state.HubState.{HubState}
use Rattle.hub_core.specs.declared.state.HubState.TheVariants.{All, Twice, NoMemory}
use Rattle.hub_core.specs.declared.view.View.{View}
use Rattle.hub_core.specs.Hub.{Tied}
use Rattle.hub_core.specs.HubMachine.{HubMachine, numbered, values}
use Rattle.hub_core.specs.Counts.{times}
use Rattle.hub_core.specs.Passes.{named, Fresh, AreStartsOf}
use Rattle.hub_core.specs.Views.{halt_count}
use Rattle.hub_core.specs.Rule.{done, Sound, SoundFrom, says}
use Rattle.hub_core.specs.Rounds.{Item, born, turn_part, round_part, IsRound, children, ones, stamped}
use Rattle.hub_core.specs.declared.desk.DeskSlot.{DeskSlot}
use Rattle.hub_core.specs.declared.deed.Deed.{Deed}
use Rattle.hub_core.specs.declared.sight.Sight.{Sight}
use Rattle.hub_core.specs.Tally.{turn_of, part_of, halt_of, names_of, mine_of, makes_of, found_in, entered, do_all, Follows, HoldsTurn, SeatKnows, Tallied, Now, shuts, IsLast, MayShut, Shut}
use Rattle.hub_core.proofs.Lists.{total_set, total_one, total_two, total_rest}
use Rattle.hub_core.proofs.Items.{flat_turn, born_turn, turn_turn, round_turn}
use Rattle.hub_core.proofs.Moves.{moves_refl}
use Rattle.hub_core.proofs.Deeds.{AreDone, all_done}
use Rattle.hub_core.proofs.Loops.{forkers_long}

-- a schedule goes on
starts_on : (log es : List ℕ) (ats : List (List ℕ)) → AreStartsOf log ats → AreStartsOf (log ++ es) ats
starts_on log es [] h = tt
starts_on log es (at ∷ ats) h =
    ((h.0.0 ++ es, ap (λ l. l ++ es) h.0.1 ∙ append_assoc at h.0.0 es), starts_on log es ats h.1)

done_halted : {R A E : Type 0} → (h : HubState) (slots : List (Status R A E)) → h ≢ All → done h slots ≡ true
done_halted All slots n = absurd (n refl)
done_halted Twice slots n = refl
done_halted NoMemory slots n = refl

counted : (h : HubState) → h ≢ All → halt_count h ≡ 1
counted All n = absurd (n refl)
counted Twice n = refl
counted NoMemory n = refl

module _ {L R A E : Type 0} (d : HubMachine L R A E) (ends : E → L → Type 0) (first : Sight L) where
  abbrev V : Type 0
  V = Sight L

  abbrev S : Type 0
  S = DeskSlot R A E

  abbrev St : Type 0
  St = State S V

  abbrev Rule : St → Type 0
  Rule = Tallied d ends first

  abbrev At : St → ℕ → V → Type 0
  At s id v = get_elem? s.views id ≡ opt.some v

  abbrev Slots : Type 0
  Slots = List (Status R A E)

  abbrev Ties : L → List ℕ → Slots → List ℕ → Type 0
  Ties start log slots fs = Tied (numbered d) (values d ends) start log slots fs

  tied_of : (start : L) (o : Option L) (h : HubState) (log : List ℕ) (slots : Slots) (fs : List ℕ) → o ≡ Some start
      → h ≡ All → SoundFrom d ends o h log slots fs → Ties start log slots fs
  tied_of start o h log slots fs e n x =
      subst (λ (z : Option L × HubState). SoundFrom d ends z.0 z.1 log slots fs) (λ i. (e i, n i)) x

  sound_of : (start : L) (o : Option L) (h : HubState) (log : List ℕ) (slots : Slots) (fs : List ℕ) → o ≡ Some start
      → h ≡ All → Ties start log slots fs → SoundFrom d ends o h log slots fs
  sound_of start o h log slots fs e n x =
      subst (λ (z : Option L × HubState). SoundFrom d ends z.0 z.1 log slots fs) (λ i. (sym e i, sym n i)) x

  sound_long : (start : L) (h : HubState) (log : List ℕ) (slots : Slots) (fs : List ℕ)
      → Sound d ends start h log slots fs → length fs ≡ length slots
  sound_long start All log slots fs t = forkers_long (numbered d) (values d ends) start log slots fs t
  sound_long start NoMemory log slots fs t = forkers_long (numbered d) (values d ends) start log slots fs t
  sound_long start Twice log slots fs t = forkers_long (numbered d) (values d ends) start t.before slots fs t.tied

  module _ (s : St) (r : Rule s) (id : ℕ) (v : V) (at : At s id v) (h : HubState) (ds : List Deed) (mine : List ℕ)
      (lone_to : List ℕ → List ℕ) (to : Slots → Slots) (may : MayShut d ends h v ds mine lone_to to) where
    its : SeatKnows d ends first.seat.start first.seat.group r.items r.log r.forkers r.out r.lone r.over r.limit
        r.state v
    its = r.seats id v at

    turn : HoldsTurn d ends first.seat.start r.items r.log r.forkers r.out r.lone r.over r.limit r.state v
    turn = its.holds may.has

    start_is : first.seat.start ≡ Some may.start
    start_is = sym (its.begun may.part).0 ∙ may.begun

    state_is : r.state ≡ All
    state_is = sym turn.halt ∙ may.free

    was_none : halt_count r.state ≡ 0
    was_none = ap halt_count state_is

    gone : Follows d ends first.seat.start r.state may.slots v.lone r.log r.forkers r.out r.lone
    gone =
        turn.goes may.slots
        (sound_of may.start first.seat.start r.state v.seat.log may.slots v.forkers start_is state_is may.tied) may.outs

    abbrev slots : Slots
    slots = gone.slots

    tied : Ties may.start r.log slots r.forkers
    tied = tied_of may.start first.seat.start r.state r.log slots r.forkers start_is state_is gone.sound

    as_many : length slots ≡ length r.slots
    as_many =
        let a = forkers_long (numbered d) (values d ends) may.start r.log slots r.forkers tied in
        let b =
        forkers_long (numbered d) (values d ends) may.start r.log r.slots r.forkers
        (tied_of may.start first.seat.start r.state r.log r.slots r.forkers start_is state_is r.sound) in
        omega arith

    now : Now d ends v may.start may.slots r.log r.out r.lone slots r.forkers
    now = record {
      tied = tied;
      outs = gone.outs;
      moves = gone.moves;
      still = gone.still;
      begins = turn.begins;
      fresh = its.fresh;
      has = λ j. let t = total_one (names_of j) s.views id v at in let o = r.once j in omega arith;
      single = r.single;
      roomy = let a = r.roomy in let b = as_many in let e = turn.limit_is in omega arith;
      few = r.kept_out;
      own = λ j. let t = total_one (mine_of j) s.views id v at in let o = r.kept_once j in omega arith;
      alone = λ j pos.
          let t = total_rest (mine_of j) (names_of j) s.views id v at (λ i x e. (r.seats i x e).kept j) in
          let a = r.once j in
          let b = r.single j in
          let o = r.kept_once j in
          omega arith;
      kept = its.kept;
    }

    last : IsLast d ends h v may.start ds mine r.log r.out r.lone (lone_to r.lone) slots (to slots) r.forkers
    last = may.legal r.log r.out r.lone slots r.forkers now

    abbrev u : View L
    u = found_in r.log r.out (says d ends slots) v.seat

    abbrev w : V
    w = shuts h r.log r.forkers r.out (says d ends slots) ds (length slots) mine (lone_to r.lone) v

    deeds : AreDone u (do_all ds u) (entered ds)
    deeds = all_done ds u (now.fresh, now.has) now.single last.can

    abbrev log' : List ℕ
    log' = r.log ++ entered ds

    abbrev items' : List Item
    items' = r.items ++ ones (entered ds)

    now_many : length (to slots) ≡ length slots
    now_many =
        let a = forkers_long (numbered d) (values d ends) may.start r.log slots r.forkers tied in
        let b = sound_long may.start h log' (to slots) r.forkers last.sound in
        omega arith

    born_is : 1 + length (born r.items) ≡ length slots
    born_is =
        let a = forkers_long (numbered d) (values d ends) may.start r.log slots r.forkers tied in
        let p : length r.forkers ≡ suc (length (born r.items)) = ap length r.forkers_are in
        omega arith

    rounds_are : round_part 1 items' ≡ round_part 1 r.items
    rounds_are = round_turn None 1 r.items (entered ds)

    made_on : (x : V) → ((n i k : ℕ) → IsRound x.rounds n i k → IsRound (round_part 1 r.items) n i k)
        → (n i k : ℕ) → IsRound x.rounds n i k → IsRound (round_part 1 items') n i k
    made_on x made n i k g = subst (λ l. IsRound l n i k) (sym rounds_are) (made n i k g)

    alone : (j : ℕ) (x : V) → j ≢ id → At s j x → x.seat.has ≡ 0
    alone j x ne e =
        let t = total_two turn_of s.views id j v x ne at e in
        let a = r.word in
        let b = r.small in
        let g = may.has in
        omega arith

    apart : (j : ℕ) (x : V) → j ≢ id → At s j x → (n : ℕ) → named n u.passes + named n x.seat.passes ≤ times n u.out
    apart j x ne e n = let t = total_two (names_of n) s.views id j v x ne at e in let o = r.once n in omega arith

    holds_now : HoldsTurn d ends first.seat.start items' log' r.forkers w.seat.out w.lone 1 r.limit h w
    holds_now = record {
      limit_is = turn.limit_is;
      entries = ap (λ l. l ++ stamped (length slots) (entered ds)) turn.entries
          ∙ (ap (λ (n : ℕ). turn_part 1 r.items ++ stamped n (entered ds)) (sym born_is)
          ∙ sym (turn_turn None 1 r.items (entered ds)));
      over_seen = λ o. refl;
      halt = refl;
      begins = ([], sym deeds.log ∙ sym (append-nil w.seat.log));
      goes = λ slots1 sound outs. record {
        slots = slots1;
        sound = subst (λ l. SoundFrom d ends first.seat.start h l slots1 r.forkers) deeds.log sound;
        outs = outs;
        moves = moves_refl slots1 w.seat.out w.lone outs last.few;
        still = λ _. refl;
      };
      as_many = refl;
    }

    own : SeatKnows d ends first.seat.start first.seat.group items' log' r.forkers w.seat.out w.lone 1 r.limit h w
    own = record {
      begun = λ p.
          let b = its.begun (let q = deeds.same.1 in omega arith) in (deeds.same.2 ∙ b.0, deeds.same.3 ∙ b.1);
      idle = λ p. let q = deeds.same.1 in let g = may.part in absurd (omega arith);
      holds = λ o. holds_now;
      fresh = subst (λ l. Fresh l w.seat.passes) deeds.log deeds.current.0;
      behind = subst (AreStartsOf log') (sym deeds.same.6) (starts_on r.log (entered ds) v.seat.turns its.behind);
      saw = λ o. refl;
      halted = λ n. refl;
      kept = last.kept;
      made = made_on v its.made;
      within = its.within;
    }

    other : (j : ℕ) (x : V) → j ≢ id → At s j x
        → SeatKnows d ends first.seat.start first.seat.group items' log' r.forkers w.seat.out w.lone 1 r.limit h x
    other j x ne e = let g = r.seats j x e in record {
      begun = g.begun;
      idle = g.idle;
      holds = λ o. let z = alone j x ne e in absurd (omega arith);
      fresh = subst (λ l. Fresh l x.seat.passes) deeds.log (deeds.others x.seat.passes (apart j x ne e) g.fresh);
      behind = starts_on r.log (entered ds) x.seat.turns g.behind;
      saw = λ o. refl;
      halted = λ n. absurd (n (g.halted n ∙ state_is));
      kept = g.kept;
      made = made_on x g.made;
      within = g.within;
    }

    shut_rule : (words : List ℕ) → length words ≡ length s.words → get_or words 0 0 ≡ get_or s.words 0 0
        → get_or words 16 0 ≡ get_or s.words 16 0 + 1
        → Rule record { words = words; homes = s.homes; views = set s.views id w }
    shut_rule words as_wide same_turn count = record {
      items = items';
      log = log';
      forkers = r.forkers;
      slots = to slots;
      out = w.seat.out;
      lone = w.lone;
      over = 1;
      state = h;
      limit = r.limit;
      log_is = ap (λ l. l ++ entered ds) r.log_is ∙ flat_turn None r.items (entered ds);
      forkers_are = r.forkers_are ∙ born_turn None r.items (entered ds);
      sound = subst (λ (o : Option L). SoundFrom d ends o h log' (to slots) r.forkers) (sym start_is) last.sound;
      outs = last.outs;
      wide = as_wide ∙ r.wide;
      long = r.long;
      word =
          let t = total_set turn_of s.views id v w at in
          let b = r.word in
          let q = deeds.same.0 in
          let g = same_turn in
          omega arith;
      small = let g = same_turn in let b = r.small in omega arith;
      tally =
          let t = r.tally in
          let a = as_many in
          let b = now_many in
          let g = count in
          let o = was_none in
          let one = counted h may.halts in
          omega arith;
      roomy = let a = as_many in let b = now_many in let g = r.roomy in omega arith;
      all = let t = total_set part_of s.views id v w at in let b = r.all in let q = deeds.same.1 in omega arith;
      home = λ z.
          let t = total_one turn_of s.views id v at in
          let b = r.word in
          let g = may.has in
          let y = same_turn in
          absurd (omega arith);
      over_is = λ o. done_halted h (to slots) may.halts;
      seats = λ j x e. ⊎_elim
          (λ (q : (j ≡ id) × (w ≡ x)).
          subst (SeatKnows d ends first.seat.start first.seat.group items' log' r.forkers w.seat.out w.lone 1 r.limit h)
          q.1 own)
          (λ (q : (j ≢ id) × At s j x). other j x q.0 q.1)
          (at_set s.views id j w x e);
      once = λ n.
          let t = total_set (names_of n) s.views id v w at in
          let o = r.once n in
          let c = deeds.counts n in
          omega arith;
      single = deeds.single;
      kept_once = λ n.
          let t = total_set (mine_of n) s.views id v w at in
          let o = r.kept_once n in
          let c = last.lones n in
          omega arith;
      kept_out = last.few;
      made_once = λ n.
          let t = total_set (makes_of n) s.views id v w at in
          let o = r.made_once n in
          let c : times n (children (round_part 1 items')) ≡ times n (children (round_part 1 r.items)) =
          ap (λ l. times n (children l)) rounds_are in
          omega arith;
      known = λ n.
          let t = total_set halt_of s.views id v w at in
          let a = total_one halt_of s.views id v at in
          let c : halt_of v ≡ 0 = ap halt_count may.free in
          let e = counted h n in
          omega arith;
    }

    -- and the tally that was found counts the revisions
    shut_told : (told : Shut d ends h v w may.start may.slots ds mine lone_to)
        × (get_or s.words 16 0 ≡ 2 * length told.slots)
    shut_told = (
      record {
        log = r.log;
        out = r.out;
        lone = r.lone;
        slots = slots;
        forkers = r.forkers;
        now = now;
        is = refl;
      },
      (let t = r.tally in let a = as_many in let o = was_none in omega arith),
    )

  -- an addition of 1 to the tally
  pub shut : (homes id : ℕ) (me : Me S V) (h : HubState) (ds : List Deed) (mine : List ℕ) (lone_to : List ℕ → List ℕ)
      (to : Slots → Slots) (may : MayShut d ends h me.0 ds mine lone_to to)
      → Allows Rule homes id me 16 (λ x. (x + 1) % 18446744073709551616)
      (λ x me'. (told : Shut d ends h me.0 me'.0 may.start may.slots ds mine lone_to) × (me'.1 ≡ me.1)
      × (x ≡ 2 * length told.slots))
  shut homes id me h ds mine lone_to to may s r wide at within =
      let y = r.tally in
      let o = was_none s r id me.0 at h ds mine lone_to to may in
      let less : get_or s.words 16 0 + 1 < 18446744073709551616 = omega arith in
      let made : ℕ = (get_or s.words 16 0 + 1) % 18446744073709551616 in
      let is : made ≡ get_or s.words 16 0 + 1 = mod-eq_of_lt less in (
        w s r id me.0 at h ds mine lone_to to may,
        keeps,
        tt,
        shut_rule s r id me.0 at h ds mine lone_to to may (set s.words 16 made)
            (length-set s.words 16 made) (get_or-set_other s.words 16 0 made 0 (λ q. omega arith))
            (get_or-set_same s.words 16 made 0 (let g = r.wide in omega arith) ∙ is),
        (
          (shut_told s r id me.0 at h ds mine lone_to to may).0,
          refl,
          (shut_told s r id me.0 at h ds mine lone_to to may).1,
        ),
      )
