-- A round keeps the rule, also while another seat has the turn.
use Rattle.std.proofs.Common.{◌≡◌, ◌≢◌, ◌⊎◌, inl, inr, ℕ, suc, ◌+◌, ◌*◌, ◌<◌, ◌≤◌, Bool, true, false, eqb, List, [], ◌∷◌, ◌++◌, length, get_or, set, length-set, get_or-set_same, get_or-set_other, sym, refl, ap, ◌∙◌, subst, arith, ⊎_elim, eq-eqb, ne_eqb, append-nil, Option, Some}
use mathlib.Core.Option as opt
use mathlib.Core.Logic.{dite}
use native.Mathlib.Decide.{ℕ_discrete}
use prog.Atomic.{either}
use lib.ListN.{get_elem?}
use lib.Seq.{set-get_or}
use Rattle.atomic_table.specs.Table.{State, Me, Act, keeps, Valid, stepped, carried_after, Allows}
use Rattle.atomic_table.proofs.Lists.{at_set, set_again}
use Rattle.revision_machine.specs.Numbered.{at_number}
use Rattle.hub_core.specs.declared.status.Status.{Status}
use Rattle.hub_core.specs.declared.status.Status.TheVariants.{Out}
use Rattle.hub_core.specs.declared.state.HubState.{HubState}
use Rattle.hub_core.specs.declared.state.HubState.TheVariants.{All, Twice, NoMemory}
use Rattle.hub_core.specs.declared.view.View.{View}
use Rattle.hub_core.specs.Replay.{state_after}
use Rattle.hub_core.specs.Hub.{Tied}
use Rattle.hub_core.specs.HubMachine.{HubMachine, numbered, values}
use Rattle.hub_core.specs.Counts.{total, is_at, times}
use Rattle.hub_core.specs.Passes.{Pass, named, IsPass, Fresh, AreStartsOf}
use Rattle.hub_core.specs.Views.{halt_count, commits, hands_in, draws}
use Rattle.hub_core.specs.Seats.{HasCurrent}
use Rattle.hub_core.specs.Rule.{done, OutsAre, SoundFrom, says}
use Rattle.hub_core.specs.Rounds.{Item, Loop, born, round_part, IsRound, children}
use Rattle.hub_core.specs.declared.desk.DeskSlot.{DeskSlot}
use Rattle.hub_core.specs.declared.desk.Desk.{Desk}
use Rattle.hub_core.specs.declared.sight.Sight.{Sight}
use Rattle.hub_core.specs.Tally.{records_of, queue_of, turn_of, part_of, names_of, mine_of, makes_of, found_in, makes_round, Moves, Lays, Follows, HoldsTurn, SeatKnows, Tallied, CanRound, MadeRound, rounded}
use Rattle.hub_core.proofs.Hub as hub
use Rattle.hub_core.proofs.Lists.{total_set, total_snoc, total_one, total_two, is_at_other}
use Rattle.hub_core.proofs.Passes.{count_other, pass_named, since_more, starts_more}
use Rattle.hub_core.proofs.Slots.{all_ended}
use Rattle.hub_core.proofs.Worlds.{current_in, current_commit, current_draw}
use Rattle.hub_core.proofs.Deeds.{named_commit, named_in, named_gone}
use Rattle.hub_core.proofs.Items.{flat_loop, born_loop, turn_loop, round_loop, is_round_more, is_round_last, is_round_snoc, children_more}
use Rattle.hub_core.proofs.Moves.{less_length, here_out, none_out, looped, looped_length, looped_outs, looped_moves, turned_out, times_joined, times_born, times_others, moves_moves, shadows_moves, queued_moves, tracked_moves}
use Rattle.hub_core.proofs.Loops.{AfterLoop, looped_tied, as_long, forkers_long}

halt_most : (h : HubState) → halt_count h ≤ 1
halt_most All = omega arith
halt_most Twice = omega arith
halt_most NoMemory = omega arith

none_all : (h : HubState) → halt_count h ≡ 0 → h ≡ All
none_all All e = refl
none_all Twice e = absurd (omega arith)
none_all NoMemory e = absurd (omega arith)

not_true : (b : Bool) → (b ≡ true → ⊥) → b ≡ false
not_true true n = absurd (n refl)
not_true false n = refl

module _ {L R A E : Type 0} (d : HubMachine L R A E) (ends : E → L → Type 0) (first : Sight L) where
  abbrev V : Type 0
  V = Sight L

  abbrev S : Type 0
  S = DeskSlot R A E

  abbrev St : Type 0
  St = State S V

  abbrev Rule : St → Type 0
  Rule = Tallied d ends first

  abbrev At : St → ℕ → V → Type 0
  At s id v = get_elem? s.views id ≡ opt.some v

  abbrev Slots : Type 0
  Slots = List (Status R A E)

  abbrev Ties : L → List ℕ → Slots → List ℕ → Type 0
  Ties start log slots fs = Tied (numbered d) (values d ends) start log slots fs

  tied_of : (start : L) (o : Option L) (h : HubState) (log : List ℕ) (slots : Slots) (fs : List ℕ) → o ≡ Some start
      → h ≡ All → SoundFrom d ends o h log slots fs → Ties start log slots fs
  tied_of start o h log slots fs e n x =
      subst (λ (z : Option L × HubState). SoundFrom d ends z.0 z.1 log slots fs) (λ i. (e i, n i)) x

  sound_of : (start : L) (o : Option L) (h : HubState) (log : List ℕ) (slots : Slots) (fs : List ℕ) → o ≡ Some start
      → h ≡ All → Ties start log slots fs → SoundFrom d ends o h log slots fs
  sound_of start o h log slots fs e n x =
      subst (λ (z : Option L × HubState). SoundFrom d ends z.0 z.1 log slots fs) (λ i. (sym e i, sym n i)) x

  -- of a state in which the tally is open, and of a seat that can make a round
  module _ (s : St) (r : Rule s) (id : ℕ) (v : V) (at : At s id v) (i k : ℕ) (a : A) (e : E) (c : R) (f : ℕ → L)
      (can : CanRound d ends v i k a e c f) (state_is : r.state ≡ All) (room : length r.slots < v.limit) where
    mine : SeatKnows d ends first.seat.start first.seat.group r.items r.log r.forkers r.out r.lone r.over r.limit
        r.state v
    mine = r.seats id v at

    start_is : first.seat.start ≡ Some can.start
    start_is = sym (mine.begun can.part).0 ∙ can.begun

    abbrev n : ℕ
    n = length r.slots

    tied : Ties can.start r.log r.slots r.forkers
    tied = tied_of can.start first.seat.start r.state r.log r.slots r.forkers start_is state_is r.sound

    its : (j : ℕ) → 0 < names_of j v → (times j r.out ≡ 1) × (names_of j v ≡ 1)
    its j pos =
        let t = total_one (names_of j) s.views id v at in
        let o = r.once j in
        let g = r.single j in
        (omega arith, omega arith)

    has_i : 0 < names_of i v
    has_i = pass_named v.seat.passes i can.end_at can.end_pass

    has_k : 0 < names_of k v
    has_k = pass_named v.seat.passes k can.join_at can.join_pass

    state_at : (slots : Slots) (fs : List ℕ) → Ties can.start r.log slots fs → (j : ℕ) (at : List ℕ) (l : L)
        → IsPass v.seat.passes j at → state_after (numbered d) can.start at j ≡ Some l
        → state_after (numbered d) can.start r.log j ≡ Some l
    state_at slots fs t j at l pass here =
        let g = mine.fresh j at pass in
        ap (λ z. state_after (numbered d) can.start z j) g.1
        ∙ hub.pass_now (numbered d) (values d ends) can.start at g.0 slots fs
        (subst (λ z. Ties can.start z slots fs) g.1 t) j l g.2 here

    out_i : (slots : Slots) → OutsAre slots r.out → at_number slots i ≡ Some Out
    out_i slots outs = here_out slots r.out i outs (let o = (its i has_i).0 in omega arith)

    loop : (slots : Slots) (fs : List ℕ) → Ties can.start r.log slots fs → OutsAre slots r.out
        → AfterLoop (numbered d) (values d ends) can.start r.log slots fs i k f c
    loop slots fs t outs =
        looped_tied (numbered d) (values d ends) can.start r.log slots fs t i k a e c f (out_i slots outs)
        (here_out slots r.out k outs (let o = (its k has_k).0 in omega arith))
        record {
          state = can.ended.state;
          last = can.ended.last;
          stands = state_at slots fs t i can.end_at can.ended.state can.end_pass can.ended.stands;
          goes = can.ended.goes;
          is_end = can.ended.is_end;
        }
        record {
          state = can.joins.state;
          stands = state_at slots fs t k can.join_at can.joins.state can.join_pass can.joins.stands;
          comes = can.joins.comes;
        }
        can.on can.bears

    apart : k ≢ i
    apart = (loop r.slots r.forkers tied r.outs).apart

    lone_i : 0 < times i r.lone
    lone_i = let t = total_one (mine_of i) s.views id v at in let o = r.kept_once i in let p = can.kept in omega arith

    lone_some : 0 < length r.lone
    lone_some = let a = less_length i r.lone in let b = lone_i in omega arith

    below : i ≢ n
    below h =
        let z = none_out r.slots r.out n r.outs (omega arith) in
        let o = (its i has_i).0 in
        let q : times i r.out ≡ times n r.out = ap (λ j. times j r.out) h in
        omega arith

    abbrev log' : List ℕ
    log' = ((r.log ++ i ∷ []) ++ k ∷ []) ++ k ∷ []

    abbrev items' : List Item
    items' = r.items ++ Loop i k ∷ []

    abbrev forkers' : List ℕ
    forkers' = r.forkers ++ k ∷ []

    abbrev slots' : Slots
    slots' = looped r.slots i

    abbrev out' : List ℕ
    out' = turned_out r.out i n

    abbrev lone' : List ℕ
    lone' = turned_out r.lone i n

    abbrev w : V
    w = makes_round r.log r.out (says d ends r.slots) i k n v

    moves : Moves r.slots r.lone slots' lone'
    moves = looped_moves r.slots r.out r.lone i r.outs r.kept_out r.single lone_i

    -- what the seat with the turn knows goes on
    follows : (before : Slots) (kept : List ℕ)
        → Follows d ends first.seat.start r.state before kept r.log r.forkers r.out r.lone
        → Follows d ends first.seat.start r.state before kept log' forkers' out' lone'
    follows before kept h =
        let t = tied_of can.start first.seat.start r.state r.log h.slots r.forkers start_is state_is h.sound in
        let long : length h.slots ≡ n =
        as_long (numbered d) (values d ends) can.start r.log h.slots r.slots r.forkers r.forkers t tied in
        record {
          slots = looped h.slots i;
          sound = sound_of can.start first.seat.start r.state log' (looped h.slots i) forkers' start_is state_is
              (loop h.slots r.forkers t h.outs).tied;
          outs = subst (λ z. OutsAre (looped h.slots i) (turned_out r.out i z)) long
              (looped_outs h.slots r.out i h.outs (out_i h.slots h.outs));
          moves = moves_moves before kept h.slots r.lone (looped h.slots i) lone' h.moves
              (subst (λ z. Moves h.slots r.lone (looped h.slots i) (turned_out r.lone i z)) long
              (looped_moves h.slots r.out r.lone i h.outs r.kept_out r.single lone_i));
          still = λ none.
              let a = h.moves.as_many in
              let z : length kept ≡ 0 = ap length none in
              let some = lone_some in
              absurd (omega arith);
        }

    starts_on : (ats : List (List ℕ)) → AreStartsOf r.log ats → AreStartsOf log' ats
    starts_on ats b =
        starts_more ((r.log ++ i ∷ []) ++ k ∷ []) k ats
        (starts_more (r.log ++ i ∷ []) k ats (starts_more r.log i ats b))

    holds_on : (u : V) → HoldsTurn d ends first.seat.start r.items r.log r.forkers r.out r.lone r.over r.limit r.state u
        → HoldsTurn d ends first.seat.start items' log' forkers' out' lone' r.over r.limit r.state u
    holds_on u h = record {
      limit_is = h.limit_is;
      entries = h.entries ∙ sym (turn_loop 1 r.items i k);
      over_seen = h.over_seen;
      halt = h.halt;
      begins = (starts_on (u.seat.log ∷ []) (h.begins, tt)).0;
      goes = λ slots sound outs. follows slots u.lone (h.goes slots sound outs);
      as_many = moves.as_many ∙ h.as_many;
    }

    -- the passes of others
    fresh_on : (ps : List Pass) → Fresh r.log ps → named i ps ≡ 0 → named k ps ≡ 0 → Fresh log' ps
    fresh_on ps fresh no_i no_k j before p =
        let y = pass_named ps j before p in
        let ni : i ≢ j = λ q. let z : named j ps ≡ named i ps = ap (λ x. named x ps) (sym q) in omega arith in
        let nk : k ≢ j = λ q. let z : named j ps ≡ named k ps = ap (λ x. named x ps) (sym q) in omega arith in
        since_more ((r.log ++ i ∷ []) ++ k ∷ []) j k before nk
        (since_more (r.log ++ i ∷ []) j k before nk (since_more r.log j i before ni (fresh j before p)))

    none_of : (j id' : ℕ) (u : V) → id' ≢ id → At s id' u → 0 < names_of j v → names_of j u ≡ 0
    none_of j id' u ne there pos =
        let t = total_two (names_of j) s.views id id' v u ne at there in
        let o = r.once j in
        let g = r.single j in
        omega arith

    -- the rounds
    born_is : 1 + length (born r.items) ≡ n
    born_is =
        let q = forkers_long (numbered d) (values d ends) can.start r.log r.slots r.forkers tied in
        let p : length r.forkers ≡ suc (length (born r.items)) = ap length r.forkers_are in
        omega arith

    rounds_are : round_part 1 items' ≡ round_part 1 r.items ++ (n, i, k) ∷ []
    rounds_are = round_loop 1 r.items i k ∙ ap (λ (z : ℕ). round_part 1 r.items ++ (z, i, k) ∷ []) born_is

    made_on : (u : V) → ((x y z : ℕ) → IsRound u.rounds x y z → IsRound (round_part 1 r.items) x y z)
        → (x y z : ℕ) → IsRound u.rounds x y z → IsRound (round_part 1 items') x y z
    made_on u made x y z h =
        subst (λ l. IsRound l x y z) (sym rounds_are)
        (is_round_more (round_part 1 r.items) (n, i, k) x y z (made x y z h))

    own_made : (x y z : ℕ) → IsRound w.rounds x y z → IsRound (round_part 1 items') x y z
    own_made x y z h = by (is_round_snoc v.rounds x y z n i k h)
      where
        by : IsRound v.rounds x y z ⊎ ((n ≡ x) × (i ≡ y) × (k ≡ z)) → IsRound (round_part 1 items') x y z
        by (inl q) = made_on v mine.made x y z q
        by (inr q) =
            subst (λ l. IsRound l x y z) (sym rounds_are)
            (subst (λ (t : ℕ × ℕ × ℕ). IsRound (round_part 1 r.items ++ (n, i, k) ∷ []) t.0 t.1 t.2)
            (λ p. (q.0 p, q.1 p, q.2 p)) (is_round_last (round_part 1 r.items) n i k))

    -- ---- the passes of the seat

    abbrev u0 : View L
    u0 = found_in r.log r.out (says d ends r.slots) v.seat

    abbrev u2 : View L
    u2 = hands_in i (commits i u0)

    one_i : named i u0.passes ≡ 1
    one_i = (its i has_i).1

    two : named k u2.passes ≡ 1
    two = named_in i (commits i u0) k apart ∙ (named_commit i u0 one_i k ∙ (its k has_k).1)

    three : named k (commits k u2).passes ≡ 1
    three = named_commit k u2 two k ∙ two

    own_names : (j : ℕ) → names_of j w ≡ is_at j n + named j u2.passes
    own_names j = ap (λ (z : ℕ). is_at j n + z) (named_commit k (commits k u2) three j ∙ named_commit k u2 two j)

    own_other : (j : ℕ) → j ≢ i → names_of j w ≡ is_at j n + names_of j v
    own_other j ne =
        own_names j
        ∙ ap (λ (z : ℕ). is_at j n + z) (named_in i (commits i u0) j ne ∙ named_commit i u0 one_i j)

    own_i : names_of i w ≡ 0
    own_i =
        let a = own_names i in
        let b = named_gone i (commits i u0) in
        let z = is_at_other i n (λ q. below (sym q)) in
        omega arith

    current : HasCurrent (draws n (commits k (commits k u2)))
    current =
        current_draw n (commits k (commits k u2))
        (current_commit k (commits k u2) (let z = three in omega arith)
        (current_commit k u2 (let z = two in omega arith)
        (current_in i (commits i u0)
        (current_commit i u0 has_i
        (mine.fresh, λ j. let t = total_one (names_of j) s.views id v at in let o = r.once j in omega arith)))))

    mine_gone : times i w.mine ≡ 0
    mine_gone = times_joined v.mine i n below

    mine_other : (j : ℕ) → j ≢ i → times j w.mine ≡ is_at j n + times j v.mine
    mine_other j ne = let a = count_other (λ (x : ℕ). x) i j v.mine ne in omega arith

    own_kept : (j : ℕ) → times j w.mine ≤ names_of j w
    own_kept j = dite (ℕ_discrete j i)
        (λ q. let z : times j w.mine ≡ 0 = ap (λ x. times x w.mine) q ∙ mine_gone in omega arith)
        (λ ne. let p = mine_other j ne in let o = own_other j ne in let h = mine.kept j in omega arith)

    own : SeatKnows d ends first.seat.start first.seat.group items' log' forkers' out' lone' r.over r.limit r.state w
    own = record {
      begun = mine.begun;
      idle = λ p. let h = can.part in absurd (omega arith);
      holds = λ o. absurd (omega arith);
      fresh = current.0;
      behind = (start_here log', starts_on v.seat.turns mine.behind);
      saw = mine.saw;
      halted = mine.halted;
      kept = own_kept;
      made = own_made;
      within = mine.within;
    }
      where
        start_here : (l : List ℕ) → (since : List ℕ) × (l ≡ l ++ since)
        start_here l = ([], sym (append-nil l))

    other : (id' : ℕ) (u : V) → id' ≢ id → At s id' u
        → SeatKnows d ends first.seat.start first.seat.group items' log' forkers' out' lone' r.over r.limit r.state u
    other id' u ne there = let h = r.seats id' u there in record {
      begun = h.begun;
      idle = h.idle;
      holds = λ o. holds_on u (h.holds o);
      fresh = fresh_on u.seat.passes h.fresh (none_of i id' u ne there has_i) (none_of k id' u ne there has_k);
      behind = starts_on u.seat.turns h.behind;
      saw = h.saw;
      halted = h.halted;
      kept = h.kept;
      made = made_on u h.made;
      within = h.within;
    }

    lays : (desk : Desk R A E) → Lays d ends first.seat.group desk r.items r.slots r.lone r.limit
        → Lays d ends first.seat.group desk items' slots' lone' r.limit
    lays desk h = record {
      entries = h.entries ∙ sym (turn_loop 1 r.items i k);
      limit_is = h.limit_is;
      lent_is = h.lent_is ∙ sym moves.as_many;
      shadows = shadows_moves (records_of desk) r.slots r.lone slots' lone' h.shadows moves;
      queued = queued_moves d (records_of desk) r.slots r.lone slots' lone' (queue_of desk) h.shadows
          (h.tracked none_strays) moves h.queued;
      tracked = λ z. tracked_moves d (records_of desk) r.slots r.lone slots' lone' moves (h.tracked z);
      strayed = h.strayed;
      grouped = h.grouped;
    }
      where
        none_strays : desk.strays ≡ false
        none_strays = not_true desk.strays (λ e.
            let a = h.strayed e in let b = h.lent_is in let c = lone_some in absurd (omega arith))

    not_over : r.over ≡ 1 → ⊥
    not_over o =
        all_ended r.slots i Out (ap (λ h. done h r.slots) (sym state_is) ∙ r.over_is o) (out_i r.slots r.outs)

    few_out : (j : ℕ) → times j out' ≤ 1
    few_out j = dite (ℕ_discrete j i)
        (λ q. let z : times j out' ≡ 0 = ap (λ x. times x out') q ∙ times_joined r.out i n below in omega arith)
        (λ ne. dite (ℕ_discrete j n)
        (λ q.
        let z : times j out' ≡ 1 =
        ap (λ x. times x out') q ∙ times_born r.out i n below (none_out r.slots r.out n r.outs (omega arith)) in
        omega arith)
        (λ nn. let z = times_others r.out i n j ne nn in let g = r.single j in omega arith))

    lone_out : (j : ℕ) → times j lone' ≤ times j out'
    lone_out j = dite (ℕ_discrete j i)
        (λ q. let z : times j lone' ≡ 0 = ap (λ x. times x lone') q ∙ times_joined r.lone i n below in omega arith)
        (λ ne.
        let p = count_other (λ (x : ℕ). x) i j r.lone ne in
        let q = count_other (λ (x : ℕ). x) i j r.out ne in
        let g = r.kept_out j in
        omega arith)

    names_on : (j : ℕ) → total (names_of j) (set s.views id w) ≡ times j out'
    names_on j =
        let t = total_set (names_of j) s.views id v w at in
        let o = r.once j in
        dite (ℕ_discrete j i)
        (λ q.
        let z : times j out' ≡ 0 = ap (λ x. times x out') q ∙ times_joined r.out i n below in
        let y : names_of j w ≡ 0 = ap (λ x. names_of x w) q ∙ own_i in
        let x : names_of j v ≡ 1 = ap (λ x. names_of x v) q ∙ (its i has_i).1 in
        let u : times j r.out ≡ 1 = ap (λ x. times x r.out) q ∙ (its i has_i).0 in
        omega arith)
        (λ ne.
        let y = own_other j ne in
        let z = count_other (λ (x : ℕ). x) i j r.out ne in
        omega arith)

    mine_on : (j : ℕ) → total (mine_of j) (set s.views id w) ≡ times j lone'
    mine_on j =
        let t = total_set (mine_of j) s.views id v w at in
        let o = r.kept_once j in
        dite (ℕ_discrete j i)
        (λ q.
        let z : times j lone' ≡ 0 = ap (λ x. times x lone') q ∙ times_joined r.lone i n below in
        let y : mine_of j w ≡ 0 = ap (λ x. times x w.mine) q ∙ mine_gone in
        let x : mine_of j v ≡ times i v.mine = ap (λ x. times x v.mine) q in
        let u : times j r.lone ≡ times i r.lone = ap (λ x. times x r.lone) q in
        let p = can.kept in
        let g = r.kept_out i in
        let h = (its i has_i).0 in
        let l = total_one (mine_of i) s.views id v at in
        let m = r.kept_once i in
        omega arith)
        (λ ne.
        let y = mine_other j ne in
        let z = count_other (λ (x : ℕ). x) i j r.lone ne in
        omega arith)

    makes_on : (j : ℕ) → total (makes_of j) (set s.views id w) ≡ times j (children (round_part 1 items'))
    makes_on j =
        let t = total_set (makes_of j) s.views id v w at in
        let o = r.made_once j in
        let p : makes_of j w ≡ times j (children v.rounds ++ n ∷ []) =
        ap (times j) (children_more v.rounds (n, i, k)) in
        let q : times j (children (round_part 1 items')) ≡ times j (children (round_part 1 r.items) ++ n ∷ []) =
        ap (λ l. times j (children l)) rounds_are
        ∙ ap (times j) (children_more (round_part 1 r.items) (n, i, k)) in
        let x = total_snoc (is_at j) (children v.rounds) n in
        let y = total_snoc (is_at j) (children (round_part 1 r.items)) n in
        omega arith

    -- the rule, after the round
    pub round_rule : Rule record { words = set s.words 16 (2 * n + 2); homes = s.homes; views = set s.views id w }
    round_rule = record {
      items = items';
      log = log';
      forkers = forkers';
      slots = slots';
      out = out';
      lone = lone';
      over = r.over;
      state = r.state;
      limit = r.limit;
      log_is = ap (λ l. ((l ++ i ∷ []) ++ k ∷ []) ++ k ∷ []) r.log_is ∙ flat_loop r.items i k;
      forkers_are = ap (λ l. l ++ k ∷ []) r.forkers_are ∙ ap (λ l. 0 ∷ l) (born_loop r.items i k);
      sound = sound_of can.start first.seat.start r.state log' slots' forkers' start_is state_is
          (loop r.slots r.forkers tied r.outs).tied;
      outs = looped_outs r.slots r.out i r.outs (out_i r.slots r.outs);
      wide = length-set s.words 16 (2 * n + 2) ∙ r.wide;
      long = r.long;
      word =
          let t = total_set turn_of s.views id v w at in
          let b = r.word in
          let h = can.idle in
          let q : get_or s.words 0 0 ≡ total turn_of (set s.views id w) = omega arith in
          still ∙ q;
      small = let q = still in let b = r.small in omega arith;
      tally =
          let q = get_or-set_same s.words 16 (2 * n + 2) 0 (let o = r.wide in omega arith) in
          let l = looped_length r.slots i in
          let h : halt_count r.state ≡ 0 = ap halt_count state_is in
          omega arith;
      roomy = let l = looped_length r.slots i in let h = mine.within in let g = room in omega arith;
      all = let t = total_set part_of s.views id v w at in let b = r.all in omega arith;
      home = λ z. let h = r.home (sym still ∙ z) in (h.0, h.1, lays h.0.value h.2, h.3);
      over_is = λ o. absurd (not_over o);
      seats = λ j u e. ⊎_elim
          (λ (q : (j ≡ id) × (w ≡ u)).
          subst (SeatKnows d ends first.seat.start first.seat.group items' log' forkers' out' lone' r.over r.limit
          r.state) q.1 own)
          (λ (q : (j ≢ id) × At s j u). other j u q.0 q.1)
          (at_set s.views id j w u e);
      once = names_on;
      single = few_out;
      kept_once = mine_on;
      kept_out = lone_out;
      made_once = makes_on;
      known = λ h. absurd (h state_is);
    }
      where
        still : get_or (set s.words 16 (2 * n + 2)) 0 0 ≡ get_or s.words 0 0
        still = get_or-set_other s.words 16 0 (2 * n + 2) 0 (λ q. omega arith)

    pub round_told : MadeRound d ends v w i k n
    round_told = record {
      log = r.log;
      out = r.out;
      slots = r.slots;
      forkers = r.forkers;
      start = can.start;
      begun = can.begun;
      tied = tied;
      outs = r.outs;
      fresh = mine.fresh;
      has = λ j. let t = total_one (names_of j) s.views id v at in let o = r.once j in omega arith;
      next = refl;
      is = refl;
    }

  abbrev Made : (s : St) → ℕ → Me S V → ℕ → ℕ → ℕ → Type 0
  Made s id me i k z =
      (w : V) × (t : Act S) × Valid s.homes me.1 t
      × Rule (stepped s 16 (either (eqb (get_or s.words 16 0) (2 * z)) (2 * z + 2) (get_or s.words 16 0)) id me.1 w t)
      × rounded d ends i k z me (get_or s.words 16 0) (w, carried_after me.1 t)

  -- the exchange of the tally, whichever seat has the turn
  pub round : (slots id : ℕ) (me : Me S V) (i k : ℕ) (a : A) (e : E) (c : R) (f : ℕ → L) (n : ℕ)
      → CanRound d ends me.0 i k a e c f → n < me.0.limit
      → Allows Rule slots id me 16 (λ x. either (eqb x (2 * n)) (2 * n + 2) x) (rounded d ends i k n me)
  round slots id me i k a e c f n can below s r wide at _ = dite (ℕ_discrete (get_or s.words 16 0) (2 * n)) hit miss
    where
      hit : get_or s.words 16 0 ≡ 2 * n → Made s id me i k n
      hit z =
          let y = r.tally in
          let b = halt_most r.state in
          let long : length r.slots ≡ n = omega arith in
          let free : r.state ≡ All = none_all r.state (omega arith) in
          let room : length r.slots < me.0.limit = omega arith in
          let is : get_or s.words 16 0 ≡ 2 * length r.slots = omega arith in
          subst (Made s id me i k) long (
            makes_round r.log r.out (says d ends r.slots) i k (length r.slots) me.0,
            keeps,
            tt,
            subst
                (λ q. Rule (stepped s 16 (either q (2 * length r.slots + 2) (get_or s.words 16 0)) id me.1
                (makes_round r.log r.out (says d ends r.slots) i k (length r.slots) me.0) keeps))
                (sym (eq-eqb (get_or s.words 16 0) (2 * length r.slots) is))
                (round_rule s r id me.0 at i k a e c f can free room),
            ((λ _. (round_told s r id me.0 at i k a e c f can free room, refl)), λ ne. absurd (ne is)),
          )

      miss : get_or s.words 16 0 ≢ 2 * n → Made s id me i k n
      miss ne = (
        me.0,
        keeps,
        tt,
        subst (λ q. Rule (stepped s 16 (either q (2 * n + 2) (get_or s.words 16 0)) id me.1 me.0 keeps))
            (sym (ne_eqb (get_or s.words 16 0) (2 * n) ne))
            (subst (λ (z : List ℕ × List V). Rule record { words = z.0; homes = s.homes; views = z.1 })
            (λ p. (sym (set-get_or s.words 16 0) p, sym (set_again s.views id me.0 at) p)) r),
        ((λ z. absurd (ne z)), λ _. refl),
      )
