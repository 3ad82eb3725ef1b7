-- Taking the turn and giving it back keep the rule.
use Rattle.std.proofs.Common.{◌≡◌, ◌≢◌, ℕ, ◌<◌, ◌≤◌, Bool, true, false, eqb, List, [], ◌∷◌, length, get_or, set, length-set, get_or-set_same, get_or-set_other, sym, refl, ap, ◌∙◌, subst, arith, ⊎_elim, eq-eqb, ne_eqb, Option, Some, None}
use mathlib.Core.Option as opt
use mathlib.Core.Logic.{dite}
use native.Mathlib.Decide.{ℕ_discrete}
use prog.Atomic.{either}
use lib.ListN.{get_elem?}
use lib.Seq.{set-get_or}
use Rattle.atomic_table.specs.Table.{State, Me, keeps, takes, gives, stepped, Allows}
use Rattle.atomic_table.proofs.Lists.{at_set, set_again, set_here}
use Rattle.hub_core.specs.declared.status.Status.{Status}
use Rattle.hub_core.specs.declared.state.HubState.{HubState}
use Rattle.hub_core.specs.declared.state.HubState.TheVariants.{All, Twice, NoMemory}
use Rattle.hub_core.specs.Hub.{Tied}
use Rattle.hub_core.specs.HubMachine.{HubMachine, numbered, values}
use Rattle.hub_core.specs.Counts.{total, flag}
use Rattle.hub_core.specs.Queued.{unfinished}
use Rattle.hub_core.specs.Views.{halt_count, view}
use Rattle.hub_core.specs.Rule.{done, OutsAre, SoundFrom, IsOfGroup, says}
use Rattle.std.specs.Global.{Box}
use Rattle.hub_core.specs.declared.desk.Desk.{Desk}
use Rattle.hub_core.specs.declared.desk.DeskSlot.{DeskSlot}
use Rattle.hub_core.specs.declared.desk.DeskSlot.TheVariants.{Home}
use Rattle.hub_core.specs.declared.sight.Sight.{Sight}
use Rattle.hub_core.specs.Passes.{AreStartsOf}
use Rattle.hub_core.specs.Tally.{pairs, records_of, sight, rests_as, lets_pass, makes_room, turn_of, part_of, halt_of, names_of, mine_of, makes_of, record_at, gives_back, Lays, HoldsTurn, SeatKnows, Tallied, HasDesk, Took}
use Rattle.hub_core.proofs.Lists.{total_set, total_one, total_two, total_rest}
use Rattle.hub_core.proofs.Passes.{start_now}
use Rattle.hub_core.proofs.Moves.{moves_refl, over_none, none_over}
use Rattle.hub_core.proofs.Carried.{carried}
use Rattle.hub_core.proofs.Loops.{forkers_long}

one_if : (b : Bool) → flag b ≡ 1 → b ≡ true
one_if true e = refl
one_if false e = absurd (omega arith)

if_one : (b : Bool) → b ≡ true → flag b ≡ 1
if_one b e = ap flag e

counted : (h : HubState) → h ≢ All → halt_count h ≡ 1
counted All n = absurd (n refl)
counted Twice n = refl
counted NoMemory n = refl

module _ {R A E : Type 0} where
  -- whether all is over is told of the statuses by how many have not ended
  pub done_on : (h : HubState) (s0 s1 : List (Status R A E)) → unfinished s1 ≡ unfinished s0 → done h s0 ≡ true
      → done h s1 ≡ true
  done_on All s0 s1 same o = none_over s1 (same ∙ over_none s0 o)
  done_on Twice s0 s1 same o = refl
  done_on NoMemory s0 s1 same o = refl

module _ {L R A E : Type 0} (d : HubMachine L R A E) (ends : E → L → Type 0) (first : Sight L) where
  abbrev V : Type 0
  V = Sight L

  abbrev S : Type 0
  S = DeskSlot R A E

  abbrev St : Type 0
  St = State S V

  abbrev Rule : St → Type 0
  Rule = Tallied d ends first

  abbrev At : St → ℕ → V → Type 0
  At s id v = get_elem? s.views id ≡ opt.some v

  -- two tables of one schedule have as many revisions
  same_length : (log fs : List ℕ) (h : HubState) (a b : List (Status R A E))
      → SoundFrom d ends first.seat.start h log a fs → SoundFrom d ends first.seat.start h log b fs
      → length a ≡ length b
  same_length log fs h a b x y = by first.seat.start h x y
    where
      tie : (start : L) (log gs : List ℕ) (a : List (Status R A E)) → Tied (numbered d) (values d ends) start log a gs
          → length gs ≡ length a
      tie start log gs a t = forkers_long (numbered d) (values d ends) start log a gs t

      by : (o : Option L) (h : HubState) → SoundFrom d ends o h log a fs → SoundFrom d ends o h log b fs
          → length a ≡ length b
      by None h x y = absurd x
      by (Some start) All x y = sym (tie start log fs a x) ∙ tie start log fs b y
      by (Some start) NoMemory x y = sym (tie start log fs a x) ∙ tie start log fs b y
      by (Some start) Twice x y = sym (tie start x.before fs a x.tied) ∙ tie start y.before fs b y.tied

  abbrev pub taking : V → List ℕ → List ℕ → List ℕ → List ℕ → List (Status R A E) → Desk R A E → V
  taking v log forkers out lone slots desk = record {
    seat = view v.seat.parts v.seat.start v.seat.group 1 log out v.seat.passes (flag (done desk.state slots)) desk.state
        (says d ends slots) desk.state log v.seat.turns;
    rounds = v.rounds;
    mine = v.mine;
    limit = desk.journal.limit;
    entries = pairs desk.journal.entries.items;
    forkers = forkers;
    lone = lone;
  }

  module _ (s : St) (r : Rule s) (id : ℕ) (v : V) (at : At s id v) (idle : v.seat.has ≡ 0)
      (some_part : 0 < v.seat.parts)
      (free : get_or s.words 0 0 ≡ 0) where
    its : SeatKnows d ends first.seat.start first.seat.group r.items r.log r.forkers r.out r.lone r.over r.limit r.state
        v
    its = r.seats id v at

    abbrev box : Box (Desk R A E)
    box = (r.home free).0

    abbrev desk : Desk R A E
    desk = box.value

    lays : Lays d ends first.seat.group desk r.items r.slots r.lone r.limit
    lays = (r.home free).2

    is_state : desk.state ≡ r.state
    is_state = (r.home free).3

    abbrev w : V
    w = taking v r.log r.forkers r.out r.lone r.slots desk

    over_if : r.over ≡ 1 → flag (done desk.state r.slots) ≡ 1
    over_if o = if_one (done desk.state r.slots) (ap (λ h. done h r.slots) is_state ∙ r.over_is o)

    now : get_or (set s.words 0 1) 0 0 ≡ 1
    now = get_or-set_same s.words 0 1 0 (let o = r.wide in omega arith)

    holds_now : HoldsTurn d ends first.seat.start r.items r.log r.forkers r.out r.lone (flag (done desk.state r.slots))
        r.limit
        r.state w
    holds_now = record {
      limit_is = lays.limit_is;
      entries = lays.entries;
      over_seen = λ o. o;
      halt = is_state;
      begins = start_now r.log r.log refl;
      goes = λ slots1 sound outs. record {
        slots = slots1;
        sound = sound;
        outs = outs;
        moves = moves_refl slots1 r.out r.lone outs r.kept_out;
        still = λ _. refl;
      };
      as_many = refl;
    }

    pub taken_rule : Rule
        record { words = set s.words 0 1; homes = set s.homes 0 opt.none; views = set s.views id w }
    taken_rule = record {
      items = r.items;
      log = r.log;
      forkers = r.forkers;
      slots = r.slots;
      out = r.out;
      lone = r.lone;
      over = flag (done desk.state r.slots);
      state = r.state;
      limit = r.limit;
      log_is = r.log_is;
      forkers_are = r.forkers_are;
      sound = r.sound;
      outs = r.outs;
      wide = length-set s.words 0 1 ∙ r.wide;
      long = length-set s.homes 0 opt.none ∙ r.long;
      word =
          let t = total_set turn_of s.views id v w at in
          let a = r.word in
          let i = idle in
          let f = free in
          let q : 1 ≡ total turn_of (set s.views id w) = omega arith in
          now ∙ q;
      small = let y = now in omega arith;
      tally = get_or-set_other s.words 0 16 1 0 (λ q. omega arith) ∙ r.tally;
      roomy = r.roomy;
      all = let t = total_set part_of s.views id v w at in let a = r.all in omega arith;
      home = λ z. let y = now in absurd (omega arith);
      over_is = λ o. ap (λ h. done h r.slots) (sym is_state) ∙ one_if (done desk.state r.slots) o;
      seats = λ j u e. ⊎_elim
          (λ (q : (j ≡ id) × (w ≡ u)).
          subst
          (SeatKnows d ends first.seat.start first.seat.group r.items r.log r.forkers r.out r.lone
          (flag (done desk.state r.slots)) r.limit r.state) q.1 own)
          (λ (q : (j ≢ id) × At s j u). other j u q.1)
          (at_set s.views id j w u e);
      once = λ n. let t = total_set (names_of n) s.views id v w at in let a = r.once n in omega arith;
      single = r.single;
      kept_once = λ n. let t = total_set (mine_of n) s.views id v w at in let a = r.kept_once n in omega arith;
      kept_out = r.kept_out;
      made_once = λ n. let t = total_set (makes_of n) s.views id v w at in let a = r.made_once n in omega arith;
      known = λ n.
          let t = total_set halt_of s.views id v w at in
          let a = total_one halt_of s.views id v at in
          let one : halt_count desk.state ≡ 1 = ap halt_count is_state ∙ counted r.state n in
          omega arith;
    }
      where
        own : SeatKnows d ends first.seat.start first.seat.group r.items r.log r.forkers r.out r.lone
            (flag (done desk.state r.slots)) r.limit r.state w
        own = record {
          begun = its.begun;
          idle = λ p. let q = some_part in absurd (omega arith);
          holds = λ _. holds_now;
          fresh = its.fresh;
          behind = its.behind;
          saw = λ o. o;
          halted = λ _. is_state;
          kept = its.kept;
          made = its.made;
          within = let e = lays.limit_is in omega arith;
        }

        other : (j : ℕ) (u : V) → At s j u
            → SeatKnows d ends first.seat.start first.seat.group r.items r.log r.forkers r.out r.lone
            (flag (done desk.state r.slots)) r.limit r.state u
        other j u e =
            let n = r.seats j u e in
            let t = total_one turn_of s.views j u e in
            let a = r.word in
            let f = free in
            record {
              begun = n.begun;
              idle = n.idle;
              holds = λ o. absurd (omega arith);
              fresh = n.fresh;
              behind = n.behind;
              saw = λ o. over_if (n.saw o);
              halted = n.halted;
              kept = n.kept;
              made = n.made;
              within = n.within;
            }

    pub taken_told : Took d ends v w desk
    taken_told = record {
      hand = record {
        has = refl;
        part = some_part;
        slots = r.slots;
        sound = subst (λ (z : Option L × HubState). SoundFrom d ends z.0 z.1 r.log r.slots r.forkers)
            (λ i. (sym (its.begun some_part).0 i, sym is_state i)) r.sound;
        outs = r.outs;
        current = (
          its.fresh,
          λ k. let t = total_one (names_of k) s.views id v at in let a = r.once k in omega arith,
        );
        alone = λ j pos.
            let t = total_rest (mine_of j) (names_of j) s.views id v at (λ i x e. (r.seats i x e).kept j) in
            let a = r.once j in
            let b = r.single j in
            let o = r.kept_once j in
            omega arith;
        kept = its.kept;
        entries = refl;
        limit_is = refl;
        lent_is = lays.lent_is;
        shadows = lays.shadows;
        queued = lays.queued;
        tracked = lays.tracked;
        strayed = lays.strayed;
        grouped = λ j x e. subst (λ g. IsOfGroup d ends g x) (sym (its.begun some_part).1) (lays.grouped j x e);
        saw = one_if (done desk.state r.slots);
        halt = refl;
      };
      same = (refl, refl, refl, refl, refl, refl, refl);
      limit = let a = its.within in let e = lays.limit_is in omega arith;
      fresh = its.fresh;
      own = λ k. let t = total_one (names_of k) s.views id v at in let a = r.once k in omega arith;
      over = if_one (done desk.state r.slots);
      said = refl;
      entered_is = refl;
      found = refl;
      known = λ n. its.halted n ∙ sym is_state;
    }

  -- what the exchange of the turn's word tells
  abbrev pub took : Me S V → ℕ → Me S V → Type 0
  took me x me' =
      (x ≡ 0 → (desk : Box (Desk R A E)) × Took d ends me.0 me'.0 desk.value × (me'.1 ≡ (0, Home desk) ∷ []))
      × (x ≢ 0 → me' ≡ me)

  pub take : (homes id : ℕ) (me : Me S V) → me.0.seat.has ≡ 0 → me.1 ≡ [] → 0 < me.0.seat.parts
      → Allows Rule homes id me 0 (λ n. either (eqb n 0) 1 n) (took me)
  take homes id me idle none some_part s r wide at _ = dite (ℕ_discrete (get_or s.words 0 0) 0)
      (λ z. (
        w s r id me.0 at idle some_part z,
        takes 0 (Home (box s r id me.0 at idle some_part z)),
        (r.home z).1,
        subst
            (λ b. Rule (stepped s 0 (either b 1 (get_or s.words 0 0)) id me.1 (w s r id me.0 at idle some_part z)
            (takes 0 (Home (box s r id me.0 at idle some_part z)))))
            (sym (eq-eqb (get_or s.words 0 0) 0 z)) (taken_rule s r id me.0 at idle some_part z),
        (
          (λ _. (
            box s r id me.0 at idle some_part z,
            taken_told s r id me.0 at idle some_part z,
            ap (λ (l : List (ℕ × S)). (0, Home (box s r id me.0 at idle some_part z)) ∷ l) none,
          )),
          λ n. absurd (n z),
        ),
      ))
      (λ n. (
        me.0,
        keeps,
        tt,
        subst (λ b. Rule (stepped s 0 (either b 1 (get_or s.words 0 0)) id me.1 me.0 keeps))
            (sym (ne_eqb (get_or s.words 0 0) 0 n))
            (subst (λ (z : List ℕ × List V). Rule record { words = z.0; homes = s.homes; views = z.1 })
            (λ i. (sym (set-get_or s.words 0 0) i, sym (set_again s.views id me.0 at) i)) r),
        ((λ z. absurd (n z)), λ _. refl),
      ))

  -- ---- giving it back

  module _ (s : St) (r : Rule s) (id : ℕ) (v : V) (at : At s id v) (box : Box (Desk R A E))
      (hand : HasDesk d ends v box.value)
      (note : List (List ℕ)) (noted : AreStartsOf r.log note) where
    abbrev value : Desk R A E
    value = box.value

    mine : SeatKnows d ends first.seat.start first.seat.group r.items r.log r.forkers r.out r.lone r.over r.limit
        r.state v
    mine = r.seats id v at

    turn : HoldsTurn d ends first.seat.start r.items r.log r.forkers r.out r.lone r.over r.limit r.state v
    turn = mine.holds hand.has

    same_state : value.state ≡ r.state
    same_state = sym hand.halt ∙ turn.halt

    limit_same : value.journal.limit ≡ r.limit
    limit_same = hand.limit_is ∙ turn.limit_is

    abbrev back : V
    back = sight (rests_as note v.seat) v.rounds v.mine v.limit

    -- the statuses of now, of which the value's records are part
    record Given : Type 0 where
      slots : List (Status R A E)
      sound : SoundFrom d ends first.seat.start r.state r.log slots r.forkers
      outs : OutsAre slots r.out
      lays : Lays d ends first.seat.group value r.items slots r.lone r.limit
      over : done r.state hand.slots ≡ true → done r.state slots ≡ true

    started : SoundFrom d ends first.seat.start r.state v.seat.log hand.slots v.forkers
    started =
        subst (λ (z : Option L × HubState). SoundFrom d ends z.0 z.1 v.seat.log hand.slots v.forkers)
        (λ i. ((mine.begun hand.part).0 i, same_state i)) hand.sound

    grouped : (j : ℕ) (x : Status R A E) → record_at (records_of value) j ≡ Some x → IsOfGroup d ends first.seat.group x
    grouped j x e = subst (λ g. IsOfGroup d ends g x) (mine.begun hand.part).1 (hand.grouped j x e)

    given : Given
    given =
        let gone = turn.goes hand.slots started hand.outs in
        let kept =
        carried d value hand.slots v.lone gone.slots r.lone hand.shadows hand.queued hand.tracked hand.strayed
        hand.lent_is
        gone.moves gone.still in
        record {
          slots = gone.slots;
          sound = gone.sound;
          outs = gone.outs;
          lays = record {
            entries = hand.entries ∙ turn.entries;
            limit_is = limit_same;
            lent_is = hand.lent_is ∙ sym gone.moves.as_many;
            shadows = kept.0;
            queued = kept.1;
            tracked = kept.2;
            strayed = hand.strayed;
            grouped = grouped;
          };
          over = done_on r.state hand.slots gone.slots gone.moves.count;
        }

    freed : get_or (set s.words 0 0) 0 0 ≡ 0
    freed = get_or-set_same s.words 0 0 0 (let o = r.wide in omega arith)

    pub given_rule : Rule
        record { words = set s.words 0 0; homes = set s.homes 0 (opt.some (Home box)); views = set s.views id back }
    given_rule = record {
      items = r.items;
      log = r.log;
      forkers = r.forkers;
      slots = given.slots;
      out = r.out;
      lone = r.lone;
      over = r.over;
      state = r.state;
      limit = r.limit;
      log_is = r.log_is;
      forkers_are = r.forkers_are;
      sound = given.sound;
      outs = given.outs;
      wide = length-set s.words 0 0 ∙ r.wide;
      long = length-set s.homes 0 (opt.some (Home box)) ∙ r.long;
      word =
          let t = total_set turn_of s.views id v back at in
          let a = r.word in
          let b = r.small in
          let c = hand.has in
          let q : 0 ≡ total turn_of (set s.views id back) = omega arith in
          freed ∙ q;
      small = let z = freed in omega arith;
      tally = let z = get_or-set_other s.words 0 16 0 0 (λ q. omega arith) in let t = r.tally in let m =
          as_many in omega arith;
      roomy = let a = as_many in let b = r.roomy in omega arith;
      all = let t = total_set part_of s.views id v back at in let a = r.all in omega arith;
      home = λ _. (
        box,
        set_here s.homes 0 (opt.some (Home box)) (let o = r.long in omega arith),
        given.lays,
        same_state,
      );
      over_is = λ o. given.over (ap (λ h. done h hand.slots) (sym same_state) ∙ hand.saw (turn.over_seen o));
      seats = λ j u e. ⊎_elim
          (λ (q : (j ≡ id) × (back ≡ u)).
          subst
          (SeatKnows d ends first.seat.start first.seat.group r.items r.log r.forkers r.out r.lone r.over r.limit
          r.state) q.1
          record {
            begun = mine.begun;
            idle = λ p. let a = hand.part in absurd (omega arith);
            holds = λ o. absurd (omega arith);
            fresh = mine.fresh;
            behind = noted;
            saw = mine.saw;
            halted = mine.halted;
            kept = mine.kept;
            made = mine.made;
            within = mine.within;
          })
          (λ (q : (j ≢ id) × At s j u). r.seats j u q.1)
          (at_set s.views id j back u e);
      once = λ n. let t = total_set (names_of n) s.views id v back at in let a = r.once n in omega arith;
      single = r.single;
      kept_once = λ n. let t = total_set (mine_of n) s.views id v back at in let a = r.kept_once n in omega arith;
      kept_out = r.kept_out;
      made_once = λ n. let t = total_set (makes_of n) s.views id v back at in let a = r.made_once n in omega arith;
      known = λ n. let t = total_set halt_of s.views id v back at in let a = r.known n in omega arith;
    }
      where
        as_many : length given.slots ≡ length r.slots
        as_many = same_length r.log r.forkers r.state given.slots r.slots given.sound r.sound

  pub give : (homes id : ℕ) (v : V) (box : Box (Desk R A E)) → HasDesk d ends v box.value
      → Allows Rule homes id (v, (0, Home box) ∷ []) 0 (λ _. 0) (λ _ me'. me' ≡ (gives_back v, []))
  give homes id v box hand s r wide at _ =
      let its = r.seats id v at in
      let noted : AreStartsOf r.log (v.seat.log ∷ v.seat.turns) = ((its.holds hand.has).begins, its.behind) in
      (gives_back v, gives, tt, given_rule s r id v at box hand (v.seat.log ∷ v.seat.turns) noted, refl)

  -- the same, and no turn is noted
  pub pass : (homes id : ℕ) (v : V) (box : Box (Desk R A E)) → HasDesk d ends v box.value
      → Allows Rule homes id (v, (0, Home box) ∷ []) 0 (λ _. 0) (λ _ me'. me' ≡ (lets_pass v, []))
  pass homes id v box hand s r wide at _ =
      (lets_pass v, gives, tt, given_rule s r id v at box hand v.seat.turns (r.seats id v at).behind, refl)

  -- room for more numbers, which the seat with the turn makes
  module _ (s : St) (r : Rule s) (id : ℕ) (v : V) (at : At s id v) (has : v.seat.has ≡ 1) (limit : ℕ)
      (more : v.limit ≤ limit) where
    its_turn : HoldsTurn d ends first.seat.start r.items r.log r.forkers r.out r.lone r.over r.limit r.state v
    its_turn = (r.seats id v at).holds has

    abbrev roomier : V
    roomier = makes_room limit v

    alone : (j : ℕ) (u : V) → j ≢ id → At s j u → u.seat.has ≡ 0
    alone j u ne e =
        let t = total_two turn_of s.views id j v u ne at e in
        let a = r.word in
        let b = r.small in
        let h = has in
        omega arith

    own_room : SeatKnows d ends first.seat.start first.seat.group r.items r.log r.forkers r.out r.lone r.over limit
        r.state
        roomier
    own_room = let h = r.seats id v at in record {
      begun = h.begun;
      idle = h.idle;
      holds = λ _. record {
        limit_is = refl;
        entries = its_turn.entries;
        over_seen = its_turn.over_seen;
        halt = its_turn.halt;
        begins = its_turn.begins;
        goes = its_turn.goes;
        as_many = its_turn.as_many;
      };
      fresh = h.fresh;
      behind = h.behind;
      saw = h.saw;
      halted = h.halted;
      kept = h.kept;
      made = h.made;
      within = omega arith;
    }

    other_room : (j : ℕ) (u : V) → j ≢ id → At s j u
        → SeatKnows d ends first.seat.start first.seat.group r.items r.log r.forkers r.out r.lone r.over limit r.state u
    other_room j u ne e = let h = r.seats j u e in record {
      begun = h.begun;
      idle = h.idle;
      holds = λ o. let z = alone j u ne e in absurd (omega arith);
      fresh = h.fresh;
      behind = h.behind;
      saw = h.saw;
      halted = h.halted;
      kept = h.kept;
      made = h.made;
      within = let a = h.within in let b = its_turn.limit_is in let c = more in omega arith;
    }

    room_rule : Rule record { words = s.words; homes = s.homes; views = set s.views id roomier }
    room_rule = record {
      items = r.items;
      log = r.log;
      forkers = r.forkers;
      slots = r.slots;
      out = r.out;
      lone = r.lone;
      over = r.over;
      state = r.state;
      limit = limit;
      log_is = r.log_is;
      forkers_are = r.forkers_are;
      sound = r.sound;
      outs = r.outs;
      wide = r.wide;
      long = r.long;
      word = let t = total_set turn_of s.views id v roomier at in let a = r.word in omega arith;
      small = r.small;
      tally = r.tally;
      roomy = let a = r.roomy in let b = its_turn.limit_is in let c = more in omega arith;
      all = let t = total_set part_of s.views id v roomier at in let a = r.all in omega arith;
      home = λ z.
          let t = total_one turn_of s.views id v at in let a = r.word in let h = has in absurd (omega arith);
      over_is = r.over_is;
      seats = λ j u e. ⊎_elim
          (λ (q : (j ≡ id) × (roomier ≡ u)).
          subst
          (SeatKnows d ends first.seat.start first.seat.group r.items r.log r.forkers r.out r.lone r.over limit r.state)
          q.1
          own_room)
          (λ (q : (j ≢ id) × At s j u). other_room j u q.0 q.1)
          (at_set s.views id j roomier u e);
      once = λ n. let t = total_set (names_of n) s.views id v roomier at in let a = r.once n in omega arith;
      single = r.single;
      kept_once = λ n. let t = total_set (mine_of n) s.views id v roomier at in let a = r.kept_once n in omega arith;
      kept_out = r.kept_out;
      made_once = λ n. let t = total_set (makes_of n) s.views id v roomier at in let a = r.made_once n in omega arith;
      known = λ n. let t = total_set halt_of s.views id v roomier at in let a = r.known n in omega arith;
    }

  -- a load of the turn's word
  pub widen : (homes id : ℕ) (me : Me S V) (limit : ℕ) → me.0.seat.has ≡ 1 → me.0.limit ≤ limit
      → Allows Rule homes id me 0 (λ x. x) (λ _ me'. me' ≡ (makes_room limit me.0, me.1))
  widen homes id me limit has more s r wide at _ = (
    makes_room limit me.0,
    keeps,
    tt,
    subst (λ ws. Rule record { words = ws; homes = s.homes; views = set s.views id (makes_room limit me.0) })
        (sym (set-get_or s.words 0 0)) (room_rule s r id me.0 at has limit more),
    refl,
  )
