-- Cutting a seat in two, joining two, the opening and the end keep the rule.
use Rattle.std.proofs.Common.{◌≡◌, ◌≢◌, ◌⊎◌, inl, inr, ℕ, ◌+◌, ◌*◌, ◌<◌, ◌≤◌, Bool, true, cond, List, [], ◌∷◌, ◌++◌, length, get_or, set, sym, refl, ap, ◌∙◌, subst, arith, ⊎_elim, ne_eqb}
use mathlib.Core.Option as opt
use mathlib.Core.Logic.{dite}
use native.Mathlib.Decide.{ℕ_discrete}
use lib.ListN.{get_elem?}
use Rattle.atomic_table.specs.Table.{State, Splits, Joins}
use Rattle.atomic_table.proofs.Lists.{at_set, at_snoc}
use Rattle.hub_core.specs.declared.status.Status.{Status}
use Rattle.hub_core.specs.declared.state.HubState.{HubState}
use Rattle.hub_core.specs.declared.state.HubState.TheVariants.{All, Twice, NoMemory}
use Rattle.hub_core.specs.HubMachine.{HubMachine}
use Rattle.hub_core.specs.Counts.{total, is_at, times}
use Rattle.hub_core.specs.Passes.{Pass, named, IsPass, AreStartsOf}
use Rattle.hub_core.specs.Views.{halt_count, either_halt}
use Rattle.hub_core.specs.Rule.{done, OutsAre, SoundFrom}
use Rattle.hub_core.specs.Rounds.{Item, Round, flat, born, round_part, IsRound, children}
use Rattle.std.specs.Global.{Box}
use Rattle.hub_core.specs.declared.desk.Desk.{Desk}
use Rattle.hub_core.specs.declared.desk.DeskSlot.{DeskSlot}
use Rattle.hub_core.specs.declared.desk.DeskSlot.TheVariants.{Home}
use Rattle.hub_core.specs.declared.sight.Sight.{Sight}
use Rattle.hub_core.specs.Tally.{turn_of, part_of, halt_of, names_of, mine_of, makes_of, both_of, most_of, part_from, witness_of, blank_sight, Lays, SeatKnows, Tallied}
use Rattle.hub_core.proofs.Lists.{total_set, total_snoc, total_append, total_two, total_only}
use Rattle.hub_core.proofs.Passes.{fresh_append, starts_append}

children_append : (rs qs : List Round) → children (rs ++ qs) ≡ children rs ++ children qs
children_append [] qs = refl
children_append (r ∷ rs) qs = ap (λ l. r.0 ∷ l) (children_append rs qs)

is_round_append : (rs qs : List Round) (n i k : ℕ) → IsRound (rs ++ qs) n i k → IsRound rs n i k ⊎ IsRound qs n i k
is_round_append [] qs n i k h = inr h
is_round_append (r ∷ rs) qs n i k (inl h) = inl (inl h)
is_round_append (r ∷ rs) qs n i k (inr h) = by (is_round_append rs qs n i k h)
  where
    by : IsRound rs n i k ⊎ IsRound qs n i k → IsRound (r ∷ rs) n i k ⊎ IsRound qs n i k
    by (inl q) = inl (inr q)
    by (inr q) = inr q

all_or : (h : HubState) → (h ≡ All) ⊎ (h ≢ All)
all_or All = inl refl
all_or Twice = inr (λ e. cc)
all_or NoMemory = inr (λ e. cc)

either_count : (a b : HubState) → (halt_count (either_halt a b) ≡ 1) ⊎ ((halt_count a ≡ 0) × (halt_count b ≡ 0))
either_count All All = inr (refl, refl)
either_count All Twice = inl refl
either_count All NoMemory = inl refl
either_count Twice b = inl refl
either_count NoMemory b = inl refl

either_left : (a b : HubState) → a ≢ All → either_halt a b ≡ a
either_left All b n = absurd (n refl)
either_left Twice b n = refl
either_left NoMemory b n = refl

module _ {L R A E : Type 0} (d : HubMachine L R A E) (ends : E → L → Type 0) (first : Sight L) where
  abbrev V : Type 0
  V = Sight L

  abbrev S : Type 0
  S = DeskSlot R A E

  abbrev St : Type 0
  St = State S V

  abbrev Rule : St → Type 0
  Rule = Tallied d ends first

  abbrev At : St → ℕ → V → Type 0
  At s id v = get_elem? s.views id ≡ opt.some v

  abbrev Knows : (s : St) → Rule s → V → Type 0
  Knows s r =
      SeatKnows d ends first.seat.start first.seat.group r.items r.log r.forkers r.out r.lone r.over r.limit r.state

  in_snoc : (l : List V) (w : V) (K : V → Type 0) → ((i : ℕ) (u : V) → get_elem? l i ≡ opt.some u → K u) → K w
      → (i : ℕ) (u : V) → get_elem? (l ++ w ∷ []) i ≡ opt.some u → K u
  in_snoc l w K all mine i u e = ⊎_elim (λ q. all i u q) (λ (q : w ≡ u). subst K q mine) (at_snoc l w u i e)

  in_set : (l : List V) (id : ℕ) (w : V) (K : V → Type 0) → ((i : ℕ) (u : V) → get_elem? l i ≡ opt.some u → K u) → K w
      → (i : ℕ) (u : V) → get_elem? (set l id w) i ≡ opt.some u → K u
  in_set l id w K all mine i u e =
      ⊎_elim (λ (q : (i ≡ id) × (w ≡ u)). subst K q.1 mine)
      (λ (q : (i ≢ id) × (get_elem? l i ≡ opt.some u)). all i u q.1)
      (at_set l id i w u e)

  -- the same state with other views
  with_views : (s : St) (r : Rule s) (views : List V) → total turn_of views ≡ total turn_of s.views
      → total part_of views ≡ total part_of s.views
      → ((i : ℕ) (u : V) → get_elem? views i ≡ opt.some u → Knows s r u)
      → ((n : ℕ) → total (names_of n) views ≡ total (names_of n) s.views)
      → ((n : ℕ) → total (mine_of n) views ≡ total (mine_of n) s.views)
      → ((n : ℕ) → total (makes_of n) views ≡ total (makes_of n) s.views)
      → (0 < total halt_of s.views → 0 < total halt_of views)
      → Rule record { words = s.words; homes = s.homes; views = views }
  with_views s r views turns parts knows names mine makes halts = record {
    items = r.items;
    log = r.log;
    forkers = r.forkers;
    slots = r.slots;
    out = r.out;
    lone = r.lone;
    over = r.over;
    state = r.state;
    limit = r.limit;
    log_is = r.log_is;
    forkers_are = r.forkers_are;
    sound = r.sound;
    outs = r.outs;
    wide = r.wide;
    long = r.long;
    word = r.word ∙ sym turns;
    small = r.small;
    tally = r.tally;
    roomy = r.roomy;
    all = parts ∙ r.all;
    home = r.home;
    over_is = r.over_is;
    seats = knows;
    once = λ n. names n ∙ r.once n;
    single = r.single;
    kept_once = λ n. mine n ∙ r.kept_once n;
    kept_out = r.kept_out;
    made_once = λ n. makes n ∙ r.made_once n;
    known = λ n. halts (r.known n);
  }

  -- a seat that has nothing, of this start and group
  new_knows : (s : St) (r : Rule s) (v u : V) → Knows s r v → u.seat.has ≡ 0
      → (0 < u.seat.parts → 0 < v.seat.parts)
      → (u.seat.start ≡ v.seat.start) × (u.seat.group ≡ v.seat.group) × (u.seat.passes ≡ []) × (u.seat.turns ≡ [])
      × (u.seat.saw ≡ 0) × (u.seat.halt ≡ All) × (u.rounds ≡ []) × (u.mine ≡ []) × (u.limit ≡ 0)
      → Knows s r u
  new_knows s r v u mine none parts is = record {
    begun = λ p. let b = mine.begun (parts p) in (is.0 ∙ b.0, is.1 ∙ b.1);
    idle = λ p. (none, is.5, is.2, is.6, is.7);
    holds = λ o. absurd (omega arith);
    fresh = λ k at p. absurd (subst (λ l. IsPass l k at) is.2 p);
    behind = subst (AreStartsOf r.log) (sym is.3) tt;
    saw = λ o. let z = is.4 in absurd (omega arith);
    halted = λ n. absurd (n is.5);
    kept = λ n. let z : times n u.mine ≡ 0 = ap (times n) is.7 in omega arith;
    made = λ n i k h. absurd (subst (λ l. IsRound l n i k) is.6 h);
    within = let z = is.8 in omega arith;
  }

  pub another : (id : ℕ) (v : V) → v.seat.has ≡ 0 → 1 < v.seat.parts
      → Splits Rule id v (most_of v) (part_from v)
  another id v idle more s r at =
      let mine = r.seats id v at in
      let vs : List V = set s.views id (most_of v) in
      with_views s r (vs ++ part_from v ∷ [])
      (let t = total_set turn_of s.views id v (most_of v) at in let u = total_snoc turn_of vs (part_from v) in omega
      arith)
      (let t = total_set part_of s.views id v (most_of v) at in let u = total_snoc part_of vs (part_from v) in omega
      arith)
      (in_snoc vs (part_from v) (Knows s r)
      (in_set s.views id (most_of v) (Knows s r) r.seats
      record {
        begun = λ p. mine.begun (omega arith);
        idle = λ p. absurd (omega arith);
        holds = λ o. absurd (omega arith);
        fresh = mine.fresh;
        behind = mine.behind;
        saw = mine.saw;
        halted = mine.halted;
        kept = mine.kept;
        made = mine.made;
        within = mine.within;
      })
      (new_knows s r v (part_from v) mine refl (λ p. omega arith)
      (refl, refl, refl, refl, refl, refl, refl, refl, refl)))
      (λ n.
      let t = total_set (names_of n) s.views id v (most_of v) at in
      let u = total_snoc (names_of n) vs (part_from v) in
      omega arith)
      (λ n.
      let t = total_set (mine_of n) s.views id v (most_of v) at in
      let u = total_snoc (mine_of n) vs (part_from v) in
      omega arith)
      (λ n.
      let t = total_set (makes_of n) s.views id v (most_of v) at in
      let u = total_snoc (makes_of n) vs (part_from v) in
      omega arith)
      (λ p.
      let t = total_set halt_of s.views id v (most_of v) at in
      let u = total_snoc halt_of vs (part_from v) in
      omega arith)

  pub tell : (id : ℕ) (v : V) → v.seat.has ≡ 0 → Splits Rule id v v (witness_of v)
  tell id v idle s r at =
      let mine = r.seats id v at in
      let vs : List V = set s.views id v in
      with_views s r (vs ++ witness_of v ∷ [])
      (let t = total_set turn_of s.views id v v at in let u = total_snoc turn_of vs (witness_of v) in omega arith)
      (let t = total_set part_of s.views id v v at in let u = total_snoc part_of vs (witness_of v) in omega arith)
      (in_snoc vs (witness_of v) (Knows s r) (in_set s.views id v (Knows s r) r.seats mine)
      (new_knows s r v (witness_of v) mine refl (λ p. absurd (omega arith))
      (refl, refl, refl, refl, refl, refl, refl, refl, refl)))
      (λ n.
      let t = total_set (names_of n) s.views id v v at in
      let u = total_snoc (names_of n) vs (witness_of v) in
      omega arith)
      (λ n.
      let t = total_set (mine_of n) s.views id v v at in
      let u = total_snoc (mine_of n) vs (witness_of v) in
      omega arith)
      (λ n.
      let t = total_set (makes_of n) s.views id v v at in
      let u = total_snoc (makes_of n) vs (witness_of v) in
      omega arith)
      (λ p.
      let t = total_set halt_of s.views id v v at in
      let u = total_snoc halt_of vs (witness_of v) in
      omega arith)

  pub gather : (id : ℕ) (v : V) (other : ℕ) (w : V) → v.seat.has ≡ 0 → w.seat.has ≡ 0 → 0 < v.seat.parts
      → Joins Rule id v other w (both_of v w) blank_sight
  gather id v other w idle idle' some_part s r at apart there =
      let mine = r.seats id v at in
      let vs : List V = set s.views id (both_of v w) in
      let before : At s other w =
      ⊎_elim (λ (t : (other ≡ id) × (both_of v w ≡ w)). absurd (apart t.0)) (λ (t : (other ≢ id) × At s other w). t.1)
      (at_set s.views id other (both_of v w) w there) in
      let its = r.seats other w before in
      with_views s r (set vs other blank_sight)
      (
      let t = total_set turn_of s.views id v (both_of v w) at in
      let u = total_set turn_of vs other w blank_sight there in
      omega arith
      )
      (
      let t = total_set part_of s.views id v (both_of v w) at in
      let u = total_set part_of vs other w blank_sight there in
      omega arith
      )
      (in_set vs other blank_sight (Knows s r)
      (in_set s.views id (both_of v w) (Knows s r) r.seats
      record {
        begun = λ p. mine.begun some_part;
        idle = λ p. absurd (omega arith);
        holds = λ o. absurd (omega arith);
        fresh = fresh_append r.log v.seat.passes w.seat.passes mine.fresh its.fresh;
        behind = starts_append r.log v.seat.turns w.seat.turns mine.behind its.behind;
        saw = λ o. dite (ℕ_discrete v.seat.saw 1) (λ e. mine.saw e)
            (λ ne. its.saw (sym (ap (λ (b : Bool). cond b 1 w.seat.saw) (ne_eqb v.seat.saw 1 ne)) ∙ o));
        halted = λ n. ⊎_elim
            (λ (e : v.seat.halt ≡ All).
            let same : either_halt v.seat.halt w.seat.halt ≡ w.seat.halt = ap (λ h. either_halt h w.seat.halt) e in
            same ∙ its.halted (λ c. n (same ∙ c)))
            (λ (ne : v.seat.halt ≢ All). either_left v.seat.halt w.seat.halt ne ∙ mine.halted ne)
            (all_or v.seat.halt);
        kept = λ n.
            let t = total_append (is_at n) v.mine w.mine in
            let u = total_append (λ (p : Pass). is_at n p.0) v.seat.passes w.seat.passes in
            let a = mine.kept n in
            let b = its.kept n in
            omega arith;
        made = λ n i k h. ⊎_elim (mine.made n i k) (its.made n i k) (is_round_append v.rounds w.rounds n i k h);
        within = mine.within;
      })
      record {
        begun = λ p. absurd (omega arith);
        idle = λ p. (refl, refl, refl, refl, refl);
        holds = λ o. absurd (omega arith);
        fresh = λ k at' p. absurd p;
        behind = tt;
        saw = λ o. absurd (omega arith);
        halted = λ n. absurd (n refl);
        kept = λ n. omega arith;
        made = λ n i k h. absurd h;
        within = omega arith;
      })
      (λ n.
      let t = total_set (names_of n) s.views id v (both_of v w) at in
      let u = total_set (names_of n) vs other w blank_sight there in
      let q = total_append (λ (p : Pass). is_at n p.0) v.seat.passes w.seat.passes in
      omega arith)
      (λ n.
      let t = total_set (mine_of n) s.views id v (both_of v w) at in
      let u = total_set (mine_of n) vs other w blank_sight there in
      let q = total_append (is_at n) v.mine w.mine in
      omega arith)
      (λ n.
      let t = total_set (makes_of n) s.views id v (both_of v w) at in
      let u = total_set (makes_of n) vs other w blank_sight there in
      let c : makes_of n (both_of v w) ≡ times n (children v.rounds ++ children w.rounds) =
      ap (times n) (children_append v.rounds w.rounds) in
      let q = total_append (is_at n) (children v.rounds) (children w.rounds) in
      omega arith)
      (λ p.
      let t = total_set halt_of s.views id v (both_of v w) at in
      let u = total_set halt_of vs other w blank_sight there in
      let b = total_two halt_of s.views id other v w apart at before in
      ⊎_elim
      (λ (one : halt_count (either_halt v.seat.halt w.seat.halt) ≡ 1). omega arith)
      (λ (no : (halt_count v.seat.halt ≡ 0) × (halt_count w.seat.halt ≡ 0)).
      let x = no.0 in let y = no.1 in omega arith)
      (either_count v.seat.halt w.seat.halt))

  -- with every part, the value is at home, the passes are those of this seat, and so are the rounds
  pub record AtEnd (s : St) (v : V) : Type 0 where
    pub box : Box (Desk R A E)
    pub items : List Item
    pub slots : List (Status R A E)
    pub out : List ℕ
    pub lone : List ℕ
    pub limit : ℕ
    pub home : get_elem? s.homes 0 ≡ opt.some (opt.some (Home box))
    pub lays : Lays d ends first.seat.group box.value items slots lone limit
    pub sound : SoundFrom d ends first.seat.start box.value.state (flat items) slots (0 ∷ born items)
    pub outs : OutsAre slots out
    pub over : v.seat.saw ≡ 1 → done box.value.state slots ≡ true
    pub state : box.value.state ≡ v.seat.halt
    -- how many revisions there are, and that the close has room for them
    pub tally : get_or s.words 16 0 ≡ 2 * length slots + halt_count box.value.state
    pub roomy : length slots ≤ limit
    pub passes : (n : ℕ) → times n out ≡ named n v.seat.passes
    pub behind : AreStartsOf (flat items) v.seat.turns
    -- each round of the schedule is once in the seat's list
    pub each : (n : ℕ) → times n (children v.rounds) ≡ times n (children (round_part 1 items))
    pub made : (n i k : ℕ) → IsRound v.rounds n i k → IsRound (round_part 1 items) n i k
    pub same : (v.seat.start ≡ first.seat.start) × (v.seat.group ≡ first.seat.group)

  -- the others are blank
  others_blank : (s : St) (r : Rule s) (id j : ℕ) (v u : V) → At s id v → v.seat.parts ≡ first.seat.parts → j ≢ id
      → At s j u
      → (u.seat.has ≡ 0) × (u.seat.halt ≡ All) × (u.seat.passes ≡ []) × (u.rounds ≡ []) × (u.mine ≡ [])
  others_blank s r id j v u at every ne e =
      (r.seats j u e).idle (let two = total_two part_of s.views id j v u ne at e in let a = r.all in omega arith)

  halts_at_end : (s : St) (r : Rule s) (id : ℕ) (v : V) → At s id v → v.seat.parts ≡ first.seat.parts
      → r.state ≡ v.seat.halt
  halts_at_end s r id v at every =
      let its = r.seats id v at in
      let sum =
      total_only halt_of s.views id v at (λ j u ne e. ap halt_count (others_blank s r id j v u at every ne e).1) in
      ⊎_elim
      (λ (e : v.seat.halt ≡ All). ⊎_elim
      (λ (z : r.state ≡ All). z ∙ sym e)
      (λ (n : r.state ≢ All). let a = r.known n in let b : halt_of v ≡ 0 = ap halt_count e in absurd (omega arith))
      (all_or r.state))
      (λ (n : v.seat.halt ≢ All). sym (its.halted n))
      (all_or v.seat.halt)

  pub home_at_end : (s : St) → Rule s → (id : ℕ) (v : V) → At s id v → v.seat.has ≡ 0 → 0 < v.seat.parts
      → v.seat.parts ≡ first.seat.parts → AtEnd s v
  home_at_end s r id v at idle some_part every =
      let none = total_only turn_of s.views id v at (λ j u ne e. (others_blank s r id j v u at every ne e).0) in
      let its = r.seats id v at in
      let h = r.home (r.word ∙ none ∙ idle) in
      record {
        box = h.0;
        items = r.items;
        slots = r.slots;
        out = r.out;
        lone = r.lone;
        limit = r.limit;
        home = h.1;
        lays = h.2;
        sound = subst
            (λ (z : HubState × List ℕ × List ℕ). SoundFrom d ends first.seat.start z.0 z.1 r.slots z.2)
            (λ i. (sym h.3 i, r.log_is i, r.forkers_are i)) r.sound;
        outs = r.outs;
        over = λ o. ap (λ h. done h r.slots) h.3 ∙ r.over_is (its.saw o);
        state = h.3 ∙ halts_at_end s r id v at every;
        tally = r.tally ∙ ap (λ (x : HubState). 2 * length r.slots + halt_count x) (sym h.3);
        roomy = r.roomy;
        passes = λ n.
            sym (r.once n)
            ∙ total_only (names_of n) s.views id v at
            (λ j u ne e. ap (named n) (others_blank s r id j v u at every ne e).2);
        behind = subst (λ l. AreStartsOf l v.seat.turns) r.log_is its.behind;
        each = λ n.
            sym (total_only (makes_of n) s.views id v at
            (λ j u ne e. ap (λ l. times n (children l)) (others_blank s r id j v u at every ne e).3))
            ∙ r.made_once n;
        made = its.made;
        same = its.begun some_part;
      }
