-- A round tells what a turn tells: the end of the joinee, the join of it, the fork, and the child that the seat takes.
use Rattle.std.proofs.Common.{◌≡◌, inl, ℕ, ◌<◌, ◌≤◌, List, [], ◌∷◌, ◌++◌, length, refl, sym, ap, ◌∙◌, subst, arith, Option, Some, None}
use Rattle.revision_machine.specs.Numbered.{Bears, at_number, put_number}
use Rattle.revision_machine.proofs.Paths.{some_inj}
use Rattle.revision_machine.proofs.Lists.{put_length}
use Rattle.hub_core.specs.declared.status.Status.{Status}
use Rattle.hub_core.specs.declared.status.Status.TheVariants.{Ready, Out, Waiting, Over, Gone}
use Rattle.hub_core.specs.HubMachine.{HubMachine, numbered, values}
use Rattle.hub_core.specs.declared.sight.Sight.{Sight}
use Rattle.hub_core.specs.declared.view.View.{View}
use Rattle.hub_core.specs.declared.view.Said.{Said}
use Rattle.hub_core.specs.declared.view.Said.TheVariants as mark
use Rattle.hub_core.specs.Counts.{times}
use Rattle.hub_core.specs.Seats.{HasFork, HasState, Owes}
use Rattle.hub_core.specs.Views.{commits, draws, rests, sees}
use Rattle.hub_core.specs.Rule.{is_out, says}
use Rattle.hub_core.specs.Tally.{found_in, CanRound, MadeRound}
use Rattle.hub_core.proofs.Moments.{Moment, Leaves, leaves_none}
use Rattle.turn_hub.specs.Answers.{Forked, ForkedBehind}
use Rattle.turn_hub.specs.Keeping.{ForkedOn, KeptBehind}
use Rattle.turn_hub.proofs.Says.{says_put}
use Rattle.hub_core.specs.Hub.{Joins}
use Rattle.hub_core.specs.Passes.{without}
use Rattle.hub_core.specs.declared.closing.Round.{Round as Looped}
use Rattle.hub_core.specs.Woven.{triples}
use Rattle.turn_hub.proofs.Lending.{without_one}
use Rattle.turn_hub.proofs.Finding.{Found}
use Rattle.turn_hub.proofs.Settles.{settles, settled_says, settle_moment}
use Rattle.turn_hub.proofs.Forks.{forked_says, forked_on_says}

module _ {L R A E : Type 0} (d : HubMachine L R A E) (ends : E → L → Type 0) where
  abbrev V : Type 0
  V = View L

  abbrev Slots : Type 0
  Slots = List (Status R A E)

  out_most : (o : Option (Status R A E)) → is_out o ≤ 1
  out_most None = omega arith
  out_most (Some (Ready r)) = omega arith
  out_most (Some Out) = omega arith
  out_most (Some (Waiting a)) = omega arith
  out_most (Some (Over e)) = omega arith
  out_most (Some Gone) = omega arith

  -- behind the two entries the seat has the event of a fork
  pub owes_fork : (y : V) (k : ℕ) (l l' : L) (forker : ℕ → L) (c : R) → HasState d ends y k l → l ≡ l'
      → d.next l' ≡ Bears forker (d.runs c) → HasFork d ends y k c
  owes_fork y k l l' forker c s same bears = (
    s.0,
    s.1,
    s.2,
    s.3,
    record { state = l; forker = forker; stands = s.4; bears = ap d.next same ∙ bears },
  )

  -- what is told behind the two entries is told of the schedule behind them
  pub kept_says : {v u : V} {slots : Slots} (f : Found d ends v u slots) (start : L) (begun : u.start ≡ Some start)
      (fs lone mine lone' mine' : List ℕ) (m : Moment d ends start u slots fs lone mine) (i k : ℕ) (l l' : L)
      (owes : Owes d ends v i k l) (owes' : Owes d ends v i k l') (forker : ℕ → L) (c : R)
      → d.next l' ≡ Bears forker (d.runs c) → d.runner_group c ≡ u.group → Leaves i lone lone' → Leaves i mine mine'
      → KeptBehind d ends v (rests (draws (length slots) (commits k (settles i k u)))) i k l c (length slots) c
  kept_says {v} {u} {slots} f start begun fs lone mine lone' mine' m i k l l' owes owes' forker c bears group ls ms =
      let u2 : V = settles i k u in
      let list : Slots = put_number slots i Gone in
      let h = settle_moment d ends f start begun fs lone mine m i k l owes lone' mine' ls ms in
      let h' = settle_moment d ends f start begun fs lone mine m i k l' owes' lone' mine' ls ms in
      let same : l ≡ l' = some_inj (sym h.1 ∙ h'.1) in
      let state : HasState d ends u2 k l = (start, u2.log, begun, inl (refl, refl), h.1) in
      let y : V = sees (says d ends list) u2.log u2 in
      let g : Found d ends (rests u2) y list =
      record {
        parts = refl;
        start = refl;
        group = refl;
        passes = refl;
        said = refl;
        entered = f.entered;
        found = refl;
        halt = λ q. refl;
      } in
      let my : Moment d ends start y list fs lone' mine' =
      record {
        tied = h.0.tied;
        outs = h.0.outs;
        current = h.0.current;
        single = h.0.single;
        few = h.0.few;
        kept = h.0.kept;
      } in
      let event : HasFork d ends (rests u2) k c = owes_fork (rests u2) k l l' forker c state same bears in
      let on : ForkedOn d ends (rests u2) (rests (draws (length list) (commits k y))) k c (length list) c =
      forked_on_says d ends g start begun fs lone' mine' my k c event group in
      let long : length list ≡ length slots = put_length slots i Gone in
      let said : says d ends list ≡ put_number u.said i mark.Joined =
      says_put d ends slots i Gone ∙ ap (λ z. put_number z i mark.Joined) (sym f.said) in
      record {
        between = rests u2;
        settled = settled_says d ends f i k l state;
        turn = record { said = refl; entered = refl; found = refl };
        forked = subst (λ (z : ℕ × List Said).
            ForkedOn d ends (rests u2) (sees z.1 u2.log (rests (draws z.0 (commits k u2)))) k c z.0 c)
            (λ j. (long j, said j)) on;
      }

  -- the same where the child goes to the hub
  pub behind_says : {v u : V} {slots : Slots} (f : Found d ends v u slots) (start : L) (begun : u.start ≡ Some start)
      (fs lone mine lone' mine' : List ℕ) (m : Moment d ends start u slots fs lone mine) (i k : ℕ) (l l' : L)
      (owes : Owes d ends v i k l) (owes' : Owes d ends v i k l') (forker : ℕ → L) (c : R)
      → d.next l' ≡ Bears forker (d.runs c) → Leaves i lone lone' → Leaves i mine mine'
      → ForkedBehind d ends v (rests (commits k (settles i k u))) i k l c (length slots)
  behind_says {v} {u} {slots} f start begun fs lone mine lone' mine' m i k l l' owes owes' forker c bears ls ms =
      let u2 : V = settles i k u in
      let list : Slots = put_number slots i Gone in
      let h = settle_moment d ends f start begun fs lone mine m i k l owes lone' mine' ls ms in
      let h' = settle_moment d ends f start begun fs lone mine m i k l' owes' lone' mine' ls ms in
      let same : l ≡ l' = some_inj (sym h.1 ∙ h'.1) in
      let state : HasState d ends u2 k l = (start, u2.log, begun, inl (refl, refl), h.1) in
      let y : V = sees (says d ends list) u2.log u2 in
      let g : Found d ends (rests u2) y list =
      record {
        parts = refl;
        start = refl;
        group = refl;
        passes = refl;
        said = refl;
        entered = f.entered;
        found = refl;
        halt = λ q. refl;
      } in
      let my : Moment d ends start y list fs lone' mine' =
      record {
        tied = h.0.tied;
        outs = h.0.outs;
        current = h.0.current;
        single = h.0.single;
        few = h.0.few;
        kept = h.0.kept;
      } in
      let event : HasFork d ends (rests u2) k c = owes_fork (rests u2) k l l' forker c state same bears in
      let on : Forked d ends (rests u2) (rests (commits k y)) k c (length list) =
      forked_says d ends g start begun fs lone' mine' my k c event in
      let long : length list ≡ length slots = put_length slots i Gone in
      let said : says d ends list ≡ put_number u.said i mark.Joined =
      says_put d ends slots i Gone ∙ ap (λ z. put_number z i mark.Joined) (sym f.said) in
      record {
        between = rests u2;
        settled = settled_says d ends f i k l state;
        turn = record { said = refl; entered = refl; found = refl };
        forked = subst (λ (z : ℕ × List Said).
            Forked d ends (rests u2) (sees z.1 u2.log (rests (commits k u2))) k c z.0)
            (λ j. (long j, said j)) on;
      }

  -- of a round that takes no turn
  pub kept_by_round : (v w : Sight L) (i k n : ℕ) → MadeRound d ends v w i k n
      → (l l' : L) → Owes d ends v.seat i k l → Owes d ends v.seat i k l' → (forker : ℕ → L) (c : R)
      → d.next l' ≡ Bears forker (d.runs c) → d.runner_group c ≡ v.seat.group
      → KeptBehind d ends v.seat w.seat i k l c n c
  kept_by_round v w i k n made l l' owes owes' forker c bears group =
      let u : V = found_in made.log made.out (says d ends made.slots) v.seat in
      let f : Found d ends v.seat u made.slots =
      record {
        parts = refl;
        start = refl;
        group = refl;
        passes = refl;
        said = refl;
        entered = refl;
        found = refl;
        halt = λ q. refl;
      } in
      let m : Moment d ends made.start u made.slots made.forkers [] [] =
      record {
        tied = made.tied;
        outs = made.outs;
        current = (made.fresh, made.has);
        single = λ j. let a = made.outs j in let b = out_most (at_number made.slots j) in omega arith;
        few = λ j. omega arith;
        kept = λ j. omega arith;
      } in
      let told =
      kept_says f made.start made.begun made.forkers [] [] [] [] m i k l l' owes owes' forker c bears group
      (leaves_none i [] refl) (leaves_none i [] refl) in
      subst (λ (z : V × ℕ). KeptBehind d ends v.seat z.0 i k l c z.1 c)
      (λ j. (
        sym (ap (λ x. x.seat) made.is ∙ ap (λ x. rests (draws x (commits k (settles i k u)))) made.next) j,
        sym
            made.next j,
      ))
      told

  -- what a round asks
  pub can_round : (v : Sight L) (i k : ℕ) (l : L) (f : ℕ → L) (c : R) (owes : Owes d ends v.seat i k l)
      → d.next l ≡ Bears f (d.runs c) → v.seat.has ≡ 0 → 0 < v.seat.parts → 0 < times i v.mine
      → CanRound d ends v i k owes.joiner owes.last c f
  can_round v i k l f c owes bears idle part kept = record {
    idle = idle;
    part = part;
    start = owes.ended.0;
    begun = owes.ended.2;
    end_at = owes.ended.1;
    end_pass = owes.ended.3;
    ended = owes.ended.4;
    join_at = owes.joins.1;
    join_pass = owes.joins.3;
    joins = subst (λ s. Joins (numbered d) (values d ends) s owes.joins.1 k owes.joiner)
        (some_inj (sym owes.joins.2 ∙ owes.ended.2)) owes.joins.4;
    on = owes.on;
    bears = ap d.next (sym owes.state) ∙ bears;
    kept = kept;
  }

triples_more : (rs : List Looped) (r : Looped) → triples (rs ++ r ∷ []) ≡ triples rs ++ (
  r.child,
  r.joinee,
  r.forker,
) ∷ []
triples_more [] r = refl
triples_more (x ∷ rs) r = ap (λ l. (x.child, x.joinee, x.forker) ∷ l) (triples_more rs r)

module _ {L R A E : Type 0} (d : HubMachine L R A E) (ends : E → L → Type 0) where
  -- what the seat has behind a round
  pub round_mine : (v w : Sight L) (i k n : ℕ) → MadeRound d ends v w i k n → v.mine ≡ i ∷ [] → w.mine ≡ n ∷ []
  round_mine v w i k n made mine =
      ap (λ x. x.mine) made.is
      ∙ (ap (λ l. n ∷ without i l) mine ∙ ap (λ l. n ∷ l) (without_one i))

  pub round_made : (v w : Sight L) (i k n : ℕ) → MadeRound d ends v w i k n → (rs rs' : List Looped) (r : Looped)
      → triples rs ≡ v.rounds → rs' ≡ rs ++ r ∷ [] → r.child ≡ n → r.joinee ≡ i → r.forker ≡ k → triples rs' ≡ w.rounds
  round_made v w i k n made rs rs' r was more child joinee forker =
      ap triples more
      ∙ (triples_more rs r
      ∙ (ap (λ (z : List (ℕ × ℕ × ℕ) × ℕ × ℕ × ℕ). z.0 ++ (z.1, z.2, z.3) ∷ [])
      (λ j. (was j, child j, joinee j, forker j)) ∙ sym (ap (λ x. x.rounds) made.is)))

  pub round_rests : (v w : Sight L) (i k n : ℕ) → MadeRound d ends v w i k n
      → (w.seat.has ≡ 0) × (w.seat.parts ≡ v.seat.parts) × (w.limit ≡ v.limit) × (w.seat.turns ≡ w.seat.log ∷
      v.seat.turns)
  round_rests v w i k n made =
      subst
      (λ (x : Sight L).
      (x.seat.has ≡ 0) × (x.seat.parts ≡ v.seat.parts) × (x.limit ≡ v.limit)
      × (x.seat.turns ≡ x.seat.log ∷ v.seat.turns))
      (sym made.is) (refl, refl, refl, refl)
