-- A joiner that stays with its thread, and the entries that the thread owes for it.
use Rattle.std.proofs.Common.{◌≡◌, ◌≢◌, ◌⊎◌, inl, inr, ℕ, List, [], ◌∷◌, ◌++◌, Bool, true, false, MatchBool, sym, refl, ap, ◌∙◌, subst, Some}
use mathlib.Core.Logic.{dite}
use native.Mathlib.Decide.{ℕ_discrete}
use Rattle.revision_machine.specs.Numbered.{Bears, put_number}
use Rattle.revision_machine.proofs.Paths.{some_inj}
use Rattle.hub_core.specs.Replay.{state_after}
use Rattle.hub_core.specs.HubMachine.{HubMachine, numbered}
use Rattle.hub_core.specs.declared.view.Said.TheVariants as mark
use Rattle.hub_core.specs.declared.view.View.{View}
use Rattle.hub_core.specs.Passes.{IsPass}
use Rattle.hub_core.specs.Seats.{HasPass, HasState, HasJoin, HasEnd, HasTrap, IsSameSeat, KeepsOthers, LacksPass}
use Rattle.hub_core.specs.Views.{sees}
use Rattle.hub_core.proofs.Worlds.{claimed}
use Rattle.turn_hub.specs.Answers.{Forked, ForkedBehind, HaltedBehind, IsHalted, Settled, TookJoinee, Waited}
use Rattle.hub_workers.specs.declared.legs.LegEvent.TheVariants as event
use Rattle.hub_workers.specs.Legs.{IsReached, Comes, EndsHere}
use Rattle.hub_workers.specs.Work.{IsHandOf, HasMetOnce, StaysFor, IsOwing}
use Rattle.hub_workers.specs.Handed.{HasHandedIn, IsAlone, IsPair}
use Rattle.hub_workers.proofs.Events.{ends_leg, forks_leg, traps_join}
use Rattle.hub_workers.proofs.Handed.{awake, only_other, unless_halted}

module _ {L : Type 0} where
  -- where the seat had one revision, it has that and the one that it took
  pub pair_taken : (v w : View L) (n k : ℕ) → KeepsOthers v w n → IsAlone v k → IsPair w n k
  pair_taken v w n k keeps alone free j at p = dite (ℕ_discrete j n)
      (λ e. inl e)
      (λ ne. inr (alone (awake w.halt v.halt keeps.3 free) j at (keeps.2 j at ne p)))

  pub pair_other : (v w : View L) (n k : ℕ) → KeepsOthers v w n → IsPair v n k → IsPair w n k
  pair_other v w n k keeps pair free j at p = dite (ℕ_discrete j n)
      (λ e. inl e)
      (λ ne. pair (awake w.halt v.halt keeps.3 free) j at (keeps.2 j at ne p))

  -- one of the two is handed in
  pub first_in : (v w : View L) (n k : ℕ) → KeepsOthers v w n → LacksPass w n → IsPair v n k → IsAlone w k
  first_in v w n k keeps lacks pair free j at p = dite (ℕ_discrete j n)
      (λ e. absurd (lacks at (subst (λ i. IsPass w.passes i at) e p)))
      (λ ne. of ne (pair (awake w.halt v.halt keeps.3 free) j at (keeps.2 j at ne p)))
    where
      of : (j ≡ n → ⊥) → (j ≡ n) ⊎ (j ≡ k) → j ≡ k
      of ne (inl e) = absurd (ne e)
      of ne (inr e) = e

  second_in : (v w : View L) (n k : ℕ) → KeepsOthers v w k → LacksPass w k → IsPair v n k → IsAlone w n
  second_in v w n k keeps lacks pair free j at p = dite (ℕ_discrete j k)
      (λ e. absurd (lacks at (subst (λ i. IsPass w.passes i at) e p)))
      (λ ne. of ne (pair (awake w.halt v.halt keeps.3 free) j at (keeps.2 j at ne p)))
    where
      of : (j ≡ k → ⊥) → (j ≡ n) ⊎ (j ≡ k) → j ≡ n
      of ne (inl e) = e
      of ne (inr e) = absurd (ne e)

module _ {L R A E : Type 0} (d : HubMachine L R A E) (ends : E → L → Type 0) where
  -- of another revision the seat has the same pass
  pub pass_kept : (P : L → List ℕ → Type 0) (v w : View L) (n k : ℕ) → KeepsOthers v w n → k ≢ n
      → HasPass d ends v k P → HasPass d ends w k P
  pass_kept P v w n k keeps apart q = (q.0, q.1, keeps.0.0 ∙ q.2, keeps.1 k q.1 apart q.3, q.4)

  -- the joinee is with the seat that its joiner stays with
  pub joinee_stays : {v w : View L} (n k : ℕ) {a b : A} {r : R} → HasJoin d ends v k a → d.joiner_group a ≡ v.group
      → b ≡ a → TookJoinee d ends v w a n r
      → IsSameSeat v w × HasState d ends w n (d.runs r) × (d.runner_group r ≡ w.group) × StaysFor d ends w n k b
  joinee_stays {v} {w} n k {a} {b} event group same took =
      let keeps = took.ran.keeps in
      let apart : k ≢ n = λ is. took.lacked event.1 (subst (λ i. IsPass v.passes i event.1) is event.3) in (
        keeps.0,
        took.ran.state,
        took.ran.group,
        record {
          joins = subst (HasJoin d ends w k) (sym same) (pass_kept _ v w n k keeps apart event);
          on = ap d.on same ∙ sym took.joinee;
          apart = apart;
          group = ap d.joiner_group same ∙ (group ∙ sym keeps.0.1);
          world = took.world;
        },
      )

  pub joinee_only : {v w : View L} (n k : ℕ) {a : A} {r : R} → TookJoinee d ends v w a n r → IsAlone v k
      → IsPair w n k
  joinee_only {v} {w} n k took alone = pair_taken v w n k took.ran.keeps alone

  -- the joinee forks
  pub fork_stays : (v w : View L) (n k m : ℕ) (a : A) (c : R) → StaysFor d ends v n k a → Forked d ends v w n c m
      → StaysFor d ends w n k a
  fork_stays v w n k m a c stays forked = record {
    joins = pass_kept _ v w n k forked.keeps stays.apart stays.joins;
    on = stays.on;
    apart = stays.apart;
    group = stays.group ∙ sym forked.keeps.0.1;
    world = forked.world;
  }

  -- the joiner is handed in
  pub left_state : (v w : View L) (n k : ℕ) (l : L) (a : A) → StaysFor d ends v n k a → Waited d ends v w k a
      → HasState d ends v n l → HasState d ends w n l
  left_state v w n k l a stays waited s =
      pass_kept _ v w k n waited.keeps (λ e. stays.apart (sym e)) s

  pub left_alone : (v w : View L) (n k : ℕ) (a : A) → Waited d ends v w k a → IsPair v n k → IsAlone w n
  left_alone v w n k a waited pair = second_in v w n k waited.keeps waited.gone pair

  pub has_joinee : (v : View L) (n k : ℕ) (l : L) (a : A) → StaysFor d ends v n k a → HasState d ends v n l
      → (found : List ℕ) × IsPass v.passes (d.on a) found
  has_joinee v n k l a stays s = (s.1, subst (λ i. IsPass v.passes i s.1) (sym stays.on) s.3)

  -- the joiner takes the end in
  pub met_once : (v : View L) (n k : ℕ) (a : A) (e : E) → StaysFor d ends v n k a → HasEnd d ends v n e
      → HasMetOnce d ends v k a e
  met_once v n k a e stays p = (
    v.log ++ n ∷ [],
    (
      stays.world.start,
      stays.world.begun,
      (claimed d ends v stays.world n k a e p stays.joins stays.on).0,
    ),
  )

  pub owing : (v : View L) (n k : ℕ) (a : A) (e : E) (l : L) → StaysFor d ends v n k a → HasEnd d ends v n e
      → l ≡ d.joined a e → IsOwing d ends v n k l
  owing v n k a e l stays p is = record {
    owes = record {
      joiner = a;
      last = e;
      ended = p;
      joins = stays.joins;
      on = stays.on;
      state = is;
    };
    reached = (
      stays.world.start,
      (v.log ++ n ∷ []) ++ k ∷ [],
      stays.world.begun,
      subst (λ z.
          state_after (numbered d) stays.world.start ((v.log ++ n ∷ []) ++ k ∷ []) k ≡ Some z) (sym is)
          (claimed d ends v stays.world n k a e p stays.joins stays.on).1,
    );
  }

  pub reached_owing : {H : Type 0}
      → (begins : H → L → Type 0) (group : H → List ℕ) (v : View L) (m k : ℕ) (l : L) (h : H)
      → IsOwing d ends v m k l → IsHandOf begins group v h → IsReached d (begins h) l
  reached_owing begins group v m k l h o of = record {
    start = o.reached.0;
    begins = subst (begins h) (some_inj (sym of.1.1 ∙ o.reached.2)) of.1.2;
    schedule = o.reached.1;
    number = k;
    stands = o.reached.3;
  }

  -- both are entered
  pub settled_state : (v w : View L) (m k : ℕ) (l : L) → Settled d ends v w m k l → HasState d ends w k l
  settled_state v w m k l s = s.took.state

  pub settled_same : (v w : View L) (m k : ℕ) (l : L) → Settled d ends v w m k l → IsSameSeat v w
  settled_same v w m k l s =
      let a = s.ended.keeps.0 in let b = s.took.keeps.0 in (b.0 ∙ a.0, b.1 ∙ a.1, b.2 ∙ a.2)

  pub settled_or_not : (v w : View L) (m k : ℕ) (l : L) (b : Bool) → (b ≡ true → Settled d ends v w m k l)
      → (b ≡ false → IsHalted v w) → IsSameSeat v w
  settled_or_not v w m k l true done halted = settled_same v w m k l (done refl)
  settled_or_not v w m k l false done halted = (halted refl).keeps.0

  pub settled_alone : (v w : View L) (m k : ℕ) (l : L) → Settled d ends v w m k l → IsPair v m k → IsAlone w k
  settled_alone v w m k l s pair =
      only_other s.between (sees w.said s.between.log w) k s.took.keeps
      (first_in v s.between m k s.ended.keeps s.ended.gone pair)

  module _ (by_join : E → Bool) where
    pub ends_here : (v : View L) (k : ℕ) (l : L) (e : E) → HasState d ends v k l → EndsHere d ends by_join e l
        → MatchBool (by_join e) (HasTrap d ends v k e) (HasEnd d ends v k e)
    ends_here v k l e s (inl by) = traps_join d ends by_join v k l e s by
    ends_here v k l e s (inr by) = ends_leg d ends by_join {F = ℕ} (λ f n. l) (λ f. l) v k l e s by

  -- a leg by itself ends the joinee
  pub leg_ends : (by_join : E → Bool) {F : Type 0} (forker : F → ℕ → L) (child : F → L) (v : View L) (k : ℕ) (l : L)
      (e : E)
      → HasState d ends v k l → Comes d ends by_join forker child l (event.End e) → HasEnd d ends v k e
  leg_ends by_join forker child v k l e s comes = (
    s.0,
    s.1,
    s.2,
    s.3,
    record {
      state = l;
      last = comes.0;
      stands = s.4;
      goes = comes.1;
      is_end = comes.2.0;
    },
  )

  -- the fork of a joiner behind both
  pub behind_state : (v w : View L) (m k n : ℕ) (l : L) (c : R) (forker : ℕ → L) → ForkedBehind d ends v w m k l c n
      → d.next l ≡ Bears forker (d.runs c) → HasState d ends w k (forker n)
  behind_state v w m k n l c forker f bears =
      f.forked.forker (forks_leg d ends f.between k l c forker (settled_state v f.between m k l f.settled) bears)

  pub behind_same : (v w : View L) (m k n : ℕ) (l : L) (c : R) → ForkedBehind d ends v w m k l c n → IsSameSeat v w
  behind_same v w m k n l c f =
      let a = settled_same v f.between m k l f.settled in
      let b = f.forked.keeps.0 in (b.0 ∙ a.0, b.1 ∙ a.1, b.2 ∙ a.2)

  pub behind_alone : (v w : View L) (m k n : ℕ) (l : L) (c : R) → ForkedBehind d ends v w m k l c n → IsPair v m k
      → IsAlone w k
  behind_alone v w m k n l c f pair =
      only_other f.between (sees (put_number w.said m mark.Joined) f.between.log w) k f.forked.keeps
      (settled_alone v f.between m k l f.settled pair)

  pub halted_same : (v w : View L) (m k : ℕ) (l : L) → HaltedBehind d ends v w m k l → IsSameSeat v w
  halted_same v w m k l (inl h) = h.keeps.0
  halted_same v w m k l (inr h) =
      let a = settled_same v h.0 m k l h.1 in
      let b = h.3.keeps.0 in (b.0 ∙ a.0, b.1 ∙ a.1, b.2 ∙ a.2)

  pub halted_in : (v w : View L) (m k : ℕ) (l : L) → HaltedBehind d ends v w m k l → HasHandedIn w
  halted_in v w m k l (inl h) = unless_halted v w h
  halted_in v w m k l (inr h) = unless_halted h.0 (sees w.said h.0.log w) h.3
