-- What a seat knows of the world that the hub kept when it gave its turn back.
use Rattle.std.proofs.Common.{◌≡◌, ⊎_elim, ℕ, ◌<◌, List, [], ◌∷◌, ◌++◌, sym, ap, ◌∙◌, subst, arith, Some}
use mathlib.Core.Logic.{dite}
use native.Mathlib.Decide.{ℕ_discrete}
use Rattle.revision_machine.proofs.Paths.{some_inj}
use Rattle.hub_core.specs.Replay.{state_after}
use Rattle.hub_core.specs.Hub.{Tied, Meets, EndsLeg, Joins}
use Rattle.hub_core.specs.HubMachine.{HubMachine, numbered, values}
use Rattle.hub_core.specs.Counts.{is_at}
use Rattle.hub_core.specs.declared.view.View.{View}
use Rattle.hub_core.specs.Passes.{Pass, named, left, IsPass}
use Rattle.hub_core.specs.Views.{commits, hands_in, draws}
use Rattle.hub_core.specs.Seats.{HasJoin, HasEnd, HasCurrent, HasWorld}
use Rattle.hub_core.proofs.Lists.{is_at_same, is_at_other}
use Rattle.hub_core.proofs.Passes.{count_gone, count_other, left_pass, since_more, since_now}
use Rattle.hub_core.proofs.Hub as hub

module _ {L : Type 0} where
  pub current_in : (k : ℕ) (v : View L) → HasCurrent v → HasCurrent (hands_in k v)
  current_in k v h = (
    (λ j at p. h.0 j at (left_pass k v.passes j at p).0),
    λ j. let m = h.1 j in dite (ℕ_discrete j k)
        (λ e.
        let a : named j (left k v.passes) ≡ 0 =
        ap (λ i. named i (left k v.passes)) e ∙ count_gone (λ (p : Pass). p.0) k v.passes in
        omega arith)
        (λ ne.
        let a = count_other (λ (p : Pass). p.0) k j v.passes ne in
        let b = count_other (λ (x : ℕ). x) k j v.out ne in
        omega arith),
  )

  -- an entry of a revision that the seat has
  pub current_commit : (k : ℕ) (v : View L) → 0 < named k v.passes → HasCurrent v → HasCurrent (commits k v)
  current_commit k v has h = (
    (λ j at p. ⊎_elim
        (λ (q : (k ≡ j) × (v.log ++ k ∷ [] ≡ at)). since_now (v.log ++ k ∷ []) j at q.1)
        (λ (q : IsPass (left k v.passes) j at).
        let r = left_pass k v.passes j at q in since_more v.log j k at (λ e. r.1 (sym e)) (h.0 j at r.0))
        p),
    λ j. let m = h.1 j in dite (ℕ_discrete j k)
        (λ e.
        let a : named j (left k v.passes) ≡ 0 =
        ap (λ i. named i (left k v.passes)) e ∙ count_gone (λ (p : Pass). p.0) k v.passes in
        let i : named j v.passes ≡ named k v.passes = ap (λ i. named i v.passes) e in
        let o : is_at j k ≡ 1 = ap (λ i. is_at i k) e ∙ is_at_same k in
        omega arith)
        (λ ne.
        let a = count_other (λ (p : Pass). p.0) k j v.passes ne in
        let c = is_at_other j k (λ e. ne (sym e)) in
        omega arith),
  )

  pub current_draw : (n : ℕ) (v : View L) → HasCurrent v → HasCurrent (draws n v)
  current_draw n v h = (
    (λ k at p. ⊎_elim (λ (q : (n ≡ k) × (v.log ≡ at)). since_now v.log k at q.1)
        (λ (q : IsPass v.passes k at). h.0 k at q) p),
    λ k. let m = h.1 k in omega arith,
  )

module _ {L R A E : Type 0} (d : HubMachine L R A E) (ends : E → L → Type 0) where
  -- the state of a pass is that of its revision in this world
  state_then : (v : View L) (w : HasWorld d ends v) (k : ℕ) (at : List ℕ) (s l : L) → v.start ≡ Some s
      → IsPass v.passes k at → state_after (numbered d) s at k ≡ Some l
      → state_after (numbered d) w.start v.log k ≡ Some l
  state_then v w k at s l start pass here =
      let f = w.fresh k at pass in
      let one : s ≡ w.start = some_inj (sym start ∙ w.begun) in
      ap (λ z. state_after (numbered d) w.start z k) f.1
      ∙ hub.pass_now (numbered d) (values d ends) w.start at f.0 w.slots w.forkers
      (subst (λ z. Tied (numbered d) (values d ends) w.start z w.slots w.forkers) f.1 w.tied) k l f.2
      (subst (λ z. state_after (numbered d) z at k ≡ Some l) one here)

  ended_then : (v : View L) (w : HasWorld d ends v) (m : ℕ) (e : E) → HasEnd d ends v m e
      → EndsLeg (numbered d) (values d ends) w.start v.log m e
  ended_then v w m e p = record {
    state = p.4.state;
    last = p.4.last;
    stands = state_then v w m p.1 p.0 p.4.state p.2 p.3 p.4.stands;
    goes = p.4.goes;
    is_end = p.4.is_end;
  }

  joins_then : (v : View L) (w : HasWorld d ends v) (k : ℕ) (a : A) → HasJoin d ends v k a
      → Joins (numbered d) (values d ends) w.start v.log k a
  joins_then v w k a q = record {
    state = q.4.state;
    stands = state_then v w k q.1 q.0 q.4.state q.2 q.3 q.4.stands;
    comes = q.4.comes;
  }

  -- by a schedule that goes on with the end of m and the join of k, the two meet, and k has the state after its join
  pub claimed : (v : View L) (w : HasWorld d ends v) (m k : ℕ) (a : A) (e : E) → HasEnd d ends v m e
      → HasJoin d ends v k a → d.on a ≡ m
      → Meets (numbered d) (values d ends) w.start (v.log ++ m ∷ []) k a e
      × (state_after (numbered d) w.start ((v.log ++ m ∷ []) ++ k ∷ []) k ≡ Some (d.joined a e))
  claimed v w m k a e p q on =
      let s = hub.settled (numbered d) (values d ends) w.start v.log w.slots w.forkers w.tied m k a e
      (w.out m p.1 p.3) (w.out k q.1 q.3) (ended_then v w m e p) (joins_then v w k a q) on in
      (s.2, s.1)
