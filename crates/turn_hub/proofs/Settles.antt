-- The end of a joinee and the join of it, at one moment: two entries.
use Rattle.std.proofs.Common.{◌≡◌, ◌≢◌, inl, inr, ℕ, ◌<◌, false, List, [], ◌∷◌, ◌++◌, refl, sym, ap, ◌∙◌, subst, arith, Some}
use Rattle.revision_machine.specs.Numbered.{Wants, Goes, at_number, put_number}
use Rattle.revision_machine.proofs.Paths.{some_inj}
use Rattle.revision_machine.proofs.Lists.{put_here, put_twice}
use Rattle.hub_core.specs.declared.status.Status.{Status}
use Rattle.hub_core.specs.declared.status.Status.TheVariants.{Out, Over, Gone}
use Rattle.hub_core.specs.HubMachine.{HubMachine, numbered, values}
use Rattle.hub_core.specs.declared.view.View.{View}
use Rattle.hub_core.specs.declared.deed.Deed.TheVariants.{Commits, HandsIn}
use Rattle.hub_core.specs.Hub.{EndsLeg, Joins}
use Rattle.hub_core.specs.Replay.{state_after}
use Rattle.hub_core.specs.Passes.{named, left, IsPass}
use Rattle.hub_core.specs.Seats.{HasState, Owes}
use Rattle.hub_core.specs.Views.{commits, hands_in, rests}
use Rattle.hub_core.specs.Tally.{CanDo}
use Rattle.hub_core.proofs.Passes.{pass_named, pass_left, left_pass, pass_behind}
use Rattle.hub_core.proofs.Deeds.{named_commit}
use Rattle.hub_core.proofs.Moments.{Moment, Leaves, one_at, out_at, state_at, pass_commits, pass_hands_in, end_moment, join_moment}
use Rattle.turn_hub.specs.Answers.{Settled}
use Rattle.turn_hub.proofs.Finding.{Found, has_pass, to_pass, ended_says}

-- the two entries
abbrev pub settles : {L : Type 0} → ℕ → ℕ → View L → View L
settles m k w = commits k (hands_in m (commits m w))

module _ {L R A E : Type 0} (d : HubMachine L R A E) (ends : E → L → Type 0) where
  abbrev V : Type 0
  V = View L

  abbrev Slots : Type 0
  Slots = List (Status R A E)

  pub settled_says : {v u : V} {slots : Slots} (f : Found d ends v u slots) (i k : ℕ) (l : L)
      → HasState d ends (settles i k u) k l → Settled d ends v (rests (settles i k u)) i k l
  settled_says {v} {u} {slots} f i k l state =
      let y : V = hands_in i (commits i u) in record {
        between = rests y;
        ended = ended_says d ends f i false;
        turn = record { said = refl; entered = refl; found = refl };
        took = record {
          free = f.entered;
          keeps = (
            (refl, refl, refl),
            λ j at ne p. inr (pass_left k y.passes j at p ne),
            λ j at ne p. (left_pass k y.passes j at (pass_behind (k, y.log ++ k ∷ []) (left k y.passes) j at p ne)).0,
            λ n. refl,
          );
          entry = refl;
          state = state;
        };
      }

  module _ {v u : V} {slots : Slots} (f : Found d ends v u slots) (start : L) (begun : u.start ≡ Some start)
      (fs lone mine : List ℕ) (m : Moment d ends start u slots fs lone mine) (i k : ℕ) (l : L)
      (owes : Owes d ends v i k l) where
    abbrev a : A
    a = owes.joiner

    abbrev e : E
    e = owes.last

    abbrev u1 : V
    u1 = hands_in i (commits i u)

    start_of : (s : L) → v.start ≡ Some s → s ≡ start
    start_of s is = some_inj (sym is ∙ (sym f.start ∙ begun))

    has_i : 0 < named i u.passes
    has_i = has_pass d ends f i owes.ended.1 owes.ended.3

    leg : EndsLeg (numbered d) (values d ends) start u.log i e
    leg =
        let was = subst (λ s. EndsLeg (numbered d) (values d ends) s owes.ended.1 i e)
        (start_of owes.ended.0 owes.ended.2) owes.ended.4 in
        record {
          state = was.state;
          last = was.last;
          stands = state_at d ends start u slots fs lone mine m i owes.ended.1 was.state
              (to_pass d ends f i owes.ended.1 owes.ended.3) was.stands;
          goes = was.goes;
          is_end = was.is_end;
        }

    was_joins : Joins (numbered d) (values d ends) start owes.joins.1 k a
    was_joins = subst (λ s. Joins (numbered d) (values d ends) s owes.joins.1 k a)
        (start_of owes.joins.0 owes.joins.2) owes.joins.4

    joins_at : state_after (numbered d) start u.log k ≡ Some was_joins.state
    joins_at =
        state_at d ends start u slots fs lone mine m k owes.joins.1 was_joins.state
        (to_pass d ends f k owes.joins.1 owes.joins.3) was_joins.stands

    pub settle_apart : k ≢ i
    settle_apart is =
        let same : was_joins.state ≡ leg.state =
        some_inj (sym joins_at ∙ (ap (state_after (numbered d) start u.log) is ∙ leg.stands)) in
        let clash : Wants (d.on a) ≡ Goes leg.last = sym was_joins.comes.0 ∙ (ap d.next same ∙ leg.goes) in
        cc

    still_k : IsPass u1.passes k owes.joins.1
    still_k =
        pass_hands_in i k owes.joins.1 (commits i u) settle_apart
        (pass_commits i k owes.joins.1 u settle_apart (to_pass d ends f k owes.joins.1 owes.joins.3))

    pub settle_has : 0 < named k u1.passes
    settle_has = pass_named u1.passes k owes.joins.1 still_k

    pub settle_can : CanDo (Commits i ∷ HandsIn i ∷ Commits k ∷ []) u
    settle_can =
        let some = has_i in
        let again = named_commit i u (one_at d ends start u slots fs lone mine m i has_i).0 i in
        (has_i, ((omega arith), (settle_has, tt)))

    module _ (lone' mine' : List ℕ) (ls : Leaves i lone lone') (ms : Leaves i mine mine') where
      ended : Moment d ends start u1 (put_number slots i (Over e)) fs lone' mine'
      ended = end_moment d ends start u slots fs lone mine m i e lone' mine' has_i leg ls ms

      joins : Joins (numbered d) (values d ends) start u1.log k a
      joins = record {
        state = was_joins.state;
        stands = state_at d ends start u1 (put_number slots i (Over e)) fs lone' mine' ended k owes.joins.1
            was_joins.state still_k was_joins.stands;
        comes = was_joins.comes;
      }

      there : at_number (put_number slots i (Over e)) (d.on a) ≡ Some (Over e)
      there =
          ap (at_number (put_number slots i (Over e))) owes.on
          ∙ put_here slots i Out (Over e) (out_at d ends start u slots fs lone mine m i has_i)

      pub settle_moment : Moment d ends start (settles i k u) (put_number slots i Gone) fs lone' mine'
          × (state_after (numbered d) start (settles i k u).log k ≡ Some l)
      settle_moment =
          let h =
          join_moment d ends start u1 (put_number slots i (Over e)) fs lone' mine' ended k a e settle_has joins
          there in (
            subst (λ z. Moment d ends start (settles i k u) z fs lone' mine')
                (ap (λ j. put_number (put_number slots i (Over e)) j Gone) owes.on ∙ put_twice slots i (Over e) Gone)
                h.0,
            h.1 ∙ ap Some (sym owes.state),
          )

      pub settle_state : HasState d ends (settles i k u) k l
      settle_state = (start, (settles i k u).log, begun, inl (refl, refl), settle_moment.1)
