-- What the seat with the turn does in a call, at one moment, by what it knows of its value.
use Rattle.std.proofs.Common.{◌≡◌, ◌⊎◌, inl, inr, ℕ, ◌<◌, false, List, [], ◌∷◌, length, refl, sym, ap, ◌∙◌, subst, arith, Option, Some, None}
use Rattle.revision_machine.specs.Numbered.{at_number}
use Rattle.revision_machine.proofs.Numbers.{none_some}
use Rattle.revision_machine.proofs.Lists.{below_at}
use Rattle.hub_core.specs.declared.status.Status.{Status}
use Rattle.hub_core.specs.declared.status.Status.TheVariants.{Gone}
use Rattle.hub_core.specs.declared.state.HubState.{HubState}
use Rattle.hub_core.specs.declared.state.HubState.TheVariants.{All, Twice}
use Rattle.hub_core.specs.Replay.{state_after}
use Rattle.hub_core.specs.Hub.{Tied}
use Rattle.hub_core.specs.HubMachine.{HubMachine, numbered, values}
use Rattle.hub_core.specs.Counts.{times}
use Rattle.hub_core.specs.Passes.{Pass, named, IsPass, Fresh}
use Rattle.hub_core.specs.Seats.{HasJoin}
use Rattle.hub_core.specs.Rule.{SoundFrom, says}
use Rattle.hub_core.specs.declared.desk.Desk.{Desk}
use Rattle.hub_core.specs.declared.deed.Deed.TheVariants.{Commits}
use Rattle.hub_core.specs.declared.sight.Sight.{Sight}
use Rattle.hub_core.specs.Tally.{records_of, queue_of, record_at, IsLone, Shadows, IsQueued, AreTracked, found_in, Now, MayShut, HasDesk}
use Rattle.hub_core.proofs.Hub as hub
use Rattle.hub_core.proofs.Carried as still
use Rattle.hub_core.proofs.Passes.{pass_named}
use Rattle.hub_core.proofs.Deeds.{named_commit}
use Rattle.hub_core.proofs.Moves.{here_out, shadows_moves}

module _ {L R A E : Type 0} (d : HubMachine L R A E) (ends : E → L → Type 0) where
  abbrev V : Type 0
  V = Sight L

  abbrev Slots : Type 0
  Slots = List (Status R A E)

  abbrev Ties : L → List ℕ → Slots → List ℕ → Type 0
  Ties start log slots fs = Tied (numbered d) (values d ends) start log slots fs

  -- the state of a pass is that of its revision now
  pub state_on : (start : L) (log : List ℕ) (slots : Slots) (fs : List ℕ) → Ties start log slots fs → (ps : List Pass)
      → Fresh log ps → (j : ℕ) (at : List ℕ) (l : L) → IsPass ps j at → state_after (numbered d) start at j ≡ Some l
      → state_after (numbered d) start log j ≡ Some l
  state_on start log slots fs t ps fresh j at l pass here =
      let g = fresh j at pass in
      ap (λ z. state_after (numbered d) start z j) g.1
      ∙ hub.pass_now (numbered d) (values d ends) start at g.0 slots fs (subst (λ z. Ties start z slots fs) g.1 t) j l
      g.2 here

  -- what is in hand stays so while others make rounds
  pub carried : (v : V) (desk : Desk R A E) (hand : HasDesk d ends v desk) → (start : L)
      → (log out lone : List ℕ) (slots : Slots) (fs : List ℕ)
      → Now d ends v start hand.slots log out lone slots fs
      → Shadows (records_of desk) slots lone × IsQueued d (records_of desk) slots (queue_of desk)
      × (desk.strays ≡ false → AreTracked d (records_of desk) slots)
  carried v desk hand start log out lone slots fs now =
      still.carried d desk hand.slots v.lone slots lone hand.shadows hand.queued hand.tracked hand.strayed hand.lent_is
      now.moves now.still

  pub tied_in : (v : V) (desk : Desk R A E) (hand : HasDesk d ends v desk) (start : L) → desk.state ≡ All
      → v.seat.start ≡ Some start → Ties start v.seat.log hand.slots v.forkers
  tied_in v desk hand start free begun =
      subst (λ (z : Option L × HubState). SoundFrom d ends z.0 z.1 v.seat.log hand.slots v.forkers)
      (λ i. (begun i, free i)) hand.sound

  -- where no seat keeps a child, a number without a record was joined
  pub gone_if_none : (v : V) (desk : Desk R A E) (hand : HasDesk d ends v desk) → (i : ℕ) → desk.lent ≡ 0
      → record_at (records_of desk) i ≡ None
      → (start : L) (log out lone : List ℕ) (slots : Slots) (fs : List ℕ)
      → Now d ends v start hand.slots log out lone slots fs → i < length slots → at_number slots i ≡ Some Gone
  gone_if_none v desk hand i none unrecorded start log out lone slots fs now within =
      by ((shadows_moves (records_of desk) hand.slots v.lone slots lone hand.shadows now.moves).others i unrecorded)
    where
      empty : (l : List ℕ) → length l ≡ 0 → times i l ≡ 0
      empty [] e = refl
      empty (x ∷ l) e = absurd (omega arith)

      no_time : times i lone ≡ 0
      no_time = empty lone (now.moves.as_many ∙ (sym hand.lent_is ∙ none))

      by : IsLone slots lone i ⊎ ((at_number slots i ≡ None) × (times i lone ≡ 0)) → at_number slots i ≡ Some Gone
      by (inl (inl h)) = let a = h.1 in let b = no_time in absurd (omega arith)
      by (inl (inr h)) = h.0
      by (inr h) = let a = below_at slots i within in none_some (sym h.0 ∙ a.1)

  -- ---- a join of what was joined: the last entry, also of a number without a record where no seat keeps a child

  module _ (v : V) (desk : Desk R A E) (hand : HasDesk d ends v desk) (free : desk.state ≡ All)
      (k : ℕ) (a : A) (p : HasJoin d ends v.seat k a) where
    -- what is found there at any time
    abbrev IsGone : Type 0
    IsGone =
        (log out lone : List ℕ) (slots : Slots) (fs : List ℕ) → Now d ends v p.0 hand.slots log out lone slots fs
        → at_number slots (d.on a) ≡ Some Gone

    abbrev pub may_stop : IsGone → MayShut d ends Twice v (Commits k ∷ []) v.mine (λ l. l) (λ slots. slots)
    may_stop gone = record {
      has = hand.has;
      part = hand.part;
      free = hand.halt ∙ free;
      halts = λ q. cc;
      start = p.0;
      begun = p.2;
      slots = hand.slots;
      tied = tied_in v desk hand p.0 free p.2;
      outs = hand.outs;
      legal = λ log out lone slots fs now.
          let h = now.has k in
          let s = now.single k in
          let has = pass_named v.seat.passes k p.1 p.3 in
          let one : named k v.seat.passes ≡ 1 = omega arith in
          let pos : 0 < times k out = omega arith in
          let out_k = here_out slots out k now.outs pos in
          record {
            can = (has, tt);
            sound = record {
              before = log;
              last = k;
              is = refl;
              tied = now.tied;
              twice = hub.twice (numbered d) (values d ends) p.0 log slots fs now.tied k a out_k
                  record {
                    state = p.4.state;
                    stands = state_on p.0 log slots fs now.tied v.seat.passes now.fresh k p.1 p.4.state p.3 p.4.stands;
                    comes = p.4.comes;
                  }
                  (gone log out lone slots fs now);
            };
            outs = now.outs;
            lones = λ j. refl;
            few = now.few;
            kept = λ j.
                let m = now.kept j in
                let b = named_commit k (found_in log out (says d ends slots) v.seat) one j in
                omega arith;
          };
    }
