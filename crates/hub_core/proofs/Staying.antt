-- Behind its entries the seat with the turn has the value in hand again.
use Rattle.std.proofs.Common.{◌≡◌, ◌≢◌, ◌⊎◌, inl, inr, ℕ, zero, suc, true, false, List, [], ◌∷◌, ◌++◌, length, refl, sym, ap, ◌∙◌, subst, arith, Option, Some, None}
use mathlib.Core.Logic.{dite}
use native.Mathlib.Decide.{ℕ_discrete}
use Rattle.revision_machine.specs.Numbered.{at_number, put_number}
use Rattle.revision_machine.proofs.Numbers.{none_some}
use Rattle.revision_machine.proofs.Lists.{put_other, put_here}
use Rattle.hub_core.specs.declared.status.Status.{Status}
use Rattle.hub_core.specs.declared.state.HubState.{HubState}
use Rattle.hub_core.specs.declared.state.HubState.TheVariants.{All, Twice, NoMemory}
use Rattle.hub_core.specs.HubMachine.{HubMachine}
use Rattle.hub_core.specs.declared.view.View.{View}
use Rattle.hub_core.specs.Views.{stops}
use Rattle.hub_core.specs.Counts.{times}
use Rattle.hub_core.specs.Passes.{named}
use Rattle.hub_core.specs.Found.{all_over}
use Rattle.hub_core.specs.Rule.{done, IsOfGroup, Sound, SoundFrom, says}
use Rattle.hub_core.specs.Rounds.{stamped, add_last}
use Rattle.hub_core.specs.declared.desk.Desk.{Desk}
use Rattle.hub_core.specs.declared.deed.Deed.{Deed}
use Rattle.hub_core.specs.declared.sight.Sight.{Sight}
use Rattle.hub_core.specs.Recorded.{put_record}
use Rattle.hub_core.specs.Tally.{pairs, records_of, queue_of, record_at, IsLone, Shadows, IsQueued, AreTracked, found_in, entered, do_all, AreLegal, Entered, IsLast, Shut, HasDesk}
use Rattle.hub_core.proofs.Moves.{over_none, none_over}
use Rattle.hub_core.proofs.Deeds.{AreDone, all_done}

module _ {R A E : Type 0} where
  pub put_record_here : (rs : List (Option (Status R A E))) (n : ℕ) (y x : Status R A E) → record_at rs n ≡ Some y
      → record_at (put_record rs n x) n ≡ Some x
  put_record_here [] n y x e = none_some e
  put_record_here (z ∷ rs) zero y x e = refl
  put_record_here (z ∷ rs) (suc n) y x e = put_record_here rs n y x e

  pub put_record_other : (rs : List (Option (Status R A E))) (n j : ℕ) (x : Status R A E) → j ≢ n
      → record_at (put_record rs n x) j ≡ record_at rs j
  put_record_other [] n j x ne = refl
  put_record_other (z ∷ rs) zero zero x ne = absurd (ne refl)
  put_record_other (z ∷ rs) zero (suc j) x ne = refl
  put_record_other (z ∷ rs) (suc n) zero x ne = refl
  put_record_other (z ∷ rs) (suc n) (suc j) x ne = put_record_other rs n j x (λ q. ne (ap suc q))

  pub shadows_put : (rs : List (Option (Status R A E))) (slots : List (Status R A E)) (lone : List ℕ) (n : ℕ)
      (y x : Status R A E)
      → Shadows rs slots lone → record_at rs n ≡ Some y → Shadows (put_record rs n x) (put_number slots n x) lone
  shadows_put rs slots lone n y x sh e = record {
    recorded = λ j z h. dite (ℕ_discrete j n)
        (λ is.
        let got : Some x ≡ Some z =
        sym (put_record_here rs n y x e) ∙ (ap (record_at (put_record rs n x)) (sym is) ∙ h) in
        let was = sh.recorded n y e in (
          ap (at_number (put_number slots n x)) is ∙ (put_here slots n y x was.0 ∙ got),
          ap (λ i. times i lone) is ∙ was.1,
        ))
        (λ ne.
        let was = sh.recorded j z (sym (put_record_other rs n j x ne) ∙ h) in
        (put_other slots n j x ne ∙ was.0, was.1));
    others = λ j h. dite (ℕ_discrete j n)
        (λ is. none_some (sym h ∙ (ap (record_at (put_record rs n x)) is ∙ put_record_here rs n y x e)))
        (λ ne. other j ne (sh.others j (sym (put_record_other rs n j x ne) ∙ h)));
  }
    where
      other : (j : ℕ) → j ≢ n → IsLone slots lone j ⊎ ((at_number slots j ≡ None) × (times j lone ≡ 0))
          → IsLone (put_number slots n x) lone j
          ⊎ ((at_number (put_number slots n x) j ≡ None) × (times j lone ≡ 0))
      other j ne (inl (inl h)) = inl (inl (put_other slots n j x ne ∙ h.0, h.1))
      other j ne (inl (inr h)) = inl (inr (put_other slots n j x ne ∙ h.0, h.1))
      other j ne (inr h) = inr (put_other slots n j x ne ∙ h.0, h.1)

module _ {L R A E : Type 0} (d : HubMachine L R A E) (ends : E → L → Type 0) where
  -- the value after the entries: its records are part of the statuses then
  pub record IsAfter (h : HubState) (group : List ℕ) (desk desk' : Desk R A E) (n : ℕ) (ds : List Deed)
      (slots : List (Status R A E)) (lone : List ℕ) : Type 0 where
    pub entries : pairs desk'.journal.entries.items ≡ pairs desk.journal.entries.items ++ stamped n (entered ds)
    pub state : desk'.state ≡ h
    pub limit_is : desk'.journal.limit ≡ desk.journal.limit
    pub lent_is : desk'.lent ≡ length lone
    pub shadows : Shadows (records_of desk') slots lone
    pub queued : IsQueued d (records_of desk') slots (queue_of desk')
    pub tracked : desk'.strays ≡ false → AreTracked d (records_of desk') slots
    pub strayed : desk'.strays ≡ true → desk'.lent ≡ 0
    pub grouped :
        (j : ℕ) (x : Status R A E) → record_at (records_of desk') j ≡ Some x
        → IsOfGroup d ends group x

  pub entered_both : (v w : Sight L) (desk desk' : Desk R A E) (hand : HasDesk d ends v desk) → desk.state ≡ All
      → (start : L) → v.seat.start ≡ Some start
      → (ds : List Deed) (birth : Option ℕ) (mine : List ℕ) (lone_to : List ℕ → List ℕ)
      (to : List (Status R A E) → List (Status R A E)) (count : ℕ)
      → (ent : Entered d ends v w start hand.slots ds birth mine lone_to count)
      → AreLegal d ends v start ds birth mine ent.log ent.out ent.lone (lone_to ent.lone) ent.slots (to ent.slots)
      ent.forkers
      → IsAfter All v.seat.group desk desk' (length ent.slots) ds (to ent.slots) (lone_to ent.lone)
      → (h : HasDesk d ends w desk') × (h.slots ≡ to ent.slots)
  entered_both v w desk desk' hand free start begun ds birth mine lone_to to count ent legal after =
      subst (λ x. (h : HasDesk d ends x desk') × (h.slots ≡ to ent.slots)) (sym ent.is) (
        record {
          has = done_deeds.same.0 ∙ hand.has;
          part = (let q = done_deeds.same.1 in let p = hand.part in omega arith);
          slots = to ent.slots;
          sound = subst
              (λ (z : Option L × HubState × List ℕ). SoundFrom d ends z.0 z.1 z.2 (to ent.slots)
              (add_last birth ent.forkers))
              (λ i. (sym (done_deeds.same.2 ∙ begun) i, sym after.state i, sym done_deeds.log i)) legal.tied;
          outs = legal.outs;
          current = done_deeds.current;
          alone = λ j pos.
              let q = legal.lones j in
              let c = done_deeds.counts j in
              let o = done_deeds.single j in
              let f = ent.now.few j in
              dite (ℕ_discrete (named j v.seat.passes) 0) (λ z. omega arith)
              (λ n. let a = ent.now.alone j (omega arith) in omega arith);
          kept = legal.kept;
          entries = after.entries ∙ ap (λ l. l ++ stamped (length ent.slots) (entered ds)) hand.entries;
          limit_is = after.limit_is ∙ hand.limit_is;
          lent_is = after.lent_is;
          shadows = after.shadows;
          queued = after.queued;
          tracked = after.tracked;
          strayed = after.strayed;
          grouped = λ j x e. subst (λ g. IsOfGroup d ends g x) (sym done_deeds.same.3) (after.grouped j x e);
          saw = λ o. ap (λ h. done h (to ent.slots)) after.state ∙ legal.over (still (sym done_deeds.same.4 ∙ o));
          halt = done_deeds.same.5 ∙ (hand.halt ∙ (free ∙ sym after.state));
        },
        refl,
      )
    where
      done_deeds : AreDone (found_in ent.log ent.out (says d ends ent.slots) v.seat)
          (do_all ds (found_in ent.log ent.out (says d ends ent.slots) v.seat)) (entered ds)
      done_deeds =
          all_done ds (found_in ent.log ent.out (says d ends ent.slots) v.seat) (ent.now.fresh, ent.now.has)
          ent.now.single legal.can

      still : v.seat.saw ≡ 1 → all_over ent.slots ≡ true
      still o =
          none_over ent.slots
          (ent.now.moves.count ∙ over_none hand.slots (ap (λ h. done h hand.slots) (sym free) ∙ hand.saw o))

  pub entered_hand : (v w : Sight L) (desk desk' : Desk R A E) (hand : HasDesk d ends v desk) → desk.state ≡ All
      → (start : L) → v.seat.start ≡ Some start
      → (ds : List Deed) (birth : Option ℕ) (mine : List ℕ) (lone_to : List ℕ → List ℕ)
      (to : List (Status R A E) → List (Status R A E)) (count : ℕ)
      → (ent : Entered d ends v w start hand.slots ds birth mine lone_to count)
      → AreLegal d ends v start ds birth mine ent.log ent.out ent.lone (lone_to ent.lone) ent.slots (to ent.slots)
      ent.forkers
      → IsAfter All v.seat.group desk desk' (length ent.slots) ds (to ent.slots) (lone_to ent.lone)
      → HasDesk d ends w desk'
  entered_hand v w desk desk' hand free start begun ds birth mine lone_to to count ent legal after =
      (entered_both v w desk desk' hand free start begun ds birth mine lone_to to count ent legal after).0

  sound_by : (o : Option L) (h : HubState) (start : L) (log : List ℕ) (slots : List (Status R A E)) (fs : List ℕ)
      → o ≡ Some start → Sound d ends start h log slots fs → SoundFrom d ends o h log slots fs
  sound_by o h start log slots fs begun sound =
      subst (λ (z : Option L). SoundFrom d ends z h log slots fs) (sym begun) sound

  -- the same behind a halt
  pub shut_hand : (h : HubState) (v w : Sight L) (desk desk' : Desk R A E) (hand : HasDesk d ends v desk) → h ≢ All
      → (start : L) → v.seat.start ≡ Some start
      → (ds : List Deed) (mine : List ℕ) (lone_to : List ℕ → List ℕ)
      (to : List (Status R A E) → List (Status R A E))
      → (ent : Shut d ends h v w start hand.slots ds mine lone_to)
      → IsLast d ends h v start ds mine ent.log ent.out ent.lone (lone_to ent.lone) ent.slots (to ent.slots) ent.forkers
      → IsAfter h v.seat.group desk desk' (length ent.slots) ds (to ent.slots) (lone_to ent.lone)
      → HasDesk d ends w desk'
  shut_hand h v w desk desk' hand halts start begun ds mine lone_to to ent legal after =
      subst (λ x. HasDesk d ends x desk') (sym ent.is) record {
        has = done_deeds.same.0 ∙ hand.has;
        part = (let q = done_deeds.same.1 in let p = hand.part in omega arith);
        slots = to ent.slots;
        sound = subst (λ (z : HubState × List ℕ). SoundFrom d ends (stops h done_view).start z.0 z.1 (to ent.slots)
            ent.forkers)
            (λ i. (sym after.state i, sym done_deeds.log i))
            (sound_by (stops h done_view).start h start (ent.log ++ entered ds) (to ent.slots) ent.forkers
            (done_deeds.same.2 ∙ begun) legal.sound);
        outs = legal.outs;
        current = done_deeds.current;
        alone = λ j pos.
            let q = legal.lones j in
            let c = done_deeds.counts j in
            let o = done_deeds.single j in
            let f = ent.now.few j in
            dite (ℕ_discrete (named j v.seat.passes) 0) (λ z. omega arith)
            (λ n. let a = ent.now.alone j (omega arith) in omega arith);
        kept = legal.kept;
        entries = after.entries ∙ ap (λ l. l ++ stamped (length ent.slots) (entered ds)) hand.entries;
        limit_is = after.limit_is ∙ hand.limit_is;
        lent_is = after.lent_is;
        shadows = after.shadows;
        queued = after.queued;
        tracked = after.tracked;
        strayed = after.strayed;
        grouped = λ j x e. subst (λ g. IsOfGroup d ends g x) (sym done_deeds.same.3) (after.grouped j x e);
        saw = λ o. ap (λ z. done z (to ent.slots)) after.state ∙ halted h halts (to ent.slots);
        halt = sym after.state;
      }
    where
      done_view : View L
      done_view = do_all ds (found_in ent.log ent.out (says d ends ent.slots) v.seat)

      done_deeds : AreDone (found_in ent.log ent.out (says d ends ent.slots) v.seat) done_view (entered ds)
      done_deeds =
          all_done ds (found_in ent.log ent.out (says d ends ent.slots) v.seat) (ent.now.fresh, ent.now.has)
          ent.now.single legal.can

      halted : (h : HubState) → h ≢ All → (slots : List (Status R A E)) → done h slots ≡ true
      halted All n slots = absurd (n refl)
      halted Twice n slots = refl
      halted NoMemory n slots = refl
