-- What one deed after another makes of the statuses, at one moment of a turn.
use Rattle.std.proofs.Common.{◌≡◌, ◌≢◌, inr, ℕ, zero, suc, ◌+◌, ◌<◌, ◌≤◌, true, List, [], ◌∷◌, ◌++◌, length, refl, sym, ap, ◌∙◌, subst, arith, Option, Some}
use mathlib.Core.Logic.{dite}
use native.Mathlib.Decide.{ℕ_discrete}
use Rattle.revision_machine.specs.Numbered.{at_number, put_number}
use Rattle.revision_machine.proofs.Lists.{put_other, put_here}
use Rattle.hub_core.specs.declared.status.Status.{Status}
use Rattle.hub_core.specs.declared.status.Status.TheVariants.{Ready, Out, Waiting, Over, Gone}
use Rattle.hub_core.specs.declared.deed.Deed.{Deed}
use Rattle.hub_core.specs.declared.deed.Deed.TheVariants.{Commits, HandsIn, Draws}
use Rattle.hub_core.specs.declared.sight.Sight.{Sight}
use Rattle.hub_core.specs.declared.view.View.{View}
use Rattle.hub_core.specs.Replay.{state_after}
use Rattle.hub_core.specs.Hub.{Tied, Forks, Joins, EndsLeg, WasTrapped}
use Rattle.hub_core.specs.HubMachine.{HubMachine, numbered, values}
use Rattle.hub_core.specs.Counts.{is_at, times}
use Rattle.hub_core.specs.Found.{all_over}
use Rattle.hub_core.specs.Passes.{named, without, IsPass}
use Rattle.hub_core.specs.Views.{commits, hands_in, draws}
use Rattle.hub_core.specs.Seats.{HasCurrent}
use Rattle.hub_core.specs.Rule.{is_out, OutsAre, says}
use Rattle.hub_core.specs.Rounds.{add_last}
use Rattle.hub_core.specs.Tally.{found_in, do_all, CanDo, Now, AreLegal}
use Rattle.hub_core.proofs.Lists.{is_at_same, is_at_other}
use Rattle.hub_core.proofs.Hub as hub
use Rattle.hub_core.proofs.Passes.{count_gone, count_other, pass_left}
use Rattle.hub_core.proofs.Moves.{here_out}
use Rattle.hub_core.proofs.Deeds.{all_done, named_commit, named_in}

-- a list of kept children without this one
abbrev pub Leaves : ℕ → List ℕ → List ℕ → Type 0
Leaves k l l' = (times k l' ≡ 0) × ((j : ℕ) → j ≢ k → times j l' ≤ times j l)

pub leaves_none : (k : ℕ) (l : List ℕ) → times k l ≡ 0 → Leaves k l l
leaves_none k l none = (none, λ j ne. omega arith)

pub leaves_one : (k : ℕ) (l : List ℕ) → Leaves k l (without k l)
leaves_one k l = (count_gone (λ (x : ℕ). x) k l, λ j ne. let a = count_other (λ (x : ℕ). x) k j l ne in omega arith)

-- a pass of another number is still there
module _ {L : Type 0} where
  pub pass_commits : (k j : ℕ) (at : List ℕ) (u : View L) → j ≢ k → IsPass u.passes j at
      → IsPass (commits k u).passes j at
  pass_commits k j at u ne p = inr (pass_left k u.passes j at p ne)

  pub pass_hands_in : (k j : ℕ) (at : List ℕ) (u : View L) → j ≢ k → IsPass u.passes j at
      → IsPass (hands_in k u).passes j at
  pass_hands_in k j at u ne p = pass_left k u.passes j at p ne

-- which revisions are with seats, as a status changes
module _ {R A E : Type 0} where
  -- one more status that is no seat's
  pub outs_more : (slots : List (Status R A E)) (s : Status R A E) (n : ℕ) → is_out (Some s) ≡ 0
      → is_out (at_number (slots ++ s ∷ []) n) ≡ is_out (at_number slots n)
  outs_more [] s zero e = e
  outs_more [] s (suc n) e = refl
  outs_more (x ∷ slots) s zero e = refl
  outs_more (x ∷ slots) s (suc n) e = outs_more slots s n e

  -- a number that seats don't have is drawn
  pub outs_draw : (slots : List (Status R A E)) (out : List ℕ) (n : ℕ) (s : Status R A E) → OutsAre slots out
      → at_number slots n ≡ Some s → is_out (Some s) ≡ 0 → OutsAre (put_number slots n Out) (n ∷ out)
  outs_draw slots out n s outs e none j = let o = outs j in dite (ℕ_discrete j n)
      (λ is.
      let a : is_at j n ≡ 1 = ap (λ i. is_at i n) is ∙ is_at_same n in
      let b : is_out (at_number (put_number slots n Out) j) ≡ 1 =
      ap (λ i. is_out (at_number (put_number slots n Out) i)) is ∙ ap is_out (put_here slots n s Out e) in
      let g : times j out ≡ 0 = outs j ∙ (ap (λ i. is_out (at_number slots i)) is ∙ (ap is_out e ∙ none)) in
      omega arith)
      (λ ne.
      let a = is_at_other j n (λ i. ne (sym i)) in
      let b : is_out (at_number (put_number slots n Out) j) ≡ is_out (at_number slots j) =
      ap is_out (put_other slots n j Out ne) in
      omega arith)

  -- a number is handed in
  pub outs_in : (slots : List (Status R A E)) (out : List ℕ) (n : ℕ) (s : Status R A E) → OutsAre slots out
      → at_number slots n ≡ Some Out → is_out (Some s) ≡ 0 → OutsAre (put_number slots n s) (without n out)
  outs_in slots out n s outs e none j = let o = outs j in dite (ℕ_discrete j n)
      (λ is.
      let a : times j (without n out) ≡ 0 = ap (λ i. times i (without n out)) is ∙ count_gone (λ (x : ℕ). x) n out in
      let b : is_out (at_number (put_number slots n s) j) ≡ 0 =
      ap (λ i. is_out (at_number (put_number slots n s) i)) is ∙ (ap is_out (put_here slots n Out s e) ∙ none) in
      omega arith)
      (λ ne.
      let a = count_other (λ (x : ℕ). x) n j out ne in
      let b : is_out (at_number (put_number slots n s) j) ≡ is_out (at_number slots j) =
      ap is_out (put_other slots n j s ne) in
      omega arith)

  -- another status of a number that no seat has, before and after
  pub outs_turn : (slots : List (Status R A E)) (out : List ℕ) (n : ℕ) (x s : Status R A E) → OutsAre slots out
      → at_number slots n ≡ Some x → is_out (Some x) ≡ 0 → is_out (Some s) ≡ 0 → OutsAre (put_number slots n s) out
  outs_turn slots out n x s outs e was none j = dite (ℕ_discrete j n)
      (λ is. outs j
      ∙ (ap (λ i. is_out (at_number slots i)) is
      ∙ (ap is_out e
      ∙ (was
      ∙ sym (ap (λ i. is_out (at_number (put_number slots n s) i)) is ∙ (ap is_out (put_here slots n x s e) ∙ none))))))
      (λ ne. outs j ∙ sym (ap is_out (put_other slots n j s ne)))

module _ {L R A E : Type 0} (d : HubMachine L R A E) (ends : E → L → Type 0) where
  abbrev Slots : Type 0
  Slots = List (Status R A E)

  abbrev Ties : L → List ℕ → Slots → List ℕ → Type 0
  Ties start log slots fs = Tied (numbered d) (values d ends) start log slots fs

  -- the seat's view and the statuses, with the children that are kept by all seats and by this one
  pub record Moment (start : L) (u : View L) (slots : Slots) (fs lone mine : List ℕ) : Type 0 where
    pub tied : Ties start u.log slots fs
    pub outs : OutsAre slots u.out
    pub current : HasCurrent u
    pub single : (j : ℕ) → times j u.out ≤ 1
    pub few : (j : ℕ) → times j lone ≤ times j u.out
    pub kept : (j : ℕ) → times j mine ≤ named j u.passes

  pub moment_now : (v : Sight L) (start : L) (before : Slots) (log out lone : List ℕ) (slots : Slots) (fs : List ℕ)
      → Now d ends v start before log out lone slots fs
      → Moment start (found_in log out (says d ends slots) v.seat) slots fs lone v.mine
  moment_now v start before log out lone slots fs now = record {
    tied = now.tied;
    outs = now.outs;
    current = (now.fresh, now.has);
    single = now.single;
    few = now.few;
    kept = now.kept;
  }

  module _ (start : L) (u : View L) (slots : Slots) (fs lone mine : List ℕ)
      (m : Moment start u slots fs lone mine) where
    pub one_at : (k : ℕ) → 0 < named k u.passes → (named k u.passes ≡ 1) × (times k u.out ≡ 1)
    one_at k pos = let a = m.current.1 k in let b = m.single k in (omega arith, omega arith)

    pub out_at : (k : ℕ) → 0 < named k u.passes → at_number slots k ≡ Some Out
    out_at k pos = here_out slots u.out k m.outs (let q = (one_at k pos).1 in omega arith)

    -- the state of a pass is that of its revision at this moment
    pub state_at : (k : ℕ) (at : List ℕ) (l : L) → IsPass u.passes k at → state_after (numbered d) start at k ≡ Some l
        → state_after (numbered d) start u.log k ≡ Some l
    state_at k at l pass here =
        let g = m.current.0 k at pass in
        ap (λ z. state_after (numbered d) start z k) g.1
        ∙ hub.pass_now (numbered d) (values d ends) start at g.0 slots fs
        (subst (λ z. Ties start z slots fs) g.1 m.tied) k l g.2 here

    -- after deeds that take this revision from the seat
    without_it : (k : ℕ) (w : View L) (lone' mine' : List ℕ) → Leaves k lone lone' → Leaves k mine mine'
        → w.out ≡ without k u.out → ((j : ℕ) → j ≢ k → named j w.passes ≡ named j u.passes)
        → ((j : ℕ) → times j lone' ≤ times j w.out) × ((j : ℕ) → times j mine' ≤ named j w.passes)
    without_it k w lone' mine' ls ms out passes = (
      λ j. dite (ℕ_discrete j k)
          (λ q. let z : times j lone' ≡ 0 = ap (λ x. times x lone') q ∙ ls.0 in omega arith)
          (λ ne.
          let a = ls.1 j ne in
          let b = m.few j in
          let c = count_other (λ (x : ℕ). x) k j u.out ne in
          let e : times j w.out ≡ times j (without k u.out) = ap (times j) out in
          omega arith),
      λ j. dite (ℕ_discrete j k)
          (λ q. let z : times j mine' ≡ 0 = ap (λ x. times x mine') q ∙ ms.0 in omega arith)
          (λ ne. let a = ms.1 j ne in let b = m.kept j in let c = passes j ne in omega arith),
    )

    -- the end of a leg
    pub end_moment : (k : ℕ) (e : E) (lone' mine' : List ℕ) → 0 < named k u.passes
        → EndsLeg (numbered d) (values d ends) start u.log k e → Leaves k lone lone' → Leaves k mine mine'
        → Moment start (hands_in k (commits k u)) (put_number slots k (Over e)) fs lone' mine'
    end_moment k e lone' mine' pos leg ls ms =
        let one = (one_at k pos).0 in
        let again = named_commit k u one k in
        let done = all_done (Commits k ∷ HandsIn k ∷ []) u m.current m.single (pos, ((omega arith), tt)) in
        let rest =
        without_it k (hands_in k (commits k u)) lone' mine' ls ms refl
        (λ j ne. named_in k (commits k u) j ne ∙ named_commit k u one j) in
        record {
          tied = hub.ended (numbered d) (values d ends) start u.log slots fs m.tied k e (out_at k pos) leg;
          outs = outs_in slots u.out k (Over e) m.outs (out_at k pos) refl;
          current = done.current;
          single = done.single;
          few = rest.0;
          kept = rest.1;
        }

    -- a revision that the seat hands in without an entry: its join had ended it, or it waits, or it is before its leg
    handed : (k : ℕ) (x : Status R A E) (lone' mine' : List ℕ) → 0 < named k u.passes
        → Ties start u.log (put_number slots k x) fs → is_out (Some x) ≡ 0 → Leaves k lone lone' → Leaves k mine mine'
        → Moment start (hands_in k u) (put_number slots k x) fs lone' mine'
    handed k x lone' mine' pos tied none ls ms =
        let done = all_done (HandsIn k ∷ []) u m.current m.single (pos, tt) in
        let rest = without_it k (hands_in k u) lone' mine' ls ms refl (λ j ne. named_in k u j ne) in
        record {
          tied = tied;
          outs = outs_in slots u.out k x m.outs (out_at k pos) none;
          current = done.current;
          single = done.single;
          few = rest.0;
          kept = rest.1;
        }

    pub trap_moment : (k : ℕ) (e : E) (lone' mine' : List ℕ) → 0 < named k u.passes
        → WasTrapped (numbered d) (values d ends) start u.log k e → Leaves k lone lone' → Leaves k mine mine'
        → Moment start (hands_in k u) (put_number slots k (Over e)) fs lone' mine'
    trap_moment k e lone' mine' pos was ls ms =
        handed k (Over e) lone' mine' pos
        (hub.handed_in (numbered d) (values d ends) start u.log slots fs m.tied k e (out_at k pos) was) refl ls ms

    pub wait_moment : (k : ℕ) (a : A) (lone' mine' : List ℕ) → 0 < named k u.passes
        → Joins (numbered d) (values d ends) start u.log k a → Leaves k lone lone' → Leaves k mine mine'
        → Moment start (hands_in k u) (put_number slots k (Waiting a)) fs lone' mine'
    wait_moment k a lone' mine' pos joins ls ms =
        handed k (Waiting a) lone' mine' pos
        (hub.waits (numbered d) (values d ends) start u.log slots fs m.tied k a (out_at k pos) joins) refl ls ms

    pub back_moment : (k : ℕ) (c : R) (lone' mine' : List ℕ) → 0 < named k u.passes
        → state_after (numbered d) start u.log k ≡ Some (d.runs c) → Leaves k lone lone' → Leaves k mine mine'
        → Moment start (hands_in k u) (put_number slots k (Ready c)) fs lone' mine'
    back_moment k c lone' mine' pos here ls ms =
        handed k (Ready c) lone' mine' pos
        (hub.back (numbered d) (values d ends) start u.log slots fs m.tied k c (out_at k pos) here) refl ls ms

    -- an entry of a revision that the seat keeps
    entered_by : (k : ℕ) (slots' : Slots) (fs' : List ℕ) → 0 < named k u.passes
        → Ties start (u.log ++ k ∷ []) slots' fs'
        → OutsAre slots' u.out → Moment start (commits k u) slots' fs' lone mine
    entered_by k slots' fs' pos tied outs =
        let one = (one_at k pos).0 in
        let done = all_done (Commits k ∷ []) u m.current m.single (pos, tt) in
        record {
          tied = tied;
          outs = outs;
          current = done.current;
          single = done.single;
          few = m.few;
          kept = λ j. let a = m.kept j in let b = named_commit k u one j in omega arith;
        }

    pub join_moment : (k : ℕ) (a : A) (e : E) → 0 < named k u.passes
        → Joins (numbered d) (values d ends) start u.log k a → at_number slots (d.on a) ≡ Some (Over e)
        → Moment start (commits k u) (put_number slots (d.on a) Gone) fs lone mine
        × (state_after (numbered d) start (u.log ++ k ∷ []) k ≡ Some (d.joined a e))
    join_moment k a e pos joins over =
        let h = hub.joined (numbered d) (values d ends) start u.log slots fs m.tied k a e (out_at k pos) joins over in (
          entered_by k (put_number slots (d.on a) Gone) fs pos h.0
              (outs_turn slots u.out (d.on a) (Over e) Gone m.outs over refl refl),
          h.1,
        )

    pub fork_moment : (k : ℕ) (c : R) → 0 < named k u.passes
        → (p : Forks (numbered d) (values d ends) start u.log k c)
        → Moment start (commits k u) (slots ++ Ready c ∷ []) (fs ++ k ∷ []) lone mine
        × (state_after (numbered d) start (u.log ++ k ∷ []) k ≡ Some (p.forker (length slots)))
        × (state_after (numbered d) start (u.log ++ k ∷ []) (length slots) ≡ Some (d.runs c))
    fork_moment k c pos p =
        let h = hub.forked (numbered d) (values d ends) start u.log slots fs m.tied k c (out_at k pos) p in (
          entered_by k (slots ++ Ready c ∷ []) (fs ++ k ∷ []) pos h.0
              (λ n. m.outs n ∙ sym (outs_more slots (Ready c) n refl)),
          h.1,
          h.2,
        )

    -- a revision that the seat takes, which is kept from then on or is not
    taken_by : (n : ℕ) (x : Status R A E) (lone' mine' : List ℕ) → at_number slots n ≡ Some x → is_out (Some x) ≡ 0
        → Ties start u.log (put_number slots n Out) fs
        → ((j : ℕ) → times j lone' ≤ is_at j n + times j lone) → ((j : ℕ) → times j mine' ≤ is_at j n + times j mine)
        → Moment start (draws n u) (put_number slots n Out) fs lone' mine'
    taken_by n x lone' mine' e none tied ls ms =
        let free : times n u.out ≡ 0 = m.outs n ∙ (ap is_out e ∙ none) in
        let done = all_done (Draws n ∷ []) u m.current m.single (free, tt) in
        record {
          tied = tied;
          outs = outs_draw slots u.out n x m.outs e none;
          current = done.current;
          single = done.single;
          few = λ j. let a = m.few j in let b = ls j in omega arith;
          kept = λ j. let a = m.kept j in let b = ms j in omega arith;
        }

    pub draw_moment : (n : ℕ) (c : R) (lone' mine' : List ℕ) → at_number slots n ≡ Some (Ready c)
        → ((j : ℕ) → times j lone' ≤ is_at j n + times j lone) → ((j : ℕ) → times j mine' ≤ is_at j n + times j mine)
        → Moment start (draws n u) (put_number slots n Out) fs lone' mine'
        × (state_after (numbered d) start u.log n ≡ Some (d.runs c))
    draw_moment n c lone' mine' e ls ms =
        let h = hub.taken (numbered d) (values d ends) start u.log slots fs m.tied n c e in
        (taken_by n (Ready c) lone' mine' e refl h.0 ls ms, h.1)

    pub retry_moment : (n : ℕ) (a : A) → at_number slots n ≡ Some (Waiting a)
        → Moment start (draws n u) (put_number slots n Out) fs lone mine
        × Joins (numbered d) (values d ends) start u.log n a
    retry_moment n a e =
        let h = hub.retried (numbered d) (values d ends) start u.log slots fs m.tied n a e in
        (taken_by n (Waiting a) lone mine e refl h.0 (λ j. omega arith) (λ j. omega arith), h.1)

  -- what deeds at this moment ask, by what they come to
  pub legal_by : (v : Sight L) (start : L) (before : Slots) (log out lone : List ℕ) (slots : Slots) (fs : List ℕ)
      → Now d ends v start before log out lone slots fs
      → (ds : List Deed) (birth : Option ℕ) (lone' mine' : List ℕ) (slots' : Slots)
      → CanDo ds (found_in log out (says d ends slots) v.seat)
      → Moment start (do_all ds (found_in log out (says d ends slots) v.seat)) slots' (add_last birth fs) lone' mine'
      → ((j : ℕ) → times j lone' + times j v.mine ≡ times j lone + times j mine')
      → (all_over slots ≡ true → all_over slots' ≡ true)
      → AreLegal d ends v start ds birth mine' log out lone lone' slots slots' fs
  legal_by v start before log out lone slots fs now ds birth lone' mine' slots' can m lones over =
      let u = found_in log out (says d ends slots) v.seat in
      let done = all_done ds u (now.fresh, now.has) now.single can in
      record {
        can = can;
        tied = subst (λ l. Ties start l slots' (add_last birth fs)) done.log m.tied;
        outs = m.outs;
        lones = lones;
        few = m.few;
        kept = m.kept;
        over = over;
      }
