-- A joinee that has ended and was joined at once: it has a record, or is the child that the seat kept.
use Rattle.std.proofs.Common.{◌≡◌, ℕ, ◌+◌, ◌<◌, ◌≤◌, Bool, true, false, List, length, refl, sym, ap, ◌∙◌, subst, arith, Option, Some, None}
use mathlib.Core.Logic.{dite}
use native.Mathlib.Decide.{ℕ_discrete}
use Rattle.revision_machine.specs.Numbered.{put_number}
use Rattle.hub_core.specs.declared.status.Status.{Status}
use Rattle.hub_core.specs.declared.status.Status.TheVariants.{Out, Gone}
use Rattle.hub_core.specs.HubMachine.{HubMachine}
use Rattle.hub_core.specs.declared.desk.Desk.{Desk}
use Rattle.hub_core.specs.declared.journal.Journal.{Journal}
use Rattle.hub_core.specs.declared.sight.Sight.{Sight}
use Rattle.hub_core.specs.Chains.{IsWithin, chain_at}
use Rattle.hub_core.specs.Counts.{times}
use Rattle.hub_core.specs.Passes.{named, without}
use Rattle.hub_core.specs.Tally.{records_of, queue_of, record_at, HasDesk, Now}
use Rattle.hub_core.specs.TallySteps.{leaving}
use Rattle.hub_core.proofs.Lists.{is_at_same}
use Rattle.hub_core.proofs.Passes.{count_gone, count_other}
use Rattle.hub_core.proofs.Moves.{less_length}
use Rattle.hub_core.proofs.Moments.{Leaves, leaves_none, leaves_one}
use Rattle.hub_core.proofs.Lines.{below_within, waits_within, queue_some}
use Rattle.hub_core.proofs.Shadowing.{put_record_length, record_within, shadows_listed}
use Rattle.hub_core.proofs.Standing.{Stands, stands_gone, stands_gone_lone}
use Rattle.turn_hub.specs.Plans.{lone_list, lone_of, IsSettled, IsTaken}
use Rattle.turn_hub.proofs.Afters.{stands_now, out_now, record_now}

-- one list is without a number as the other is
lones_one : (n : ℕ) (lone mine : List ℕ) → times n lone ≡ times n mine → (j : ℕ)
    → times j (without n lone) + times j mine ≡ times j lone + times j (without n mine)
lones_one n lone mine same j = dite (ℕ_discrete j n)
    (λ q. subst (λ i. times i (without n lone) + times i mine ≡ times i lone + times i (without n mine)) (sym q)
    (let a = count_gone (λ (x : ℕ). x) n lone in let b = count_gone (λ (x : ℕ). x) n mine in let c = same in omega
    arith))
    (λ ne.
    let a = count_other (λ (x : ℕ). x) n j lone ne in
    let b = count_other (λ (x : ℕ). x) n j mine ne in
    omega arith)

pub lones_by : (b : Bool) (n : ℕ) (lone mine : List ℕ) → (b ≡ true → times n lone ≡ times n mine) → (j : ℕ)
    → times j (leaving (lone_of b n) lone) + times j mine ≡ times j lone + times j (leaving (lone_of b n) mine)
lones_by true n lone mine same j = lones_one n lone mine (same refl) j
lones_by false n lone mine same j = refl

leaves_by : (b : Bool) (n : ℕ) (l : List ℕ) → (b ≡ false → times n l ≡ 0) → Leaves n l (leaving (lone_of b n) l)
leaves_by true n l none = leaves_one n l
leaves_by false n l none = leaves_none n l (none refl)

module _ {R A E : Type 0} where
  pub settled_less : (b : Bool) (i : ℕ) (desk one : Desk R A E) → IsSettled b i desk one → one.lent ≤ desk.lent
  settled_less true i desk one s = let a = s.4 in omega arith
  settled_less false i desk one s = let a = s.2 in omega arith

  -- entries change nothing of what was done for the child
  pub taken_noted : (c : Bool) (n : ℕ) (one last : Desk R A E) (j : Journal E) → IsTaken c n one last
      → IsTaken c n one (record last { journal = j })
  taken_noted true n one last j t = t
  taken_noted false n one last j t = t

  pub settled_length : (b : Bool) (i : ℕ) (desk one : Desk R A E) → IsSettled b i desk one
      → length (records_of one) ≡ length (records_of desk)
  settled_length true i desk one s = ap length s.0
  settled_length false i desk one s = ap length s.0 ∙ put_record_length (records_of desk) i Gone

module _ {L R A E : Type 0} (d : HubMachine L R A E) (ends : E → L → Type 0) where
  abbrev Slots : Type 0
  Slots = List (Status R A E)

  module _ (v : Sight L) (desk : Desk R A E) (hand : HasDesk d ends v desk) (b : Bool) (i : ℕ)
      (mine : v.mine ≡ lone_list b i) (has : 0 < named i v.seat.passes) (start : L) (log out lone : List ℕ) (slots :
      Slots)
      (fs : List ℕ) (now : Now d ends v start hand.slots log out lone slots fs) where
    mine_by : (c : Bool) → v.mine ≡ lone_list c i → (c ≡ true → times i v.mine ≡ 1) × (c ≡ false → times i v.mine ≡ 0)
    mine_by true e = ((λ q. let a = ap (times i) e in let o = is_at_same i in omega arith), λ q. absurd cc)
    mine_by false e = ((λ q. absurd cc), λ q. ap (times i) e)

    pub joinee_lone : (b ≡ true → times i lone ≡ 1) × (b ≡ false → times i lone ≡ 0)
    joinee_lone = (
      λ q. let a = (mine_by b mine).0 q in let e = now.own i in let f = now.alone i has in omega arith,
      λ q. let a = (mine_by b mine).1 q in let f = now.alone i has in omega arith,
    )

    pub joinee_leaves : Leaves i lone (leaving (lone_of b i) lone) × Leaves i v.mine (leaving (lone_of b i) v.mine)
    joinee_leaves = (leaves_by b i lone joinee_lone.1, leaves_by b i v.mine (mine_by b mine).1)

    pub joinee_lones : (j : ℕ)
        → times j (leaving (lone_of b i) lone) + times j v.mine ≡ times j lone + times j (leaving (lone_of b i) v.mine)
    joinee_lones = lones_by b i lone v.mine (λ q. joinee_lone.0 q ∙ sym ((mine_by b mine).0 q))

    -- where it was kept there is no record, and some child is lent
    kept_none : b ≡ true → record_at (records_of desk) i ≡ None
    kept_none q = by (record_at (records_of desk) i) refl
      where
        by : (o : Option (Status R A E)) → record_at (records_of desk) i ≡ o → record_at (records_of desk) i ≡ None
        by None e = e
        by (Some x) e =
            let st = stands_now d ends v desk hand start log out lone slots fs now in
            let a = (st.shadows.recorded i x e).1 in
            let c = joinee_lone.0 q in
            absurd (omega arith)

    pub joinee_lent : b ≡ true → desk.lent ≡ length (without i lone) + 1
    joinee_lent q =
        let a = hand.lent_is in
        let c = now.moves.as_many in
        let e = less_length i lone in
        let f = joinee_lone.0 q in
        omega arith

    free_of : (s : Bool) → desk.strays ≡ s → b ≡ true → desk.strays ≡ false
    free_of false e q = e
    free_of true e q = let a = hand.strayed e in let c = joinee_lent q in absurd (omega arith)

    pub joinee_record : b ≡ false → record_at (records_of desk) i ≡ Some Out
    joinee_record q = record_now d ends v desk hand start log out lone slots fs now i has (none_of b mine q)
      where
        none_of : (c : Bool) → v.mine ≡ lone_list c i → c ≡ false → times i v.mine ≡ 0
        none_of c e z = (mine_by c e).1 z

    -- its place in the run queue
    pub joinee_within : (b ≡ false → (record_at (records_of desk) i ≡ Some Out) × (i < length (queue_of
        desk).waiters.items)
        × IsWithin (chain_at (queue_of desk).waiters.items i) (length (queue_of desk).links.items))
        × (0 < (queue_of desk).unfinished) × (b ≡ true → 0 < desk.lent)
    joinee_within =
        let st = stands_now d ends v desk hand start log out lone slots fs now in
        let many = length (records_of desk) in (
          λ q.
              let here = joinee_record q in
              let below = record_within (records_of desk) i Out here in
              let places = below_within d many slots (queue_of desk) i st.queued below in (
                here,
                places.1,
                waits_within d many slots (queue_of desk) i (shadows_listed d (records_of desk) slots lone st.shadows)
                    st.queued,
              ),
          queue_some d many slots (queue_of desk) i st.queued
              (out_now d ends v desk hand start log out lone slots fs now i has),
          λ q. let a = joinee_lent q in omega arith,
        )

    -- the records and the run queue are right of the statuses then
    pub joinee_stands : (desk' : Desk R A E) → IsSettled b i desk desk' → E
        → Stands d ends v.seat.group (records_of desk') (queue_of desk') (put_number slots i Gone)
        (leaving (lone_of b i) lone) desk.strays
        × (desk'.lent ≡ length (leaving (lone_of b i) lone))
    joinee_stands desk' settled e = by b mine settled (λ q. joinee_record q) (λ q. kept_none q) (λ q. joinee_lent q)
        (λ q. free_of desk.strays refl q)
      where
        st : Stands d ends v.seat.group (records_of desk) (queue_of desk) slots lone desk.strays
        st = stands_now d ends v desk hand start log out lone slots fs now

        by : (c : Bool) → v.mine ≡ lone_list c i → IsSettled c i desk desk' → (c ≡ false → record_at (records_of
            desk) i ≡ Some Out)
            → (c ≡ true → record_at (records_of desk) i ≡ None) → (c ≡ true → desk.lent ≡ length (without i lone) + 1)
            → (c ≡ true → desk.strays ≡ false)
            → Stands d ends v.seat.group (records_of desk') (queue_of desk') (put_number slots i Gone)
            (leaving (lone_of c i) lone) desk.strays
            × (desk'.lent ≡ length (leaving (lone_of c i) lone))
        by true e0 s r n l f = (
          subst
              (λ rs. Stands d ends v.seat.group rs (queue_of desk') (put_number slots i Gone) (without i lone)
              desk.strays)
              (sym s.0)
              (stands_gone_lone d ends v.seat.group (records_of desk) (queue_of desk) slots lone desk.strays st i
              (queue_of desk') (n refl) (out_now d ends v desk hand start log out lone slots fs now i has) (f refl) s.1
              s.2 s.3),
          (let a = l refl in let c = s.4 in omega arith),
        )
        by false e0 s r n l f = (
          subst
              (λ rs. Stands d ends v.seat.group rs (queue_of desk') (put_number slots i Gone) lone desk.strays)
              (sym s.0)
              (stands_gone d ends v.seat.group (records_of desk) (queue_of desk) slots lone desk.strays st i e
              (queue_of desk') (r refl) s.1),
          s.2 ∙ (hand.lent_is ∙ sym now.moves.as_many),
        )
