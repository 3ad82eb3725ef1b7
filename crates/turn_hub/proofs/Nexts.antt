-- What comes first once a revision has ended: what waits for it, and else what is ready.
use Rattle.std.proofs.Common.{◌≡◌, ◌≢◌, ◌⊎◌, inl, inr, ℕ, ◌<◌, Bool, true, false, cond, ◌==◌, List, ◌++◌, length, refl, sym, ap, ◌∙◌, arith, Option, Some, None}
use Rattle.std.proofs.lemmas.Bool.{eqb-true}
use Rattle.revision_machine.specs.Numbered.{at_number, put_number}
use Rattle.revision_machine.proofs.Lists.{put_other, put_here}
use Rattle.hub_core.specs.declared.status.Status.{Status}
use Rattle.hub_core.specs.declared.status.Status.TheVariants.{Ready, Out, Waiting, Over, Gone}
use Rattle.hub_core.specs.declared.records.Records.{Records}
use Rattle.hub_core.specs.declared.run_queue.RunQueue.{RunQueue}
use Rattle.hub_core.specs.HubMachine.{HubMachine}
use Rattle.hub_core.specs.Chains.{EndsOne, chain_at}
use Rattle.hub_core.specs.Counts.{times}
use Rattle.hub_core.specs.Found.{is_ready, ended_here}
use Rattle.hub_core.specs.Marks.{first_in}
use Rattle.hub_core.specs.Queued.{waits_for}
use Rattle.hub_core.specs.Tally.{record_at}
use Rattle.hub_core.proofs.Lines.{is_once}
use Rattle.hub_core.proofs.Slots.{no_more}
use Rattle.hub_core.proofs.Standing.{Stands}
use Rattle.turn_hub.specs.declared.coming.Coming.{Coming}
use Rattle.turn_hub.specs.declared.coming.Coming.TheVariants as coming
use Rattle.turn_hub.specs.Comings.{first_or, first_after, IsOpenRecord, IsFirstKept, IsComing, IsNoStop}
use Rattle.turn_hub.proofs.Draws.{CanDraw, can_draw, head_in, flag_yes}
use Rattle.turn_hub.proofs.Heads.{ComesAt, list_head, head_append, ready_on}
use Rattle.turn_hub.proofs.Onwards.{record_of, first_ready}

module _ {L R A E : Type 0} (d : HubMachine L R A E) (ends : E → L → Type 0) where
  abbrev Slots : Type 0
  Slots = List (Status R A E)

  -- which waits for a revision that has not ended
  waits_on : (slots : Slots) (k : ℕ) (o : Option (Status R A E)) → ended_here (at_number slots k) ≡ false
      → waits_for d slots k o ≡ true → (a : A) × (o ≡ Some (Waiting a)) × (d.on a ≡ k)
  waits_on slots k None open_k e = no_more e
  waits_on slots k (Some (Ready r)) open_k e = no_more e
  waits_on slots k (Some Out) open_k e = no_more e
  waits_on slots k (Some (Waiting a)) open_k e =
      (a, refl, eqb-true (d.on a) k (sym (ap (λ b. cond b false (d.on a == k)) open_k) ∙ e))
  waits_on slots k (Some (Over i)) open_k e = no_more e
  waits_on slots k (Some Gone) open_k e = no_more e

  module _ (group : List ℕ) (rs : Records R A E) (slots : Slots) (lone : List ℕ) (strays : Bool)
      (st : Stands d ends group rs.list.items rs.queue slots lone strays) (k : ℕ) (out : at_number slots k ≡ Some Out)
      (e : E) where
    abbrev pub slots1 : Slots
    slots1 = put_number slots k (Over e)

    pub ended_k : at_number slots1 k ≡ Some (Over e)
    ended_k = put_here slots k Out (Over e) out

    module _ (n : ℕ) (first : first_after rs.queue k ≡ Some n) where
      -- it waits for this revision
      woken : 0 < times n (st.queued.waits k) → is_ready d slots1 (at_number slots1 n) ≡ true
      woken some =
          let b = st.queued.waits_are k n in
          let w =
          waits_on slots k (at_number slots n) (ap ended_here out)
          (flag_yes (waits_for d slots k (at_number slots n)) (omega arith)) in
          let apart : n ≢ k =
          λ is. no_waiter w.0 (sym w.1 ∙ (ap (at_number slots) is ∙ out)) in
          ap (is_ready d slots1) (put_other slots k n (Over e) apart ∙ w.1)
          ∙ (ap (λ i. ended_here (at_number slots1 i)) w.2 ∙ ap ended_here ended_k)
        where
          no_waiter : (a : A) → ◌≡◌ {A = Option (Status R A E)} (Some (Waiting a)) (Some Out) → ⊥
          no_waiter a q = cc

      pub next_ready : is_ready d slots1 (at_number slots1 n) ≡ true
      next_ready = by (first_in (chain_at rs.queue.waiters.items k)) refl
        where
          by : (o : Option ℕ) → first_in (chain_at rs.queue.waiters.items k) ≡ o
              → is_ready d slots1 (at_number slots1 n) ≡ true
          by None h =
              let is : first_in rs.queue.ready ≡ Some n =
              sym (ap (λ z. first_or z (first_in rs.queue.ready)) h) ∙ first in
              ready_on d ends slots k (Over e) n out (first_ready d ends group rs slots lone strays st n is)
          by (Some m) h =
              let is : first_in (chain_at rs.queue.waiters.items k) ≡ Some n =
              h ∙ (sym (ap (λ z. first_or z (first_in rs.queue.ready)) h) ∙ first) in
              woken
              (head_in rs.queue.links.items (chain_at rs.queue.waiters.items k) (st.queued.waits k) n
              (st.queued.lists.waits_are k) is)

      pub next_apart : n ≢ k
      next_apart is =
          no_more
          (sym (ap (is_ready d slots1) (ap (at_number slots1) is ∙ ended_k)) ∙ next_ready)

      pub next_same : at_number slots1 n ≡ at_number slots n
      next_same = put_other slots k n (Over e) next_apart

      pub next_status : (y : Status R A E) × (at_number slots1 n ≡ Some y) × CanDraw d ends slots1 y
      next_status = can_draw d ends slots1 (at_number slots1 n) next_ready

      open_of : (y : Status R A E) → CanDraw d ends slots1 y → at_number slots n ≡ Some y
          → (x : Status R A E) × (record_at rs.list.items n ≡ Some x) × IsOpenRecord x
      open_of (Ready r) h at = (
        Ready r,
        record_of d ends rs.list.items slots lone st.shadows n (Ready r) at (λ q. cc) (λ q. cc),
        tt,
      )
      open_of Out h at = absurd h
      open_of (Waiting a) h at = (
        Waiting a,
        record_of d ends rs.list.items slots lone st.shadows n (Waiting a) at (λ q. cc) (λ q. cc),
        tt,
      )
      open_of (Over i) h at = absurd h
      open_of Gone h at = absurd h

      pub next_open : (x : Status R A E) × (record_at rs.list.items n ≡ Some x) × IsOpenRecord x
      next_open = open_of next_status.0 next_status.2 (sym next_same ∙ next_status.1)

      -- where it is a joiner its joinee has ended
      pub next_waits : (a : A) → record_at rs.list.items n ≡ Some (Waiting a)
          → (at_number slots1 n ≡ Some (Waiting a)) × (ended_here (at_number slots1 (d.on a)) ≡ true)
      next_waits a here =
          let at = next_same ∙ (st.shadows.recorded n (Waiting a) here).0 in
          (at, sym (ap (is_ready d slots1) at) ∙ next_ready)

    pub next_kept : IsFirstKept rs.list.items (first_after rs.queue k)
    next_kept = by (first_after rs.queue k) refl
      where
        by : (o : Option ℕ) → first_after rs.queue k ≡ o → IsFirstKept rs.list.items o
        by None h = tt
        by (Some n) h = next_open n h

    -- another revision than this one, which has ended
    over_on : (j : ℕ) (i : E) → record_at rs.list.items j ≡ Some (Over i) → at_number slots1 j ≡ Some (Over i)
    over_on j i here =
        let at = (st.shadows.recorded j (Over i) here).0 in
        let apart : j ≢ k = λ is. clash i (sym at ∙ (ap (at_number slots) is ∙ out)) in
        put_other slots k j (Over e) apart ∙ at
      where
        clash : (i : E) → ◌≡◌ {A = Option (Status R A E)} (Some (Over i)) (Some Out) → ⊥
        clash i q = cc

    claimed_on : (j : ℕ) → (j ≡ k) ⊎ ((i : E) × (record_at rs.list.items j ≡ Some (Over i)))
        → (i : E) × (at_number slots1 j ≡ Some (Over i))
    claimed_on j (inl is) = (e, ap (at_number slots1) is ∙ ended_k)
    claimed_on j (inr h) = (h.0, over_on j h.0 h.1)

    pub comes_next : (c : Coming) → IsComing d rs k c → IsNoStop c → ComesAt d ends slots1 c
    comes_next coming.Nobody h not_stop = tt
    comes_next (coming.Takes n) h not_stop = next_status n h.0
    comes_next (coming.Claims n j) h not_stop =
        let a = h.1.0 in (a, (next_waits n h.0 a h.1.1).0, sym h.1.2, claimed_on j h.1.3)
    comes_next (coming.Stops n) h not_stop = absurd not_stop

    -- the joinee of one that stops was joined
    pub stops_next : (n : ℕ) → (h : IsComing d rs k (coming.Stops n))
        → (at_number slots1 n ≡ Some (Waiting h.1.0)) × (at_number slots1 (d.on h.1.0) ≡ Some Gone)
    stops_next n h =
        let a = h.1.0 in
        let w = next_waits n h.0 a h.1.1 in
        let same = put_other slots k (d.on a) (Over e) h.1.2.0 in
        (w.0, same ∙ gone a h.1.2.1 (at_number slots (d.on a)) refl (sym (ap ended_here same) ∙ w.1))
      where
        gone : (a : A) → ((i : E) → record_at rs.list.items (d.on a) ≢ Some (Over i)) → (o : Option (Status R A E))
            → at_number slots (d.on a) ≡ o → ended_here o ≡ true → o ≡ Some Gone
        gone a never None at q = no_more q
        gone a never (Some (Ready r)) at q = no_more q
        gone a never (Some Out) at q = no_more q
        gone a never (Some (Waiting b)) at q = no_more q
        gone a never (Some (Over i)) at q =
            absurd (never i (record_of d ends rs.list.items slots lone st.shadows (d.on a) (Over i) at (λ z. cc)
            (λ z. cc)))
        gone a never (Some Gone) at q = refl

    -- the run queue behind the end
    pub ended_first : (q' : RunQueue) → EndsOne rs.queue q' k → first_in q'.ready ≡ first_after rs.queue k
    ended_first q' ended =
        let q = st.queued in
        let lists = ended.0 q.ready q.waits q.lists (is_once d (length rs.list.items) slots rs.queue q) in
        let w = list_head rs.queue.links.items (chain_at rs.queue.waiters.items k) (q.waits k) (q.lists.waits_are k) in
        let r = list_head rs.queue.links.items rs.queue.ready q.ready q.lists.ready_is in
        list_head q'.links.items q'.ready (q.waits k ++ q.ready) lists.ready_is
        ∙ (head_append (q.waits k) q.ready
        ∙ ap (λ (z : Option ℕ × Option ℕ). first_or z.0 z.1) (λ i. (sym w i, sym r i)))
