-- Records and their run queue stand to the statuses as before, after each change of one revision.
use Rattle.std.proofs.Common.{◌≡◌, inl, inr, ℕ, ◌+◌, ◌<◌, Bool, false, List, [], ◌∷◌, ◌++◌, length, refl, sym, ap, ◌∙◌, subst, Option, Some, None}
use mathlib.Core.Logic.{dite}
use native.Mathlib.Decide.{ℕ_discrete}
use Rattle.revision_machine.specs.Numbered.{at_number, put_number}
use Rattle.revision_machine.proofs.Paths.{some_inj}
use Rattle.revision_machine.proofs.Numbers.{none_some}
use Rattle.revision_machine.proofs.Lists.{put_other, put_here, at_length}
use Rattle.hub_core.specs.declared.status.Status.{Status}
use Rattle.hub_core.specs.declared.status.Status.TheVariants.{Ready, Out, Waiting, Over, Gone}
use Rattle.hub_core.specs.declared.run_queue.RunQueue.{RunQueue}
use Rattle.hub_core.specs.HubMachine.{HubMachine}
use Rattle.hub_core.specs.Counts.{times}
use Rattle.hub_core.specs.Chains.{HasLists, IsAsLong, Adds, Takes, DelaysOne, EndsOne, ReadiesOne}
use Rattle.hub_core.specs.Found.{ended_here}
use Rattle.hub_core.specs.Passes.{without}
use Rattle.hub_core.specs.Rule.{IsOfGroup}
use Rattle.hub_core.specs.Tally.{record_at, Shadows, QueuedTo, IsQueued, AreTracked}
use Rattle.hub_core.specs.Recorded.{put_record, IsLonger}
use Rattle.hub_core.proofs.Moves.{at_before}
use Rattle.hub_core.proofs.Lines.{queue_end, queue_delay, queue_back, queue_take, queue_join, queue_gone, queue_add, queue_keep, queue_lone}
use Rattle.hub_core.proofs.Shadowing.{record_within, put_record_within, put_record_length, shadows_add, shadows_keep, shadows_record, shadows_gone, tracked_put}
use Rattle.hub_core.proofs.Staying.{put_record_other, shadows_put}

module _ {L R A E : Type 0} (d : HubMachine L R A E) (ends : E → L → Type 0) (group : List ℕ) where
  abbrev Recs : Type 0
  Recs = List (Option (Status R A E))

  abbrev Slots : Type 0
  Slots = List (Status R A E)

  abbrev pub AreGrouped : Recs → Type 0
  AreGrouped rs = (j : ℕ) (x : Status R A E) → record_at rs j ≡ Some x → IsOfGroup d ends group x

  pub record Stands (rs : Recs) (q : RunQueue) (slots : Slots) (lone : List ℕ) (strays : Bool) : Type 0 where
    pub shadows : Shadows rs slots lone
    pub queued : IsQueued d rs slots q
    pub tracked : strays ≡ false → AreTracked d rs slots
    pub grouped : AreGrouped rs

  -- the joiner that waits
  abbrev joiner_or : A → Status R A E → A
  joiner_or b (Ready r) = b
  joiner_or b Out = b
  joiner_or b (Waiting a) = a
  joiner_or b (Over e) = b
  joiner_or b Gone = b

  grouped_put : (rs : Recs) (n : ℕ) (x : Status R A E) → n < length rs → AreGrouped rs → IsOfGroup d ends group x
      → AreGrouped (put_record rs n x)
  grouped_put rs n x within all own j z e = dite (ℕ_discrete j n)
      (λ is.
      let got : Some x ≡ Some z =
      sym (put_record_within rs n x within) ∙ (ap (record_at (put_record rs n x)) (sym is) ∙ e) in
      subst (IsOfGroup d ends group) (some_inj got) own)
      (λ ne. all j z (sym (put_record_other rs n j x ne) ∙ e))

  module _ (rs : Recs) (q : RunQueue) (slots : Slots) (lone : List ℕ) (strays : Bool)
      (st : Stands rs q slots lone strays) where
    -- another status of a revision that has a record
    stands_put : (k : ℕ) (y x : Status R A E) (q' : RunQueue) → record_at rs k ≡ Some y
        → QueuedTo d (length rs) (put_number slots k x) q' → IsOfGroup d ends group x
        → ((a : A) → x ≡ Waiting a → strays ≡ false → (z : Status R A E) × (record_at rs (d.on a) ≡ Some z))
        → Stands (put_record rs k x) q' (put_number slots k x) lone strays
    stands_put k y x q' here queued own waits =
        let within = record_within rs k y here in
        let was = (st.shadows.recorded k y here).0 in
        record {
          shadows = shadows_put rs slots lone k y x st.shadows here;
          queued = subst (λ m. QueuedTo d m (put_number slots k x) q') (sym (put_record_length rs k x)) queued;
          tracked = λ none. tracked_put d rs slots (put_number slots k x) k x within (st.tracked none)
              (λ j a e. dite (ℕ_discrete j k)
              (λ is.
              let got : Some x ≡ Some (Waiting a) =
              sym (put_here slots k y x was) ∙ (ap (at_number (put_number slots k x)) (sym is) ∙ e) in
              inr (waits a (some_inj got) none))
              (λ ne. inl (sym (put_other slots k j x ne) ∙ e)));
          grouped = grouped_put rs k x within st.grouped own;
        }

    pub stands_end : (k : ℕ) (e : E) (q' : RunQueue) → record_at rs k ≡ Some Out → EndsOne q q' k
        → Stands (put_record rs k (Over e)) q' (put_number slots k (Over e)) lone strays
    stands_end k e q' here ended =
        stands_put k Out (Over e) q' here
        (queue_end d (length rs) k e st.queued (st.shadows.recorded k Out here).0 ended) tt (λ a w none. absurd cc)

    -- a joiner waits for what has not ended
    pub stands_wait : (k : ℕ) (a : A) (q' : RunQueue) → record_at rs k ≡ Some Out
        → ended_here (at_number slots (d.on a)) ≡ false → DelaysOne q q' k (d.on a) → d.joiner_group a ≡ group
        → (strays ≡ false → (z : Status R A E) × (record_at rs (d.on a) ≡ Some z))
        → Stands (put_record rs k (Waiting a)) q' (put_number slots k (Waiting a)) lone strays
    stands_wait k a q' here open_now delays own recorded =
        stands_put k Out (Waiting a) q' here
        (queue_delay d (length rs) k a st.queued (st.shadows.recorded k Out here).0 open_now delays) own
        (λ b w none.
        let same : a ≡ b = ap (joiner_or a) w in
        subst (λ (c : A). (z : Status R A E) × (record_at rs (d.on c) ≡ Some z)) same (recorded none))

    pub stands_back : (k : ℕ) (c : R) (q' : RunQueue) → record_at rs k ≡ Some Out → ReadiesOne q q' k
        → d.runner_group c ≡ group → Stands (put_record rs k (Ready c)) q' (put_number slots k (Ready c)) lone strays
    stands_back k c q' here back own =
        stands_put k Out (Ready c) q' here
        (queue_back d (length rs) k c st.queued (st.shadows.recorded k Out here).0 back) own (λ a w none. absurd cc)

    -- what is ready is taken
    pub stands_take : (k : ℕ) (y : Status R A E) (q' : RunQueue) → record_at rs k ≡ Some y → Takes q q' (Some k)
        → (q'.unfinished ≡ q.unfinished) × IsAsLong q q'
        → Stands (put_record rs k Out) q' (put_number slots k Out) lone strays
    stands_take k y q' here takes same =
        stands_put k y Out q' here
        (queue_take d (length rs) k st.queued takes same (st.shadows.recorded k y here).0 refl) tt
        (λ a w none. absurd cc)

    -- an end is joined
    pub stands_join : (k : ℕ) (e : E) → record_at rs k ≡ Some (Over e)
        → Stands (put_record rs k Gone) q (put_number slots k Gone) lone strays
    stands_join k e here =
        stands_put k (Over e) Gone q here
        (queue_join d (length rs) k st.queued (st.shadows.recorded k (Over e) here).0 refl) tt (λ a w none. absurd cc)

    -- a revision that ends and is joined at once
    pub stands_gone : (k : ℕ) (e : E) (q' : RunQueue) → record_at rs k ≡ Some Out → EndsOne q q' k
        → Stands (put_record rs k Gone) q' (put_number slots k Gone) lone strays
    stands_gone k e q' here ended =
        stands_put k Out Gone q' here
        (queue_gone d (length rs) k e st.queued (st.shadows.recorded k Out here).0 ended) tt (λ a w none. absurd cc)

    -- the same of one that a seat kept
    pub stands_gone_lone : (i : ℕ) (q' : RunQueue) → record_at rs i ≡ None → at_number slots i ≡ Some Out
        → strays ≡ false
        → ((ready : List ℕ) (waits : ℕ → List ℕ) → HasLists q ready waits → HasLists q' ready waits)
        → q'.unfinished + 1 ≡ q.unfinished → IsAsLong q q'
        → Stands rs q' (put_number slots i Gone) (without i lone) strays
    stands_gone_lone i q' none out free lists less long = record {
      shadows = shadows_gone rs slots lone i st.shadows none out;
      queued = queue_lone d (length rs) slots q q' i st.queued out
          (λ j a e is.
          let t = st.tracked free j a e in none_some (sym none ∙ (ap (record_at rs) (sym is) ∙ t.1))) lists less long;
      tracked = λ h j a e. dite (ℕ_discrete j i)
          (λ is.
          let got : Some Gone ≡ Some (Waiting a) =
          sym (put_here slots i Out Gone out) ∙ (ap (at_number (put_number slots i Gone)) (sym is) ∙ e) in
          absurd cc)
          (λ ne. st.tracked h j a (sym (put_other slots i j Gone ne) ∙ e));
      grouped = st.grouped;
    }

    -- the child of a fork, which is ready
    pub stands_add : (n : ℕ) (c : R) (q' : RunQueue) → n ≡ length slots → n < length rs → times n lone ≡ 0
        → Adds q q' n → q'.unfinished ≡ q.unfinished + 1 → IsAsLong q q' → d.runner_group c ≡ group
        → Stands (put_record rs n (Ready c)) q' (slots ++ Ready c ∷ []) lone strays
    stands_add n c q' is within none adds more long own = record {
      shadows = shadows_add rs slots lone n (Ready c) st.shadows is within none;
      queued = subst (λ m. QueuedTo d m (slots ++ Ready c ∷ []) q') (sym (put_record_length rs n (Ready c)))
          (queue_add d (length rs) c st.queued is adds more long);
      tracked = λ h. tracked_put d rs slots (slots ++ Ready c ∷ []) n (Ready c) within (st.tracked h)
          (λ j a e. dite (ℕ_discrete j (length slots))
          (λ at.
          let got : Some (Ready c) ≡ Some (Waiting a) =
          sym (at_length slots (Ready c) []) ∙ (ap (at_number (slots ++ Ready c ∷ [])) (sym at) ∙ e) in
          absurd cc)
          (λ ne. inl (sym (at_before slots (Ready c) j ne) ∙ e)));
      grouped = grouped_put rs n (Ready c) within st.grouped own;
    }

    -- the child of a fork, which the seat keeps
    pub stands_keep : (n : ℕ) (q' : RunQueue) → n ≡ length slots
        → ((ready : List ℕ) (waits : ℕ → List ℕ) → HasLists q ready waits → HasLists q' ready waits)
        → q'.unfinished ≡ q.unfinished + 1 → IsAsLong q q' → Stands rs q' (slots ++ Out ∷ []) (n ∷ lone) strays
    stands_keep n q' is lists more long = record {
      shadows = shadows_keep rs slots lone n st.shadows is;
      queued = queue_keep d (length rs) slots q q' st.queued lists more long;
      tracked = λ h j a e. dite (ℕ_discrete j (length slots))
          (λ at.
          let got : Some Out ≡ Some (Waiting a) =
          sym (at_length slots Out []) ∙ (ap (at_number (slots ++ Out ∷ [])) (sym at) ∙ e) in
          absurd cc)
          (λ ne. st.tracked h j a (sym (at_before slots Out j ne) ∙ e));
      grouped = st.grouped;
    }

    -- a record of a child that a seat kept, and that seats have from then on
    pub stands_record : (n : ℕ) → n < length rs → at_number slots n ≡ Some Out
        → Stands (put_record rs n Out) q slots (without n lone) strays
    stands_record n within out = record {
      shadows = shadows_record rs slots lone n st.shadows within out;
      queued = subst (λ m. QueuedTo d m slots q) (sym (put_record_length rs n Out)) st.queued;
      tracked = λ h. tracked_put d rs slots slots n Out within (st.tracked h) (λ j a e. inl e);
      grouped = grouped_put rs n Out within st.grouped tt;
    }

    -- places without records
    pub stands_longer : (rs' : Recs) (q' : RunQueue) → IsLonger q q' rs rs' → Stands rs' q' slots lone strays
    stands_longer rs' q' longer = record {
      shadows = record {
        recorded = λ j x e. st.shadows.recorded j x (sym (longer.same j) ∙ e);
        others = λ j e. st.shadows.others j (sym (longer.same j) ∙ e);
      };
      queued = record {
        ready = st.queued.ready;
        waits = st.queued.waits;
        lists = longer.lists st.queued.ready st.queued.waits st.queued.lists;
        ready_are = st.queued.ready_are;
        waits_are = st.queued.waits_are;
        links = longer.links;
        reach = longer.reach;
        count = longer.unfinished ∙ st.queued.count;
      };
      tracked = λ h j a e. let t = st.tracked h j a e in (t.0, longer.same (d.on a) ∙ t.1);
      grouped = λ j x e. st.grouped j x (sym (longer.same j) ∙ e);
    }
