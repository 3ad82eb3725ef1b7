-- What a seat goes on with in the turn in which it hands a revision in: what comes first.
--   head_of, first_or          the first of a list; this, or else that
--   IsOpenRecord, IsFirstKept  no seat has it, and it has not ended; so it is of what comes first
--   TakesFirst, IsFirstTaken   what comes first is taken out of the records
--   first_after                what comes first once a revision has ended
--   coming_deeds, coming_slots what the seat does with it, and what that makes of the statuses
--   coming_of, IsNoStop        it is taken, where something comes; it is no joiner that joins Twice
--   IsClaimed, IsComing        whether its joinee has an end to take in, and so what is done with it
--   FirstJoins, HasGoneOn      the records behind that, where a joiner takes in the end of its joinee
use Rattle.std.specs.Prelude.{◌≡◌, ◌≢◌, ◌⊎◌, ℕ, Bool, true, false, List, [], ◌∷◌, Option, Some, None}
use Rattle.revision_machine.specs.Numbered.{put_number}
use Rattle.hub_core.specs.HubMachine.{HubMachine}
use Rattle.hub_core.specs.declared.status.Status.{Status}
use Rattle.hub_core.specs.declared.status.Status.TheVariants.{Ready, Out, Waiting, Over, Gone}
use Rattle.hub_core.specs.declared.deed.Deed.{Deed}
use Rattle.hub_core.specs.declared.deed.Deed.TheVariants.{Commits, Draws}
use Rattle.hub_core.specs.declared.records.Records.{Records}
use Rattle.hub_core.specs.declared.run_queue.RunQueue.{RunQueue}
use Rattle.hub_core.specs.Chains.{Takes as TakesNumber, IsAsLong, chain_at}
use Rattle.hub_core.specs.Marks.{first_in}
use Rattle.hub_core.specs.Recorded.{put_record}
use Rattle.hub_core.specs.Tally.{record_at}
use Rattle.turn_hub.specs.declared.answers.Onward.{Onward}
use Rattle.turn_hub.specs.declared.answers.Onward.TheVariants as onward
use Rattle.turn_hub.specs.declared.answers.EndStep.{EndStep}
use Rattle.turn_hub.specs.declared.answers.EndStep.TheVariants as ending
use Rattle.turn_hub.specs.Answers.{TakesIn}
use Rattle.turn_hub.specs.declared.coming.Coming.{Coming}
use Rattle.turn_hub.specs.declared.coming.Coming.TheVariants.{Nobody, Takes, Claims, Stops}

abbrev pub head_of : List ℕ → Option ℕ
head_of [] = None
head_of (n ∷ ns) = Some n

abbrev pub first_or : Option ℕ → Option ℕ → Option ℕ
first_or None o = o
first_or (Some n) o = Some n

-- what waits for it comes before what is ready
abbrev pub first_after : RunQueue → ℕ → Option ℕ
first_after q k = first_or (first_in (chain_at q.waiters.items k)) (first_in q.ready)

abbrev pub coming_deeds : Coming → List Deed
coming_deeds Nobody = []
coming_deeds (Takes n) = Draws n ∷ []
coming_deeds (Claims n i) = Draws n ∷ Commits n ∷ []
coming_deeds (Stops n) = Draws n ∷ Commits n ∷ []

abbrev pub IsNoStop : Coming → Type 0
IsNoStop Nobody = Unit {0}
IsNoStop (Takes n) = Unit {0}
IsNoStop (Claims n i) = Unit {0}
IsNoStop (Stops n) = ⊥

abbrev pub coming_of : Option ℕ → Coming
coming_of None = Nobody
coming_of (Some n) = Takes n

module _ {R A E : Type 0} where
  -- no seat has it, and it has not ended
  abbrev pub IsOpenRecord : Status R A E → Type 0
  IsOpenRecord (Ready r) = Unit {0}
  IsOpenRecord Out = ⊥
  IsOpenRecord (Waiting a) = Unit {0}
  IsOpenRecord (Over e) = ⊥
  IsOpenRecord Gone = ⊥

  abbrev pub IsFirstKept : List (Option (Status R A E)) → Option ℕ → Type 0
  IsFirstKept rs None = Unit {0}
  IsFirstKept rs (Some n) = (x : Status R A E) × (record_at rs n ≡ Some x) × IsOpenRecord x

  -- the first is out, and had this record
  pub record TakesFirst (rs rs' : Records R A E) (n : ℕ) (x : Status R A E) : Type 0 where
    pub first : first_in rs.queue.ready ≡ Some n
    pub was : record_at rs.list.items n ≡ Some x
    pub list : rs'.list.items ≡ put_record rs.list.items n Out
    pub takes : TakesNumber rs.queue rs'.queue (Some n)
    pub same : (rs'.queue.unfinished ≡ rs.queue.unfinished) × IsAsLong rs.queue rs'.queue

  abbrev pub IsFirstTaken : Records R A E → Records R A E → Onward R A → Type 0
  IsFirstTaken rs rs' (onward.Run n r) = TakesFirst rs rs' n (Ready r)
  IsFirstTaken rs rs' (onward.Retry n a) = TakesFirst rs rs' n (Waiting a)
  IsFirstTaken rs rs' onward.Nothing = (first_in rs.queue.ready ≡ None) × (rs' ≡ rs)

  abbrev pub coming_slots : Coming → List (Status R A E) → List (Status R A E)
  coming_slots Nobody slots = slots
  coming_slots (Takes n) slots = put_number slots n Out
  coming_slots (Claims n i) slots = put_number (put_number slots n Out) i Gone
  coming_slots (Stops n) slots = put_number slots n Out

  -- the joinee j has the end that is handed in for k, or has a record with its end
  abbrev pub IsClaimed : List (Option (Status R A E)) → ℕ → ℕ → Bool → Type 0
  IsClaimed rs k j true = (j ≡ k) ⊎ ((e : E) × (record_at rs j ≡ Some (Over e)))
  IsClaimed rs k j false = (j ≢ k) × ((e : E) → record_at rs j ≢ Some (Over e))

module _ {L R A E : Type 0} (d : HubMachine L R A E) where
  -- what comes once the revision k has ended
  abbrev pub IsComing : Records R A E → ℕ → Coming → Type 0
  IsComing rs k Nobody = first_after rs.queue k ≡ None
  IsComing rs k (Takes n) =
      (first_after rs.queue k ≡ Some n) × ((r : R) × (record_at rs.list.items n ≡ Some (Ready r)))
  IsComing rs k (Claims n j) =
      (first_after rs.queue k ≡ Some n)
      × ((a : A) × (record_at rs.list.items n ≡ Some (Waiting a)) × (j ≡ d.on a) × IsClaimed rs.list.items k j true)
  IsComing rs k (Stops n) =
      (first_after rs.queue k ≡ Some n)
      × ((a : A) × (record_at rs.list.items n ≡ Some (Waiting a)) × IsClaimed rs.list.items k (d.on a) false)

  -- where the first is a joiner, its joinee has an end to take in once the joiner is out
  abbrev pub FirstJoins : List (Option (Status R A E)) → Option ℕ → Type 0
  FirstJoins rs None = Unit {0}
  FirstJoins rs (Some n) =
      (a : A) → record_at rs n ≡ Some (Waiting a)
      → (e : E) × (record_at (put_record rs n Out) (d.on a) ≡ Some (Over e))

  module _ {C S : Type 0} (ends : E → L → Type 0) (claimed : C → A → E → Type 0) (stopped : S → A → E → Type 0)
      (group : C → List ℕ) (halted : S → List ℕ) where
    abbrev pub HasGoneOn : Records R A E → Records R A E → EndStep R A C S → Type 0
    HasGoneOn rs rs' (ending.Run n r) = TakesFirst rs rs' n (Ready r)
    HasGoneOn rs rs' (ending.Came n answer) =
        (mid : Records R A E) × (a : A) × (e : E) × TakesFirst rs mid n (Waiting a)
        × (record_at mid.list.items (d.on a) ≡ Some (Over e))
        × (rs'.list.items ≡ put_record mid.list.items (d.on a) Gone) × (rs'.queue ≡ mid.queue)
        × TakesIn d ends claimed stopped group halted a e answer
    HasGoneOn rs rs' ending.Nothing = (first_in rs.queue.ready ≡ None) × (rs' ≡ rs)
