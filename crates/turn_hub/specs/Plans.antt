-- The plan of a value, which the seat with the turn carries out at one moment.
--   CanEnter, CanHalt       the plan may be carried out; and then the tally is closed
--   IsEntered, IsShut       it was carried out, of whatever statuses the seat knows its value to stand for
--   SameValue               two values that differ in their plans and their room alone
--   HasMoreRoom             the second has more room
--   HasPlan                 the plan is this
--   IsSettled, IsTaken, IsBorn   what is done to a value for a joinee, and for a child that the seat takes
--   lone_list, lone_of      a number where this is so
--   settle_deeds, keep_deeds   the end of a joinee and its join; and then a fork and the child that the seat takes
--   fork_deeds, behind_deeds   a fork, and a fork behind the end of a joinee and its join
--   end_deeds               what the end of a revision is: no entry where its join trapped it
use Rattle.std.specs.Prelude.{◌≡◌, ◌+◌, ℕ, Bool, true, false, List, [], ◌∷◌, Option, Some, None}
use Rattle.hub_core.specs.HubMachine.{HubMachine}
use Rattle.hub_core.specs.declared.status.Status.{Status}
use Rattle.hub_core.specs.declared.status.Status.TheVariants.{Out, Gone}
use Rattle.hub_core.specs.Chains.{HasLists, IsAsLong, EndsOne}
use Rattle.hub_core.specs.Recorded.{put_record, IsLonger}
use Rattle.hub_core.specs.declared.state.HubState.{HubState}
use Rattle.hub_core.specs.declared.sight.Sight.{Sight}
use Rattle.hub_core.specs.declared.desk.Desk.{Desk}
use Rattle.hub_core.specs.declared.deed.Deed.{Deed}
use Rattle.hub_core.specs.declared.deed.Deed.TheVariants.{Commits, HandsIn, Draws}
use Rattle.hub_core.specs.Tally.{HasDesk, MayEnter, MayShut, Entered, Shut}
use Rattle.hub_core.specs.TallySteps.{kept_after}

module _ {L R A E : Type 0} (d : HubMachine L R A E) (ends : E → L → Type 0) where
  pub record CanEnter (v : Sight L) (desk : Desk R A E) (birth : Option ℕ) (fits : ℕ → Type 0) : Type 0 where
    pub hand : HasDesk d ends v desk
    pub es : List ℕ
    pub to : List (Status R A E) → List (Status R A E)
    pub may : MayEnter d ends v desk.plan.deeds.items es birth fits (kept_after desk v.mine) (kept_after desk) to
    pub same : may.slots ≡ hand.slots

  pub record CanHalt (h : HubState) (v : Sight L) (desk : Desk R A E) : Type 0 where
    pub hand : HasDesk d ends v desk
    pub to : List (Status R A E) → List (Status R A E)
    pub may : MayShut d ends h v desk.plan.deeds.items (kept_after desk v.mine) (kept_after desk) to
    pub same : may.slots ≡ hand.slots

  abbrev pub IsEntered : Sight L → Sight L → Desk R A E → Option ℕ → ℕ → Type 0
  IsEntered v w desk birth count =
      (start : L) (hand : HasDesk d ends v desk) → v.seat.start ≡ Some start
      → Entered d ends v w start hand.slots desk.plan.deeds.items birth (kept_after desk v.mine) (kept_after desk) count

  abbrev pub IsShut : HubState → Sight L → Sight L → Desk R A E → Type 0
  IsShut h v w desk =
      (start : L) (hand : HasDesk d ends v desk) → v.seat.start ≡ Some start
      → Shut d ends h v w start hand.slots desk.plan.deeds.items (kept_after desk v.mine) (kept_after desk)

module _ {R A E : Type 0} where
  pub record SameValue (desk desk' : Desk R A E) : Type 0 where
    pub entries : desk'.journal.entries.items ≡ desk.journal.entries.items
    pub limit : desk'.journal.limit ≡ desk.journal.limit
    pub records : desk'.records ≡ desk.records
    pub state : desk'.state ≡ desk.state
    pub lent : desk'.lent ≡ desk.lent
    pub strays : desk'.strays ≡ desk.strays

  -- the second has more room, and is else the same
  pub record HasMoreRoom (desk desk' : Desk R A E) : Type 0 where
    pub entries : desk'.journal.entries.items ≡ desk.journal.entries.items
    pub limit : desk'.journal.limit ≡ desk.journal.limit
    pub longer : IsLonger desk.records.queue desk'.records.queue desk.records.list.items desk'.records.list.items
    pub state : desk'.state ≡ desk.state
    pub lent : desk'.lent ≡ desk.lent
    pub strays : desk'.strays ≡ desk.strays

  abbrev pub HasPlan : Desk R A E → List Deed → Option ℕ → Option ℕ → Type 0
  HasPlan desk ds leaves keeps =
      (desk.plan.deeds.items ≡ ds) × (desk.plan.leaves ≡ leaves) × (desk.plan.keeps ≡ keeps)

abbrev pub end_deeds : Bool → ℕ → List Deed
end_deeds true k = HandsIn k ∷ []
end_deeds false k = Commits k ∷ HandsIn k ∷ []

module _ {R A E : Type 0} where
  -- what is done to a value for a joinee that has ended and was joined: the seat kept it, or it has a record
  abbrev pub IsSettled : Bool → ℕ → Desk R A E → Desk R A E → Type 0
  IsSettled true i desk desk' =
      (desk'.records.list.items ≡ desk.records.list.items)
      × ((ready : List ℕ) (waits : ℕ → List ℕ) → HasLists desk.records.queue ready waits
      → HasLists desk'.records.queue ready waits)
      × (desk'.records.queue.unfinished + 1 ≡ desk.records.queue.unfinished)
      × IsAsLong desk.records.queue desk'.records.queue × (desk'.lent + 1 ≡ desk.lent)
  IsSettled false i desk desk' =
      (desk'.records.list.items ≡ put_record desk.records.list.items i Gone)
      × EndsOne desk.records.queue desk'.records.queue i × (desk'.lent ≡ desk.lent)

  -- for the child that the seat takes: it keeps it, or it has a record
  abbrev pub IsTaken : Bool → ℕ → Desk R A E → Desk R A E → Type 0
  IsTaken true n desk desk' =
      (desk'.records.list.items ≡ desk.records.list.items) × (desk'.lent ≡ desk.lent + 1)
  IsTaken false n desk desk' =
      (desk'.records.list.items ≡ put_record desk.records.list.items n Out) × (desk'.lent ≡ desk.lent)

  -- one more has not ended
  abbrev pub IsBorn : Desk R A E → Desk R A E → Type 0
  IsBorn desk desk' =
      ((ready : List ℕ) (waits : ℕ → List ℕ) → HasLists desk.records.queue ready waits
      → HasLists desk'.records.queue ready waits)
      × (desk'.records.queue.unfinished ≡ desk.records.queue.unfinished + 1)
      × IsAsLong desk.records.queue desk'.records.queue

abbrev pub lone_list : Bool → ℕ → List ℕ
lone_list true i = i ∷ []
lone_list false i = []

abbrev pub lone_of : Bool → ℕ → Option ℕ
lone_of true i = Some i
lone_of false i = None

abbrev pub settle_deeds : ℕ → ℕ → List Deed
settle_deeds i k = Commits i ∷ HandsIn i ∷ Commits k ∷ []

abbrev pub keep_deeds : ℕ → ℕ → ℕ → List Deed
keep_deeds i k n = Commits i ∷ HandsIn i ∷ Commits k ∷ Commits k ∷ Draws n ∷ []

abbrev pub fork_deeds : ℕ → List Deed
fork_deeds k = Commits k ∷ []

abbrev pub behind_deeds : ℕ → ℕ → List Deed
behind_deeds i k = Commits i ∷ HandsIn i ∷ Commits k ∷ Commits k ∷ []
