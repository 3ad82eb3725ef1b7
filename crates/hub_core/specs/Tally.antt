-- The rule of the turn and of a second word, the tally, which counts the revisions. A seat that keeps the child of its
-- last fork can end it, join it and fork again by one exchange of the tally, also while another seat has the turn.
--   pairs, record_at      what the turns entered; a record of a revision
--   both_of .. blank_sight    seats are cut in two and joined
--   IsLone, WasLone       a revision is with a seat that keeps it, or was joined there; it was, or was not yet born
--   Moves                 what rounds of others make of the statuses
--   Shadows, QueuedTo, IsQueued   how the records and the run queue of a desk stand to the statuses
--   Lays                  the value is that of this schedule
--   Follows, HoldsTurn    what the seat with the turn knows, though others go on
--   SeatKnows, Tallied    what each seat knows, and the rule, which holds between any two steps
--   CanRound, MadeRound   what a round asks, and what it tells
--   Deed, do_all          what the seat with the turn does at one moment
--   Now, MayEnter, Entered    what holds at that moment, what such deeds ask, and what they tell
--   IsLast, MayShut, Shut    the same with a halt, which closes the tally
--   HasDesk, Took         the value is in hand, and what taking the turn tells
use Rattle.std.specs.Prelude.{◌≡◌, ◌≢◌, ◌⊎◌, ℕ, zero, suc, ◌+◌, ◌*◌, ◌<◌, ◌≤◌, true, false, List, [], ◌∷◌, ◌++◌, length, slice_index, Option, Some, None}
use Rattle.std.specs.Global.{Box}
use mathlib.Core.Option as m
use lib.ListN.{get_elem?}
use Rattle.atomic_table.specs.Table.{State, Me}
use Rattle.revision_machine.specs.Numbered.{Bears, at_number}
use Rattle.hub_core.specs.declared.status.Status.{Status}
use Rattle.hub_core.specs.declared.status.Status.TheVariants.{Out, Waiting, Gone}
use Rattle.hub_core.specs.Hub.{Tied, EndsLeg, Joins}
use Rattle.hub_core.specs.HubMachine.{HubMachine, numbered, values}
use Rattle.hub_core.specs.declared.state.HubState.{HubState}
use Rattle.hub_core.specs.declared.state.HubState.TheVariants.{All}
use Rattle.hub_core.specs.declared.run_queue.RunQueue.{RunQueue}
use Rattle.hub_core.specs.declared.view.Said.{Said}
use Rattle.hub_core.specs.declared.view.View.{View}
use Rattle.hub_core.specs.declared.sight.Sight.{Sight}
use Rattle.hub_core.specs.declared.deed.Deed.{Deed}
use Rattle.hub_core.specs.declared.deed.Deed.TheVariants.{Commits, HandsIn, Draws}
use Rattle.hub_core.specs.declared.journal.Entry.{Entry}
use Rattle.hub_core.specs.declared.desk.Desk.{Desk}
use Rattle.hub_core.specs.declared.desk.DeskSlot.{DeskSlot}
use Rattle.hub_core.specs.declared.desk.DeskSlot.TheVariants.{Home}
use Rattle.hub_core.specs.Counts.{total, times, flag}
use Rattle.hub_core.specs.Chains.{HasLists}
use Rattle.hub_core.specs.Found.{is_ready, all_over}
use Rattle.hub_core.specs.Queued.{unfinished, waits_for}
use Rattle.hub_core.specs.Passes.{named, without, IsPass, Fresh, IsStartOf, AreStartsOf}
use Rattle.hub_core.specs.Views.{view, blank, commits, hands_in, draws, rests, both, most, part, witness, stops, halt_count}
use Rattle.hub_core.specs.Rule.{OutsAre, done, IsOfGroup, Sound, SoundFrom, says}
use Rattle.hub_core.specs.Seats.{HasCurrent}
use Rattle.hub_core.specs.Rounds.{Item, Round, flat, born, turn_part, round_part, IsRound, children, stamped, add_last}

module _ {R A E : Type 0} where
  abbrev pub records_of : Desk R A E → List (Option (Status R A E))
  records_of desk = desk.records.list.items

  abbrev pub queue_of : Desk R A E → RunQueue
  queue_of desk = desk.records.queue

-- what the turns entered
abbrev pub pairs : List Entry → List (ℕ × ℕ)
pairs [] = []
pairs (e ∷ es) = (e.count, e.number) ∷ pairs es

module _ {L : Type 0} where
  abbrev pub turn_of : Sight L → ℕ
  turn_of v = v.seat.has

  abbrev pub part_of : Sight L → ℕ
  part_of v = v.seat.parts

  abbrev pub halt_of : Sight L → ℕ
  halt_of v = halt_count v.seat.halt

  abbrev pub names_of : ℕ → Sight L → ℕ
  names_of n v = named n v.seat.passes

  abbrev pub mine_of : ℕ → Sight L → ℕ
  mine_of n v = times n v.mine

  abbrev pub makes_of : ℕ → Sight L → ℕ
  makes_of n v = times n (children v.rounds)

  -- as if it had taken the turn and found this
  abbrev pub found_in : List ℕ → List ℕ → List Said → View L → View L
  found_in log out said v =
      view v.parts v.start v.group v.has log out v.passes v.saw v.halt said All log v.turns

  -- the end of i, its join by k, the fork of k, whose child n the seat takes
  abbrev pub round_view : List ℕ → List ℕ → List Said → ℕ → ℕ → ℕ → View L → View L
  round_view log out said i k n v =
      rests (draws n (commits k (commits k (hands_in i (commits i (found_in log out said v))))))

  abbrev pub makes_round : List ℕ → List ℕ → List Said → ℕ → ℕ → ℕ → Sight L → Sight L
  makes_round log out said i k n v = record {
    seat = round_view log out said i k n v.seat;
    rounds = v.rounds ++ (n, i, k) ∷ [];
    mine = n ∷ without i v.mine;
    entries = v.entries;
    forkers = v.forkers;
    lone = v.lone;
    limit = v.limit;
  }

  -- without the turn
  abbrev pub sight : View L → List Round → List ℕ → ℕ → Sight L
  sight seat rounds mine limit = record {
    seat = seat;
    rounds = rounds;
    mine = mine;
    limit = limit;
    entries = [];
    forkers = [];
    lone = [];
  }

  abbrev pub both_of : Sight L → Sight L → Sight L
  both_of v w = sight (both v.seat w.seat) (v.rounds ++ w.rounds) (v.mine ++ w.mine) v.limit

  abbrev pub most_of : Sight L → Sight L
  most_of v = sight (most v.seat) v.rounds v.mine v.limit

  abbrev pub part_from : Sight L → Sight L
  part_from v = sight (part v.seat) [] [] 0

  abbrev pub witness_of : Sight L → Sight L
  witness_of v = sight (witness v.seat) [] [] 0

  abbrev pub blank_sight : Sight L
  blank_sight = sight blank [] [] 0

  -- the same seat without the turn, with these turns noted
  abbrev pub rests_as : List (List ℕ) → View L → View L
  rests_as turns v =
      view v.parts v.start v.group 0 v.log [] v.passes v.saw v.halt v.said v.entered v.found turns

  -- the turn is given back, and is noted, or not
  abbrev pub gives_back : Sight L → Sight L
  gives_back v = sight (rests v.seat) v.rounds v.mine v.limit

  abbrev pub lets_pass : Sight L → Sight L
  lets_pass v = sight (rests_as v.seat.turns v.seat) v.rounds v.mine v.limit

  -- there is room for all numbers below this one
  abbrev pub makes_room : ℕ → Sight L → Sight L
  makes_room limit v = record {
    seat = v.seat;
    rounds = v.rounds;
    mine = v.mine;
    limit = limit;
    entries = v.entries;
    forkers = v.forkers;
    lone = v.lone;
  }

-- the entries of deeds
abbrev pub entered : List Deed → List ℕ
entered [] = []
entered (Commits k ∷ ds) = k ∷ entered ds
entered (HandsIn k ∷ ds) = entered ds
entered (Draws k ∷ ds) = entered ds

module _ {L : Type 0} where
  abbrev pub do_all : List Deed → View L → View L
  do_all [] v = v
  do_all (Commits k ∷ ds) v = do_all ds (commits k v)
  do_all (HandsIn k ∷ ds) v = do_all ds (hands_in k v)
  do_all (Draws k ∷ ds) v = do_all ds (draws k v)

  abbrev pub enters :
      List ℕ → List ℕ → List ℕ → List Said → List Deed → ℕ → List ℕ → List ℕ → Sight L → Sight L
  enters log forkers out said ds n mine lone v = record {
    seat = do_all ds (found_in log out said v.seat);
    rounds = v.rounds;
    mine = mine;
    entries = v.entries ++ stamped n (entered ds);
    forkers = forkers;
    lone = lone;
    limit = v.limit;
  }

  abbrev pub shuts :
      HubState → List ℕ → List ℕ → List ℕ → List Said → List Deed → ℕ → List ℕ → List ℕ → Sight L → Sight L
  shuts h log forkers out said ds n mine lone v = record {
    seat = stops h (do_all ds (found_in log out said v.seat));
    rounds = v.rounds;
    mine = mine;
    entries = v.entries ++ stamped n (entered ds);
    forkers = forkers;
    lone = lone;
    limit = v.limit;
  }

  -- each is of a revision that the seat has then, or that no seat has
  abbrev pub CanDo : List Deed → View L → Type 0
  CanDo [] v = Unit {0}
  CanDo (Commits k ∷ ds) v = (0 < named k v.passes) × CanDo ds (commits k v)
  CanDo (HandsIn k ∷ ds) v = (0 < named k v.passes) × CanDo ds (hands_in k v)
  CanDo (Draws k ∷ ds) v = (times k v.out ≡ 0) × CanDo ds (draws k v)

module _ {R A E : Type 0} where
  abbrev pub record_at : List (Option (Status R A E)) → ℕ → Option (Status R A E)
  record_at [] n = None
  record_at (x ∷ xs) zero = x
  record_at (x ∷ xs) (suc n) = record_at xs n

  -- a seat keeps it, or it was joined there
  abbrev pub IsLone : List (Status R A E) → List ℕ → ℕ → Type 0
  IsLone slots lone j =
      ((at_number slots j ≡ Some Out) × (0 < times j lone))
      ⊎ ((at_number slots j ≡ Some Gone) × (times j lone ≡ 0))

  -- a seat kept it, or it was not yet born
  abbrev pub WasLone : List (Status R A E) → List ℕ → ℕ → Type 0
  WasLone slots lone j =
      ((at_number slots j ≡ Some Out) × (0 < times j lone))
      ⊎ ((at_number slots j ≡ None) × (times j lone ≡ 0))

  abbrev pub IsSteady :
      List (Status R A E) → List ℕ → List (Status R A E) → List ℕ → ℕ → Type 0
  IsSteady slots lone slots' lone' j =
      (at_number slots' j ≡ at_number slots j) × (times j lone ≡ 0) × (times j lone' ≡ 0)

  abbrev pub Turns :
      List (Status R A E) → List ℕ → List (Status R A E) → List ℕ → ℕ → Type 0
  Turns slots lone slots' lone' j = WasLone slots lone j × IsLone slots' lone' j

  -- rounds of others change nothing but what no record is of
  pub record Moves (slots : List (Status R A E)) (lone : List ℕ) (slots' : List (Status R A E)) (lone' : List ℕ) : Type
      0 where
    pub each : (j : ℕ) → IsSteady slots lone slots' lone' j ⊎ Turns slots lone slots' lone' j
    pub count : unfinished slots' ≡ unfinished slots
    -- a round ends one that is kept, and bears another
    pub as_many : length lone' ≡ length lone

  pub record Shadows (records : List (Option (Status R A E))) (slots : List (Status R A E)) (lone : List ℕ) : Type
      0 where
    pub recorded :
        (j : ℕ) (x : Status R A E) → record_at records j ≡ Some x
        → (at_number slots j ≡ Some x) × (times j lone ≡ 0)
    pub others :
        (j : ℕ) → record_at records j ≡ None
        → IsLone slots lone j ⊎ ((at_number slots j ≡ None) × (times j lone ≡ 0))

module _ {L R A E : Type 0} (d : HubMachine L R A E) where
  -- as Queued, where the links and the lists of joiners reach as far as this
  pub record QueuedTo (many : ℕ) (slots : List (Status R A E)) (q : RunQueue) : Type 0 where
    pub ready : List ℕ
    pub waits : ℕ → List ℕ
    pub lists : HasLists q ready waits
    pub ready_are : (n : ℕ) → times n ready ≡ flag (is_ready d slots (at_number slots n))
    pub waits_are :
        (i n : ℕ) → times n (waits i) ≡ flag (waits_for d slots i (at_number slots n))
    pub links : length q.links.items ≡ many
    pub reach : many ≤ length q.waiters.items
    pub count : q.unfinished ≡ unfinished slots

  abbrev pub IsQueued : List (Option (Status R A E)) → List (Status R A E) → RunQueue → Type 0
  IsQueued records slots q = QueuedTo (length records) slots q

  -- each joiner that waits does so for a revision of which there is a record
  abbrev pub AreTracked : List (Option (Status R A E)) → List (Status R A E) → Type 0
  AreTracked records slots =
      (j : ℕ) (a : A) → at_number slots j ≡ Some (Waiting a)
      → (x : Status R A E) × (record_at records (d.on a) ≡ Some x)

module _ {L R A E : Type 0} (d : HubMachine L R A E) (ends : E → L → Type 0) where
  pub record Lays (group : List ℕ) (desk : Desk R A E) (items : List Item) (slots : List (Status R A E)) (lone : List ℕ)
      (limit : ℕ) : Type 0 where
    pub entries : pairs desk.journal.entries.items ≡ turn_part 1 items
    pub limit_is : desk.journal.limit ≡ limit
    pub lent_is : desk.lent ≡ length lone
    pub shadows : Shadows (records_of desk) slots lone
    pub queued : IsQueued d (records_of desk) slots (queue_of desk)
    pub tracked : desk.strays ≡ false → AreTracked d (records_of desk) slots
    -- where a joiner waits for what has no record, no child is kept
    pub strayed : desk.strays ≡ true → desk.lent ≡ 0
    pub grouped :
        (j : ℕ) (x : Status R A E) → record_at (records_of desk) j ≡ Some x
        → IsOfGroup d ends group x

  -- from these statuses rounds of others have led to others, by which the schedule of now is sound
  pub record Follows (start : Option L) (state : HubState) (before : List (Status R A E))
      (kept log forkers out lone : List ℕ) : Type 0 where
    pub slots : List (Status R A E)
    pub sound : SoundFrom d ends start state log slots forkers
    pub outs : OutsAre slots out
    pub moves : Moves before kept slots lone
    -- where none is kept, none was made
    pub still : kept ≡ [] → slots ≡ before

  pub record HoldsTurn (start : Option L) (items : List Item) (log forkers out lone : List ℕ) (over limit : ℕ)
      (state : HubState) (v : Sight L) : Type 0 where
    pub limit_is : v.limit ≡ limit
    pub entries : v.entries ≡ turn_part 1 items
    pub over_seen : over ≡ 1 → v.seat.saw ≡ 1
    pub halt : v.seat.halt ≡ state
    pub begins : IsStartOf v.seat.log log
    -- whatever the statuses were when it looked last
    pub goes :
        (slots : List (Status R A E)) → SoundFrom d ends start state v.seat.log slots v.forkers
        → OutsAre slots v.seat.out → Follows start state slots v.lone log forkers out lone
    pub as_many : length lone ≡ length v.lone

  pub record SeatKnows (start : Option L) (group : List ℕ) (items : List Item) (log forkers out lone : List ℕ)
      (over limit : ℕ) (state : HubState) (v : Sight L) : Type 0 where
    pub begun : 0 < v.seat.parts → (v.seat.start ≡ start) × (v.seat.group ≡ group)
    pub idle :
        v.seat.parts ≡ 0
        → (v.seat.has ≡ 0) × (v.seat.halt ≡ All) × (v.seat.passes ≡ []) × (v.rounds ≡ []) × (v.mine ≡ [])
    pub holds : v.seat.has ≡ 1 → HoldsTurn start items log forkers out lone over limit state v
    pub fresh : Fresh log v.seat.passes
    pub behind : AreStartsOf log v.seat.turns
    pub saw : v.seat.saw ≡ 1 → over ≡ 1
    pub halted : v.seat.halt ≢ All → v.seat.halt ≡ state
    -- it has the passes of the children that it keeps, and its rounds are those of the schedule
    pub kept : (n : ℕ) → times n v.mine ≤ named n v.seat.passes
    pub made : (n i k : ℕ) → IsRound v.rounds n i k → IsRound (round_part 1 items) n i k
    pub within : v.limit ≤ limit

  pub record Tallied (first : Sight L) (s : State (DeskSlot R A E) (Sight L)) : Type 0 where
    pub items : List Item
    pub log : List ℕ
    pub forkers : List ℕ
    pub slots : List (Status R A E)
    pub out : List ℕ
    pub lone : List ℕ
    pub over : ℕ
    pub state : HubState
    pub limit : ℕ
    pub log_is : log ≡ flat items
    pub forkers_are : forkers ≡ 0 ∷ born items
    pub sound : SoundFrom d ends first.seat.start state log slots forkers
    pub outs : OutsAre slots out
    pub wide : length s.words ≡ 17
    pub long : length s.homes ≡ 1
    pub word : slice_index s.words 0 ≡ total turn_of s.views
    pub small : slice_index s.words 0 ≤ 1
    -- the tally, which is closed once a halt was entered
    pub tally : slice_index s.words 16 ≡ 2 * length slots + halt_count state
    pub roomy : length slots ≤ limit
    pub all : total part_of s.views ≡ first.seat.parts
    pub home :
        slice_index s.words 0 ≡ 0
        → (desk : Box (Desk R A E)) × (get_elem? s.homes 0 ≡ m.some (m.some (Home desk)))
        × Lays first.seat.group desk.value items slots lone limit × (desk.value.state ≡ state)
    pub over_is : over ≡ 1 → done state slots ≡ true
    pub seats :
        (i : ℕ) (v : Sight L) → get_elem? s.views i ≡ m.some v
        → SeatKnows first.seat.start first.seat.group items log forkers out lone over limit state v
    -- each number that seats have is in one pass, each that they keep is kept once, and each round is in one list
    pub once : (n : ℕ) → total (names_of n) s.views ≡ times n out
    pub single : (n : ℕ) → times n out ≤ 1
    pub kept_once : (n : ℕ) → total (mine_of n) s.views ≡ times n lone
    pub kept_out : (n : ℕ) → times n lone ≤ times n out
    pub made_once : (n : ℕ) → total (makes_of n) s.views ≡ times n (children (round_part 1 items))
    pub known : state ≢ All → 0 < total halt_of s.views

  -- the seat has i at its end, and k at its join of i, keeps i, and k forks then
  pub record CanRound (v : Sight L) (i k : ℕ) (a : A) (e : E) (c : R) (f : ℕ → L) : Type 0 where
    pub idle : v.seat.has ≡ 0
    pub part : 0 < v.seat.parts
    pub start : L
    pub begun : v.seat.start ≡ Some start
    pub end_at : List ℕ
    pub end_pass : IsPass v.seat.passes i end_at
    pub ended : EndsLeg (numbered d) (values d ends) start end_at i e
    pub join_at : List ℕ
    pub join_pass : IsPass v.seat.passes k join_at
    pub joins : Joins (numbered d) (values d ends) start join_at k a
    pub on : d.on a ≡ i
    pub bears : d.next (d.joined a e) ≡ Bears f (d.runs c)
    pub kept : 0 < times i v.mine

  -- the world of the schedule at which the round was made; the child has the next number
  pub record MadeRound (v w : Sight L) (i k n : ℕ) : Type 0 where
    pub log : List ℕ
    pub out : List ℕ
    pub slots : List (Status R A E)
    pub forkers : List ℕ
    pub start : L
    pub begun : v.seat.start ≡ Some start
    pub tied : Tied (numbered d) (values d ends) start log slots forkers
    pub outs : OutsAre slots out
    pub fresh : Fresh log v.seat.passes
    pub has : (j : ℕ) → named j v.seat.passes ≤ times j out
    pub next : n ≡ length slots
    pub is : w ≡ makes_round log out (says d ends slots) i k n v

  -- the exchange of the tally from 2n to the next
  abbrev pub rounded :
      ℕ → ℕ → ℕ → Me (DeskSlot R A E) (Sight L) → ℕ → Me (DeskSlot R A E) (Sight L) → Type 0
  rounded i k n me x me' =
      (x ≡ 2 * n → MadeRound me.0 me'.0 i k n × (me'.1 ≡ me.1)) × (x ≢ 2 * n → me' ≡ me)

  -- the schedule and the statuses of now, to which rounds of others have led since the seat looked last
  pub record Now (v : Sight L) (start : L) (before : List (Status R A E)) (log out lone : List ℕ)
      (slots : List (Status R A E)) (forkers : List ℕ) : Type 0 where
    pub tied : Tied (numbered d) (values d ends) start log slots forkers
    pub outs : OutsAre slots out
    pub moves : Moves before v.lone slots lone
    pub still : v.lone ≡ [] → slots ≡ before
    pub begins : IsStartOf v.seat.log log
    pub fresh : Fresh log v.seat.passes
    pub has : (j : ℕ) → named j v.seat.passes ≤ times j out
    pub single : (j : ℕ) → times j out ≤ 1
    pub roomy : length slots ≤ v.limit
    pub few : (j : ℕ) → times j lone ≤ times j out
    pub own : (j : ℕ) → times j v.mine ≤ times j lone
    -- what this seat has no other seat keeps
    pub alone : (j : ℕ) → 0 < named j v.seat.passes → times j lone ≤ times j v.mine
    pub kept : (j : ℕ) → times j v.mine ≤ named j v.seat.passes

  -- the statuses become these, the kept children of the seat and of all seats those; the last entry may be a fork
  pub record AreLegal (v : Sight L) (start : L) (ds : List Deed) (birth : Option ℕ) (mine : List ℕ)
      (log out lone lone' : List ℕ)
      (slots slots' : List (Status R A E)) (forkers : List ℕ) : Type 0 where
    pub can : CanDo ds (found_in log out (says d ends slots) v.seat)
    pub tied :
        Tied (numbered d) (values d ends) start (log ++ entered ds) slots' (add_last birth forkers)
    pub outs : OutsAre slots' (do_all ds (found_in log out (says d ends slots) v.seat)).out
    pub lones : (j : ℕ) → times j lone' + times j v.mine ≡ times j lone + times j mine
    pub few : (j : ℕ) → times j lone' ≤ times j (do_all ds (found_in log out (says d ends slots) v.seat)).out
    pub kept : (j : ℕ) → times j mine ≤ named j (do_all ds (found_in log out (says d ends slots) v.seat)).passes
    pub over : all_over slots ≡ true → all_over slots' ≡ true

  -- by what it knows of the statuses when it looked last, at the count that it finds
  pub record MayEnter (v : Sight L) (ds : List Deed) (es : List ℕ) (birth : Option ℕ) (fits : ℕ → Type 0)
      (mine : List ℕ)
      (lone_to : List ℕ → List ℕ) (to : List (Status R A E) → List (Status R A E)) : Type 0 where
    pub entries : entered ds ≡ add_last birth es
    pub has : v.seat.has ≡ 1
    pub part : 0 < v.seat.parts
    pub free : v.seat.halt ≡ All
    pub start : L
    pub begun : v.seat.start ≡ Some start
    pub slots : List (Status R A E)
    pub tied : Tied (numbered d) (values d ends) start v.seat.log slots v.forkers
    pub outs : OutsAre slots v.seat.out
    pub saw : v.seat.saw ≡ 1 → all_over slots ≡ true
    pub legal :
        (log out lone : List ℕ) (now : List (Status R A E)) (fs : List ℕ) → Now v start slots log out lone now fs
        → fits (length now) → AreLegal v start ds birth mine log out lone (lone_to lone) now (to now) fs

  pub record Entered (v w : Sight L) (start : L) (before : List (Status R A E)) (ds : List Deed) (birth : Option ℕ)
      (mine : List ℕ)
      (lone_to : List ℕ → List ℕ) (count : ℕ) : Type 0 where
    pub log : List ℕ
    pub out : List ℕ
    pub lone : List ℕ
    pub slots : List (Status R A E)
    pub forkers : List ℕ
    pub now : Now v start before log out lone slots forkers
    pub counted : count ≡ 2 * length slots
    pub is :
        w
        ≡ enters log (add_last birth forkers) out (says d ends slots) ds (length slots) mine (lone_to lone) v

  -- these entries are the last, and this is the halt
  pub record IsLast (h : HubState) (v : Sight L) (start : L) (ds : List Deed) (mine : List ℕ)
      (log out lone lone' : List ℕ)
      (slots slots' : List (Status R A E)) (forkers : List ℕ) : Type 0 where
    pub can : CanDo ds (found_in log out (says d ends slots) v.seat)
    pub sound : Sound d ends start h (log ++ entered ds) slots' forkers
    pub outs : OutsAre slots' (do_all ds (found_in log out (says d ends slots) v.seat)).out
    pub lones : (j : ℕ) → times j lone' + times j v.mine ≡ times j lone + times j mine
    pub few : (j : ℕ) → times j lone' ≤ times j (do_all ds (found_in log out (says d ends slots) v.seat)).out
    pub kept : (j : ℕ) → times j mine ≤ named j (do_all ds (found_in log out (says d ends slots) v.seat)).passes

  pub record MayShut (h : HubState) (v : Sight L) (ds : List Deed) (mine : List ℕ) (lone_to : List ℕ → List ℕ)
      (to : List (Status R A E) → List (Status R A E)) : Type 0 where
    pub has : v.seat.has ≡ 1
    pub part : 0 < v.seat.parts
    pub free : v.seat.halt ≡ All
    pub halts : h ≢ All
    pub start : L
    pub begun : v.seat.start ≡ Some start
    pub slots : List (Status R A E)
    pub tied : Tied (numbered d) (values d ends) start v.seat.log slots v.forkers
    pub outs : OutsAre slots v.seat.out
    pub legal :
        (log out lone : List ℕ) (now : List (Status R A E)) (fs : List ℕ) → Now v start slots log out lone now fs
        → IsLast h v start ds mine log out lone (lone_to lone) now (to now) fs

  pub record Shut (h : HubState) (v w : Sight L) (start : L) (before : List (Status R A E)) (ds : List Deed)
      (mine : List ℕ)
      (lone_to : List ℕ → List ℕ) : Type 0 where
    pub log : List ℕ
    pub out : List ℕ
    pub lone : List ℕ
    pub slots : List (Status R A E)
    pub forkers : List ℕ
    pub now : Now v start before log out lone slots forkers
    pub is : w ≡ shuts h log forkers out (says d ends slots) ds (length slots) mine (lone_to lone) v

  -- the seat has the turn, whose value is this
  pub record HasDesk (v : Sight L) (desk : Desk R A E) : Type 0 where
    pub has : v.seat.has ≡ 1
    pub part : 0 < v.seat.parts
    pub slots : List (Status R A E)
    pub sound : SoundFrom d ends v.seat.start desk.state v.seat.log slots v.forkers
    pub outs : OutsAre slots v.seat.out
    -- each pass has had no entry since, and no other seat keeps its revision
    pub current : HasCurrent v.seat
    pub alone : (j : ℕ) → 0 < named j v.seat.passes → times j v.lone ≤ times j v.mine
    pub kept : (j : ℕ) → times j v.mine ≤ named j v.seat.passes
    pub entries : pairs desk.journal.entries.items ≡ v.entries
    pub limit_is : desk.journal.limit ≡ v.limit
    pub lent_is : desk.lent ≡ length v.lone
    pub shadows : Shadows (records_of desk) slots v.lone
    pub queued : IsQueued d (records_of desk) slots (queue_of desk)
    pub tracked : desk.strays ≡ false → AreTracked d (records_of desk) slots
    pub strayed : desk.strays ≡ true → desk.lent ≡ 0
    pub grouped :
        (j : ℕ) (x : Status R A E) → record_at (records_of desk) j ≡ Some x
        → IsOfGroup d ends v.seat.group x
    pub saw : v.seat.saw ≡ 1 → done desk.state slots ≡ true
    pub halt : v.seat.halt ≡ desk.state

  pub record Took (v w : Sight L) (desk : Desk R A E) : Type 0 where
    pub hand : HasDesk w desk
    pub same :
        (w.seat.parts ≡ v.seat.parts) × (w.seat.start ≡ v.seat.start) × (w.seat.group ≡ v.seat.group)
        × (w.seat.passes ≡ v.seat.passes) × (w.seat.turns ≡ v.seat.turns) × (w.rounds ≡ v.rounds)
        × (w.mine ≡ v.mine)
    pub limit : v.limit ≤ w.limit
    pub fresh : Fresh w.seat.log v.seat.passes
    pub own : (k : ℕ) → named k v.seat.passes ≤ times k w.seat.out
    pub over : done desk.state hand.slots ≡ true → w.seat.saw ≡ 1
    pub said : w.seat.said ≡ says d ends hand.slots
    pub entered_is : w.seat.entered ≡ desk.state
    pub found : w.seat.found ≡ w.seat.log
    pub known : v.seat.halt ≢ All → v.seat.halt ≡ desk.state
