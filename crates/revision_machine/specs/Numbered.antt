-- Worlds whose revisions are numbered in the order of their forks, and whose local states hold numbers as handles.
use Rattle.std.specs.Prelude.{Option, Some, None, ◌≡◌, ◌↔◌, ◌<◌, ◌≤◌, ℕ, zero, suc, cond, List, [], ◌∷◌, ◌++◌, length}
use Rattle.rev_num.specs.Path.{Path, child, same}
use Rattle.revision_machine.specs.PathMap.{PathMap, with_at}
use Rattle.revision_machine.specs.Laws.{local_of, IsDistinct}
use Rattle.revision_machine.specs.Births.{RunsBearing}
use Rattle.revision_machine.specs.Machine.{Event, Moves, Forks, Joins, Ended, Machine, Entry, Plain, Joined, Global, Twice, Live, start, Final}

-- what a revision does next: a fork goes on once it knows its child's number
pub data Wish (L : Type 0) : Type 0 where
  Goes : L → Wish L
  Bears : (ℕ → L) → L → Wish L
  Wants : ℕ → Wish L
  Stops : Wish L

pub record Numbered : Type 1 where
  pub Local : Type 0
  pub next : Local → Wish Local
  pub forks : Local → ℕ
  pub join : Local → ℕ → Local → Local

-- the entries of a world by number, each with its path
abbrev pub Entries : Type 0 → Type 0
Entries L = List (Path × Entry L)

-- the revisions, or Both, where one was joined a second time
pub data World (L : Type 0) : Type 0 where
  Both : World L
  Listing : Entries L → World L

abbrev pub at_number : {A : Type 0} → List A → ℕ → Option A
at_number [] n = None
at_number (x ∷ xs) zero = Some x
at_number (x ∷ xs) (suc n) = at_number xs n

abbrev pub put_number : {A : Type 0} → List A → ℕ → A → List A
put_number [] n y = []
put_number (x ∷ xs) zero y = y ∷ xs
put_number (x ∷ xs) (suc n) y = x ∷ put_number xs n y

module _ (N : Numbered) where
  abbrev pub join_stopped : Entries N.Local → ℕ → Path → N.Local → ℕ → Path → N.Local → Wish N.Local
      → Option (World N.Local)
  join_stopped w n r l m q lq Stops =
      Some (Listing (put_number (put_number w n (r, Plain (N.join l m lq))) m (q, Joined lq)))
  join_stopped w n r l m q lq (Goes _) = None
  join_stopped w n r l m q lq (Bears _ _) = None
  join_stopped w n r l m q lq (Wants _) = None

  abbrev pub join_number : Entries N.Local → ℕ → Path → N.Local → ℕ → Option (Path × Entry N.Local)
      → Option (World N.Local)
  join_number w n r l m None = None
  join_number w n r l m (Some (q, Joined lq)) = Some Both
  join_number w n r l m (Some (q, Plain lq)) = join_stopped w n r l m q lq (N.next lq)

  abbrev pub leg_of : Entries N.Local → ℕ → Path → N.Local → Wish N.Local → Option (World N.Local)
  leg_of w n r l (Goes l') = Some (Listing (put_number w n (r, Plain l')))
  leg_of w n r l (Bears f c) =
      Some (Listing (put_number w n (r, Plain (f (length w))) ++ (child r (N.forks l), Plain c) ∷ []))
  leg_of w n r l (Wants m) = join_number w n r l m (at_number w m)
  leg_of w n r l Stops = None

  abbrev pub leg_at : Entries N.Local → ℕ → Option (Path × Entry N.Local) → Option (World N.Local)
  leg_at w n None = None
  leg_at w n (Some (r, Joined l)) = None
  leg_at w n (Some (r, Plain l)) = leg_of w n r l (N.next l)

  -- the world after the leg of this number, where it has one
  abbrev pub leg : World N.Local → ℕ → Option (World N.Local)
  leg Both n = None
  leg (Listing w) n = leg_at w n (at_number w n)

  abbrev pub begin : N.Local → World N.Local
  begin main = Listing (([], Plain main) ∷ [])

  -- a schedule of numbers, each of which has a leg, leads from v to w

  abbrev pub Replays : World N.Local → List ℕ → World N.Local → Type 0
  Replays v [] w = v ≡ w
  Replays v (n ∷ ns) w = (u : World N.Local) × (leg v n ≡ Some u) × Replays u ns w

-- the number of the first of these paths that is p
abbrev pub number_of : List Path → Path → ℕ
number_of [] p = zero
number_of (q ∷ qs) p = cond (same q p) zero (suc (number_of qs p))

abbrev pub or_path : Option Path → Path → Path
or_path None r = r
or_path (Some q) r = q

-- numbers are read as paths by a table
abbrev pub event_by : {L : Type 0} → List Path → Path → ℕ → Wish L → Event L
event_by t r k (Goes l) = Moves l
event_by t r k (Bears f c) = Forks (f (number_of t (child r k))) c
event_by t r k (Wants m) = Joins (or_path (at_number t m) r)
event_by t r k Stops = Ended

abbrev pub machine_by : Numbered → List Path → Machine
machine_by N t = record {
  Local = N.Local;
  next = λ r l. event_by t r (N.forks l) (N.next l);
  forks = N.forks;
  join = λ r l q lq. N.join l (number_of t q) lq;
}

abbrev pub paths_of : {A : Type 0} → List (Path × A) → List Path
paths_of [] = []
paths_of (x ∷ xs) = x.0 ∷ paths_of xs

-- the state that a list of revisions shows
abbrev pub globe_of : {A : Type 0} → List (Path × A) → PathMap A
globe_of [] p = None
globe_of (x ∷ xs) p = with_at (globe_of xs) x.0 x.1 p

abbrev pub shows : {L : Type 0} → World L → Global L
shows Both = Twice
shows (Listing w) = Live (globe_of w)

-- the path that a table has for a number, and that of `main` where it has none
abbrev pub path_in : List Path → ℕ → Path
path_in t n = or_path (at_number t n) []

-- the paths that a table has for these numbers
abbrev pub paths_at : List Path → List ℕ → List Path
paths_at t [] = []
paths_at t (n ∷ ns) = path_in t n ∷ paths_at t ns

module _ (N : Numbered) (main : N.Local) where
  -- by any table that begins with these paths, the schedule is a run from the start to the world's state, and the
  -- paths after the first are the children that it forks, in their order
  pub record ReadsAs (ns : List ℕ) (w : World N.Local) (paths : List Path) : Type 0 where
    pub distinct : IsDistinct paths
    pub children : List Path
    pub are : paths ≡ [] ∷ children
    pub run : (t rest : List Path) → IsDistinct t → t ≡ paths ++ rest
        → RunsBearing (machine_by N t) (start (machine_by N t) main) (paths_at t ns) (shows w) children

  -- the paths are those of the world; of Both, which has none, nothing is said
  abbrev pub HasPaths : World N.Local → List Path → Type 0
  HasPaths Both paths = Unit {0}
  HasPaths (Listing w) paths = paths ≡ paths_of w

  -- a legal schedule of numbers is a run by paths
  abbrev pub ScheduleLaw : Type 0
  ScheduleLaw =
      (ns : List ℕ) (w : World N.Local) → Replays N (begin N main) ns w → (paths : List Path)
      × HasPaths w paths × ReadsAs ns w paths

  -- a run by paths, whose table has the children in the order of their forks, is a legal schedule of numbers
  abbrev pub RunIsSchedule : Type 0
  RunIsSchedule =
      (t rest cs rs : List Path) (h : Global N.Local) → IsDistinct t → t ≡ ([] ∷ cs) ++ rest
      → RunsBearing (machine_by N t) (start (machine_by N t) main) rs h cs
      → (ns : List ℕ) × (w : World N.Local) × Replays N (begin N main) ns w × (shows w ≡ h) × (paths_at t ns ≡ rs)

  -- no number has a leg
  abbrev pub IsOver : World N.Local → Type 0
  IsOver w = (n : ℕ) → leg N w n ≡ None

  -- no number has a leg exactly where the state is final
  abbrev pub OverLaw : Type 0
  OverLaw =
      (ns : List ℕ) (w : World N.Local) → Replays N (begin N main) ns w → (t rest paths : List Path) → HasPaths w paths
      → IsDistinct t → t ≡ paths ++ rest
      → IsOver w ↔ Final (machine_by N t) (shows w)

  -- each revision of the world has ended, with or without the mark
  abbrev pub AllStop : World N.Local → Type 0
  AllStop Both = Unit {0}
  AllStop (Listing w) =
      (n : ℕ) (r : Path) (e : Entry N.Local) → at_number w n ≡ Some (r, e)
      → N.next (local_of e) ≡ Stops

  abbrev pub CountsAtMost : ℕ → World N.Local → Type 0
  CountsAtMost most Both = Unit {0}
  CountsAtMost most (Listing w) = length w ≤ most

  -- the world after a legal schedule has at most so many revisions
  abbrev pub WorldCount : ℕ → Type 0
  WorldCount most =
      (ns : List ℕ) (w : World N.Local) → Replays N (begin N main) ns w → CountsAtMost most w

  -- each entry is the least number that has a leg, and at the end none has one
  abbrev pub Least : World N.Local → List ℕ → World N.Local → Type 0
  Least v [] w = (v ≡ w) × IsOver v
  Least v (n ∷ ns) w = (u : World N.Local) × (leg N v n ≡ Some u) × ((m : ℕ) → m < n → leg N v m ≡ None) × Least u ns w

  -- a legal schedule that nothing can go on
  pub record CompleteSchedule (v : World N.Local) (ns : List ℕ) (w : World N.Local) : Type 0 where
    pub replays : Replays N v ns w
    pub over : IsOver w

  -- every legal schedule can be completed
  abbrev pub ScheduleCompletes : Type 0
  ScheduleCompletes =
      (ns : List ℕ) (v : World N.Local) → Replays N (begin N main) ns v
      → (ms : List ℕ) × (w : World N.Local) × CompleteSchedule v ms w

  -- after any legal schedule, the least numbers in turn complete it
  abbrev pub LeastCompletes : Type 0
  LeastCompletes =
      (ns : List ℕ) (v : World N.Local) → Replays N (begin N main) ns v
      → (ms : List ℕ) × (w : World N.Local) × Least v ms w × CompleteSchedule v ms w

  -- no legal schedule has more entries than this
  abbrev pub ScheduleBound : ℕ → Type 0
  ScheduleBound most =
      (ns : List ℕ) (w : World N.Local) → Replays N (begin N main) ns w → length ns ≤ most
