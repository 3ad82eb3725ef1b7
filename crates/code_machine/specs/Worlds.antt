-- Worlds of code by number: what a leg changes, what a schedule leaves, and a revision that waits.
--   replay            the world after a schedule, where each entry has a leg
--   fuels             the fuel of all unmarked revisions
--   IsKeptOrMarked    an entry of the world is as it was, or has got the mark and is as it was else
--   WaitsOn           a revision comes to join one that has not ended
--   StandsAt          the instructions of a leg lead to this state, which stands at its join
use Rattle.std.specs.Prelude.{◌≡◌, ◌≢◌, ◌⊎◌, ◌↔◌, ℕ, ◌+◌, ◌≤◌, Bool, List, [], ◌∷◌, ◌++◌, Option, Some, None}
use Rattle.rev_num.specs.Path.{Path, child}
use Rattle.rev_code.specs.State.{State}
use Rattle.rev_code.specs.Step.{joins}
use Rattle.revision_machine.specs.Machine.{Entry, Plain, Joined}
use Rattle.revision_machine.specs.Numbered.{Numbered, Wants, Stops, Entries, World, Listing, at_number, put_number, paths_of, begin, Replays}
use Rattle.revision_machine.specs.Numbered as numbers
use Rattle.code_machine.specs.Local.{CodeRun, IsVerified, Local, at_work}
use Rattle.code_machine.specs.Leg.{leg}
use Rattle.code_machine.specs.Machines.{numbered}
use Rattle.code_machine.specs.Starts.{FromEachStart}

-- n is one of these
abbrev pub IsAmong : ℕ → List ℕ → Type 0
IsAmong n [] = ⊥
IsAmong n (m ∷ ms) = (n ≡ m) ⊎ IsAmong n ms

abbrev pub IsKeptOrMarked : {L : Type 0} → Entries L → ℕ → Path → Entry L → Type 0
IsKeptOrMarked {L} w n r e =
    (at_number w n ≡ Some (r, e)) ⊎ ((l : L) × (e ≡ Plain l) × (at_number w n ≡ Some (r, Joined l)))

module _ (N : Numbered) where
  -- n's next event is a join of m
  abbrev pub Joins : Entries N.Local → ℕ → ℕ → Type 0
  Joins w n m =
      (r : Path) × (l : N.Local) × (at_number w n ≡ Some (r, Plain l)) × (N.next l ≡ Wants m)

  abbrev pub after :
      Option (World N.Local) → (World N.Local → Option (World N.Local)) → Option (World N.Local)
  after None rest = None
  after (Some u) rest = rest u

  abbrev pub replay : World N.Local → List ℕ → Option (World N.Local)
  replay v [] = Some v
  replay v (n ∷ ns) = after (numbers.leg N v n) (λ u. replay u ns)

-- the fuel of all unmarked revisions
abbrev pub fuels : Entries (Local ℕ) → ℕ
fuels [] = 0
fuels ((r, Plain l) ∷ w) = l.state.fuel + fuels w
fuels ((r, Joined l) ∷ w) = fuels w

-- ---- laws

-- the fuel of all unmarked revisions is at most that of the start
abbrev pub FuelIsOfTheStart : Type 0
FuelIsOfTheStart =
    FromEachStart ℕ (λ g fuel main.
    (ns : List ℕ) (w : Entries (Local ℕ))
    → Replays (numbered g) (begin (numbered g) main) ns (Listing w)
    → fuels w ≤ fuel)

-- a leg changes no other revision, but gives the one that it joins its mark, which has ended
abbrev pub LegsChangeTheirOwn : Type 0
LegsChangeTheirOwn =
    (g : CodeRun) (w u : Entries (Local ℕ)) (n : ℕ)
    → numbers.leg (numbered g) (Listing w) n ≡ Some (Listing u)
    → (m : ℕ) (r : Path) (e : Entry (Local ℕ)) → m ≢ n → at_number w m ≡ Some (r, e)
    → (at_number u m ≡ Some (r, e))
    ⊎ (Joins (numbered g) w n m
    × ((l : Local ℕ) × (e ≡ Plain l) × ((numbered g).next l ≡ Stops)
    × (at_number u m ≡ Some (r, Joined l))))

-- a leg keeps all numbers and paths; a child gets the next number, and its forker's path and count
abbrev pub ChildIsNext : CodeRun → Entries (Local ℕ) → Entries (Local ℕ) → ℕ → Type 0
ChildIsNext g w u n =
    (r : Path) × (l : Local ℕ) × (at_number w n ≡ Some (r, Plain l))
    × (paths_of u ≡ paths_of w ++ child r l.state.forks ∷ [])

abbrev pub NumbersStay : Type 0
NumbersStay =
    (g : CodeRun) (w u : Entries (Local ℕ)) (n : ℕ)
    → numbers.leg (numbered g) (Listing w) n ≡ Some (Listing u)
    → (paths_of u ≡ paths_of w) ⊎ ChildIsNext g w u n

-- entries of others leave a revision as it is, until one joins it
abbrev pub OthersLeaveIt : Type 0
OthersLeaveIt =
    (g : CodeRun) (w u : Entries (Local ℕ)) (ns : List ℕ)
    → Replays (numbered g) (Listing w) ns (Listing u)
    → (n : ℕ) (r : Path) (e : Entry (Local ℕ)) → (IsAmong n ns → ⊥) → at_number w n ≡ Some (r, e)
    → IsKeptOrMarked u n r e

-- so one that has a next event stays as it is, until an entry of its own
abbrev pub RunningIsLeft : Type 0
RunningIsLeft =
    (g : CodeRun) (w u : Entries (Local ℕ)) (ns : List ℕ)
    → Replays (numbered g) (Listing w) ns (Listing u)
    → (n : ℕ) (r : Path) (l : Local ℕ) → (IsAmong n ns → ⊥) → at_number w n ≡ Some (r, Plain l)
    → (numbered g).next l ≢ Stops → at_number u n ≡ Some (r, Plain l)

-- the replay of two lists of entries is that of the second after the first
abbrev pub ReplayGoesOn : Type 0
ReplayGoesOn =
    (g : CodeRun) (v : World (Local ℕ)) (ns ks : List ℕ)
    → replay (numbered g) v (ns ++ ks)
    ≡ after (numbered g) (replay (numbered g) v ns) (λ u. replay (numbered g) u ks)

-- one more entry is one more leg
abbrev pub OneEntryIsOneLeg : Type 0
OneEntryIsOneLeg =
    (g : CodeRun) (v : World (Local ℕ)) (ns : List ℕ) (n : ℕ)
    → replay (numbered g) v (ns ++ n ∷ [])
    ≡ after (numbered g) (replay (numbered g) v ns) (λ u. numbers.leg (numbered g) u n)

-- the world after a legal schedule is `replay`, so there is one
abbrev pub ReplayIsTheWorld : Type 0
ReplayIsTheWorld =
    (g : CodeRun) (v w : World (Local ℕ)) (ns : List ℕ)
    → Replays (numbered g) v ns w ↔ (replay (numbered g) v ns ≡ Some w)

-- ---- waiting

-- n comes to join m, which has a next event of its own
pub record WaitsOn (g : CodeRun) (w : Entries (Local ℕ)) (n m : ℕ) : Type 0 where
  pub path : Path
  pub joiner : Local ℕ
  pub there : at_number w n ≡ Some (path, Plain joiner)
  pub wants : (numbered g).next joiner ≡ Wants m
  pub other : Path
  pub joinee : Local ℕ
  pub stands : at_number w m ≡ Some (other, Plain joinee)
  pub on : (numbered g).next joinee ≢ Stops

-- one that waits has no leg
abbrev pub WaitingHasNoLeg : Type 0
WaitingHasNoLeg =
    (g : CodeRun) (w : Entries (Local ℕ)) (n m : ℕ) → WaitsOn g w n m
    → numbers.leg (numbered g) (Listing w) n ≡ None

-- and waits as long as the one that it joins has no entry
abbrev pub WaitingStays : Type 0
WaitingStays =
    (g : CodeRun) (w u : Entries (Local ℕ)) (ns : List ℕ) (n m : ℕ) → WaitsOn g w n m
    → Replays (numbered g) (Listing w) ns (Listing u)
    → (IsAmong n ns → ⊥) → (IsAmong m ns → ⊥) → WaitsOn g u n m

abbrev pub StandsAt : CodeRun → State ℕ → State ℕ → (try : Bool) → ℕ → Type 0
StandsAt g c c' try m = leg g c ≡ joins c' try m

-- where the leg of n comes to a join, n may stand at that join: its leg is then the join alone, and
-- leads to the same world as the whole leg
abbrev pub StandingIsTheSame : Type 0
StandingIsTheSame =
    (g : CodeRun) → IsVerified g → (c c' : State ℕ) (try : Bool) (m : ℕ) → StandsAt g c c' try m
    → StandsAt g c' c' try m
    × ((w : Entries (Local ℕ)) (n : ℕ) (r : Path) → at_number w n ≡ Some (r, Plain (at_work c))
    → numbers.leg (numbered g) (Listing (put_number w n (r, Plain (at_work c')))) n
    ≡ numbers.leg (numbered g) (Listing w) n)
