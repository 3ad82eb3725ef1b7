-- The laws of replays and of what a hub keeps, over every machine by numbers.
--   HubTheory      a machine and the values that stand for its states
--   ReplayIs, CommitLaw, EarlierLaw, ForkerLaw        of schedules
--   TakeLaw .. HandInLaw, OpenLaw, CompleteLaw        of the events of a hub
use Rattle.std.specs.Prelude.{Some, ◌≡◌, ◌↔◌, ◌+◌, ℕ, List, [], ◌∷◌, ◌++◌, length, map}
use Rattle.revision_machine.specs.Numbered.{Numbered, Entries, World, Both, Listing, at_number, put_number, leg, begin, paths_of, Replays, IsOver}
use Rattle.hub_core.specs.declared.status.Status.TheVariants.{Ready, Out, Waiting, Over, Gone}
use Rattle.hub_core.specs.Replay.{IsNotIn, state_here, replay, state_after}
use Rattle.hub_core.specs.Forkers.{ForkersAre}
use Rattle.hub_core.specs.Hub.{Values, Statuses, Tied, Forks, Joins, EndsLeg, WasTrapped, EndsAre, end_of, all_ended}

-- a machine, and the values that stand for its states
pub record HubTheory : Type 1 where
  pub machine : Numbered
  pub values : Values machine

module _ (N : Numbered) (main : N.Local) where
  -- a replay is a legal schedule, and the world that it leads to
  abbrev pub ReplayIs : Type 0
  ReplayIs =
      (ns : List ℕ) (w : World N.Local)
      → (replay N main ns ≡ Some w) ↔ Replays N (begin N main) ns w

  -- one entry more is one leg more
  abbrev pub CommitLaw : Type 0
  CommitLaw =
      (ns : List ℕ) (n : ℕ) (u : World N.Local) → replay N main ns ≡ Some u
      → replay N main (ns ++ n ∷ []) ≡ leg N u n

  -- an earlier schedule names the state of now of each revision that had no leg since
  abbrev pub EarlierLaw : Type 0
  EarlierLaw =
      (before since : List ℕ) (k : ℕ) (l : N.Local) (w : Entries N.Local) → IsNotIn k since
      → state_after N main before k ≡ Some l → replay N main (before ++ since) ≡ Some (Listing w)
      → state_here (at_number w k) ≡ Some l

  -- a leg that forks adds its number to the forkers, and no other leg changes them
  abbrev pub ForkerLaw : Type 0
  ForkerLaw =
      (w v : Entries N.Local) (k : ℕ) (fs gs : List ℕ)
      → leg N (Listing w) k ≡ Some (Listing v) → ForkersAre (paths_of w) fs
      → (length v ≡ length w → gs ≡ fs) → (length v ≡ length w + 1 → gs ≡ fs ++ k ∷ [])
      → ForkersAre (paths_of v) gs

module _ (N : Numbered) (V : Values N) (main : N.Local) where
  -- what a hub keeps before and after an event of the revision k
  abbrev FromTied : (List ℕ → Statuses N V → List ℕ → Type 0) → Type 0
  FromTied Law =
      (log : List ℕ) (hub : Statuses N V) (fs : List ℕ) → Tied N V main log hub fs
      → Law log hub fs

  -- the first runner alone
  abbrev pub OpenLaw : Type 0
  OpenLaw =
      (c : V.Runner) → V.runs c ≡ main → Tied N V main [] (Ready c ∷ []) (0 ∷ [])

  -- what is handed out has the state of its revision
  abbrev pub TakeLaw : Type 0
  TakeLaw = FromTied (λ log hub fs.
      (k : ℕ) (c : V.Runner) → at_number hub k ≡ Some (Ready c)
      → Tied N V main log (put_number hub k Out) fs
      × (state_after N main log k ≡ Some (V.runs c)))

  abbrev pub RetryLaw : Type 0
  RetryLaw = FromTied (λ log hub fs.
      (k : ℕ) (a : V.AtJoin) → at_number hub k ≡ Some (Waiting a)
      → Tied N V main log (put_number hub k Out) fs × Joins N V main log k a)

  -- one entry; the forker knows its child's number, and the child has that number
  abbrev pub ForkLaw : Type 0
  ForkLaw = FromTied (λ log hub fs.
      (k : ℕ) (c : V.Runner) → at_number hub k ≡ Some Out → (p : Forks N V main log k c)
      → Tied N V main (log ++ k ∷ []) (hub ++ Ready c ∷ []) (fs ++ k ∷ [])
      × (state_after N main (log ++ k ∷ []) k ≡ Some (p.forker (length hub)))
      × (state_after N main (log ++ k ∷ []) (length hub) ≡ Some (V.runs c)))

  -- no entry
  abbrev pub WaitLaw : Type 0
  WaitLaw = FromTied (λ log hub fs.
      (k : ℕ) (a : V.AtJoin) → at_number hub k ≡ Some Out → Joins N V main log k a
      → Tied N V main log (put_number hub k (Waiting a)) fs)

  -- no entry; a revision that is handed back before its leg
  abbrev pub BackLaw : Type 0
  BackLaw = FromTied (λ log hub fs.
      (k : ℕ) (c : V.Runner) → at_number hub k ≡ Some Out → state_after N main log k ≡ Some (V.runs c)
      → Tied N V main log (put_number hub k (Ready c)) fs)

  -- one entry; the joiner has taken the end in
  abbrev pub JoinLaw : Type 0
  JoinLaw = FromTied (λ log hub fs.
      (k : ℕ) (a : V.AtJoin) (e : V.End) → at_number hub k ≡ Some Out
      → Joins N V main log k a → at_number hub (V.on a) ≡ Some (Over e)
      → Tied N V main (log ++ k ∷ []) (put_number hub (V.on a) Gone) fs
      × (state_after N main (log ++ k ∷ []) k ≡ Some (V.joined a e)))

  -- one entry, the last
  abbrev pub TwiceLaw : Type 0
  TwiceLaw = FromTied (λ log hub fs.
      (k : ℕ) (a : V.AtJoin) → at_number hub k ≡ Some Out
      → Joins N V main log k a → at_number hub (V.on a) ≡ Some Gone
      → replay N main (log ++ k ∷ []) ≡ Some Both)

  -- one entry
  abbrev pub EndLaw : Type 0
  EndLaw = FromTied (λ log hub fs.
      (k : ℕ) (e : V.End) → at_number hub k ≡ Some Out → EndsLeg N V main log k e
      → Tied N V main (log ++ k ∷ []) (put_number hub k (Over e)) fs)

  -- no entry: its join had ended it
  abbrev pub HandInLaw : Type 0
  HandInLaw = FromTied (λ log hub fs.
      (k : ℕ) (e : V.End) → at_number hub k ≡ Some Out → WasTrapped N V main log k e
      → Tied N V main log (put_number hub k (Over e)) fs)

  -- where all have ended, the schedule is complete, and the ends are those of its world
  abbrev pub CompleteLaw : Type 0
  CompleteLaw =
      (log : List ℕ) (hub : Statuses N V) (fs : List ℕ) (t : Tied N V main log hub fs)
      → all_ended N V hub
      → IsOver N main (Listing t.world) × EndsAre N V (map end_of hub) t.world
