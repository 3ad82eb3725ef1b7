-- What holds by a relation holds by a weaker one.
use Rattle.std.proofs.Common.{ℕ, List, [], ◌∷◌, Option, Some, None}
use Rattle.rev_num.specs.Path.{Path}
use Rattle.revision_machine.specs.Machine.{Machine, Entry, Plain, Joined, Global, Twice, Live}
use Rattle.revision_machine.specs.Simulation.{EntryAgrees, Agrees}
use Rattle.revision_machine.specs.Numbered.{Numbered, World, machine_by, shows}
use Rattle.revision_machine.specs.Schedules.{Matches, ScheduleAgrees, LegsAgree, LegLaw, CompleteScheduleAgrees}

module _ (A B : Machine) (R S : Path → A.Local → B.Local → Type 0)
    (weaker : (p : Path) (a : A.Local) (b : B.Local) → R p a b → S p a b) where
  entry_weaker : (p : Path) (x : Option (Entry A.Local)) (y : Option (Entry B.Local)) → EntryAgrees A B R p x y
      → EntryAgrees A B S p x y
  entry_weaker p None None h = tt
  entry_weaker p None (Some f) h = absurd h
  entry_weaker p (Some e) None h = absurd h
  entry_weaker p (Some (Plain a)) (Some (Plain b)) h = weaker p a b h
  entry_weaker p (Some (Plain a)) (Some (Joined b)) h = absurd h
  entry_weaker p (Some (Joined a)) (Some (Plain b)) h = absurd h
  entry_weaker p (Some (Joined a)) (Some (Joined b)) h = weaker p a b h

  pub agrees_weaker : (g : Global A.Local) (w : Global B.Local) → Agrees A B R g w → Agrees A B S g w
  agrees_weaker Twice Twice h = tt
  agrees_weaker Twice (Live v) h = absurd h
  agrees_weaker (Live u) Twice h = absurd h
  agrees_weaker (Live u) (Live v) h = λ p. entry_weaker p (u p) (v p) (h p)

module _ (A : Machine) (N : Numbered) (R S : List Path → Path → A.Local → N.Local → Type 0) (a : A.Local)
    (main : N.Local) (weaker : (t : List Path) (p : Path) (x : A.Local) (y : N.Local) → R t p x y → S t p x y) where
  matches_weaker : (w : World N.Local) → Matches A N R a main w → Matches A N S a main w
  matches_weaker w m = record {
    table = m.table;
    own = m.own;
    distinct = m.distinct;
    by = m.by;
    state = m.state;
    runs = m.runs;
    agrees = agrees_weaker A (machine_by N m.table) (R m.table) (S m.table) (weaker m.table) m.state (shows w) m.agrees;
  }

  pub schedules_weaker : ScheduleAgrees A N R a main → ScheduleAgrees A N S a main
  schedules_weaker h ns w replays = matches_weaker w (h ns w replays)

  legs_weaker : (t : List Path) (g : Global A.Local) (v : World N.Local) (ns : List ℕ) (h : Global A.Local)
      (w : World N.Local)
      → LegsAgree A N R a main t g v ns h w → LegsAgree A N S a main t g v ns h w
  legs_weaker t g v [] h w l = l
  legs_weaker t g v (n ∷ ns) h w l = (
    l.0,
    l.1,
    l.2,
    l.3,
    l.4,
    l.5,
    l.6,
    agrees_weaker A (machine_by N t) (R t) (S t) (weaker t) l.5 (shows l.0) l.7,
    legs_weaker t l.5 l.0 ns h w l.8,
  )

  pub legs_law_weaker : LegLaw A N R a main → LegLaw A N S a main
  legs_law_weaker h ns w replays =
      let m = h ns w replays in
      record {
        paths = m.paths;
        own = m.own;
        distinct = m.distinct;
        legs = λ t rest d e.
            (let l = m.legs t rest d e in (
              l.0,
              legs_weaker t (Rattle.revision_machine.specs.Machine.start A a)
                  (Rattle.revision_machine.specs.Numbered.begin N main) ns l.0 w l.1,
            ));
      }

  pub ends_weaker : CompleteScheduleAgrees A N R a main → CompleteScheduleAgrees A N S a main
  unfolding matches_weaker
  ends_weaker h ns w replays over =
      let m = h ns w replays over in
      record { matches = matches_weaker w m.matches; final = m.final; ended = m.ended; stopped = m.stopped }
