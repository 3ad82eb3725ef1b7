-- What holds of each reached world of verified code.
--   StartIsReached    the world of the start is reached
--   LegsAreReached    after a leg a world is reached again
--   JoineesStand      a revision that comes to a join comes to join one of the world, and never `main`
--   MainStands        `main` stands first, and is never joined; its snapshot is that of the start
--   WorldsAreSmall    the number of revisions
--   JoinsFit          the fuel at a join, with that of the joined revision
use Rattle.std.specs.Prelude.{ℕ, ◌≡◌, ◌≢◌, ◌≤◌, ◌+◌, Bool, [], length, Some}
use Rattle.rev_num.specs.Path.{Path}
use Rattle.rev_code.specs.State.{State}
use Rattle.rev_code.specs.Step.{joins}
use Rattle.rev_code.specs.Variables.{start_locations}
use Rattle.revision_machine.specs.Machine.{Entry, Plain}
use Rattle.revision_machine.specs.Numbered as numbers
use Rattle.revision_machine.specs.Numbered.{Wants, Stops, Entries, World, Listing, at_number, begin}
pub use Rattle.code_machine.specs.Leg.{IsEvent, longest, clock}
pub use Rattle.code_machine.specs.Local.{under}
use Rattle.code_machine.specs.Local.{CodeRun, IsVerified, Local, at_work}
use Rattle.code_machine.specs.Leg.{leg}
use Rattle.code_machine.specs.Machines.{numbered, IsMain, start_in}
use Rattle.code_machine_laws.specs.Reached.{IsReached, most_fuel, snapshots}

abbrev pub StartIsReached : Type 0
StartIsReached =
    (g : CodeRun) (n : ℕ) (m : IsMain g n) (fuel : ℕ) → fuel ≤ most_fuel
    → IsReached g (begin (numbered g) (start_in g n m.body fuel))

abbrev pub LegsAreReached : Type 0
LegsAreReached =
    (g : CodeRun) (v u : World (Local ℕ)) (n : ℕ) → IsReached g v
    → numbers.leg (numbered g) v n ≡ Some u → IsReached g u

-- a revision of the world, with or without the mark
abbrev pub HasNumber : Entries (Local ℕ) → ℕ → Type 0
HasNumber w m = (q : Path) × (e : Entry (Local ℕ)) × (at_number w m ≡ Some (q, e))

abbrev pub JoineesStand : Type 0
JoineesStand =
    (g : CodeRun) → IsVerified g → (w : Entries (Local ℕ)) → IsReached g (Listing w)
    → (n : ℕ) (r : Path) (l : Local ℕ) → at_number w n ≡ Some (r, Plain l)
    → (m : ℕ) → (numbered g).next l ≡ Wants m → HasNumber w m × (m ≢ 0)

abbrev pub MainStands : Type 0
MainStands =
    (g : CodeRun) → IsVerified g → (w : Entries (Local ℕ)) → IsReached g (Listing w)
    → (l : Local ℕ) × (at_number w 0 ≡ Some ([], Plain l))
    × (snapshots l.state.locations ≡ snapshots (start_locations g.code.vars))

abbrev pub WorldsAreSmall : Type 0
WorldsAreSmall =
    (g : CodeRun) → IsVerified g → (w : Entries (Local ℕ)) → IsReached g (Listing w)
    → length w ≤ 1 + most_fuel

abbrev pub JoinsFit : Type 0
JoinsFit =
    (g : CodeRun) → IsVerified g → (w : Entries (Local ℕ)) → IsReached g (Listing w)
    → (n : ℕ) (r : Path) (c c' : State ℕ) → at_number w n ≡ Some (r, Plain (at_work c))
    → (try : Bool) (m : ℕ) → leg g c ≡ joins c' try m
    → (q : Path) (l : Local ℕ) → at_number w m ≡ Some (q, Plain l)
    → (numbered g).next l ≡ Stops → c'.fuel + l.state.fuel ≤ most_fuel
