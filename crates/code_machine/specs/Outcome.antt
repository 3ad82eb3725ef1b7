-- The outcome of a world or state in which `main` has ended: Twice, or its text, the values of its
-- view by location with their names, and how it ended. A handle is read as the path of its
-- revision.
use Rattle.std.specs.Prelude.{◌≡◌, ℕ, zero, suc, ◌+◌, List, [], ◌∷◌, ◌++◌, if◌then◌else◌, Option, Some, None}
use Rattle.rev_num.specs.Path.{Path}
use Rattle.rev_num.specs.declared.value.Value.{Value}
use Rattle.rev_num.specs.declared.value.Value.TheVariants as v
use Rattle.rev_num.specs.declared.outcome.Outcome.{Outcome}
use Rattle.rev_num.specs.declared.outcome.Outcome.TheVariants as o
use Rattle.rev_num.specs.declared.outcome.Shown.{Shown}
use Rattle.rev_code.specs.declared.code.CodeVar.{CodeVar}
use Rattle.rev_code.specs.Words.{Word, int, bool, rev}
use Rattle.rev_code.specs.State.{Location, seen_at}
use Rattle.revision_machine.specs.Machine.{Entry, Global, Twice, Live}
use Rattle.revision_machine.specs.Laws.{local_of}
use Rattle.revision_machine.specs.Numbered.{World, Both, Listing, at_number, or_path, paths_of, begin, Replays, IsOver}
use Rattle.code_machine.specs.Local.{CodeRun, IsVerified, Phase, running, done, trapped, Local}
use Rattle.code_machine.specs.Joining.{main_at}
use Rattle.code_machine.specs.Machines.{numbered, IsMain, start_in}

module _ {H : Type 0} (path : H → Path) where
  abbrev pub handle_value : Option H → Option Path
  handle_value None = None
  handle_value (Some h) = Some (path h)

  abbrev pub value_of : Word H → Value
  value_of (int n) = v.Int n
  value_of (bool b) = v.Bool b
  value_of (rev h) = v.Rev (handle_value h)

  -- of the view at this location
  abbrev pub value_at : List (Location H) → ℕ → Value
  value_at ls n = value_of (main_at (seen_at ls n))

  -- the cells of an array from this one on, of which there are so many, at these locations
  abbrev pub show_cells : List ℕ → List (Location H) → (base cell : ℕ) → (count : ℕ) → List Shown
  show_cells name ls base cell zero = []
  show_cells name ls base cell (suc n) =
      record { name = name; cell = Some cell; value = value_at ls (base + cell) }
      ∷ show_cells name ls base (suc cell) n

  -- a variable whose first location this is
  abbrev pub show_variable : List (Location H) → ℕ → CodeVar → List Shown
  show_variable ls base x =
      if x.array then show_cells x.name ls base 0 x.cells
      else record { name = x.name; cell = None; value = value_at ls base } ∷ []

  abbrev pub show_all : List (Location H) → ℕ → List CodeVar → List Shown
  show_all ls base [] = []
  show_all ls base (x ∷ xs) = show_variable ls base x ++ show_all ls (base + x.cells) xs

  -- `main` is the empty path
  abbrev pub origin_path : Option H → Path
  origin_path None = []
  origin_path (Some h) = path h

  -- of `main`, where it has ended
  abbrev pub end_as : List ℕ → List Shown → Phase H → Option Outcome
  end_as text values done = Some (o.Done text values)
  end_as text values (trapped t) =
      Some (o.Trapped text values
      (record { cause = t.cause; line = t.line; origin = origin_path t.origin }))
  end_as text values running = None

  abbrev pub main_outcome : CodeRun → Local H → Option Outcome
  main_outcome g l = end_as l.state.text (show_all l.state.locations 0 g.code.vars) l.phase

-- by numbers
abbrev pub outcome_with : CodeRun → List Path → Option (Path × Entry (Local ℕ)) → Option Outcome
outcome_with g paths None = None
outcome_with g paths (Some x) = main_outcome (λ n. or_path (at_number paths n) []) g (local_of x.1)

abbrev pub outcome : CodeRun → World (Local ℕ) → Option Outcome
outcome g Both = Some o.Twice
outcome g (Listing w) = outcome_with g (paths_of w) (at_number w 0)

-- by paths
abbrev pub outcome_in : CodeRun → Option (Entry (Local Path)) → Option Outcome
outcome_in g None = None
outcome_in g (Some e) = main_outcome (λ p. p) g (local_of e)

abbrev pub outcome_by_paths : CodeRun → Global (Local Path) → Option Outcome
outcome_by_paths g Twice = Some o.Twice
outcome_by_paths g (Live revs) = outcome_in g (revs [])

-- ---- law

-- any two complete schedules have one outcome
abbrev pub OneOutcome : Type 0
OneOutcome =
    (g : CodeRun) → IsVerified g → (n : ℕ) (m : IsMain g n) (fuel : ℕ)
    → (ns ks : List ℕ) (w u : World (Local ℕ))
    → Replays (numbered g) (begin (numbered g) (start_in g n m.body fuel)) ns w
    → IsOver (numbered g) (start_in g n m.body fuel) w
    → Replays (numbered g) (begin (numbered g) (start_in g n m.body fuel)) ks u
    → IsOver (numbered g) (start_in g n m.body fuel) u
    → (result : Outcome) × (outcome g w ≡ Some result) × (outcome g u ≡ Some result)
