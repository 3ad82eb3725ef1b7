-- A complete run, from the start of `main`.
use Rattle.std.proofs.Common.{◌∙◌, ℕ, ◌≤◌, List, [], ◌∷◌, sym, ap}
use Rattle.revision_machine.specs.Numbered as numbers
use Rattle.revision_machine.specs.Numbered.{World, begin, Least, Replays, IsOver}
use Rattle.code_machine.specs.Local.{CodeRun, Local}
use Rattle.code_machine.specs.Machines.{IsMain, numbered, start_in}
use Rattle.code_world.specs.declared.world.World as rust
use Rattle.code_world.specs.Tables.{IsWorld}
use Rattle.code_machine_laws.specs.Reached.{most_fuel}
use Rattle.code_runs.specs.Completed.{IsAfter}

pub least_replays : (g : CodeRun) (main : Local ℕ) (v : World (Local ℕ)) (ns : List ℕ) (w : World (Local ℕ))
    → Least (numbered g) main v ns w → Replays (numbered g) v ns w
least_replays g main v [] w h = h.0
least_replays g main v (n ∷ ns) w h = (h.0, h.1, least_replays g main h.0 ns w h.3)

pub least_over : (g : CodeRun) (main : Local ℕ) (v : World (Local ℕ)) (ns : List ℕ) (w : World (Local ℕ))
    → Least (numbered g) main v ns w → IsOver (numbered g) main w
least_over g main v [] w h = (λ n. ap (λ x. numbers.leg (numbered g) x n) (sym h.0) ∙ h.1 n)
least_over g main v (n ∷ ns) w h = least_over g main h.0 ns w h.3

unfoldable pub is_after : (g : CodeRun) (fuel n : ℕ) (m : IsMain g n) → fuel ≤ most_fuel
    → (v : rust.World) (ns : List ℕ) (w : World (Local ℕ))
    → Least (numbered g) (start_in g n m.body fuel) (begin (numbered g) (start_in g n m.body fuel)) ns w → IsWorld g v w
    → IsAfter g fuel v
is_after g fuel n m few v ns w least stands =
    let main = start_in g n m.body fuel in
    record {
      few = few;
      schedule = ns;
      world = w;
      complete = record {
        block = n;
        main = m;
        legal = least_replays g main (begin (numbered g) main) ns w least;
        over = least_over g main (begin (numbered g) main) ns w least;
      };
      stands = stands;
    }
