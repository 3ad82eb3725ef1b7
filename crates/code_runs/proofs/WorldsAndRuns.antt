-- From a world on the way to its end, and from the setting to what was given.
use Rattle.std.proofs.Common.{◌≡◌, ◌∙◌, ℕ, ◌≤◌, List, [], ◌++◌, refl, sym, ap, subst}
use Rattle.std.specs.Prelude.{ℤ, IfErr, IsErrAnd, Result, Ok, Err}
use Rattle.rev_code.specs.declared.code.Code.{Code}
use Rattle.revision_machine.specs.Numbered.{World, begin, Replays}
use Rattle.code_machine.specs.Local.{CodeRun, Local}
use Rattle.code_machine.specs.Machines.{IsMain, numbered, start_in}
use Rattle.code_machine.specs.Worlds.{after, replay}
use Rattle.code_machine.proofs.Changes.{replay_goes_on, replay_is}
use Rattle.code_world.specs.declared.world.World as rust
use Rattle.code_world.specs.Tables.{IsWorld}
use Rattle.code_machine_laws.specs.Reached.{IsReached, most_fuel}
use Rattle.world_runs.specs.Finish.{HasFinished}
use Rattle.world_runs.specs.Replay.{Replayed}
use Rattle.code_runs.specs.Completed.{IsAfter, IsUnderway}

-- the schedule without an entry leads to the start of `main`
pub begun : (g : CodeRun) (fuel n : ℕ) (m : IsMain g n) → fuel ≤ most_fuel → (v : rust.World)
    → IsWorld g v (begin (numbered g) (start_in g n m.body fuel)) → IsUnderway g fuel v
begun g fuel n m few v stands = record {
  few = few;
  schedule = [];
  world = begin (numbered g) (start_in g n m.body fuel);
  replayed = record { number = n; main = m; world = refl };
  stands = stands;
}

-- a replay leads to its world
pub replayed_to : (g : CodeRun) (fuel : ℕ) → fuel ≤ most_fuel → (ns : List ℕ) (w : World (Local ℕ))
    → Replayed g fuel ns w → (v : rust.World) → IsWorld g v w → IsUnderway g fuel v
replayed_to g fuel few ns w r v stands =
    record { few = few; schedule = ns; world = w; replayed = r; stands = stands }

module _ (g : CodeRun) (fuel : ℕ) (v : rust.World) (u : IsUnderway g fuel v) where
  abbrev start : World (Local ℕ)
  start = begin (numbered g) (start_in g u.replayed.number u.replayed.main.body fuel)

  pub reached : IsReached g u.world
  reached = record {
    number = u.replayed.number;
    main = u.replayed.main;
    fuel = fuel;
    few = u.few;
    schedule = u.schedule;
    replays = (replay_is g start u.world u.schedule).1 u.replayed.world;
  }

  -- what goes on from this world is legal behind what led to it
  legal_behind : (ms : List ℕ) (w : World (Local ℕ)) → Replays (numbered g) u.world ms w
      → Replays (numbered g) start (u.schedule ++ ms) w
  legal_behind ms w h =
      (replay_is g start w (u.schedule ++ ms)).1
      (replay_goes_on g start u.schedule ms
      ∙ ap (λ o. after (numbered g) o (λ x. replay (numbered g) x ms)) u.replayed.world
      ∙ (replay_is g u.world w ms).0 h)

  pub is_after : (e : rust.World) → HasFinished g u.world e → IsAfter g fuel e
  is_after e f =
      let done = f.complete (start_in g u.replayed.number u.replayed.main.body fuel) in
      record {
        few = u.few;
        schedule = u.schedule ++ f.schedule;
        world = f.end;
        complete = record {
          block = u.replayed.number;
          main = u.replayed.main;
          legal = legal_behind f.schedule f.end done.replays;
          over = done.over;
        };
        stands = f.world;
      }

-- what holds of a run holds of the same code with the same inputs and share
pub of_run : (P : CodeRun → Type 0) (code code' : Code) (inputs inputs' : List ℤ) (share share' : ℕ) → code' ≡ code
    → inputs' ≡ inputs → share' ≡ share
    → P (record { code = code'; inputs = inputs'; share = share' })
    → P (record { code = code; inputs = inputs; share = share })
of_run P code code' inputs inputs' share share' a b c h =
    let same : ◌≡◌ {A = CodeRun} (record { code = code'; inputs = inputs'; share = share' })
    (record { code = code; inputs = inputs; share = share }) =
    (λ i. record { code = a i; inputs = b i; share = c i }) in
    subst P same h

-- what holds of an error holds of it where it is handed on
pub handed_on : {A E : Type 0} (r : Result A E) (e : E) → IsErrAnd r (λ x. x ≡ e) → (P : E → Type 0) → P e → IfErr r P
handed_on (Ok a) e never P h = absurd never
handed_on (Err x) e same P h = subst P (sym same) h
