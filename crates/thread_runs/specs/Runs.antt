-- A run of verified code by threads.
--   numbers_of   its schedule: the numbers of the revisions in the order of their legs
--   state_of     which halt was entered first, if any
--   forkers_of   by number, the revision that forked it, and 0 for the first
--   ends_of      by number, the end values of the revisions that nobody joined
--   TellsWorld   its state, forkers and ends are those of the world of its schedule
--   IsRunOf      what is left of a run of the code from `main` with this fuel
use Rattle.std.specs.Prelude.{◌≡◌, ℕ, List, Option, Some}
use Rattle.std.specs.Global.{Box}
use Rattle.revision_machine.specs.Numbered.{World, Both, Listing, paths_of}
use Rattle.hub_core.specs.Forkers.{ForkersAre}
use Rattle.hub_core.specs.declared.state.HubState.{HubState}
use Rattle.hub_core.specs.declared.state.HubState.TheVariants.{All, Twice}
use Rattle.thread_runs.specs.Ends.{AreEndsOf}
use Rattle.version_map.specs.declared.end.EndValue.{EndValue}
use Rattle.code_machine.specs.Local.{CodeRun, Local}
use Rattle.code_machine.specs.Outcome.{outcome}
use Rattle.code_machine_laws.specs.Outcomes.{IsCompleteRun}
use Rattle.segment_store.specs.Group.{closed_group}
use Rattle.turn_hub.specs.Names.{schedule_numbers, schedule_forkers, schedule_state, schedule_group}
use Rattle.thread_runs.specs.declared.ran.Ran.{Ran}

abbrev pub numbers_of : Ran → List ℕ
numbers_of r = schedule_numbers r.order

abbrev pub state_of : Ran → HubState
state_of r = schedule_state r.order

abbrev pub forkers_of : Ran → List ℕ
forkers_of r = schedule_forkers r.order

abbrev pub ends_of : Ran → List (Option (Box EndValue))
ends_of r = r.ends.items

-- where a revision was joined twice there is no world, and no ends are told of
abbrev pub TellsWorld : CodeRun → World (Local ℕ) → Ran → Type 0
TellsWorld g Both r = state_of r ≡ Twice
TellsWorld g (Listing w) r =
    (state_of r ≡ All) × ForkersAre (paths_of w) (forkers_of r) × AreEndsOf g w (ends_of r)

pub record IsRunOf (g : CodeRun) (fuel : ℕ) (r : Ran) : Type 0 where
  -- by its schedule `main` comes to this world, in which no revision has a leg; where a revision was
  -- joined twice, the last entry joined what was joined
  pub world : World (Local ℕ)
  pub complete : IsCompleteRun g fuel (numbers_of r) world
  -- no halt was entered, and of each revision of the world its forker is told,
  -- and its end unless it was joined; or it is that
  -- of a second join
  pub told : TellsWorld g world r
  -- its outcome is that of this world
  pub shows : outcome g world ≡ Some r.outcome
  -- its snapshots were of the store that was closed, whose count is told, and no segment is in use
  pub of_store : closed_group r.closed ≡ schedule_group r.order
  pub counted : r.live ≡ r.closed.live
  pub none_live : r.live ≡ 0
