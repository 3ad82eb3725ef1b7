-- How contracts of other crates speak of the values of this crate, over a run of code.
--   StandsFor          a runner stands for this state
--   StandsAtFork       a revision at a Fork, for this state and these arguments of its child
--   Awaits             a forker behind its Fork, that forked in this state with these arguments
--   StandsAtJoin       a joiner, for this state
--   HasClaimed         a joiner that was given an end
--   runner_state, fork_state, joiner_state   what they stand for
--   runner_group, ..   what their snapshots belong to
--   runner_snapshot, runner_delta   a runner's snapshot, and what lies over it, where it has begun
--   runner_text        what a runner has printed
use Rattle.std.specs.Prelude.{ℕ, List, [], Option, Some, None}
use Rattle.rev_code.specs.Words.{Word}
use Rattle.rev_code.specs.State.{State}
use Rattle.rev_code.specs.Events as events
use Rattle.version_map.specs.declared.delta.Delta.{Delta}
use Rattle.version_map.specs.declared.snapshot.Snapshot.{Ghosts}
use Rattle.code_machine.specs.Local.{CodeRun, End}
use Rattle.rev_vm.specs.declared.fork.AtFork.{AtFork}
use Rattle.rev_vm.specs.declared.fork.Parent.{Parent}
use Rattle.rev_vm.specs.declared.join.AtJoin.{AtJoin}
use Rattle.rev_vm.specs.declared.join.Claimed.{Claimed}
use Rattle.rev_vm.specs.declared.runner.Runner.{Runner}
use Rattle.rev_vm.specs.declared.runner.Stage.{Stage}
use Rattle.rev_vm.specs.declared.runner.Stage.TheVariants as stage
use Rattle.rev_vm.specs.Revisions.{StandsAs, BornAs, ForksAs, JoinsAs, ClaimsAs}
use Rattle.rev_vm.specs.States.{state_at, start_state, before_join}

module _ {P S : Type 0} {m : Ghosts P S} where
  -- ---- a runner
  abbrev pub StandsIn : CodeRun → Stage P S m → State ℕ → Type 0
  StandsIn g (stage.Begun b) c = StandsAs g b.value c
  StandsIn g (stage.Born b) c = BornAs g m.base m.size b.value c

  abbrev pub StandsFor : CodeRun → Runner P S m → State ℕ → Type 0
  StandsFor g r c = StandsIn g r.stage c

  abbrev pub stage_state : CodeRun → Stage P S m → State ℕ
  stage_state g (stage.Begun b) =
      state_at g b.value.run b.value.memory.delta (m.base b.value.memory.snapshot)
      b.value.memory.first.roots
  stage_state g (stage.Born b) =
      start_state g b.value.block b.value.args.items (m.base b.value.snapshot) b.value.fuel

  abbrev pub runner_state : CodeRun → Runner P S m → State ℕ
  runner_state g r = stage_state g r.stage

  abbrev pub stage_snapshot : Stage P S m → P
  stage_snapshot (stage.Begun b) = b.value.memory.snapshot
  stage_snapshot (stage.Born b) = b.value.snapshot

  abbrev pub runner_snapshot : Runner P S m → P
  runner_snapshot r = stage_snapshot r.stage

  -- one that has not begun has written nothing
  abbrev pub stage_delta : Stage P S m → Option Delta
  stage_delta (stage.Begun b) = Some b.value.memory.delta
  stage_delta (stage.Born b) = None

  abbrev pub runner_delta : Runner P S m → Option Delta
  runner_delta r = stage_delta r.stage

  abbrev pub stage_text : Stage P S m → List ℕ
  stage_text (stage.Begun b) = b.value.run.text.items
  stage_text (stage.Born b) = []

  abbrev pub runner_text : Runner P S m → List ℕ
  runner_text r = stage_text r.stage

  abbrev pub runner_group : Runner P S m → List ℕ
  runner_group r = m.group (runner_snapshot r)

  -- ---- a revision at a Fork, and behind it
  abbrev pub StandsAtFork : CodeRun → AtFork P S m → State ℕ → List (Word ℕ) → Type 0
  StandsAtFork g a c args = ForksAs g a.revision.value a.block c args

  abbrev pub fork_state : CodeRun → AtFork P S m → State ℕ
  fork_state g a =
      state_at g a.revision.value.run a.revision.value.memory.delta
      (m.base a.revision.value.memory.snapshot)
      a.revision.value.memory.first.roots

  abbrev pub fork_group : AtFork P S m → List ℕ
  fork_group a = m.group a.revision.value.memory.snapshot

  abbrev pub Awaits : CodeRun → Parent P S m → State ℕ → List (Word ℕ) → Type 0
  Awaits g a c args = StandsAs g a.revision.value (events.parent g.share c args 0)

  abbrev pub parent_group : Parent P S m → List ℕ
  parent_group a = m.group a.revision.value.memory.snapshot

  -- ---- a joiner
  abbrev pub StandsAtJoin : CodeRun → AtJoin P S m → State ℕ → Type 0
  StandsAtJoin g a c = JoinsAs g a.revision.value a.is_try a.on c

  abbrev pub joiner_state : CodeRun → AtJoin P S m → State ℕ
  joiner_state g a =
      before_join g a.revision.value.run a.revision.value.memory.delta
      (m.base a.revision.value.memory.snapshot)
      a.revision.value.memory.first.roots

  abbrev pub joiner_fuel : AtJoin P S m → ℕ
  joiner_fuel a = a.revision.value.run.registers.fuel

  abbrev pub joiner_group : AtJoin P S m → List ℕ
  joiner_group a = m.group a.revision.value.memory.snapshot

  abbrev pub HasClaimed : CodeRun → Claimed P S m → State ℕ → End ℕ → Type 0
  HasClaimed g k c j = ClaimsAs g k.at.revision.value k.at.is_try k.at.on k.end c j
