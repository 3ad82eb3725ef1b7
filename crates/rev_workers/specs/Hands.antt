-- The hands of threads that run code over a store.
--   IsHandAt       its keeper is of this store
--   IsHandFor      a hand for the runs of this setting whose `main` has this fuel, over this store
--   AreMergesFor   merges of any kind, told by their own words, of this setting's code
--   kept_by        of how many holds the keepers of these hands have what is left
use Rattle.std.specs.Prelude.{◌≡◌, ℕ, List}
use Rattle.std.specs.List.{sum_by}
use Rattle.fun_run.specs.Merging.{AreMergesOf}
use Rattle.block_run.specs.Area.{count}
use Rattle.leg_run.specs.declared.setting.CodeSetting.{CodeSetting}
use Rattle.rev_vm.specs.Starts.{run_under}
use Rattle.run_revision.specs.Hands.{HandValue}
use Rattle.segment_store.specs.declared.store.Store.{Store}
use Rattle.segment_store.specs.Group.{store_group}
use Rattle.version_map.specs.Composing.{Merges}

abbrev pub IsHandAt : Store → HandValue → Type 0
IsHandAt s h = h.group ≡ store_group s

abbrev pub IsHandFor : CodeSetting → ℕ → Store → HandValue → Type 0
IsHandFor g fuel s h = (h.run ≡ run_under g) × (h.fuel ≡ fuel) × IsHandAt s h

-- so many locations, and these merges, are told of a value
abbrev pub AreMergesFor : {M : Type 0} → (M → ℕ) → (M → Merges ℕ) → CodeSetting → M → Type 0
AreMergesFor size merges g m = (size m ≡ count g.code.vars) × AreMergesOf (run_under g) (merges m)

abbrev pub kept_by : List HandValue → ℕ
kept_by hands = sum_by (λ h. h.kept) hands
