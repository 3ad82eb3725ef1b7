-- What contracts see of a thread's hand.
--   begins      the runs that it is for: `main` with this fuel
use Rattle.std.specs.Prelude.{ℕ, ◌<◌, ◌^◌, List}
use Rattle.code_machine.specs.Local.{CodeRun}
use Rattle.run_revision.specs.CodeState.{CodeState}
use Rattle.run_revision.specs.Laws.{IsStart}

pub record HandValue : Type 0 where
  pub run : CodeRun
  pub fuel : ℕ
  pub group : List ℕ
  -- of how many snapshots the keeper has what is left
  pub kept : ℕ

abbrev pub begins : HandValue → CodeState → Type 0
begins h s = IsStart h.run h.fuel s × (h.fuel < 2 ^ 64)
