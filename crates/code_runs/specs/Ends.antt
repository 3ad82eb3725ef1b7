-- What `main` left, with the snapshot of the start.
--   StartsAsDeclared   the snapshot has the start word of each location
--   IsEndOfMain        `main` has ended in this state, over such a snapshot
use Rattle.std.specs.Prelude.{ℕ, ◌≡◌}
use Rattle.rev_code.specs.Variables.{start_locations}
use Rattle.version_map.specs.declared.end.EndValue.{EndValue}
use Rattle.code_machine.specs.Local.{CodeRun, Local, end_of}
use Rattle.code_machine_laws.specs.Reached.{snapshots}
use Rattle.rev_vm.specs.Meaning.{IsEnd}

abbrev pub StartsAsDeclared : CodeRun → Local ℕ → Type 0
StartsAsDeclared g l = snapshots l.state.locations ≡ snapshots (start_locations g.code.vars)

pub record IsEndOfMain (g : CodeRun) (l : Local ℕ) (v : EndValue) : Type 0 where
  pub end : IsEnd g (end_of l) v
  pub starts : StartsAsDeclared g l
