-- New words, or the first fault of a merge.
use Rattle.std.specs.Prelude.{ℕ, ◌≡◌, Ok, Err}
use Rattle.version_map.specs.Composing.{Composition}
use Rattle.rev_vm.specs.declared.settling.Merged.{Merged}
use Rattle.rev_vm.specs.declared.settling.Merged.TheVariants as merged

abbrev pub IsMergedTo : Composition ℕ → Merged → Type 0
IsMergedTo c (merged.Words ws) = c ≡ Ok ws.items
IsMergedTo c (merged.Fault t) = c ≡ Err (t.location, t.fault)
