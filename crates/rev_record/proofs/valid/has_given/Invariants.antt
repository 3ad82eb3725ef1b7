-- `has_given`: one number after another.
use Rattle.std.proofs.Common.{◌≡◌, ◌<◌, ℕ, Some}
use Rattle.std.specs.Prelude.{slice_get}
use Rattle.rev_record.specs.declared.entry.Given.{Given}
use Rattle.rev_record.proofs.valid.has_given.Given as goal

-- the input has those before
abbrev pub invariant-loop-one : goal.invariant-loop-one
invariant-loop-one l =
    (i : ℕ) (x : Given) → i < l.one-index → slice_get l.read i ≡ Some x → slice_get l.inputs x.position ≡ Some x.number
