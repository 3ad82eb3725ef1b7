-- The notes of a list.
use Rattle.std.specs.Prelude.{ℕ, List, [], ◌∷◌, slice_get, true}
use Rattle.rev_num.specs.declared.value.ValueKind.{ValueKind}
use Rattle.code_rules.specs.Pass.{Note, known}

-- the note of each place, by the list of them; a place without one has that of an entry, with
-- nothing on the stack
abbrev pub noted : List Note → ℕ → Note
noted ns at = known (slice_get ns at)

-- with a word of this kind on top
abbrev pub push : ValueKind → Note → Note
push t n = record { shape = t ∷ n.shape; paid = n.paid }

-- behind a Charge
abbrev pub charged : Note
charged = record { shape = []; paid = true }
