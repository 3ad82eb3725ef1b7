-- The same state over another snapshot: what it has written stays, and all else.
--   moved      these words in place of the snapshot's
--   Agrees     a snapshot and an input have what was read
use Rattle.std.specs.Prelude.{◌≡◌, ℤ, List, [], ◌∷◌, length, Some, slice_get}
use Rattle.rev_code.specs.Words.{Word}
use Rattle.rev_code.specs.State.{Location, State}
use Rattle.rev_code.specs.Step.{Comes, goes, traps, forks, joins, ends, stuck}
use Rattle.code_machine_laws.specs.Reads.{Read, location, input, count}

-- these words, location by location, in place of the snapshot's
abbrev pub over : {H : Type 0} → List (Word H) → List (Location H) → List (Location H)
over [] ls = ls
over (x ∷ xs) [] = []
over (x ∷ xs) (l ∷ ls) = record { snapshot = x; written = l.written } ∷ over xs ls

abbrev pub moved : {H : Type 0} → List (Word H) → State H → State H
moved xs c = record c { locations = over xs c.locations }

abbrev pub moved_comes : {H : Type 0} → List (Word H) → Comes H → Comes H
moved_comes xs (goes c) = goes (moved xs c)
moved_comes xs (traps c e) = traps (moved xs c) e
moved_comes xs (forks c n args) = forks (moved xs c) n args
moved_comes xs (joins c try h) = joins (moved xs c) try h
moved_comes xs (ends c w) = ends (moved xs c) w
moved_comes xs stuck = stuck

-- ---- what agrees

abbrev pub Agrees : {H : Type 0} → (snapshot : List (Word H)) → (inputs : List ℤ) → Read H → Type 0
Agrees xs inputs (location n w) = slice_get xs n ≡ Some w
Agrees xs inputs (input n z) = slice_get inputs n ≡ Some z
Agrees xs inputs (count k) = length inputs ≡ k

abbrev pub AllAgree : {H : Type 0} → (snapshot : List (Word H)) → (inputs : List ℤ) → List (Read H) → Type 0
AllAgree xs inputs [] = Unit {0}
AllAgree xs inputs (x ∷ rs) = Agrees xs inputs x × AllAgree xs inputs rs
