-- What writes of words to written locations do.
--   AreAtEntries   entries stand at the locations that were written
--   HasWritten     locations that words stood for have the new words
use Rattle.std.specs.Prelude.{ℕ, ◌≡◌, ◌≤◌, List, [], ◌∷◌, length, Option}
use Rattle.rev_code.specs.Words.{Word}
use Rattle.rev_code.specs.State.{Location}
use Rattle.version_map.specs.declared.end.Written.{Written}
use Rattle.version_map.specs.Composing.{Entry}
use Rattle.block_run.specs.Standing.{AreSeen}
use Rattle.block_run.specs.Agreement.{AreWords}
use Rattle.code_machine.specs.Joining.{written_all}

abbrev pub AreAtEntries : List (Entry (Word ℕ)) → List Written → Type 0
AreAtEntries [] [] = Unit {0}
AreAtEntries (e ∷ es) (w ∷ ws) = (w.location ≡ e.location) × AreAtEntries es ws
AreAtEntries [] (w ∷ ws) = ⊥
AreAtEntries (e ∷ es) [] = ⊥

abbrev pub HasWritten : (size : ℕ) → List Written → (values : List ℕ)
    → (seen : ℕ → ℕ) (root : ℕ → Option ℕ) (seen' : ℕ → ℕ) (root' : ℕ → Option ℕ) → Type 0
HasWritten size written values seen root seen' root' =
    (ls : List (Location ℕ)) (es : List (Entry (Word ℕ))) (xs : List (Word ℕ))
    → length ls ≤ size → AreSeen ls seen root → AreAtEntries es written → AreWords xs values
    → AreSeen (written_all ls es xs) seen' root'
