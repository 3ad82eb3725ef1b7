-- A program whose run takes as many steps as its fuel allows.
use Rattle.std.specs.Prelude.{◌≡◌, ℕ, List, [], ◌∷◌, length, replicate}
use Rattle.rev_num.specs.Path.{Path}
use Rattle.rev_syntax.specs.Trees.{ProgramTree}
use Rattle.revision_machine.specs.Machine.{Global, Runs}
use Rattle.revision_calculus.specs.State.{Local}
use Rattle.revision_calculus.specs.Calculus.{calculus}
use Rattle.revision_calculus.specs.Complete.{start_of}
use Rattle.revision_calculus.specs.Words.{call, proc, program}
use Rattle.revision_calculus.specs.Examples.{usual}

-- proc p() { } main { call p(); .. call p(); }, with so many calls
abbrev pub calls_often : ℕ → ProgramTree
calls_often n = program (proc "p" [] [] ∷ []) (replicate n (call 1 "p" []))

-- with each fuel, and as many calls, a run has so many steps
abbrev pub Takes : (ℕ → ℕ) → Type 0
Takes many =
    (fuel : ℕ) → (rs : List Path) × (g : Global Local)
    × Runs (calculus (usual (calls_often fuel))) (start_of (usual (calls_often fuel)) fuel) rs g
    × (length rs ≡ many fuel)
