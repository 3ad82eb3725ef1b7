-- The breaches of the affine rule as faults: `place` and `rank` order them, `Refuses` says when one is right.
use Rattle.std.specs.Prelude.{ℕ}
use Rattle.rev_syntax.specs.Trees.{ProgramTree}
use Rattle.affine_check.specs.Affine.{copied, stored, used_twice, in_loop}
use Rattle.affine_check.specs.Laws.{IsRefused}
use Rattle.affine_check.specs.declared.fault.AffineFault.{AffineFault}
use Rattle.affine_check.specs.declared.fault.AffineFault.TheVariants.{Copied, Stored, UsedTwice, InLoop, OutOfMemory}

abbrev pub place : AffineFault → ℕ
place (Copied at) = at
place (Stored at) = at
place (UsedTwice at) = at
place (InLoop at) = at
place OutOfMemory = 0

-- the number of a breach, by which two at one place are told apart
abbrev pub rank : AffineFault → ℕ
rank (Copied at) = 1
rank (Stored at) = 2
rank (UsedTwice at) = 3
rank (InLoop at) = 4
rank OutOfMemory = 5

-- the refusal of a program: its first breach, at the least place, and there of the least number. Want of memory says
-- nothing.
abbrev pub Refuses : ProgramTree → AffineFault → Type 0
Refuses p (Copied at) = IsRefused p copied at
Refuses p (Stored at) = IsRefused p stored at
Refuses p (UsedTwice at) = IsRefused p used_twice at
Refuses p (InLoop at) = IsRefused p in_loop at
Refuses p OutOfMemory = Unit {0}
