-- Programs whose code never joins a revision twice.
--   CodeOfNever   where no run of the program reaches Twice, no legal schedule of its code does
--   AffineCode    so it is where the program keeps the affine rule
use Rattle.std.specs.Prelude.{ℕ}
use Rattle.revision_calculus.specs.Program.{Setting}
use Rattle.revision_calculus.specs.Kinded.{IsAccepted}
use Rattle.affine_check.specs.Affine.{IsAffine}
use Rattle.affine_check.specs.Laws.{NeverTwice}
use Rattle.program_meaning.specs.Related.{run_of}
use Rattle.code_machine_laws.specs.Texts.{NeverJoinsTwice}

abbrev pub CodeOfNever : Type 0
CodeOfNever =
    (s : Setting) → IsAccepted s.program → (fuel : ℕ) → NeverTwice s fuel → NeverJoinsTwice (run_of s) fuel

abbrev pub AffineCode : Type 0
AffineCode =
    (s : Setting) → IsAccepted s.program → IsAffine s.program → (fuel : ℕ) → NeverJoinsTwice (run_of s) fuel
