-- A legal schedule of a program's code agrees with a run of the program.
use Rattle.std.proofs.Common.{◌≢◌, ℕ, List, refl, subst}
use Rattle.rev_num.specs.Path.{Path}
use Rattle.revision_machine.specs.Machine.{Global, Live, Twice, Runs, start}
use Rattle.revision_machine.specs.Numbered.{World, Both, begin, Replays, machine_by, shows}
use Rattle.revision_machine.specs.Schedules.{Matches}
use Rattle.revision_machine.specs.Simulation.{Agrees}
use Rattle.revision_calculus.specs.Program.{Setting}
use Rattle.revision_calculus.specs.State.{Local}
use Rattle.revision_calculus.specs.Calculus.{calculus, main}
use Rattle.revision_calculus.specs.Kinded.{IsAccepted}
use Rattle.affine_check.specs.Laws.{NeverTwice}
use Rattle.code_machine.specs.Local as code
use Rattle.code_machine.specs.Machines.{numbered, IsMain, start_in}
use Rattle.generated_blocks.proofs.Accepted.{code_accepted}
use Rattle.program_meaning.specs.Related.{run_of}
use Rattle.program_meaning.specs.Agreement.{AgreesBy}
use Rattle.program_meaning.proofs.Schedules.{agrees}
use Rattle.code_machine_laws.specs.Texts.{NeverJoinsTwice}

module _ (s : Setting) (well : IsAccepted s.program) (fuel : ℕ) (never : NeverTwice s fuel) (n : ℕ)
    (m : IsMain (run_of s) n) (ns : List ℕ) (w : World (code.Local ℕ))
    (legal : Replays (numbered (run_of s)) (begin (numbered (run_of s)) (start_in (run_of s) n m.body fuel)) ns w) where
  matches : Matches (calculus s) (numbered (run_of s)) (AgreesBy s) (main s fuel) (start_in (run_of s) n m.body fuel) w
  matches = agrees s well (code_accepted s.program well) n m fuel ns w legal

  live_only : (t : List Path) (rs : List Path) (g : Global Local)
      → Runs (calculus s) (start (calculus s) (main s fuel)) rs g
      → Agrees (calculus s) (machine_by (numbered (run_of s)) t) (AgreesBy s t) g Twice → ⊥
  live_only t rs Twice runs agree = never Twice (record { by = rs; runs = runs }) refl
  live_only t rs (Live revs) runs agree = agree

  pub not_both : w ≢ Both
  not_both both =
      live_only matches.table matches.by matches.state matches.runs
      (subst (λ z.
      Agrees (calculus s) (machine_by (numbered (run_of s)) matches.table) (AgreesBy s matches.table) matches.state
      (shows z))
      both matches.agrees)

pub code_of_never : (s : Setting) → IsAccepted s.program → (fuel : ℕ) → NeverTwice s fuel
    → NeverJoinsTwice (run_of s) fuel
code_of_never s well fuel never n m ns w legal = not_both s well fuel never n m ns w legal
