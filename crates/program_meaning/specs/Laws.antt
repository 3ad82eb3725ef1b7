-- What a program's code does, by legal schedules.
--   FromStart          from the first states of `main`, of every program that the checker accepts
--   SchedulesAgree, LegsAgree, CompleteSchedulesAgree
--                      the world after a legal schedule agrees with a state that a run of the
--                      calculus reaches, leg by leg; after a complete one, with the final state
--   OutcomesAgree      a complete schedule has the outcome of every complete run
use Rattle.std.specs.Prelude.{◌≡◌, ℕ, List, Some}
use Rattle.rev_num.specs.Path.{Path}
use Rattle.rev_num.specs.declared.outcome.Outcome.{Outcome}
use Rattle.revision_machine.specs.Machine.{Global, start, Complete}
use Rattle.revision_machine.specs.Numbered.{World, begin, Replays, IsOver}
use Rattle.revision_machine.specs.Schedules.{ScheduleAgrees, LegLaw, CompleteScheduleAgrees}
use Rattle.revision_calculus.specs.Program.{Setting}
use Rattle.revision_calculus.specs.State.{Local}
use Rattle.revision_calculus.specs.Calculus.{main, calculus}
use Rattle.revision_calculus.specs.Kinded.{IsAccepted}
use Rattle.revision_calculus.specs.Outcome as calculus_outcome
use Rattle.code_machine.specs.Local as code
use Rattle.code_machine.specs.Machines.{numbered, IsMain, start_in}
use Rattle.code_machine.specs.Outcome as code_outcome
use Rattle.program_meaning.specs.Related.{run_of}
use Rattle.program_meaning.specs.Agreement.{AgreesBy}

abbrev pub FromStart : (Setting → Local → code.Local ℕ → Type 0) → Type 0
FromStart Law =
    (s : Setting) → IsAccepted s.program
    → (n : ℕ) (m : IsMain (run_of s) n) (fuel : ℕ)
    → Law s (main s fuel) (start_in (run_of s) n m.body fuel)

abbrev pub SchedulesAgree : Type 0
SchedulesAgree =
    FromStart (λ s l k. ScheduleAgrees (calculus s) (numbered (run_of s)) (AgreesBy s) l k)

abbrev pub LegsAgree : Type 0
LegsAgree = FromStart (λ s l k. LegLaw (calculus s) (numbered (run_of s)) (AgreesBy s) l k)

abbrev pub CompleteSchedulesAgree : Type 0
CompleteSchedulesAgree =
    FromStart (λ s l k. CompleteScheduleAgrees (calculus s) (numbered (run_of s)) (AgreesBy s) l k)

-- the outcome of the world after a complete schedule, and of the end of a complete run
abbrev pub OutcomesAgree : Type 0
OutcomesAgree =
    FromStart (λ s l k.
    (ns : List ℕ) (w : World (code.Local ℕ))
    → Replays (numbered (run_of s)) (begin (numbered (run_of s)) k) ns w
    → IsOver (numbered (run_of s)) k w
    → (rs : List Path) (g : Global Local) → Complete (calculus s) (start (calculus s) l) rs g
    → (result : Outcome) × (code_outcome.outcome (run_of s) w ≡ Some result)
    × (calculus_outcome.outcome s g ≡ Some result))
