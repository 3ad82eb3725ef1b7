-- A program's code gives what the program gives.
--   OutcomeIsThatOfTheProgram   an outcome is that of the code exactly where it is that of the
--                               program
--   FromMain                    from the first states of `main`, where the program has this outcome
--   EachCompletionHasIt         after each legal schedule, whatever completes it has that outcome
--   LeastNumbersGiveIt          so it has when the least number with a leg goes, time after time
use Rattle.std.specs.Prelude.{◌≡◌, ◌↔◌, ℕ, List, Some}
use Rattle.rev_num.specs.declared.outcome.Outcome.{Outcome}
use Rattle.revision_machine.specs.Numbered.{World, begin, Replays, Least, CompleteSchedule}
use Rattle.revision_calculus.specs.Program.{Setting}
use Rattle.revision_calculus.specs.Kinded.{IsAccepted}
use Rattle.revision_calculus.specs.Complete as program
use Rattle.code_machine.specs.Local.{Local}
use Rattle.code_machine.specs.Machines.{numbered, IsMain, start_in}
use Rattle.code_machine.specs.Outcome.{outcome}
use Rattle.code_machine_laws.specs.Outcomes as code
use Rattle.program_meaning.specs.Related.{run_of}

-- every complete schedule of the code's `main` has this outcome, exactly where every complete run
-- of the program has it
abbrev pub OutcomeIsThatOfTheProgram : Type 0
OutcomeIsThatOfTheProgram =
    (s : Setting) → IsAccepted s.program → (fuel : ℕ) (o : Outcome)
    → code.HasOutcome (run_of s) fuel o ↔ program.HasOutcome s fuel o

abbrev pub FromMain : (Setting → Outcome → Local ℕ → Type 0) → Type 0
FromMain Law =
    (s : Setting) → IsAccepted s.program
    → (fuel : ℕ) (o : Outcome) → program.HasOutcome s fuel o
    → (n : ℕ) (m : IsMain (run_of s) n) → Law s o (start_in (run_of s) n m.body fuel)

abbrev pub EachCompletionHasIt : Type 0
EachCompletionHasIt =
    FromMain (λ s o main.
    (ns : List ℕ) (v : World (Local ℕ))
    → Replays (numbered (run_of s)) (begin (numbered (run_of s)) main) ns v
    → (ms : List ℕ) (w : World (Local ℕ)) → CompleteSchedule (numbered (run_of s)) main v ms w
    → outcome (run_of s) w ≡ Some o)

abbrev pub LeastNumbersGiveIt : Type 0
LeastNumbersGiveIt =
    FromMain (λ s o main.
    (ns : List ℕ) (v : World (Local ℕ))
    → Replays (numbered (run_of s)) (begin (numbered (run_of s)) main) ns v
    → (ms : List ℕ) × (w : World (Local ℕ)) × Least (numbered (run_of s)) main v ms w
    × (outcome (run_of s) w ≡ Some o))
