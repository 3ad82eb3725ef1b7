-- A program's code has the program's outcome, in every complete schedule, however it began.
use Rattle.std.proofs.Common.{◌≡◌, ◌∙◌, sym, ℕ, ◌+◌, ◌*◌, List, ◌++◌, Some}
use Rattle.rev_num.specs.declared.outcome.Outcome.{Outcome}
use Rattle.revision_machine.specs.Numbered.{World, begin, Replays, Least, IsOver, CompleteSchedule}
use Rattle.revision_machine.proofs.ByNumber.{least_completes}
use Rattle.revision_machine.proofs.Replays.{replays_on}
use Rattle.revision_calculus.specs.Program.{Setting}
use Rattle.revision_calculus.specs.Kinded.{IsAccepted}
use Rattle.revision_calculus.specs.Complete as program
use Rattle.revision_calculus.proofs.Outcomes.{one_outcome}
use Rattle.code_machine.specs.Local.{Local}
use Rattle.code_machine.specs.Machines.{numbered, IsMain, start_in}
use Rattle.code_machine.specs.Outcome.{outcome}
use Rattle.code_machine.proofs.Starting.{entry_bound}
use Rattle.code_machine_laws.specs.Outcomes as code
use Rattle.code_machine_laws.proofs.Outcomes.{each_has_one}
use Rattle.program_meaning.specs.Related.{run_of}
pub use Rattle.generated_blocks.proofs.Accepted.{code_accepted}
use Rattle.program_meaning.proofs.Schedules.{outcomes_agree}

module _ (s : Setting) (well : IsAccepted s.program) (fuel : ℕ) where
  pub of_program : (o : Outcome) → code.HasOutcome (run_of s) fuel o → program.HasOutcome s fuel o
  of_program o h =
      let one = one_outcome s fuel in
      let run = h.complete in
      record {
        by = one.has.by;
        end = one.has.end;
        complete = one.has.complete;
        each = λ rs g c.
            let both =
            outcomes_agree s well (code_accepted s.program well) run.block run.main fuel h.schedule h.world run.legal
            run.over rs g c in
            both.2 ∙ sym both.1 ∙ h.each h.schedule h.world run;
      }

module _ (s : Setting) (well : IsAccepted s.program) (fuel : ℕ) (o : Outcome) (h : program.HasOutcome s fuel o) where
  -- after a complete schedule from this main block
  of_schedule : (n : ℕ) (m : IsMain (run_of s) n) (ns : List ℕ) (w : World (Local ℕ))
      → Replays (numbered (run_of s)) (begin (numbered (run_of s)) (start_in (run_of s) n m.body fuel)) ns w
      → IsOver (numbered (run_of s)) (start_in (run_of s) n m.body fuel) w → outcome (run_of s) w ≡ Some o
  of_schedule n m ns w legal over =
      let both = outcomes_agree s well (code_accepted s.program well) n m fuel ns w legal over h.by h.end h.complete in
      both.1 ∙ sym both.2 ∙ h.each h.by h.end h.complete

  pub of_code : code.HasOutcome (run_of s) fuel o
  of_code =
      let one = each_has_one (run_of s) (code_accepted s.program well) fuel in
      record {
        schedule = one.has.schedule;
        world = one.has.world;
        complete = one.has.complete;
        each = λ ns w c. of_schedule c.block c.main ns w c.legal c.over;
      }

  module _ (n : ℕ) (m : IsMain (run_of s) n) (ns : List ℕ) (v : World (Local ℕ))
      (legal :
      Replays (numbered (run_of s)) (begin (numbered (run_of s)) (start_in (run_of s) n m.body fuel)) ns v) where
    pub each_completion : (ms : List ℕ) (w : World (Local ℕ))
        → CompleteSchedule (numbered (run_of s)) (start_in (run_of s) n m.body fuel) v ms w
        → outcome (run_of s) w ≡ Some o
    each_completion ms w c =
        of_schedule n m (ns ++ ms) w
        (replays_on (numbered (run_of s)) ns ms (begin (numbered (run_of s)) (start_in (run_of s) n m.body fuel)) v w
        legal c.replays)
        c.over

    pub least_numbers : (ms : List ℕ) × (w : World (Local ℕ))
        × Least (numbered (run_of s)) (start_in (run_of s) n m.body fuel) v ms w × (outcome (run_of s) w ≡ Some o)
    least_numbers =
        let all =
        least_completes (numbered (run_of s)) (start_in (run_of s) n m.body fuel) (3 * fuel + 2)
        (entry_bound (run_of s) (code_accepted s.program well) n m fuel) ns v legal in
        (all.0, all.1, all.2, each_completion all.0 all.1 all.3)
