-- Whole schedules: the world agrees with a state of the calculus, and has its outcome.
use Rattle.std.proofs.Common.{◌≡◌, ◌∙◌, inl, ℕ, List, [], Some, refl, sym}
use Rattle.rev_num.specs.Path.{Path}
use Rattle.revision_machine.specs.Machine.{Global, start, Complete}
use Rattle.revision_machine.specs.Numbered.{World, begin, Replays, IsOver}
use Rattle.revision_machine.specs.Simulation.{Agrees}
use Rattle.revision_machine.proofs.Bearing.{bearing}
use Rattle.revision_machine.proofs.Ends.{unique_end}
use Rattle.revision_machine.proofs.Converse.{complete_law, same_end}
use Rattle.revision_machine.proofs.Schedules.{schedule_agrees, complete_schedule_agrees}
use Rattle.revision_machine.proofs.Legs.{leg_law}
use Rattle.revision_calculus.specs.Program.{Setting}
use Rattle.revision_calculus.specs.State.{Local}
use Rattle.revision_calculus.specs.Calculus.{main, calculus}
use Rattle.revision_calculus.specs.HandlesHeld.{Holds}
use Rattle.revision_calculus.specs.Kinded.{IsAccepted}
use Rattle.revision_calculus.proofs.Meets.{counts, handles, main_holds_none}
use Rattle.revision_calculus.proofs.StepKinds.{main_kinded}
use Rattle.rev_code.specs.Step as r
use Rattle.program_meaning.specs.Steps.{nowhere}
use Rattle.program_meaning.proofs.Starts.{main_stands}
use Rattle.code_machine.specs.Local as code
use Rattle.code_machine.specs.Local.{IsVerified}
use Rattle.code_machine.specs.Machines.{machine, numbered, IsMain, start_in}
use Rattle.code_machine.specs.Outcome as code_outcome
use Rattle.code_machine.proofs.MachineConditions.{named_counts}
use Rattle.code_machine.proofs.MachineConditions as meeting
use Rattle.code_machine.proofs.Numbering.{first_numbered}
use Rattle.code_machine.proofs.Outcomes.{ended, world_outcome, one_outcome}
use Rattle.program_meaning.specs.Related.{run_of, works}
use Rattle.program_meaning.specs.Relation.{IsRelated, IsRelatedBy}
use Rattle.program_meaning.specs.Agreement.{AgreesBy}
use Rattle.program_meaning.proofs.Simulating.{code_simulated, numbers_simulated}
use Rattle.program_meaning.proofs.Agreeing.{related_agrees}
use Rattle.program_meaning.proofs.WeakerRelations.{schedules_weaker, legs_law_weaker, ends_weaker}
use Rattle.program_meaning.proofs.Ends.{outcomes_same}

module _ (s : Setting) (well : IsAccepted s.program) (ok : IsVerified (run_of s)) (n : ℕ) (m : IsMain (run_of s) n)
    (fuel : ℕ) where
  abbrev first : code.Local ℕ
  first = start_in (run_of s) n m.body fuel

  first_related : IsRelated s [] (main s fuel) (start_in (run_of s) n m.body fuel)
  first_related = (
    works refl (record {
      phase = refl;
      on = _;
      steps = r.none;
      few = nowhere refl;
      given = inl refl;
      stands = main_stands s well n m.body m.is m.class fuel;
    }),
    main_kinded s well fuel,
  )

  first_by : (t : List Path) → IsRelatedBy s t [] (main s fuel) (start_in (run_of s) n m.body fuel)
  first_by t = (start_in (run_of s) n m.body fuel, first_related, first_numbered (run_of s) n m.body fuel t)

  pub agrees : Rattle.revision_machine.specs.Schedules.ScheduleAgrees (calculus s) (numbered (run_of s)) (AgreesBy s)
      (main s fuel) (start_in (run_of s) n m.body fuel)
  agrees =
      schedules_weaker (calculus s) (numbered (run_of s)) (IsRelatedBy s) (AgreesBy s) (main s fuel)
      (start_in (run_of s) n m.body fuel) (related_agrees s)
      (schedule_agrees (calculus s) (numbered (run_of s)) (IsRelatedBy s) (main s fuel)
      (start_in (run_of s) n m.body fuel) (named_counts (run_of s) ok) (numbers_simulated s well ok)
      (λ t i. first_by t))

  pub legs_agree : Rattle.revision_machine.specs.Schedules.LegLaw (calculus s) (numbered (run_of s)) (AgreesBy s)
      (main s fuel) (start_in (run_of s) n m.body fuel)
  legs_agree =
      legs_law_weaker (calculus s) (numbered (run_of s)) (IsRelatedBy s) (AgreesBy s) (main s fuel)
      (start_in (run_of s) n m.body fuel) (related_agrees s)
      (leg_law (calculus s) (numbered (run_of s)) (IsRelatedBy s) (main s fuel) (start_in (run_of s) n m.body fuel)
      (named_counts (run_of s) ok) (numbers_simulated s well ok) (λ t i. first_by t))

  pub ends_agree : Rattle.revision_machine.specs.Schedules.CompleteScheduleAgrees (calculus s) (numbered (run_of s))
      (AgreesBy s) (main s fuel) (start_in (run_of s) n m.body fuel)
  ends_agree =
      ends_weaker (calculus s) (numbered (run_of s)) (IsRelatedBy s) (AgreesBy s) (main s fuel)
      (start_in (run_of s) n m.body fuel) (related_agrees s)
      (complete_schedule_agrees (calculus s) (numbered (run_of s)) (IsRelatedBy s) (main s fuel)
      (start_in (run_of s) n m.body fuel) (named_counts (run_of s) ok) (numbers_simulated s well ok) (λ t i. first_by t)
      Holds (counts s) (handles s) (main_holds_none s fuel))

  -- a complete run of the calculus and one of the code by paths end alike
  paths_end : (rs ws : List Path) (g : Global Local) (w : Global (code.Local Path))
      → Complete (calculus s) (start (calculus s) (main s fuel)) rs g
      → Complete (machine (run_of s)) (start (machine (run_of s)) (start_in (run_of s) n m.body fuel)) ws w
      → Agrees (calculus s) (machine (run_of s)) (IsRelated s) g w
  paths_end rs ws g w one two =
      let b = bearing (machine (run_of s)) ws (start (machine (run_of s)) (start_in (run_of s) n m.body fuel)) w
      two.runs in
      same_end (calculus s) (machine (run_of s)) (IsRelated s) (λ p. Unit {0}) (main s fuel)
      (start_in (run_of s) n m.body fuel)
      (complete_law (calculus s) (machine (run_of s)) (IsRelated s) (λ p. Unit {0}) (main s fuel)
      (start_in (run_of s) n m.body fuel) (code_simulated s well ok) Holds (counts s) (handles s)
      (main_holds_none s fuel) first_related (meeting.counts (run_of s) ok))
      (unique_end (calculus s) (main s fuel) (counts s)) rs ws b.0 g w one b.1 (λ c i. tt) two.final

  pub outcomes_agree : (ns : List ℕ) (w : World (code.Local ℕ))
      → Replays (numbered (run_of s)) (begin (numbered (run_of s)) (start_in (run_of s) n m.body fuel)) ns w
      → IsOver (numbered (run_of s)) (start_in (run_of s) n m.body fuel) w
      → (rs : List Path) (g : Global Local) → Complete (calculus s) (start (calculus s) (main s fuel)) rs g
      → (result : Rattle.rev_num.specs.declared.outcome.Outcome.Outcome)
      × (code_outcome.outcome (run_of s) w ≡ Some result)
      × (Rattle.revision_calculus.specs.Outcome.outcome s g ≡ Some result)
  outcomes_agree ns w replays over rs g complete =
      let e = ended (run_of s) ok n m fuel ns w replays over in
      let alike =
      paths_end rs e.matches.by g e.matches.state complete (record { runs = e.matches.runs; final = e.final }) in
      let shown =
      world_outcome (run_of s) ok n m fuel ns w replays e.matches.table e.matches.own e.matches.state
      e.matches.agrees in
      let result = one_outcome (run_of s) ok n m fuel ns ns w w replays over replays over in
      (result.0, result.1, sym (outcomes_same s g e.matches.state alike) ∙ sym shown ∙ result.1)
