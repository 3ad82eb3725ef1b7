-- What is noted of a leg.
use Rattle.std.proofs.Common.{ℕ, sym, subst}
use Rattle.rev_code.specs.State.{State}
use Rattle.version_map.specs.declared.delta.Delta.{Delta}
use Rattle.version_map.specs.Deltas.{at}
use Rattle.version_map.specs.Overlay as overlay
use Rattle.code_machine.specs.Local.{CodeRun}
use Rattle.code_machine_laws.specs.LegReads.{leg_reads}
use Rattle.leg_run.specs.Noting.{ReadMarks, HasMarked, marks_of}
use Rattle.leg_run.specs.declared.revision.Run.{Run}
use Rattle.leg_run.specs.Standing.{state_of}
use Rattle.leg_run.proofs.Decoding.{its_state}
use Rattle.rev_vm.specs.Meaning.{IsAt}

-- it is that of each state for which the revision stands
pub noted_at : (g : CodeRun) (run : Run) (delta : Delta) (base : ℕ → ℕ) (first : Delta) (c : State ℕ)
    → IsAt g run delta base first c → (old new : ReadMarks)
    → HasMarked old new (marks_of (leg_reads g (state_of g.code run (overlay.under delta base) (at first))))
    → HasMarked old new (marks_of (leg_reads g c))
noted_at g run delta base first c h old new k =
    subst (λ d. HasMarked old new (marks_of (leg_reads g d)))
    (sym (its_state g.code g.inputs g.share run (overlay.under delta base) (at first) c h.stands)) k
