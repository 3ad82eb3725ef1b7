-- From the end of a run to the outcome of every run.
use Rattle.std.proofs.Common.{◌≡◌, ℕ, Bool, true, false, List, [], Some, None, refl, sym, ap, ◌∙◌}
use Rattle.rev_num.specs.declared.outcome.Outcome.{Outcome}
use Rattle.revision_machine.specs.Machine.{Global, Live}
use Rattle.revision_machine.specs.Laws.{IsDistinct}
use Rattle.revision_machine.specs.declared.state.RevisionRow.{RevisionRow}
use Rattle.revision_machine.specs.RevisionList.{paths, entry_with, globe}
use Rattle.revision_machine.specs.ListStep.{IsAt}
use Rattle.revision_machine.specs.StepOutcomes.{IsEnd}
use Rattle.revision_machine.proofs.Steps.{Reads, shown_at}
use Rattle.revision_calculus.specs.Program.{Setting}
use Rattle.revision_calculus.specs.State.{Local}
use Rattle.revision_calculus.specs.Calculus.{main, calculus}
use Rattle.revision_calculus.specs.Outcome.{outcome, main_outcome}
use Rattle.revision_calculus.specs.Complete.{HasOutcome}
use Rattle.revision_calculus.proofs.Outcomes.{one_outcome}
use Rattle.plain_runner.specs.Shows.{main_end}

module _ (s : Setting) (fuel : ℕ) (g : Global Local) (end : IsEnd (calculus s) (main s fuel) g) where
  pub has_outcome : (o : Outcome) → Some o ≡ outcome s g → HasOutcome s fuel o
  has_outcome o e = record {
    by = end.by;
    end = g;
    complete = end.complete;
    each = λ rs h c. ap (outcome s) (end.only rs h c) ∙ sym e;
  }

  pub not_none : None ≡ outcome s g → ⊥
  not_none e =
      let one = one_outcome s fuel in let clash : None ≡ Some one.is = e ∙ one.has.each end.by g end.complete in cc

-- with `main` at a place of the list, its local state decides
pub by_main : (s : Setting) (ss : List (RevisionRow Local)) (i : ℕ) (x : RevisionRow Local) → IsDistinct (paths ss)
    → IsAt ss i [] → Reads ss i x → main_end s x.state ≡ outcome s (Live (globe ss))
by_main s ss i x distinct at r = sym (ap (main_outcome s) (shown_at ss i [] x distinct at r) ∙ either x.joined)
  where
    either : (b : Bool) → main_outcome s (Some (entry_with b x.state)) ≡ main_end s x.state
    either true = refl
    either false = refl
