-- Answers of handle_laws: main holds no handle and each step keeps to known ones, and the rest are lemmas.
use Rattle.revision_machine.proofs.Standing.{standing_law}
use Rattle.revision_machine.proofs.Ends.{reached_forked}
use Rattle.revision_machine.proofs.Blocked.{handle_law, no_blocked_end}
use Rattle.revision_calculus.specs.Calculus.{calculus, main}
use Rattle.revision_calculus.specs.HandlesHeld.{Holds}
use Rattle.revision_calculus.proofs.Meets.{counts, handles, main_holds_none}
use Rattle.revision_calculus.proofs.laws.handle_laws.Goals as goal

pub returns : goal.returns
returns c = record {
  forkers = λ s fuel. reached_forked (calculus s) (main s fuel) (counts s);
  handles = λ s fuel. handle_law (calculus s) (main s fuel) Holds (counts s) (handles s) (main_holds_none s fuel);
  standing = λ s fuel. standing_law (calculus s) (main s fuel);
  no_blocked_end =
      λ s fuel. no_blocked_end (calculus s) (main s fuel) Holds (counts s) (handles s) (main_holds_none s fuel);
}
