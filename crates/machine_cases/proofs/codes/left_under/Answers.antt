-- Answers of left_under: the whole snapshot has the count and the start of the setting's code, as main's start asks.
use Rattle.std.proofs.Common.{◌∙◌, ap, subst}
use Rattle.rev_code.specs.declared.code.Code.{Code}
use Rattle.version_map.specs.contracts.whole.WholeSnapshot.TheImpl.{ghosts}
use Rattle.block_run.specs.Area.{count}
use Rattle.rev_vm.specs.Opening.{StartsWith}
use Rattle.machine_cases.proofs.codes.left_under.Goals as goal

pub start_main-requires-clause-size : goal.start_main-requires-clause-size
start_main-requires-clause-size g c =
    c.in_ok-snapshot.ensures.size ∙ ap (λ (z : Code). count z.vars) c.code.ensures.code

pub start_main-requires-clause-base : goal.start_main-requires-clause-base
start_main-requires-clause-base g c =
    subst (λ (z : Code). StartsWith z.vars (ghosts.base c.in_ok-snapshot.snapshot)) c.code.ensures.code
    c.in_ok-snapshot.ensures.base
