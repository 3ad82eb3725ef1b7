-- Loops of Local::select: what the arms left select is what all arms select.
use Rattle.std.proofs.Common.{◌≡◌, drop}
use Rattle.rev_syntax.specs.View.{arms, stmts}
use Rattle.revision_calculus.specs.Step.{select}
use Rattle.revision_state.specs.Views.{given}
use Rattle.revision_steps.proofs.local.Local.select.Given as goal

abbrev pub invariant-loop-arm : goal.invariant-loop-arm
invariant-loop-arm l =
    select (given l.setting) l.self (arms (drop l.arm-index l.all)) (stmts l.last)
    ≡ select (given l.setting) l.self (arms l.all) (stmts l.last)
