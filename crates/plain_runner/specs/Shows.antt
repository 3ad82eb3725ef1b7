-- What a state of `main` shows.
use Rattle.std.specs.Prelude.{Option}
use Rattle.rev_num.specs.declared.outcome.Outcome.{Outcome}
use Rattle.typed_programs.specs.Layout.{variables}
use Rattle.revision_calculus.specs.Program.{Setting}
use Rattle.revision_calculus.specs.State.{Local}
use Rattle.revision_calculus.specs.Outcome.{show_all, end_as}

-- the outcome with this state of `main`, if it has ended
abbrev pub main_end : Setting → Local → Option Outcome
main_end s l = end_as l.text (show_all (variables s.program) l.locations) l.phase
