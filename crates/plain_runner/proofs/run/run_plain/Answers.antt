-- Answers of run_plain: the end of a complete run has an outcome, so it never answers none.
use Rattle.std.proofs.Common.{◌∙◌, sym}
use Rattle.revision_machine.specs.States.{global_of}
use Rattle.plain_runner.specs.Views.{setting_of}
use Rattle.plain_runner.proofs.Ending.{not_none}
use Rattle.plain_runner.proofs.run.run_plain.Goals as goal

pub unreachable-requires : goal.unreachable-requires
unreachable-requires c =
    not_none (setting_of c.in_ok-language.language) c.args.fuel (global_of c.in_ok-end.end) c.in_ok-end.ensures
    (sym c.in-None.is ∙ c.in_ok-outcome.ensures)
