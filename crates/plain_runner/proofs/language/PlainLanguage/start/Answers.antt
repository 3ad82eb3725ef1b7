-- Answers of PlainLanguage::start: the state made for main is a first one, from which the machine may start.
use Rattle.std.proofs.Common.{sym, subst}
use Rattle.revision_machine.specs.Rules.{IsFirst}
use Rattle.determinacy.specs.Rules.{rules_of}
use Rattle.determinacy.specs.Meets.{is_first}
use Rattle.plain_runner.specs.Views.{setting_of}
use Rattle.plain_runner.proofs.language.PlainLanguage.start.Goals as goal

pub start-requires : goal.start-requires
start-requires c =
    subst (IsFirst (rules_of (setting_of c.args.self.now))) (sym c.in_ok-main.ensures)
    (is_first (setting_of c.args.self.now) c.args.fuel c.requires)
