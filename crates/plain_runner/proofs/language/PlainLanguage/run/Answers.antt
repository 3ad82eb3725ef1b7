-- Answers of PlainLanguage::run: the state that is made for main is a first one by the rules of the calculus.
use Rattle.std.proofs.Common.{sym, subst}
use Rattle.revision_machine.specs.Rules.{IsFirst}
use Rattle.determinacy.specs.Rules.{rules_of}
use Rattle.determinacy.specs.Meets.{is_first}
use Rattle.plain_runner.specs.Views.{setting_of}
use Rattle.plain_runner.proofs.language.PlainLanguage.run.Goals as goal

pub run-requires : goal.run-requires
run-requires c =
    subst (IsFirst (rules_of (setting_of c.args.self.now))) (sym c.in_ok-main.ensures)
    (is_first (setting_of c.args.self.now) c.args.fuel c.requires)
