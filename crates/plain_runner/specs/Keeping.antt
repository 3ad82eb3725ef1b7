-- The rules of the language, and that they keep the conditions of the laws.
use Rattle.revision_machine.specs.Rules.{Rules, Keeps}
use Rattle.revision_calculus.specs.State.{Local}
use Rattle.determinacy.specs.Rules.{rules_of}
use Rattle.determinacy.specs.Meets as meets
use Rattle.plain_runner.specs.declared.language.PlainLanguage.{PlainLanguage}
use Rattle.plain_runner.specs.Views.{setting_of}

abbrev pub rules : PlainLanguage → Rules Local
rules l = rules_of (setting_of l)

pub keeps : (l : PlainLanguage) → Keeps (rules l)
keeps l = meets.keeps (setting_of l)
