-- Answers of program_of: the tree is that of the tokens, small as the text is, or the fault is their first.
use Rattle.std.proofs.Common.{refl}
use Rattle.rev_syntax.specs.View.{program as whole}
use Rattle.rev_parse.specs.Verdicts.{tree}
use Rattle.mode_reports.proofs.Faults.{no_tree}
use Rattle.mode_reports.proofs.text.program_of.Goals as goal

pub returns-in-Ok-clause-meets : goal.returns-in-Ok-clause-meets
returns-in-Ok-clause-meets c = (tree (whole c.in-Ok.program), c.in-Ok.ensures.0, refl)

pub returns-in-Err-clause-meets : goal.returns-in-Err-clause-meets
returns-in-Err-clause-meets c =
    no_tree c.args.text.now whole c.args.tokens.now c.in-Err.fault c.syntactic.result c.syntactic.ensures
    c.in-Err.ensures

pub returns-in-Ok-clause-small : goal.returns-in-Ok-clause-small
returns-in-Ok-clause-small c = c.in-Ok.ensures.1 c.requires.whole c.requires.limit
