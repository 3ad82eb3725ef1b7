-- Answers of append_dotted: the text of a path is its first number and then each other number behind a dot.
use Rattle.std.proofs.lemmas.Grind.{common_steps}
use Rattle.std.proofs.Common.{arith}
use Rattle.rev_num.proofs.Dots.{path_text-split}
use Rattle.rev_num.proofs.text.append_dotted.Goals as goal

pub returns-in_ok-append_decimal-in-len1-up-clause-ok : goal.returns-in_ok-append_decimal-in-len1-up-clause-ok
returns-in_ok-append_decimal-in-len1-up-clause-ok c = grind (arith, common_steps, path_text-split c.args.numbers.now)
