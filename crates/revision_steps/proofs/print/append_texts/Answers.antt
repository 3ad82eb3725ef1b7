-- Answers of append_texts: texts with a space between two are the first text and then each other one behind a space.
use Rattle.std.proofs.lemmas.Grind.{common_steps}
use Rattle.std.proofs.Common.{arith}
use Rattle.revision_steps.proofs.Joined.{texts_split}
use Rattle.revision_steps.proofs.print.append_texts.Goals as goal

pub returns-in_ok-append-in-len1-up : goal.returns-in_ok-append-in-len1-up
returns-in_ok-append-in-len1-up c =
    grind (arith, common_steps, texts_split c.args.texts.now c.first-item.result c.in-len1-up.len_at_least)
