-- Answers of behind: the bytes with the prefix stripped are those that stand behind it.
use Rattle.trace_diagram.proofs.Spelling.{stripped}
use Rattle.trace_diagram.proofs.spelled.behind.Goals as goal

pub returns : goal.returns
returns c = stripped c.strip_prefix.result (λ x. x.now) c.args.bytes.now c.args.prefix.now c.strip_prefix.ensures.cases
