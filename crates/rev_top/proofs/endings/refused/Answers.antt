-- Answers of refused: a stop that is a refusal has the report which shows that refusal.
use Rattle.rev_top.proofs.Ending.{report_made}
use Rattle.rev_top.proofs.endings.refused.Goals as goal

pub returns-in-Refused : goal.returns-in-Refused
returns-in-Refused c =
    report_made c.args.stop c.in-Refused.refusal c.in-Refused.is c.refusal_bytes.result c.refusal_bytes.ensures
