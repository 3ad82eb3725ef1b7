-- Answers of append_schedule: the text of a schedule is its first number and then each other number behind a comma.
use Rattle.std.proofs.lemmas.Grind.{common_steps}
use Rattle.std.proofs.Common.{arith}
use Rattle.rev_report.proofs.Commas.{schedule_text-split}
use Rattle.rev_report.proofs.order.append_schedule.Goals as goal

pub returns-in_ok-append_decimal-in-len1-up : goal.returns-in_ok-append_decimal-in-len1-up
returns-in_ok-append_decimal-in-len1-up c = grind (arith, common_steps, schedule_text-split c.args.schedule.now)
