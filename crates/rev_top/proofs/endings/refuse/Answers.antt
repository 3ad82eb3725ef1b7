-- Answers of refuse: the report of the refusal is delivered, or without memory for it the message for that.
use Rattle.std.proofs.Common.{refl}
use Rattle.rev_report.specs.Report.{output}
use Rattle.rev_top.proofs.Ending.{refusal_delivered, refusal_lost}
use Rattle.rev_top.proofs.endings.refuse.Goals as goal

pub returns-in-Ok : goal.returns-in-Ok
returns-in-Ok g c =
    let h = c.in-Ok.ensures in
    refusal_delivered c.args.stop h.0 h.1 (output c.in-Ok.report) h.2 c.deliver.ensures

pub returns-in-Err : goal.returns-in-Err
returns-in-Err g c =
    refusal_lost c.args.stop c.out_of_memory.ensures.status
    (record { untouched = refl; message = c.out_of_memory.ensures.some })
