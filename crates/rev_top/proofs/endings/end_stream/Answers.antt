-- Answers of end_stream: the outcome of the streamed run is the given end, whose report follows where memory allows.
use Rattle.std.proofs.Common.{◌∙◌, ap, false, subst, Ok}
use Rattle.std.specs.Prelude.{Result}
use Rattle.world_streams.specs.declared.fault.StreamFault.{StreamFault}
use Rattle.rev_num.specs.declared.outcome.Outcome.{Outcome}
use Rattle.rev_report.specs.Outcome.{report}
use Rattle.rev_top.specs.Streaming.{Streamed}
use Rattle.rev_top.proofs.Ending.{no_report}
use Rattle.rev_top.proofs.endings.end_stream.Goals as goal

pub returns-in-Ok-outcome_bytes : goal.returns-in-Ok-outcome_bytes
returns-in-Ok-outcome_bytes g c = λ end old new h.
    let k : Streamed end old new (Ok c.in-Ok.outcome) =
    subst (λ (r : Result Outcome StreamFault). Streamed end old new r) c.in-Ok.is h in
    c.end_report.ensures (report false end) old new (c.in-Ok-outcome_bytes.ensures ∙ ap (report false) k.0) k.1

pub returns-in-Ok : goal.returns-in-Ok
returns-in-Ok g c = λ end old new h.
    let k : Streamed end old new (Ok c.in-Ok.outcome) =
    subst (λ (r : Result Outcome StreamFault). Streamed end old new r) c.in-Ok.is h in
    no_report (report false end) old new (g.E.Sink.stream c.args.err.now) (g.E.Sink.stream c.out_of_memory.new.err) k.1
    c.out_of_memory.result c.out_of_memory.ensures.status c.out_of_memory.ensures.some
