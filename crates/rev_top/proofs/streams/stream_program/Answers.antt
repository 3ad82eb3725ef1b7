-- Answers of stream_program: there is one outcome of the program, and what is streamed and delivered is that one's.
use Rattle.rev_syntax.specs.View.{program as whole}
use Rattle.revision_calculus.proofs.Outcomes.{one_outcome}
use Rattle.mode_reports.specs.Answer.{setting}
use Rattle.rev_top.proofs.streams.stream_program.Goals as goal

pub returns : goal.returns
returns g c =
    let one = one_outcome (setting c.args.words.now (whole c.args.typed.now.expanded.program)) c.args.words.now.fuel in
    record {
      outcome = one.is;
      has_outcome = one.has;
      delivered = c.end_stream.ensures one.is _ _ (c.run_streaming-streamed.ensures one.is one.has);
    }
