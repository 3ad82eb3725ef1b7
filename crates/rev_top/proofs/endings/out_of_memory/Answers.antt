-- Answers of out_of_memory: however the writing ends, the sink took a first part of the message.
use Rattle.std.proofs.Common.{ℕ, List, subst}
use Rattle.rev_io.specs.Stream.{TookSome}
use Rattle.rev_io.proofs.Whole.{some_taken}
use Rattle.rev_top.proofs.endings.out_of_memory.Goals as goal

pub returns-clause-some : goal.returns-clause-some
returns-clause-some g c =
    subst
    (λ (message : List ℕ). TookSome (g.E.Sink.stream c.args.err.now) message (g.E.Sink.stream c.write_all.new.sink))
    c.no_memory_message.ensures
    (some_taken _ _ _ c.write_all.result c.write_all.ensures)
