-- Answers of StreamerLegs::out_of_memory: where the legs stop for want of memory the world is whole.
use Rattle.world_streams.proofs.Legs.{stops_whole}
use Rattle.world_streams.proofs.streamer.StreamerLegs.out_of_memory.Goals as goal

pub returns : goal.returns
returns g c = λ s w v h is begun kept. stops_whole g.O.Sink.stream s begun w v c.args.self.now.out kept is
