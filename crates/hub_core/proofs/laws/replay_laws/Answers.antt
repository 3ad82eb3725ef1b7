-- Answers of replay_laws: each law of schedules is proved of any machine, and read at that of this hub.
use Rattle.hub_core.proofs.Replay.{replay_is, replay_more, still}
use Rattle.hub_core.proofs.Forkers.{forkers_step}
use Rattle.hub_core.proofs.laws.replay_laws.Goals as goal

pub returns : goal.returns
returns g c = record {
  replay = λ s main. replay_is (g.H.HubWorld.hub s).machine main;
  commit = λ s main. replay_more (g.H.HubWorld.hub s).machine main;
  earlier = λ s main. still (g.H.HubWorld.hub s).machine main;
  forkers = λ s main. forkers_step (g.H.HubWorld.hub s).machine;
}
