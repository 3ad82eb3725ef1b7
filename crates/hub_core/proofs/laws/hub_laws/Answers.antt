-- Answers of hub_laws: each law of the hub is proved of any machine and values, and read at those of this hub.
use Rattle.hub_core.proofs.Hub as hub
use Rattle.hub_core.proofs.laws.hub_laws.Goals as goal

pub returns : goal.returns
returns g c = record {
  opens = λ s main. let h = g.H.HubWorld.hub s in hub.opens h.machine h.values main;
  take = λ s main. let h = g.H.HubWorld.hub s in hub.taken h.machine h.values main;
  retry = λ s main. let h = g.H.HubWorld.hub s in hub.retried h.machine h.values main;
  fork = λ s main. let h = g.H.HubWorld.hub s in hub.forked h.machine h.values main;
  wait = λ s main. let h = g.H.HubWorld.hub s in hub.waits h.machine h.values main;
  back = λ s main. let h = g.H.HubWorld.hub s in hub.back h.machine h.values main;
  join = λ s main. let h = g.H.HubWorld.hub s in hub.joined h.machine h.values main;
  twice = λ s main. let h = g.H.HubWorld.hub s in hub.twice h.machine h.values main;
  ends = λ s main. let h = g.H.HubWorld.hub s in hub.ended h.machine h.values main;
  hand_in = λ s main. let h = g.H.HubWorld.hub s in hub.handed_in h.machine h.values main;
  complete = λ s main log fs_hub fs t over.
      let h = g.H.HubWorld.hub s in (
        hub.complete h.machine h.values main log fs_hub fs t over,
        hub.ends_are h.machine h.values main fs_hub t.world t.fits over,
      );
}
