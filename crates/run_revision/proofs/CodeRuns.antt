-- A hub's run of verified code is one of the code.
use Rattle.std.proofs.Common.{◌≡◌, refl, ℕ, List, Option, Some, None, sym, ◌∙◌, subst}
use Rattle.revision_machine.specs.Numbered.{Entries, World, Both, Listing, begin, Replays, IsOver}
use Rattle.revision_machine.proofs.Paths.{some_inj}
use Rattle.revision_machine.proofs.Numbers.{none_some}
use Rattle.hub_core.specs.Replay.{replay}
use Rattle.hub_core.proofs.Replay.{replay_is}
use Rattle.hub_core.specs.declared.state.HubState.{HubState}
use Rattle.hub_core.specs.declared.state.HubState.TheVariants.{All, Twice, NoMemory}
use Rattle.turn_hub.specs.Closing.{Legal}
use Rattle.code_machine.specs.Local.{CodeRun, Local}
use Rattle.code_machine.specs.Machines.{numbered, start_in}
use Rattle.run_revision.specs.CodeState.{CodeState, state_of, states, shown_all, shown_some}
use Rattle.run_revision.specs.CodeValues.{is_end, code_hub}
use Rattle.run_revision.proofs.Shown.{replays}
use Rattle.run_revision.proofs.JoinersAndEnds.{over_is}
use Rattle.run_revision.specs.CodeRuns.{IsLegalOf, RunsAreOfCode}

module _ (g : CodeRun) where
  -- the world of code that this one shows
  pub record Shows (o : Option (World (Local ℕ))) (u : Entries CodeState) : Type 0 where
    pub world : Entries (Local ℕ)
    pub is : o ≡ Some (Listing world)
    pub same : u ≡ shown_all g world

  shows : (o : Option (World (Local ℕ))) (u : Entries CodeState) → shown_some g o ≡ Some (Listing u) → Shows o u
  shows None u e = none_some e
  shows (Some Both) u e = absurd (let x : ◌≡◌ {A = World CodeState} Both (Listing u) = some_inj e in cc)
  shows (Some (Listing w)) u e =
      let x : ◌≡◌ {A = World CodeState} (Listing (shown_all g w)) (Listing u) = some_inj e in
      record { world = w; is = refl; same = (let y : u ≡ shown_all g w = cc in y) }

  both : (o : Option (World (Local ℕ))) → shown_some g o ≡ Some Both → o ≡ Some Both
  both None e = none_some e
  both (Some Both) e = refl
  both (Some (Listing w)) e =
      absurd (let x : ◌≡◌ {A = World CodeState} (Listing (shown_all g w)) Both = some_inj e in cc)

  module _ (main : Local ℕ) (ns : List ℕ) where
    -- the schedule leads to it
    pub record Leads (u : Entries CodeState) : Type 0 where
      pub world : Entries (Local ℕ)
      pub replays : Replays (numbered g) (begin (numbered g) main) ns (Listing world)
      pub same : u ≡ shown_all g world

    pub leads : (u : Entries CodeState) → replay states (state_of g main) ns ≡ Some (Listing u) → Leads u
    leads u e =
        let s = shows (replay (numbered g) main ns) u (sym (replays g main ns) ∙ e) in
        record { world = s.world; replays = (replay_is (numbered g) main ns (Listing s.world)).0 s.is; same = s.same }

    pub leads_both : replay states (state_of g main) ns ≡ Some Both
        → Replays (numbered g) (begin (numbered g) main) ns Both
    leads_both e =
        (replay_is (numbered g) main ns Both).0 (both (replay (numbered g) main ns) (sym (replays g main ns) ∙ e))

    pub over_there : (u : Entries CodeState) (l : Leads u) → IsOver states (state_of g main) (Listing u)
        → IsOver (numbered g) main (Listing l.world)
    over_there u l over = over_is g main l.world (subst (λ z. IsOver states (state_of g main) (Listing z)) l.same over)

    legal : (state : HubState) (u : Entries CodeState) → Legal code_hub is_end (state_of g main) state ns u
        → (state ≡ All → IsOver states (state_of g main) (Listing u)) → IsLegalOf g main state ns
    legal All u e over =
        let l = leads u e in (l.world, record { replays = l.replays; over = over_there u l (over refl) })
    legal Twice u e over = leads_both e.4
    legal NoMemory u e over = let l = leads u e in (l.world, l.replays)

pub of_code : RunsAreOfCode
of_code g fuel start begun group state ns forkers ended kept taken closed = record {
  verified = begun.verified;
  block = begun.block;
  main = begun.main;
  legal = legal g (start_in g begun.block begun.main.body fuel) ns state closed.world
      (subst (λ s. Legal code_hub is_end s state ns closed.world) begun.is closed.legal)
      (λ e. subst (λ s. IsOver states s (Listing closed.world)) begun.is (closed.complete e).0);
}
