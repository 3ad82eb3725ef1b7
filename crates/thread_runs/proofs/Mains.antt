-- What a run of code leaves that no halt ended: a world, and in it the end of `main`.
use Rattle.std.proofs.Common.{◌≡◌, ◌≢◌, ◌∙◌, refl, ℕ, ◌+◌, ◌≤◌, List, [], ◌∷◌, length, Option, Some, None, sym, ap, subst, arith}
use Rattle.std.specs.Global.{Box}
use Rattle.rev_num.specs.Path.{Path}
use Rattle.rev_num.specs.declared.outcome.Outcome.{Outcome}
use Rattle.rev_num.specs.declared.outcome.Outcome.TheVariants as o
use Rattle.revision_machine.specs.Machine.{Entry, Plain, Joined}
use Rattle.revision_machine.specs.Numbered.{Entries, Both, Listing, at_number, paths_of, IsOver}
use Rattle.revision_machine.proofs.Paths.{some_inj}
use Rattle.revision_machine.proofs.Numbers.{none_some, length-paths}
use Rattle.hub_core.specs.Forkers.{ForkersAre}
use Rattle.hub_core.specs.Hub.{EndsAre}
use Rattle.hub_core.specs.HubMachine as hub
use Rattle.hub_core.specs.Replay.{replay}
use Rattle.hub_core.specs.declared.state.HubState.{HubState}
use Rattle.hub_core.specs.declared.state.HubState.TheVariants.{All, Twice, NoMemory}
use Rattle.turn_hub.specs.declared.closing.HubRun.{HubRun}
use Rattle.hub_core.specs.declared.revision.Revision.{Ghosts}
use Rattle.turn_hub.specs.Closing.{Legal, ClosedHub}
use Rattle.turn_hub.specs.Names.{run_state, run_schedule, run_forkers, run_ends}
use Rattle.hub_workers.specs.Running.{IsRunFrom}
use Rattle.version_map.specs.declared.end.EndValue.{EndValue}
use Rattle.code_machine.specs.Local.{CodeRun, IsVerified, Local, End, end_of}
use Rattle.code_machine.specs.Machines.{start_in}
use Rattle.code_machine.specs.Outcome.{outcome}
use Rattle.code_machine_laws.specs.Outcomes.{HasOutcome, IsCompleteRun}
use Rattle.run_revision.specs.CodeState.{CodeState, state_of, states, shown_at, shown_all}
use Rattle.run_revision.specs.CodeValues.{RunnerValue, JoinerValue, LeftValue, is_end, code_hub}
use Rattle.run_revision.specs.Laws.{IsStart}
use Rattle.run_revision.proofs.Shown.{at_shown}
use Rattle.code_runs.proofs.Completing.{shown_by}
use Rattle.code_world.specs.declared.table.Birth.{Birth}
use Rattle.code_world.specs.Endings.{Names}
use Rattle.code_machine_laws.specs.Reached.{IsReached, most_fuel}
use Rattle.code_machine_laws.proofs.Reaching.{main_stands, small}
use Rattle.rev_vm.specs.Meaning.{IsEnd}
use Rattle.code_runs.specs.Ends.{StartsAsDeclared, IsEndOfMain}
use Rattle.thread_runs.specs.Births.{AreBirths, AreEarlier}
use Rattle.thread_runs.specs.Ends.{AreOwned, AreEndsOf}
use Rattle.thread_runs.specs.Told.{IsRunOf}
use Rattle.run_revision.proofs.CodeRuns.{Leads, leads, leads_both, over_there}
use Rattle.thread_runs.proofs.Naming.{names_theirs}

paths_shown : (g : CodeRun) (w : Entries (Local ℕ)) → paths_of (shown_all g w) ≡ paths_of w
paths_shown g [] = refl
paths_shown g ((r, e) ∷ w) = ap (λ ps. r ∷ ps) (paths_shown g w)

plain_same : (r q : Path) (x : Entry CodeState) (s : CodeState)
    → ◌≡◌ {A = Option (Path × Entry CodeState)} (Some (r, x)) (Some (q, Plain s)) → x ≡ Plain s
plain_same r q x s e = ap (λ z. z.1) (some_inj e)

-- the end of a revision without the mark
record HasLeft (es : List (Option LeftValue)) (s : CodeState) : Type 0 where
  end : LeftValue
  there : at_number es 0 ≡ Some (Some end)
  is : is_end end s

first_end : (es : List (Option LeftValue)) (w : Entries CodeState)
    → EndsAre (hub.numbered code_hub) (hub.values code_hub is_end) es w → (r : Path) (s : CodeState)
    → at_number w 0 ≡ Some (r, Plain s) → HasLeft es s
first_end [] [] h r s at = none_some at
first_end [] (x ∷ w) h r s at = absurd h
first_end (None ∷ es) [] h r s at = none_some at
first_end (Some e ∷ es) [] h r s at = none_some at
first_end (None ∷ es) ((q, x) ∷ w) h r s at =
    let marked : ◌≡◌ {A = Entry CodeState} (Joined h.0.0) (Plain s) = sym h.0.1 ∙ plain_same q r x s at in absurd cc
first_end (Some e ∷ es) ((q, x) ∷ w) h r s at =
    let plain : ◌≡◌ {A = Entry CodeState} (Plain h.0.0) (Plain s) = sym h.0.1 ∙ plain_same q r x s at in
    let same : h.0.0 ≡ s = cc in
    record { end = e; there = refl; is = subst (is_end e) same h.0.2.1 }

-- ---- the ends of all, as values that own what they tell

end_in : (g : CodeRun) (l : Local ℕ) (s : CodeState) (e : LeftValue) (v : Box EndValue)
    → ◌≡◌ {A = Entry CodeState} (Plain (state_of g l)) (Plain s) → is_end e s → IsEnd e.run e.left v.value
    → IsEnd g (end_of l) v.value
end_in g l s e v same is end =
    let here : is_end e (state_of g l) = subst (is_end e) (let x : s ≡ state_of g l = cc in x) is in
    subst (λ (z : CodeRun × End ℕ). IsEnd z.0 z.1 v.value) (λ i. (sym here.0 i, sym here.1 i)) end

pub owned_here : (g : CodeRun) (w : Entries (Local ℕ)) (es : List (Option LeftValue))
    (vs : List (Option (Box EndValue)))
    → EndsAre (hub.numbered code_hub) (hub.values code_hub is_end) es (shown_all g w) → AreOwned es vs
    → AreEndsOf g w vs
owned_here g [] [] [] h own = tt
owned_here g [] [] (v ∷ vs) h own = absurd own
owned_here g [] (None ∷ es) vs h own = absurd h
owned_here g [] (Some e ∷ es) vs h own = absurd h
owned_here g ((r, x) ∷ w) [] vs h own = absurd h
owned_here g ((r, x) ∷ w) (e ∷ es) [] h own = absurd own
owned_here g ((r, Plain l) ∷ w) (None ∷ es) (v ∷ vs) h own =
    let z : ◌≡◌ {A = Entry CodeState} (Plain (state_of g l)) (Joined h.0.0) = h.0.1 in absurd cc
owned_here g ((r, Joined l) ∷ w) (None ∷ es) (None ∷ vs) h own = (tt, owned_here g w es vs h.1 own.1)
owned_here g ((r, Joined l) ∷ w) (None ∷ es) (Some v ∷ vs) h own = absurd own.0
owned_here g ((r, Plain l) ∷ w) (Some e ∷ es) (None ∷ vs) h own = absurd own.0
owned_here g ((r, Plain l) ∷ w) (Some e ∷ es) (Some v ∷ vs) h own =
    (end_in g l h.0.0 e v h.0.1 h.0.2.1 own.0, owned_here g w es vs h.1 own.1)
owned_here g ((r, Joined l) ∷ w) (Some e ∷ es) (v ∷ vs) h own =
    let z : ◌≡◌ {A = Entry CodeState} (Joined (state_of g l)) (Plain h.0.0) = h.0.1 in absurd cc

-- what is known of a run that no halt ended
pub record Left (g : CodeRun) (fuel : ℕ) (schedule forkers : List ℕ) (ended : List (Option LeftValue)) : Type 0 where
  pub world : Entries (Local ℕ)
  pub complete : IsCompleteRun g fuel schedule (Listing world)
  pub local : Local ℕ
  pub there : at_number world 0 ≡ Some ([], Plain local)
  pub starts : StartsAsDeclared g local
  pub end : LeftValue
  pub ends : at_number ended 0 ≡ Some (Some end)
  pub run : end.run ≡ g
  pub left : end.left ≡ end_of local
  pub each : EndsAre (hub.numbered code_hub) (hub.values code_hub is_end) ended (shown_all g world)
  pub forked : ForkersAre (paths_of world) forkers
  pub few : length forkers ≤ 1 + most_fuel
  pub earlier : AreEarlier forkers
  pub names : (births : List Birth) → AreBirths forkers births → Names births (paths_of world)

module _ (g : CodeRun) (fuel : ℕ) (small_fuel : fuel ≤ most_fuel) (start : CodeState)
    (begun : IsStart g fuel start) where
  abbrev main : Local ℕ
  main = start_in g begun.block begun.main.body fuel

  module _ (schedule forkers : List ℕ) (ended : List (Option LeftValue)) (world : Entries CodeState)
      (legal : Legal code_hub is_end start All schedule world) (over : IsOver states start (Listing world))
      (ends : EndsAre (hub.numbered code_hub) (hub.values code_hub is_end) ended world)
      (forked : ForkersAre (paths_of world) forkers) where
    led : Leads g (start_in g begun.block begun.main.body fuel) schedule world
    led = leads g (start_in g begun.block begun.main.body fuel) schedule world
        (subst (λ s. Legal code_hub is_end s All schedule world) begun.is legal)

    reached : IsReached g (Listing led.world)
    reached = record {
      number = begun.block;
      main = begun.main;
      fuel = fuel;
      few = small_fuel;
      schedule = schedule;
      replays = led.replays;
    }

    of_world : ForkersAre (paths_of led.world) forkers
    of_world = subst (λ ps. ForkersAre ps forkers) (ap paths_of led.same ∙ paths_shown g led.world) forked

    leaves_all : Left g fuel schedule forkers ended
    leaves_all =
        let stands = main_stands g begun.verified led.world reached in
        let shown : at_number world 0 ≡ Some ([], Plain (state_of g stands.0)) =
        ap (λ w. at_number w 0) led.same ∙ (at_shown g led.world 0 ∙ ap (shown_at g) stands.1) in
        let last = first_end ended world ends [] (state_of g stands.0) shown in
        let named =
        names_theirs g begun.verified begun.block begun.main fuel schedule led.world led.replays forkers of_world in
        let many = small g begun.verified led.world reached in
        let long = of_world.long in
        let paths = length-paths led.world in
        record {
          world = led.world;
          complete = record {
            block = begun.block;
            main = begun.main;
            legal = led.replays;
            over = over_there g (start_in g begun.block begun.main.body fuel) schedule world led
                (subst (λ s. IsOver states s (Listing world)) begun.is over);
          };
          local = stands.0;
          there = stands.1;
          starts = stands.2;
          end = last.end;
          ends = last.there;
          run = sym last.is.0;
          left = sym last.is.1;
          each = subst (λ w. EndsAre (hub.numbered code_hub) (hub.values code_hub is_end) ended w) led.same ends;
          forked = of_world;
          few = omega (arith, many, long, paths);
          earlier = named.0;
          names = named.1;
        }

  -- what a hub leaves of a run that no halt ended
  pub leaves : (group : List ℕ) (state : HubState) (schedule forkers : List ℕ) (ended : List (Option LeftValue))
      (kept : _) (taken : ℕ → ℕ)
      → ClosedHub code_hub is_end start group state schedule forkers ended kept taken → state ≡ All
      → Left g fuel schedule forkers ended
  leaves group state schedule forkers ended kept taken closed all =
      leaves_all schedule forkers ended closed.world
      (subst (λ h. Legal code_hub is_end start h schedule closed.world) all closed.legal)
      (closed.complete all).0 (closed.complete all).1 closed.forked

  -- and of one that was halted by a second join
  pub joined_twice : (group : List ℕ) (state : HubState) (schedule forkers : List ℕ) (ended : List (Option LeftValue))
      (kept : _) (taken : ℕ → ℕ)
      → ClosedHub code_hub is_end start group state schedule forkers ended kept taken → state ≡ Twice
      → HasOutcome g fuel o.Twice
  joined_twice group state schedule forkers ended kept taken closed twice =
      let legal = subst (λ h. Legal code_hub is_end start h schedule closed.world) twice closed.legal in
      let both = subst (λ s. replay states s schedule ≡ Some Both) begun.is legal.4 in
      shown_by g begun.verified fuel schedule Both (record {
        block = begun.block;
        main = begun.main;
        legal = leads_both g (start_in g begun.block begun.main.body fuel) schedule both;
        over = λ n. refl;
      })
      o.Twice refl

module _ {M S R A C P : Type 0} {k : Ghosts M S R A LeftValue C P} (g : CodeRun) (fuel : ℕ)
    (run : HubRun M S R A LeftValue C P k) (is : IsRunOf g fuel run) where
  pub left_of : run_state run ≡ All → Left g fuel (run_schedule run) (run_forkers run) (run_ends run)
  left_of all =
      leaves g fuel is.few is.start is.begins is.group (run_state run) (run_schedule run) (run_forkers run)
      (run_ends run) is.kept is.taken is.closed all

  pub twice_of : run_state run ≡ Twice → HasOutcome g fuel o.Twice
  twice_of twice =
      joined_twice g fuel is.few is.start is.begins is.group (run_state run) (run_schedule run) (run_forkers run)
      (run_ends run) is.kept is.taken is.closed twice

module _ (g : CodeRun) (fuel : ℕ) (schedule forkers : List ℕ) (ended : List (Option LeftValue))
    (l : Left g fuel schedule forkers ended) where
  -- the value that is found is that of `main`
  pub end_of_main : (e : LeftValue) (v : EndValue) → at_number ended 0 ≡ Some (Some e) → IsEnd e.run e.left v
      → IsEndOfMain g l.local v
  end_of_main e v there is =
      let one : ◌≡◌ {A = Option LeftValue} (Some l.end) (Some e) = some_inj (sym l.ends ∙ there) in
      let same : l.end ≡ e = some_inj one in
      let run : e.run ≡ g = subst (λ (x : LeftValue). x.run ≡ g) same l.run in
      let left : e.left ≡ end_of l.local = subst (λ (x : LeftValue). x.left ≡ end_of l.local) same l.left in
      record {
        end = subst (λ (r : CodeRun). IsEnd r (end_of l.local) v) run (subst (λ (j : End ℕ). IsEnd e.run j v) left is);
        starts = l.starts;
      }

  pub shown : IsVerified g → (x : Outcome) → outcome g (Listing l.world) ≡ Some x → HasOutcome g fuel x
  shown ok x is = shown_by g ok fuel schedule (Listing l.world) l.complete x is

-- a run by threads, of revisions of code
pub run_of : {M C P : Type 0} {k : Ghosts M CodeState RunnerValue JoinerValue LeftValue C P} (g : CodeRun) (fuel : ℕ)
    → fuel ≤ most_fuel → (start : CodeState) → IsStart g fuel start
    → (group : List ℕ) (run : HubRun M CodeState RunnerValue JoinerValue LeftValue C P k)
    → IsRunFrom code_hub is_end start group run → run_state run ≢ NoMemory → IsRunOf g fuel run
run_of g fuel few start begins group run left known =
    record {
      few = few;
      start = start;
      begins = begins;
      group = group;
      kept = left.kept;
      taken = left.taken;
      closed = left.closed;
      known = known;
    }
