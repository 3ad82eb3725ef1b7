-- Laws of a hub of verified code.
--   ReplaysAreOfCode   the world of a schedule is that of the code, with what runs at each state
--   OverIsOfCode       where no number has a leg in the hub's world, none has in the code's
--   LegComesToJoin     a joiner behind the instructions of a leg stands at the join to which that leg comes
--   MeetingsFit        a joiner and its joinee's end are of one run, and together have at most the fuel of its start
use Rattle.std.specs.Prelude.{◌≡◌, ℕ, ◌+◌, ◌≤◌, List}
use Rattle.rev_code.specs.State.{State}
use Rattle.rev_code.specs.Step.{joins}
use Rattle.revision_machine.specs.Numbered.{Entries, Listing, IsOver}
use Rattle.hub_core.specs.Replay.{replay}
use Rattle.hub_core.specs.Hub.{Stands, Meets}
use Rattle.hub_core.specs.HubMachine as hub
use Rattle.code_machine.specs.Local.{CodeRun, IsVerified, Local, at_work}
use Rattle.code_machine.specs.Leg.{leg}
use Rattle.code_machine.specs.Machines.{numbered, IsMain, start_in}
use Rattle.run_revision.specs.CodeState.{CodeState, state_of, states, shown_all, shown_some}
use Rattle.run_revision.specs.CodeValues.{JoinerValue, LeftValue, is_end, code_hub}

abbrev pub ReplaysAreOfCode : Type 0
ReplaysAreOfCode =
    (g : CodeRun) (main : Local ℕ) (ns : List ℕ)
    → replay states (state_of g main) ns ≡ shown_some g (replay (numbered g) main ns)

abbrev pub OverIsOfCode : Type 0
OverIsOfCode =
    (g : CodeRun) (main : Local ℕ) (w : Entries (Local ℕ))
    → IsOver states (state_of g main) (Listing (shown_all g w)) → IsOver (numbered g) main (Listing w)

abbrev pub LegComesToJoin : Type 0
LegComesToJoin =
    (g : CodeRun) (c : State ℕ) (a : JoinerValue) → a.run ≡ g
    → leg g c ≡ joins a.state a.try a.on
    → Stands (hub.numbered code_hub) (hub.values code_hub is_end) a (state_of g (at_work c))

-- `main` with this fuel, of verified code
pub record IsStart (g : CodeRun) (fuel : ℕ) (s : CodeState) : Type 0 where
  pub verified : IsVerified g
  pub block : ℕ
  pub main : IsMain g block
  pub is : s ≡ state_of g (start_in g block main.body fuel)

pub record MeetingFits (g : CodeRun) (fuel : ℕ) (a : JoinerValue) (e : LeftValue) : Type 0 where
  pub joiner : a.run ≡ g
  pub joinee : e.run ≡ g
  pub fuels : a.state.fuel + e.left.fuel ≤ fuel

abbrev pub MeetingsFit : Type 0
MeetingsFit =
    (g : CodeRun) (fuel : ℕ) (start : CodeState) → IsStart g fuel start
    → (ns : List ℕ) (k : ℕ) (a : JoinerValue) (e : LeftValue)
    → Meets (hub.numbered code_hub) (hub.values code_hub is_end) start ns k a e
    → MeetingFits g fuel a e
