-- What a table has of a revision says what the world has of it.
use Rattle.std.proofs.Common.{◌≡◌, ◌≢◌, ◌⊎◌, inl, inr, ◌∙◌, ℕ, ◌≤◌, Bool, List, Option, Some, None, refl, sym, ap, arith}
use Rattle.rev_num.specs.Path.{Path}
use Rattle.rev_code.specs.State.{State}
use Rattle.rev_code.specs.Step.{joins}
use Rattle.version_map.specs.declared.end.EndValue.{EndValue}
use Rattle.version_map.specs.declared.end.Finish.{Finish}
use Rattle.revision_machine.specs.Machine.{Entry, Plain, Joined}
use Rattle.revision_machine.specs.Numbered.{Wants, Stops, Entries, Listing, at_number}
use Rattle.code_machine.specs.Local.{CodeRun, IsVerified, Phase, running, done, trapped, Local, at_work, end_of}
use Rattle.code_machine.specs.Leg.{leg}
use Rattle.code_machine.specs.Machines.{act_of, act_in, wish_of, numbered}
use Rattle.code_machine.specs.Proper.{IsOver}
use Rattle.code_machine.proofs.Typing.{worlds_proper, stops_over}
use Rattle.rev_vm.specs.Meaning.{IsEnd, IsPhase}
use Rattle.code_machine_laws.specs.Reached.{IsReached, most_fuel}
use Rattle.code_machine_laws.specs.Laws.{HasNumber}
use Rattle.code_machine_laws.proofs.Reaching.{joinees, small}
use Rattle.code_world.specs.declared.slot.WorldSlot.{WorldSlot}
use Rattle.code_world.specs.declared.slot.WorldSlot.TheVariants as slot
use Rattle.code_world.specs.declared.table.Stage.TheVariants as stage
use Rattle.code_world.specs.Slots.{WholeRunner, WholeJoin, Runs, StandsAtJoin, IsEntry}
use Rattle.code_world.specs.Tables.{AreSlots}
use Rattle.code_world.specs.Turns.{IsStage}
use Rattle.code_world.proofs.Rows.{slot_at}
use Rattle.revision_machine.proofs.Lists.{at_below}

-- ---- stages

pub stage_none : (o : Option WorldSlot) → IsStage o stage.NoSuch → (o ≡ None) ⊎ (o ≡ Some slot.Taken)
stage_none None e = inl refl
stage_none (Some slot.Taken) e = inr refl
stage_none (Some (slot.Running r)) e = absurd (let z : stage.NoSuch ≡ stage.Running = e in cc)
stage_none (Some (slot.Standing a)) e = absurd (let z : stage.NoSuch ≡ stage.Standing a.on = e in cc)
stage_none (Some (slot.Ended v)) e = absurd (let z : stage.NoSuch ≡ stage.Ended = e in cc)
stage_none (Some (slot.Joined v)) e = absurd (let z : stage.NoSuch ≡ stage.Joined = e in cc)

pub stage_running : (o : Option WorldSlot) → IsStage o stage.Running → (r : WholeRunner) × (o ≡ Some (slot.Running r))
stage_running None e = absurd (let z : stage.Running ≡ stage.NoSuch = e in cc)
stage_running (Some (slot.Running r)) e = (r, refl)
stage_running (Some (slot.Standing a)) e = absurd (let z : stage.Running ≡ stage.Standing a.on = e in cc)
stage_running (Some (slot.Ended v)) e = absurd (let z : stage.Running ≡ stage.Ended = e in cc)
stage_running (Some (slot.Joined v)) e = absurd (let z : stage.Running ≡ stage.Joined = e in cc)
stage_running (Some slot.Taken) e = absurd (let z : stage.Running ≡ stage.NoSuch = e in cc)

pub stage_standing : (o : Option WorldSlot) (on : ℕ) → IsStage o (stage.Standing on)
    → (a : WholeJoin) × (o ≡ Some (slot.Standing a)) × (a.on ≡ on)
stage_standing None on e = absurd (let z : stage.Standing on ≡ stage.NoSuch = e in cc)
stage_standing (Some (slot.Running r)) on e = absurd (let z : stage.Standing on ≡ stage.Running = e in cc)
stage_standing (Some (slot.Standing a)) on e =
    (a, refl, (let z : stage.Standing on ≡ stage.Standing a.on = e in let y : on ≡ a.on = cc in sym y))
stage_standing (Some (slot.Ended v)) on e = absurd (let z : stage.Standing on ≡ stage.Ended = e in cc)
stage_standing (Some (slot.Joined v)) on e = absurd (let z : stage.Standing on ≡ stage.Joined = e in cc)
stage_standing (Some slot.Taken) on e = absurd (let z : stage.Standing on ≡ stage.NoSuch = e in cc)

pub stage_ended : (o : Option WorldSlot) → IsStage o stage.Ended → (v : EndValue) × (o ≡ Some (slot.Ended v))
stage_ended None e = absurd (let z : stage.Ended ≡ stage.NoSuch = e in cc)
stage_ended (Some (slot.Running r)) e = absurd (let z : stage.Ended ≡ stage.Running = e in cc)
stage_ended (Some (slot.Standing a)) e = absurd (let z : stage.Ended ≡ stage.Standing a.on = e in cc)
stage_ended (Some (slot.Ended v)) e = (v, refl)
stage_ended (Some (slot.Joined v)) e = absurd (let z : stage.Ended ≡ stage.Joined = e in cc)
stage_ended (Some slot.Taken) e = absurd (let z : stage.Ended ≡ stage.NoSuch = e in cc)

pub stage_joined : (o : Option WorldSlot) → IsStage o stage.Joined → (v : EndValue) × (o ≡ Some (slot.Joined v))
stage_joined None e = absurd (let z : stage.Joined ≡ stage.NoSuch = e in cc)
stage_joined (Some (slot.Running r)) e = absurd (let z : stage.Joined ≡ stage.Running = e in cc)
stage_joined (Some (slot.Standing a)) e = absurd (let z : stage.Joined ≡ stage.Standing a.on = e in cc)
stage_joined (Some (slot.Ended v)) e = absurd (let z : stage.Joined ≡ stage.Ended = e in cc)
stage_joined (Some (slot.Joined v)) e = (v, refl)
stage_joined (Some slot.Taken) e = absurd (let z : stage.Joined ≡ stage.NoSuch = e in cc)

-- ---- entries

module _ (g : CodeRun) (ss : List WorldSlot) (w : Entries (Local ℕ)) (h : AreSlots g ss w) (n : ℕ) where
  pub record RunsAt (r : WholeRunner) : Type 0 where
    pub path : Path
    pub state : State ℕ
    pub there : at_number w n ≡ Some (path, Plain (at_work state))
    pub runs : Runs g r state

  pub running_at : (r : WholeRunner) → at_number ss n ≡ Some (slot.Running r) → RunsAt r
  running_at r e = let x = slot_at g ss w h n (slot.Running r) e in by x.0 x.1 x.2 x.3
    where
      by : (p : Path) (f : Entry (Local ℕ)) → at_number w n ≡ Some (p, f) → IsEntry g (slot.Running r) f → RunsAt r
      by p (Plain l) there (c, is, runs) =
          record { path = p; state = c; there = there ∙ ap (λ k. Some (p, Plain k)) is; runs = runs }
      by p (Joined l) there i = absurd i

  pub record StandsThere (a : WholeJoin) : Type 0 where
    pub path : Path
    pub state : State ℕ
    pub there : at_number w n ≡ Some (path, Plain (at_work state))
    pub at : State ℕ
    pub comes : leg g state ≡ joins at a.is_try a.on
    pub stands : StandsAtJoin g a at

  pub standing_at : (a : WholeJoin) → at_number ss n ≡ Some (slot.Standing a) → StandsThere a
  standing_at a e = let x = slot_at g ss w h n (slot.Standing a) e in by x.0 x.1 x.2 x.3
    where
      by : (p : Path) (f : Entry (Local ℕ)) → at_number w n ≡ Some (p, f) → IsEntry g (slot.Standing a) f
          → StandsThere a
      by p (Plain l) there (c, is, c', comes, stands) = record {
        path = p;
        state = c;
        there = there ∙ ap (λ k. Some (p, Plain k)) is;
        at = c';
        comes = comes;
        stands = stands;
      }
      by p (Joined l) there i = absurd i

  pub record EndedThere (v : EndValue) : Type 0 where
    pub path : Path
    pub local : Local ℕ
    pub there : at_number w n ≡ Some (path, Plain local)
    pub end : IsEnd g (end_of local) v

  pub ended_at : (v : EndValue) → at_number ss n ≡ Some (slot.Ended v) → EndedThere v
  ended_at v e = let x = slot_at g ss w h n (slot.Ended v) e in by x.0 x.1 x.2 x.3
    where
      by : (p : Path) (f : Entry (Local ℕ)) → at_number w n ≡ Some (p, f) → IsEntry g (slot.Ended v) f → EndedThere v
      by p (Plain l) there end = record { path = p; local = l; there = there; end = end }
      by p (Joined l) there i = absurd i

  pub record JoinedThere (v : EndValue) : Type 0 where
    pub path : Path
    pub local : Local ℕ
    pub there : at_number w n ≡ Some (path, Joined local)
    pub end : IsEnd g (end_of local) v

  pub joined_at : (v : EndValue) → at_number ss n ≡ Some (slot.Joined v) → JoinedThere v
  joined_at v e = let x = slot_at g ss w h n (slot.Joined v) e in by x.0 x.1 x.2 x.3
    where
      by : (p : Path) (f : Entry (Local ℕ)) → at_number w n ≡ Some (p, f) → IsEntry g (slot.Joined v) f → JoinedThere v
      by p (Plain l) there i = absurd i
      by p (Joined l) there end = record { path = p; local = l; there = there; end = end }

  -- a table of a world has each of its revisions
  pub never_taken : at_number ss n ≡ Some slot.Taken → ⊥
  never_taken e = let x = slot_at g ss w h n slot.Taken e in by x.1 x.3
    where
      by : (f : Entry (Local ℕ)) → IsEntry g slot.Taken f → ⊥
      by (Plain l) i = i
      by (Joined l) i = i

  pub vacant : IsStage (at_number ss n) stage.NoSuch → at_number ss n ≡ None
  vacant e = by (stage_none (at_number ss n) e)
    where
      by : (at_number ss n ≡ None) ⊎ (at_number ss n ≡ Some slot.Taken) → at_number ss n ≡ None
      by (inl z) = z
      by (inr z) = absurd (never_taken z)

-- ---- next events

pub end_stops : (g : CodeRun) (l : Local ℕ) (v : EndValue) → IsEnd g (end_of l) v → (numbered g).next l ≡ Stops
end_stops g l v e = by l.phase v.finish e.phase
  where
    by : (p : Phase ℕ) (f : Finish) → IsPhase p f → wish_of (act_in g l.state p) ≡ Stops
    by running f i = absurd i
    by done f i = refl
    by (trapped t) f i = refl

pub stands_wants : (g : CodeRun) (c c' : State ℕ) (try : Bool) (m : ℕ) → leg g c ≡ joins c' try m
    → (numbered g).next (at_work c) ≡ Wants m
stands_wants g c c' try m e = ap (λ o. wish_of (act_of g o)) e

module _ (g : CodeRun) (ok : IsVerified g) (w : Entries (Local ℕ)) (h : IsReached g (Listing w)) where
  -- a revision at work has a next event
  pub works_on : (n : ℕ) (p : Path) (c : State ℕ) → at_number w n ≡ Some (p, Plain (at_work c))
      → (numbered g).next (at_work c) ≢ Stops
  works_on n p c there e =
      by (stops_over g ok (at_work c)
      (worlds_proper g ok h.number h.main h.fuel h.schedule (Listing w) h.replays n p (Plain (at_work c)) there) e)
    where
      by : IsOver (at_work c) → ⊥
      by (inl i) = (let z : ◌≡◌ {A = Phase ℕ} running done = i in cc)
      by (inr (t, i)) = (let z : ◌≡◌ {A = Phase ℕ} running (trapped t) = i in cc)

  -- a joiner joins one of the world, whose number is small
  pub joinee_number : (n : ℕ) (p : Path) (c c' : State ℕ) (try : Bool) (m : ℕ)
      → at_number w n ≡ Some (p, Plain (at_work c)) → leg g c ≡ joins c' try m → HasNumber w m × (m ≤ most_fuel)
  joinee_number n p c c' try m there e =
      let has = (joinees g ok w h n p (at_work c) there m (stands_wants g c c' try m e)).0 in
      let a = at_below w m (has.0, has.1) has.2 in
      let b = small g ok w h in (has, omega (arith, a, b))
