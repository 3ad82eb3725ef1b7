-- What the answers of a hub tell, of the seat's view before a call and after it.
--   TakenSays    of `take`: what is handed out, and where each answer comes
--   OnwardSays   of what a call that hands something in hands out in the same turn
--   Forked       of `fork`: the forker's and the child's state, and the entry
--   HasMet       the joiner and the end that it takes in, in the world of the schedule so far
--   JoinSays     of `join`
--   EndedSays    of `end`
--   JoinedOn     of `join_or_take`: what `join` tells, and then what is handed out, or the joinee
--   Settled      of `settle`: what `end` tells of a joinee, and then what `join` tells of its joiner
--   ForkedBehind, HaltedBehind  of `fork_behind`: the same, and then what `fork` tells
--   EndedOn      of `end_and_take`: what `end` tells, and then what is handed out,
--                or how the join of what waited came out
--   IsHalted     a halt was entered, before the call or by it
use Rattle.std.specs.Prelude.{◌≡◌, ◌⊎◌, ℕ, Bool, true, false, Some, List, length, cond, MatchBool}
use Rattle.revision_machine.specs.Numbered.{at_number, put_number}
use Rattle.hub_core.specs.Hub.{Meets}
use Rattle.hub_core.specs.HubMachine.{HubMachine, numbered, values}
use Rattle.hub_core.specs.declared.state.HubState.TheVariants.{All, Twice}
use Rattle.hub_core.specs.Halts.{halt_by}
use Rattle.hub_core.specs.declared.view.View.{View}
use Rattle.hub_core.specs.declared.view.Said.{Said}
use Rattle.hub_core.specs.declared.view.Said.TheVariants as mark
use Rattle.turn_hub.specs.declared.answers.Taken.{Taken}
use Rattle.turn_hub.specs.declared.answers.Taken.TheVariants as taken
use Rattle.turn_hub.specs.declared.answers.Onward.{Onward}
use Rattle.turn_hub.specs.declared.answers.Onward.TheVariants as onward
use Rattle.turn_hub.specs.declared.answers.JoinAnswer.{JoinAnswer}
use Rattle.turn_hub.specs.declared.answers.JoinAnswer.TheVariants as join
use Rattle.turn_hub.specs.declared.answers.JoinStep.{JoinStep}
use Rattle.turn_hub.specs.declared.answers.JoinStep.TheVariants as step
use Rattle.turn_hub.specs.declared.answers.EndStep.{EndStep}
use Rattle.turn_hub.specs.declared.answers.EndStep.TheVariants as ending
use Rattle.hub_core.specs.Views.{ended_said, ready_said, all_said, or_no_memory, sees}
use Rattle.hub_core.specs.Seats.{HasState, HasFork, HasJoin, ForkedAs, HasWorld, KeepsAll, KeepsOthers, LacksPass, AddsEntry, AddsNone}

module _ {L : Type 0} where
  -- nothing was entered before this turn
  abbrev pub IsFree : View L → Type 0
  IsFree w = w.entered ≡ All

  -- the seat knows of a halt, which is want of memory where none was entered before, and nothing else has changed
  pub record IsHalted (v w : View L) : Type 0 where
    pub keeps : KeepsAll v w
    pub saw : w.saw ≡ 1
    pub halt : w.halt ≡ or_no_memory w.entered
    pub entry : AddsNone w

  -- in one turn, two views of the seat that has it: what it found
  pub record IsOneTurn (v w : View L) : Type 0 where
    pub said : w.said ≡ v.said
    pub entered : w.entered ≡ v.entered
    pub found : w.found ≡ v.found

  -- the same, and what it knows of halts, and the schedule
  pub record IsSameTurn (v w : View L) : Type 0 where
    pub said : w.said ≡ v.said
    pub entered : w.entered ≡ v.entered
    pub found : w.found ≡ v.found
    pub log : w.log ≡ v.log
    pub saw : w.saw ≡ v.saw
    pub halt : w.halt ≡ v.halt

module _ {L R A E : Type 0} (d : HubMachine L R A E) (ends : E → L → Type 0) where
  -- what is handed out of revisions of which this is said
  module _ (said : List Said) where
    -- no seat had the revision n; this one has its pass, with the state of the runner
    pub record Ran (v w : View L) (n : ℕ) (r : R) : Type 0 where
      pub free : IsFree w
      pub keeps : KeepsOthers v w n
      pub was : at_number said n ≡ Some mark.Ready
      pub state : HasState d ends w n (d.runs r)
      pub group : d.runner_group r ≡ w.group

    -- the revision n waited for a joinee, which has ended
    pub record Retried (v w : View L) (n : ℕ) (a : A) : Type 0 where
      pub free : IsFree w
      pub keeps : KeepsOthers v w n
      pub was : at_number said n ≡ Some (mark.Waits (d.on a))
      pub ended : ended_said (at_number said (d.on a)) ≡ true
      pub event : HasJoin d ends w n a
      pub group : d.joiner_group a ≡ w.group

    pub record IsNoneReady (v w : View L) : Type 0 where
      pub free : IsFree w
      pub keeps : KeepsAll v w
      pub none_ready : (k : ℕ) → ready_said said (at_number said k) ≡ false

    abbrev pub OnwardSays : View L → View L → Onward R A → Type 0
    OnwardSays v w (onward.Run n r) = Ran v w n r
    OnwardSays v w (onward.Retry n a) = Retried v w n a
    OnwardSays v w onward.Nothing = IsNoneReady v w

  pub record IsIdleNow (v w : View L) : Type 0 where
    pub free : IsFree w
    pub keeps : KeepsAll v w
    pub unfinished : all_said w.said ≡ false
    pub none_ready : (k : ℕ) → ready_said w.said (at_number w.said k) ≡ false

  pub record IsFinished (v w : View L) : Type 0 where
    pub free : IsFree w
    pub keeps : KeepsAll v w
    pub finished : all_said w.said ≡ true
    pub saw : w.saw ≡ 1

  pub record WasHalted (v w : View L) (twice : Bool) : Type 0 where
    pub entered : w.entered ≡ halt_by twice
    pub keeps : KeepsAll v w
    pub saw : w.saw ≡ 1
    pub halt : w.halt ≡ halt_by twice

  abbrev pub TakenSays : View L → View L → Taken R A → Type 0
  TakenSays v w (taken.Run n r) = Ran w.said v w n r
  TakenSays v w (taken.Retry n a) = Retried w.said v w n a
  TakenSays v w taken.Idle = IsIdleNow v w
  TakenSays v w taken.Finished = IsFinished v w
  TakenSays v w (taken.Halted twice) = WasHalted v w twice

  -- one entry of the forker; the child's number is the next
  pub record Forked (v w : View L) (k : ℕ) (c : R) (n : ℕ) : Type 0 where
    pub free : IsFree w
    pub keeps : KeepsOthers v w k
    pub entry : AddsEntry w k
    pub next : n ≡ length w.said
    pub forker : (p : HasFork d ends v k c) → HasState d ends w k (p.4.forker n)
    pub child : ForkedAs d ends w k n c
    pub world : HasWorld d ends w

  -- a joiner that has taken an end in, by one entry, is in this state
  pub record TookIn (v w : View L) (k : ℕ) (l : L) : Type 0 where
    pub free : IsFree w
    pub keeps : KeepsOthers v w k
    pub entry : AddsEntry w k
    pub state : HasState d ends w k l

  pub record Waited (v w : View L) (k : ℕ) (a : A) : Type 0 where
    pub free : IsFree w
    pub keeps : KeepsOthers v w k
    pub gone : LacksPass w k
    pub entry : AddsNone w
    pub unfinished : ended_said (at_number w.said (d.on a)) ≡ false

  -- it waits, and in the same turn the seat takes what is ready
  pub record WaitedOn (v w : View L) (k : ℕ) (a : A) (next : Onward R A) : Type 0 where
    pub between : View L
    pub waited : Waited v between k a
    pub same : IsSameTurn between w
    pub onward : OnwardSays (put_number w.said k (mark.Waits (d.on a))) between w next

  -- the joinee n was ready, and this seat has its pass. No entry is made, and the joiner's pass is kept
  pub record TookJoinee (v w : View L) (a : A) (n : ℕ) (r : R) : Type 0 where
    pub joinee : n ≡ d.on a
    pub lacked : LacksPass v n
    pub ran : Ran w.said v w n r
    pub entry : AddsNone w
    pub world : HasWorld d ends w

  -- the last entry
  pub record MetTwice (v w : View L) (k : ℕ) (a : A) : Type 0 where
    pub free : IsFree w
    pub keeps : KeepsOthers v w k
    pub entry : AddsEntry w k
    pub joined : at_number w.said (d.on a) ≡ Some mark.Joined
    pub halt : w.halt ≡ Twice
    pub saw : w.saw ≡ 1

  -- before the entry the joiner and the end of its joinee met in the world of the schedule
  abbrev pub HasMet : View L → ℕ → A → E → Type 0
  HasMet w k a e =
      (start : L) × (w.start ≡ Some start)
      × Meets (numbered d) (values d ends) start w.found k a e

  module _ {C S : Type 0} (claimed : C → A → E → Type 0) (stopped : S → A → E → Type 0) (group : C → List ℕ)
      (halted : S → List ℕ) where
    abbrev pub JoinSays : View L → View L → ℕ → A → JoinAnswer A C S → Type 0
    JoinSays v w k a (join.Claimed c) =
        (at_number w.said (d.on a) ≡ Some mark.Done) × (group c ≡ w.group)
        × ((e : E) × claimed c a e × (d.trapped e ≡ false) × HasMet w k a e × TookIn v w k (d.joined a e))
    JoinSays v w k a join.Waits = Waited v w k a
    JoinSays v w k a (join.Twice b) = (b ≡ a) × MetTwice v w k a
    JoinSays v w k a (join.Trapped s) =
        (at_number w.said (d.on a) ≡ Some mark.Trapped) × (d.is_try a ≡ false)
        × (halted s ≡ w.group)
        × ((e : E) × stopped s a e × (d.trapped e ≡ true) × HasMet w k a e × TookIn v w k (d.joined a e))
    JoinSays v w k a (join.Dropped b) =
        (b ≡ a) × (at_number w.said (d.on a) ≡ Some mark.Trapped) × (d.is_try a ≡ true)
        × ((e : E) × (d.trapped e ≡ true) × HasMet w k a e × TookIn v w k (d.joined a e))
    JoinSays v w k a (join.OutOfMemory b) = (b ≡ a) × IsHalted v w

    -- the joiner does not wait
    abbrev pub HasCome : JoinAnswer A C S → Type 0
    HasCome (join.Claimed c) = Unit {0}
    HasCome join.Waits = ⊥
    HasCome (join.Twice b) = Unit {0}
    HasCome (join.Trapped s) = Unit {0}
    HasCome (join.Dropped b) = Unit {0}
    HasCome (join.OutOfMemory b) = Unit {0}

    abbrev pub JoinedOn : View L → View L → ℕ → A → JoinStep R A C S → Type 0
    JoinedOn v w k a (step.Came r) = HasCome r × JoinSays v w k a r
    JoinedOn v w k a (step.Waits next) = WaitedOn v w k a next
    JoinedOn v w k a (step.Joinee n r b) = (b ≡ a) × TookJoinee v w a n r

    -- how an end is taken in
    abbrev pub TakesIn : A → E → JoinAnswer A C S → Type 0
    TakesIn a e (join.Claimed c) =
        claimed c a e × (d.trapped e ≡ false) × (group c ≡ d.joiner_group a)
    TakesIn a e join.Waits = ⊥
    TakesIn a e (join.Twice b) = ⊥
    TakesIn a e (join.Trapped s) =
        stopped s a e × (d.trapped e ≡ true) × (d.is_try a ≡ false) × (halted s ≡ d.joiner_group a)
    TakesIn a e (join.Dropped b) = (b ≡ a) × (d.trapped e ≡ true) × (d.is_try a ≡ true)
    TakesIn a e (join.OutOfMemory b) = ⊥

  -- an entry, unless a join had ended the revision
  pub record EndedSays (v w : View L) (k : ℕ) (by_join : Bool) : Type 0 where
    pub free : IsFree w
    pub keeps : KeepsOthers v w k
    pub gone : LacksPass w k
    pub entry : MatchBool by_join (AddsNone w) (AddsEntry w k)

  -- the end of the joinee m, and then the join of it by k, which is in this state then: two entries,
  -- told as if the seat had taken the turn between the two
  pub record Settled (v w : View L) (m k : ℕ) (l : L) : Type 0 where
    pub between : View L
    pub ended : EndedSays v between m false
    pub turn : IsOneTurn between w
    pub took : TookIn between (sees w.said between.log w) k l

  -- the same, and then the fork of k: three entries
  pub record ForkedBehind (v w : View L) (m k : ℕ) (l : L) (c : R) (n : ℕ) : Type 0 where
    pub between : View L
    pub settled : Settled v between m k l
    pub turn : IsOneTurn between w
    pub forked : Forked between (sees (put_number w.said m mark.Joined) between.log w) k c n

  -- a halt was entered, before the two entries or behind them
  abbrev pub HaltedBehind : View L → View L → ℕ → ℕ → L → Type 0
  HaltedBehind v w m k l =
      IsHalted v w
      ⊎ ((between : View L) × Settled v between m k l × IsOneTurn between w
      × IsHalted between (sees w.said between.log w))

  module _ {C S : Type 0} (claimed : C → A → E → Type 0) (stopped : S → A → E → Type 0) (group : C → List ℕ)
      (halted : S → List ℕ) where
    -- the joiner n is handed out, and joins in the same turn:
    -- this is what `join` tells of it had the seat taken the turn between the two
    pub record CameOn (said : List Said) (v w : View L) (n : ℕ) (r : JoinAnswer A C S) : Type 0 where
      pub at : A
      pub drawn : View L
      pub same : IsSameTurn v drawn
      pub retried : Retried said v drawn n at
      pub come : HasCome claimed stopped group halted r
      pub says :
          JoinSays claimed stopped group halted drawn (sees (put_number said n mark.Out) v.log w) n at r

    abbrev pub EndStepSays : List Said → View L → View L → EndStep R A C S → Type 0
    EndStepSays said v w (ending.Run n r) = IsSameTurn v w × Ran said v w n r
    EndStepSays said v w (ending.Came n r) = CameOn said v w n r
    EndStepSays said v w ending.Nothing = IsSameTurn v w × IsNoneReady said v w

    -- and in the same turn the seat takes what is ready, or a joiner that was ready goes on
    pub record EndedOn (v w : View L) (k : ℕ) (e : E) (by_join : Bool) (next : EndStep R A C S) : Type 0 where
      pub between : View L
      pub ended : EndedSays v between k by_join
      pub turn : IsOneTurn between w
      pub onward : EndStepSays (put_number w.said k (cond (d.trapped e) mark.Trapped mark.Done)) between w next
