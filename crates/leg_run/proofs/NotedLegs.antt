-- Rounds and legs, with notes of what they read where notes are on.
use Rattle.std.proofs.Common.{◌≡◌, ◌≢◌, ◌∙◌, ℕ, ℤ, Bool, List, ◌++◌, Option, Some, None, refl, sym, ap, subst}
use Rattle.std.proofs.lemmas.List.{append-nil, append_assoc}
use Rattle.std.specs.Prelude.{slice_get}
use Rattle.rev_num.specs.declared.outcome.Cause.{Cause}
use Rattle.rev_code.specs.declared.code.Code.{Code}
use Rattle.rev_code.specs.declared.code.CodeBlock.{CodeBlock}
use Rattle.rev_code.specs.State.{Setting, State}
use Rattle.rev_code.specs.Step as s
use Rattle.rev_code.specs.Step.{Comes, goes, step, Steps}
use Rattle.rev_code.specs.Funs.{setting}
use Rattle.code_rules.specs.Verdict.{first_fault}
use Rattle.code_machine.specs.Leg.{IsEvent}
use Rattle.code_machine.specs.Local.{CodeRun}
use Rattle.code_soundness.proofs.Accepting.{no_fault_accepted}
use Rattle.block_run.specs.Agreement.{AreInputs}
use Rattle.leg_run.specs.Runs.{step_reads, reads_of}
use Rattle.leg_run.proofs.Adding.{leg_reads_of_steps, marks_more}
use Rattle.leg_run.proofs.IfOn.{more_noted}
pub use Rattle.leg_run.proofs.IfOn.{marked_back, places_of}
use Rattle.block_run.specs.Standing.{program, IsLeaving}
use Rattle.block_run.specs.declared.registers.Registers.{Registers}
use Rattle.block_run.specs.declared.registers.Stop.{Stop}
use Rattle.block_run.specs.declared.registers.Stop.TheVariants as stop
use Rattle.leg_run.specs.Runs.{EndsNoting}
use Rattle.leg_run.proofs.Rounds.{reads_nothing}
use Rattle.leg_run.specs.declared.revision.LegEnd.{LegEnd}
use Rattle.leg_run.specs.declared.revision.LegEnd.TheVariants as end
use Rattle.leg_run.specs.declared.revision.Run.{Run}
use Rattle.leg_run.specs.declared.turn.BlockExit.{BlockExit}
use Rattle.leg_run.specs.declared.turn.BlockExit.TheVariants as turn
use Rattle.leg_run.specs.Changes.{SameRest}
use Rattle.leg_run.specs.Ends.{EventAt, TurnsTo}
use Rattle.leg_run.specs.Noting.{Notes, HasNoted, HasNotedLeg, HasNotedTo, RoundTo, marks_of}
use Rattle.leg_run.specs.Standing.{Stands}
use Rattle.leg_run.proofs.Rounding.{leaves_trap}

-- ---- one run behind another

steps_then : (t : Setting ℕ) (c c' c'' : State ℕ) → Steps t c c' → Steps t c' c'' → Steps t c c''
steps_then t c _ c'' s.none k = k
steps_then t c c' c'' (s.more {c' = d} e rest) k = s.more e (steps_then t d c' c'' rest k)

reads_then : (t : Setting ℕ) (c c' c'' : State ℕ) (steps : Steps t c c') (more : Steps t c' c'')
    → reads_of (steps_then t c c' c'' steps more) ≡ reads_of steps ++ reads_of more
unfolding steps_then
reads_then t c _ c'' s.none k = refl
reads_then t c c' c'' (s.more {c' = d} e rest) k =
    ap (λ rs. step_reads t c ++ rs) (reads_then t d c' c'' rest k)
    ∙ sym (append_assoc (step_reads t c) (reads_of rest) (reads_of k))

-- ---- a block

-- the run of a block ended at an instruction that leaves it, with these notes
pub record IsLeavingNoting (noting : Bool) (code : Code) (inputs : List ℤ) (share : ℕ) (b : CodeBlock) (c : State ℕ)
    (ws : List ℕ) (r : Registers) (seen : ℕ → ℕ) (root : ℕ → Option ℕ) (old new : Notes) : Type 0 where
  pub leaving : IsLeaving code inputs (program share) b c ws r seen root
  pub noted : HasNoted noting old new (marks_of (reads_of leaving.ahead.steps))

pub leaving_noting : (noting : Bool) (code : Code) (inputs : List ℤ) (share : ℕ) (b : CodeBlock) (c : State ℕ)
    (v : Stop) (ws : List ℕ) (r : Registers) (seen : ℕ → ℕ) (root : ℕ → Option ℕ) (old new : Notes)
    → EndsNoting noting code inputs (program share) b c v ws r seen root old new → ((e : Cause) → v ≢ stop.Traps e)
    → IsLeavingNoting noting code inputs share b c ws r seen root old new
leaving_noting noting code inputs share b c stop.Goes ws r seen root old new h k = absurd h
leaving_noting noting code inputs share b c (stop.Traps e) ws r seen root old new h k = absurd (k e refl)
leaving_noting noting code inputs share b c stop.Leaves ws r seen root old new h k = record { leaving = h.0; noted = h.1 }

pub ends_noting_for : (noting : Bool) (code : Code) (inputs inputs' : List ℤ) (share : ℕ) (b : CodeBlock) (c : State ℕ) (v : Stop)
    (ws : List ℕ) (r : Registers) (seen : ℕ → ℕ) (root : ℕ → Option ℕ) (old new : Notes)
    → inputs' ≡ inputs → EndsNoting noting code inputs' (program share) b c v ws r seen root old new
    → EndsNoting noting code inputs (program share) b c v ws r seen root old new
ends_noting_for noting code inputs inputs' share b c v ws r seen root old new e h =
    subst (λ is. EndsNoting noting code is (program share) b c v ws r seen root old new) e h

-- steps from where the leg began, and notes of what they read
abbrev pub AheadTo : (noting : Bool) → Code → List ℤ → (share : ℕ) → State ℕ → Run → (seen : ℕ → ℕ)
    → (root : ℕ → Option ℕ) → (old new : Notes) → Type 0
AheadTo noting code inputs share c0 run seen root old new =
    (c : State ℕ) × (steps : Steps (setting code inputs share) c0 c) × Stands code inputs share run seen root c
    × HasNoted noting old new (marks_of (reads_of steps))

module _ (noting : Bool) (code : Code) (ok : first_fault code ≡ None) (inputs : List ℤ) (share : ℕ) where
  abbrev t : Setting ℕ
  t = setting code inputs share

  abbrev g : CodeRun
  g = record { code = code; inputs = inputs; share = share }

  pub trapped_noting : (run : Run) (seen : ℕ → ℕ) (root : ℕ → Option ℕ) (c : State ℕ)
      → Stands code inputs share run seen root c → (b : CodeBlock) → slice_get code.blocks run.registers.block ≡ Some b
      → (e : Cause) (ws' : List ℕ) (r' : Registers) (seen' : ℕ → ℕ) (root' : ℕ → Option ℕ) (old new : Notes)
      → EndsNoting noting code inputs (program share) b c (stop.Traps e) ws' r' seen' root' old new
      → (run' : Run) → run'.registers ≡ r' → SameRest run run'
      → RoundTo noting code inputs share c (turn.Ends (end.Trap e)) run' seen' root' old new
  trapped_noting run seen root c st b is e ws' r' seen' root' old new h run' registers rest =
      let x = h.0 in (
        x.before,
        x.trapped,
        x.steps,
        x.trap,
        leaves_trap code ok inputs share run seen root c st b is e ws' r' seen' root' x run' registers rest,
        h.1,
      )

  module _ (b : CodeBlock) (c : State ℕ) (ws' : List ℕ) (r' : Registers) (seen' : ℕ → ℕ) (root' : ℕ → Option ℕ)
      (old new : Notes) (h : IsLeavingNoting noting code inputs share b c ws' r' seen' root' old new)
      (fits : AreInputs inputs) (is : slice_get code.blocks r'.block ≡ Some b) where
    -- the instruction that leaves the block reads nothing
    noted_to : HasNotedTo noting code inputs share c h.leaving.ahead.now h.leaving.ahead.steps old new
    noted_to =
        let l = h.leaving in
        let none =
        reads_nothing code (no_fault_accepted code ok) inputs fits (program share) b l.ahead.now ws' r' seen' root'
        l.ahead.here is l.instr l.at l.leaves in
        subst (λ rs. HasNoted noting old new (marks_of rs))
        (sym (ap (λ rs. reads_of l.ahead.steps ++ rs) none ∙ append-nil (reads_of l.ahead.steps))) h.noted

    pub turned_noting : (run' : Run) (seen'' : ℕ → ℕ) (root'' : ℕ → Option ℕ) (v : BlockExit)
        → TurnsTo code inputs share h.leaving.ahead.now v run' seen'' root''
        → RoundTo noting code inputs share c v run' seen'' root'' old new
    turned_noting run' seen'' root'' turn.Goes k =
        (h.leaving.ahead.now, k.next, h.leaving.ahead.steps, k.goes, k.stands, noted_to)
    turned_noting run' seen'' root'' (turn.Ends e) k =
        (h.leaving.ahead.now, h.leaving.ahead.now, h.leaving.ahead.steps, k.0, k.1, noted_to)

  -- ---- a leg

  both_noted : (c0 c d : State ℕ) (steps : Steps t c0 c) (more : Steps t c d) (old now new : Notes)
      → HasNoted noting old now (marks_of (reads_of steps)) → HasNotedTo noting code inputs share c d more now new
      → HasNoted noting old new (marks_of (reads_of (steps_then t c0 c d steps more) ++ step_reads t d))
  both_noted c0 c d steps more old now new h k =
      subst (λ rs. HasNoted noting old new (marks_of rs))
      (sym (ap (λ rs. rs ++ step_reads t d) (reads_then t c0 c d steps more)
      ∙ append_assoc (reads_of steps) (reads_of more) (step_reads t d)))
      (subst (HasNoted noting old new) (sym (marks_more (reads_of steps) (reads_of more ++ step_reads t d)))
      (more_noted noting old now new (marks_of (reads_of steps)) (marks_of (reads_of more ++ step_reads t d)) h k))

  -- the last of these steps is a step like the others
  noted_on : (c0 d next : State ℕ) (steps : Steps t c0 d) (e : step t d ≡ goes next) (old new : Notes)
      → HasNoted noting old new (marks_of (reads_of steps ++ step_reads t d))
      → HasNoted noting old new (marks_of (reads_of (steps_then t c0 d next steps (s.more e s.none))))
  noted_on c0 d next steps e old new h =
      subst (λ rs. HasNoted noting old new (marks_of rs))
      (sym (reads_then t c0 d next steps (s.more e s.none)
      ∙ ap (λ rs. reads_of steps ++ rs) (append-nil (step_reads t d))))
      h

  pub round_on_noting : (c0 : State ℕ) (run run' : Run) (seen seen' : ℕ → ℕ) (root root' : ℕ → Option ℕ)
      (old now new : Notes) (a : AheadTo noting code inputs share c0 run seen root old now)
      → RoundTo noting code inputs share a.0 turn.Goes run' seen' root' now new
      → AheadTo noting code inputs share c0 run' seen' root' old new
  round_on_noting c0 run run' seen seen' root root' old now new a r =
      let there = steps_then t c0 a.0 r.0 a.1 r.2 in (
        r.1,
        steps_then t c0 r.0 r.1 there (s.more r.3 s.none),
        r.4,
        noted_on c0 r.0 r.1 there r.3 old new (both_noted c0 a.0 r.0 a.1 r.2 old now new a.3 r.5),
      )

  -- whatever the event is
  event_at : (last c' : State ℕ) (e : LegEnd) → EventAt t last e c' → (o : Comes ℕ) × (step t last ≡ o) × IsEvent o
  event_at last c' (end.Fork n) h = (s.forks c' n h.0, h.1, tt)
  event_at last c' (end.Join try on) h = (s.joins c' try on, h, tt)
  event_at last c' end.End h = (s.ends c' h.0, h.1, tt)
  event_at last c' (end.Trap e) h = (s.traps c' e, h, tt)

  pub leg_noted : (c0 : State ℕ) (run run' : Run) (seen seen' : ℕ → ℕ) (root root' : ℕ → Option ℕ) (old now new : Notes)
      (a : AheadTo noting code inputs share c0 run seen root old now) (e : LegEnd)
      → RoundTo noting code inputs share a.0 (turn.Ends e) run' seen' root' now new
      → HasNotedLeg noting code inputs share c0 old new
  leg_noted c0 run run' seen seen' root root' old now new a e r =
      let o = event_at r.0 r.1 e r.3 in
      let all = steps_then t c0 a.0 r.0 a.1 r.2 in
      subst (λ rs. HasNoted noting old new (marks_of rs))
      (sym (leg_reads_of_steps g ok c0 o.0 (record { last = r.0; steps = all; comes = o.1; is = o.2 })))
      (both_noted c0 a.0 r.0 a.1 r.2 old now new a.3 r.5)
