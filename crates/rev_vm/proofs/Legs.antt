-- The events of legs.
--   fork_event, join_event, end_event, trap_event   what the leg of a revision comes to, and for which states what it
--                                                   leaves stands
--   ready                                           a word lies on the stack of a revision at a join
use Rattle.std.proofs.Common.{◌≡◌, ◌∙◌, ℕ, suc, ◌-◌, Bool, false, List, [], ◌∷◌, ◌++◌, length, map, Option, None, refl, sym, ap, subst, arith}
use Rattle.rev_num.specs.declared.outcome.Cause.{Cause}
use Rattle.rev_code.specs.Words.{Word}
use Rattle.rev_code.specs.State.{State, joined}
use Rattle.rev_code.specs.Step.{ends, forks, joins, step, traps}
use Rattle.code_soundness.specs.Typed.{IsRevision, location_kinds}
use Rattle.code_soundness.specs.AcceptedCode.{notes_of}
use Rattle.code_soundness.proofs.Accepting.{no_fault_accepted}
use Rattle.block_run.specs.Agreement.{AreWords}
use Rattle.block_run.specs.declared.registers.Registers.{Registers}
use Rattle.block_run.specs.Area.{count, low, stack_of}
use Rattle.block_run.specs.Remembering.{written_below}
use Rattle.fun_run.proofs.Running.{block_short}
use Rattle.version_map.specs.declared.delta.Delta.{Delta}
use Rattle.version_map.specs.declared.end.EndValue.{EndValue}
use Rattle.version_map.specs.declared.end.Finish.TheVariants as finish
use Rattle.version_map.specs.Deltas.{at, locations}
use Rattle.version_map.specs.Overlay as overlay
use Rattle.code_machine.specs.Leg.{leg}
use Rattle.code_machine.specs.Local.{CodeRun, IsVerified, Phase, done, end_of, has_ended, under, written_from}
use Rattle.code_machine.specs.Joining.{note}
use Rattle.code_machine.proofs.Legs.{leg_is}
use Rattle.code_machine.proofs.Events.{leg_own}
use Rattle.leg_run.specs.declared.revision.LegEnd.{LegEnd}
use Rattle.leg_run.specs.declared.revision.LegEnd.TheVariants as end
use Rattle.leg_run.specs.declared.revision.Meeting.{Meeting}
use Rattle.leg_run.specs.declared.revision.Meeting.TheVariants as meeting
use Rattle.leg_run.specs.declared.revision.Run.{Run}
use Rattle.leg_run.specs.Ends.{Leaves, LegEnds}
use Rattle.leg_run.specs.Standing.{listed_as, IsStanding, Stands, state_of}
use Rattle.leg_run.proofs.Decoding.{its_state}
use Rattle.leg_run.proofs.Frames.{height, stands_inside, top_inside}
use Rattle.rev_vm.specs.Legs.{HasComeTo, IsNoted, trap_of}
use Rattle.rev_vm.specs.Meaning.{AreWritten, IsAt, IsAtFork, IsAtJoin, IsEnd, IsPhase, IsReady}
use Rattle.rev_vm.specs.States.{is_by_join}
use Rattle.rev_vm.proofs.Firsts.{kinds_many}
use Rattle.rev_vm.proofs.Frames.{IsAbove, nothing_new, OnStack, stays}
use Rattle.rev_vm.proofs.Leaving.{written_as}
use Rattle.rev_vm.proofs.Meets.{IsForking, IsJoining, Meets, meets}
use Rattle.rev_vm.proofs.Forking.{one_listed}

more_listed : (ms : List Meeting) (x : Meeting) → length (ms ++ x ∷ []) ≡ suc (length ms)
more_listed [] x = refl
more_listed (y ∷ ms) x = ap suc (more_listed ms x)

pub ready_noted : (on : ℕ) (r r' : Run) → IsReady r → IsNoted on r r' → IsReady r'
ready_noted on r r' h k =
    let t = ap (λ (z : Registers). z.top) k.registers in
    let a = ap (λ (z : Registers). z.at) k.registers in
    let w = ap (λ v. length v.items) k.words in
    let x = h.some in let y = h.within in let z = h.at in
    record { some = omega (arith, t, x); within = omega (arith, t, w, y); at = omega (arith, a, z) }

-- ---- the instruction at the event

forks_there : (g : CodeRun) (last d : State ℕ) (n : ℕ) (args : List (Word ℕ)) → step (under g) last ≡ forks d n args
    → step (under g) d ≡ forks d n args
forks_there g last d n args e =
    let m : IsForking (under g) last d n args = subst (Meets (under g) last) e (meets (under g) last) in
    ap (step (under g)) m.same ∙ e

joins_there : (g : CodeRun) (last d : State ℕ) (try : Bool) (on : ℕ) → step (under g) last ≡ joins d try on
    → step (under g) d ≡ joins d try on
joins_there g last d try on e =
    let m : IsJoining last d on = subst (Meets (under g) last) e (meets (under g) last) in
    ap (step (under g)) m.same ∙ e

-- ---- a run of verified code

module _ (g : CodeRun) (run : Run) (delta : Delta) (base : ℕ → ℕ) (first : Delta) (c : State ℕ)
    (h : IsAt g run delta base first c) where
  start : c ≡ state_of g.code run (overlay.under delta base) (at first)
  start = its_state g.code g.inputs g.share run (overlay.under delta base) (at first) c h.stands

  pub own : IsStanding g.code g.inputs g.share run (overlay.under delta base) (at first)
  own = subst (Stands g.code g.inputs g.share run (overlay.under delta base) (at first)) start h.stands

  -- where its leg has ended like this, the leg of the state has
  pub come_to : (e : LegEnd) (run' : Run) (delta' : Delta) (base' : ℕ → ℕ) (first' : Delta)
      → LegEnds g.code g.inputs g.share (state_of g.code run (overlay.under delta base) (at first)) e run'
      (overlay.under delta' base') (at first')
      → locations delta' ≡ count g.code.vars → HasComeTo g c e run' delta' base' first'
  come_to e run' delta' base' first' l size = record {
    verified = h.verified;
    size = size;
    ends = subst (λ d. LegEnds g.code g.inputs g.share d e run' (overlay.under delta' base') (at first')) (sym start) l;
  }

-- ---- what the leg of a state comes to

module _ (g : CodeRun) (verified : IsVerified g) (c : State ℕ) (run' : Run) (delta' : Delta) (base' : ℕ → ℕ)
    (first' : Delta) where
  pub fork_event : (n : ℕ)
      → LegEnds g.code g.inputs g.share c (end.Fork n) run'
      (overlay.under delta' base') (at first')
      → locations delta' ≡ count g.code.vars
      → (d : State ℕ) × (args : List (Word ℕ)) × (leg g c ≡ forks d n args)
      × IsAtFork g run' delta' base' first' n d args
  fork_event n l size =
      let d = state_of g.code run' (overlay.under delta' base') (at first') in (
        d,
        l.0,
        leg_is g verified c (forks d n l.0) l.1,
        record {
          stands = record { verified = verified; stands = l.2; size = size };
          forks = forks_there g l.1.last d n l.0 l.1.comes;
        },
      )

  module _ (try : Bool) (on : ℕ)
      (l : LegEnds g.code g.inputs g.share c
      (end.Join try on) run' (overlay.under delta' base') (at first')) where
    here : Stands g.code g.inputs g.share run' (overlay.under delta' base') (at first')
        (state_of g.code run' (overlay.under delta' base') (at first'))
    here = l.1

    joins_now : step (under g) (state_of g.code run' (overlay.under delta' base') (at first'))
        ≡ joins (state_of g.code run' (overlay.under delta' base') (at first')) try on
    joins_now = joins_there g l.0.last (state_of g.code run' (overlay.under delta' base') (at first')) try on
        l.0.comes

    joining : IsJoining (state_of g.code run' (overlay.under delta' base') (at first'))
        (state_of g.code run' (overlay.under delta' base') (at first')) on
    joining = subst (Meets (under g) (state_of g.code run' (overlay.under delta' base') (at first'))) joins_now
        (meets (under g) (state_of g.code run' (overlay.under delta' base') (at first')))

    -- a word lies on the stack
    pub ready : IsReady run'
    ready =
        let d = state_of g.code run' (overlay.under delta' base') (at first') in
        let s = here in
        let k = height g.code verified g.inputs g.share run' (overlay.under delta' base') (at first') d s s.body
        s.is in
        let m = ap length joining.stack in
        let t = s.here.top in
        let a = block_short g.code (no_fault_accepted g.code verified) run'.registers.block s.body s.is in
        let i = stands_inside g.code verified g.inputs g.share run' (overlay.under delta' base') (at first') d s
        s.body s.is in
        let e = s.here.run.at in
        record {
          some = omega (arith, k, m, t);
          within = top_inside g.code verified g.inputs g.share run' (overlay.under delta' base') (at first') d s
              s.body s.is;
          at = omega (arith, a, i, e);
        }

    module _ (run2 : Run) (noted : IsNoted on run' run2) where
      on_noted : OnStack g here.body run' run2 (state_of g.code run' (overlay.under delta' base') (at first'))
          (note on (state_of g.code run' (overlay.under delta' base') (at first')))
      on_noted =
          let s = here in
          let d = state_of g.code run' (overlay.under delta' base') (at first') in
          let r : IsRevision g.code (notes_of g.code) d = s.here.good in
          let rows = noted.registers in
          let words = ap (λ v. v.items) noted.words in
          let same_top = ap (λ (z : Registers). z.top) rows in
          record {
            revision = record {
              typed = record { frame = r.typed.frame; stack = r.typed.stack; below = r.typed.below };
              program = r.program;
              locations = r.locations;
              shallow = r.shallow;
              few = r.few;
            };
            block = refl;
            locals = refl;
            below = refl;
            same_block = ap (λ (z : Registers). z.block) rows;
            same_base = ap (λ (z : Registers). z.base) rows;
            waits = noted.below;
            at = ap (λ (z : Registers). z.at) rows ∙ s.here.run.at;
            fuel = ap (λ (z : Registers). z.fuel) rows ∙ s.here.run.fuel;
            line = ap (λ (z : Registers). z.line) rows ∙ s.here.run.line;
            words = subst (λ ws. IsAbove (low s.body run'.registers) run'.words.items ws) (sym words)
                (nothing_new (low s.body run'.registers) run'.words.items);
            top = (let t = s.here.top in omega (arith, t, same_top));
            stack = subst (λ m.
                AreWords d.stack
                (stack_of run2.words.items (low s.body run'.registers) (m - low s.body run'.registers)))
                (sym same_top)
                (subst (λ ws.
                AreWords d.stack
                (stack_of ws (low s.body run'.registers) (run'.registers.top - low s.body run'.registers)))
                (sym words) s.here.run.stack);
            forks = s.forks ∙ sym noted.forks;
            listed = one_listed d.listed run'.meetings.items (joined on d.line)
                (meeting.Joined on run'.registers.line) (ap (λ m. joined on m) (sym s.here.run.line)) s.listed
                ∙ ap (λ ms. map listed_as ms) (sym noted.meetings);
            text = s.text ∙ sym (ap (λ v. v.items) noted.text);
            few = (let i = noted.forks in
                let j = ap length noted.meetings
                ∙ more_listed run'.meetings.items (meeting.Joined on run'.registers.line) in
                let o = s.few in
                omega (arith, i, j, o));
          }

      join_event : locations delta' ≡ count g.code.vars
          → (d : State ℕ) × (leg g c ≡ joins d try on) × IsAtJoin g run2 delta' base' first' try on d
      join_event size =
          let d = state_of g.code run' (overlay.under delta' base') (at first') in
          let s = here in (
            d,
            leg_is g verified c (joins d try on)
                l.0,
            record {
              stands = record {
                verified = verified;
                stands = stays g run' run2 (overlay.under delta' base') (overlay.under delta' base') (at first')
                    (at first') d (note on d) s on_noted s.here.locations s.here.many;
                size = size;
              };
              joins = joins_now;
            },
          )

      abbrev AtEvent : Bool → ℕ → Type 0
      AtEvent t o = (d : State ℕ) × (leg g c ≡ joins d t o) × IsAtJoin g run2 delta' base' first' t o d

      pub join_event_as : (try' : Bool) (on' : ℕ) → try' ≡ try → on' ≡ on → locations delta' ≡ count g.code.vars
          → (d : State ℕ) × (leg g c ≡ joins d try' on') × IsAtJoin g run2 delta' base' first' try' on' d
      join_event_as try' on' t o size =
          subst (λ x. AtEvent x on') (sym t) (subst (λ x. AtEvent try x) (sym o) (join_event size))

  -- what a revision leaves that has ended
  left : (d : State ℕ) → Leaves g.code run' (overlay.under delta' base') (at first') d → (size : ℕ)
      → size ≡ count g.code.vars → (phase : Phase ℕ) (v : EndValue)
      → v.written ≡ written_below (overlay.under delta' base') (at first') size → v.text ≡ run'.text.items
      → v.fuel ≡ run'.registers.fuel → IsPhase phase v.finish → IsEnd g (end_of (has_ended d phase)) v
  left d k size sized phase v wrote text fuel finished =
      let kinds = location_kinds g.code.vars in
      let all = kinds_many g.code.vars in
      record {
        written = subst (AreWritten kinds (written_from 0 d.locations)) (sym wrote)
            (written_as kinds d.locations (overlay.under delta' base') (at first') size (omega (arith, sized, all))
            k.kinds k.locations);
        text = text ∙ sym k.text;
        fuel = fuel ∙ sym k.fuel;
        phase = finished;
      }

  module _ (size : ℕ) (sized : size ≡ count g.code.vars) (v : EndValue)
      (wrote : v.written ≡ written_below (overlay.under delta' base') (at first') size)
      (text : v.text ≡ run'.text.items)
      (fuel : v.fuel ≡ run'.registers.fuel) where
    pub end_event : LegEnds g.code g.inputs g.share c
        end.End run' (overlay.under delta' base') (at first')
        → v.finish ≡ finish.Done
        → (d : State ℕ) × (w : Option (Word ℕ)) × (leg g c ≡ ends d w) × IsEnd g (end_of (has_ended d done)) v
    end_event l is = (
      l.1,
      l.0,
      leg_is g verified c (ends l.1 l.0) l.2,
      left l.1 l.4 size sized done v wrote text fuel (subst (IsPhase done) (sym is) tt),
    )

    pub trap_event : (e : Cause)
        → LegEnds g.code g.inputs g.share c (end.Trap e)
        run' (overlay.under delta' base') (at first')
        → v.finish ≡ finish.Trapped (record { cause = e; line = run'.registers.line; origin = None })
        → (d : State ℕ) × (f : Cause) × (leg g c ≡ traps d f) × IsEnd g (end_of (has_ended d (trap_of d f))) v
    trap_event e l is = (
      l.0,
      e,
      leg_is g verified c (traps l.0 e) l.1,
      left l.0 l.3 size sized (trap_of l.0 e) v wrote text fuel
          (subst (IsPhase (trap_of l.0 e)) (sym is) (record { cause = refl; line = sym l.3.line; origin = refl })),
    )

    pub trap_own : (e : Cause)
        → LegEnds g.code g.inputs g.share c (end.Trap e)
        run' (overlay.under delta' base') (at first')
        → v.finish ≡ finish.Trapped (record { cause = e; line = run'.registers.line; origin = None })
        → is_by_join v.finish ≡ false
    trap_own e l is =
        ap is_by_join is
        ∙ leg_own g c l.0 e (leg_is g verified c (traps l.0 e) l.1)
