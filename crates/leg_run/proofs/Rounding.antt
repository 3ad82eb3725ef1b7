-- Instructions of a block, and then the one that leaves it.
use Rattle.std.proofs.Common.{Bool, ◌≡◌, ◌∙◌, ℕ, ◌+◌, ◌<◌, ◌≤◌, ℤ, List, length, map, reverse, take, Option, Some, None, sym, ap, subst, arith}
use Rattle.std.specs.Prelude.{slice_get}
use Rattle.rev_num.specs.declared.outcome.Cause.{Cause}
use Rattle.rev_code.specs.declared.code.Code.{Code}
use Rattle.rev_code.specs.declared.code.CodeBlock.{CodeBlock}
use Rattle.rev_code.specs.State.{State}
use Rattle.rev_code.specs.Step as s
use Rattle.rev_code.specs.Step.{goes, step, Steps, traps}
use Rattle.rev_code.specs.Funs.{setting}
use Rattle.code_rules.specs.Verdict.{first_fault}
use Rattle.code_soundness.specs.Prices.{leg_prices}
use Rattle.code_soundness.specs.Paid.{UsesUp}
use Rattle.code_soundness.proofs.Stepping.{uses}
use Rattle.code_soundness.proofs.Priced.{leg_bears}
use Rattle.code_machine.specs.Leg.{clock, longest}
use Rattle.code_machine.specs.Local.{CodeRun}
use Rattle.code_machine.proofs.Events as events
use Rattle.code_machine.proofs.Events.{IsAt}
use Rattle.code_machine.proofs.Legs.{no_longer}
use Rattle.code_soundness.specs.Typed.{location_kinds, AreLocations, IsRevision}
use Rattle.code_soundness.specs.AcceptedCode.{notes_of}
use Rattle.code_soundness.proofs.Accepting.{no_fault_accepted}
use Rattle.code_soundness.proofs.Reaching.{is_safe}
use Rattle.block_run.specs.Standing.{program, Ahead, Here, IsRoomy, IsTrapped}
use Rattle.block_run.specs.declared.registers.Registers.{Registers}
use Rattle.fun_run.proofs.Running.{steps_on}
use Rattle.leg_run.specs.declared.revision.LegEnd.{LegEnd}
use Rattle.leg_run.specs.declared.revision.LegEnd.TheVariants as end
use Rattle.leg_run.specs.declared.revision.Run.{Run}
use Rattle.leg_run.specs.declared.turn.BlockExit.TheVariants as turn
use Rattle.leg_run.specs.Changes.{SameRest}
use Rattle.leg_run.specs.Ends.{Leaves, LegEnds, StandsAt}
use Rattle.leg_run.specs.Noting.{Notes, RoundTo}
use Rattle.leg_run.specs.Standing.{AreBelow, Stands, IsStanding, listed_as, state_of}
use Rattle.leg_run.proofs.Decoding.{its_state, leaves_state}
use Rattle.leg_run.proofs.Frames as f
use Rattle.leg_run.proofs.Frames.{frames_still}

module _ (code : Code) (ok : first_fault code ≡ None) (inputs : List ℤ) (share : ℕ) where
  pub steps_good : (c c' : State ℕ) → IsRevision code (notes_of code) c → Steps (setting code inputs share) c c'
      → IsRevision code (notes_of code) c'
  steps_good c _ g s.none = g
  steps_good c c' g (s.more {c' = d} e rest) =
      steps_good d c' ((is_safe ℕ code (notes_of code) (no_fault_accepted code ok) inputs share c g).goes d e) rest

  abbrev g : CodeRun
  g = record { code = code; inputs = inputs; share = share }

  -- a trap changes no location
  trap_locations : (c c' : State ℕ) (e : Cause) → step (setting code inputs share) c ≡ traps c' e
      → c'.locations ≡ c.locations
  trap_locations c c' e h =
      ap (λ (x : State ℕ). x.locations)
      (subst (IsAt c) h (events.stands (record { code = code; inputs = inputs; share = share }) c)).0

  module _ (run : Run) (seen : ℕ → ℕ) (root : ℕ → Option ℕ) (c : State ℕ)
      (st : Stands code inputs share run seen root c)
      (b : CodeBlock) (is : slice_get code.blocks run.registers.block ≡ Some b) where
    pub leaves_trap : (e : Cause) (ws' : List ℕ) (r' : Registers) (seen' : ℕ → ℕ) (root' : ℕ → Option ℕ)
        (h : IsTrapped code inputs (program share) b c e ws' r' seen' root')
        → (run' : Run) → run'.registers ≡ r' → SameRest run run' → Leaves code run' seen' root' h.trapped
    leaves_trap e ws' r' seen' root' h run' registers rest =
        let good = steps_good c h.before st.here.good h.steps in record {
          locations = h.locations;
          kinds = subst (AreLocations (location_kinds code.vars)) (sym (trap_locations h.before h.trapped e h.trap))
              good.locations;
          fuel = sym h.run.fuel ∙ ap (λ (z : Registers). z.fuel) (sym registers);
          line = sym h.run.line ∙ ap (λ (z : Registers). z.line) (sym registers);
          forks = h.same.forks ∙ st.forks ∙ sym rest.forks;
          listed = h.same.listed ∙ st.listed ∙ ap (map listed_as) (sym rest.meetings);
          text = h.same.text ∙ st.text ∙ sym rest.text;
        }

    module _ (ws' : List ℕ) (r' : Registers) (seen' : ℕ → ℕ) (root' : ℕ → Option ℕ)
        (h : Ahead code inputs (program share) b c ws' r' seen' root') where
      pub stands_now : r'.block ≡ run.registers.block → r'.base ≡ run.registers.base
          → take run.registers.base ws' ≡ take run.registers.base run.words.items → length ws' ≡ length run.words.items
          → (run' : Run) → run'.words.items ≡ ws' → run'.registers ≡ r' → run'.below.items ≡ run.below.items
          → SameRest run run' → Stands code inputs share run' seen' root' h.now
      stands_now block base beneath long run' words registers below rest = record {
        body = b;
        is = ap (λ (z : Registers). slice_get code.blocks z.block) registers ∙ ap (slice_get code.blocks) block ∙ is;
        here = subst (λ z. Here code inputs (program share) b h.now run'.words.items z seen' root') (sym registers)
            (subst (λ ws. Here code inputs (program share) b h.now ws r' seen' root') (sym words) h.here);
        below = subst (λ (z : Registers). AreBelow code run'.words.items z.base h.now.below (reverse run'.below.items))
            (sym registers)
            (subst (λ ws. AreBelow code ws r'.base h.now.below (reverse run'.below.items)) (sym words)
            (subst (λ xs. AreBelow code ws' r'.base h.now.below (reverse xs)) (sym below)
            (subst (λ fs. AreBelow code ws' r'.base fs (reverse run.below.items)) (sym h.same.below)
            (subst (λ n. AreBelow code ws' n c.below (reverse run.below.items)) (sym base)
            (frames_still code run.words.items ws' run.registers.base c.below (reverse run.below.items) beneath
            (omega (arith, long)) st.below)))));
        room = subst (λ z. IsRoomy code b z (length run'.words.items)) (sym registers)
            (subst (λ (ws : List ℕ). IsRoomy code b r' (length ws)) (sym words)
            (λ at k. (let m = f.roomy code ok inputs share run seen root c st b is at k in
            let q : length (notes_of code r'.block at).shape ≡ length (notes_of code run.registers.block at).shape =
            ap (λ n. length (notes_of code n at).shape) block in
            omega (arith, m, q, base, long))));
        forks = h.same.forks ∙ st.forks ∙ sym rest.forks;
        listed = h.same.listed ∙ st.listed ∙ ap (map listed_as) (sym rest.meetings);
        text = h.same.text ∙ st.text ∙ sym rest.text;
        few = (let a = st.few in let e = rest.forks in let d = ap length rest.meetings in omega (arith, a, e, d));
      }

  pub stands_at : (run : Run) (seen : ℕ → ℕ) (root : ℕ → Option ℕ) (c : State ℕ)
      (st : Stands code inputs share run seen root c) (b : CodeBlock)
      (is : slice_get code.blocks run.registers.block ≡ Some b) (e : LegEnd)
      → StandsAt code inputs share c e run seen root
  stands_at run seen root c st b is (end.Fork n) = st
  stands_at run seen root c st b is (end.Join try on) = st
  stands_at run seen root c st b is end.End = f.leaves_it code ok inputs share run seen root c st b is
  stands_at run seen root c st b is (end.Trap e) = f.leaves_it code ok inputs share run seen root c st b is

  -- ---- a leg

  -- each instruction uses up something
  less : (c c' : State ℕ) → step (setting code inputs share) c ≡ goes c' → clock g c' < clock g c
  less c c' e =
      let h : clock g c' + 1 ≤ clock g c =
      subst (UsesUp code (notes_of code) (leg_prices (longest code.blocks)) c) e
      (uses (setting code inputs share) (notes_of code) (no_fault_accepted code ok).certified
      (leg_prices (longest code.blocks)) (longest code.blocks) (leg_bears (longest code.blocks))
      (λ n b. no_longer code.blocks n b) c) in
      omega (arith, h)

  no_more : (c c' : State ℕ) → Steps (setting code inputs share) c c' → clock g c' ≤ clock g c
  no_more c _ s.none = omega arith
  no_more c c' (s.more {c' = d} e rest) = let a = less c d e in let b = no_more d c' rest in omega (arith, a, b)

  module _ (run run' : Run) (seen seen' : ℕ → ℕ) (root root' : ℕ → Option ℕ) (c : State ℕ)
      (st : Stands code inputs share run seen root c) where
    pub round_less : (noting : Bool) (old new : Notes)
        → RoundTo noting code inputs share c turn.Goes run' seen' root' old new → clock g (state_of code run' seen' root') < clock g (state_of code run seen root)
    round_less noting old new r =
        let a = less r.0 r.1 r.3 in
        let b = no_more c r.0 r.2 in
        let x = ap (clock g) (its_state code inputs share run seen root c st) in
        let y = ap (clock g) (its_state code inputs share run' seen' root' r.1 r.4) in
        omega (arith, a, b, x, y)

  stands_own : (run : Run) (seen : ℕ → ℕ) (root : ℕ → Option ℕ) (c : State ℕ) → Stands code inputs share run seen root c
      → IsStanding code inputs share run seen root
  stands_own run seen root c st =
      subst (Stands code inputs share run seen root) (its_state code inputs share run seen root c st) st

  pub ends_leg : (run' : Run) (seen' : ℕ → ℕ) (root' : ℕ → Option ℕ) (c0 c : State ℕ)
      → Steps (setting code inputs share) c0 c → (e : LegEnd) (noting : Bool) (old new : Notes)
      → RoundTo noting code inputs share c (turn.Ends e) run' seen' root' old new
      → LegEnds code inputs share c0 e run' seen' root'
  ends_leg run' seen' root' c0 c steps (end.Fork n) noting old new r =
      let x = its_state code inputs share run' seen' root' r.1 r.4 in (
        r.3.0,
        record {
          last = r.0;
          steps = steps_on (setting code inputs share) c0 c r.0 steps r.2;
          comes = r.3.1 ∙ ap (λ d. s.forks d n r.3.0) x;
          is = tt;
        },
        stands_own run' seen' root' r.1 r.4,
      )
  ends_leg run' seen' root' c0 c steps (end.Join try on) noting old new r =
      let x = its_state code inputs share run' seen' root' r.1 r.4 in (
        record {
          last = r.0;
          steps = steps_on (setting code inputs share) c0 c r.0 steps r.2;
          comes = r.3 ∙ ap (λ d. s.joins d try on) x;
          is = tt;
        },
        stands_own run' seen' root' r.1 r.4,
      )
  ends_leg run' seen' root' c0 c steps end.End noting old new r = (
    r.3.0,
    r.1,
    record { last = r.0; steps = steps_on (setting code inputs share) c0 c r.0 steps r.2; comes = r.3.1; is = tt },
    leaves_state code run' seen' root' r.1 r.4,
    r.4,
  )
  ends_leg run' seen' root' c0 c steps (end.Trap e) noting old new r = (
    r.1,
    record { last = r.0; steps = steps_on (setting code inputs share) c0 c r.0 steps r.2; comes = r.3; is = tt },
    leaves_state code run' seen' root' r.1 r.4,
    r.4,
  )

-- ---- what is handed on by slices

pub here_for : (code : Code) (inputs inputs' : List ℤ) (share : ℕ) (b : CodeBlock) (c : State ℕ) (ws ws' : List ℕ)
    (r : Registers) (seen : ℕ → ℕ) (root : ℕ → Option ℕ)
    → inputs' ≡ inputs → ws' ≡ ws → Here code inputs (program share) b c ws r seen root
    → Here code inputs' (program share) b c ws' r seen root
here_for code inputs inputs' share b c ws ws' r seen root e d h =
    subst (λ is. Here code is (program share) b c ws' r seen root) (sym e)
    (subst (λ us. Here code inputs (program share) b c us r seen root) (sym d) h)
