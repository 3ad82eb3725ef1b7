-- Step by step both come to the same event.
--   Arrives        the code comes to an event, and the calculus with it
--   from           it does so from every related state
--   legs_alike     the event is that of the leg
use Rattle.std.proofs.Common.{◌≡◌, inl, inr, ℕ, zero, suc, ◌+◌, ◌≤◌, refl, sym, subst, arith, le_refl}
use Rattle.std.specs.Prelude.{is_some}
use Rattle.rev_num.specs.Path.{Path}
use Rattle.revision_machine.specs.Machine.{Event, Moves, Forks, Joins, Ended}
use Rattle.revision_machine.specs.Simulation.{stay, more}
use Rattle.revision_calculus.specs.Program.{Setting}
use Rattle.revision_calculus.specs.State.{Phase, running, joining, done, trapped, Local}
use Rattle.revision_calculus.specs.Step.{next}
use Rattle.revision_calculus.specs.HandlesHeld.{weight}
use Rattle.revision_calculus.specs.Kinded.{IsAccepted, IsKinded}
use Rattle.revision_calculus.proofs.Meets.{counts, spends_weight}
use Rattle.revision_calculus.proofs.StepKinds.{kind_kept}
use Rattle.rev_code.specs.declared.code.Instr.TheVariants as i
use Rattle.rev_code.specs.State.{State}
use Rattle.rev_code.specs.Step as r
use Rattle.rev_code.specs.Step.{Comes, goes, traps, forks, joins, ends, stuck, step, Steps}
use Rattle.expression_meaning.specs.States.{StandsAt}
use Rattle.program_meaning.specs.Steps.{Walks, nowhere, DidMove, DidFork, Did}
use Rattle.program_meaning.specs.StatementLaws.{tables}
use Rattle.program_meaning.proofs.Resume.{goes_on}
use Rattle.program_meaning.proofs.Starts.{linked}
use Rattle.program_meaning.proofs.Forms.{step_runs}
use Rattle.code_machine.specs.Local.{IsVerified}
use Rattle.code_machine.specs.Leg.{IsEvent, leg}
use Rattle.code_machine.proofs.Legs.{leg_is}
use Rattle.program_meaning.specs.Related.{run_of, IsAtWork}
use Rattle.program_meaning.specs.Legs.{ForksAlike, ComesAlike}

module _ (s : Setting) (well : IsAccepted s.program) where
  record Arrives (p : Path) (l : Local) (c : State Path) : Type 0 where
    event : Comes Path
    last : State Path
    steps : Steps (tables s).setting c last
    comes : step (tables s).setting last ≡ event
    is : IsEvent event
    alike : ComesAlike s p l event

  -- after a step of the calculus
  earlier : (p : Path) (l m : Local) → next s p l ≡ Moves m → (o : Comes Path) → ComesAlike s p m o → ComesAlike s p l o
  earlier p l m e (ends c w) h = record { after = h.after; quiet = more e h.quiet; phase = h.phase; shared = h.shared }
  earlier p l m e (traps c x) h =
      record { after = h.after; quiet = more e h.quiet; trap = h.trap; phase = h.phase; is = h.is; shared = h.shared }
  earlier p l m e (forks c n args) h = record {
    before = h.before;
    quiet = more e h.quiet;
    forker = h.forker;
    kid = h.kid;
    forks = h.forks;
    counted = h.counted;
    block = h.block;
    is = h.is;
    works = h.works;
    kid_works = h.kid_works;
  }
  earlier p l m e (joins c try q) h =
      record { before = h.before; quiet = more e h.quiet; left = h.left; tries = h.tries; phase = h.phase; at = h.at }
  earlier p l m e (goes c) h = absurd h
  earlier p l m e stuck h = absurd h

  walked : (a c : State Path) → Walks (tables s) a c → Steps (tables s).setting a c
  walked a c w = r.more w.goes_to w.more

  later : (p : Path) (l m : Local) (a c : State Path) → next s p l ≡ Moves m → Steps (tables s).setting a c
      → Arrives p m c → Arrives p l a
  later p l m a c e on h = record {
    event = h.event;
    last = h.last;
    steps = goes_on s (tables s) a c h.last on h.steps;
    comes = h.comes;
    is = h.is;
    alike = earlier p l m e h.event h.alike;
  }

  fork_alike : (p : Path) (l : Local) (a : State Path) (forker kid : Local) → next s p l ≡ Forks forker kid
      → (d : DidFork s (tables s) p (Walks (tables s)) a forker kid) → ForksAlike s p l d.at d.number d.args
  fork_alike p l a forker kid e d =
      let counted : l.forks ≡ d.at.forks =
      (let x : forker.forks ≡ suc l.forks = (counts s).forker p l forker kid e in
      let y = d.counted in
      omega (arith, x, y)) in
      record {
        before = l;
        quiet = stay;
        forker = forker;
        kid = kid;
        forks = e;
        counted = counted;
        block = d.block;
        is = d.is;
        works = record {
          phase = d.phase;
          on = d.told;
          steps = d.on_told;
          few = d.few;
          given = inr (record {
            block = d.forking;
            is = d.forking_is;
            giver = i.Fork d.number;
            at = d.at.at;
            behind = refl;
            there = d.here;
            gives = refl;
          });
          stands = d.stands;
        };
        kid_works = record {
          phase = d.child_phase;
          on = _;
          steps = r.none;
          few = nowhere refl;
          given = inl refl;
          stands = d.child_stands;
        };
      }

  by_event : (p : Path) (l : Local) (a : State Path) (v : Event Local) → next s p l ≡ v
      → Did s (tables s) p (Walks (tables s)) a v
      → ((m : Local) (c : State Path) → weight m + 1 ≤ weight l → StandsAt s (tables s) m c → m.phase ≡ running
      → IsKinded s p m → Arrives p m c)
      → IsKinded s p l → Arrives p l a
  by_event p l a (Moves m) e d rec kinded = by m.phase refl d
    where
      by : (ph : Phase) → m.phase ≡ ph → DidMove s (tables s) p (Walks (tables s)) a m ph → Arrives p l a
      by running q d =
          later p l m a d.0 e (walked a d.0 d.1)
          (rec m d.0 ((spends_weight s).moves p l m e) d.2 q ((kind_kept s well).moves p l m kinded e))
      by (joining o left) q d = record {
        event = joins d.0 (is_some left) o;
        last = d.0;
        steps = walked a d.0 d.1;
        comes = d.2;
        is = tt;
        alike = record { before = m; quiet = more e stay; left = left; tries = refl; phase = q; at = d.3 };
      }
      by done q d = record {
        event = ends d.0 d.1;
        last = d.0;
        steps = d.2;
        comes = d.3;
        is = tt;
        alike = record { after = m; quiet = more e stay; phase = q; shared = d.4 };
      }
      by (trapped t) q d = record {
        event = traps d.1 t.cause;
        last = d.0;
        steps = d.2;
        comes = d.3;
        is = tt;
        alike = record {
          after = m;
          quiet = more e stay;
          trap = t;
          phase = q;
          is = record { cause = refl; line = d.4; origin = d.5 };
          shared = d.6;
        };
      }
  by_event p l a (Forks forker kid) e d rec kinded = record {
    event = forks d.at d.number d.args;
    last = d.at;
    steps = walked a d.at d.on;
    comes = d.forks;
    is = tt;
    alike = fork_alike p l a forker kid e d;
  }
  by_event p l a (Joins q) e d rec kinded = absurd d
  by_event p l a Ended e d rec kinded = absurd d

  from : (n : ℕ) (p : Path) (l : Local) (a : State Path) → weight l ≤ n → StandsAt s (tables s) l a → l.phase ≡ running
      → IsKinded s p l → Arrives p l a
  from zero p l a small st phase kinded =
      by_event p l a (next s p l) refl (step_runs s (tables s) (linked s well) p l st.0 st.1 a st.2 phase kinded)
      (λ m c less st1 ph k. absurd (omega (arith, small, less))) kinded
  from (suc n) p l a small st phase kinded =
      by_event p l a (next s p l) refl (step_runs s (tables s) (linked s well) p l st.0 st.1 a st.2 phase kinded)
      (λ m c less st1 ph k. from n p m c (omega (arith, small, less)) st1 ph k) kinded

  pub legs_alike : IsVerified (run_of s) → (p : Path) (l : Local) (c : State Path) → IsAtWork s l c → IsKinded s p l
      → ComesAlike s p l (leg (run_of s) c)
  legs_alike ok p l c h kinded =
      let a = from (weight l) p l h.on (le_refl (weight l)) h.stands h.phase kinded in
      let e : leg (run_of s) c ≡ a.event = leg_is (run_of s) ok c a.event (record {
        last = a.last;
        steps = goes_on s (tables s) c h.on a.last h.steps a.steps;
        comes = a.comes;
        is = a.is;
      }) in
      subst (ComesAlike s p l) (sym e) a.alike
