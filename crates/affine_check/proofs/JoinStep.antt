-- A join keeps that handles are owned, and uses up the handle of the joined revision.
use Rattle.std.proofs.Common.{◌≡◌, ◌≢◌, ◌⊎◌, inl, inr, ℕ, ◌+◌, ◌≤◌, Bool, true, false, List, [], ◌++◌, Option, Some, None, refl, sym, subst, arith}
use Rattle.rev_num.specs.Path.{Path}
use Rattle.rev_num.specs.declared.value.Value.TheVariants as v
use Rattle.rev_num.specs.declared.value.ValueKind.TheVariants as k
use Rattle.rev_num.specs.declared.outcome.Trap.{Trap}
use Rattle.name_tables.specs.Names.{Name}
use Rattle.revision_machine.specs.Machine.{Forks, Joins, Ended}
use Rattle.revision_machine.specs.Conditions.{IsKept}
use Rattle.typed_programs.specs.Judgement.{ProgramTyped}
use Rattle.typed_programs.specs.Layout.{variables}
use Rattle.revision_calculus.specs.Program.{Setting}
use Rattle.revision_calculus.specs.State.{Location, Phase, running, joining, done, trapped, Local}
use Rattle.revision_calculus.specs.Evaluation.{give}
use Rattle.revision_calculus.specs.Step.{next}
use Rattle.revision_calculus.specs.Join.{merges_of, Composition, merged, faults, compose, absorb, inherit, join_in, note, join}
use Rattle.revision_calculus.specs.Calculus.{main, calculus}
use Rattle.revision_calculus.specs.HandlesHeld.{LocationsHold, in_locations}
use Rattle.revision_calculus.specs.Kinded.{IsAccepted, names, IsKinded}
use Rattle.revision_calculus.proofs.Events.{joins_phase, ended_phase}
use Rattle.revision_calculus.proofs.Joining.{compose_held}
use Rattle.revision_calculus.proofs.Meets.{main_holds_none}
use Rattle.revision_calculus.proofs.StepKinds.{kind_kept, main_kinded}
use Rattle.affine_check.specs.Owned.{hit, frames_count, owned, FramesOwn, IsOwned, UsesHandlesOnce}
use Rattle.affine_check.proofs.Scopes.{whole_once}
use Rattle.affine_check.proofs.Steps.{NoHandles, at_work, Keeps, Given, run_owned, run_count, give_own, next_keeps}

module _ (s : Setting) (typed : ProgramTyped s.program) (once : UsesHandlesOnce s.program) where
  -- the joiner l' of the revision at q, at l before
  pub record Joined (q : Path) (l l' : Local) : Type 0 where
    pub own : IsOwned s l'
    pub less : (p : Path) → owned l' p + hit (v.Rev (Some q)) p ≤ owned l p

  abbrev waits_at : Local → Path → Option Name → Local
  waits_at l q left = record l { phase = joining q left }

  -- a trap of the joiner
  trap_joined : (q : Path) (left : Option Name) (l m : Local) (tr : Trap) → NoHandles m.locations
      → Joined q (waits_at l q left) (record m { phase = trapped tr })
  trap_joined q left l m tr none = record { own = record { locations = none; frames = tt }; less = λ p. omega arith }

  -- the joiner runs on with a truth value for its left side
  on_joined : (q : Path) (left : Option Name) (l m : Local) (b : Bool) → NoHandles m.locations
      → FramesOwn (names s) left (Some k.Bool) l.frames
      → Joined q (waits_at l q left) (give s (at_work m l.frames) left (Some (v.Bool b)))
  on_joined q left l m b none under = record {
    own = run_owned s typed once l' given.locations given.phase given.frames;
    less = λ p. let e = run_count s typed once l' p given.phase in let a = given.most p in omega (arith, e, a);
  }
    where
      l' : Local
      l' = give s (at_work m l.frames) left (Some (v.Bool b))

      given : Given s typed once (v.Bool b) (frames_count left l.frames) l'
      given = give_own s typed once m l.frames left (Some k.Bool) (v.Bool b) none under (λ p i. absurd cc)

  joined_keeps : (r : Path) (l : Local) (q : Path) (left : Option Name) (j : Local) → IsOwned s (waits_at l q left)
      → NoHandles j.locations → (p : Phase) → j.phase ≡ p → (p ≢ running)
      → ((i : Path) (to : Option Name) → p ≢ joining i to)
      → Joined q (waits_at l q left) (join_in s r (note q (waits_at l q left)) left j p)
  joined_keeps r l q left j own none running e run join = absurd (run refl)
  joined_keeps r l q left j own none (joining i to) e run join = absurd (join i to refl)
  joined_keeps r l q left j own none done e run join =
      by (compose s.program 0 (merges_of (variables s.program)) l.locations j.locations) refl
    where
      either : (cs : List Location)
          → compose s.program 0 (merges_of (variables s.program)) l.locations j.locations ≡ merged cs → NoHandles cs
      either cs e p h = on (compose_held s.program 0 (merges_of (variables s.program)) l.locations j.locations cs p e h)
        where
          on : LocationsHold l.locations p ⊎ LocationsHold j.locations p → ⊥
          on (inl i) = own.locations p i
          on (inr i) = none p i

      by : (o : Composition) → compose s.program 0 (merges_of (variables s.program)) l.locations j.locations ≡ o
          → Joined q (waits_at l q left) (absorb s r (note q (waits_at l q left)) left j o)
      by (faults n f) e = trap_joined q left l (note q (waits_at l q left)) _ own.locations
      by (merged cs) e =
          on_joined q left l (record (note q l) { locations = cs; text = l.text ++ j.text; fuel = l.fuel + j.fuel })
          true (either cs e) own.frames
  joined_keeps r l q left j own none (trapped tr) e run join = by left own.frames
    where
      by : (to : Option Name) → FramesOwn (names s) to (Some k.Bool) l.frames
          → Joined q (waits_at l q to) (inherit s (note q (waits_at l q left)) to (trapped tr))
      by None under = trap_joined q None l (note q (waits_at l q left)) tr own.locations
      by (Some name) under = on_joined q (Some name) l (note q l) false own.locations under

  pub join_keeps : (r q : Path) (l j : Local) → IsOwned s l → IsOwned s j → next s r l ≡ Joins q → next s q j ≡ Ended
      → Joined q l (join s r l q j)
  join_keeps r q l j own other wants ended =
      let phase = joins_phase s r l q wants in
      by l.phase phase.0 phase.1 own
    where
      by : (p : Phase) (left : Option Name) → p ≡ joining q left → IsOwned s (record l { phase = p })
          → Joined q (record l { phase = p }) (join s r (record l { phase = p }) q j)
      by running left is own = absurd (let clash : running ≡ joining q left = is in cc)
      by done left is own = absurd (let clash : done ≡ joining q left = is in cc)
      by (trapped tr) left is own = absurd (let clash : trapped tr ≡ joining q left = is in cc)
      by (joining i to) left is own =
          let same : i ≡ q = cc in
          subst (λ y. Joined q (record l { phase = joining y to }) (join s r (record l { phase = joining y to }) q j))
          (sym same)
          (joined_keeps r l q to j (subst (λ y. IsOwned s (waits_at l y to)) same own) other.locations j.phase refl
          (ended_phase s q j ended q None).0 (λ i to. (ended_phase s q j ended i to).1))

  -- ---- each state of a run

  abbrev pub Own : Path → Local → Type 0
  Own r l = IsKinded s r l × IsOwned s l

  pub own_kept : IsAccepted s.program → IsKept (calculus s) Own
  own_kept well = record {
    moves = λ r l l' h e.
        let k : IsOwned s l' × ((q : Path) → owned l' q ≤ owned l q) =
        subst (Keeps s typed once r l.forks (owned l)) e (next_keeps s typed once r l h.0 h.1) in
        (kinds.moves r l l' h.0 e, k.0);
    forker = λ r l l' c h e. (
      kinds.forker r l l' c h.0 e,
      let k : Keeps s typed once r l.forks (owned l) (Forks l' c) =
          subst (Keeps s typed once r l.forks (owned l)) e (next_keeps s typed once r l h.0 h.1) in
          k.0,
    );
    forked = λ r l l' c h e. (
      kinds.forked r l l' c h.0 e,
      let k : Keeps s typed once r l.forks (owned l) (Forks l' c) =
          subst (Keeps s typed once r l.forks (owned l)) e (next_keeps s typed once r l h.0 h.1) in
          k.1,
    );
    joins = λ r q l j h hj e f. (kinds.joins r q l j h.0 hj.0 e f, (join_keeps r q l j h.1 hj.1 e f).own);
  }
    where
      kinds : IsKept (calculus s) (IsKinded s)
      kinds = kind_kept s well

  pub main_own : IsAccepted s.program → (fuel : ℕ) → Own [] (main s fuel)
  main_own well fuel = (
    main_kinded s well fuel,
    record {
      locations = λ q h. main_holds_none s fuel q (in_locations h);
      frames = (
        [],
        None,
        tt,
        record {
          locals = record { rev = λ name t q differ h g. cc; apart = λ name h e. (refl, refl) };
          rest = whole_once (names s) None [] s.program.main once.main;
        },
        refl,
      );
    },
  )
