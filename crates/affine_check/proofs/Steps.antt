-- Each step of a revision keeps that its handles are owned, and names no revision more often, but for the child of a
-- fork.
use Rattle.std.proofs.Common.{◌≡◌, ◌≢◌, ◌∙◌, ◌⊎◌, inl, inr, ℕ, zero, suc, ◌+◌, ◌≤◌, Bool, true, false, cond, List, [], ◌∷◌, ◌++◌, length, Option, Some, None, Result, Ok, Err, refl, sym, ap, subst, arith, le_refl}
use Rattle.std.specs.Prelude.{nat_le, if◌then◌else◌}
use Rattle.rev_num.specs.Path.{Path, child}
use Rattle.rev_num.specs.declared.value.Value.{Value}
use Rattle.rev_num.specs.declared.value.Value.TheVariants as v
use Rattle.rev_num.specs.declared.value.ValueKind.{ValueKind}
use Rattle.rev_num.specs.declared.value.ValueKind.TheVariants as k
use Rattle.rev_num.specs.declared.outcome.Cause.{Cause}
use Rattle.rev_num.specs.declared.outcome.Cause.TheVariants as cause
use Rattle.rev_syntax.specs.Trees.{PlacedName, Expression, placed, int, bool, no_rev, var, cell, apply, input, inputs, pick, unary, chain, Expressions, RightSide, plain, called, tried, Statement, statement, bind, assign, assign_cell, choose, choose_or, repeat, call, return, fork, join, print, assert, Statements, no_statements, statements, Arms, no_arms, arm}
use Rattle.rev_syntax.specs.Trees as t
use Rattle.revision_machine.specs.Machine.{Event, Moves, Forks, Joins, Ended}
use Rattle.name_tables.specs.Names.{Name}
use Rattle.name_tables.specs.Table.{find, added}
use Rattle.typed_programs.specs.Value.{and_then, truth_of, number_of, scalar, array, funs_of}
use Rattle.typed_programs.specs.Definitions.{funs_in}
use Rattle.typed_programs.specs.declared.names.Holder.{Holder}
use Rattle.typed_programs.specs.Kinds.{Callee, Locals}
use Rattle.typed_programs.specs.Typing.{ScalarHas, ArrayHas, HasKind}
use Rattle.typed_programs.proofs.Returning.{none_end}
use Rattle.typed_programs.specs.Scopes.{within, shared_named, proc_named, with_params}
use Rattle.typed_programs.specs.Judgement.{CallTyped, RightSideHas, ReturnTyped, StatementTyped, Returns, ProgramTyped}
use Rattle.typed_programs.specs.Layout.{SharedVariable, variables, procedures, Procedure}
use Rattle.revision_calculus.specs.Program.{variable_named, procedure_named, Setting}
use Rattle.revision_calculus.specs.State.{Location, view_at, write_at, Frame, Phase, running, joining, done, trapped, Local}
use Rattle.revision_calculus.specs.Evaluation.{read_shared, env, eval, evals, set_named, set, give, cell_location}
use Rattle.revision_calculus.specs.Step as spec
use Rattle.revision_calculus.specs.Step.{traps, with_answer, enter, append, select, most_frames, frame_of, calls, finish, end_frame, forker, new_child, joins, item_texts, line_of, by_right, does, begins, by_rest, by_frames, by_phase, next}
use Rattle.revision_calculus.specs.HandlesHeld.{IsHandle, LocationsHold}
use Rattle.revision_calculus.specs.Kinded.{location_kinds, names, FramesAre, IsKinded}
use Rattle.revision_calculus.proofs.Values.{OfOk, then_ok, OfShared, funs_ok}
use Rattle.revision_calculus.proofs.Handles.{seen_at_held, write_held, fresh_held}
use Rattle.revision_calculus.proofs.Events.{Any, any_ok}
use Rattle.revision_calculus.proofs.LocationKinds.{Located, located}
use Rattle.revision_calculus.proofs.ScopeKinds.{within_self}
use Rattle.affine_check.specs.Live.{or, names_it, among, right_side_uses, live, passes, statement_passes, arms_pass, live_statement, live_arms, PickFree, NameOnce, UseOnce, UsesOnce, RightSideOnce, NotStored, StatementsOnce, StatementOnce, ArmsOnce}
use Rattle.affine_check.specs.Owned.{hit, count, live_locals, frames_count, owned_at, owned, RestOnce, LocalsRev, FramesOwn, FramesOwnAt, IsOwned, UsesHandlesOnce}
use Rattle.affine_check.proofs.Counts.{hits, Sub, or_left, or_right, count_sub, count_absent, count_set, count_params}
use Rattle.affine_check.proofs.Readings.{Plain, plain_others, OfRev, FitAll, Fit, EnvRev, expression_rev, args_fit, plain_value, use_hits, args_hit}
use Rattle.affine_check.proofs.Scopes.{live_append, block_once, locals_wait, locals_within, locals_let, let_fits, locals_set, locals_shared, ProcOnce, proc_once, call_frame, fun_plain, none_waits}
use Rattle.revision_calculus.proofs.ValueKinds.{either}

-- no location has a handle
abbrev pub NoHandles : List Location → Type 0
NoHandles ms = (q : Path) → LocationsHold ms q → ⊥

-- at work with these frames
abbrev pub at_work : Local → List Frame → Local
at_work l fs = record l { phase = running; frames = fs }

plain_hit : (x : Value) (q : Path) → Plain x → hit x q ≡ 0
plain_hit (v.Int z) q p = refl
plain_hit (v.Bool z) q p = refl
plain_hit (v.Rev None) q p = refl
plain_hit (v.Rev (Some r)) q p = absurd (p r refl)

both_ok : {A : Type 0} (P Q : A → Type 0) (a : Result A Cause) → OfOk P a → OfOk Q a → OfOk (λ x. P x × Q x) a
both_ok P Q (Ok x) p q = (p, q)
both_ok P Q (Err c) p q = tt

name_false : (l : Locals) (e : Expression) → NameOnce l e (λ n. false)
name_false l (placed at (int z)) = tt
name_false l (placed at (bool z)) = tt
name_false l (placed at no_rev) = tt
name_false l (placed at (var w)) = λ is. refl
name_false l (placed at (cell w index)) = tt
name_false l (placed at (apply w args)) = tt
name_false l (placed at (input i index)) = tt
name_false l (placed at (inputs i)) = tt
name_false l (placed at (pick test x y)) = tt
name_false l (placed at (unary op part)) = tt
name_false l (placed at (chain first rest)) = tt

scalar_kind : (o : Option (Option ValueKind)) (g : Option Holder) (u : ValueKind) (h : Holder) → ScalarHas o g u
    → o ≡ None → g ≡ Some h → h.kind ≡ u
scalar_kind (Some found) g u h has e i = cc
scalar_kind None (Some x) u h has e i = let is : x ≡ h = cc in ap (λ (y : Holder). y.kind) (sym is) ∙ has.1
scalar_kind None None u h has e i = absurd has

scalar_found : (o : Option (Option ValueKind)) (g : Option Holder) (u : ValueKind) → ScalarHas o g u → g ≡ None
    → o ≡ Some (Some u)
scalar_found (Some found) g u has e = ap Some has
scalar_found None (Some h) u has e = cc
scalar_found None None u has e = absurd has

array_kind : (o : Option (Option ValueKind)) (g : Option Holder) (u : ValueKind) → ArrayHas o g u
    → ((h : Holder) → g ≡ Some h → h.kind ≢ k.Rev) → u ≢ k.Rev
array_kind (Some found) g u has never = absurd has
array_kind None (Some h) u has never = λ e. never h refl (has.1 ∙ e)
array_kind None None u has never = absurd has

module _ (s : Setting) (typed : ProgramTyped s.program) (once : UsesHandlesOnce s.program) where
  place : (name : Name)
      → Located (location_kinds s) (variable_named (variables s.program) name)
      (shared_named s.program.declarations name)
  place name = located [] s.program.declarations name

  shared_plain : (locations : List Location) → NoHandles locations → (o : Option SharedVariable)
      → OfShared Plain plain_others (read_shared o locations)
  shared_plain locations none None = tt
  shared_plain locations none (Some x) = go x.info.array
    where
      go : (b : Bool)
          → OfShared Plain plain_others
          (cond b (array x.info.cells (λ i. view_at locations (x.info.base + i)))
          (scalar (view_at locations x.info.base)))
      go true = λ i q e. none q (seen_at_held locations (x.info.base + i) q e)
      go false = λ q e. none q (seen_at_held locations x.info.base q e)

  env_rev : (l : Local) (f : Frame) (fs : List Frame) (scope : Locals) → NoHandles l.locations
      → LocalsRev (names s) scope None f.locals
      → EnvRev (names s) scope (funs_of (funs_in s.program)) (env s (at_work l (f ∷ fs)))
  env_rev l f fs scope none are = record {
    local = λ name u q h e. are.rev name u q (λ i. cc) h e;
    apart = λ name h e. (are.apart name h e).1;
    shared = λ name. shared_plain l.locations none (variable_named (variables s.program) name);
    funs = funs_ok Plain plain_others (funs_in s.program);
    params = λ name f e.
        fun_plain (names s) (within s.program.declarations) [] s.program.declarations name f typed.declarations e;
  }

  -- ---- left sides

  -- the value went to the left side that waited, where so many places named a revision before
  pub record Given (x : Value) (B : Path → ℕ) (l' : Local) : Type 0 where
    pub locations : NoHandles l'.locations
    pub frames : FramesOwn (names s) None None l'.frames
    pub phase : l'.phase ≡ running
    pub most : (q : Path) → frames_count None l'.frames q ≤ hit x q + B q

  set_by : (l : Local) (f : Frame) (fs : List Frame) (name : Name) (u : ValueKind) (x : Value)
      (o : Option SharedVariable) (g : Option Holder)
      → NoHandles l.locations → FramesOwn (names s) (Some name) (Some u) (f ∷ fs) → (names s).shared name ≡ g
      → Located (location_kinds s) o g
      → ((q : Path) → IsHandle x q → u ≡ k.Rev)
      → Given x (frames_count (Some name) (f ∷ fs)) (set_named o (at_work l (f ∷ fs)) name x)
  set_by l f fs name u x None (Some h) none are e at rev = absurd at
  set_by l f fs name u x (Some y) None none are e at rev = absurd at
  set_by l f fs name u x (Some y) (Some h) none are e at rev = record {
    locations = λ q i. by q (write_held l.locations y.info.base x q i);
    frames = (
      are.0,
      are.1,
      tt,
      record { locals = locals_shared (names s) are.0 name h f.locals are.3.locals e; rest = are.3.rest },
      are.4,
    );
    phase = refl;
    most = λ q.
        let less = count_absent (λ n. live n f.rest false) name f.locals q (are.3.locals.apart name h e).1 in
        omega (arith, less);
  }
    where
      by : (q : Path) → LocationsHold l.locations q ⊎ IsHandle x q → ⊥
      by q (inl i) = none q i
      by q (inr i) =
          are.2.1 h e (scalar_kind (find name are.0) ((names s).shared name) u h are.2.0 (are.3.locals.apart name h e).0
          e
          ∙ rev q i)
  set_by l f fs name u x None None none are e at rev = record {
    locations = none;
    frames = (
      are.0,
      are.1,
      tt,
      record {
        locals = locals_set (names s) are.0 name u x f.locals are.3.locals
            (scalar_found (find name are.0) ((names s).shared name) u are.2.0 e) rev;
        rest = are.3.rest;
      },
      are.4,
    );
    phase = refl;
    most = λ q. let less = count_set (λ n. live n f.rest false) name x f.locals q in omega (arith, less);
  }

  pub give_own : (l : Local) (fs : List Frame) (left : Option Name) (given : Option ValueKind) (x : Value)
      → NoHandles l.locations → FramesOwn (names s) left given fs → ((q : Path) → IsHandle x q → given ≡ Some k.Rev)
      → Given x (frames_count left fs) (give s (at_work l fs) left (Some x))
  give_own l fs None given x none are rev = record {
    locations = none;
    frames = none_waits (names s) given None fs are;
    phase = refl;
    most = λ q. omega arith;
  }
  give_own l [] (Some name) given x none are rev = cc
  give_own l (f ∷ fs) (Some name) None x none are rev = absurd are.2
  give_own l (f ∷ fs) (Some name) (Some u) x none are rev =
      set_by l f fs name u x (variable_named (variables s.program) name) (shared_named s.program.declarations name) none
      are refl (place name) (λ q i. let e = rev q i in cc)

  -- ---- events

  -- what is said of the states that an event makes, where so many places named a revision before it
  abbrev pub Keeps : Path → ℕ → (Path → ℕ) → Event Local → Type 0
  Keeps r n B (Moves l') = IsOwned s l' × ((q : Path) → owned l' q ≤ B q)
  Keeps r n B (Forks l' c) =
      IsOwned s l' × IsOwned s c × ((q : Path) → owned l' q + owned c q ≤ B q + hit (v.Rev (Some (child r n))) q)
  Keeps r n B (Joins q) = Unit {0}
  Keeps r n B Ended = Unit {0}

  pub run_owned : (l : Local) → NoHandles l.locations → l.phase ≡ running → FramesOwn (names s) None None l.frames
      → IsOwned s l
  run_owned l none run are =
      record { locations = none; frames = subst (λ p. FramesOwnAt (names s) p l.frames) (sym run) are }

  pub run_count : (l : Local) (q : Path) → l.phase ≡ running → owned l q ≡ frames_count None l.frames q
  run_count l q run = ap (λ p. owned_at p l.frames q) run

  given_keeps : (r : Path) (n : ℕ) (B D : Path → ℕ) (x : Value) (l' : Local) → Given x D l'
      → ((q : Path) → hit x q + D q ≤ B q) → Keeps r n B (Moves l')
  given_keeps r n B D x l' given less = (
    run_owned l' given.locations given.phase given.frames,
    λ q. let e = run_count l' q given.phase in let a = given.most q in let b = less q in omega (arith, e, a, b),
  )

  traps_keep : (r : Path) (n : ℕ) (B : Path → ℕ) (l : Local) (c : Cause) → NoHandles l.locations
      → Keeps r n B (traps r l c)
  traps_keep r n B l c none = (record { locations = none; frames = tt }, λ q. omega arith)

  finish_keeps : (r : Path) (n : ℕ) (B : Path → ℕ) (l : Local) → NoHandles l.locations → Keeps r n B (Moves (finish l))
  finish_keeps r n B l none = (record { locations = none; frames = tt }, λ q. omega arith)

  -- at work with these frames, whose locations have no handle
  module _ (r : Path) (l : Local) (fs : List Frame) (none : NoHandles l.locations) (B : Path → ℕ) where
    m : Local
    m = at_work l fs

    answers : {A : Type 0} (P : A → Type 0) (a : Result A Cause) (go : A → Event Local) → OfOk P a
        → ((x : A) → P x → Keeps r l.forks B (go x)) → Keeps r l.forks B (with_answer r (at_work l fs) a go)
    answers P (Ok x) go p is = is x p
    answers P (Err c) go p is = traps_keep r l.forks B (at_work l fs) c none

    calls_keep : (left : Option Name) (name : Name) (q : Callee) (args : List Value)
        → proc_named s.program.declarations name ≡ Some q → Fit q.params args → FramesOwn (names s) left q.result fs
        → ((p : Path) → hits args p + frames_count left fs p ≤ B p)
        → Keeps r l.forks B (calls s r (at_work l fs) left name args)
    calls_keep left name q args e fit under less =
        let d = procedure_named (procedures s.program) name in
        let is = proc_once (names s) (within s.program.declarations) [] 0 s.program.declarations name q
        typed.declarations once.declarations e in
        let l' : Local = record l { phase = running; frames = frame_of d args left ∷ fs } in
        either (Keeps r l.forks B) (nat_le most_frames (length fs)) (traps r (at_work l fs) cause.CallDepth) (Moves l')
        (traps_keep r l.forks B (at_work l fs) cause.CallDepth none) (
          record {
            locations = none;
            frames = (with_params [] q.params, q.result, tt, call_frame (names s) q d args left is fit, under);
          },
          λ p. let a = count_params (λ n. live n d.body false) d.params args p in let b = less p in omega (arith, a, b),
        )

    forks_keep : (left : Option Name) (name : Name) (q : Callee) (args : List Value)
        → proc_named s.program.declarations name ≡ Some q → Fit q.params args → FramesOwn (names s) left (Some k.Rev) fs
        → ((p : Path) → hits args p + frames_count left fs p ≤ B p)
        → Keeps r l.forks B (spec.forks s r (at_work l fs) left name args)
    forks_keep left name q args e fit under less =
        let d = procedure_named (procedures s.program) name in
        let x : Value = v.Rev (Some (child r l.forks)) in
        let is = proc_once (names s) (within s.program.declarations) [] 0 s.program.declarations name q
        typed.declarations once.declarations e in
        let given = give_own (forker s r (at_work l fs)) fs left (Some k.Rev) x none under (λ p i. refl) in
        let l' : Local = give s (forker s r (at_work l fs)) left (Some x) in (
          run_owned l' given.locations given.phase given.frames,
          child_own d is,
          λ p.
              let a = count_params (λ n. live n d.body false) d.params args p in
              let b = less p in
              let g = given.most p in
              let e = run_count l' p given.phase in
              omega (arith, a, b, g, e),
        )
      where
        child_own : (d : Procedure) → ProcOnce (names s) q d → IsOwned s (new_child s (at_work l fs) d args)
        child_own d is = record {
          locations = λ p h. none p (fresh_held l.locations p h);
          frames = (with_params [] q.params, q.result, tt, call_frame (names s) q d args None is fit, refl);
        }

    joins_keep : (left : Option Name) (x : Value) → FramesOwn (names s) left (Some k.Bool) fs
        → ((p : Path) → hit x p + frames_count left fs p ≤ B p) → Keeps r l.forks B (joins r (at_work l fs) left x)
    joins_keep left (v.Rev (Some q)) under less = (record { locations = none; frames = under }, less)
    joins_keep left (v.Rev None) under less = traps_keep r l.forks B (at_work l fs) cause.JoinNone none
    joins_keep left (v.Int z) under less = traps_keep r l.forks B (at_work l fs) cause.JoinNone none
    joins_keep left (v.Bool d) under less = traps_keep r l.forks B (at_work l fs) cause.JoinNone none

    -- a return of a value
    gives_back : (left : Option Name) (result : Option ValueKind) (x : Value) (f : Frame) → f.left ≡ left
        → FramesOwn (names s) left result fs → ((q : Path) → IsHandle x q → result ≡ Some k.Rev)
        → ((q : Path) → hit x q + frames_count left fs q ≤ B q)
        → Keeps r l.forks B (Moves (end_frame s (at_work l (f ∷ fs)) (f ∷ fs) (Some x)))
    gives_back left result x f is under rev less = by fs refl
      where
        by : (gs : List Frame) → fs ≡ gs
            → Keeps r l.forks B (Moves (end_frame s (at_work l (f ∷ fs)) (f ∷ gs) (Some x)))
        by [] e = finish_keeps r l.forks B (at_work l (f ∷ fs)) none
        by (g ∷ gs) e =
            let under' : FramesOwn (names s) f.left result (g ∷ gs) =
            subst (λ y. FramesOwn (names s) y result (g ∷ gs)) (sym is)
            (subst (λ y. FramesOwn (names s) left result y) e under) in
            given_keeps r l.forks B (frames_count f.left (g ∷ gs)) x (give s (at_work l (g ∷ gs)) f.left (Some x))
            (give_own l (g ∷ gs) f.left result x none under' rev)
            (λ q.
            let a = less q in
            let b : frames_count left fs q ≡ frames_count f.left (g ∷ gs) q =
            ap (λ y. frames_count y fs q) (sym is) ∙ ap (λ y. frames_count f.left y q) e in
            omega (arith, a, b))

    -- a return of no value, for which no left side waits
    gives_none : (f : Frame) (result : Option ValueKind) → f.left ≡ None → FramesOwn (names s) f.left result fs
        → ((q : Path) → frames_count f.left fs q ≤ B q)
        → Keeps r l.forks B (Moves (end_frame s (at_work l (f ∷ fs)) (f ∷ fs) None))
    gives_none f result is under less = by fs refl
      where
        by : (gs : List Frame) → fs ≡ gs → Keeps r l.forks B (Moves (end_frame s (at_work l (f ∷ fs)) (f ∷ gs) None))
        by [] e = finish_keeps r l.forks B (at_work l (f ∷ fs)) none
        by (g ∷ gs) e = subst (λ y. Keeps r l.forks B (Moves (give s (at_work l (g ∷ gs)) y None))) (sym is) (
          record {
            locations = none;
            frames = none_waits (names s) result None (g ∷ gs)
                (subst (λ y. FramesOwn (names s) None result y) e
                (subst (λ y. FramesOwn (names s) y result fs) is under));
          },
          λ q.
              let a = less q in
              let b : frames_count f.left fs q ≡ frames_count None (g ∷ gs) q =
              ap (λ y. frames_count y fs q) is ∙ ap (λ y. frames_count None y q) e in
              omega (arith, a, b),
        )

  -- ---- blocks

  -- a block that is entered, behind which these are in use, and the names that were live before the `if`
  record Entered (result : Option ValueKind) (known : Locals) (K : Name → Bool) (before : Name → Bool) (P : Bool)
      (block : Statements) : Type 0 where
    block_uses : StatementsOnce (names s) result known block K
    less : Sub (λ n. live n block (K n)) before
    through : passes block ≡ true → P ≡ true

  entered_or : (result : Option ValueKind) (known : Locals) (K b : Name → Bool) (P : Bool) (a : Name → Bool)
      (o : Result Statements Cause)
      → OfOk (Entered result known K b P) o → OfOk (Entered result known K (λ n. or (a n) (b n)) P) o
  entered_or result known K b P a (Ok x) h =
      record { block_uses = h.block_uses; less = λ n e. or_right (a n) (b n) (h.less n e); through = h.through }
  entered_or result known K b P a (Err c) h = tt

  select_once : (l : Local) (result : Option ValueKind) (known : Locals) (K : Name → Bool) (P : Bool) (arms : Arms)
      (last : Statements)
      → ArmsOnce (names s) result known arms K → StatementsOnce (names s) result known last K
      → (arms_pass arms ≡ true → P ≡ true) → (passes last ≡ true → P ≡ true)
      → OfOk (Entered result known K (λ n. live_arms n arms (live n last (K n)) (K n)) P) (select s l arms last)
  select_once l result known K P no_arms last all end through by_last =
      record { block_uses = end; less = λ n e. e; through = by_last }
  select_once l result known K P (arm test body rest) last all end through by_last =
      let before : Name → Bool = λ n. live_arms n (arm test body rest) (live n last (K n)) (K n) in
      let later =
      entered_or result known K (λ n. live_arms n rest (live n last (K n)) (K n)) P (λ n. live n body (K n))
      (select s l rest last) (select_once l result known K P rest last all.1 end
      (λ e. through (or_right (passes body) (arms_pass rest) e)) by_last) in
      then_ok Any (Entered result known K before P) (eval s l test)
      (λ x. if truth_of x then Ok body else select s l rest last) (any_ok (eval s l test))
      (λ x any.
      either (OfOk (Entered result known K before P)) (truth_of x) (Ok body) (select s l rest last) (record {
        block_uses = all.0;
        less = λ n e. or_left (live n body (K n)) (live_arms n rest (live n last (K n)) (K n)) e;
        through = λ e. through (or_left (passes body) (arms_pass rest) e);
      }) later)

  live_turn : (n : Name) (body : Statements) (k : Bool) → live n body (or (live n body false) k) ≡ true
      → or (live n body false) k ≡ true
  live_turn n body k h = by (or (live n body false) k) refl h
    where
      by : (d : Bool) → or (live n body false) k ≡ d → live n body d ≡ true → or (live n body false) k ≡ true
      by true e i = e
      by false e i = or_left (live n body false) k i

  -- ---- statements

  -- a revision at work, with its top frame and those below it
  module _ (r : Path) (l : Local) (f : Frame) (fs : List Frame) (none : NoHandles l.locations)
      (result : Option ValueKind) (under : FramesOwn (names s) f.left result fs) where
    -- how many live places named a revision, where these names were live in the top frame
    abbrev were : (Name → Bool) → Path → ℕ
    were b q = count b f.locals q + frames_count f.left fs q

    were_sub : (a b : Name → Bool) (q : Path) → Sub a b → were a q ≤ were b q
    were_sub a b q h = let less = count_sub a b f.locals q h in omega (arith, less)

    -- with these names in scope for the statement
    module _ (known : Locals) (locals : LocalsRev (names s) known None f.locals) where
      env' : EnvRev (names s) known (funs_of (funs_in s.program)) (env s (at_work l (f ∷ fs)))
      env' = env_rev l f fs known none locals

      -- arguments, where these names are live behind
      args_keep : (name : PlacedName) (args : Expressions) (K : Name → Bool) (q : Callee)
          → CallTyped (names s) known name args q → UsesOnce known args K
          → OfOk (λ xs.
          FitAll q.params xs
          × ((p : Path) → hits xs p + count K f.locals p ≤ count (λ n. or (among n args) (K n)) f.locals p))
          (evals s (at_work l (f ∷ fs)) args)
      args_keep name args K q has uses =
          both_ok (FitAll q.params)
          (λ xs. (p : Path) → hits xs p + count K f.locals p ≤ count (λ n. or (among n args) (K n)) f.locals p)
          (evals s (at_work l (f ∷ fs)) args)
          (args_fit (names s) known (funs_of (funs_in s.program)) (env s (at_work l (f ∷ fs))) env' args q.params has.1
          has.2)
          (args_hit (names s) known (funs_of (funs_in s.program)) (env s (at_work l (f ∷ fs))) env' f.locals
          (λ name. refl) args q.params 0 K has.2 uses)

      use_keep : (e : Expression) (u : ValueKind) (K : Name → Bool) → HasKind (names s) known e u → UseOnce known e K
          → OfOk (λ x.
          OfRev u x × ((p : Path) → hit x p + count K f.locals p ≤ count (λ n. or (names_it n e) (K n)) f.locals p))
          (eval s (at_work l (f ∷ fs)) e)
      use_keep e u K has uses =
          both_ok (OfRev u)
          (λ x. (p : Path) → hit x p + count K f.locals p ≤ count (λ n. or (names_it n e) (K n)) f.locals p)
          (eval s (at_work l (f ∷ fs)) e)
          (expression_rev (names s) known (funs_of (funs_in s.program)) (env s (at_work l (f ∷ fs))) env' e u has)
          (use_hits (names s) known (funs_of (funs_in s.program)) (env s (at_work l (f ∷ fs))) env' f.locals
          (λ name. refl) e u K has uses)

      -- a right side, for whose value a name waits
      right_side_keeps : (name : Name) (right : RightSide) (u : ValueKind) → RightSideHas (names s) known right u
          → RightSideOnce known right (live_locals (Some name) f.rest)
          → FramesOwn (names s) (Some name) (Some u) (f ∷ fs)
          → Keeps r l.forks (were (λ n. or (right_side_uses n right) (live_locals (Some name) f.rest n)))
          (by_right s r (at_work l (f ∷ fs)) name right)
      right_side_keeps name (plain e) u has uses waits =
          answers r l (f ∷ fs) none (were (live_locals (Some name) f.rest)) Plain (eval s (at_work l (f ∷ fs)) e)
          (λ x. Moves (set s (at_work l (f ∷ fs)) name x))
          (plain_value (names s) known (funs_of (funs_in s.program)) (env s (at_work l (f ∷ fs))) env' e u has uses)
          (λ x p. given_keeps r l.forks (were (live_locals (Some name) f.rest)) (frames_count (Some name) (f ∷ fs)) x
          (set s (at_work l (f ∷ fs)) name x)
          (give_own l (f ∷ fs) (Some name) (Some u) x none waits (λ q i. absurd (p q i)))
          (λ q. let e = plain_hit x q p in omega (arith, e)))
      right_side_keeps name (called at p args) u has uses waits =
          answers r l (f ∷ fs) none (were (λ n. or (among n args) (live_locals (Some name) f.rest n)))
          (λ xs. FitAll has.0.params xs
          × ((q : Path)
          → hits xs q + count (live_locals (Some name) f.rest) f.locals q
          ≤ count (λ n. or (among n args) (live_locals (Some name) f.rest n)) f.locals q))
          (evals s (at_work l (f ∷ fs)) args) (calls s r (at_work l (f ∷ fs)) (Some name) p.text)
          (args_keep p args (live_locals (Some name) f.rest) has.0 has.1 uses)
          (λ xs ok.
          calls_keep r l (f ∷ fs) none (were (λ n. or (among n args) (live_locals (Some name) f.rest n))) (Some name)
          p.text has.0 xs has.1.0 ok.0.0 (subst (λ y. FramesOwn (names s) (Some name) y (f ∷ fs)) (sym has.2) waits)
          (λ q. let a = ok.1 q in omega (arith, a)))
      right_side_keeps name (t.forked at p args) u has uses waits =
          answers r l (f ∷ fs) none (were (λ n. or (among n args) (live_locals (Some name) f.rest n)))
          (λ xs. FitAll has.1.0.params xs
          × ((q : Path)
          → hits xs q + count (live_locals (Some name) f.rest) f.locals q
          ≤ count (λ n. or (among n args) (live_locals (Some name) f.rest n)) f.locals q))
          (evals s (at_work l (f ∷ fs)) args) (spec.forks s r (at_work l (f ∷ fs)) (Some name) p.text)
          (args_keep p args (live_locals (Some name) f.rest) has.1.0 has.1.1 uses)
          (λ xs ok.
          forks_keep r l (f ∷ fs) none (were (λ n. or (among n args) (live_locals (Some name) f.rest n))) (Some name)
          p.text has.1.0 xs has.1.1.0 ok.0.0
          (subst (λ y. FramesOwn (names s) (Some name) (Some y) (f ∷ fs)) has.0 waits)
          (λ q. let a = ok.1 q in omega (arith, a)))
      right_side_keeps name (tried at handle) u has uses waits =
          answers r l (f ∷ fs) none (were (λ n. or (names_it n handle) (live_locals (Some name) f.rest n)))
          (λ x. OfRev k.Rev x
          × ((q : Path)
          → hit x q + count (live_locals (Some name) f.rest) f.locals q
          ≤ count (λ n. or (names_it n handle) (live_locals (Some name) f.rest n)) f.locals q))
          (eval s (at_work l (f ∷ fs)) handle) (joins r (at_work l (f ∷ fs)) (Some name))
          (use_keep handle k.Rev (live_locals (Some name) f.rest) has.1 uses)
          (λ x ok. joins_keep r l (f ∷ fs) none (were (λ n. or (names_it n handle) (live_locals (Some name) f.rest n)))
          (Some name) x (subst (λ y. FramesOwn (names s) (Some name) (Some y) (f ∷ fs)) has.0 waits)
          (λ q. let a = ok.1 q in omega (arith, a)))

      enters : (block : Statements) (before : Name → Bool) (P : Bool)
          → (P ≡ true → RestOnce (names s) result known f.rest)
          → Entered result known (λ n. live n f.rest false) before P block
          → Keeps r l.forks (were before) (Moves (enter block (at_work l (f ∷ fs))))
      enters block before P rest ok = (
        record {
          locations = none;
          frames = (
            known,
            result,
            tt,
            record {
              locals = locals;
              rest = block_once (names s) result known known block f.rest ok.block_uses (within_self known)
                  (λ q. rest (ok.through q));
            },
            under,
          );
        },
        λ q. were_sub (λ n. live n (append block f.rest) false) before q
            (λ n e. ok.less n (sym (live_append n block f.rest false) ∙ e)),
      )

      chooses : (P : Bool) → (P ≡ true → RestOnce (names s) result known f.rest) → (arms : Arms) (last : Statements)
          → ArmsOnce (names s) result known arms (λ n. live n f.rest false)
          → StatementsOnce (names s) result known last (λ n. live n f.rest false) → (arms_pass arms ≡ true → P ≡ true)
          → (passes last ≡ true → P ≡ true)
          → Keeps r l.forks (were (λ n. live_arms n arms (live n last (live n f.rest false)) (live n f.rest false)))
          (with_answer r (at_work l (f ∷ fs)) (select s (at_work l (f ∷ fs)) arms last)
          (λ block. Moves (enter block (at_work l (f ∷ fs)))))
      chooses P rest arms last all end through by_last =
          let before : Name → Bool = λ n. live_arms n arms (live n last (live n f.rest false)) (live n f.rest false) in
          answers r l (f ∷ fs) none (were before) (Entered result known (λ n. live n f.rest false) before P)
          (select s (at_work l (f ∷ fs)) arms last) (λ block. Moves (enter block (at_work l (f ∷ fs))))
          (select_once (at_work l (f ∷ fs)) result known (λ n. live n f.rest false) P arms last all end through by_last)
          (λ block ok. enters block before P rest ok)

      -- with what remains in scope behind it
      module _ (rest : RestOnce (names s) result known f.rest) where
        frames : FramesOwn (names s) None None (f ∷ fs)
        frames = (known, result, tt, record { locals = locals; rest = rest }, under)

        same_frames : (B : Path → ℕ) (l' : Local) → NoHandles l'.locations → l'.frames ≡ f ∷ fs → l'.phase ≡ running
            → ((q : Path) → were (live_locals None f.rest) q ≤ B q) → Keeps r l.forks B (Moves l')
        same_frames B l' ok is run less = (
          run_owned l' ok run (subst (λ z. FramesOwn (names s) None None z) (sym is) frames),
          λ q.
              let a = less q in
              let e = run_count l' q run in
              let g : frames_count None l'.frames q ≡ were (live_locals None f.rest) q =
              ap (λ z. frames_count None z q) is in
              omega (arith, a, e, g),
        )

        cell_keeps : (a : PlacedName) (index e : Expression) (u : ValueKind)
            → ArrayHas (find a.text known) ((names s).shared a.text) u → HasKind (names s) known e u
            → NotStored (names s) a
            → Keeps r l.forks (were (live_locals None f.rest))
            (with_answer r (at_work l (f ∷ fs))
            (and_then (eval s (at_work l (f ∷ fs)) index) (λ i. cell_location s a.text (number_of i)))
            (λ n. with_answer r (at_work l (f ∷ fs)) (eval s (at_work l (f ∷ fs)) e)
            (λ x. Moves (record l { locations = write_at l.locations n x; phase = running; frames = f ∷ fs }))))
        cell_keeps a index e u cells has never =
            answers r l (f ∷ fs) none (were (live_locals None f.rest)) Any
            (and_then (eval s (at_work l (f ∷ fs)) index) (λ i. cell_location s a.text (number_of i)))
            (λ n. with_answer r (at_work l (f ∷ fs)) (eval s (at_work l (f ∷ fs)) e)
            (λ x. Moves (record l { locations = write_at l.locations n x; phase = running; frames = f ∷ fs })))
            (any_ok (and_then (eval s (at_work l (f ∷ fs)) index) (λ i. cell_location s a.text (number_of i))))
            (λ n any.
            answers r l (f ∷ fs) none (were (live_locals None f.rest)) (OfRev u) (eval s (at_work l (f ∷ fs)) e)
            (λ x. Moves (record l { locations = write_at l.locations n x; phase = running; frames = f ∷ fs }))
            (expression_rev (names s) known (funs_of (funs_in s.program)) (env s (at_work l (f ∷ fs))) env' e u has)
            (λ x rev.
            same_frames (were (live_locals None f.rest))
            (record l { locations = write_at l.locations n x; phase = running; frames = f ∷ fs })
            (λ q i. by n x rev q (write_held l.locations n x q i)) refl refl
            (λ q. le_refl (were (live_locals None f.rest) q))))
          where
            by : (n : ℕ) (x : Value) → OfRev u x → (q : Path) → LocationsHold l.locations q ⊎ IsHandle x q → ⊥
            by n x rev q (inl i) = none q i
            by n x rev q (inr i) = array_kind (find a.text known) ((names s).shared a.text) u cells never (rev q i)

      returns_value : (e : Expression) → ReturnTyped (names s) known result (Some e) → PickFree known e
          → Keeps r l.forks (were (λ n. names_it n e))
          (with_answer r (at_work l (f ∷ fs)) (eval s (at_work l (f ∷ fs)) e)
          (λ x. Moves (end_frame s (at_work l (f ∷ fs)) (f ∷ fs) (Some x))))
      returns_value e has free = by result has under
        where
          some_rev : (u : ValueKind) (x : Value) → OfRev u x → (q : Path) → IsHandle x q → Some u ≡ Some k.Rev
          some_rev u x rev q i = ap Some (rev q i)

          by : (o : Option ValueKind) → ReturnTyped (names s) known o (Some e) → FramesOwn (names s) f.left o fs
              → Keeps r l.forks (were (λ n. names_it n e))
              (with_answer r (at_work l (f ∷ fs)) (eval s (at_work l (f ∷ fs)) e)
              (λ x. Moves (end_frame s (at_work l (f ∷ fs)) (f ∷ fs) (Some x))))
          by None has' below = absurd has'
          by (Some u) has' below =
              answers r l (f ∷ fs) none (were (λ n. names_it n e))
              (λ x. OfRev u x
              × ((p : Path)
              → hit x p + count (λ n. false) f.locals p ≤ count (λ n. or (names_it n e) false) f.locals p))
              (eval s (at_work l (f ∷ fs)) e) (λ x. Moves (end_frame s (at_work l (f ∷ fs)) (f ∷ fs) (Some x)))
              (use_keep e u (λ n. false) has' (free, name_false known e))
              (λ x ok. gives_back r l fs none (were (λ n. names_it n e)) f.left (Some u) x f refl below
              (some_rev u x ok.0)
              (λ q.
              let a = ok.1 q in
              let b = count_sub (λ n. or (names_it n e) false) (λ n. names_it n e) f.locals q
              (λ n. or_false (names_it n e)) in
              omega (arith, a, b)))
            where
              or_false : (a : Bool) → or a false ≡ true → a ≡ true
              or_false true h = refl
              or_false false h = h

    -- a statement whose effect this is, where what remains is that of the top frame
    does_keeps : (known after : Locals) (x : Statement) → LocalsRev (names s) known None f.locals
        → StatementTyped (names s) result known x after
        → StatementOnce (names s) result known x (λ n. live n f.rest false)
        → (statement_passes x ≡ true → RestOnce (names s) result after f.rest)
        → Keeps r l.forks (were (λ n. live_statement n x (live n f.rest false))) (does s r (at_work l (f ∷ fs)) x)
    does_keeps known after (statement at line (bind w right)) locals has uses later =
        right_side_keeps known locals w.text right has.1.0 has.1.1 uses (
          added known w.text (Some has.1.0),
          result,
          let_fits (names s) known w has.1.0 has.0,
          record {
            locals = locals_let (names s) known w has.1.0 f.locals has.0 locals;
            rest = subst (λ m. RestOnce (names s) result m f.rest) has.1.2 (later refl);
          },
          under,
        )
    does_keeps known after (statement at line (assign w right)) locals has uses later =
        right_side_keeps known locals w.text right has.0.0 has.0.2 uses.1 (
          known,
          result,
          (has.0.1, uses.0),
          record {
            locals = locals_wait (names s) known (Some w.text) f.locals locals;
            rest = subst (λ m. RestOnce (names s) result m f.rest) has.1 (later refl);
          },
          under,
        )
    does_keeps known after (statement at line (assign_cell a index e)) locals has uses later =
        cell_keeps known locals (subst (λ m. RestOnce (names s) result m f.rest) has.1 (later refl)) a index e has.0.0
        has.0.1 has.0.3 uses
    does_keeps known after (statement at line (choose arms)) locals has uses later =
        chooses known locals true (λ e. subst (λ m. RestOnce (names s) result m f.rest) has.1 (later refl)) arms
        no_statements uses tt (λ e. refl) (λ e. refl)
    does_keeps known after (statement at line (choose_or arms last)) locals has uses later =
        chooses known locals (or (arms_pass arms) (passes last))
        (λ e. subst (λ m. RestOnce (names s) result m f.rest) has.1 (later e)) arms last uses.0 uses.1
        (or_left (arms_pass arms) (passes last)) (or_right (arms_pass arms) (passes last))
    does_keeps known after (statement at line (repeat test body)) locals has uses later =
        let behind : RestOnce (names s) result known f.rest =
        subst (λ m. RestOnce (names s) result m f.rest) has.1 (later refl) in
        let x : Statement = statement at line (repeat test body) in
        let B : Path → ℕ = were (λ n. or (live n body false) (live n f.rest false)) in
        let m : Local = at_work l (f ∷ fs) in
        answers r l (f ∷ fs) none B Any (eval s m test)
        (λ y. Moves (if truth_of y then enter body (enter (statements x no_statements) m) else m))
        (any_ok (eval s m test))
        (λ y any.
        either (λ z. Keeps r l.forks B (Moves z)) (truth_of y) (enter body (enter (statements x no_statements) m)) m
        (turns known x body locals has uses behind)
        (same_frames known locals behind B m none refl refl
        (λ q. were_sub (λ n. live n f.rest false) (λ n. or (live n body false) (live n f.rest false)) q
        (λ n. or_right (live n body false) (live n f.rest false)))))
      where
        turns : (known : Locals) (x : Statement) (body : Statements) → LocalsRev (names s) known None f.locals
            → StatementTyped (names s) result known (statement at line (repeat test body)) after
            → StatementsOnce (names s) result known body (λ n. or (live n body false) (live n f.rest false))
            → RestOnce (names s) result known f.rest
            → Keeps r l.forks (were (λ n. or (live n body false) (live n f.rest false)))
            (Moves
            (enter body (enter (statements (statement at line (repeat test body)) no_statements) (at_work l (f ∷ fs)))))
        turns known x body locals has uses behind = (
          record {
            locations = none;
            frames = (
              known,
              result,
              tt,
              record {
                locals = locals;
                rest = block_once (names s) result known known body
                    (statements (statement at line (repeat test body)) f.rest) uses (within_self known)
                    (λ q. (known, known, within_self known, (has.0, refl), uses, λ p. behind));
              },
              under,
            );
          },
          λ q. were_sub (λ n. live n (append body (statements (statement at line (repeat test body)) f.rest)) false)
              (λ n. or (live n body false) (live n f.rest false)) q
              (λ n e. live_turn n body (live n f.rest false)
              (sym (live_append n body (statements (statement at line (repeat test body)) f.rest) false) ∙ e)),
        )
    does_keeps known after (statement at line (call p args)) locals has uses later =
        let B : Path → ℕ = were (λ n. or (among n args) (live n f.rest false)) in
        answers r l (f ∷ fs) none B
        (λ xs. FitAll has.0.0.params xs
        × ((q : Path)
        → hits xs q + count (live_locals None f.rest) f.locals q
        ≤ count (λ n. or (among n args) (live n f.rest false)) f.locals q))
        (evals s (at_work l (f ∷ fs)) args) (calls s r (at_work l (f ∷ fs)) None p.text)
        (args_keep known locals p args (live_locals None f.rest) has.0.0 has.0.1 uses)
        (λ xs ok.
        calls_keep r l (f ∷ fs) none B None p.text has.0.0 xs has.0.1.0 ok.0.0
        (frames known locals (subst (λ m. RestOnce (names s) result m f.rest) has.1 (later refl)))
        (λ q. let a = ok.1 q in omega (arith, a)))
    does_keeps known after (statement at line (return None)) locals has uses later = by result has.0 under
      where
        B : Path → ℕ
        B q = were (λ n. false) q

        by : (o : Option ValueKind) → ReturnTyped (names s) known o None → FramesOwn (names s) f.left o fs
            → Keeps r l.forks (were (λ n. false)) (Moves (end_frame s (at_work l (f ∷ fs)) (f ∷ fs) None))
        by (Some u) no_value below = absurd no_value
        by None no_value below =
            gives_none r l fs none (were (λ n. false)) f None (none_left f.left fs below) below (λ q. omega arith)
          where
            none_left : (left : Option Name) (fs : List Frame) → FramesOwn (names s) left None fs → left ≡ None
            none_left left [] are = are
            none_left None (g ∷ gs) are = refl
            none_left (Some name) (g ∷ gs) are = absurd are.2
    does_keeps known after (statement at line (return (Some e))) locals has uses later =
        returns_value known locals e has.0 uses
    does_keeps known after (statement at line (fork p args)) locals has uses later =
        let B : Path → ℕ = were (λ n. or (among n args) (live n f.rest false)) in
        answers r l (f ∷ fs) none B
        (λ xs. FitAll has.0.0.params xs
        × ((q : Path)
        → hits xs q + count (live_locals None f.rest) f.locals q
        ≤ count (λ n. or (among n args) (live n f.rest false)) f.locals q))
        (evals s (at_work l (f ∷ fs)) args) (spec.forks s r (at_work l (f ∷ fs)) None p.text)
        (args_keep known locals p args (live_locals None f.rest) has.0.0 has.0.1 uses)
        (λ xs ok.
        forks_keep r l (f ∷ fs) none B None p.text has.0.0 xs has.0.1.0 ok.0.0
        (frames known locals (subst (λ m. RestOnce (names s) result m f.rest) has.1 (later refl)))
        (λ q. let a = ok.1 q in omega (arith, a)))
    does_keeps known after (statement at line (join handle)) locals has uses later =
        let B : Path → ℕ = were (λ n. or (names_it n handle) (live n f.rest false)) in
        answers r l (f ∷ fs) none B
        (λ x. OfRev k.Rev x
        × ((q : Path)
        → hit x q + count (live_locals None f.rest) f.locals q
        ≤ count (λ n. or (names_it n handle) (live n f.rest false)) f.locals q))
        (eval s (at_work l (f ∷ fs)) handle) (joins r (at_work l (f ∷ fs)) None)
        (use_keep known locals handle k.Rev (live_locals None f.rest) has.0 uses)
        (λ x ok. joins_keep r l (f ∷ fs) none B None x
        (frames known locals (subst (λ m. RestOnce (names s) result m f.rest) has.1 (later refl)))
        (λ q. let a = ok.1 q in omega (arith, a)))
    does_keeps known after (statement at line (print items)) locals has uses later =
        let m : Local = at_work l (f ∷ fs) in
        answers r l (f ∷ fs) none (were (live_locals None f.rest)) Any (item_texts s m items)
        (λ xs. Moves (record m { text = m.text ++ line_of xs })) (any_ok (item_texts s m items))
        (λ xs any.
        same_frames known locals (subst (λ m. RestOnce (names s) result m f.rest) has.1 (later refl))
        (were (live_locals None f.rest)) (record m { text = m.text ++ line_of xs }) none refl refl
        (λ q. le_refl (were (live_locals None f.rest) q)))
    does_keeps known after (statement at line (assert test)) locals has uses later =
        let m : Local = at_work l (f ∷ fs) in
        answers r l (f ∷ fs) none (were (live_locals None f.rest)) Any (eval s m test)
        (λ y. if truth_of y then Moves m else traps r m cause.Assert) (any_ok (eval s m test))
        (λ y any.
        either (Keeps r l.forks (were (live_locals None f.rest))) (truth_of y) (Moves m) (traps r m cause.Assert)
        (same_frames known locals (subst (λ m. RestOnce (names s) result m f.rest) has.1 (later refl))
        (were (live_locals None f.rest)) m none refl refl (λ q. le_refl (were (live_locals None f.rest) q)))
        (traps_keep r l.forks (were (live_locals None f.rest)) m cause.Assert none))

  -- ---- a step

  -- no left side waits for the value of a frame that ends without one
  no_left : (left : Option Name) (o : Option ValueKind) (fs : List Frame) → Returns o no_statements
      → FramesAre (names s) left o fs → left ≡ None
  no_left left o [] ends are = are
  no_left None o (g ∷ gs) ends are = refl
  no_left (Some name) None (g ∷ gs) ends are = absurd are.2
  no_left (Some name) (Some u) (g ∷ gs) ends are = absurd (none_end ends)

  rest_keeps : (r : Path) (l : Local) (f : Frame) (fs : List Frame) (rest : Statements)
      → IsKinded s r (at_work l (record f { rest = rest } ∷ fs)) → IsOwned s (at_work l (record f { rest = rest } ∷ fs))
      → Keeps r l.forks (owned (at_work l (record f { rest = rest } ∷ fs)))
      (by_rest s r (at_work l (record f { rest = rest } ∷ fs)) (record f { rest = rest }) fs rest)
  rest_keeps r l f fs no_statements kinded own =
      gives_none r l fs own.locations (frames_count None (record f { rest = no_statements } ∷ fs))
      (record f { rest = no_statements }) own.frames.1
      (no_left f.left kinded.frames.1 fs kinded.frames.4 kinded.frames.5) own.frames.4 (λ q. omega arith)
  rest_keeps r l f fs (statements (statement at line form) rest) kinded own = by l.fuel
    where
      m : Local
      m = at_work l (record f { rest = statements (statement at line form) rest } ∷ fs)

      by : (fuel : ℕ)
          → Keeps r l.forks (owned m)
          (begins s r m fuel (record f { rest = statements (statement at line form) rest }) fs (statement at line form)
          rest)
      by zero = traps_keep r l.forks (owned m) (record m { line = line }) cause.Spent own.locations
      by (suc fuel) =
          does_keeps r (record l { fuel = fuel; line = line }) (record f { rest = rest }) fs own.locations own.frames.1
          own.frames.4 own.frames.3.rest.0 own.frames.3.rest.1 (statement at line form)
          (locals_within (names s) own.frames.3.rest.0 own.frames.0 f.locals own.frames.3.rest.2 own.frames.3.locals)
          own.frames.3.rest.3 own.frames.3.rest.4 own.frames.3.rest.5

  pub next_keeps : (r : Path) (l : Local) → IsKinded s r l → IsOwned s l → Keeps r l.forks (owned l) (next s r l)
  next_keeps r l = by l.phase
    where
      at_frames : (fs : List Frame) → IsKinded s r (at_work l fs) → IsOwned s (at_work l fs)
          → Keeps r l.forks (owned (at_work l fs)) (by_frames s r (at_work l fs) fs)
      at_frames [] kinded own = finish_keeps r l.forks (owned (at_work l [])) (at_work l []) own.locations
      at_frames (f ∷ fs) kinded own = rest_keeps r l f fs f.rest kinded own

      by : (p : Phase) → IsKinded s r (record l { phase = p }) → IsOwned s (record l { phase = p })
          → Keeps r l.forks (owned (record l { phase = p })) (by_phase s r (record l { phase = p }) p)
      by running kinded own = at_frames l.frames kinded own
      by (joining q left) kinded own = tt
      by done kinded own = tt
      by (trapped tr) kinded own = tt
