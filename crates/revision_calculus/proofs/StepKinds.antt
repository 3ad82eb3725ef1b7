-- Each step of a well-typed program keeps the kinds of all values.
use Rattle.std.proofs.Common.{◌≡◌, ◌∙◌, ℕ, zero, suc, ◌+◌, ℤ, pos, negsuc, Bool, true, false, cond, ◌&&◌, IsTrue, List, [], ◌∷◌, ◌++◌, length, Option, Some, None, Result, Ok, Err, IfOk, refl, sym, ap, subst, arith, true≢false}
use Rattle.std.specs.Prelude.{nat_le, nat_lt, if◌then◌else◌}
use Rattle.std.proofs.lemmas.Bool.{ltb-true}
use Rattle.rev_num.specs.Path.{Path, child}
use Rattle.rev_num.specs.declared.value.Value.{Value}
use Rattle.rev_num.specs.declared.value.Value.TheVariants as v
use Rattle.rev_num.specs.declared.value.ValueKind.{ValueKind}
use Rattle.rev_num.specs.declared.value.ValueKind.TheVariants as k
use Rattle.rev_num.specs.declared.outcome.Cause.{Cause}
use Rattle.rev_num.specs.declared.outcome.Cause.TheVariants as cause
use Rattle.rev_num.specs.declared.outcome.Trap.{Trap}
use Rattle.rev_syntax.specs.Trees.{PlacedName, Parameter, Expression, Expressions, RightSide, plain, called, tried, Statement, statement, bind, assign, assign_cell, choose, choose_or, repeat, call, return, fork, join, print, assert, Statements, no_statements, statements, Arms, no_arms, arm}
use Rattle.rev_syntax.specs.Trees as t
use Rattle.rev_syntax.specs.Small.{name_formed, expression_small, expressions_small, right_side_small, statement_small, statements_small, arms_small}
use Rattle.revision_machine.specs.Machine.{Event, Moves, Forks, Joins, Ended, Global, Twice, Live}
use Rattle.revision_machine.specs.Laws.{local_of, Everywhere}
use Rattle.revision_machine.proofs.KeptByEvents.{kept_law}
use Rattle.revision_machine.specs.Conditions.{IsKept}
use Rattle.name_tables.specs.Names.{Name}
use Rattle.name_tables.specs.Table.{find, added}
use Rattle.typed_programs.specs.FunRules.{count, expression_uses, expressions_uses}
use Rattle.typed_programs.specs.Value.{Answer, and_then, truth_of, number_of, array, funs_of}
use Rattle.typed_programs.specs.Definitions.{funs_in}
use Rattle.typed_programs.specs.declared.names.Holder.{Holder}
use Rattle.typed_programs.specs.Kinds.{Callee, Locals}
use Rattle.typed_programs.specs.Typing.{ScalarHas, ArrayHas, HasKind, ArgsHave}
use Rattle.typed_programs.proofs.Lists.{and_parts}
use Rattle.typed_programs.specs.Scopes.{within, shared_named, proc_named, with_params}
use Rattle.typed_programs.specs.Statements.{statement_returns, statements_return, arms_return}
use Rattle.typed_programs.specs.Judgement.{CallTyped, RightSideHas, ReturnTyped, StatementTyped, StatementsTyped, ArmsTyped, Returns, ProgramTyped}
use Rattle.typed_programs.proofs.Applying.{small_formed}
use Rattle.typed_programs.specs.Layout.{SharedVariable, variables, procedures, Procedure}
use Rattle.revision_calculus.specs.Program.{variable_named, procedure_named, Setting}
use Rattle.revision_calculus.specs.State.{Location, write_at, Frame, Phase, running, joining, done, trapped, Local}
use Rattle.revision_calculus.specs.Evaluation.{top_locals, env, eval, evals, on_top, set_local, set_named, set, give, location_of, cell_location}
use Rattle.revision_calculus.specs.Step as spec
use Rattle.revision_calculus.specs.Step.{traps, with_answer, enter, append, select, most_frames, frame_of, calls, finish, end_frame, forker, new_child, joins, item_texts, line_of, by_right, does, begins, by_rest, by_frames, by_phase, next}
use Rattle.revision_calculus.specs.Join as joining_spec
use Rattle.revision_calculus.specs.Join.{merges_of, Composition, merged, faults, compose, absorb, inherit, join_in, left_side, note}
use Rattle.revision_calculus.specs.Calculus.{main, calculus}
use Rattle.revision_calculus.specs.Kinded.{IsAccepted, JoinLaw, MergesIn, IsOf, IsSomeOf, location_kinds, LocationsAre, LocalsAre, RestTyped, FrameIs, Takes, FramesAre, FramesTrapped, FramesAt, names, IsKinded, ValueLaw}
use Rattle.revision_calculus.proofs.Values.{OfOk, then_ok}
use Rattle.revision_calculus.proofs.Events.{Any, any_ok, joins_phase}
use Rattle.revision_calculus.proofs.ValueKinds.{either, and_both, expressions_small_formed, EnvIs, ArgsAre, value_is, values_is}
use Rattle.revision_calculus.proofs.FunKinds.{rules_kept, funs_apply}
use Rattle.revision_calculus.proofs.MergeCauses.{merge_law}
use Rattle.revision_calculus.proofs.LocationKinds.{IsAt, shared_is, write_is, fresh_is, Located, located, start_is, MergesFit, merges_fit, compose_is, merge_locations}
use Rattle.revision_calculus.proofs.ScopeKinds.{within_self, whole_typed, block_typed, block_small, returns_behind, returns_block, returns_before, shared_new, locals_wait, locals_within, locals_let, let_takes, locals_set, locals_shared, ProcIs, proc_is, call_frame, none_waits, are_trapped}
use Rattle.typed_programs.proofs.Returning.{none_end, both_true}

if_ok : (P : Value → Type 0) (a : Answer) → OfOk P a → IfOk a P
if_ok P (Ok x) h = h
if_ok P (Err c) h = tt

module _ (s : Setting) (well : IsAccepted s.program) where
  program : ProgramTyped s.program
  program = rules_kept s.program well

  place : (name : Name)
      → Located (location_kinds s) (variable_named (variables s.program) name)
      (shared_named s.program.declarations name)
  place name = located [] s.program.declarations name

  env_is : (l : Local) (f : Frame) (fs : List Frame) (scope : Locals) → LocationsAre (location_kinds s) l.locations
      → l.frames ≡ f ∷ fs → LocalsAre (names s) scope None f.locals → EnvIs (names s) scope (env s l)
  env_is l f fs scope locations top are = record {
    local = λ name u h. subst (λ x. IsSomeOf u (find name (top_locals x))) (sym top) (are.kinds name u (λ e. cc) h);
    shared = λ name h none e. (
      ap (λ x. find name (top_locals x)) top ∙ (are.apart name h e).1,
      shared_is (location_kinds s) l.locations (variable_named (variables s.program) name)
          (shared_named s.program.declarations name) h locations (place name) e,
    );
  }

  -- an expression that is typed has a value of its kind
  eval_is : (l : Local) (scope : Locals) (e : Expression) (u : ValueKind) → EnvIs (names s) scope (env s l)
      → IsTrue (expression_small e) → HasKind (names s) scope e u → OfOk (IsOf u) (eval s l e)
  eval_is l scope e u is small has =
      value_is (names s) scope (funs_of (funs_in s.program)) (env s l) is 0 e u
      (funs_apply s.program well 0 (expression_uses 0 e)) (small_formed e small) has

  evals_are : (l : Local) (scope : Locals) (es : Expressions) (ps : List Parameter) → EnvIs (names s) scope (env s l)
      → IsTrue (expressions_small es) → count es ≡ length ps → ArgsHave (names s) scope ps 0 es
      → OfOk (ArgsAre ps) (evals s l es)
  evals_are l scope es ps is small same has =
      values_is (names s) scope (funs_of (funs_in s.program)) (env s l) is 0 es ps
      (funs_apply s.program well 0 (expressions_uses 0 es)) (expressions_small_formed es small) same has

  pub value_law : ValueLaw s
  value_law l f fs scope known e u locations top are inside formed has =
      if_ok (IsOf u) (eval s l e)
      (value_is (names s) known (funs_of (funs_in s.program)) (env s l)
      (env_is l f fs known locations top (locals_within (names s) known scope f.locals inside are)) 0 e u
      (funs_apply s.program well 0 (expression_uses 0 e)) formed has)

  -- the left side that waits has a value, and nothing else changed
  record Given (l l' : Local) : Type 0 where
    locations : LocationsAre (location_kinds s) l'.locations
    frames : FramesAre (names s) None None l'.frames
    phase : l'.phase ≡ l.phase

  -- an assignment to a shared scalar
  set_shared : (l : Local) (f : Frame) (fs : List Frame) (name : Name) (u : ValueKind) (x : Value) (h : Holder)
      (o : Option SharedVariable)
      → LocationsAre (location_kinds s) l.locations → l.frames ≡ f ∷ fs
      → FramesAre (names s) (Some name) (Some u) (f ∷ fs)
      → (names s).shared name ≡ Some h → (h.array ≡ false) × (h.kind ≡ u) → Located (location_kinds s) o (Some h)
      → IsOf u x → Given l (set_named o l name x)
  set_shared l f fs name u x h None locations top are e has at is = absurd at
  set_shared l f fs name u x h (Some y) locations top are e has at is = record {
    locations = write_is (location_kinds s) l.locations y.info.base u x locations
        (subst (λ w. IsAt (location_kinds s) y.info.base w) has.1
        (subst (λ n. IsAt (location_kinds s) n h.kind) here first))
        is;
    frames = subst (λ z. FramesAre (names s) None None z) (sym top) (
      are.0,
      are.1,
      tt,
      record {
        locals = locals_shared (names s) are.0 name h f.locals are.3.locals e;
        rest = are.3.rest;
        small = are.3.small;
      },
      are.4,
      are.5,
    );
    phase = refl;
  }
    where
      first : IsAt (location_kinds s) (y.info.base + 0) h.kind
      first = let one : y.info.cells ≡ 1 = at.1 has.0 in at.2 0 (omega arith)

      here : y.info.base + 0 ≡ y.info.base
      here = omega arith

  -- an assignment to a local
  set_own : (l : Local) (f : Frame) (fs : List Frame) (name : Name) (u : ValueKind) (x : Value)
      (o : Option SharedVariable)
      → LocationsAre (location_kinds s) l.locations → l.frames ≡ f ∷ fs
      → (are : FramesAre (names s) (Some name) (Some u) (f ∷ fs))
      → find name are.0 ≡ Some (Some u) → Located (location_kinds s) o None → IsOf u x → Given l (set_named o l name x)
  set_own l f fs name u x (Some y) locations top are found at is = absurd at
  set_own l f fs name u x None locations top are found at is = record {
    locations = locations;
    frames = subst (λ z. FramesAre (names s) None None (on_top (λ g. set_local g name x) z)) (sym top) (
      are.0,
      are.1,
      tt,
      record {
        locals = locals_set (names s) are.0 name u x f.locals are.3.locals found is;
        rest = are.3.rest;
        small = are.3.small;
      },
      are.4,
      are.5,
    );
    phase = refl;
  }

  set_is : (l : Local) (fs : List Frame) (name : Name) (u : ValueKind) (x : Value)
      → LocationsAre (location_kinds s) l.locations → l.frames ≡ fs → FramesAre (names s) (Some name) (Some u) fs
      → IsOf u x → Given l (set s l name x)
  set_is l [] name u x locations top are is = cc
  set_is l (f ∷ fs) name u x locations top are is =
      by (find name are.0) refl (shared_named s.program.declarations name) refl are.2
    where
      by : (o : Option (Option ValueKind)) → find name are.0 ≡ o → (h : Option Holder)
          → shared_named s.program.declarations name ≡ h → ScalarHas o h u → Given l (set s l name x)
      by (Some found) p h q has =
          set_own l f fs name u x (variable_named (variables s.program) name) locations top are (p ∙ ap Some has)
          (subst (λ g. Located (location_kinds s) (variable_named (variables s.program) name) g)
          (shared_new (names s) are.0 (Some name) f.locals name found are.3.locals p) (place name))
          is
      by None p (Some h) q has =
          set_shared l f fs name u x h (variable_named (variables s.program) name) locations top are q has
          (subst (λ g. Located (location_kinds s) (variable_named (variables s.program) name) g) q (place name)) is
      by None p None q has = absurd has

  give_is : (l : Local) (left : Option Name) (u : ValueKind) (x : Value) → LocationsAre (location_kinds s) l.locations
      → FramesAre (names s) left (Some u) l.frames → IsOf u x → Given l (give s l left (Some x))
  give_is l None u x locations are is =
      record { locations = locations; frames = none_waits (names s) (Some u) None l.frames are; phase = refl }
  give_is l (Some name) u x locations are is = set_is l l.frames name u x locations refl are is

  -- in a running revision
  given_kinded : (r : Path) (l l' : Local) → l.phase ≡ running → Given l l' → IsKinded s r l'
  given_kinded r l l' run g = record {
    locations = g.locations;
    frames = subst (λ p. FramesAt (names s) p l'.frames) (sym (g.phase ∙ run)) g.frames;
  }

  -- ---- events

  -- what is said of the states that an event makes
  abbrev Kinded : Path → Local → Event Local → Type 0
  Kinded r l (Moves l') = IsKinded s r l'
  Kinded r l (Forks l' c) = IsKinded s r l' × IsKinded s (child r l.forks) c
  Kinded r l (Joins q) = Unit {0}
  Kinded r l Ended = Unit {0}

  finished_is : (r : Path) (l : Local) → LocationsAre (location_kinds s) l.locations → IsKinded s r (finish l)
  finished_is r l locations = record { locations = locations; frames = refl }

  -- the procedure that is called
  callee_is : (name : Name) (q : Callee) → proc_named s.program.declarations name ≡ Some q
      → ProcIs (names s) q (procedure_named (procedures s.program) name)
  callee_is name q e =
      proc_is (names s) (within s.program.declarations) [] 0 s.program.declarations name q program.declarations
      well.small.declarations e

  -- a statement that was paid for, where it traps as the frames are
  module _ (r : Path) (l : Local) (locations : LocationsAre (location_kinds s) l.locations) (run : l.phase ≡ running)
      (halted : FramesTrapped (names s) l.frames) where
    traps_are : (c : Cause) → Kinded r l (traps r l c)
    traps_are c = record { locations = locations; frames = halted }

    answer_are : {A : Type 0} (P : A → Type 0) (a : Result A Cause) (go : A → Event Local) → OfOk P a
        → ((x : A) → P x → Kinded r l (go x)) → Kinded r l (with_answer r l a go)
    answer_are P (Ok x) go p is = is x p
    answer_are P (Err c) go p is = traps_are c

    -- the same frames go on
    goes_on : (l' : Local) → LocationsAre (location_kinds s) l'.locations → FramesAre (names s) None None l'.frames
        → l'.phase ≡ l.phase → IsKinded s r l'
    goes_on l' are frames same = given_kinded r l l' run (record { locations = are; frames = frames; phase = same })

    calls_are : (left : Option Name) (name : Name) (q : Callee) (args : List Value)
        → proc_named s.program.declarations name ≡ Some q → ArgsAre q.params args
        → FramesAre (names s) left q.result l.frames → Kinded r l (calls s r l left name args)
    calls_are left name q args e are frames =
        let d = procedure_named (procedures s.program) name in
        let is = callee_is name q e in
        let l' : Local = record l { frames = frame_of d args left ∷ l.frames } in
        either (Kinded r l) (nat_le most_frames (length l.frames)) (traps r l cause.CallDepth) (Moves l')
        (traps_are cause.CallDepth)
        (goes_on l' locations
        (with_params [] q.params, q.result, tt, call_frame (names s) q d args left is are, is.returns, frames) refl)

    child_is : (q : Callee) (d : Procedure) (args : List Value) → ProcIs (names s) q d → ArgsAre q.params args
        → IsKinded s (child r l.forks) (new_child s l d args)
    child_is q d args is are = record {
      locations = fresh_is (location_kinds s) l.locations locations;
      frames = (with_params [] q.params, q.result, tt, call_frame (names s) q d args None is are, is.returns, refl);
    }

    forks_are : (left : Option Name) (name : Name) (q : Callee) (args : List Value)
        → proc_named s.program.declarations name ≡ Some q → ArgsAre q.params args
        → FramesAre (names s) left (Some k.Rev) l.frames → Kinded r l (spec.forks s r l left name args)
    forks_are left name q args e are frames =
        let x : Value = v.Rev (Some (child r l.forks)) in (
          given_kinded r (forker s r l) (give s (forker s r l) left (Some x)) run
              (give_is (forker s r l) left k.Rev x locations frames refl),
          child_is q (procedure_named (procedures s.program) name) args (callee_is name q e) are,
        )

    joins_are : (left : Option Name) (x : Value) → FramesAre (names s) left (Some k.Bool) l.frames
        → Kinded r l (joins r l left x)
    joins_are left (v.Rev (Some q)) frames = record { locations = locations; frames = frames }
    joins_are left (v.Rev None) frames = traps_are cause.JoinNone
    joins_are left (v.Int z) frames = traps_are cause.JoinNone
    joins_are left (v.Bool d) frames = traps_are cause.JoinNone

    -- the top frame, in which these names are in scope for the statement
    module _ (scope : Locals) (is : EnvIs (names s) scope (env s l)) where
      right_side_are : (name : Name) (right : RightSide) (u : ValueKind) → RightSideHas (names s) scope right u
          → IsTrue (right_side_small right) → FramesAre (names s) (Some name) (Some u) l.frames
          → Kinded r l (by_right s r l name right)
      right_side_are name (plain e) u has small frames =
          answer_are (IsOf u) (eval s l e) (λ x. Moves (set s l name x)) (eval_is l scope e u is small has)
          (λ x kx. given_kinded r l (set s l name x) run (give_is l (Some name) u x locations frames kx))
      right_side_are name (called at p args) u has small frames =
          let ok = (and_parts (name_formed p) (expressions_small args) small).1 in
          answer_are (ArgsAre has.0.params) (evals s l args) (calls s r l (Some name) p.text)
          (evals_are l scope args has.0.params is ok has.1.1 has.1.2)
          (λ xs ks.
          calls_are (Some name) p.text has.0 xs has.1.0 ks
          (subst (λ g. FramesAre (names s) (Some name) g l.frames) (sym has.2) frames))
      right_side_are name (t.forked at p args) u has small frames =
          let ok = (and_parts (name_formed p) (expressions_small args) small).1 in
          let q = has.1 in
          answer_are (ArgsAre q.0.params) (evals s l args) (spec.forks s r l (Some name) p.text)
          (evals_are l scope args q.0.params is ok q.1.1 q.1.2)
          (λ xs ks.
          forks_are (Some name) p.text q.0 xs q.1.0 ks
          (subst (λ g. FramesAre (names s) (Some name) (Some g) l.frames) has.0 frames))
      right_side_are name (tried at handle) u has small frames =
          answer_are (IsOf k.Rev) (eval s l handle) (joins r l (Some name))
          (eval_is l scope handle k.Rev is small has.1)
          (λ x kx. joins_are (Some name) x
          (subst (λ g. FramesAre (names s) (Some name) (Some g) l.frames) has.0 frames))

      call_are : (name : PlacedName) (args : Expressions) (q : Callee) → CallTyped (names s) scope name args q
          → IsTrue (expressions_small args) → FramesAre (names s) None None l.frames
          → Kinded r l (with_answer r l (evals s l args) (calls s r l None name.text))
      call_are name args q has small frames =
          answer_are (ArgsAre q.params) (evals s l args) (calls s r l None name.text)
          (evals_are l scope args q.params is small has.1 has.2)
          (λ xs ks. calls_are None name.text q xs has.0 ks (none_waits (names s) None q.result l.frames frames))

      fork_are : (name : PlacedName) (args : Expressions) (q : Callee) → CallTyped (names s) scope name args q
          → IsTrue (expressions_small args) → FramesAre (names s) None None l.frames
          → Kinded r l (with_answer r l (evals s l args) (spec.forks s r l None name.text))
      fork_are name args q has small frames =
          answer_are (ArgsAre q.params) (evals s l args) (spec.forks s r l None name.text)
          (evals_are l scope args q.params is small has.1 has.2)
          (λ xs ks. forks_are None name.text q xs has.0 ks (none_waits (names s) None (Some k.Rev) l.frames frames))

      join_are : (handle : Expression) → HasKind (names s) scope handle k.Rev → IsTrue (expression_small handle)
          → FramesAre (names s) None None l.frames → Kinded r l (with_answer r l (eval s l handle) (joins r l None))
      join_are handle has small frames =
          answer_are (IsOf k.Rev) (eval s l handle) (joins r l None) (eval_is l scope handle k.Rev is small has)
          (λ x kx. joins_are None x (none_waits (names s) None (Some k.Bool) l.frames frames))

  -- ---- cells

  location_is : (o : Option SharedVariable) (h : Holder) (u : ValueKind) (z : ℤ) → Located (location_kinds s) o (Some h)
      → h.kind ≡ u → OfOk (λ n. IsAt (location_kinds s) n u) (location_of o z)
  location_is None h u z at is = absurd at
  location_is (Some y) h u (negsuc i) at is = tt
  location_is (Some y) h u (pos i) at is = by (nat_lt i y.info.cells) refl
    where
      by : (d : Bool) → nat_lt i y.info.cells ≡ d
          → OfOk (λ n. IsAt (location_kinds s) n u) (cond d (Ok (y.info.base + i)) (Err cause.Index))
      by true e = subst (λ w. IsAt (location_kinds s) (y.info.base + i) w) is (at.2 i (ltb-true i y.info.cells e))
      by false e = tt

  cell_is : (scope : Locals) (name : Name) (u : ValueKind) (z : ℤ)
      → ArrayHas (find name scope) ((names s).shared name) u
      → OfOk (λ n. IsAt (location_kinds s) n u) (cell_location s name z)
  cell_is scope name u z has = by (find name scope) (shared_named s.program.declarations name) refl has
    where
      by : (o : Option (Option ValueKind)) (h : Option Holder) → shared_named s.program.declarations name ≡ h
          → ArrayHas o h u → OfOk (λ n. IsAt (location_kinds s) n u) (cell_location s name z)
      by (Some found) h q has = absurd has
      by None (Some h) q has =
          location_is (variable_named (variables s.program) name) h u z
          (subst (λ g. Located (location_kinds s) (variable_named (variables s.program) name) g) q (place name)) has.1
      by None None q has = absurd has

  -- ---- returns

  -- the frame below goes on, with no value
  none_given : (r : Path) (l : Local) (left : Option Name) (g : Frame) (gs : List Frame)
      → LocationsAre (location_kinds s) l.locations → l.phase ≡ running → FramesAre (names s) left None (g ∷ gs)
      → IsKinded s r (give s (record l { frames = g ∷ gs }) left None)
  none_given r l (Some name) g gs locations run are = absurd are.2
  none_given r l None g gs locations run are =
      given_kinded r l (record l { frames = g ∷ gs }) run (record { locations = locations; frames = are; phase = refl })

  return_none : (r : Path) (l : Local) (f : Frame) (fs : List Frame) → LocationsAre (location_kinds s) l.locations
      → l.phase ≡ running → FramesAre (names s) f.left None fs → IsKinded s r (end_frame s l (f ∷ fs) None)
  return_none r l f [] locations run are = finished_is r l locations
  return_none r l f (g ∷ gs) locations run are = none_given r l f.left g gs locations run are

  return_some : (r : Path) (l : Local) (f : Frame) (fs : List Frame) (u : ValueKind) (x : Value)
      → LocationsAre (location_kinds s) l.locations → l.phase ≡ running → FramesAre (names s) f.left (Some u) fs
      → IsOf u x
      → IsKinded s r (end_frame s l (f ∷ fs) (Some x))
  return_some r l f [] u x locations run are is = finished_is r l locations
  return_some r l f (g ∷ gs) u x locations run are is =
      given_kinded r l (give s (record l { frames = g ∷ gs }) f.left (Some x)) run
      (let given = give_is (record l { frames = g ∷ gs }) f.left u x locations are is in
      record { locations = given.locations; frames = given.frames; phase = given.phase })

  -- ---- blocks

  -- a block of a statement of which is said whether it returns
  record BlockIs (result : Option ValueKind) (scope : Locals) (returns : Bool) (block : Statements) : Type 0 where
    typed : StatementsTyped (names s) result scope block
    small : IsTrue (statements_small block)
    ends : returns ≡ true → statements_return false block ≡ true

  all_return : (before : Bool) (arms : Arms) → arms_return before arms ≡ true → before ≡ true
  all_return before no_arms h = h
  all_return true (arm test body rest) h = refl
  all_return false (arm test body rest) h = all_return false rest h

  taken_is : (l : Local) (result : Option ValueKind) (scope : Locals) (ends : Bool) (arms : Arms) (last : Statements)
      → ArmsTyped (names s) result scope arms → IsTrue (arms_small arms) → (ends ≡ true → arms_return true arms ≡ true)
      → BlockIs result scope ends last
      → OfOk (BlockIs result scope ends) (select s l arms last)
  taken_is l result scope ends no_arms last typed small all is = is
  taken_is l result scope ends (arm test body rest) last typed small all is =
      let smalls = and_parts (expression_small test && statements_small body) (arms_small rest) small in
      let later =
      taken_is l result scope ends rest last typed.2 smalls.1
      (λ e. subst (λ d. arms_return d rest ≡ true) (all_return (statements_return false body) rest (all e)) (all e))
      is in
      then_ok Any (BlockIs result scope ends) (eval s l test)
      (λ x. if truth_of x then Ok body else select s l rest last) (any_ok (eval s l test))
      (λ x any. by (truth_of x) (and_parts (expression_small test) (statements_small body) smalls.0).1 later)
    where
      by : (d : Bool) → IsTrue (statements_small body) → OfOk (BlockIs result scope ends) (select s l rest last)
          → OfOk (BlockIs result scope ends) (cond d (Ok body) (select s l rest last))
      by true ok later =
          record { typed = typed.1; small = ok; ends = λ e. all_return (statements_return false body) rest (all e) }
      by false ok later = later

  -- ---- statements

  -- a revision that runs, with its top frame and those below it
  module _ (r : Path) (l : Local) (f : Frame) (fs : List Frame)
      (locations : LocationsAre (location_kinds s) l.locations) (run : l.phase ≡ running) (top : l.frames ≡ f ∷ fs)
      (result : Option ValueKind) (under : FramesAre (names s) f.left result fs) where
    -- an assignment to a name, which waits for the value of the right side
    assigns : (known scope : Locals) (name : Name) (right : RightSide) (u : ValueKind)
        → LocalsAre (names s) known None f.locals → FrameIs (names s) result scope (Some name) f
        → Takes (names s) scope (Some name) (Some u) → Returns result f.rest
        → RightSideHas (names s) known right u → IsTrue (right_side_small right)
        → Kinded r l (by_right s r l name right)
    assigns known scope name right u locals frame takes ends has small =
        let frames : FramesAre (names s) (Some name) (Some u) l.frames =
        subst (λ z. FramesAre (names s) (Some name) (Some u) z) (sym top) (scope, result, takes, frame, ends, under) in
        right_side_are r l locations run (are_trapped (names s) (Some name) (Some u) l.frames frames) known
        (env_is l f fs known locations top locals) name right u has small frames

    -- any other statement, with these names in scope
    module _ (scope : Locals) (frame : FrameIs (names s) result scope None f) where
      reads : EnvIs (names s) scope (env s l)
      reads = env_is l f fs scope locations top frame.locals

      halted : FramesTrapped (names s) l.frames
      halted = subst (λ z. FramesTrapped (names s) z) (sym top) (scope, result, None, frame, under)

      frames : Returns result f.rest → FramesAre (names s) None None l.frames
      frames ends = subst (λ z. FramesAre (names s) None None z) (sym top) (scope, result, tt, frame, ends, under)

      answers : {A : Type 0} (P : A → Type 0) (a : Result A Cause) (go : A → Event Local) → OfOk P a
          → ((x : A) → P x → Kinded r l (go x)) → Kinded r l (with_answer r l a go)
      answers = answer_are r l locations run halted

      same_frames : (l' : Local) → LocationsAre (location_kinds s) l'.locations → l'.frames ≡ l.frames
          → l'.phase ≡ l.phase → Returns result f.rest → IsKinded s r l'
      same_frames l' are same phase ends = given_kinded r l l' run (record {
        locations = are;
        frames = subst (λ z. FramesAre (names s) None None z) (sym same) (frames ends);
        phase = phase;
      })

      enters : (block : Statements) → StatementsTyped (names s) result scope block → IsTrue (statements_small block)
          → Returns result (append block f.rest) → IsKinded s r (enter block l)
      enters block typed small ends = given_kinded r l (enter block l) run (record {
        locations = locations;
        frames = subst (λ z. FramesAre (names s) None None (on_top (λ g. record g { rest = append block g.rest }) z))
            (sym top) (scope, result, tt, entered, ends, under);
        phase = refl;
      })
        where
          entered : FrameIs (names s) result scope None (record f { rest = append block f.rest })
          entered = record {
            locals = frame.locals;
            rest = block_typed (names s) result scope scope block f.rest typed (within_self scope) frame.rest;
            small = block_small block f.rest small frame.small;
          }

      -- one of the blocks of an `if`
      chooses : (x : Statement) (arms : Arms) (last : Statements) → ArmsTyped (names s) result scope arms
          → IsTrue (arms_small arms) → (statement_returns x ≡ true → arms_return true arms ≡ true)
          → BlockIs result scope (statement_returns x) last → Returns result (statements x f.rest)
          → Kinded r l (with_answer r l (select s l arms last) (λ block. Moves (enter block l)))
      chooses x arms last typed small all is ends =
          answers (BlockIs result scope (statement_returns x)) (select s l arms last) (λ block. Moves (enter block l))
          (taken_is l result scope (statement_returns x) arms last typed small all is)
          (λ block ok. enters block ok.typed ok.small (returns_block result x block f.rest ok.ends ends))

      cell_set : (a : PlacedName) (index e : Expression) (u : ValueKind)
          → ArrayHas (find a.text scope) ((names s).shared a.text) u → HasKind (names s) scope e u
          → IsTrue (expression_small e) → Returns result f.rest
          → Kinded r l (with_answer r l (and_then (eval s l index) (λ i. cell_location s a.text (number_of i)))
          (λ n. with_answer r l (eval s l e) (λ x. Moves (record l { locations = write_at l.locations n x }))))
      cell_set a index e u cells has small ends =
          answers (λ n. IsAt (location_kinds s) n u)
          (and_then (eval s l index) (λ i. cell_location s a.text (number_of i)))
          (λ n. with_answer r l (eval s l e) (λ x. Moves (record l { locations = write_at l.locations n x })))
          (then_ok Any (λ n. IsAt (location_kinds s) n u) (eval s l index) (λ i. cell_location s a.text (number_of i))
          (any_ok (eval s l index)) (λ i any. cell_is scope a.text u (number_of i) cells))
          (λ n at. answers (IsOf u) (eval s l e) (λ x. Moves (record l { locations = write_at l.locations n x }))
          (eval_is l scope e u reads small has)
          (λ x kx. same_frames (record l { locations = write_at l.locations n x })
          (write_is (location_kinds s) l.locations n u x locations at kx) refl refl ends))

      returns_value : (e : Expression) → ReturnTyped (names s) scope result (Some e) → IsTrue (expression_small e)
          → Kinded r l (with_answer r l (eval s l e) (λ x. Moves (end_frame s l l.frames (Some x))))
      returns_value e typed small = by result typed under
        where
          by : (o : Option ValueKind) → ReturnTyped (names s) scope o (Some e) → FramesAre (names s) f.left o fs
              → Kinded r l (with_answer r l (eval s l e) (λ x. Moves (end_frame s l l.frames (Some x))))
          by None has below = absurd has
          by (Some u) has below =
              answers (IsOf u) (eval s l e) (λ x. Moves (end_frame s l l.frames (Some x)))
              (eval_is l scope e u reads small has)
              (λ x kx. subst (λ z. IsKinded s r (end_frame s l z (Some x))) (sym top)
              (return_some r l f fs u x locations run below kx))

      returns_none : ReturnTyped (names s) scope result None → IsKinded s r (end_frame s l l.frames None)
      returns_none typed = by result typed under
        where
          by : (o : Option ValueKind) → ReturnTyped (names s) scope o None → FramesAre (names s) f.left o fs
              → IsKinded s r (end_frame s l l.frames None)
          by None has below =
              subst (λ z. IsKinded s r (end_frame s l z None)) (sym top) (return_none r l f fs locations run below)
          by (Some u) has below = absurd has

  -- a statement whose effect this is, where what remains is that of the top frame
  does_are : (r : Path) (l : Local) (f : Frame) (fs : List Frame)
      (locations : LocationsAre (location_kinds s) l.locations) (run : l.phase ≡ running) (top : l.frames ≡ f ∷ fs)
      (result : Option ValueKind) (under : FramesAre (names s) f.left result fs) (known after : Locals) (x : Statement)
      → LocalsAre (names s) known None f.locals → StatementTyped (names s) result known x after
      → RestTyped (names s) result after f.rest → IsTrue (statement_small x) → IsTrue (statements_small f.rest)
      → Returns result (statements x f.rest) → Kinded r l (does s r l x)
  does_are r l f fs locations run top result under known after (statement at line (bind w right)) locals typed later
      small rest ends =
      assigns r l f fs locations run top result under known (added known w.text (Some typed.1.0)) w.text right typed.1.0
      locals
      (record {
        locals = locals_let (names s) known w typed.1.0 f.locals typed.0 locals;
        rest = subst (λ m. RestTyped (names s) result m f.rest) typed.1.2 later;
        small = rest;
      })
      (let_takes (names s) known w typed.1.0 typed.0)
      (returns_behind result (statement at line (bind w right)) f.rest refl ends) typed.1.1
      (and_parts (name_formed w) (right_side_small right) small).1
  does_are r l f fs locations run top result under known after (statement at line (assign w right)) locals typed later
      small rest ends =
      assigns r l f fs locations run top result under known known w.text right typed.0.0 locals
      (record {
        locals = locals_wait (names s) known (Some w.text) f.locals locals;
        rest = subst (λ m. RestTyped (names s) result m f.rest) typed.1 later;
        small = rest;
      })
      typed.0.1 (returns_behind result (statement at line (assign w right)) f.rest refl ends) typed.0.2
      (and_parts (name_formed w) (right_side_small right) small).1
  does_are r l f fs locations run top result under known after (statement at line (assign_cell a index e)) locals typed
      later small rest ends =
      cell_set r l f fs locations run top result under known
      (record { locals = locals; rest = subst (λ m. RestTyped (names s) result m f.rest) typed.1 later; small = rest })
      a index e typed.0.0 typed.0.1 typed.0.3
      (and_parts (name_formed a && expression_small index) (expression_small e) small).1
      (returns_behind result (statement at line (assign_cell a index e)) f.rest refl ends)
  does_are r l f fs locations run top result under known after (statement at line (choose arms)) locals typed later
      small rest ends =
      chooses r l f fs locations run top result under known
      (record { locals = locals; rest = subst (λ m. RestTyped (names s) result m f.rest) typed.1 later; small = rest })
      (statement at line (choose arms)) arms no_statements typed.0 small (λ e. absurd (true≢false (sym e)))
      (record { typed = tt; small = refl; ends = λ e. absurd (true≢false (sym e)) }) ends
  does_are r l f fs locations run top result under known after (statement at line (choose_or arms last)) locals typed
      later small rest ends =
      let smalls = and_parts (arms_small arms) (statements_small last) small in
      chooses r l f fs locations run top result under known
      (record { locals = locals; rest = subst (λ m. RestTyped (names s) result m f.rest) typed.1 later; small = rest })
      (statement at line (choose_or arms last)) arms last typed.0.0 smalls.0
      (λ e. (both_true (arms_return true arms) (statements_return false last) e).0)
      (record {
        typed = typed.0.1;
        small = smalls.1;
        ends = λ e. (both_true (arms_return true arms) (statements_return false last) e).1;
      }) ends
  does_are r l f fs locations run top result under known after (statement at line (repeat test body)) locals typed later
      small rest ends =
      let x : Statement = statement at line (repeat test body) in
      let again : Statements = statements x no_statements in
      let smalls = and_parts (expression_small test) (statements_small body) small in
      let behind : RestTyped (names s) result known f.rest =
      subst (λ m. RestTyped (names s) result m f.rest) typed.1 later in
      let frame : FrameIs (names s) result known None f = record { locals = locals; rest = behind; small = rest } in
      let g : Frame = record f { rest = statements x f.rest } in
      let repeated : FrameIs (names s) result known None g =
      record {
        locals = locals;
        rest = (known, known, within_self known, (typed.0, refl), behind);
        small = and_both (statement_small x) (statements_small f.rest) small rest;
      } in
      answers r l f fs locations run top result under known frame Any (eval s l test)
      (λ y. Moves (if truth_of y then enter body (enter again l) else l)) (any_ok (eval s l test))
      (λ y any. either (IsKinded s r) (truth_of y) (enter body (enter again l)) l
      (enters r (enter again l) g fs locations run
      (ap (λ z. on_top (λ h. record h { rest = append again h.rest }) z) top) result under known repeated body typed.0.1
      smalls.1 (returns_before result body (statements x f.rest) ends))
      (same_frames r l f fs locations run top result under known frame l locations refl refl
      (returns_behind result x f.rest refl ends)))
  does_are r l f fs locations run top result under known after (statement at line (call p args)) locals typed later
      small rest ends =
      let frame : FrameIs (names s) result known None f =
      record { locals = locals; rest = subst (λ m. RestTyped (names s) result m f.rest) typed.1 later; small = rest } in
      call_are r l locations run (halted r l f fs locations run top result under known frame) known
      (reads r l f fs locations run top result under known frame) p args typed.0.0 typed.0.1
      (and_parts (name_formed p) (expressions_small args) small).1
      (frames r l f fs locations run top result under known frame
      (returns_behind result (statement at line (call p args)) f.rest refl ends))
  does_are r l f fs locations run top result under known after (statement at line (return None)) locals typed later
      small rest ends =
      returns_none r l f fs locations run top result under known
      (record { locals = locals; rest = subst (λ m. RestTyped (names s) result m f.rest) typed.1 later; small = rest })
      typed.0
  does_are r l f fs locations run top result under known after (statement at line (return (Some e))) locals typed later
      small rest ends =
      returns_value r l f fs locations run top result under known
      (record { locals = locals; rest = subst (λ m. RestTyped (names s) result m f.rest) typed.1 later; small = rest })
      e typed.0 small
  does_are r l f fs locations run top result under known after (statement at line (fork p args)) locals typed later
      small rest ends =
      let frame : FrameIs (names s) result known None f =
      record { locals = locals; rest = subst (λ m. RestTyped (names s) result m f.rest) typed.1 later; small = rest } in
      fork_are r l locations run (halted r l f fs locations run top result under known frame) known
      (reads r l f fs locations run top result under known frame) p args typed.0.0 typed.0.1
      (and_parts (name_formed p) (expressions_small args) small).1
      (frames r l f fs locations run top result under known frame
      (returns_behind result (statement at line (fork p args)) f.rest refl ends))
  does_are r l f fs locations run top result under known after (statement at line (join handle)) locals typed later
      small rest ends =
      let frame : FrameIs (names s) result known None f =
      record { locals = locals; rest = subst (λ m. RestTyped (names s) result m f.rest) typed.1 later; small = rest } in
      join_are r l locations run (halted r l f fs locations run top result under known frame) known
      (reads r l f fs locations run top result under known frame) handle typed.0 small
      (frames r l f fs locations run top result under known frame
      (returns_behind result (statement at line (join handle)) f.rest refl ends))
  does_are r l f fs locations run top result under known after (statement at line (print items)) locals typed later
      small rest ends =
      let frame : FrameIs (names s) result known None f =
      record { locals = locals; rest = subst (λ m. RestTyped (names s) result m f.rest) typed.1 later; small = rest } in
      answers r l f fs locations run top result under known frame Any (item_texts s l items)
      (λ xs. Moves (record l { text = l.text ++ line_of xs })) (any_ok (item_texts s l items))
      (λ xs any.
      same_frames r l f fs locations run top result under known frame (record l { text = l.text ++ line_of xs })
      locations refl refl (returns_behind result (statement at line (print items)) f.rest refl ends))
  does_are r l f fs locations run top result under known after (statement at line (assert test)) locals typed later
      small rest ends =
      let frame : FrameIs (names s) result known None f =
      record { locals = locals; rest = subst (λ m. RestTyped (names s) result m f.rest) typed.1 later; small = rest } in
      let stopped = halted r l f fs locations run top result under known frame in
      answers r l f fs locations run top result under known frame Any (eval s l test)
      (λ y. if truth_of y then Moves l else traps r l cause.Assert) (any_ok (eval s l test))
      (λ y any. either (Kinded r l) (truth_of y) (Moves l) (traps r l cause.Assert)
      (same_frames r l f fs locations run top result under known frame l locations refl refl
      (returns_behind result (statement at line (assert test)) f.rest refl ends))
      (traps_are r l locations run stopped cause.Assert))

  -- ---- events

  -- the top frame has a statement left
  begins_are : (r : Path) (l : Local) (f : Frame) (fs : List Frame) → LocationsAre (location_kinds s) l.locations
      → l.phase ≡ running → l.frames ≡ f ∷ fs → FramesAre (names s) None None (f ∷ fs)
      → (fuel : ℕ) (x : Statement) (rest : Statements) → f.rest ≡ statements x rest
      → Kinded r l (begins s r l fuel f fs x rest)
  begins_are r l f fs locations run top are zero (statement at line form) rest e = record {
    locations = locations;
    frames = subst (λ z. FramesTrapped (names s) z) (sym top) (are_trapped (names s) None None (f ∷ fs) are);
  }
  begins_are r l f fs locations run top are (suc fuel) (statement at line form) rest e =
      by (does s r paid (statement at line form)) done_is
    where
      x : Statement
      x = statement at line form

      paid : Local
      paid = record l { fuel = fuel; line = line; frames = record f { rest = rest } ∷ fs }

      next_typed : RestTyped (names s) are.1 are.0 (statements (statement at line form) rest)
      next_typed = subst (λ z. RestTyped (names s) are.1 are.0 z) e are.3.rest

      smalls : IsTrue (statement_small (statement at line form)) × IsTrue (statements_small rest)
      smalls = and_parts (statement_small (statement at line form)) (statements_small rest)
          (subst (λ z. IsTrue (statements_small z)) e are.3.small)

      done_is : Kinded r paid (does s r paid (statement at line form))
      done_is =
          does_are r paid (record f { rest = rest }) fs locations run refl are.1 are.5 next_typed.0 next_typed.1
          (statement at line form) (locals_within (names s) next_typed.0 are.0 f.locals next_typed.2 are.3.locals)
          next_typed.3 next_typed.4 smalls.0 smalls.1 (subst (λ z. Returns are.1 z) e are.4)

      by : (v : Event Local) → Kinded r paid v → Kinded r l v
      by (Moves l') is = is
      by (Forks l' c) is = is
      by (Joins q) is = tt
      by Ended is = tt

  -- the top frame has none left
  ends_are : (r : Path) (l : Local) (f : Frame) (fs : List Frame) → LocationsAre (location_kinds s) l.locations
      → l.phase ≡ running → FramesAre (names s) None None (f ∷ fs) → f.rest ≡ no_statements
      → IsKinded s r (end_frame s l (f ∷ fs) None)
  ends_are r l f fs locations run are e = by are.1 (subst (λ z. Returns are.1 z) e are.4) are.5
    where
      by : (o : Option ValueKind) → Returns o no_statements → FramesAre (names s) f.left o fs
          → IsKinded s r (end_frame s l (f ∷ fs) None)
      by None ends under = return_none r l f fs locations run under
      by (Some u) ends under = absurd (none_end ends)

  next_are : (r : Path) (l : Local) → IsKinded s r l → Kinded r l (next s r l)
  next_are r l h = by l.phase refl
    where
      by_top : l.phase ≡ running → (fs : List Frame) → l.frames ≡ fs → FramesAre (names s) None None fs
          → Kinded r l (by_frames s r l fs)
      by_top run [] top are = finished_is r l h.locations
      by_top run (f ∷ fs) top are = on f.rest refl
        where
          on : (rest : Statements) → f.rest ≡ rest → Kinded r l (by_rest s r l f fs rest)
          on no_statements e = ends_are r l f fs h.locations run are e
          on (statements x rest) e = begins_are r l f fs h.locations run top are l.fuel x rest e

      by : (p : Phase) → l.phase ≡ p → Kinded r l (by_phase s r l p)
      by running run = by_top run l.frames refl (subst (λ p. FramesAt (names s) p l.frames) run h.frames)
      by (joining q left) is = tt
      by done is = tt
      by (trapped tr) is = tt

  -- ---- joins

  fit : MergesFit (location_kinds s) (merges_of (variables s.program))
  fit = merges_fit (names s) (within s.program.declarations) [] [] s.program.declarations program.declarations

  compose_kinded : (ms js cs : List Location) → LocationsAre (location_kinds s) ms → LocationsAre (location_kinds s) js
      → compose s.program 0 (merges_of (variables s.program)) ms js ≡ merged cs → LocationsAre (location_kinds s) cs
  compose_kinded ms js cs =
      compose_is s.program 0 (location_kinds s) (merges_of (variables s.program)) ms js cs
      fit

  -- the joiner's left side waits for a bool
  joined_are : (r : Path) (l : Local) (q : Path) (left : Option Name) (j : Local) → IsKinded s r l
      → l.phase ≡ joining q left → LocationsAre (location_kinds s) j.locations → (p : Phase)
      → IsKinded s r (join_in s r (note q l) left j p)
  joined_are r l q left j h waits js = by
    where
      are : FramesAre (names s) left (Some k.Bool) l.frames
      are = subst (λ p. FramesAt (names s) p l.frames) waits h.frames

      -- the joiner runs again
      again : (l' : Local) (to : Option Name) (d : Bool) → LocationsAre (location_kinds s) l'.locations
          → FramesAre (names s) to (Some k.Bool) l'.frames → l'.phase ≡ running
          → IsKinded s r (give s l' to (Some (v.Bool d)))
      again l' to d locations frames run =
          given_kinded r l' (give s l' to (Some (v.Bool d))) run (give_is l' to k.Bool (v.Bool d) locations frames refl)

      of_composition : (o : Composition)
          → compose s.program 0 (merges_of (variables s.program)) l.locations j.locations ≡ o
          → IsKinded s r (absorb s r (note q l) left j o)
      of_composition (faults n f) e =
          record { locations = h.locations; frames = are_trapped (names s) left (Some k.Bool) l.frames are }
      of_composition (merged cs) e =
          again (record (note q l) { locations = cs; text = l.text ++ j.text; fuel = l.fuel + j.fuel; phase = running })
          left true (compose_kinded l.locations j.locations cs h.locations js e) are refl

      of_trap : (to : Option Name) → FramesAre (names s) to (Some k.Bool) l.frames → (tr : Trap)
          → IsKinded s r (inherit s (note q l) to (trapped tr))
      of_trap None frames tr =
          record { locations = h.locations; frames = are_trapped (names s) None (Some k.Bool) l.frames frames }
      of_trap (Some name) frames tr =
          again (record (note q l) { phase = running }) (Some name) false h.locations frames refl

      by : (p : Phase) → IsKinded s r (join_in s r (note q l) left j p)
      by running = record { locations = h.locations; frames = h.frames }
      by (joining i to) = record { locations = h.locations; frames = h.frames }
      by done = of_composition (compose s.program 0 (merges_of (variables s.program)) l.locations j.locations) refl
      by (trapped tr) = of_trap left are tr

  join_kinded : (r : Path) (l : Local) (q : Path) (j : Local) → IsKinded s r l
      → LocationsAre (location_kinds s) j.locations → next s r l ≡ Joins q → IsKinded s r (joining_spec.join s r l q j)
  join_kinded r l q j h js e =
      let phase = joins_phase s r l q e in
      subst (λ o. IsKinded s r (join_in s r (note q l) o j j.phase)) (sym (ap left_side phase.1))
      (joined_are r l q phase.0 j h phase.1 js j.phase)

  pub kind_kept : IsKept (calculus s) (IsKinded s)
  kind_kept = record {
    moves = λ r l l' h e. subst (Kinded r l) e (next_are r l h);
    forker = λ r l l' c h e. let both : Kinded r l (Forks l' c) = subst (Kinded r l) e (next_are r l h) in both.0;
    forked = λ r l l' c h e. let both : Kinded r l (Forks l' c) = subst (Kinded r l) e (next_are r l h) in both.1;
    joins = λ r q l j h hj e f. join_kinded r l q j h hj.locations e;
  }

  pub main_kinded : (fuel : ℕ) → IsKinded s [] (main s fuel)
  main_kinded fuel = record {
    locations = start_is (names s) (within s.program.declarations) [] [] s.program.declarations program.declarations;
    frames = ([], None, tt, first, tt, refl);
  }
    where
      first : FrameIs (names s) None [] None (record { locals = []; rest = s.program.main; left = None })
      first = record {
        locals = record { kinds = λ name u differ h. cc; apart = λ name h e. (refl, refl) };
        rest = whole_typed (names s) None [] s.program.main program.main;
        small = well.small.main;
      }

  -- of each two revisions of a reached state, the merges are of ints
  pub join_law : (fuel : ℕ) → JoinLaw s fuel
  join_law fuel g reached =
      by g (kept_law (calculus s) (main s fuel) (IsKinded s) kind_kept (main_kinded fuel) g reached)
    where
      by : (g : Global Local) → Everywhere (calculus s) (IsKinded s) g → MergesIn s g
      by Twice are = tt
      by (Live revs) are = λ r q l j here there.
          merge_locations s.program (merge_law s.program well) (location_kinds s) (merges_of (variables s.program))
          (local_of l).locations (local_of j).locations fit (are r l here).locations (are q j there).locations
