-- Each step keeps how many locations there are, and the bounds on frames.
use Rattle.std.proofs.Common.{◌≡◌, ℕ, zero, suc, ◌+◌, ◌<◌, ◌≤◌, Bool, true, false, cond, List, [], ◌∷◌, ◌++◌, map, replicate, length, Option, Some, None, Result, Ok, Err, refl, sym, ap, ◌∙◌, subst, arith, length-append}
use Rattle.std.proofs.lemmas.List.{length-map, length-replicate}
use Rattle.std.proofs.lemmas.Bool.{leb-false}
use Rattle.std.specs.Prelude.{nat_le}
use Rattle.rev_num.specs.Path.{Path, child}
use Rattle.rev_num.specs.declared.value.Value.{Value}
use Rattle.rev_num.specs.declared.value.Value.TheVariants as v
use Rattle.rev_num.specs.declared.value.NumFault.{NumFault}
use Rattle.rev_num.specs.declared.outcome.Cause.{Cause}
use Rattle.rev_num.specs.declared.outcome.Cause.TheVariants as cause
use Rattle.rev_num.specs.declared.outcome.Trap.{Trap}
use Rattle.rev_syntax.specs.Trees.{RightSide, plain, called, tried, Statement, statement, bind, assign, assign_cell, choose, choose_or, repeat, call, return, fork, join, print, assert, Statements, no_statements, statements, Declaration, fun, merge, shared, proc, ProgramTree}
use Rattle.rev_syntax.specs.Trees as t
use Rattle.revision_machine.specs.Machine.{Event, Moves, Forks, Joins, Ended}
use Rattle.revision_machine.specs.Conditions.{IsKept}
use Rattle.name_tables.specs.Names.{Name}
use Rattle.typed_programs.specs.Value.{and_then, truth_of, number_of}
use Rattle.typed_programs.specs.Layout.{SharedVariable, variable_behind, variables_behind, variables, procedures, Procedure}
use Rattle.typed_programs.specs.Limits.{cells}
use Rattle.typed_programs.specs.Scopes.{cells_of}
use Rattle.revision_calculus.specs.Program.{first_of, variable_named, procedure_named, Setting}
use Rattle.revision_calculus.specs.State.{Location, view, write_at, fresh, Frame, Phase, running, joining, done, trapped, Local}
use Rattle.revision_calculus.specs.Evaluation.{eval, evals, on_top, set_named, set, give, cell_location}
use Rattle.revision_calculus.specs.Step as spec
use Rattle.revision_calculus.specs.Step.{traps, with_answer, enter, select, most_frames, frame_of, calls, finish, end_frame, forker, new_child, joins, item_texts, line_of, by_right, does, begins, by_rest, by_frames, by_phase, next}
use Rattle.revision_calculus.specs.Join as joining_spec
use Rattle.revision_calculus.specs.Join.{merges_of, join_location, Composition, merged, faults, and_later, compose, absorb, inherit, join_in, left_side, note}
use Rattle.revision_calculus.specs.Calculus.{start_values, main, calculus}
use Rattle.revision_calculus.proofs.Causes.{OfErr}
use Rattle.revision_calculus.proofs.PlainCauses.{IsPlain, plain_below, eval_plain, evals_plain, cell_plain, taken_plain, items_plain}
use Rattle.revision_calculus.specs.KeptBySteps.{location_count, IsAtWork, IsFaultBelow, IsTrapBelow, IsShaped}

write_length : (ms : List Location) (n : ℕ) (x : Value) → length (write_at ms n x) ≡ length ms
write_length [] n x = refl
write_length (m ∷ ms) zero x = refl
write_length (m ∷ ms) (suc n) x = ap suc (write_length ms n x)

on_top_length : (change : Frame → Frame) (fs : List Frame) → length (on_top change fs) ≡ length fs
on_top_length change [] = refl
on_top_length change (f ∷ fs) = refl

fresh_length : (xs : List Value) → length (fresh xs) ≡ length xs
fresh_length xs = length-map xs _

compose_length : (p : ProgramTree) (n : ℕ) (ks : List (Option ℕ)) (ms js cs : List Location)
    → compose p n ks ms js ≡ merged cs → length cs ≡ length ms
compose_length p n [] ms js cs e = ap length (let is : ms ≡ cs = cc in sym is)
compose_length p n (k ∷ ks) [] js cs e = ap length (let is : [] ≡ cs = cc in sym is)
compose_length p n (k ∷ ks) (m ∷ ms) [] cs e = ap length (let is : m ∷ ms ≡ cs = cc in sym is)
compose_length p n (k ∷ ks) (m ∷ ms) (j ∷ js) cs e =
    go (λ ds f. compose_length p (suc n) ks ms js ds f) (join_location p k m j j.written) (compose p (suc n) ks ms js)
    refl e
  where
    go : ((ds : List Location) → compose p (suc n) ks ms js ≡ merged ds → length ds ≡ length ms)
        → (a : Result Location NumFault) (later : Composition) → compose p (suc n) ks ms js ≡ later
        → and_later n a later ≡ merged cs → length cs ≡ length (m ∷ ms)
    go rec (Err f) later u e = absurd cc
    go rec (Ok c) (faults i f) u e = absurd cc
    go rec (Ok c) (merged ds) u e = ap length (let is : c ∷ ds ≡ cs = cc in sym is) ∙ ap suc (rec ds u)

start_length : (before es : List Declaration) → length (start_values (variables_behind before es)) ≡ cells es
start_length before [] = refl
start_length before (fun w ps r body ∷ es) = start_length (before ++ fun w ps r body ∷ []) es
start_length before (merge w m j r body ∷ es) = start_length (before ++ merge w m j r body ∷ []) es
start_length before (proc w ps r body ∷ es) = start_length (before ++ proc w ps r body ∷ []) es
start_length before (shared x ∷ es) =
    let first : Value = first_of (variable_behind before x) in
    let rest : List Value = start_values (variables_behind (before ++ shared x ∷ []) es) in
    length-append (replicate (cells_of x.size) first) rest
    ∙ ap (λ n. n + length rest) (length-replicate (cells_of x.size) first)
    ∙ ap (λ n. cells_of x.size + n) (start_length (before ++ shared x ∷ []) es)

-- the least location whose merge faults is one of them
compose_below : (p : ProgramTree) (n : ℕ) (ks : List (Option ℕ)) (ms js : List Location) (i : ℕ) (f : NumFault)
    → compose p n ks ms js ≡ faults i f → i < n + length ms
compose_below p n [] ms js i f e = absurd cc
compose_below p n (k ∷ ks) [] js i f e = absurd cc
compose_below p n (k ∷ ks) (m ∷ ms) [] i f e = absurd cc
compose_below p n (k ∷ ks) (m ∷ ms) (j ∷ js) i f e =
    go (λ d g u. compose_below p (suc n) ks ms js d g u) (join_location p k m j j.written) (compose p (suc n) ks ms js)
    refl e
  where
    go : ((d : ℕ) (g : NumFault) → compose p (suc n) ks ms js ≡ faults d g → d < suc n + length ms)
        → (a : Result Location NumFault) (later : Composition) → compose p (suc n) ks ms js ≡ later
        → and_later n a later ≡ faults i f → i < n + length (m ∷ ms)
    go rec (Err g) later u e = let is : n ≡ i = cc in omega arith
    go rec (Ok c) (faults d g) u e = let is : d ≡ i = cc in let below = rec d g u in omega arith
    go rec (Ok c) (merged ds) u e = absurd cc

module _ (s : Setting) where
  -- what is said of the states that an event makes
  abbrev Shapes : Path → Local → Event Local → Type 0
  Shapes r l (Moves l') = IsShaped s r l'
  Shapes r l (Forks l' c) = IsShaped s r l' × IsShaped s (child r l.forks) c
  Shapes r l (Joins q) = Unit {0}
  Shapes r l Ended = Unit {0}

  -- the same numbers of locations and of frames, in any phase
  like : (r r' : Path) (l l' : Local) → IsShaped s r l → length l'.locations ≡ length l.locations
      → length l'.frames ≡ length l.frames → (IsAtWork l'.phase → IsAtWork l.phase)
      → IsTrapBelow (location_count s) l'.phase → IsShaped s r' l'
  like r r' l l' h ms fs work below = record { locations = ms ∙ h.locations; most = most'; some = some'; trap = below }
    where
      most' : length l'.frames ≤ most_frames
      most' = let k = h.most in omega (arith, fs)

      some' : IsAtWork l'.phase → 1 ≤ length l'.frames
      some' w = let k = h.some (work w) in omega (arith, fs)

  set_like : (r : Path) (l : Local) (name : Name) (x : Value) → IsShaped s r l → IsShaped s r (set s l name x)
  set_like r l name x h = go (variable_named (variables s.program) name)
    where
      go : (o : Option SharedVariable) → IsShaped s r (set_named o l name x)
      go (Some y) =
          like r r l (set_named (Some y) l name x) h (write_length l.locations y.info.base x) refl (λ w. w) h.trap
      go None = like r r l (set_named None l name x) h refl (on_top_length _ l.frames) (λ w. w) h.trap

  give_like : (r : Path) (l : Local) (left : Option Name) (x : Option Value) → IsShaped s r l
      → IsShaped s r (give s l left x)
  give_like r l (Some name) (Some x) h = set_like r l name x h
  give_like r l (Some name) None h = h
  give_like r l None x h = h

  trap_like : (r : Path) (l : Local) (tr : Trap) → IsFaultBelow (location_count s) tr.cause → IsShaped s r l
      → IsShaped s r (record l { phase = trapped tr })
  trap_like r l tr below h = like r r l (record l { phase = trapped tr }) h refl refl (λ w. absurd w) below

  finish_like : (r : Path) (l : Local) → IsShaped s r l → IsShaped s r (finish l)
  finish_like r l h = record { locations = h.locations; most = omega arith; some = λ w. absurd w; trap = tt }

  enter_like : (r : Path) (block : Statements) (l : Local) → IsShaped s r l → IsShaped s r (enter block l)
  enter_like r block l h = like r r l (enter block l) h refl (on_top_length _ l.frames) (λ w. w) h.trap

  return_like : (r : Path) (l : Local) (fs : List Frame) (x : Option Value) → l.frames ≡ fs → IsShaped s r l
      → IsShaped s r (end_frame s l fs x)
  return_like r l [] x is h = finish_like r l h
  return_like r l (f ∷ []) x is h = finish_like r l h
  return_like r l (f ∷ g ∷ fs) x is h = give_like r (record l { frames = g ∷ fs }) f.left x popped
    where
      popped : IsShaped s r (record l { frames = g ∷ fs })
      popped = record { locations = h.locations; most = most'; some = λ w. omega arith; trap = h.trap }
        where
          most' : suc (length fs) ≤ most_frames
          most' =
              let k : length l.frames ≤ most_frames = h.most in
              let n : length l.frames ≡ suc (suc (length fs)) = ap length is in
              omega arith

  module _ (r : Path) (l : Local) (h : IsShaped s r l) where
    traps_like : (c : Cause) → IsFaultBelow (location_count s) c → Shapes r l (traps r l c)
    traps_like c below = trap_like r l (record { cause = c; line = l.line; origin = r }) below h

    -- where what was worked out has a cause, it is that of no merge
    answer_like : {A : Type 0} (a : Result A Cause) (go : A → Event Local) → OfErr IsPlain a
        → ((x : A) → Shapes r l (go x)) → Shapes r l (with_answer r l a go)
    answer_like (Ok x) go no_merge k = k x
    answer_like (Err c) go no_merge k = traps_like c (plain_below (location_count s) c no_merge)

    calls_like : (left : Option Name) (name : Name) (args : List Value) → Shapes r l (calls s r l left name args)
    calls_like left name args = go (nat_le most_frames (length l.frames)) refl
      where
        l' : Local
        l' = record l { frames = frame_of (procedure_named (procedures s.program) name) args left ∷ l.frames }

        go : (b : Bool) → nat_le most_frames (length l.frames) ≡ b
            → Shapes r l (cond b (traps r l cause.CallDepth) (Moves l'))
        go true e = traps_like cause.CallDepth tt
        go false e = record { locations = h.locations; most = most'; some = λ w. omega arith; trap = h.trap }
          where
            most' : suc (length l.frames) ≤ most_frames
            most' = let k : length l.frames < most_frames = leb-false most_frames (length l.frames) e in omega arith

    child_like : (p : Procedure) (args : List Value) → IsShaped s (child r l.forks) (new_child s l p args)
    child_like p args = record {
      locations = fresh_length (map view l.locations) ∙ length-map l.locations view ∙ h.locations;
      most = omega arith;
      some = λ w. omega arith;
      trap = tt;
    }

    forks_like : (left : Option Name) (name : Name) (args : List Value) → Shapes r l (spec.forks s r l left name args)
    forks_like left name args = (
      give_like r (forker s r l) left (Some (v.Rev (Some (child r l.forks))))
          (like r r l (forker s r l) h refl refl (λ w. w) h.trap),
      child_like (procedure_named (procedures s.program) name) args,
    )

    joins_like : IsAtWork l.phase → (left : Option Name) (x : Value) → Shapes r l (joins r l left x)
    joins_like work left (v.Rev (Some q)) = like r r l (record l { phase = joining q left }) h refl refl (λ w. work) tt
    joins_like work left (v.Rev None) = traps_like cause.JoinNone tt
    joins_like work left (v.Int z) = traps_like cause.JoinNone tt
    joins_like work left (v.Bool b) = traps_like cause.JoinNone tt

    right_side_like : IsAtWork l.phase → (name : Name) (right : RightSide) → Shapes r l (by_right s r l name right)
    right_side_like work name (plain e) = answer_like (eval s l e) _ (eval_plain s l e) (λ x. set_like r l name x h)
    right_side_like work name (called at p args) =
        answer_like (evals s l args) _ (evals_plain s l args) (λ xs. calls_like (Some name) p.text xs)
    right_side_like work name (t.forked at p args) =
        answer_like (evals s l args) _ (evals_plain s l args) (λ xs. forks_like (Some name) p.text xs)
    right_side_like work name (tried at handle) =
        answer_like (eval s l handle) _ (eval_plain s l handle) (λ x. joins_like work (Some name) x)

    cond_like : (b : Bool) (x y : Local) → IsShaped s r x → IsShaped s r y → IsShaped s r (cond b x y)
    cond_like true x y p q = p
    cond_like false x y p q = q

    cond_shapes : (b : Bool) (x y : Event Local) → Shapes r l x → Shapes r l y → Shapes r l (cond b x y)
    cond_shapes true x y p q = p
    cond_shapes false x y p q = q

    cell_like : (n : ℕ) (x : Value) → IsShaped s r (record l { locations = write_at l.locations n x })
    cell_like n x =
        like r r l (record l { locations = write_at l.locations n x }) h (write_length l.locations n x) refl (λ w. w)
        h.trap

    text_like : (bytes : List ℕ) → IsShaped s r (record l { text = bytes })
    text_like bytes = like r r l (record l { text = bytes }) h refl refl (λ w. w) h.trap

    does_like : IsAtWork l.phase → (x : Statement) → Shapes r l (does s r l x)
    does_like work (statement at line (bind x right)) = right_side_like work x.text right
    does_like work (statement at line (assign x right)) = right_side_like work x.text right
    does_like work (statement at line (assign_cell a index e)) =
        answer_like (and_then (eval s l index) (λ i. cell_location s a.text (number_of i))) _
        (cell_plain s l a.text index) (λ n. answer_like (eval s l e) _ (eval_plain s l e) (λ x. cell_like n x))
    does_like work (statement at line (choose arms)) =
        answer_like (select s l arms no_statements) _ (taken_plain s l arms no_statements)
        (λ block. enter_like r block l h)
    does_like work (statement at line (choose_or arms last)) =
        answer_like (select s l arms last) _ (taken_plain s l arms last) (λ block. enter_like r block l h)
    does_like work (statement at line (repeat test block)) =
        answer_like (eval s l test) _ (eval_plain s l test)
        (λ x. cond_like (truth_of x) _ l
        (enter_like r block _ (enter_like r (statements (statement at line (repeat test block)) no_statements) l h)) h)
    does_like work (statement at line (call p args)) =
        answer_like (evals s l args) _ (evals_plain s l args) (λ xs. calls_like None p.text xs)
    does_like work (statement at line (return None)) = return_like r l l.frames None refl h
    does_like work (statement at line (return (Some e))) =
        answer_like (eval s l e) _ (eval_plain s l e) (λ x. return_like r l l.frames (Some x) refl h)
    does_like work (statement at line (fork p args)) =
        answer_like (evals s l args) _ (evals_plain s l args) (λ xs. forks_like None p.text xs)
    does_like work (statement at line (join handle)) =
        answer_like (eval s l handle) _ (eval_plain s l handle) (λ x. joins_like work None x)
    does_like work (statement at line (print items)) =
        answer_like (item_texts s l items) _ (items_plain s l items) (λ xs. text_like (l.text ++ line_of xs))
    does_like work (statement at line (assert test)) =
        answer_like (eval s l test) _ (eval_plain s l test)
        (λ x. cond_shapes (truth_of x) (Moves l) (traps r l cause.Assert) h (traps_like cause.Assert tt))

  next_like : (r : Path) (l : Local) → IsShaped s r l → Shapes r l (next s r l)
  next_like r l h = go l.phase refl
    where
      begun : l.phase ≡ running → (f : Frame) (fs : List Frame) → l.frames ≡ f ∷ fs → (fuel : ℕ)
          → (x : Statement) (rest : Statements) → Shapes r l (begins s r l fuel f fs x rest)
      begun run f fs is zero (statement at line form) rest =
          trap_like r (record l { line = line }) (record { cause = cause.Spent; line = line; origin = r }) tt
          (like r r l (record l { line = line }) h refl refl (λ w. w) h.trap)
      begun run f fs is (suc fuel) (statement at line form) rest =
          by_forks (does s r l₁ (statement at line form))
          (does_like r l₁ paid (subst IsAtWork (sym run) tt) (statement at line form))
        where
          l₁ : Local
          l₁ = record l { fuel = fuel; line = line; frames = record f { rest = rest } ∷ fs }

          paid : IsShaped s r l₁
          paid = like r r l l₁ h refl (sym (ap length is)) (λ w. w) h.trap

          by_forks : (e : Event Local) → Shapes r l₁ e → Shapes r l e
          by_forks (Moves l') k = k
          by_forks (Forks l' c) k = k
          by_forks (Joins q) k = tt
          by_forks Ended k = tt

      by_top : l.phase ≡ running → (fs : List Frame) → l.frames ≡ fs → Shapes r l (by_frames s r l fs)
      by_top run [] is = finish_like r l h
      by_top run (f ∷ fs) is = by f.rest
        where
          by : (rest : Statements) → Shapes r l (by_rest s r l f fs rest)
          by no_statements = return_like r l (f ∷ fs) None is h
          by (statements x rest) = begun run f fs is l.fuel x rest

      go : (p : Phase) → l.phase ≡ p → Shapes r l (by_phase s r l p)
      go running run = by_top run l.frames refl
      go (joining q left) is = tt
      go done is = tt
      go (trapped tr) is = tt

  join_like : (r : Path) (l : Local) (q : Path) (j : Local) → IsShaped s r l → IsShaped s q j → next s r l ≡ Joins q
      → IsAtWork l.phase → IsShaped s r (joining_spec.join s r l q j)
  join_like r l q j h hj wants work = go j.phase hj.trap
    where
      l₁ : Local
      l₁ = note q l

      h₁ : IsShaped s r l₁
      h₁ = like r r l l₁ h refl refl (λ w. w) h.trap

      on : (locations : List Location) (text : List ℕ) (fuel : ℕ) → length locations ≡ length l.locations
          → IsShaped s r (record l₁ { locations = locations; text = text; fuel = fuel; phase = running })
      on locations text fuel e =
          like r r l (record l₁ { locations = locations; text = text; fuel = fuel; phase = running }) h e refl
          (λ w. work) tt

      of_composition : (to : Option Name) (o : Composition)
          → compose s.program 0 (merges_of (variables s.program)) l.locations j.locations ≡ o
          → IsShaped s r (absorb s r l₁ to j o)
      of_composition to (faults n f) e =
          trap_like r l₁ (record { cause = cause.Merge n f; line = l.line; origin = r }) below h₁
        where
          below : n < location_count s
          below =
              let least : n < 0 + length l.locations =
              compose_below s.program 0 (merges_of (variables s.program)) l.locations j.locations n f e in
              let all : length l.locations ≡ location_count s = h.locations in
              omega arith
      of_composition to (merged locations) e =
          give_like r
          (record l₁ { locations = locations; text = l.text ++ j.text; fuel = l.fuel + j.fuel; phase = running }) to
          (Some (v.Bool true))
          (on locations (l.text ++ j.text) (l.fuel + j.fuel)
          (compose_length s.program 0 (merges_of (variables s.program)) l.locations j.locations locations e))

      of_trap : (to : Option Name) (tr : Trap) → IsFaultBelow (location_count s) tr.cause
          → IsShaped s r (inherit s l₁ to (trapped tr))
      of_trap None tr below = trap_like r l₁ tr below h₁
      of_trap (Some name) tr below =
          give_like r (record l₁ { phase = running }) (Some name) (Some (v.Bool false))
          (on l.locations l.text l.fuel refl)

      go : (p : Phase) → IsTrapBelow (location_count s) p → IsShaped s r (join_in s r l₁ (left_side l.phase) j p)
      go running below = h₁
      go (joining k to) below = h₁
      go done below =
          of_composition (left_side l.phase)
          (compose s.program 0 (merges_of (variables s.program)) l.locations j.locations) refl
      go (trapped tr) below = of_trap (left_side l.phase) tr below

  -- one that comes to a join has not ended
  wants_work : (r : Path) (l : Local) (q : Path) → next s r l ≡ Joins q → IsAtWork l.phase
  wants_work r l q e = go l.phase refl
    where
      go : (p : Phase) → l.phase ≡ p → IsAtWork p
      go running is = tt
      go (joining k to) is = tt
      go done is = absurd (let f : Ended ≡ Joins q = sym (ap (by_phase s r l) is) ∙ e in cc)
      go (trapped tr) is = absurd (let f : Ended ≡ Joins q = sym (ap (by_phase s r l) is) ∙ e in cc)

  pub shape_kept : IsKept (calculus s) (IsShaped s)
  shape_kept = record {
    moves = λ r l l' h e. subst (Shapes r l) e (next_like r l h);
    forker = λ r l l' c h e. let k : Shapes r l (Forks l' c) = subst (Shapes r l) e (next_like r l h) in k.0;
    forked = λ r l l' c h e. let k : Shapes r l (Forks l' c) = subst (Shapes r l) e (next_like r l h) in k.1;
    joins = λ r q l j h hj e f. join_like r l q j h hj e (wants_work r l q e);
  }

  pub main_shaped : (fuel : ℕ) → IsShaped s [] (main s fuel)
  main_shaped fuel = record {
    locations = fresh_length (start_values (variables s.program)) ∙ start_length [] s.program.declarations;
    most = omega arith;
    some = λ w. omega arith;
    trap = tt;
  }
