-- What each event of a revision keeps and uses up.
use Rattle.std.proofs.Common.{◌≡◌, ◌≢◌, ◌⊎◌, inl, inr, ℕ, zero, suc, ◌+◌, ◌-◌, ◌*◌, ◌≤◌, Bool, true, false, cond, List, [], ◌∷◌, ◌++◌, length, Option, Some, None, Result, Ok, Err, refl, sym, ap, ◌∙◌, subst, arith, le_refl}
use Rattle.std.specs.Prelude.{nat_le, if◌then◌else◌}
use Rattle.rev_num.specs.Path.{Path, child}
use Rattle.rev_num.specs.declared.value.Value.{Value}
use Rattle.rev_num.specs.declared.value.Value.TheVariants as v
use Rattle.rev_num.specs.declared.outcome.Cause.{Cause}
use Rattle.rev_num.specs.declared.outcome.Cause.TheVariants as cause
use Rattle.rev_num.specs.declared.outcome.Trap.{Trap}
use Rattle.rev_syntax.specs.Trees.{RightSide, plain, called, tried, Statement, statement, bind, assign, assign_cell, choose, choose_or, repeat, call, return, fork, join, print, assert, Statements, no_statements, statements}
use Rattle.rev_syntax.specs.Trees as t
use Rattle.revision_machine.specs.Machine.{Event, Moves, Forks, Joins, Ended}
use Rattle.name_tables.specs.Names.{Name}
use Rattle.typed_programs.specs.Value.{and_then, truth_of, number_of}
use Rattle.typed_programs.specs.Layout.{procedures, Procedure}
use Rattle.revision_calculus.specs.Program.{procedure_named, Setting}
use Rattle.revision_calculus.specs.State.{write_at, Frame, Phase, running, joining, done, trapped, Local}
use Rattle.revision_calculus.specs.Evaluation.{eval, evals, set, give, cell_location}
use Rattle.revision_calculus.specs.Step as spec
use Rattle.revision_calculus.specs.Step.{traps, with_answer, enter, select, most_frames, frame_of, calls, end_frame, part, forker, new_child, joins, item_texts, line_of, by_right, does, begins, by_rest, by_frames, by_phase, next}
use Rattle.revision_calculus.specs.HandlesHeld.{IsHandle, FramesHold, Holds, in_locations, in_frames, in_phase, beyond_first, weight_at, weight}
use Rattle.revision_calculus.proofs.Values.{OfOk, OfEach}
use Rattle.revision_calculus.proofs.Handles.{fresh_held, Held, not_held, locals_of_held, eval_held, evals_held}
use Rattle.revision_calculus.proofs.Moves.{weight_running, Stepped, Moved, stepped, Split, Paid, same_held, trap_ok, Assigned, assigned_weight, location_assigned, set_assigned, give_assigned, assigned_ok, enter_ok, enter_twice, call_ok, finish_ok, return_ok}

-- ---- statements that were paid for

-- nothing is said of a value
abbrev pub Any : {A : Type 0} → A → Type 0
Any x = Unit {0}

pub any_ok : {A : Type 0} (a : Result A Cause) → OfOk Any a
any_ok (Ok x) = tt
any_ok (Err c) = tt

module _ (s : Setting) (r : Path) (l : Local) (run : l.phase ≡ running) where
  traps_ok : (c : Cause) → Paid r l (traps r l c)
  traps_ok c = stepped (trap_ok l (record { cause = c; line = l.line; origin = r }) run)

  answer_ok : {A : Type 0} (P : A → Type 0) (a : Result A Cause) (go : A → Event Local) → OfOk P a
      → ((x : A) → P x → Paid r l (go x)) → Paid r l (with_answer r l a go)
  answer_ok P (Ok x) go p k = k x p
  answer_ok P (Err c) go p k = traps_ok c

  same_ok : Stepped l l
  same_ok = record { forks = refl; held = λ q h. h; fuel = le_refl l.fuel; weight = omega arith }

  set_ok : (name : Name) (x : Value) → Held l x → Paid r l (Moves (set s l name x))
  set_ok name x k = assigned_ok (set_assigned s l name x) k

  cond_paid : (b : Bool) (x y : Event Local) → Paid r l x → Paid r l y → Paid r l (cond b x y)
  cond_paid true x y p q = p
  cond_paid false x y p q = q

  calls_ok : (left : Option Name) (name : Name) (args : List Value) → OfEach (Held l) (not_held l) args
      → Paid r l (calls s r l left name args)
  calls_ok left name args k =
      cond_paid (nat_le most_frames (length l.frames)) (traps r l cause.CallDepth)
      (Moves (record l { frames = frame_of (procedure_named (procedures s.program) name) args left ∷ l.frames }))
      (traps_ok cause.CallDepth) (call_ok l (procedure_named (procedures s.program) name) args left run k)

  split_ok : (left : Option Name) (p : Procedure) (args : List Value) → OfEach (Held l) (not_held l) args
      → Split r l (give s (forker s r l) left (Some (v.Rev (Some (child r l.forks))))) (new_child s l p args)
  split_ok left p args k = record {
    forks = a.forks;
    held = λ q h. by q (a.held q h);
    given = given;
    fuel = least;
    weight = less;
    none = refl;
  }
    where
      x : Value
      x = v.Rev (Some (child r l.forks))

      l' : Local
      l' = give s (forker s r l) left (Some x)

      c : Local
      c = new_child s l p args

      a : Assigned (forker s r l) l' x
      a = give_assigned s (forker s r l) left x

      kept : (q : Path) → Holds (forker s r l) q → Holds l q
      kept q (in_locations h) = in_locations h
      kept q (in_frames h) = in_frames h
      kept q (in_phase left e) = in_phase left e

      by : (q : Path) → Holds (forker s r l) q ⊎ IsHandle x q → Holds l q ⊎ (q ≡ child r l.forks)
      by q (inl h) = inl (kept q h)
      by q (inr e) = inr cc

      given : (q : Path) → Holds c q → Holds l q
      given q (in_locations h) = in_locations (fresh_held l.locations q h)
      given q (in_frames (inl h)) = locals_of_held l p.params args q k h
      given q (in_frames (inr none)) = absurd none
      given q (in_phase left e) = absurd (let clash : running ≡ joining q left = e in cc)

      least : l'.fuel + c.fuel ≤ l.fuel
      least = let f : l'.fuel ≡ l.fuel - part s l.fuel = a.fuel in omega arith

      less : weight l' + weight c ≤ weight l + 1
      less =
          let before : weight l ≡ 2 * l.fuel + 1 + beyond_first l.frames = weight_running l run in
          let after : weight l' ≡ weight (forker s r l) = assigned_weight a in
          let forked : weight (forker s r l) ≡ 2 * (l.fuel - part s l.fuel) + 1 + beyond_first l.frames =
          weight_running (forker s r l) run in
          let born : weight c ≡ 2 * part s l.fuel + 1 + 0 = refl in
          omega arith

  joins_ok : (left : Option Name) (x : Value) → Held l x → Paid r l (joins r l left x)
  joins_ok left (v.Rev (Some q)) k = record { forks = refl; held = held; fuel = le_refl l.fuel; weight = less }
    where
      l' : Local
      l' = record l { phase = joining q left }

      held : (p : Path) → Holds l' p → Holds l p
      held p = same_held l l' p refl refl (λ left' e. k p (let is : joining q left ≡ joining p left' = e in cc))

      less : weight l' ≤ weight l + 1
      less = let before : weight l ≡ 2 * l.fuel + 1 + beyond_first l.frames = weight_running l run in omega arith
  joins_ok left (v.Rev None) k = traps_ok cause.JoinNone
  joins_ok left (v.Int z) k = traps_ok cause.JoinNone
  joins_ok left (v.Bool b) k = traps_ok cause.JoinNone

  right_side_ok : (name : Name) (right : RightSide) → Paid r l (by_right s r l name right)
  right_side_ok name (plain e) =
      answer_ok (Held l) (eval s l e) (λ x. Moves (set s l name x)) (eval_held s l e) (λ x k. set_ok name x k)
  right_side_ok name (called at p args) =
      answer_ok (OfEach (Held l) (not_held l)) (evals s l args) (calls s r l (Some name) p.text) (evals_held s l args)
      (λ xs k. calls_ok (Some name) p.text xs k)
  right_side_ok name (t.forked at p args) =
      answer_ok (OfEach (Held l) (not_held l)) (evals s l args) (spec.forks s r l (Some name) p.text)
      (evals_held s l args) (λ xs k. split_ok (Some name) (procedure_named (procedures s.program) p.text) xs k)
  right_side_ok name (tried at handle) =
      answer_ok (Held l) (eval s l handle) (joins r l (Some name)) (eval_held s l handle)
      (λ x k. joins_ok (Some name) x k)

  cond_stepped : (b : Bool) (x y : Local) → Stepped l x → Stepped l y → Stepped l (cond b x y)
  cond_stepped true x y p q = p
  cond_stepped false x y p q = q

  text_ok : (bytes : List ℕ) → Stepped l (record l { text = bytes })
  text_ok bytes = record { forks = refl; held = same; fuel = le_refl l.fuel; weight = omega arith }
    where
      same : (q : Path) → Holds (record l { text = bytes }) q → Holds l q
      same q = same_held l (record l { text = bytes }) q refl refl in_phase

  does_ok : (x : Statement) → Paid r l (does s r l x)
  does_ok (statement at line (bind x right)) = right_side_ok x.text right
  does_ok (statement at line (assign x right)) = right_side_ok x.text right
  does_ok (statement at line (assign_cell a index e)) =
      answer_ok Any (and_then (eval s l index) (λ i. cell_location s a.text (number_of i)))
      (λ n. with_answer r l (eval s l e) (λ x. Moves (record l { locations = write_at l.locations n x }))) (any_ok _)
      (λ n any.
      answer_ok (Held l) (eval s l e) (λ x. Moves (record l { locations = write_at l.locations n x })) (eval_held s l e)
      (λ x k. assigned_ok (location_assigned l n x) k))
  does_ok (statement at line (choose arms)) =
      answer_ok Any (select s l arms no_statements) (λ block. Moves (enter block l)) (any_ok _)
      (λ block any. enter_ok block l)
  does_ok (statement at line (choose_or arms last)) =
      answer_ok Any (select s l arms last) (λ block. Moves (enter block l)) (any_ok _) (λ block any. enter_ok block l)
  does_ok (statement at line (repeat test block)) =
      answer_ok Any (eval s l test)
      (λ x. Moves (if truth_of x
      then enter block (enter (statements (statement at line (repeat test block)) no_statements) l) else l))
      (any_ok _)
      (λ x any.
      cond_stepped (truth_of x)
      (enter block (enter (statements (statement at line (repeat test block)) no_statements) l)) l
      (enter_twice block (statements (statement at line (repeat test block)) no_statements) l) same_ok)
  does_ok (statement at line (call p args)) =
      answer_ok (OfEach (Held l) (not_held l)) (evals s l args) (calls s r l None p.text) (evals_held s l args)
      (λ xs k. calls_ok None p.text xs k)
  does_ok (statement at line (return None)) = stepped (return_ok s l l.frames None run refl (λ y e. absurd cc))
  does_ok (statement at line (return (Some e))) =
      answer_ok (Held l) (eval s l e) (λ x. Moves (end_frame s l l.frames (Some x))) (eval_held s l e)
      (λ x k. stepped
      (return_ok s l l.frames (Some x) run refl (λ y same. subst (Held l) (let is : x ≡ y = cc in is) k)))
  does_ok (statement at line (fork p args)) =
      answer_ok (OfEach (Held l) (not_held l)) (evals s l args) (spec.forks s r l None p.text) (evals_held s l args)
      (λ xs k. split_ok None (procedure_named (procedures s.program) p.text) xs k)
  does_ok (statement at line (join handle)) =
      answer_ok (Held l) (eval s l handle) (joins r l None) (eval_held s l handle) (λ x k. joins_ok None x k)
  does_ok (statement at line (print items)) =
      answer_ok Any (item_texts s l items) (λ xs. Moves (record l { text = l.text ++ line_of xs })) (any_ok _)
      (λ xs any. text_ok (l.text ++ line_of xs))
  does_ok (statement at line (assert test)) =
      answer_ok Any (eval s l test) (λ x. if truth_of x then Moves l else traps r l cause.Assert) (any_ok _)
      (λ x any. cond_paid (truth_of x) (Moves l) (traps r l cause.Assert) same_ok (traps_ok cause.Assert))

-- ---- events

pub record ForkOk (r : Path) (l l' c : Local) : Type 0 where
  pub forks : l'.forks ≡ suc l.forks
  pub none : c.forks ≡ 0
  pub held : (q : Path) → Holds l' q → Holds l q ⊎ (q ≡ child r l.forks)
  pub given : (q : Path) → Holds c q → Holds l q
  pub fuel : l'.fuel + c.fuel + 1 ≤ l.fuel
  pub weight : weight l' + weight c + 1 ≤ weight l

pub record WantOk (l : Local) (q : Path) : Type 0 where
  pub held : Holds l q
  pub weight : 1 ≤ weight l

abbrev pub EventOk : Path → Local → Event Local → Type 0
EventOk r l (Moves l') = Moved l l'
EventOk r l (Forks l' c) = ForkOk r l l' c
EventOk r l (Joins q) = WantOk l q
EventOk r l Ended = Unit {0}

-- a revision that runs steps by itself
abbrev pub IsOwn : Event Local → Type 0
IsOwn (Moves l') = Unit {0}
IsOwn (Forks l' c) = Unit {0}
IsOwn (Joins q) = ⊥
IsOwn Ended = ⊥

own_paid : (r : Path) (l : Local) (e : Event Local) → Paid r l e → IsOwn e
own_paid r l (Moves l') p = tt
own_paid r l (Forks l' c) p = tt
own_paid r l (Joins q) p = absurd p
own_paid r l Ended p = absurd p

module _ (s : Setting) (r : Path) (l : Local) where
  -- after the payment for the next statement of the top frame
  module _ (run : l.phase ≡ running) (f : Frame) (fs : List Frame) (top : l.frames ≡ f ∷ fs) (fuel : ℕ)
      (has : l.fuel ≡ suc fuel) (line : ℕ) (rest : Statements) where
    paid : Local
    paid = record l { fuel = fuel; line = line; frames = record f { rest = rest } ∷ fs }

    paid_held : (q : Path) → Holds paid q → Holds l q
    unfolding paid
    paid_held q (in_locations h) = in_locations h
    paid_held q (in_frames h) = in_frames (subst (λ x. FramesHold x q) (sym top) h)
    paid_held q (in_phase left e) = in_phase left e

    paid_weight : weight paid + 2 ≡ weight l
    unfolding paid
    paid_weight =
        let before : weight l ≡ 2 * suc fuel + 1 + length fs =
        weight_running l run ∙ ap (λ n. 2 * n + 1 + beyond_first l.frames) has
        ∙ ap (λ x. 2 * suc fuel + 1 + beyond_first x) top in
        let after : weight paid ≡ 2 * fuel + 1 + length fs = weight_running paid run in
        omega arith

    event_paid : (e : Event Local) → Paid r paid e → EventOk r l e
    unfolding paid
    event_paid (Moves l') p =
        record { forks = p.forks; held = λ q h. paid_held q (p.held q h); fuel = least; weight = less }
      where
        least : l'.fuel ≤ l.fuel
        least = let k : l'.fuel ≤ fuel = p.fuel in omega (arith, has)

        less : weight l' + 1 ≤ weight l
        less = let k = p.weight in let w = paid_weight in omega arith
    event_paid (Forks l' c) p = record {
      forks = p.forks;
      none = p.none;
      held = λ q h. by q (p.held q h);
      given = λ q h. paid_held q (p.given q h);
      fuel = least;
      weight = less;
    }
      where
        by : (q : Path) → Holds paid q ⊎ (q ≡ child r l.forks) → Holds l q ⊎ (q ≡ child r l.forks)
        by q (inl h) = inl (paid_held q h)
        by q (inr e) = inr e

        least : l'.fuel + c.fuel + 1 ≤ l.fuel
        least = let k : l'.fuel + c.fuel ≤ fuel = p.fuel in omega (arith, has)

        less : weight l' + weight c + 1 ≤ weight l
        less = let k = p.weight in let w = paid_weight in omega arith
    event_paid (Joins q) p = absurd p
    event_paid Ended p = absurd p

  by_frames_ok : l.phase ≡ running → (fs : List Frame) → l.frames ≡ fs
      → EventOk r l (by_frames s r l fs) × IsOwn (by_frames s r l fs)
  unfolding paid
  by_frames_ok run [] is = (finish_ok l run, tt)
  by_frames_ok run (f ∷ fs) is = by f.rest
    where
      begun : (fuel : ℕ) → l.fuel ≡ fuel → (x : Statement) (rest : Statements)
          → EventOk r l (begins s r l fuel f fs x rest) × IsOwn (begins s r l fuel f fs x rest)
      begun zero has (statement at line form) rest = (trap_again, tt)
        where
          tr : Trap
          tr = record { cause = cause.Spent; line = line; origin = r }

          trap_again : Moved l (record l { line = line; phase = trapped tr })
          trap_again =
              let h = trap_ok l tr run in record { forks = refl; held = held; fuel = le_refl l.fuel; weight = h.weight }
            where
              held : (q : Path) → Holds (record l { line = line; phase = trapped tr }) q → Holds l q
              held q = same_held l (record l { line = line; phase = trapped tr }) q refl refl
                  (λ left e. absurd (let clash : trapped tr ≡ joining q left = e in cc))
      begun (suc fuel) has (statement at line form) rest =
          let ok = does_ok s r (record l { fuel = fuel; line = line; frames = record f { rest = rest } ∷ fs }) run
          (statement at line form) in
          (event_paid run f fs is fuel has line rest _ ok, own_paid r _ _ ok)

      by : (rest : Statements) → EventOk r l (by_rest s r l f fs rest) × IsOwn (by_rest s r l f fs rest)
      by no_statements = (return_ok s l (f ∷ fs) None run is (λ y e. absurd cc), tt)
      by (statements x rest) = begun l.fuel refl x rest

  pub event_ok : EventOk r l (next s r l)
  event_ok = go l.phase refl
    where
      go : (p : Phase) → l.phase ≡ p → EventOk r l (by_phase s r l p)
      go running run = (by_frames_ok run l.frames refl).0
      go (joining q left) is = record { held = in_phase left is; weight = more }
        where
          more : 1 ≤ weight l
          more =
              let w : weight l ≡ 2 * l.fuel + 2 + beyond_first l.frames = ap (λ p. weight_at p l.frames l.fuel) is in
              omega arith
      go done is = tt
      go (trapped tr) is = tt

  pub running_own : l.phase ≡ running → IsOwn (by_frames s r l l.frames)
  running_own run = (by_frames_ok run l.frames refl).1

  -- one that comes to join q waits for it
  pub joins_phase : (q : Path) → next s r l ≡ Joins q → (left : Option Name) × (l.phase ≡ joining q left)
  joins_phase q e = go l.phase refl e
    where
      go : (p : Phase) → l.phase ≡ p → by_phase s r l p ≡ Joins q → (left : Option Name) × (l.phase ≡ joining q left)
      go running is e = absurd (subst IsOwn e (running_own is))
      go (joining k left) is e = (left, is ∙ ap (λ x. joining x left) (let f : Joins k ≡ Joins q = e in cc))
      go done is e = absurd (let f : Ended ≡ Joins q = e in cc)
      go (trapped tr) is e = absurd (let f : Ended ≡ Joins q = e in cc)

  pub ended_phase : next s r l ≡ Ended → (q : Path) (left : Option Name)
      → (l.phase ≢ running) × (l.phase ≢ joining q left)
  ended_phase e q left = (not_running, not_joining)
    where
      not_running : l.phase ≢ running
      not_running is = subst IsOwn (sym (ap (by_phase s r l) is) ∙ e) (running_own is)

      not_joining : l.phase ≢ joining q left
      not_joining is = let f : Joins q ≡ Ended = sym (ap (by_phase s r l) is) ∙ e in cc
