-- The trails of the handles have exactly the uses in loops.
use Rattle.std.proofs.Common.{◌≡◌, ◌∙◌, ℕ, ◌⊎◌, inl, inr, Bool, true, false, ◌&&◌, ◌||◌, Option, Some, None, List, [], ◌∷◌, ◌++◌, refl, sym, ap, subst}
use Rattle.std.specs.Prelude.{if◌then◌else◌}
use Rattle.rev_num.specs.declared.value.ValueKind.{ValueKind}
use Rattle.rev_num.specs.declared.value.ValueKind.TheVariants as k
use Rattle.rev_syntax.specs.Trees.{Expression, placed, int, bool, no_rev, var, cell, apply, input, inputs, pick, unary, chain, Expressions, no_expressions, expression, RightSide, plain, called, forked, tried, Statement, statement, StatementForm, bind, assign, assign_cell, choose, choose_or, repeat, call, return, fork, join, print, assert, Statements, no_statements, statements, Arms, no_arms, arm}
use Rattle.rev_syntax.proofs.Lists.{same-self}
use Rattle.name_tables.specs.Names.{Name, same}
use Rattle.name_tables.specs.Table.{find}
use Rattle.name_tables.proofs.Tables.{same_equal}
use Rattle.typed_programs.specs.Kinds.{Names, Locals}
use Rattle.typed_programs.specs.Scopes.{locals_after}
use Rattle.affine_check.specs.Live.{statement_passes}
use Rattle.affine_check.specs.SecondUses.{if_rev}
use Rattle.affine_check.specs.Places.{use_places, uses_places, right_side_use_places, value_use_places, outer_uses, statement_outer_uses, statement_form_outer_uses, arms_outer_uses, loop_uses, statement_loop_uses, statement_form_loop_uses, arms_loop_uses}
use Rattle.affine_check.specs.declared.fault.AffineFault.TheVariants.{InLoop}
use Rattle.affine_check.specs.Walk.{named}
use Rattle.affine_check.proofs.Bounds.{or-false, upto, any}
use Rattle.affine_check.proofs.Trails.{in_loop, loops_args, loops_right, loops_value, loops, loops_statement, loops_form, loops_arms}
use Rattle.affine_check.proofs.Found.{handles_form, handles_arms}
use Rattle.affine_check.proofs.Handles.{Holds, either, left, right, never, arm_both, any_either, any_left, any_right, any_arms, IsHandle, SomeHandle, Binds, scope_handle, scope_was, follows, bound_trail, trails, trails_of}

module _ (last_place last_rank : ℕ) where
  abbrev pub loops_in : List ℕ → Bool
  loops_in ps = any last_place last_rank (λ at. InLoop at) ps

  loop_use : (l : Locals) (x : Expression) → Holds (loops_in (use_places l x))
      → SomeHandle l (λ n. in_loop last_place last_rank n true (named n x))
  loop_use l (placed at (int z)) h = never h
  loop_use l (placed at (bool z)) h = never h
  loop_use l (placed at no_rev) h = never h
  loop_use l (placed at (var w)) h = (
    w.text,
    (by (find w.text l) h).0,
    subst (λ d. Holds (in_loop last_place last_rank w.text true (if d then Some w.at else None)))
        (sym (same-self w.text)) (by (find w.text l) h).1,
  )
    where
      by : (m : Option (Option ValueKind)) → Holds (loops_in (if_rev m (w.at ∷ [])))
          → (m ≡ Some (Some k.Rev)) × Holds (upto last_place last_rank (InLoop w.at))
      by None i = never i
      by (Some None) i = never i
      by (Some (Some k.Int)) i = never i
      by (Some (Some k.Bool)) i = never i
      by (Some (Some k.Rev)) i = (refl, sym (or-false (upto last_place last_rank (InLoop w.at))) ∙ i)
  loop_use l (placed at (cell w index)) h = never h
  loop_use l (placed at (apply w args)) h = never h
  loop_use l (placed at (input i index)) h = never h
  loop_use l (placed at (inputs i)) h = never h
  loop_use l (placed at (pick test x y)) h = never h
  loop_use l (placed at (unary op e)) h = never h
  loop_use l (placed at (chain first rest)) h = never h

  use_in_loop : (l : Locals) (x : Expression) (n : Name) → IsHandle l n
      → Holds (in_loop last_place last_rank n true (named n x)) → Holds (loops_in (use_places l x))
  use_in_loop l (placed at (int z)) n is h = never h
  use_in_loop l (placed at (bool z)) n is h = never h
  use_in_loop l (placed at no_rev) n is h = never h
  use_in_loop l (placed at (var w)) n is h = by (same n w.text) refl h
    where
      by : (d : Bool) → same n w.text ≡ d → Holds (in_loop last_place last_rank n true (if d then Some w.at else None))
          → Holds (loops_in (if_rev (find w.text l) (w.at ∷ [])))
      by false e i = never i
      by true e i =
          subst (λ m. Holds (loops_in (if_rev m (w.at ∷ []))))
          (sym (ap (λ m. find m l) (sym (same_equal n w.text e)) ∙ is))
          (left (upto last_place last_rank (InLoop w.at)) false i)
  use_in_loop l (placed at (cell w index)) n is h = never h
  use_in_loop l (placed at (apply w args)) n is h = never h
  use_in_loop l (placed at (input i index)) n is h = never h
  use_in_loop l (placed at (inputs i)) n is h = never h
  use_in_loop l (placed at (pick test x y)) n is h = never h
  use_in_loop l (placed at (unary op e)) n is h = never h
  use_in_loop l (placed at (chain first rest)) n is h = never h

  -- of one part or another
  merged : (l : Locals) (P Q : Name → Bool) → SomeHandle l P ⊎ SomeHandle l Q → SomeHandle l (λ n. P n || Q n)
  merged l P Q (inl u) = (u.0, u.1, left (P u.0) (Q u.0) u.2)
  merged l P Q (inr u) = (u.0, u.1, right (P u.0) (Q u.0) u.2)

  each_loop : {A B : Type 0} (xs ys : List ℕ) → (Holds (loops_in xs) → A) → (Holds (loops_in ys) → B)
      → Holds (loops_in (xs ++ ys)) → A ⊎ B
  each_loop {A} {B} xs ys f g h = by (any_either last_place last_rank (λ at. InLoop at) xs ys h)
    where
      by : Holds (loops_in xs) ⊎ Holds (loops_in ys) → A ⊎ B
      by (inl i) = inl (f i)
      by (inr i) = inr (g i)

  either_loop : (xs ys : List ℕ) (a b : Bool) → (Holds a → Holds (loops_in xs)) → (Holds b → Holds (loops_in ys))
      → Holds (a || b) → Holds (loops_in (xs ++ ys))
  either_loop xs ys a b f g h =
      arm_both (either a b h) (λ i. any_left last_place last_rank (λ at. InLoop at) xs ys (f i))
      (λ i. any_right last_place last_rank (λ at. InLoop at) xs ys (g i))

  loop_args : (l : Locals) (xs : Expressions) → Holds (loops_in (uses_places l xs))
      → SomeHandle l (λ n. loops_args last_place last_rank n true xs)
  loop_args l no_expressions h = never h
  loop_args l (expression x xs) h =
      merged l (λ n. in_loop last_place last_rank n true (named n x)) (λ n. loops_args last_place last_rank n true xs)
      (each_loop (use_places l x) (uses_places l xs) (loop_use l x) (loop_args l xs) h)

  args_in_loop : (l : Locals) (xs : Expressions) (n : Name) → IsHandle l n
      → Holds (loops_args last_place last_rank n true xs) → Holds (loops_in (uses_places l xs))
  args_in_loop l no_expressions n is h = never h
  args_in_loop l (expression x xs) n is h =
      either_loop (use_places l x) (uses_places l xs) (in_loop last_place last_rank n true (named n x))
      (loops_args last_place last_rank n true xs) (use_in_loop l x n is) (args_in_loop l xs n is) h

  loop_right : (l : Locals) (r : RightSide) → Holds (loops_in (right_side_use_places l r))
      → SomeHandle l (λ n. loops_right last_place last_rank n true r)
  loop_right l (plain e) h = never h
  loop_right l (called at w args) h = loop_args l args h
  loop_right l (forked at w args) h = loop_args l args h
  loop_right l (tried at handle) h = loop_use l handle h

  right_in_loop : (l : Locals) (r : RightSide) (n : Name) → IsHandle l n
      → Holds (loops_right last_place last_rank n true r) → Holds (loops_in (right_side_use_places l r))
  right_in_loop l (plain e) n is h = never h
  right_in_loop l (called at w args) n is h = args_in_loop l args n is h
  right_in_loop l (forked at w args) n is h = args_in_loop l args n is h
  right_in_loop l (tried at handle) n is h = use_in_loop l handle n is h

  loop_value : (l : Locals) (e : Option Expression) → Holds (loops_in (value_use_places l e))
      → SomeHandle l (λ n. loops_value last_place last_rank n true e)
  loop_value l None h = never h
  loop_value l (Some e) h = loop_use l e h

  value_in_loop : (l : Locals) (e : Option Expression) (n : Name) → IsHandle l n
      → Holds (loops_value last_place last_rank n true e) → Holds (loops_in (value_use_places l e))
  value_in_loop l None n is h = never h
  value_in_loop l (Some e) n is h = use_in_loop l e n is h

  widen : (a b x y : Bool) → (Holds a → Holds x) → (Holds b → Holds y) → Holds (a || b) → Holds (x || y)
  widen a b x y f g h = arm_both (either a b h) (λ i. left x y (f i)) (λ i. right x y (g i))

  arms_last : (n : Name) (inside : Bool) (xs : Arms) (other : Bool) → Holds other
      → Holds (loops_arms last_place last_rank n inside xs other)
  arms_last n inside no_arms other h = h
  arms_last n inside (arm test body rest) other h =
      right (loops last_place last_rank n inside body) (loops_arms last_place last_rank n inside rest other)
      (arms_last n inside rest other h)

  -- outside of loops there is no use in one
  no_use : {A : Type 0} (n : Name) (o : Option ℕ) → Holds (in_loop last_place last_rank n false o) → A
  no_use n None h = never h
  no_use n (Some at) h = never h

  no_args : {A : Type 0} (n : Name) (xs : Expressions) → Holds (loops_args last_place last_rank n false xs) → A
  no_args n no_expressions h = never h
  no_args {A} n (expression x xs) h =
      arm_both
      (either (in_loop last_place last_rank n false (named n x)) (loops_args last_place last_rank n false xs) h)
      (λ i. no_use n (named n x) i) (λ i. no_args {A = A} n xs i)

  no_right : {A : Type 0} (n : Name) (r : RightSide) → Holds (loops_right last_place last_rank n false r) → A
  no_right n (plain e) h = never h
  no_right n (called at w args) h = no_args n args h
  no_right n (forked at w args) h = no_args n args h
  no_right n (tried at handle) h = no_use n (named n handle) h

  no_value : {A : Type 0} (n : Name) (e : Option Expression) → Holds (loops_value last_place last_rank n false e) → A
  no_value n None h = never h
  no_value n (Some e) h = no_use n (named n e) h

  -- any use in the statements
  mutual
    outer_complete : (l : Locals) (xs : Statements) → Holds (loops_in (outer_uses l xs))
        → SomeHandle l (λ n. loops last_place last_rank n true xs)
    outer_complete l no_statements h = never h
    outer_complete l (statements x rest) h =
        merged l (λ n. loops_statement last_place last_rank n true x) (λ n. loops last_place last_rank n true rest)
        (each_loop (statement_outer_uses l x) (outer_uses l rest) (outer_statement l x) (outer_complete l rest) h)

    outer_statement : (l : Locals) (x : Statement) → Holds (loops_in (statement_outer_uses l x))
        → SomeHandle l (λ n. loops_statement last_place last_rank n true x)
    outer_statement l (statement at line form) h = outer_form l form h

    outer_form : (l : Locals) (x : StatementForm) → Holds (loops_in (statement_form_outer_uses l x))
        → SomeHandle l (λ n. loops_form last_place last_rank n true x)
    outer_form l (bind w r) h = loop_right l r h
    outer_form l (assign w r) h = loop_right l r h
    outer_form l (assign_cell w index e) h = never h
    outer_form l (choose arms) h = outer_arms l arms (λ n. false) h
    outer_form l (choose_or arms last) h =
        arm_both (each_loop (arms_outer_uses l arms) (outer_uses l last)
        (outer_arms l arms (λ n. loops last_place last_rank n true last)) (outer_complete l last) h)
        (λ u. u)
        (λ u. (u.0, u.1, arms_last u.0 true arms (loops last_place last_rank u.0 true last) u.2))
    outer_form l (repeat test body) h = outer_complete l body h
    outer_form l (call w args) h = loop_args l args h
    outer_form l (return e) h = loop_value l e h
    outer_form l (fork w args) h = loop_args l args h
    outer_form l (join handle) h = loop_use l handle h
    outer_form l (print items) h = never h
    outer_form l (assert test) h = never h

    outer_arms : (l : Locals) (xs : Arms) (others : Name → Bool) → Holds (loops_in (arms_outer_uses l xs))
        → SomeHandle l (λ n. loops_arms last_place last_rank n true xs (others n))
    outer_arms l no_arms others h = never h
    outer_arms l (arm test body rest) others h =
        merged l (λ n. loops last_place last_rank n true body)
        (λ n. loops_arms last_place last_rank n true rest (others n))
        (each_loop (outer_uses l body) (arms_outer_uses l rest) (outer_complete l body) (outer_arms l rest others) h)

  mutual
    outer_sound : (l : Locals) (xs : Statements) (n : Name) → IsHandle l n
        → Holds (loops last_place last_rank n true xs) → Holds (loops_in (outer_uses l xs))
    outer_sound l no_statements n is h = never h
    outer_sound l (statements x rest) n is h =
        either_loop (statement_outer_uses l x) (outer_uses l rest) (loops_statement last_place last_rank n true x)
        (loops last_place last_rank n true rest) (statement_outer l x n is) (outer_sound l rest n is) h

    statement_outer : (l : Locals) (x : Statement) (n : Name) → IsHandle l n
        → Holds (loops_statement last_place last_rank n true x) → Holds (loops_in (statement_outer_uses l x))
    statement_outer l (statement at line form) n is h = form_outer l form n is h

    form_outer : (l : Locals) (x : StatementForm) (n : Name) → IsHandle l n
        → Holds (loops_form last_place last_rank n true x) → Holds (loops_in (statement_form_outer_uses l x))
    form_outer l (bind w r) n is h = right_in_loop l r n is h
    form_outer l (assign w r) n is h = right_in_loop l r n is h
    form_outer l (assign_cell w index e) n is h = never h
    form_outer l (choose arms) n is h = arm_both (arms_outer l arms n is false h) (λ i. i) (λ i. never i)
    form_outer l (choose_or arms last) n is h =
        arm_both (arms_outer l arms n is (loops last_place last_rank n true last) h)
        (λ i. any_left last_place last_rank (λ at. InLoop at) (arms_outer_uses l arms) (outer_uses l last) i)
        (λ i. any_right last_place last_rank (λ at. InLoop at) (arms_outer_uses l arms) (outer_uses l last)
        (outer_sound l last n is i))
    form_outer l (repeat test body) n is h = outer_sound l body n is h
    form_outer l (call w args) n is h = args_in_loop l args n is h
    form_outer l (return e) n is h = value_in_loop l e n is h
    form_outer l (fork w args) n is h = args_in_loop l args n is h
    form_outer l (join handle) n is h = use_in_loop l handle n is h
    form_outer l (print items) n is h = never h
    form_outer l (assert test) n is h = never h

    arms_outer : (l : Locals) (xs : Arms) (n : Name) → IsHandle l n → (other : Bool)
        → Holds (loops_arms last_place last_rank n true xs other)
        → Holds (loops_in (arms_outer_uses l xs)) ⊎ Holds other
    arms_outer l no_arms n is other h = inr h
    arms_outer l (arm test body rest) n is other h =
        any_arms last_place last_rank (λ at. InLoop at) (outer_uses l body) (arms_outer_uses l rest)
        (either (loops last_place last_rank n true body) (loops_arms last_place last_rank n true rest other) h)
        (outer_sound l body n is) (arms_outer l rest n is other)

  -- what stands in a loop stands in one that is in another
  mutual
    deeper : (n : Name) (xs : Statements) → Holds (loops last_place last_rank n false xs)
        → Holds (loops last_place last_rank n true xs)
    deeper n no_statements h = never h
    deeper n (statements x rest) h =
        widen (loops_statement last_place last_rank n false x) (loops last_place last_rank n false rest)
        (loops_statement last_place last_rank n true x) (loops last_place last_rank n true rest) (deeper_statement n x)
        (deeper n rest) h

    deeper_statement : (n : Name) (x : Statement) → Holds (loops_statement last_place last_rank n false x)
        → Holds (loops_statement last_place last_rank n true x)
    deeper_statement n (statement at line form) h = deeper_form n form h

    deeper_form : (n : Name) (x : StatementForm) → Holds (loops_form last_place last_rank n false x)
        → Holds (loops_form last_place last_rank n true x)
    deeper_form n (bind w r) h = no_right n r h
    deeper_form n (assign w r) h = no_right n r h
    deeper_form n (assign_cell w index e) h = never h
    deeper_form n (choose arms) h = deeper_arms n arms false false (λ i. i) h
    deeper_form n (choose_or arms last) h =
        deeper_arms n arms (loops last_place last_rank n false last) (loops last_place last_rank n true last)
        (deeper n last) h
    deeper_form n (repeat test body) h = h
    deeper_form n (call w args) h = no_args n args h
    deeper_form n (return e) h = no_value n e h
    deeper_form n (fork w args) h = no_args n args h
    deeper_form n (join handle) h = no_use n (named n handle) h
    deeper_form n (print items) h = never h
    deeper_form n (assert test) h = never h

    deeper_arms : (n : Name) (xs : Arms) (a b : Bool) → (Holds a → Holds b)
        → Holds (loops_arms last_place last_rank n false xs a) → Holds (loops_arms last_place last_rank n true xs b)
    deeper_arms n no_arms a b f h = f h
    deeper_arms n (arm test body rest) a b f h =
        widen (loops last_place last_rank n false body) (loops_arms last_place last_rank n false rest a)
        (loops last_place last_rank n true body) (loops_arms last_place last_rank n true rest b) (deeper n body)
        (deeper_arms n rest a b f) h

  module _ (c : Names) where
    -- in a loop of the trail of a handle in scope, or in the trail of one that is bound here
    abbrev InTrails : Locals → (Name → Bool) → Bool → Type 0
    InTrails l P bound_here = SomeHandle l P ⊎ Holds bound_here

    both_trails : (l : Locals) (P Q : Name → Bool) (a b : Bool) → InTrails l P a ⊎ InTrails l Q b
        → InTrails l (λ n. P n || Q n) (a || b)
    both_trails l P Q a b (inl (inl u)) = inl (merged l P Q (inl u))
    both_trails l P Q a b (inl (inr t)) = inr (left a b t)
    both_trails l P Q a b (inr (inl u)) = inl (merged l P Q (inr u))
    both_trails l P Q a b (inr (inr t)) = inr (right a b t)

    scope_trails : (l : Locals) (first : Bool) (x : Statement) (rest : Statements)
        → InTrails (locals_after c l x) (λ n. loops last_place last_rank n false rest)
        (trails last_place last_rank c (locals_after c l x) (first && statement_passes x) rest)
        → InTrails l (λ n. loops last_place last_rank n false (statements x rest))
        (trails last_place last_rank c l first (statements x rest))
    scope_trails l first x rest (inr t) =
        inr (right (trails_of last_place last_rank c l first rest x)
        (trails last_place last_rank c (locals_after c l x) (first && statement_passes x) rest) t)
    scope_trails l first x rest (inl u) = by (scope_was c l x u.0 u.1)
      where
        by : IsHandle l u.0 ⊎ Binds x u.0
            → InTrails l (λ n. loops last_place last_rank n false (statements x rest))
            (trails last_place last_rank c l first (statements x rest))
        by (inl old) = inl (
          u.0,
          old,
          right (loops_statement last_place last_rank u.0 false x) (loops last_place last_rank u.0 false rest) u.2,
        )
        by (inr b) = inr (left (trails_of last_place last_rank c l first rest x)
            (trails last_place last_rank c (locals_after c l x) (first && statement_passes x) rest)
            (bound_trail last_place last_rank c first l rest x u.0 [] b u.1 refl
            (left (loops last_place last_rank u.0 false rest) (first && follows last_place last_rank u.0 rest []) u.2)))

    first_trails : (l : Locals) (first : Bool) (x : Statement) (rest : Statements)
        → InTrails l (λ n. loops_statement last_place last_rank n false x)
        (trails_of last_place last_rank c l first rest x)
        → InTrails l (λ n. loops last_place last_rank n false (statements x rest))
        (trails last_place last_rank c l first (statements x rest))
    first_trails l first x rest (inl u) = inl (
      u.0,
      u.1,
      left (loops_statement last_place last_rank u.0 false x) (loops last_place last_rank u.0 false rest) u.2,
    )
    first_trails l first x rest (inr t) =
        inr (left (trails_of last_place last_rank c l first rest x)
        (trails last_place last_rank c (locals_after c l x) (first && statement_passes x) rest) t)

    turn_trails : (l : Locals) (body : Statements) (a : Bool)
        → SomeHandle l (λ n. loops last_place last_rank n true body)
        ⊎ InTrails l (λ n. loops last_place last_rank n false body) a
        → InTrails l (λ n. loops last_place last_rank n true body) a
    turn_trails l body a (inl u) = inl u
    turn_trails l body a (inr (inl u)) = inl (u.0, u.1, deeper u.0 body u.2)
    turn_trails l body a (inr (inr t)) = inr t

    last_trails : (l : Locals) (arms : Arms) (last : Statements) (a b : Bool)
        → InTrails l (λ n. loops_arms last_place last_rank n false arms (loops last_place last_rank n false last)) a
        ⊎ InTrails l (λ n. loops last_place last_rank n false last) b
        → InTrails l (λ n. loops_arms last_place last_rank n false arms (loops last_place last_rank n false last))
        (a || b)
    last_trails l arms last a b (inl (inl u)) = inl u
    last_trails l arms last a b (inl (inr t)) = inr (left a b t)
    last_trails l arms last a b (inr (inl u)) =
        inl (u.0, u.1, arms_last u.0 false arms (loops last_place last_rank u.0 false last) u.2)
    last_trails l arms last a b (inr (inr t)) = inr (right a b t)

    mutual
      pub loops_complete : (l : Locals) (xs : Statements) (first : Bool) → Holds (loops_in (loop_uses c l xs))
          → InTrails l (λ n. loops last_place last_rank n false xs) (trails last_place last_rank c l first xs)
      loops_complete l no_statements first h = never h
      loops_complete l (statements x rest) first h =
          arm_both (each_loop (statement_loop_uses c l x) (loop_uses c (locals_after c l x) rest)
          (λ i. loops_statement_complete l x rest first i)
          (λ i. loops_complete (locals_after c l x) rest (first && statement_passes x) i) h)
          (first_trails l first x rest) (scope_trails l first x rest)

      loops_statement_complete : (l : Locals) (x : Statement) (rest : Statements) (first : Bool)
          → Holds (loops_in (statement_loop_uses c l x))
          → InTrails l (λ n. loops_statement last_place last_rank n false x)
          (trails_of last_place last_rank c l first rest x)
      loops_statement_complete l (statement at line form) rest first h = loops_form_complete l form rest first h

      loops_form_complete : (l : Locals) (x : StatementForm) (rest : Statements) (first : Bool)
          → Holds (loops_in (statement_form_loop_uses c l x))
          → InTrails l (λ n. loops_form last_place last_rank n false x)
          (handles_form last_place last_rank c l first rest x)
      loops_form_complete l (bind w r) rest first h = never h
      loops_form_complete l (assign w r) rest first h = never h
      loops_form_complete l (assign_cell w index e) rest first h = never h
      loops_form_complete l (choose arms) rest first h = loops_arms_complete l arms (λ n. false) first h
      loops_form_complete l (choose_or arms last) rest first h =
          last_trails l arms last (handles_arms last_place last_rank c l first arms)
          (trails last_place last_rank c l first last)
          (each_loop (arms_loop_uses c l arms) (loop_uses c l last)
          (λ i. loops_arms_complete l arms (λ n. loops last_place last_rank n false last) first i)
          (λ i. loops_complete l last first i) h)
      loops_form_complete l (repeat test body) rest first h =
          turn_trails l body (trails last_place last_rank c l first body)
          (each_loop (outer_uses l body) (loop_uses c l body) (outer_complete l body)
          (λ i. loops_complete l body first i) h)
      loops_form_complete l (call w args) rest first h = never h
      loops_form_complete l (return e) rest first h = never h
      loops_form_complete l (fork w args) rest first h = never h
      loops_form_complete l (join handle) rest first h = never h
      loops_form_complete l (print items) rest first h = never h
      loops_form_complete l (assert test) rest first h = never h

      loops_arms_complete : (l : Locals) (xs : Arms) (others : Name → Bool) (first : Bool)
          → Holds (loops_in (arms_loop_uses c l xs))
          → InTrails l (λ n. loops_arms last_place last_rank n false xs (others n))
          (handles_arms last_place last_rank c l first xs)
      loops_arms_complete l no_arms others first h = never h
      loops_arms_complete l (arm test body rest) others first h =
          both_trails l (λ n. loops last_place last_rank n false body)
          (λ n. loops_arms last_place last_rank n false rest (others n)) (trails last_place last_rank c l first body)
          (handles_arms last_place last_rank c l first rest)
          (each_loop (loop_uses c l body) (arms_loop_uses c l rest) (λ i. loops_complete l body first i)
          (λ i. loops_arms_complete l rest others first i) h)

    mutual
      pub loops_sound : (l : Locals) (xs : Statements) (n : Name) → IsHandle l n
          → Holds (loops last_place last_rank n false xs) → Holds (loops_in (loop_uses c l xs))
      loops_sound l no_statements n is h = never h
      loops_sound l (statements x rest) n is h =
          either_loop (statement_loop_uses c l x) (loop_uses c (locals_after c l x) rest)
          (loops_statement last_place last_rank n false x) (loops last_place last_rank n false rest)
          (loops_statement_sound l x n is) (loops_sound (locals_after c l x) rest n (scope_handle c l x n is)) h

      loops_statement_sound : (l : Locals) (x : Statement) (n : Name) → IsHandle l n
          → Holds (loops_statement last_place last_rank n false x) → Holds (loops_in (statement_loop_uses c l x))
      loops_statement_sound l (statement at line form) n is h = loops_form_sound l form n is h

      loops_form_sound : (l : Locals) (x : StatementForm) (n : Name) → IsHandle l n
          → Holds (loops_form last_place last_rank n false x) → Holds (loops_in (statement_form_loop_uses c l x))
      loops_form_sound l (bind w r) n is h = no_right n r h
      loops_form_sound l (assign w r) n is h = no_right n r h
      loops_form_sound l (assign_cell w index e) n is h = never h
      loops_form_sound l (choose arms) n is h = arm_both (loops_arms_sound l arms n is false h) (λ i. i) (λ i. never i)
      loops_form_sound l (choose_or arms last) n is h =
          arm_both (loops_arms_sound l arms n is (loops last_place last_rank n false last) h)
          (λ i. any_left last_place last_rank (λ at. InLoop at) (arms_loop_uses c l arms) (loop_uses c l last) i)
          (λ i. any_right last_place last_rank (λ at. InLoop at) (arms_loop_uses c l arms) (loop_uses c l last)
          (loops_sound l last n is i))
      loops_form_sound l (repeat test body) n is h =
          any_left last_place last_rank (λ at. InLoop at) (outer_uses l body) (loop_uses c l body)
          (outer_sound l body n is h)
      loops_form_sound l (call w args) n is h = no_args n args h
      loops_form_sound l (return e) n is h = no_value n e h
      loops_form_sound l (fork w args) n is h = no_args n args h
      loops_form_sound l (join handle) n is h = no_use n (named n handle) h
      loops_form_sound l (print items) n is h = never h
      loops_form_sound l (assert test) n is h = never h

      loops_arms_sound : (l : Locals) (xs : Arms) (n : Name) → IsHandle l n → (other : Bool)
          → Holds (loops_arms last_place last_rank n false xs other)
          → Holds (loops_in (arms_loop_uses c l xs)) ⊎ Holds other
      loops_arms_sound l no_arms n is other h = inr h
      loops_arms_sound l (arm test body rest) n is other h =
          any_arms last_place last_rank (λ at. InLoop at) (loop_uses c l body) (arms_loop_uses c l rest)
          (either (loops last_place last_rank n false body) (loops_arms last_place last_rank n false rest other) h)
          (loops_sound l body n is) (loops_arms_sound l rest n is other)
