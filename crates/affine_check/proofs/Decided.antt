-- What the checker finds is the first breach of a typed program.
use Rattle.std.proofs.Common.{◌≡◌, ◌∙◌, ℕ, ◌<◌, ◌≤◌, ◌⊎◌, inl, inr, Bool, true, false, cond, ◌&&◌, ◌||◌, Option, Some, None, List, [], ◌∷◌, ◌++◌, refl, sym, ap, subst, arith}
use Rattle.std.proofs.lemmas.Bool.Decides.{nat_tests}
use Rattle.rev_num.specs.declared.value.ValueKind.{ValueKind}
use Rattle.rev_num.specs.declared.value.ValueKind.TheVariants as k
use Rattle.rev_syntax.specs.Trees.{PlacedName, Parameter, RightSide, Statement, statement, bind, assign, assign_cell, choose, choose_or, repeat, call, return, fork, join, print, assert, Statements, no_statements, statements, Arms, no_arms, arm, Declaration, fun, merge, shared, proc, ProgramTree}
use Rattle.typed_programs.specs.Least.{is_less, Among}
use Rattle.name_tables.specs.Names.{Name}
use Rattle.name_tables.specs.Table.{find, added}
use Rattle.typed_programs.specs.Kinds.{Names, Locals}
use Rattle.rev_kinds.specs.declared.names.Checker as held_checker
use Rattle.rev_kinds.specs.Walk.{names_of}
use Rattle.rev_types.specs.Tables.{shared_table, proc_table, fun_table, callees}
use Rattle.rev_types.proofs.Named.{outer_names}
use Rattle.typed_programs.specs.Judgement.{StatementTyped, StatementsTyped, ArmsTyped, DeclarationsTyped, ProgramTyped}
use Rattle.typed_programs.specs.Scopes.{locals_after, outside, within, with_params, bound}
use Rattle.typed_programs.proofs.Scopes.{statement_scope}
use Rattle.affine_check.specs.Affine.{Breach, copied, stored, used_twice, in_loop, number, Breaks, IsAffine, IsFirstBroken}
use Rattle.affine_check.specs.Live.{statement_passes}
use Rattle.affine_check.specs.SecondUses.{ahead, twice, statement_twice, arms_twice}
use Rattle.affine_check.specs.Places.{copies, stores, loop_uses, statement_loop_uses, arms_loop_uses, outer_uses, body_places, declarations_places, places}
use Rattle.affine_check.proofs.Places.{places_found, places_sound}
use Rattle.affine_check.specs.declared.fault.AffineFault.{AffineFault}
use Rattle.affine_check.specs.declared.fault.AffineFault.TheVariants.{Copied, Stored, UsedTwice, InLoop, OutOfMemory}
use Rattle.affine_check.specs.Faults.{place, rank, Refuses}
use Rattle.affine_check.specs.Walk.{Fault, both, misused, broken_in, misused_params, broken_body, broken_declaration, broken_declarations, broken_under, broken_in_program}
use Rattle.affine_check.proofs.Bounds.{or-assoc, or-false, upto, meets, any, meets-both}
use Rattle.affine_check.proofs.Found.{copy, store, handles_arms, broken_is}
use Rattle.affine_check.proofs.Handles.{Holds, either, left, right, never, arm_both, both_hold, pass, IsHandle, SomeHandle, Closed, was_handle, scope_free, twice_in, any_either, any_left, any_right, none_append, follows, looped, trails, trails_of, misuse_is, misuse_of, free_ahead, complete, sound}
use Rattle.affine_check.proofs.InLoops.{loops_in, loops_complete, loops_sound}

-- a breach as a fault
abbrev pub fault_of : Breach → ℕ → AffineFault
fault_of copied at = Copied at
fault_of stored at = Stored at
fault_of used_twice at = UsedTwice at
fault_of in_loop at = InLoop at

module _ (last_place last_rank : ℕ) (c : Names) where
  abbrev Twice : Bool → List ℕ → Type 0
  Twice first ps = Holds first × Holds (twice_in last_place last_rank ps)

  abbrev Loops : List ℕ → Type 0
  Loops ps = Holds (loops_in last_place last_rank ps)

  -- a second use or a use in a loop, in a statement or in those behind it
  abbrev InTrail : Locals → Bool → Statement → Statements → (Name → List ℕ) → Type 0
  InTrail l first x rest K =
      (Twice first (statement_twice c l x (λ n. ahead n rest (K n)))
      ⊎ (Holds first × Holds (statement_passes x)
      × Holds (twice_in last_place last_rank (twice c (locals_after c l x) rest K))))
      ⊎ (Loops (statement_loop_uses c l x) ⊎ Loops (loop_uses c (locals_after c l x) rest))

  nested : {A B Q R : Type 0} → A ⊎ B → (A ⊎ Q) ⊎ (B ⊎ R)
  nested (inl t) = inl (inl t)
  nested (inr u) = inr (inl u)

  -- of two parts
  joined : (first : Bool) (ps qs rs ss : List ℕ) → (Twice first ps ⊎ Loops rs) ⊎ (Twice first qs ⊎ Loops ss)
      → Twice first (ps ++ qs) ⊎ Loops (rs ++ ss)
  joined first ps qs rs ss (inl (inl t)) = inl (t.0, any_left last_place last_rank (λ at. UsedTwice at) ps qs t.1)
  joined first ps qs rs ss (inl (inr u)) = inr (any_left last_place last_rank (λ at. InLoop at) rs ss u)
  joined first ps qs rs ss (inr (inl t)) = inl (t.0, any_right last_place last_rank (λ at. UsedTwice at) ps qs t.1)
  joined first ps qs rs ss (inr (inr u)) = inr (any_right last_place last_rank (λ at. InLoop at) rs ss u)

  each_of : {P Q : Type 0} (a b : Bool) → (Holds a → P) → (Holds b → Q) → Holds (a || b) → P ⊎ Q
  each_of {P} {Q} a b f g h = by (either a b h)
    where
      by : Holds a ⊎ Holds b → P ⊎ Q
      by (inl i) = inl (f i)
      by (inr i) = inr (g i)

  behind_first : (l : Locals) (first : Bool) (x : Statement) (rest : Statements) (K : Name → List ℕ)
      → InTrail l first x rest K
      → Twice first (twice c l (statements x rest) K) ⊎ Loops (loop_uses c l (statements x rest))
  behind_first l first x rest K (inl (inl t)) = inl (
    t.0,
    any_left last_place last_rank (λ at. UsedTwice at) (statement_twice c l x (λ n. ahead n rest (K n)))
        (cond (statement_passes x) (twice c (locals_after c l x) rest K) []) t.1,
  )
  behind_first l first x rest K (inl (inr t)) =
      inl (
        t.0,
        any_right last_place last_rank (λ at. UsedTwice at) (statement_twice c l x (λ n. ahead n rest (K n)))
            (cond (statement_passes x) (twice c (locals_after c l x) rest K) [])
            (pass last_place last_rank c (statement_passes x) (twice c (locals_after c l x) rest K) t.1 t.2),
      )
  behind_first l first x rest K (inr (inl u)) =
      inr (any_left last_place last_rank (λ at. InLoop at) (statement_loop_uses c l x)
      (loop_uses c (locals_after c l x) rest) u)
  behind_first l first x rest K (inr (inr u)) =
      inr (any_right last_place last_rank (λ at. InLoop at) (statement_loop_uses c l x)
      (loop_uses c (locals_after c l x) rest) u)

  behind_rest : (l : Locals) (first : Bool) (x : Statement) (rest : Statements) (K : Name → List ℕ)
      → Twice (first && statement_passes x) (twice c (locals_after c l x) rest K)
      ⊎ Loops (loop_uses c (locals_after c l x) rest)
      → InTrail l first x rest K
  behind_rest l first x rest K (inl t) = let q = both_hold first (statement_passes x) t.0 in inl (inr (q.0, q.1, t.1))
  behind_rest l first x rest K (inr u) = inr (inr u)

  -- a handle that is bound
  of_bound : (l : Locals) (first : Bool) (w : PlacedName) (r : RightSide) (rest : Statements) (K : Name → List ℕ)
      → twice_in last_place last_rank (K w.text) ≡ false
      → Holds (meets last_place last_rank (misused first (find w.text (bound c l w r)) w.text rest))
      → (Holds first × Holds (twice_in last_place last_rank (twice c (bound c l w r) rest K)))
      ⊎ Loops (loop_uses c (bound c l w r) rest)
  of_bound l first w r rest K none h =
      let is = misuse_of last_place last_rank c first (find w.text (bound c l w r)) w.text rest h in
      by is (either (looped last_place last_rank w.text false rest)
      (first && follows last_place last_rank w.text rest (K w.text))
      (sym (misuse_is last_place last_rank c first (find w.text (bound c l w r)) w.text rest (K w.text) is none) ∙ h))
    where
      by : IsHandle (bound c l w r) w.text
          → Holds (looped last_place last_rank w.text false rest)
          ⊎ Holds (first && follows last_place last_rank w.text rest (K w.text))
          → (Holds first × Holds (twice_in last_place last_rank (twice c (bound c l w r) rest K)))
          ⊎ Loops (loop_uses c (bound c l w r) rest)
      by is (inl i) = inr (loops_sound last_place last_rank c (bound c l w r) rest w.text is i)
      by is (inr i) =
          let q = both_hold first (follows last_place last_rank w.text rest (K w.text)) i in
          inl (q.0, sound last_place last_rank c (bound c l w r) rest K w.text is q.1)

  bound_trail_found : {P Q R S : Type 0} {first : Bool} → (Holds first × Q) ⊎ S
      → (P ⊎ (Holds first × (true ≡ true) × Q)) ⊎ (R ⊎ S)
  bound_trail_found (inl t) = inl (inr (t.0, refl, t.1))
  bound_trail_found (inr u) = inr (inr u)

  of_turns : {Q R : Type 0} (l : Locals) (body : Statements) (K : Name → List ℕ) (first : Bool)
      → Twice first (twice c l body K) ⊎ Loops (loop_uses c l body)
      → (Twice first (twice c l body K) ⊎ Q) ⊎ (Loops (outer_uses l body ++ loop_uses c l body) ⊎ R)
  of_turns l body K first (inl t) = inl (inl t)
  of_turns l body K first (inr u) =
      inr (inl (any_right last_place last_rank (λ at. InLoop at) (outer_uses l body) (loop_uses c l body) u))

  mutual
    trails_sound : (result : Option ValueKind) (l : Locals) (xs : Statements) (first : Bool) (K : Name → List ℕ)
        → StatementsTyped c result l xs → Closed last_place last_rank c l K
        → Holds (trails last_place last_rank c l first xs) → Twice first (twice c l xs K) ⊎ Loops (loop_uses c l xs)
    trails_sound result l no_statements first K typed closed h = never h
    trails_sound result l (statements x rest) first K typed closed h =
        behind_first l first x rest K
        (arm_both (either (trails_of last_place last_rank c l first rest x)
        (trails last_place last_rank c (locals_after c l x) (first && statement_passes x) rest) h)
        (λ i. statement_sound result l typed.0 x rest first K typed.1 (λ n free. closed n free)
        (λ e n free.
        free_ahead last_place last_rank c n result typed.0 rest (K n) typed.2 (ap (λ m. find n m) e ∙ free.0, free.1)
        (closed n free))
        i)
        (λ i. behind_rest l first x rest K
        (trails_sound result (locals_after c l x) rest (first && statement_passes x) K
        (subst (λ m. StatementsTyped c result m rest) (statement_scope c result l typed.0 x typed.1) typed.2)
        (λ n free. closed n (scope_free c l x n free.0, free.1)) i)))

    statement_sound : (result : Option ValueKind) (l l' : Locals) (x : Statement) (rest : Statements) (first : Bool)
        (K : Name → List ℕ)
        → StatementTyped c result l x l' → Closed last_place last_rank c l K
        → (l' ≡ l → Closed last_place last_rank c l (λ n. ahead n rest (K n)))
        → Holds (trails_of last_place last_rank c l first rest x) → InTrail l first x rest K
    statement_sound result l l' (statement at line (bind w r)) rest first K typed closed ahead_closed h =
        bound_trail_found (of_bound l first w r rest K (closed w.text typed.0) h)
    statement_sound result l l' (statement at line (assign w r)) rest first K typed closed ahead_closed h = never h
    statement_sound result l l' (statement at line (assign_cell w index e)) rest first K typed closed ahead_closed h =
        never h
    statement_sound result l l' (statement at line (choose arms)) rest first K typed closed ahead_closed h =
        nested (arms_sound result l arms first (λ n. ahead n rest (K n)) typed.0 (ahead_closed typed.1) h)
    statement_sound result l l' (statement at line (choose_or arms last)) rest first K typed closed ahead_closed h =
        nested (joined first (arms_twice c l arms (λ n. ahead n rest (K n))) (twice c l last (λ n. ahead n rest (K n)))
        (arms_loop_uses c l arms) (loop_uses c l last)
        (each_of (handles_arms last_place last_rank c l first arms) (trails last_place last_rank c l first last)
        (λ i. arms_sound result l arms first (λ n. ahead n rest (K n)) typed.0.0 (ahead_closed typed.1) i)
        (λ i. trails_sound result l last first (λ n. ahead n rest (K n)) typed.0.1 (ahead_closed typed.1) i) h))
    statement_sound result l l' (statement at line (repeat test body)) rest first K typed closed ahead_closed h =
        of_turns l body (λ n. ahead n body [] ++ ahead n rest (K n)) first
        (trails_sound result l body first (λ n. ahead n body [] ++ ahead n rest (K n)) typed.0.1
        (λ n free.
        none_append last_place last_rank (ahead n body []) (ahead n rest (K n))
        (free_ahead last_place last_rank c n result l body [] typed.0.1 free refl) (ahead_closed typed.1 n free))
        h)
    statement_sound result l l' (statement at line (call w args)) rest first K typed closed ahead_closed h = never h
    statement_sound result l l' (statement at line (return e)) rest first K typed closed ahead_closed h = never h
    statement_sound result l l' (statement at line (fork w args)) rest first K typed closed ahead_closed h = never h
    statement_sound result l l' (statement at line (join handle)) rest first K typed closed ahead_closed h = never h
    statement_sound result l l' (statement at line (print items)) rest first K typed closed ahead_closed h = never h
    statement_sound result l l' (statement at line (assert test)) rest first K typed closed ahead_closed h = never h

    arms_sound : (result : Option ValueKind) (l : Locals) (xs : Arms) (first : Bool) (K : Name → List ℕ)
        → ArmsTyped c result l xs → Closed last_place last_rank c l K
        → Holds (handles_arms last_place last_rank c l first xs)
        → Twice first (arms_twice c l xs K) ⊎ Loops (arms_loop_uses c l xs)
    arms_sound result l no_arms first K typed closed h = never h
    arms_sound result l (arm test body rest) first K typed closed h =
        joined first (twice c l body K) (arms_twice c l rest K) (loop_uses c l body) (arms_loop_uses c l rest)
        (each_of (trails last_place last_rank c l first body) (handles_arms last_place last_rank c l first rest)
        (λ i. trails_sound result l body first K typed.1 closed i)
        (λ i. arms_sound result l rest first K typed.2 closed i) h)

  -- ---- bodies

  abbrev found_at : Fault → Bool
  found_at f = meets last_place last_rank f

  abbrev params_found : Locals → Statements → List Parameter → Bool
  params_found l body [] = false
  params_found l body (p ∷ ps) = found_at (misused true (find p.name.text l) p.name.text body) || params_found l body ps

  params_are : (l : Locals) (body : Statements) (f : Fault) (ps : List Parameter)
      → found_at (misused_params l body f ps) ≡ (found_at f || params_found l body ps)
  params_are l body f [] = sym (or-false (found_at f))
  params_are l body f (p ∷ ps) =
      params_are l body (both f (misused true (find p.name.text l) p.name.text body)) ps
      ∙ ap (λ b. b || params_found l body ps)
      (meets-both last_place last_rank f (misused true (find p.name.text l) p.name.text body))
      ∙ or-assoc (found_at f) (found_at (misused true (find p.name.text l) p.name.text body)) (params_found l body ps)

  abbrev Named : Name → List Parameter → Type 0
  Named n [] = ⊥
  Named n (p ∷ ps) = (n ≡ p.name.text) ⊎ Named n ps

  param_named : (n : Name) (ps : List Parameter) (l : Locals) → IsHandle (with_params l ps) n
      → IsHandle l n ⊎ Named n ps
  param_named n [] l h = inl h
  param_named n (p ∷ ps) l h = by (param_named n ps (added l p.name.text (Some p.kind)) h)
    where
      old : IsHandle l n ⊎ (n ≡ p.name.text) → IsHandle l n ⊎ Named n (p ∷ ps)
      old (inl i) = inl i
      old (inr e) = inr (inl e)

      by : IsHandle (added l p.name.text (Some p.kind)) n ⊎ Named n ps → IsHandle l n ⊎ Named n (p ∷ ps)
      by (inl i) = old (was_handle n p.name.text l (Some p.kind) i)
      by (inr i) = inr (inr i)

  abbrev misuses : Name → Statements → Bool
  misuses n body = looped last_place last_rank n false body || (true && follows last_place last_rank n body [])

  params_complete : (l : Locals) (body : Statements) (n : Name) (ps : List Parameter) → IsHandle l n → Named n ps
      → Holds (misuses n body) → Holds (params_found l body ps)
  params_complete l body n [] is named h = absurd named
  params_complete l body n (p ∷ ps) is (inl e) h =
      left (found_at (misused true (find p.name.text l) p.name.text body)) (params_found l body ps)
      (misuse_is last_place last_rank c true (find p.name.text l) p.name.text body [] (ap (λ m. find m l) (sym e) ∙ is)
      refl
      ∙ subst (λ m. Holds (misuses m body)) e h)
  params_complete l body n (p ∷ ps) is (inr named) h =
      right (found_at (misused true (find p.name.text l) p.name.text body)) (params_found l body ps)
      (params_complete l body n ps is named h)

  params_sound : (l : Locals) (body : Statements) (ps : List Parameter) → Holds (params_found l body ps)
      → SomeHandle l (λ n. misuses n body)
  params_sound l body [] h = never h
  params_sound l body (p ∷ ps) h =
      arm_both (either (found_at (misused true (find p.name.text l) p.name.text body)) (params_found l body ps) h) here
      (params_sound l body ps)
    where
      here : Holds (found_at (misused true (find p.name.text l) p.name.text body)) → SomeHandle l (λ n. misuses n body)
      here i =
          let is = misuse_of last_place last_rank c true (find p.name.text l) p.name.text body i in (
            p.name.text,
            is,
            sym (misuse_is last_place last_rank c true (find p.name.text l) p.name.text body [] is refl) ∙ i,
          )

  -- a breach of a body, at or before the bound
  abbrev hit : Breach → List ℕ → Bool
  hit b ps = any last_place last_rank (fault_of b) ps

  abbrev SomeHit : Locals → Statements → Type 0
  SomeHit l body = (b : Breach) × Holds (hit b (body_places c l body b))

  body_is : (ps : List Parameter) (body : Statements) → found_at (broken_body c ps body)
      ≡ (params_found (with_params [] ps) body ps
      || ((copy last_place last_rank (copies c (with_params [] ps) body) || store last_place last_rank (stores c body))
      || trails last_place last_rank c (with_params [] ps) true body))
  body_is ps body =
      meets-both last_place last_rank (misused_params (with_params [] ps) body None ps)
      (broken_in c (with_params [] ps) true None body)
      ∙ (λ i. params_are (with_params [] ps) body None ps i
      || broken_is last_place last_rank c (with_params [] ps) true None body i)

  body_by : (p a s t : Bool) → Holds p ⊎ (Holds a ⊎ (Holds s ⊎ Holds t)) → Holds (p || ((a || s) || t))
  body_by p a s t (inl h) = left p ((a || s) || t) h
  body_by p a s t (inr (inl h)) = right p ((a || s) || t) (left (a || s) t (left a s h))
  body_by p a s t (inr (inr (inl h))) = right p ((a || s) || t) (left (a || s) t (right a s h))
  body_by p a s t (inr (inr (inr h))) = right p ((a || s) || t) (right (a || s) t h)

  of_body : (p a s t : Bool) → Holds (p || ((a || s) || t)) → Holds p ⊎ (Holds a ⊎ (Holds s ⊎ Holds t))
  of_body true a s t h = inl refl
  of_body false true s t h = inr (inl refl)
  of_body false false true t h = inr (inr (inl refl))
  of_body false false false t h = inr (inr (inr h))

  -- of a parameter, or of a handle that is bound in the body
  of_handles : (ps : List Parameter) (body : Statements)
      → SomeHandle (with_params [] ps) (λ n. misuses n body)
      ⊎ Holds (trails last_place last_rank c (with_params [] ps) true body)
      → Holds (found_at (broken_body c ps body))
  of_handles ps body (inr t) =
      body_is ps body
      ∙ body_by (params_found (with_params [] ps) body ps)
      (copy last_place last_rank (copies c (with_params [] ps) body)) (store last_place last_rank (stores c body))
      (trails last_place last_rank c (with_params [] ps) true body) (inr (inr (inr t)))
  of_handles ps body (inl u) =
      body_is ps body
      ∙ body_by (params_found (with_params [] ps) body ps)
      (copy last_place last_rank (copies c (with_params [] ps) body)) (store last_place last_rank (stores c body))
      (trails last_place last_rank c (with_params [] ps) true body)
      (inl (params_complete (with_params [] ps) body u.0 ps u.1 (named (param_named u.0 ps [] u.1)) u.2))
    where
      named : IsHandle [] u.0 ⊎ Named u.0 ps → Named u.0 ps
      named (inl i) = absurd (let clash : None ≡ Some (Some k.Rev) = i in cc)
      named (inr i) = i

  twice_misuse : (l : Locals) (body : Statements) {T : Type 0}
      → SomeHandle l (λ n. follows last_place last_rank n body []) ⊎ T → SomeHandle l (λ n. misuses n body) ⊎ T
  twice_misuse l body (inl u) =
      inl (u.0, u.1, right (looped last_place last_rank u.0 false body) (follows last_place last_rank u.0 body []) u.2)
  twice_misuse l body (inr t) = inr t

  loops_misuse : (l : Locals) (body : Statements) {T : Type 0}
      → SomeHandle l (λ n. looped last_place last_rank n false body) ⊎ T → SomeHandle l (λ n. misuses n body) ⊎ T
  loops_misuse l body (inl u) =
      inl (u.0, u.1, left (looped last_place last_rank u.0 false body) (follows last_place last_rank u.0 body []) u.2)
  loops_misuse l body (inr t) = inr t

  body_complete : (result : Option ValueKind) (ps : List Parameter) (body : Statements) (b : Breach)
      → StatementsTyped c result (with_params [] ps) body → Holds (hit b (body_places c (with_params [] ps) body b))
      → Holds (found_at (broken_body c ps body))
  body_complete result ps body copied typed h =
      body_is ps body
      ∙ body_by (params_found (with_params [] ps) body ps)
      (copy last_place last_rank (copies c (with_params [] ps) body)) (store last_place last_rank (stores c body))
      (trails last_place last_rank c (with_params [] ps) true body) (inr (inl h))
  body_complete result ps body stored typed h =
      body_is ps body
      ∙ body_by (params_found (with_params [] ps) body ps)
      (copy last_place last_rank (copies c (with_params [] ps) body)) (store last_place last_rank (stores c body))
      (trails last_place last_rank c (with_params [] ps) true body) (inr (inr (inl h)))
  body_complete result ps body used_twice typed h =
      of_handles ps body (twice_misuse (with_params [] ps) body
      (complete last_place last_rank c result (with_params [] ps) body (λ n. []) typed (λ n free. refl) h))
  body_complete result ps body in_loop typed h =
      of_handles ps body
      (loops_misuse (with_params [] ps) body (loops_complete last_place last_rank c (with_params [] ps) body true h))

  of_trails : (l : Locals) (body : Statements) → Twice true (twice c l body (λ n. [])) ⊎ Loops (loop_uses c l body)
      → SomeHit l body
  of_trails l body (inl t) = (used_twice, t.1)
  of_trails l body (inr u) = (in_loop, u)

  of_misuses : (l : Locals) (body : Statements) (n : Name) → IsHandle l n
      → Holds (looped last_place last_rank n false body) ⊎ Holds (follows last_place last_rank n body [])
      → SomeHit l body
  of_misuses l body n is (inl i) = (in_loop, loops_sound last_place last_rank c l body n is i)
  of_misuses l body n is (inr i) = (used_twice, sound last_place last_rank c l body (λ m. []) n is i)

  body_sound : (result : Option ValueKind) (ps : List Parameter) (body : Statements)
      → StatementsTyped c result (with_params [] ps) body → Holds (found_at (broken_body c ps body))
      → SomeHit (with_params [] ps) body
  body_sound result ps body typed h =
      by (of_body (params_found (with_params [] ps) body ps)
      (copy last_place last_rank (copies c (with_params [] ps) body)) (store last_place last_rank (stores c body))
      (trails last_place last_rank c (with_params [] ps) true body) (sym (body_is ps body) ∙ h))
    where
      by : Holds (params_found (with_params [] ps) body ps)
          ⊎ (Holds (copy last_place last_rank (copies c (with_params [] ps) body))
          ⊎ (Holds (store last_place last_rank (stores c body))
          ⊎ Holds (trails last_place last_rank c (with_params [] ps) true body)))
          → SomeHit (with_params [] ps) body
      by (inl i) =
          let u = params_sound (with_params [] ps) body ps i in
          of_misuses (with_params [] ps) body u.0 u.1
          (either (looped last_place last_rank u.0 false body) (follows last_place last_rank u.0 body []) u.2)
      by (inr (inl i)) = (copied, i)
      by (inr (inr (inl i))) = (stored, i)
      by (inr (inr (inr i))) =
          of_trails (with_params [] ps) body
          (trails_sound result (with_params [] ps) body true (λ n. []) typed (λ n free. refl) i)

  -- ---- declarations

  abbrev declarations_found : List Declaration → Bool
  declarations_found [] = false
  declarations_found (e ∷ es) = found_at (broken_declaration c e) || declarations_found es

  declarations_are : (f : Fault) (es : List Declaration)
      → found_at (broken_declarations c f es) ≡ (found_at f || declarations_found es)
  declarations_are f [] = sym (or-false (found_at f))
  declarations_are f (e ∷ es) =
      declarations_are (both f (broken_declaration c e)) es
      ∙ ap (λ b. b || declarations_found es) (meets-both last_place last_rank f (broken_declaration c e))
      ∙ or-assoc (found_at f) (found_at (broken_declaration c e)) (declarations_found es)

  declarations_complete : (inner : Names) (before es : List Declaration) (b : Breach)
      → DeclarationsTyped c inner before es → Holds (hit b (declarations_places c es b)) → Holds (declarations_found es)
  declarations_complete inner before [] b typed h = never h
  declarations_complete inner before (fun w ps r body ∷ es) b typed h =
      declarations_complete inner (fun w ps r body ∷ before) es b typed.1 h
  declarations_complete inner before (merge w m j r body ∷ es) b typed h =
      declarations_complete inner (merge w m j r body ∷ before) es b typed.1 h
  declarations_complete inner before (shared x ∷ es) b typed h =
      declarations_complete inner (shared x ∷ before) es b typed.1 h
  declarations_complete inner before (proc w ps r body ∷ es) b typed h =
      arm_both (any_either last_place last_rank (fault_of b) (body_places c (with_params [] ps) body b)
      (declarations_places c es b) h)
      (λ i. left (found_at (broken_body c ps body)) (declarations_found es) (body_complete r ps body b typed.0.body i))
      (λ i. right (found_at (broken_body c ps body)) (declarations_found es)
      (declarations_complete inner (proc w ps r body ∷ before) es b typed.1 i))

  abbrev SomeDeclared : List Declaration → Type 0
  SomeDeclared es = (b : Breach) × Holds (hit b (declarations_places c es b))

  declarations_sound : (inner : Names) (before es : List Declaration) → DeclarationsTyped c inner before es
      → Holds (declarations_found es) → SomeDeclared es
  declarations_sound inner before [] typed h = never h
  declarations_sound inner before (fun w ps r body ∷ es) typed h =
      declarations_sound inner (fun w ps r body ∷ before) es typed.1 h
  declarations_sound inner before (merge w m j r body ∷ es) typed h =
      declarations_sound inner (merge w m j r body ∷ before) es typed.1 h
  declarations_sound inner before (shared x ∷ es) typed h = declarations_sound inner (shared x ∷ before) es typed.1 h
  declarations_sound inner before (proc w ps r body ∷ es) typed h =
      arm_both (either (found_at (broken_body c ps body)) (declarations_found es) h)
      (λ i.
      let u = body_sound r ps body typed.0.body i in (
        u.0,
        any_left last_place last_rank (fault_of u.0) (body_places c (with_params [] ps) body u.0)
            (declarations_places c es u.0) u.1,
      ))
      (λ i.
      let u = declarations_sound inner (proc w ps r body ∷ before) es typed.1 i in (
        u.0,
        any_right last_place last_rank (fault_of u.0) (body_places c (with_params [] ps) body u.0)
            (declarations_places c es u.0) u.1,
      ))

-- ---- programs

module _ (last_place last_rank : ℕ) (p : ProgramTree) (typed : ProgramTyped p) where
  abbrev outer : Names
  outer = outside p.declarations

  program_is : meets last_place last_rank (broken_in_program p)
      ≡ (declarations_found last_place last_rank outer p.declarations
      || meets last_place last_rank (broken_body outer [] p.main))
  program_is =
      meets-both last_place last_rank (broken_declarations outer None p.declarations) (broken_body outer [] p.main)
      ∙ ap (λ b. b || meets last_place last_rank (broken_body outer [] p.main))
      (declarations_are last_place last_rank outer None p.declarations)

  program_complete : (b : Breach) → Holds (any last_place last_rank (fault_of b) (places p b))
      → Holds (meets last_place last_rank (broken_in_program p))
  program_complete b h =
      program_is
      ∙ arm_both (any_either last_place last_rank (fault_of b) (declarations_places outer p.declarations b)
      (body_places outer [] p.main b) h)
      (λ i. left (declarations_found last_place last_rank outer p.declarations)
      (meets last_place last_rank (broken_body outer [] p.main))
      (declarations_complete last_place last_rank outer (within p.declarations) [] p.declarations b typed.declarations
      i))
      (λ i. right (declarations_found last_place last_rank outer p.declarations)
      (meets last_place last_rank (broken_body outer [] p.main))
      (body_complete last_place last_rank outer None [] p.main b typed.main i))

  program_sound : Holds (meets last_place last_rank (broken_in_program p))
      → (b : Breach) × Holds (any last_place last_rank (fault_of b) (places p b))
  program_sound h =
      arm_both (either (declarations_found last_place last_rank outer p.declarations)
      (meets last_place last_rank (broken_body outer [] p.main)) (sym program_is ∙ h))
      (λ i.
      let u = declarations_sound last_place last_rank outer (within p.declarations) [] p.declarations typed.declarations
      i in (
        u.0,
        any_left last_place last_rank (fault_of u.0) (declarations_places outer p.declarations u.0)
            (body_places outer [] p.main u.0) u.1,
      ))
      (λ i.
      let u = body_sound last_place last_rank outer None [] p.main typed.main i in (
        u.0,
        any_right last_place last_rank (fault_of u.0) (declarations_places outer p.declarations u.0)
            (body_places outer [] p.main u.0) u.1,
      ))

-- ---- the first

not_less : (a b : ℕ) → cond (is_less a b a b) false true ≡ true
not_less a b = grind (arith, nat_tests)

place_is : (b : Breach) (at : ℕ) → place (fault_of b at) ≡ at
place_is copied at = refl
place_is stored at = refl
place_is used_twice at = refl
place_is in_loop at = refl

rank_is : (b : Breach) (at : ℕ) → rank (fault_of b at) ≡ number b
rank_is copied at = refl
rank_is stored at = refl
rank_is used_twice at = refl
rank_is in_loop at = refl

among_any : (last_place last_rank : ℕ) (b : Breach) (ps : List ℕ) (at : ℕ) → Among ps at
    → Holds (upto last_place last_rank (fault_of b at)) → Holds (any last_place last_rank (fault_of b) ps)
among_any last_place last_rank b [] at h u = absurd h
among_any last_place last_rank b (x ∷ ps) at (inl e) u =
    left (upto last_place last_rank (fault_of b x)) (any last_place last_rank (fault_of b) ps)
    (subst (λ y. Holds (upto last_place last_rank (fault_of b y))) (sym e) u)
among_any last_place last_rank b (x ∷ ps) at (inr h) u =
    right (upto last_place last_rank (fault_of b x)) (any last_place last_rank (fault_of b) ps)
    (among_any last_place last_rank b ps at h u)

any_among : (last_place last_rank : ℕ) (b : Breach) (ps : List ℕ) → Holds (any last_place last_rank (fault_of b) ps)
    → (at : ℕ) × Among ps at × Holds (upto last_place last_rank (fault_of b at))
any_among last_place last_rank b [] h = never h
any_among last_place last_rank b (x ∷ ps) h =
    arm_both (either (upto last_place last_rank (fault_of b x)) (any last_place last_rank (fault_of b) ps) h)
    (λ u. (x, inl refl, u)) (λ i. let u = any_among last_place last_rank b ps i in (u.0, inr u.1, u.2))

-- what is not behind each other is one
same_order : (a p b q : ℕ) → cond (is_less a p b q) false true ≡ true → cond (is_less b q a p) false true ≡ true
    → (a ≡ b) × (p ≡ q)
same_order a p b q h k = (grind (arith, nat_tests), grind (arith, nat_tests))

before : (a p b q : ℕ) → cond (is_less b q a p) false true ≡ true → (a < b) ⊎ ((a ≡ b) × (p ≤ q))
before a p b q h = grind (arith, nat_tests)

fault_is : (f : AffineFault) (b : Breach) (at : ℕ) → place f ≡ at → rank f ≡ number b → f ≡ fault_of b at
fault_is (Copied x) copied at e r = ap (λ y. Copied y) e
fault_is (Copied x) stored at e r = absurd (omega arith)
fault_is (Copied x) used_twice at e r = absurd (omega arith)
fault_is (Copied x) in_loop at e r = absurd (omega arith)
fault_is (Stored x) copied at e r = absurd (omega arith)
fault_is (Stored x) stored at e r = ap (λ y. Stored y) e
fault_is (Stored x) used_twice at e r = absurd (omega arith)
fault_is (Stored x) in_loop at e r = absurd (omega arith)
fault_is (UsedTwice x) copied at e r = absurd (omega arith)
fault_is (UsedTwice x) stored at e r = absurd (omega arith)
fault_is (UsedTwice x) used_twice at e r = ap (λ y. UsedTwice y) e
fault_is (UsedTwice x) in_loop at e r = absurd (omega arith)
fault_is (InLoop x) copied at e r = absurd (omega arith)
fault_is (InLoop x) stored at e r = absurd (omega arith)
fault_is (InLoop x) used_twice at e r = absurd (omega arith)
fault_is (InLoop x) in_loop at e r = ap (λ y. InLoop y) e
fault_is OutOfMemory copied at e r = absurd (omega arith)
fault_is OutOfMemory stored at e r = absurd (omega arith)
fault_is OutOfMemory used_twice at e r = absurd (omega arith)
fault_is OutOfMemory in_loop at e r = absurd (omega arith)

refusal : (p : ProgramTree) (b : Breach) (at : ℕ) → IsFirstBroken p (record { at = at; how = b })
    → Refuses p (fault_of b at)
refusal p copied at h = h
refusal p stored at h = h
refusal p used_twice at h = h
refusal p in_loop at h = h

module _ (p : ProgramTree) (typed : ProgramTyped p) where
  -- each breach of the program is found at its place, or something before it
  reached_by : (b : Breach) (at : ℕ) → Breaks p b at → Holds (meets at (number b) (broken_in_program p))
  reached_by b at h =
      program_complete at (number b) p typed b
      (among_any at (number b) b (places p b) at (places_found p b at h)
      (subst (λ r. Holds (cond (is_less at (number b) (place (fault_of b at)) r) false true)) (sym (rank_is b at))
      (subst (λ y. Holds (cond (is_less at (number b) y (number b)) false true)) (sym (place_is b at))
      (not_less at (number b)))))

  pub keeps : broken_in_program p ≡ None → IsAffine p
  keeps e b at h = never (sym (ap (λ f. meets at (number b) f) e) ∙ reached_by b at h)

  pub refused : (f : AffineFault) → broken_in_program p ≡ Some f → Refuses p f
  refused f e =
      let some =
      program_sound (place f) (rank f) p typed (ap (λ g. meets (place f) (rank f) g) e ∙ not_less (place f) (rank f)) in
      let found = any_among (place f) (rank f) some.0 (places p some.0) some.1 in
      by some.0 found.0 (places_sound p some.0 found.0 typed found.1) found.2
    where
      no_later : (b : Breach) (at : ℕ) → Breaks p b at
          → Holds (cond (is_less at (number b) (place f) (rank f)) false true)
      no_later b at h = sym (ap (λ g. meets at (number b) g) e) ∙ reached_by b at h

      by : (b : Breach) (at : ℕ) → Breaks p b at → Holds (upto (place f) (rank f) (fault_of b at)) → Refuses p f
      by b at broken u =
          let order =
          same_order (place f) (rank f) at (number b)
          (subst (λ r. Holds (cond (is_less (place f) (rank f) at r) false true)) (rank_is b at)
          (subst (λ y. Holds (cond (is_less (place f) (rank f) y (rank (fault_of b at))) false true)) (place_is b at)
          u))
          (no_later b at broken) in
          subst (λ (g : AffineFault). Refuses p g) (sym (fault_is f b at order.0 order.1))
          (refusal p b at (record {
            broken = broken;
            first = λ d y h.
                before at (number b) y (number d)
                (subst (λ r. Holds (cond (is_less y (number d) at r) false true)) order.1
                (subst (λ x. Holds (cond (is_less y (number d) x (rank f)) false true)) order.0 (no_later d y h)));
          }))

-- the first breach of a program is that of its declarations or of `main`
pub program_found : (q : ProgramTree) (c : Names) {e : List Declaration} {d m x : Fault} → e ≡ q.declarations
    → d ≡ broken_declarations c None e → m ≡ broken_body c [] q.main → x ≡ both d m → x ≡ broken_under c q
program_found q c p hd hm hx = hx ∙ (λ i. both ((hd ∙ (λ j. broken_declarations c None (p j))) i) (hm i))

-- what names mean outside of procedures, by a checker with the tables of a program
pub program_names : (q : ProgramTree) (o : held_checker.Checker) {e : List Declaration} → e ≡ q.declarations
    → o.inside ≡ false → o.shared.now ≡ shared_table [] e → callees o.procs.now ≡ proc_table [] e
    → callees o.funs.now ≡ fun_table [] e → names_of o ≡ outside q.declarations
program_names q o p oi os op of =
    outer_names o q.declarations oi (os ∙ ap (λ es. shared_table [] es) p) (op ∙ ap (λ es. proc_table [] es) p)
    (of ∙ ap (λ es. fun_table [] es) p)
