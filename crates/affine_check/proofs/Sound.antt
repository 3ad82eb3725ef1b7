-- In typed statements the function that gives the places of second uses gives only those that paths have.
use Rattle.std.proofs.Common.{◌≡◌, ◌⊎◌, inl, inr, ℕ, zero, suc, Bool, true, false, cond, List, [], ◌∷◌, ◌++◌, Option, Some, None, refl, sym, ap, subst, append_assoc}
use Rattle.std.specs.Prelude.{if◌then◌else◌}
use Rattle.rev_num.specs.declared.value.ValueKind.{ValueKind}
use Rattle.rev_num.specs.declared.value.ValueKind.TheVariants as k
use Rattle.rev_syntax.specs.Trees.{PlacedName, Expression, placed, int, bool, no_rev, var, cell, apply, input, inputs, pick, unary, chain, Expressions, no_expressions, expression, RightSide, plain, called, forked, tried, Statement, statement, StatementForm, bind, assign, assign_cell, choose, choose_or, repeat, call, return, fork, join, print, assert, Statements, no_statements, statements, Arms, no_arms, arm}
use Rattle.typed_programs.specs.Least.{Among}
use Rattle.name_tables.specs.Names.{Name, same}
use Rattle.name_tables.specs.Table.{find}
use Rattle.name_tables.proofs.Tables.{same_equal}
use Rattle.typed_programs.proofs.Firsts.{among_split}
use Rattle.typed_programs.specs.Kinds.{Names, Locals}
use Rattle.typed_programs.specs.Scopes.{locals_after}
use Rattle.typed_programs.specs.Judgement.{StatementTyped, StatementFormTyped, StatementsTyped, ArmsTyped}
use Rattle.affine_check.specs.Live.{statement_passes}
use Rattle.affine_check.specs.Affine.{Occurrence, use_of, gets, expression_occurrences, expressions_occurrences, right_side_occurrences, Turns, Through, StatementThrough, StatementFormThrough, ArmsThrough, Inside, StatementInside, StatementFormInside, ArmsInside, NoValue, UsedTwice}
use Rattle.affine_check.specs.SecondUses.{expression_places, expressions_places, right_side_places, ahead, statement_ahead, statement_form_ahead, arms_ahead, if_rev, expression_twice, expressions_twice, right_side_twice, twice, statement_twice, statement_form_twice, arms_twice}
use Rattle.affine_check.proofs.Paths.{nil_right_side, no_values, expression_split, expression_no_value, expressions_before, right_side_before, inside_nil, inside_rest, inside_here, statement_pass}
use Rattle.affine_check.proofs.Exact.{FoundAt, TwiceAt, LeftAt, scope_is}

found_behind : (n : Name) (pl : ℕ) (xs ys : List Occurrence) → NoValue n xs → FoundAt n pl ys → FoundAt n pl (xs ++ ys)
found_behind n pl [] ys p f = f
found_behind n pl (use_of t w ∷ xs) ys p f = inr (found_behind n pl xs ys p f)
found_behind n pl (gets m ∷ xs) ys p f = (p.0, found_behind n pl xs ys p.1 f)

twice_of : (n : Name) (pl : ℕ) (xs ys : List Occurrence) → LeftAt n xs → FoundAt n pl ys → TwiceAt pl (xs ++ ys)
twice_of n pl [] ys h f = absurd h
twice_of n pl (use_of t w ∷ xs) ys (inl h) f =
    inl (h.0, subst (λ m. FoundAt m pl (xs ++ ys)) (sym h.1) (found_behind n pl xs ys h.2 f))
twice_of n pl (use_of t w ∷ xs) ys (inr h) f = inr (twice_of n pl xs ys h f)
twice_of n pl (gets m ∷ xs) ys h f = twice_of n pl xs ys h f

left_of : (n : Name) (xs ys : List Occurrence) → LeftAt n xs → NoValue n ys → LeftAt n (xs ++ ys)
left_of n [] ys h f = absurd h
left_of n (use_of t w ∷ xs) ys (inl h) f = inl (h.0, h.1, no_values n xs ys h.2 f)
left_of n (use_of t w ∷ xs) ys (inr h) f = inr (left_of n xs ys h f)
left_of n (gets m ∷ xs) ys h f = left_of n xs ys h f

twice_behind : (pl : ℕ) (xs ys : List Occurrence) → TwiceAt pl ys → TwiceAt pl (xs ++ ys)
twice_behind pl [] ys h = h
twice_behind pl (use_of t w ∷ xs) ys h = inr (twice_behind pl xs ys h)
twice_behind pl (gets m ∷ xs) ys h = twice_behind pl xs ys h

left_behind : (n : Name) (xs ys : List Occurrence) → LeftAt n ys → LeftAt n (xs ++ ys)
left_behind n [] ys h = h
left_behind n (use_of t w ∷ xs) ys h = inr (left_behind n xs ys h)
left_behind n (gets m ∷ xs) ys h = left_behind n xs ys h

place_expression : (n : Name) (pl : ℕ) (l : Locals) (x : Expression) (later : List Occurrence)
    → Among (expression_places n x) pl → FoundAt n pl (expression_occurrences l x later)
place_expression n pl l (placed at (int z)) later h = absurd h
place_expression n pl l (placed at (bool z)) later h = absurd h
place_expression n pl l (placed at no_rev) later h = absurd h
place_expression n pl l (placed at (var w)) later h = by (same n w.text) refl h
  where
    by : (d : Bool) → same n w.text ≡ d → Among (cond d (w.at ∷ []) []) pl
        → FoundAt n pl (use_of (find w.text l) w ∷ later)
    by true e (inl i) = inl (sym (same_equal n w.text e), i)
    by true e (inr i) = absurd i
    by false e i = absurd i
place_expression n pl l (placed at (cell w index)) later h = absurd h
place_expression n pl l (placed at (apply w args)) later h = absurd h
place_expression n pl l (placed at (input i index)) later h = absurd h
place_expression n pl l (placed at (inputs i)) later h = absurd h
place_expression n pl l (placed at (pick test x y)) later h = absurd h
place_expression n pl l (placed at (unary op part)) later h = absurd h
place_expression n pl l (placed at (chain first rest)) later h = absurd h

place_expressions : (n : Name) (pl : ℕ) (l : Locals) (xs : Expressions) (later : List Occurrence)
    → Among (expressions_places n xs) pl → FoundAt n pl (expressions_occurrences l xs later)
place_expressions n pl l no_expressions later h = absurd h
place_expressions n pl l (expression x xs) later h =
    by (among_split (expression_places n x) (expressions_places n xs) pl h) (place_expressions n pl l xs later)
  where
    by : Among (expression_places n x) pl ⊎ Among (expressions_places n xs) pl
        → (Among (expressions_places n xs) pl → FoundAt n pl (expressions_occurrences l xs later))
        → FoundAt n pl (expression_occurrences l x (expressions_occurrences l xs later))
    by (inl a) rest = place_expression n pl l x (expressions_occurrences l xs later) a
    by (inr b) rest =
        subst (FoundAt n pl) (sym (expression_split l x (expressions_occurrences l xs later)))
        (found_behind n pl (expression_occurrences l x []) (expressions_occurrences l xs later)
        (expression_no_value n l x) (rest b))

place_right_side : (n : Name) (pl : ℕ) (l : Locals) (r : RightSide) (later : List Occurrence)
    → Among (right_side_places n r) pl → FoundAt n pl (right_side_occurrences l r later)
place_right_side n pl l (plain e) later h = absurd h
place_right_side n pl l (called at w args) later h = place_expressions n pl l args later h
place_right_side n pl l (forked at w args) later h = place_expressions n pl l args later h
place_right_side n pl l (tried at handle) later h = place_expression n pl l handle later h

module _ (c : Names) (result : Option ValueKind) (pl : ℕ) where
  abbrev Ahead : (List Occurrence → Type 0) → Name → Type 0
  Ahead P n = (ms : List Occurrence) × P ms × FoundAt n pl ms

  abbrev Passing : (List Occurrence → Type 0) → Name → Type 0
  Passing P n = (ms : List Occurrence) × P ms × NoValue n ms

  simple_path : (n : Name) (P : List Occurrence → Type 0) (Q : List Occurrence → Type 0) (a : List ℕ)
      (ms : List Occurrence) (later : List ℕ)
      → P ms → (Among a pl → FoundAt n pl ms) → NoValue n ms → Among (a ++ later) pl
      → Ahead Q n ⊎ (Ahead P n ⊎ (Passing P n × (Among later pl)))
  simple_path n P Q a ms later p found none h = by (among_split a later pl h)
    where
      by : (Among a pl) ⊎ (Among later pl) → Ahead Q n ⊎ (Ahead P n ⊎ (Passing P n × (Among later pl)))
      by (inl e) = inr (inl (ms, p, found e))
      by (inr e) = inr (inr ((ms, p, none), e))

  -- a right side, and then the name w gets its value
  right_side_path : (n : Name) (l : Locals) (w : PlacedName) (r : RightSide) (P : List Occurrence → Type 0)
      (Q : List Occurrence → Type 0) (later : List ℕ)
      → P (right_side_occurrences l r (gets w.text ∷ []))
      → Among (right_side_places n r ++ cond (same n w.text) [] later) pl
      → Ahead Q n ⊎ (Ahead P n ⊎ (Passing P n × (Among later pl)))
  right_side_path n l w r P Q later p h = by (among_split (right_side_places n r) (cond (same n w.text) [] later) pl h)
    where
      on : (d : Bool) → same n w.text ≡ d → Among (cond d [] later) pl
          → Ahead Q n ⊎ (Ahead P n ⊎ (Passing P n × (Among later pl)))
      on true e i = absurd i
      on false e i = inr (inr
          ((right_side_occurrences l r (gets w.text ∷ []), p, right_side_before n l r (gets w.text ∷ []) (e, tt)), i))

      by : Among (right_side_places n r) pl ⊎ Among (cond (same n w.text) [] later) pl
          → Ahead Q n ⊎ (Ahead P n ⊎ (Passing P n × (Among later pl)))
      by (inl e) = inr
          (inl (right_side_occurrences l r (gets w.text ∷ []), p, place_right_side n pl l r (gets w.text ∷ []) e))
      by (inr e) = on (same n w.text) refl e

  statements_join : (x : Statement) (rest : Statements) (l l' : Locals) (n : Name) (later : List ℕ)
      → Ahead (StatementInside c l x) n
      ⊎ (Ahead (StatementThrough c l x l') n
      ⊎ (Passing (StatementThrough c l x l') n × (Among (ahead n rest later) pl)))
      → (Among (ahead n rest later) pl
      → Ahead (Inside c l' rest) n ⊎ (Passing (Through c l' rest) n × (Among later pl)))
      → Ahead (Inside c l (statements x rest)) n ⊎ (Passing (Through c l (statements x rest)) n × (Among later pl))
  statements_join x rest l l' n later (inl a) go = inl (a.0, inr (inl a.1), a.2)
  statements_join x rest l l' n later (inr (inl a)) go = inl (a.0, inside_here c result l l' x rest a.0 a.1, a.2)
  statements_join x rest l l' n later (inr (inr p)) go = by (go p.1)
    where
      by : Ahead (Inside c l' rest) n ⊎ (Passing (Through c l' rest) n × (Among later pl))
          → Ahead (Inside c l (statements x rest)) n ⊎ (Passing (Through c l (statements x rest)) n × (Among later pl))
      by (inl a) = inl
          (p.0.0 ++ a.0, inside_rest c result l l' x rest p.0.0 a.0 p.0.1 a.1, found_behind n pl p.0.0 a.0 p.0.2 a.2)
      by (inr q) = inr
          ((p.0.0 ++ q.0.0, (l', p.0.0, q.0.0, p.0.1, q.0.1, refl), no_values n p.0.0 q.0.0 p.0.2 q.0.2), q.1)

  mutual
    statements_path : (s : Statements) (l : Locals) (n : Name) (later : List ℕ) → StatementsTyped c result l s
        → Among (ahead n s later) pl → Ahead (Inside c l s) n ⊎ (Passing (Through c l s) n × (Among later pl))
    statements_path no_statements l n later typed h = inr (([], refl, tt), h)
    statements_path (statements x rest) l n later typed h =
        statements_join x rest l typed.0 n later (statement_path x l typed.0 n (ahead n rest later) typed.1 h)
        (λ e. statements_path rest typed.0 n later typed.2 e)

    statement_path : (x : Statement) (l l' : Locals) (n : Name) (later : List ℕ) → StatementTyped c result l x l'
        → Among (statement_ahead n x later) pl
        → Ahead (StatementInside c l x) n
        ⊎ (Ahead (StatementThrough c l x l') n ⊎ (Passing (StatementThrough c l x l') n × (Among later pl)))
    statement_path (statement at line form) l l' n later typed h = statement_form_path form l l' n later typed h

    statement_form_path : (a : StatementForm) (l l' : Locals) (n : Name) (later : List ℕ)
        → StatementFormTyped c result l a l' → Among (statement_form_ahead n a later) pl
        → Ahead (StatementFormInside c l a) n
        ⊎ (Ahead (StatementFormThrough c l a l') n ⊎ (Passing (StatementFormThrough c l a l') n × (Among later pl)))
    statement_form_path (bind w r) l l' n later typed h =
        right_side_path n l w r (StatementFormThrough c l (bind w r) l') (StatementFormInside c l (bind w r)) later
        (typed.1, refl) h
    statement_form_path (assign w r) l l' n later typed h =
        right_side_path n l w r (StatementFormThrough c l (assign w r) l') (StatementFormInside c l (assign w r)) later
        (typed.1, refl) h
    statement_form_path (assign_cell w index e) l l' n later typed h = inr (inr (([], (typed.1, refl), tt), h))
    statement_form_path (choose arms) l l' n later typed h = by (arms_path arms l n later later typed.0 h)
      where
        by : Ahead (ArmsInside c l arms) n ⊎ ((Passing (ArmsThrough c l arms) n × (Among later pl)) ⊎ (Among later pl))
            → Ahead (StatementFormInside c l (choose arms)) n
            ⊎ (Ahead (StatementFormThrough c l (choose arms) l') n
            ⊎ (Passing (StatementFormThrough c l (choose arms) l') n × (Among later pl)))
        by (inl a) = inl a
        by (inr (inl p)) = inr (inr ((p.0.0, (typed.1, inl p.0.1), p.0.2), p.1))
        by (inr (inr e)) = inr (inr (([], (typed.1, inr refl), tt), e))
    statement_form_path (choose_or arms last) l l' n later typed h =
        by (arms_path arms l n (ahead n last later) later typed.0.0 h) (λ e. statements_path last l n later typed.0.1 e)
      where
        on : Ahead (Inside c l last) n ⊎ (Passing (Through c l last) n × (Among later pl))
            → Ahead (StatementFormInside c l (choose_or arms last)) n
            ⊎ (Ahead (StatementFormThrough c l (choose_or arms last) l') n
            ⊎ (Passing (StatementFormThrough c l (choose_or arms last) l') n × (Among later pl)))
        on (inl a) = inl (a.0, inr a.1, a.2)
        on (inr p) = inr (inr ((p.0.0, (typed.1, inr p.0.1), p.0.2), p.1))

        by : Ahead (ArmsInside c l arms) n
            ⊎ ((Passing (ArmsThrough c l arms) n × (Among later pl)) ⊎ (Among (ahead n last later) pl))
            → (Among (ahead n last later) pl
            → Ahead (Inside c l last) n ⊎ (Passing (Through c l last) n × (Among later pl)))
            → Ahead (StatementFormInside c l (choose_or arms last)) n
            ⊎ (Ahead (StatementFormThrough c l (choose_or arms last) l') n
            ⊎ (Passing (StatementFormThrough c l (choose_or arms last) l') n × (Among later pl)))
        by (inl a) last_live = inl (a.0, inl a.1, a.2)
        by (inr (inl p)) last_live = inr (inr ((p.0.0, (typed.1, inl p.0.1), p.0.2), p.1))
        by (inr (inr e)) last_live = on (last_live e)
    statement_form_path (repeat test body) l l' n later typed h =
        by (among_split (ahead n body []) later pl h) (λ e. statements_path body l n [] typed.0.1 e)
      where
        on : Ahead (Inside c l body) n ⊎ (Passing (Through c l body) n × (Among [] pl))
            → Ahead (StatementFormInside c l (repeat test body)) n
            ⊎ (Ahead (StatementFormThrough c l (repeat test body) l') n
            ⊎ (Passing (StatementFormThrough c l (repeat test body) l') n × (Among later pl)))
        on (inl a) = inl (a.0, (zero, [], a.0, refl, a.1, refl), a.2)
        on (inr p) = absurd p.1

        by : (Among (ahead n body []) pl) ⊎ (Among later pl)
            → (Among (ahead n body []) pl → Ahead (Inside c l body) n ⊎ (Passing (Through c l body) n × (Among [] pl)))
            → Ahead (StatementFormInside c l (repeat test body)) n
            ⊎ (Ahead (StatementFormThrough c l (repeat test body) l') n
            ⊎ (Passing (StatementFormThrough c l (repeat test body) l') n × (Among later pl)))
        by (inl e) body_live = on (body_live e)
        by (inr e) body_live = inr (inr (([], (typed.1, (zero, refl)), tt), e))
    statement_form_path (call w args) l l' n later typed h =
        simple_path n (StatementFormThrough c l (call w args) l') (StatementFormInside c l (call w args))
        (expressions_places n args) (expressions_occurrences l args []) later (typed.1, refl)
        (place_expressions n pl l args []) (expressions_before n l args [] tt) h
    statement_form_path (return None) l l' n later typed h = absurd h
    statement_form_path (return (Some e)) l l' n later typed h =
        inl (expression_occurrences l e [], refl, place_expression n pl l e [] h)
    statement_form_path (fork w args) l l' n later typed h =
        simple_path n (StatementFormThrough c l (fork w args) l') (StatementFormInside c l (fork w args))
        (expressions_places n args) (expressions_occurrences l args []) later (typed.1, refl)
        (place_expressions n pl l args []) (expressions_before n l args [] tt) h
    statement_form_path (join handle) l l' n later typed h =
        simple_path n (StatementFormThrough c l (join handle) l') (StatementFormInside c l (join handle))
        (expression_places n handle) (expression_occurrences l handle []) later (typed.1, refl)
        (place_expression n pl l handle []) (expression_no_value n l handle) h
    statement_form_path (print items) l l' n later typed h = inr (inr (([], (typed.1, refl), tt), h))
    statement_form_path (assert test) l l' n later typed h = inr (inr (([], (typed.1, refl), tt), h))

    arms_path : (all : Arms) (l : Locals) (n : Name) (other later : List ℕ) → ArmsTyped c result l all
        → Among (arms_ahead n all other later) pl
        → Ahead (ArmsInside c l all) n ⊎ ((Passing (ArmsThrough c l all) n × (Among later pl)) ⊎ (Among other pl))
    arms_path no_arms l n other later typed h = inr (inr h)
    arms_path (arm test body rest) l n other later typed h =
        by (among_split (ahead n body later) (arms_ahead n rest other later) pl h)
        (λ e. statements_path body l n later typed.1 e) (λ e. arms_path rest l n other later typed.2 e)
      where
        of_body : Ahead (Inside c l body) n ⊎ (Passing (Through c l body) n × (Among later pl))
            → Ahead (ArmsInside c l (arm test body rest)) n
            ⊎ ((Passing (ArmsThrough c l (arm test body rest)) n × (Among later pl)) ⊎ (Among other pl))
        of_body (inl a) = inl (a.0, inl a.1, a.2)
        of_body (inr p) = inr (inl ((p.0.0, inl p.0.1, p.0.2), p.1))

        of_rest : Ahead (ArmsInside c l rest) n
            ⊎ ((Passing (ArmsThrough c l rest) n × (Among later pl)) ⊎ (Among other pl))
            → Ahead (ArmsInside c l (arm test body rest)) n
            ⊎ ((Passing (ArmsThrough c l (arm test body rest)) n × (Among later pl)) ⊎ (Among other pl))
        of_rest (inl a) = inl (a.0, inr a.1, a.2)
        of_rest (inr (inl p)) = inr (inl ((p.0.0, inr p.0.1, p.0.2), p.1))
        of_rest (inr (inr e)) = inr (inr e)

        by : (Among (ahead n body later) pl) ⊎ (Among (arms_ahead n rest other later) pl)
            → (Among (ahead n body later) pl
            → Ahead (Inside c l body) n ⊎ (Passing (Through c l body) n × (Among later pl)))
            → (Among (arms_ahead n rest other later) pl
            → Ahead (ArmsInside c l rest) n
            ⊎ ((Passing (ArmsThrough c l rest) n × (Among later pl)) ⊎ (Among other pl)))
            → Ahead (ArmsInside c l (arm test body rest)) n
            ⊎ ((Passing (ArmsThrough c l (arm test body rest)) n × (Among later pl)) ⊎ (Among other pl))
        by (inl e) f g = of_body (f e)
        by (inr e) f g = of_rest (g e)

-- ---- second uses

-- such a list has a second use at this place, or leaves a local used that this place uses behind
abbrev Second : ℕ → List Occurrence → (Name → List ℕ) → Type 0
Second pl ms K = TwiceAt pl ms ⊎ ((n : Name) × LeftAt n ms × Among (K n) pl)

-- what is live behind the uses of a statement is so behind what follows them
abbrev Follows : ℕ → List Occurrence → (Name → List ℕ) → (Name → List ℕ) → Type 0
Follows pl later X K = (n : Name) → Among (X n) pl → NoValue n later × Among (K n) pl

second_behind : (pl : ℕ) (xs ys : List Occurrence) (K : Name → List ℕ) → Second pl ys K → Second pl (xs ++ ys) K
second_behind pl xs ys K (inl a) = inl (twice_behind pl xs ys a)
second_behind pl xs ys K (inr b) = inr (b.0, left_behind b.0 xs ys b.1, b.2)

expressions_second : (pl : ℕ) (l : Locals) (xs : Expressions) (later : List Occurrence) (X K : Name → List ℕ)
    → Follows pl later X K → Among (expressions_twice l xs X) pl → Second pl (expressions_occurrences l xs later) K
expressions_second pl l no_expressions later X K follows h = absurd h
expressions_second pl l (expression x xs) later X K follows h =
    by (among_split (expression_twice l x (λ n. expressions_places n xs ++ X n)) (expressions_twice l xs X) pl h)
    (expressions_second pl l xs later X K follows)
  where
    on : (x : Expression) → Among (expression_twice l x (λ n. expressions_places n xs ++ X n)) pl
        → Second pl (expression_occurrences l x (expressions_occurrences l xs later)) K
    on (placed at (int z)) h = absurd h
    on (placed at (bool z)) h = absurd h
    on (placed at no_rev) h = absurd h
    on (placed at (cell w index)) h = absurd h
    on (placed at (apply w args)) h = absurd h
    on (placed at (input i index)) h = absurd h
    on (placed at (inputs i)) h = absurd h
    on (placed at (pick test y z)) h = absurd h
    on (placed at (unary op part)) h = absurd h
    on (placed at (chain first rest)) h = absurd h
    on (placed at (var w)) h = rev (find w.text l) refl h
      where
        used_on : find w.text l ≡ Some (Some k.Rev) → Among (expressions_places w.text xs) pl ⊎ Among (X w.text) pl
            → Second pl (use_of (find w.text l) w ∷ expressions_occurrences l xs later) K
        used_on e (inl a) = inl (inl (e, place_expressions w.text pl l xs later a))
        used_on e (inr b) =
            let f = follows w.text b in inr (w.text, inl (e, refl, expressions_before w.text l xs later f.0), f.1)

        rev : (o : Option (Option ValueKind)) → find w.text l ≡ o
            → Among (if_rev o (expressions_places w.text xs ++ X w.text)) pl
            → Second pl (use_of (find w.text l) w ∷ expressions_occurrences l xs later) K
        rev None e h = absurd h
        rev (Some None) e h = absurd h
        rev (Some (Some k.Int)) e h = absurd h
        rev (Some (Some k.Bool)) e h = absurd h
        rev (Some (Some k.Rev)) e h = used_on e (among_split (expressions_places w.text xs) (X w.text) pl h)

    by : Among (expression_twice l x (λ n. expressions_places n xs ++ X n)) pl ⊎ Among (expressions_twice l xs X) pl
        → (Among (expressions_twice l xs X) pl → Second pl (expressions_occurrences l xs later) K)
        → Second pl (expression_occurrences l x (expressions_occurrences l xs later)) K
    by (inl a) rest = on x a
    by (inr b) rest =
        subst (λ y. Second pl y K) (sym (expression_split l x (expressions_occurrences l xs later)))
        (second_behind pl (expression_occurrences l x []) (expressions_occurrences l xs later) K (rest b))

one_second : (pl : ℕ) (l : Locals) (x : Expression) (later : List Occurrence) (X K : Name → List ℕ)
    → Follows pl later X K → Among (expression_twice l x X) pl → Second pl (expression_occurrences l x later) K
one_second pl l x later X K follows h =
    expressions_second pl l (expression x no_expressions) later X K follows (left_here (expression_twice l x X) h)
  where
    left_here : (ps : List ℕ) → Among ps pl → Among (ps ++ []) pl
    left_here ps a = subst (λ y. Among y pl) (nil_right_side ps) a

given_follows : (pl : ℕ) (w : Name) (K : Name → List ℕ) → Follows pl (gets w ∷ []) (λ n. if same n w then [] else K n) K
given_follows pl w K n h = by (same n w) refl h
  where
    by : (d : Bool) → same n w ≡ d → Among (cond d [] (K n)) pl → NoValue n (gets w ∷ []) × Among (K n) pl
    by true e i = absurd i
    by false e i = ((e, tt), i)

right_side_second : (pl : ℕ) (l : Locals) (r : RightSide) (w : Name) (K : Name → List ℕ)
    → Among (right_side_twice l r (λ n. if same n w then [] else K n)) pl
    → Second pl (right_side_occurrences l r (gets w ∷ [])) K
right_side_second pl l (plain e) w K h = absurd h
right_side_second pl l (called at v args) w K h =
    expressions_second pl l args (gets w ∷ []) (λ n. if same n w then [] else K n) K (given_follows pl w K) h
right_side_second pl l (forked at v args) w K h =
    expressions_second pl l args (gets w ∷ []) (λ n. if same n w then [] else K n) K (given_follows pl w K) h
right_side_second pl l (tried at handle) w K h =
    one_second pl l handle (gets w ∷ []) (λ n. if same n w then [] else K n) K (given_follows pl w K) h

module _ (c : Names) (result : Option ValueKind) (pl : ℕ) where
  abbrev Sec : (List Occurrence → Type 0) → Type 0
  Sec P = (ms : List Occurrence) × P ms × TwiceAt pl ms

  abbrev Thr : (List Occurrence → Type 0) → (Name → List ℕ) → Type 0
  Thr P K = (ms : List Occurrence) × P ms × Second pl ms K

  -- behind a statement
  from_rest : (x : Statement) (rest : Statements) (l l' : Locals) (ms : List Occurrence) (K : Name → List ℕ)
      → StatementThrough c l x l' ms → Sec (Inside c l' rest) ⊎ Thr (Through c l' rest) K
      → Sec (Inside c l (statements x rest)) ⊎ Thr (Through c l (statements x rest)) K
  from_rest x rest l l' ms K path (inl a) =
      inl (ms ++ a.0, inside_rest c result l l' x rest ms a.0 path a.1, twice_behind pl ms a.0 a.2)
  from_rest x rest l l' ms K path (inr b) =
      inr (ms ++ b.0, (l', ms, b.0, path, b.1, refl), second_behind pl ms b.0 K b.2)

  -- in a statement
  from_statement : (x : Statement) (rest : Statements) (l l' : Locals) (K : Name → List ℕ)
      → StatementsTyped c result l' rest
      → Sec (StatementInside c l x) ⊎ Thr (StatementThrough c l x l') (λ n. ahead n rest (K n))
      → Sec (Inside c l (statements x rest)) ⊎ Thr (Through c l (statements x rest)) K
  from_statement x rest l l' K typed (inl a) = inl (a.0, inr (inl a.1), a.2)
  from_statement x rest l l' K typed (inr b) = by b.2
    where
      on : (n : Name) → LeftAt n b.0
          → Ahead c result pl (Inside c l' rest) n ⊎ (Passing c result pl (Through c l' rest) n × (Among (K n) pl))
          → Sec (Inside c l (statements x rest)) ⊎ Thr (Through c l (statements x rest)) K
      on n left (inl a) =
          inl (b.0 ++ a.0, inside_rest c result l l' x rest b.0 a.0 b.1 a.1, twice_of n pl b.0 a.0 left a.2)
      on n left (inr q) =
          inr (b.0 ++ q.0.0, (l', b.0, q.0.0, b.1, q.0.1, refl), inr (n, left_of n b.0 q.0.0 left q.0.2, q.1))

      by : Second pl b.0 (λ n. ahead n rest (K n))
          → Sec (Inside c l (statements x rest)) ⊎ Thr (Through c l (statements x rest)) K
      by (inl t) = inl (b.0, inside_here c result l l' x rest b.0 b.1, t)
      by (inr u) = on u.0 u.1 (statements_path c result pl rest l' u.0 (K u.0) typed u.2)

  -- a turn of a `while`
  from_turn : (test : Expression) (body : Statements) (l l' : Locals) (K : Name → List ℕ) → l' ≡ l
      → StatementsTyped c result l body → Sec (Inside c l body) ⊎ Thr (Through c l body) (λ n. ahead n body [] ++ K n)
      → Sec (StatementFormInside c l (repeat test body)) ⊎ Thr (StatementFormThrough c l (repeat test body) l') K
  from_turn test body l l' K same typed (inl a) = inl (a.0, (zero, [], a.0, refl, a.1, refl), a.2)
  from_turn test body l l' K same typed (inr b) = by b.2
    where
      turn : Turns (λ xs. Through c l body xs) (suc zero) b.0
      turn = (b.0, [], b.1, refl, nil_right_side b.0)

      on : (n : Name) → LeftAt n b.0
          → Ahead c result pl (Inside c l body) n ⊎ (Passing c result pl (Through c l body) n × (Among [] pl))
          → Sec (StatementFormInside c l (repeat test body)) ⊎ Thr (StatementFormThrough c l (repeat test body) l') K
      on n left (inl a) = inl (b.0 ++ a.0, (suc zero, b.0, a.0, turn, a.1, refl), twice_of n pl b.0 a.0 left a.2)
      on n left (inr q) = absurd q.1

      which : (n : Name) → LeftAt n b.0 → Among (ahead n body []) pl ⊎ Among (K n) pl
          → Sec (StatementFormInside c l (repeat test body)) ⊎ Thr (StatementFormThrough c l (repeat test body) l') K
      which n left (inl i) = on n left (statements_path c result pl body l n [] typed i)
      which n left (inr i) = inr (b.0, (same, (suc zero, turn)), inr (n, left, i))

      by : Second pl b.0 (λ n. ahead n body [] ++ K n)
          → Sec (StatementFormInside c l (repeat test body)) ⊎ Thr (StatementFormThrough c l (repeat test body) l') K
      by (inl t) = inl (b.0, (suc zero, b.0, [], turn, inside_nil c result l body, nil_right_side b.0), t)
      by (inr u) = which u.0 u.1 (among_split (ahead u.0 body []) (K u.0) pl u.2)

  mutual
    statements_sound : (s : Statements) (l : Locals) (K : Name → List ℕ) → StatementsTyped c result l s
        → Among (twice c l s K) pl → Sec (Inside c l s) ⊎ Thr (Through c l s) K
    statements_sound no_statements l K typed h = absurd h
    statements_sound (statements x rest) l K typed h =
        by (among_split (statement_twice c l x (λ n. ahead n rest (K n)))
        (cond (statement_passes x) (twice c (locals_after c l x) rest K) []) pl h)
        (λ i. statement_sound x l typed.0 (λ n. ahead n rest (K n)) typed.1 i)
        (λ i. statements_sound rest typed.0 K typed.2 i)
      where
        behind : (d : Bool) → statement_passes x ≡ d → Among (cond d (twice c (locals_after c l x) rest K) []) pl
            → (Among (twice c typed.0 rest K) pl → Sec (Inside c typed.0 rest) ⊎ Thr (Through c typed.0 rest) K)
            → Sec (Inside c l (statements x rest)) ⊎ Thr (Through c l (statements x rest)) K
        behind false e i go = absurd i
        behind true e i go =
            let m = statement_pass c result x l typed.0 typed.1 e in
            from_rest x rest l typed.0 m.0 K m.1
            (go (subst (λ y. Among (twice c y rest K) pl) (sym (scope_is c x l typed.0 m.0 m.1)) i))

        by : Among (statement_twice c l x (λ n. ahead n rest (K n))) pl
            ⊎ Among (cond (statement_passes x) (twice c (locals_after c l x) rest K) []) pl
            → (Among (statement_twice c l x (λ n. ahead n rest (K n))) pl
            → Sec (StatementInside c l x) ⊎ Thr (StatementThrough c l x typed.0) (λ n. ahead n rest (K n)))
            → (Among (twice c typed.0 rest K) pl → Sec (Inside c typed.0 rest) ⊎ Thr (Through c typed.0 rest) K)
            → Sec (Inside c l (statements x rest)) ⊎ Thr (Through c l (statements x rest)) K
        by (inl a) f g = from_statement x rest l typed.0 K typed.2 (f a)
        by (inr b) f g = behind (statement_passes x) refl b g

    statement_sound : (x : Statement) (l l' : Locals) (K : Name → List ℕ) → StatementTyped c result l x l'
        → Among (statement_twice c l x K) pl → Sec (StatementInside c l x) ⊎ Thr (StatementThrough c l x l') K
    statement_sound (statement at line form) l l' K typed h = statement_form_sound form l l' K typed h

    statement_form_sound : (a : StatementForm) (l l' : Locals) (K : Name → List ℕ) → StatementFormTyped c result l a l'
        → Among (statement_form_twice c l a K) pl
        → Sec (StatementFormInside c l a) ⊎ Thr (StatementFormThrough c l a l') K
    statement_form_sound (bind w r) l l' K typed h =
        inr (right_side_occurrences l r (gets w.text ∷ []), (typed.1, refl), right_side_second pl l r w.text K h)
    statement_form_sound (assign w r) l l' K typed h =
        inr (right_side_occurrences l r (gets w.text ∷ []), (typed.1, refl), right_side_second pl l r w.text K h)
    statement_form_sound (assign_cell w index e) l l' K typed h = absurd h
    statement_form_sound (choose arms) l l' K typed h = by (arms_sound arms l K typed.0 h)
      where
        by : Sec (ArmsInside c l arms) ⊎ Thr (ArmsThrough c l arms) K
            → Sec (StatementFormInside c l (choose arms)) ⊎ Thr (StatementFormThrough c l (choose arms) l') K
        by (inl a) = inl a
        by (inr b) = inr (b.0, (typed.1, inl b.1), b.2)
    statement_form_sound (choose_or arms last) l l' K typed h =
        by (among_split (arms_twice c l arms K) (twice c l last K) pl h) (λ i. arms_sound arms l K typed.0.0 i)
        (λ i. statements_sound last l K typed.0.1 i)
      where
        of_arms : Sec (ArmsInside c l arms) ⊎ Thr (ArmsThrough c l arms) K
            → Sec (StatementFormInside c l (choose_or arms last))
            ⊎ Thr (StatementFormThrough c l (choose_or arms last) l') K
        of_arms (inl a) = inl (a.0, inl a.1, a.2)
        of_arms (inr b) = inr (b.0, (typed.1, inl b.1), b.2)

        of_last : Sec (Inside c l last) ⊎ Thr (Through c l last) K
            → Sec (StatementFormInside c l (choose_or arms last))
            ⊎ Thr (StatementFormThrough c l (choose_or arms last) l') K
        of_last (inl a) = inl (a.0, inr a.1, a.2)
        of_last (inr b) = inr (b.0, (typed.1, inr b.1), b.2)

        by : Among (arms_twice c l arms K) pl ⊎ Among (twice c l last K) pl
            → (Among (arms_twice c l arms K) pl → Sec (ArmsInside c l arms) ⊎ Thr (ArmsThrough c l arms) K)
            → (Among (twice c l last K) pl → Sec (Inside c l last) ⊎ Thr (Through c l last) K)
            → Sec (StatementFormInside c l (choose_or arms last))
            ⊎ Thr (StatementFormThrough c l (choose_or arms last) l') K
        by (inl i) f g = of_arms (f i)
        by (inr i) f g = of_last (g i)
    statement_form_sound (repeat test body) l l' K typed h =
        from_turn test body l l' K typed.1 typed.0.1 (statements_sound body l (λ n. ahead n body [] ++ K n) typed.0.1 h)
    statement_form_sound (call w args) l l' K typed h =
        inr (expressions_occurrences l args [], (typed.1, refl), expressions_second pl l args [] K K (λ n i. (tt, i)) h)
    statement_form_sound (return None) l l' K typed h = absurd h
    statement_form_sound (return (Some e)) l l' K typed h = absurd h
    statement_form_sound (fork w args) l l' K typed h =
        inr (expressions_occurrences l args [], (typed.1, refl), expressions_second pl l args [] K K (λ n i. (tt, i)) h)
    statement_form_sound (join handle) l l' K typed h =
        inr (expression_occurrences l handle [], (typed.1, refl), one_second pl l handle [] K K (λ n i. (tt, i)) h)
    statement_form_sound (print items) l l' K typed h = absurd h
    statement_form_sound (assert test) l l' K typed h = absurd h

    arms_sound : (all : Arms) (l : Locals) (K : Name → List ℕ) → ArmsTyped c result l all
        → Among (arms_twice c l all K) pl → Sec (ArmsInside c l all) ⊎ Thr (ArmsThrough c l all) K
    arms_sound no_arms l K typed h = absurd h
    arms_sound (arm test body rest) l K typed h =
        by (among_split (twice c l body K) (arms_twice c l rest K) pl h) (λ i. statements_sound body l K typed.1 i)
        (λ i. arms_sound rest l K typed.2 i)
      where
        of_body : Sec (Inside c l body) ⊎ Thr (Through c l body) K
            → Sec (ArmsInside c l (arm test body rest)) ⊎ Thr (ArmsThrough c l (arm test body rest)) K
        of_body (inl a) = inl (a.0, inl a.1, a.2)
        of_body (inr b) = inr (b.0, inl b.1, b.2)

        of_rest : Sec (ArmsInside c l rest) ⊎ Thr (ArmsThrough c l rest) K
            → Sec (ArmsInside c l (arm test body rest)) ⊎ Thr (ArmsThrough c l (arm test body rest)) K
        of_rest (inl a) = inl (a.0, inr a.1, a.2)
        of_rest (inr b) = inr (b.0, inr b.1, b.2)

        by : Among (twice c l body K) pl ⊎ Among (arms_twice c l rest K) pl
            → (Among (twice c l body K) pl → Sec (Inside c l body) ⊎ Thr (Through c l body) K)
            → (Among (arms_twice c l rest K) pl → Sec (ArmsInside c l rest) ⊎ Thr (ArmsThrough c l rest) K)
            → Sec (ArmsInside c l (arm test body rest)) ⊎ Thr (ArmsThrough c l (arm test body rest)) K
        by (inl i) f g = of_body (f i)
        by (inr i) f g = of_rest (g i)

  -- ---- the equation

  found_parts : (n : Name) (ms : List Occurrence) → FoundAt n pl ms
      → (between : List Occurrence) × (t : Option (Option ValueKind)) × (w : PlacedName) × (behind : List Occurrence)
      × (ms ≡ between ++ (use_of t w ∷ behind)) × (w.text ≡ n) × NoValue n between × (w.at ≡ pl)
  found_parts n [] h = absurd h
  found_parts n (use_of t w ∷ ms) (inl h) = ([], t, w, ms, refl, h.0, tt, h.1)
  found_parts n (use_of t w ∷ ms) (inr h) =
      let r = found_parts n ms h in (use_of t w ∷ r.0, r.1, r.2, r.3, ap (λ y. use_of t w ∷ y) r.4, r.5, r.6, r.7)
  found_parts n (gets m ∷ ms) h =
      let r = found_parts n ms h.1 in (gets m ∷ r.0, r.1, r.2, r.3, ap (λ y. gets m ∷ y) r.4, r.5, (h.0, r.6), r.7)

  used_twice_of : (l : Locals) (body : Statements) (before ms : List Occurrence) → Inside c l body (before ++ ms)
      → TwiceAt pl ms → UsedTwice c l body pl
  used_twice_of l body before [] path h = absurd h
  used_twice_of l body before (gets m ∷ ms) path h =
      used_twice_of l body (before ++ gets m ∷ []) ms
      (subst (Inside c l body) (sym (append_assoc before (gets m ∷ []) ms)) path) h
  used_twice_of l body before (use_of t w ∷ ms) path (inr h) =
      used_twice_of l body (before ++ use_of t w ∷ []) ms
      (subst (Inside c l body) (sym (append_assoc before (use_of t w ∷ []) ms)) path) h
  used_twice_of l body before (use_of t w ∷ ms) path (inl h) =
      let r = found_parts w.text ms h.1 in
      record {
        before = before;
        between = r.0;
        behind = r.3;
        first = w;
        means = r.1;
        second = r.2;
        path = subst (Inside c l body) ((λ i. before ++ (use_of (h.0 i) w ∷ r.4 i))) path;
        same_name = r.5;
        unchanged = r.6;
        place = r.7;
      }

  through_inside : (s : Statements) (l : Locals) (ms : List Occurrence) → Through c l s ms → Inside c l s ms
  through_inside no_statements l ms path = path
  through_inside (statements x rest) l ms path =
      inr (inr (path.0, path.1, path.2, path.3, through_inside rest path.0 path.2 path.4, path.5))

  -- what the function finds is a second use on a path
  pub all_sound : (l : Locals) (body : Statements) → StatementsTyped c result l body
      → Among (twice c l body (λ n. [])) pl → UsedTwice c l body pl
  all_sound l body typed h = by (statements_sound body l (λ n. []) typed h)
    where
      by : Sec (Inside c l body) ⊎ Thr (Through c l body) (λ n. []) → UsedTwice c l body pl
      by (inl a) = used_twice_of l body [] a.0 a.1 a.2
      by (inr b) = on b.2
        where
          on : Second pl b.0 (λ n. []) → UsedTwice c l body pl
          on (inl t) = used_twice_of l body [] b.0 (through_inside body l b.0 b.1) t
          on (inr u) = absurd u.2
