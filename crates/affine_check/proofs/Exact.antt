-- The function that gives the places of second uses gives all that the paths have.
use Rattle.std.proofs.Common.{◌≡◌, ◌∙◌, ◌⊎◌, inl, inr, ℕ, zero, suc, true, false, cond, List, [], ◌∷◌, ◌++◌, Option, Some, None, refl, sym, ap, subst}
use Rattle.std.specs.Prelude.{if◌then◌else◌}
use Rattle.rev_num.specs.declared.value.ValueKind.{ValueKind}
use Rattle.rev_num.specs.declared.value.ValueKind.TheVariants as k
use Rattle.rev_syntax.specs.Trees.{PlacedName, Expression, placed, int, bool, no_rev, var, cell, apply, input, inputs, pick, unary, chain, Expressions, no_expressions, expression, RightSide, plain, called, forked, tried, Statement, statement, StatementForm, bind, assign, assign_cell, choose, choose_or, repeat, call, return, fork, join, print, assert, Statements, no_statements, statements, Arms, no_arms, arm}
use Rattle.typed_programs.specs.Least.{Among}
use Rattle.name_tables.specs.Names.{Name, same}
use Rattle.name_tables.specs.Table.{find, added}
use Rattle.typed_programs.proofs.Firsts.{left_among, right_among, among_split}
use Rattle.rev_syntax.proofs.Lists.{same-self}
use Rattle.typed_programs.specs.Kinds.{Names, Locals}
use Rattle.typed_programs.specs.Scopes.{locals_after}
use Rattle.typed_programs.proofs.Scopes.{right_side_is}
use Rattle.affine_check.specs.Live.{statement_passes, statement_form_passes, passes, arms_pass, or}
use Rattle.affine_check.proofs.Counts.{or_left, or_right}
use Rattle.affine_check.specs.Affine.{Occurrence, use_of, gets, expression_occurrences, expressions_occurrences, right_side_occurrences, value_occurrences, Turns, Through, StatementThrough, StatementFormThrough, ArmsThrough, Inside, StatementInside, StatementFormInside, ArmsInside, NoValue, rev_use, UsedTwice}
use Rattle.affine_check.specs.SecondUses.{expression_places, expressions_places, right_side_places, value_places, ahead, statement_ahead, statement_form_ahead, arms_ahead, if_rev, expression_twice, expressions_twice, right_side_twice, twice, statement_twice, statement_form_twice, arms_twice}

-- ---- lists

-- a use of the name at this place before it gets a value
abbrev pub FoundAt : Name → ℕ → List Occurrence → Type 0
FoundAt n p [] = ⊥
FoundAt n p (use_of t w ∷ ms) = ((w.text ≡ n) × (w.at ≡ p)) ⊎ FoundAt n p ms
FoundAt n p (gets m ∷ ms) = (same n m ≡ false) × FoundAt n p ms

-- a use of a rev local, and then of its name at this place with no value between
abbrev pub TwiceAt : ℕ → List Occurrence → Type 0
TwiceAt p [] = ⊥
TwiceAt p (use_of t w ∷ ms) = ((t ≡ Some (Some k.Rev)) × FoundAt w.text p ms) ⊎ TwiceAt p ms
TwiceAt p (gets m ∷ ms) = TwiceAt p ms

-- a use of the rev local of this name, which gets no value behind it
abbrev pub LeftAt : Name → List Occurrence → Type 0
LeftAt n [] = ⊥
LeftAt n (use_of t w ∷ ms) = ((t ≡ Some (Some k.Rev)) × (w.text ≡ n) × NoValue n ms) ⊎ LeftAt n ms
LeftAt n (gets m ∷ ms) = LeftAt n ms

found_split : (n : Name) (p : ℕ) (xs ys : List Occurrence) → FoundAt n p (xs ++ ys)
    → FoundAt n p xs ⊎ (NoValue n xs × FoundAt n p ys)
found_split n p [] ys h = inr (tt, h)
found_split n p (use_of t w ∷ xs) ys (inl e) = inl (inl e)
found_split n p (use_of t w ∷ xs) ys (inr h) = by (found_split n p xs ys h)
  where
    by : FoundAt n p xs ⊎ (NoValue n xs × FoundAt n p ys)
        → FoundAt n p (use_of t w ∷ xs) ⊎ (NoValue n (use_of t w ∷ xs) × FoundAt n p ys)
    by (inl f) = inl (inr f)
    by (inr q) = inr q
found_split n p (gets m ∷ xs) ys h = by (found_split n p xs ys h.1)
  where
    by : FoundAt n p xs ⊎ (NoValue n xs × FoundAt n p ys)
        → FoundAt n p (gets m ∷ xs) ⊎ (NoValue n (gets m ∷ xs) × FoundAt n p ys)
    by (inl f) = inl (h.0, f)
    by (inr q) = inr ((h.0, q.0), q.1)

none_split : (n : Name) (xs ys : List Occurrence) → NoValue n (xs ++ ys) → NoValue n xs × NoValue n ys
none_split n [] ys h = (tt, h)
none_split n (use_of t w ∷ xs) ys h = none_split n xs ys h
none_split n (gets m ∷ xs) ys h = let r = none_split n xs ys h.1 in ((h.0, r.0), r.1)

twice_split : (p : ℕ) (xs ys : List Occurrence) → TwiceAt p (xs ++ ys)
    → TwiceAt p xs ⊎ (((n : Name) × LeftAt n xs × FoundAt n p ys) ⊎ TwiceAt p ys)
twice_split p [] ys h = inr (inr h)
twice_split p (use_of t w ∷ xs) ys (inl f) = by (found_split w.text p xs ys f.1)
  where
    by : FoundAt w.text p xs ⊎ (NoValue w.text xs × FoundAt w.text p ys)
        → TwiceAt p (use_of t w ∷ xs) ⊎ (((n : Name) × LeftAt n (use_of t w ∷ xs) × FoundAt n p ys) ⊎ TwiceAt p ys)
    by (inl g) = inl (inl (f.0, g))
    by (inr q) = inr (inl (w.text, inl (f.0, refl, q.0), q.1))
twice_split p (use_of t w ∷ xs) ys (inr h) = by (twice_split p xs ys h)
  where
    by : TwiceAt p xs ⊎ (((n : Name) × LeftAt n xs × FoundAt n p ys) ⊎ TwiceAt p ys)
        → TwiceAt p (use_of t w ∷ xs) ⊎ (((n : Name) × LeftAt n (use_of t w ∷ xs) × FoundAt n p ys) ⊎ TwiceAt p ys)
    by (inl g) = inl (inr g)
    by (inr (inl q)) = inr (inl (q.0, inr q.1, q.2))
    by (inr (inr g)) = inr (inr g)
twice_split p (gets m ∷ xs) ys h = twice_split p xs ys h

pub left_split : (n : Name) (xs ys : List Occurrence) → LeftAt n (xs ++ ys) → (LeftAt n xs × NoValue n ys) ⊎ LeftAt n ys
left_split n [] ys h = inr h
left_split n (use_of t w ∷ xs) ys (inl f) = let r = none_split n xs ys f.2 in inl (inl (f.0, f.1, r.0), r.1)
left_split n (use_of t w ∷ xs) ys (inr h) = by (left_split n xs ys h)
  where
    by : (LeftAt n xs × NoValue n ys) ⊎ LeftAt n ys → (LeftAt n (use_of t w ∷ xs) × NoValue n ys) ⊎ LeftAt n ys
    by (inl g) = inl (inr g.0, g.1)
    by (inr g) = inr g
left_split n (gets m ∷ xs) ys h = left_split n xs ys h

-- the recursive form says what the equation says
pub twice_at : (p : ℕ) (before between behind : List Occurrence) (first : PlacedName) (t : Option (Option ValueKind))
    (second : PlacedName)
    → second.text ≡ first.text → NoValue first.text between → second.at ≡ p
    → TwiceAt p (before ++ (rev_use first ∷ (between ++ (use_of t second ∷ behind))))
twice_at p [] between behind first t second e none at = inl (refl, found between none)
  where
    found : (ms : List Occurrence) → NoValue first.text ms → FoundAt first.text p (ms ++ (use_of t second ∷ behind))
    found [] h = inl (e, at)
    found (use_of u w ∷ ms) h = inr (found ms h)
    found (gets m ∷ ms) h = (h.0, found ms h.1)
twice_at p (use_of u w ∷ before) between behind first t second e none at =
    inr (twice_at p before between behind first t second e none at)
twice_at p (gets m ∷ before) between behind first t second e none at =
    twice_at p before between behind first t second e none at

-- ---- uses

expression_found : (n : Name) (p : ℕ) (l : Locals) (x : Expression) (later : List Occurrence)
    → FoundAt n p (expression_occurrences l x later) → Among (expression_places n x) p ⊎ FoundAt n p later
expression_found n p l (placed at (int z)) later h = inr h
expression_found n p l (placed at (bool z)) later h = inr h
expression_found n p l (placed at no_rev) later h = inr h
expression_found n p l (placed at (var w)) later (inr h) = inr h
expression_found n p l (placed at (var w)) later (inl h) =
    inl (subst (λ d. Among (cond d (w.at ∷ []) []) p) (sym (ap (λ y. same y w.text) (sym h.0) ∙ same-self w.text))
    (inl h.1))
expression_found n p l (placed at (cell w index)) later h = inr h
expression_found n p l (placed at (apply w args)) later h = inr h
expression_found n p l (placed at (input i index)) later h = inr h
expression_found n p l (placed at (inputs i)) later h = inr h
expression_found n p l (placed at (pick test x y)) later h = inr h
expression_found n p l (placed at (unary op part)) later h = inr h
expression_found n p l (placed at (chain first rest)) later h = inr h

expressions_found : (n : Name) (p : ℕ) (l : Locals) (xs : Expressions) (later : List Occurrence)
    → FoundAt n p (expressions_occurrences l xs later) → Among (expressions_places n xs) p ⊎ FoundAt n p later
expressions_found n p l no_expressions later h = inr h
expressions_found n p l (expression x xs) later h =
    by (expression_found n p l x (expressions_occurrences l xs later) h) (expressions_found n p l xs later)
  where
    on : Among (expressions_places n xs) p ⊎ FoundAt n p later
        → Among (expression_places n x ++ expressions_places n xs) p ⊎ FoundAt n p later
    on (inl a) = inl (right_among (expression_places n x) (expressions_places n xs) p a)
    on (inr f) = inr f

    by : Among (expression_places n x) p ⊎ FoundAt n p (expressions_occurrences l xs later)
        → (FoundAt n p (expressions_occurrences l xs later) → Among (expressions_places n xs) p ⊎ FoundAt n p later)
        → Among (expression_places n x ++ expressions_places n xs) p ⊎ FoundAt n p later
    by (inl a) rest = inl (left_among (expression_places n x) (expressions_places n xs) p a)
    by (inr f) rest = on (rest f)

right_side_found : (n : Name) (p : ℕ) (l : Locals) (r : RightSide) (later : List Occurrence)
    → FoundAt n p (right_side_occurrences l r later) → Among (right_side_places n r) p ⊎ FoundAt n p later
right_side_found n p l (plain e) later h = inr h
right_side_found n p l (called at w args) later h = expressions_found n p l args later h
right_side_found n p l (forked at w args) later h = expressions_found n p l args later h
right_side_found n p l (tried at handle) later h = expression_found n p l handle later h

value_found : (n : Name) (p : ℕ) (l : Locals) (e : Option Expression) → FoundAt n p (value_occurrences l e)
    → Among (value_places n e) p
value_found n p l None h = absurd h
value_found n p l (Some e) h = by (expression_found n p l e [] h)
  where
    by : Among (expression_places n e) p ⊎ ⊥ → Among (expression_places n e) p
    by (inl a) = a
    by (inr f) = absurd f

expression_none : (n : Name) (l : Locals) (x : Expression) (later : List Occurrence)
    → NoValue n (expression_occurrences l x later) → NoValue n later
expression_none n l (placed at (int z)) later h = h
expression_none n l (placed at (bool z)) later h = h
expression_none n l (placed at no_rev) later h = h
expression_none n l (placed at (var w)) later h = h
expression_none n l (placed at (cell w index)) later h = h
expression_none n l (placed at (apply w args)) later h = h
expression_none n l (placed at (input i index)) later h = h
expression_none n l (placed at (inputs i)) later h = h
expression_none n l (placed at (pick test x y)) later h = h
expression_none n l (placed at (unary op part)) later h = h
expression_none n l (placed at (chain first rest)) later h = h

expressions_none : (n : Name) (l : Locals) (xs : Expressions) (later : List Occurrence)
    → NoValue n (expressions_occurrences l xs later) → NoValue n later
expressions_none n l no_expressions later h = h
expressions_none n l (expression x xs) later h =
    expressions_none n l xs later (expression_none n l x (expressions_occurrences l xs later) h)

pub right_side_none : (n : Name) (l : Locals) (r : RightSide) (later : List Occurrence)
    → NoValue n (right_side_occurrences l r later) → NoValue n later
right_side_none n l (plain e) later h = h
right_side_none n l (called at w args) later h = expressions_none n l args later h
right_side_none n l (forked at w args) later h = expressions_none n l args later h
right_side_none n l (tried at handle) later h = expression_none n l handle later h

-- ---- what is ahead

-- the name is used at this place, or it gets no value and this place is among those behind
abbrev Meets : Name → ℕ → List Occurrence → List ℕ → Type 0
Meets n p ms later = FoundAt n p ms ⊎ (NoValue n ms × Among later p)

meets_split : (n : Name) (p : ℕ) (xs ys : List Occurrence) (later : List ℕ) → Meets n p (xs ++ ys) later
    → FoundAt n p xs ⊎ (NoValue n xs × Meets n p ys later)
meets_split n p xs ys later (inl h) = by (found_split n p xs ys h)
  where
    by : FoundAt n p xs ⊎ (NoValue n xs × FoundAt n p ys) → FoundAt n p xs ⊎ (NoValue n xs × Meets n p ys later)
    by (inl f) = inl f
    by (inr q) = inr (q.0, inl q.1)
meets_split n p xs ys later (inr h) = let r = none_split n xs ys h.0 in inr (r.0, inr (r.1, h.1))

meets_none : (n : Name) (p : ℕ) (ms : List Occurrence) (later : List ℕ) → ms ≡ [] → Meets n p ms later → Among later p
meets_none n p ms later e h = by (subst (λ x. Meets n p x later) e h)
  where
    by : Meets n p [] later → Among later p
    by (inl f) = absurd f
    by (inr q) = q.1

expressions_ahead : (n : Name) (p : ℕ) (l : Locals) (xs : Expressions) (ms : List Occurrence) (later : List ℕ)
    → ms ≡ expressions_occurrences l xs [] → Meets n p ms later → Among (expressions_places n xs ++ later) p
expressions_ahead n p l xs ms later e h = by (subst (λ x. Meets n p x later) e h)
  where
    on : Among (expressions_places n xs) p ⊎ ⊥ → Among (expressions_places n xs ++ later) p
    on (inl a) = left_among (expressions_places n xs) later p a
    on (inr b) = absurd b

    by : Meets n p (expressions_occurrences l xs []) later → Among (expressions_places n xs ++ later) p
    by (inl f) = on (expressions_found n p l xs [] f)
    by (inr q) = right_among (expressions_places n xs) later p q.1

expression_ahead : (n : Name) (p : ℕ) (l : Locals) (x : Expression) (ms : List Occurrence) (later : List ℕ)
    → ms ≡ expression_occurrences l x [] → Meets n p ms later → Among (expression_places n x ++ later) p
expression_ahead n p l x ms later e h = by (subst (λ y. Meets n p y later) e h)
  where
    on : Among (expression_places n x) p ⊎ ⊥ → Among (expression_places n x ++ later) p
    on (inl a) = left_among (expression_places n x) later p a
    on (inr b) = absurd b

    by : Meets n p (expression_occurrences l x []) later → Among (expression_places n x ++ later) p
    by (inl f) = on (expression_found n p l x [] f)
    by (inr q) = right_among (expression_places n x) later p q.1

given_ahead : (n : Name) (p : ℕ) (l : Locals) (r : RightSide) (w : Name) (ms : List Occurrence) (later : List ℕ)
    → ms ≡ right_side_occurrences l r (gets w ∷ []) → Meets n p ms later
    → Among (right_side_places n r ++ (if same n w then [] else later)) p
given_ahead n p l r w ms later e h = by (subst (λ y. Meets n p y later) e h)
  where
    on : Among (right_side_places n r) p ⊎ FoundAt n p (gets w ∷ [])
        → Among (right_side_places n r ++ (if same n w then [] else later)) p
    on (inl a) = left_among (right_side_places n r) (if same n w then [] else later) p a
    on (inr f) = absurd f.1

    by : Meets n p (right_side_occurrences l r (gets w ∷ [])) later
        → Among (right_side_places n r ++ (if same n w then [] else later)) p
    by (inl f) = on (right_side_found n p l r (gets w ∷ []) f)
    by (inr q) =
        let differ = right_side_none n l r (gets w ∷ []) q.0 in
        right_among (right_side_places n r) (if same n w then [] else later) p
        (subst (λ d. Among (cond d [] later) p) (sym differ.0) q.1)

module _ (c : Names) where
  turns_ahead : (n : Name) (p : ℕ) (l : Locals) (body : Statements) (later : List ℕ)
      → ((ms : List Occurrence) → Through c l body ms → FoundAt n p ms → Among (ahead n body []) p)
      → (t : ℕ) (ms : List Occurrence) → Turns (λ xs. Through c l body xs) t ms → Meets n p ms later
      → Among (ahead n body [] ++ later) p
  turns_ahead n p l body later go zero ms e h = right_among (ahead n body []) later p (meets_none n p ms later e h)
  turns_ahead n p l body later go (suc t) ms turn h =
      by (meets_split n p turn.0 turn.1 later (subst (λ x. Meets n p x later) turn.4 h))
      (turns_ahead n p l body later go t turn.1 turn.3)
    where
      by : FoundAt n p turn.0 ⊎ (NoValue n turn.0 × Meets n p turn.1 later)
          → (Meets n p turn.1 later → Among (ahead n body [] ++ later) p) → Among (ahead n body [] ++ later) p
      by (inl f) rest = left_among (ahead n body []) later p (go turn.0 turn.2 f)
      by (inr q) rest = rest q.1

  other_ahead : (all : Arms) (n : Name) (p : ℕ) (other later : List ℕ) → Among other p
      → Among (arms_ahead n all other later) p
  other_ahead no_arms n p other later h = h
  other_ahead (arm test body rest) n p other later h =
      right_among (ahead n body later) (arms_ahead n rest other later) p (other_ahead rest n p other later h)

  broken_in_statements : (x : Statement) (rest : Statements) (l : Locals) (n : Name) (p : ℕ) (later : List ℕ)
      (l' : Locals) (xs ys : List Occurrence)
      → StatementThrough c l x l' xs → FoundAt n p xs ⊎ (NoValue n xs × Meets n p ys later)
      → (Meets n p xs (ahead n rest later) → Among (statement_ahead n x (ahead n rest later)) p)
      → (Meets n p ys later → Among (ahead n rest later) p) → Among (statement_ahead n x (ahead n rest later)) p
  broken_in_statements x rest l n p later l' xs ys path (inl f) go behind = go (inl f)
  broken_in_statements x rest l n p later l' xs ys path (inr q) go behind = go (inr (q.0, behind q.1))

  mutual
    statements_ahead : (s : Statements) (l : Locals) (n : Name) (p : ℕ) (later : List ℕ) (ms : List Occurrence)
        → Through c l s ms → Meets n p ms later → Among (ahead n s later) p
    statements_ahead no_statements l n p later ms path h = meets_none n p ms later path h
    statements_ahead (statements x rest) l n p later ms path h =
        broken_in_statements x rest l n p later path.0 path.1 path.2 path.3
        (meets_split n p path.1 path.2 later (subst (λ y. Meets n p y later) path.5 h))
        (statement_through x l path.0 n p (ahead n rest later) path.1 path.3)
        (statements_ahead rest path.0 n p later path.2 path.4)

    statement_through : (x : Statement) (l l' : Locals) (n : Name) (p : ℕ) (later : List ℕ) (ms : List Occurrence)
        → StatementThrough c l x l' ms → Meets n p ms later → Among (statement_ahead n x later) p
    statement_through (statement at line form) l l' n p later ms path h =
        statement_form_through form l l' n p later ms path h

    statement_form_through : (a : StatementForm) (l l' : Locals) (n : Name) (p : ℕ) (later : List ℕ)
        (ms : List Occurrence)
        → StatementFormThrough c l a l' ms → Meets n p ms later → Among (statement_form_ahead n a later) p
    statement_form_through (bind w r) l l' n p later ms path h = given_ahead n p l r w.text ms later path.1 h
    statement_form_through (assign w r) l l' n p later ms path h = given_ahead n p l r w.text ms later path.1 h
    statement_form_through (assign_cell w index e) l l' n p later ms path h = meets_none n p ms later path.1 h
    statement_form_through (choose arms) l l' n p later ms path h =
        by path.1 (λ q. arms_through arms l n p later later ms q h)
      where
        by : ArmsThrough c l arms ms ⊎ (ms ≡ []) → (ArmsThrough c l arms ms → Among (arms_ahead n arms later later) p)
            → Among (arms_ahead n arms later later) p
        by (inl q) go = go q
        by (inr e) go = other_ahead arms n p later later (meets_none n p ms later e h)
    statement_form_through (choose_or arms last) l l' n p later ms path h =
        by path.1 (λ q. arms_through arms l n p (ahead n last later) later ms q h)
        (λ q. statements_ahead last l n p later ms q h)
      where
        by : ArmsThrough c l arms ms ⊎ Through c l last ms
            → (ArmsThrough c l arms ms → Among (arms_ahead n arms (ahead n last later) later) p)
            → (Through c l last ms → Among (ahead n last later) p)
            → Among (arms_ahead n arms (ahead n last later) later) p
        by (inl q) f g = f q
        by (inr q) f g = other_ahead arms n p (ahead n last later) later (g q)
    statement_form_through (repeat test body) l l' n p later ms path h =
        turns_ahead n p l body later (λ xs q f. statements_ahead body l n p [] xs q (inl f)) path.1.0 ms path.1.1 h
    statement_form_through (call w args) l l' n p later ms path h = expressions_ahead n p l args ms later path.1 h
    statement_form_through (return e) l l' n p later ms path h = absurd path
    statement_form_through (fork w args) l l' n p later ms path h = expressions_ahead n p l args ms later path.1 h
    statement_form_through (join handle) l l' n p later ms path h = expression_ahead n p l handle ms later path.1 h
    statement_form_through (print items) l l' n p later ms path h = meets_none n p ms later path.1 h
    statement_form_through (assert test) l l' n p later ms path h = meets_none n p ms later path.1 h

    arms_through : (all : Arms) (l : Locals) (n : Name) (p : ℕ) (other later : List ℕ) (ms : List Occurrence)
        → ArmsThrough c l all ms → Meets n p ms later → Among (arms_ahead n all other later) p
    arms_through no_arms l n p other later ms path h = absurd path
    arms_through (arm test body rest) l n p other later ms (inl path) h =
        left_among (ahead n body later) (arms_ahead n rest other later) p (statements_ahead body l n p later ms path h)
    arms_through (arm test body rest) l n p other later ms (inr path) h =
        right_among (ahead n body later) (arms_ahead n rest other later) p
        (arms_through rest l n p other later ms path h)

  mutual
    statements_inside : (s : Statements) (l : Locals) (n : Name) (p : ℕ) (later : List ℕ) (ms : List Occurrence)
        → Inside c l s ms → FoundAt n p ms → Among (ahead n s later) p
    statements_inside no_statements l n p later ms path h = absurd (subst (FoundAt n p) path h)
    statements_inside (statements x rest) l n p later ms (inl e) h = absurd (subst (FoundAt n p) e h)
    statements_inside (statements x rest) l n p later ms (inr (inl path)) h =
        statement_inside x l n p (ahead n rest later) ms path h
    statements_inside (statements x rest) l n p later ms (inr (inr path)) h =
        by (found_split n p path.1 path.2 (subst (FoundAt n p) path.5 h))
        (statements_inside rest path.0 n p later path.2 path.4)
      where
        by : FoundAt n p path.1 ⊎ (NoValue n path.1 × FoundAt n p path.2)
            → (FoundAt n p path.2 → Among (ahead n rest later) p) → Among (statement_ahead n x (ahead n rest later)) p
        by (inl f) go = statement_through x l path.0 n p (ahead n rest later) path.1 path.3 (inl f)
        by (inr q) go = statement_through x l path.0 n p (ahead n rest later) path.1 path.3 (inr (q.0, go q.1))

    statement_inside : (x : Statement) (l : Locals) (n : Name) (p : ℕ) (later : List ℕ) (ms : List Occurrence)
        → StatementInside c l x ms → FoundAt n p ms → Among (statement_ahead n x later) p
    statement_inside (statement at line form) l n p later ms path h = statement_form_inside form l n p later ms path h

    statement_form_inside : (a : StatementForm) (l : Locals) (n : Name) (p : ℕ) (later : List ℕ) (ms : List Occurrence)
        → StatementFormInside c l a ms → FoundAt n p ms → Among (statement_form_ahead n a later) p
    statement_form_inside (bind w r) l n p later ms path h = absurd path
    statement_form_inside (assign w r) l n p later ms path h = absurd path
    statement_form_inside (assign_cell w index e) l n p later ms path h = absurd path
    statement_form_inside (choose arms) l n p later ms path h = arms_inside arms l n p later later ms path h
    statement_form_inside (choose_or arms last) l n p later ms (inl path) h =
        arms_inside arms l n p (ahead n last later) later ms path h
    statement_form_inside (choose_or arms last) l n p later ms (inr path) h =
        other_ahead arms n p (ahead n last later) later (statements_inside last l n p later ms path h)
    statement_form_inside (repeat test body) l n p later ms path h =
        by (found_split n p path.1 path.2 (subst (FoundAt n p) path.5 h))
        (λ f. statements_inside body l n p [] path.2 path.4 f)
      where
        by : FoundAt n p path.1 ⊎ (NoValue n path.1 × FoundAt n p path.2)
            → (FoundAt n p path.2 → Among (ahead n body []) p) → Among (ahead n body [] ++ later) p
        by (inl f) go =
            turns_ahead n p l body later (λ xs q f. statements_ahead body l n p [] xs q (inl f)) path.0 path.1 path.3
            (inl f)
        by (inr q) go = left_among (ahead n body []) later p (go q.1)
    statement_form_inside (call w args) l n p later ms path h = absurd path
    statement_form_inside (return e) l n p later ms path h = value_found n p l e (subst (FoundAt n p) path h)
    statement_form_inside (fork w args) l n p later ms path h = absurd path
    statement_form_inside (join handle) l n p later ms path h = absurd path
    statement_form_inside (print items) l n p later ms path h = absurd path
    statement_form_inside (assert test) l n p later ms path h = absurd path

    arms_inside : (all : Arms) (l : Locals) (n : Name) (p : ℕ) (other later : List ℕ) (ms : List Occurrence)
        → ArmsInside c l all ms → FoundAt n p ms → Among (arms_ahead n all other later) p
    arms_inside no_arms l n p other later ms path h = absurd path
    arms_inside (arm test body rest) l n p other later ms (inl path) h =
        left_among (ahead n body later) (arms_ahead n rest other later) p (statements_inside body l n p later ms path h)
    arms_inside (arm test body rest) l n p other later ms (inr path) h =
        right_among (ahead n body later) (arms_ahead n rest other later) p
        (arms_inside rest l n p other later ms path h)

-- ---- second uses

-- there is a second use at this place, or a local is left used that this place uses behind
abbrev Ends : ℕ → List Occurrence → (Name → List ℕ) → Type 0
Ends p ms K = TwiceAt p ms ⊎ ((n : Name) × LeftAt n ms × Among (K n) p)

ends_split : (p : ℕ) (xs ys : List Occurrence) (K X : Name → List ℕ) → ((n : Name) → Meets n p ys (K n) → Among (X n) p)
    → Ends p (xs ++ ys) K → Ends p xs X ⊎ Ends p ys K
ends_split p xs ys K X go (inl h) = by (twice_split p xs ys h)
  where
    by : TwiceAt p xs ⊎ (((n : Name) × LeftAt n xs × FoundAt n p ys) ⊎ TwiceAt p ys) → Ends p xs X ⊎ Ends p ys K
    by (inl a) = inl (inl a)
    by (inr (inl q)) = inl (inr (q.0, q.1, go q.0 (inl q.2)))
    by (inr (inr b)) = inr (inl b)
ends_split p xs ys K X go (inr h) = by (left_split h.0 xs ys h.1)
  where
    by : (LeftAt h.0 xs × NoValue h.0 ys) ⊎ LeftAt h.0 ys → Ends p xs X ⊎ Ends p ys K
    by (inl q) = inl (inr (h.0, q.0, go h.0 (inr (q.1, h.2))))
    by (inr b) = inr (inr (h.0, b, h.2))

ends_none : (p : ℕ) (ms : List Occurrence) (K : Name → List ℕ) → ms ≡ [] → Ends p ms K → ⊥
ends_none p ms K e h = by (subst (λ x. Ends p x K) e h)
  where
    by : Ends p [] K → ⊥
    by (inl a) = a
    by (inr b) = b.1

expression_ends : (p : ℕ) (l : Locals) (x : Expression) (later : List Occurrence) (K X : Name → List ℕ)
    → ((n : Name) → Meets n p later (K n) → Among (X n) p) → Ends p (expression_occurrences l x later) K
    → Among (expression_twice l x X) p ⊎ Ends p later K
expression_ends p l (placed at (int z)) later K X go h = inr h
expression_ends p l (placed at (bool z)) later K X go h = inr h
expression_ends p l (placed at no_rev) later K X go h = inr h
expression_ends p l (placed at (cell w index)) later K X go h = inr h
expression_ends p l (placed at (apply w args)) later K X go h = inr h
expression_ends p l (placed at (input i index)) later K X go h = inr h
expression_ends p l (placed at (inputs i)) later K X go h = inr h
expression_ends p l (placed at (pick test x y)) later K X go h = inr h
expression_ends p l (placed at (unary op part)) later K X go h = inr h
expression_ends p l (placed at (chain first rest)) later K X go h = inr h
expression_ends p l (placed at (var w)) later K X go (inl (inl f)) =
    inl (subst (λ o. Among (if_rev o (X w.text)) p) (sym f.0) (go w.text (inl f.1)))
expression_ends p l (placed at (var w)) later K X go (inl (inr h)) = inr (inl h)
expression_ends p l (placed at (var w)) later K X go (inr h) = by h.1
  where
    by : LeftAt h.0 (use_of (find w.text l) w ∷ later) → Among (if_rev (find w.text l) (X w.text)) p ⊎ Ends p later K
    by (inl f) = inl (subst (λ o. Among (if_rev o (X w.text)) p) (sym f.0)
        (subst (λ m. Among (X m) p) (sym f.1) (go h.0 (inr (f.2, h.2)))))
    by (inr g) = inr (inr (h.0, g, h.2))

-- what follows the uses of a statement: nothing, or a new value
abbrev Quiet : ℕ → List Occurrence → (Name → List ℕ) → (Name → List ℕ) → Type 0
Quiet p later K X = (Ends p later K → ⊥) × ((n : Name) → Meets n p later (K n) → Among (X n) p)

expressions_ends : (p : ℕ) (l : Locals) (xs : Expressions) (later : List Occurrence) (K X : Name → List ℕ)
    → Quiet p later K X → Ends p (expressions_occurrences l xs later) K → Among (expressions_twice l xs X) p
expressions_ends p l no_expressions later K X quiet h = absurd (quiet.0 h)
expressions_ends p l (expression x xs) later K X quiet h =
    by (expression_ends p l x (expressions_occurrences l xs later) K (λ n. expressions_places n xs ++ X n) go h)
    (expressions_ends p l xs later K X quiet)
  where
    go : (n : Name) → Meets n p (expressions_occurrences l xs later) (K n) → Among (expressions_places n xs ++ X n) p
    go n (inl f) = on (expressions_found n p l xs later f)
      where
        on : Among (expressions_places n xs) p ⊎ FoundAt n p later → Among (expressions_places n xs ++ X n) p
        on (inl a) = left_among (expressions_places n xs) (X n) p a
        on (inr b) = right_among (expressions_places n xs) (X n) p (quiet.1 n (inl b))
    go n (inr q) =
        right_among (expressions_places n xs) (X n) p (quiet.1 n (inr (expressions_none n l xs later q.0, q.1)))

    by : Among (expression_twice l x (λ n. expressions_places n xs ++ X n)) p
        ⊎ Ends p (expressions_occurrences l xs later) K
        → (Ends p (expressions_occurrences l xs later) K → Among (expressions_twice l xs X) p)
        → Among (expressions_twice l (expression x xs) X) p
    by (inl a) rest =
        left_among (expression_twice l x (λ n. expressions_places n xs ++ X n)) (expressions_twice l xs X) p a
    by (inr b) rest =
        right_among (expression_twice l x (λ n. expressions_places n xs ++ X n)) (expressions_twice l xs X) p (rest b)

-- nothing follows
no_more : (p : ℕ) (K : Name → List ℕ) → Quiet p [] K K
no_more p K = (ends_none p [] K refl, λ n h. meets_none n p [] (K n) refl h)

-- a name gets its value
a_value : (p : ℕ) (w : Name) (K : Name → List ℕ) → Quiet p (gets w ∷ []) K (λ n. if same n w then [] else K n)
a_value p w K = (ends, go)
  where
    ends : Ends p (gets w ∷ []) K → ⊥
    ends (inl a) = a
    ends (inr b) = b.1

    go : (n : Name) → Meets n p (gets w ∷ []) (K n) → Among (if same n w then [] else K n) p
    go n (inl f) = absurd f.1
    go n (inr q) = subst (λ d. Among (cond d [] (K n)) p) (sym q.0.0) q.1

one_end : (p : ℕ) (l : Locals) (x : Expression) (later : List Occurrence) (K X : Name → List ℕ) → Quiet p later K X
    → Ends p (expression_occurrences l x later) K → Among (expression_twice l x X) p
one_end p l x later K X quiet h = by (expression_ends p l x later K X quiet.1 h)
  where
    by : Among (expression_twice l x X) p ⊎ Ends p later K → Among (expression_twice l x X) p
    by (inl a) = a
    by (inr b) = absurd (quiet.0 b)

right_side_ends : (p : ℕ) (l : Locals) (r : RightSide) (w : Name) (K : Name → List ℕ)
    → Ends p (right_side_occurrences l r (gets w ∷ [])) K
    → Among (right_side_twice l r (λ n. if same n w then [] else K n)) p
right_side_ends p l (plain e) w K h = absurd ((a_value p w K).0 h)
right_side_ends p l (called at v args) w K h =
    expressions_ends p l args (gets w ∷ []) K (λ n. if same n w then [] else K n) (a_value p w K) h
right_side_ends p l (forked at v args) w K h =
    expressions_ends p l args (gets w ∷ []) K (λ n. if same n w then [] else K n) (a_value p w K) h
right_side_ends p l (tried at handle) w K h =
    one_end p l handle (gets w ∷ []) K (λ n. if same n w then [] else K n) (a_value p w K) h

-- one use is no second use
expression_single : (p : ℕ) (l : Locals) (x : Expression) → TwiceAt p (expression_occurrences l x []) → ⊥
expression_single p l x h =
    by (expression_ends p l x [] (λ n. []) (λ n. []) (λ n m. meets_none n p [] [] refl m) (inl h))
  where
    empty : (l : Locals) (x : Expression) → Among (expression_twice l x (λ n. [])) p → ⊥
    empty l (placed at (var w)) h = on (find w.text l) h
      where
        on : (o : Option (Option ValueKind)) → Among (if_rev o []) p → ⊥
        on None h = h
        on (Some None) h = h
        on (Some (Some k.Int)) h = h
        on (Some (Some k.Bool)) h = h
        on (Some (Some k.Rev)) h = h
    empty l (placed at (int z)) h = h
    empty l (placed at (bool z)) h = h
    empty l (placed at no_rev) h = h
    empty l (placed at (cell w index)) h = h
    empty l (placed at (apply w args)) h = h
    empty l (placed at (input i index)) h = h
    empty l (placed at (inputs i)) h = h
    empty l (placed at (pick test x y)) h = h
    empty l (placed at (unary op part)) h = h
    empty l (placed at (chain first rest)) h = h

    by : Among (expression_twice l x (λ n. [])) p ⊎ Ends p [] (λ n. []) → ⊥
    by (inl a) = empty l x a
    by (inr b) = ends_none p [] (λ n. []) refl b

module _ (c : Names) where
  pub scope_is : (x : Statement) (l l' : Locals) (ms : List Occurrence) → StatementThrough c l x l' ms
      → l' ≡ locals_after c l x
  scope_is (statement at line (bind w r)) l l' ms path =
      path.0.2 ∙ ap (λ o. added l w.text o) (sym (right_side_is c l r path.0.0 path.0.1))
  scope_is (statement at line (assign w r)) l l' ms path = path.0
  scope_is (statement at line (assign_cell w index e)) l l' ms path = path.0
  scope_is (statement at line (choose arms)) l l' ms path = path.0
  scope_is (statement at line (choose_or arms last)) l l' ms path = path.0
  scope_is (statement at line (repeat test body)) l l' ms path = path.0
  scope_is (statement at line (call w args)) l l' ms path = path.0
  scope_is (statement at line (return e)) l l' ms path = absurd path
  scope_is (statement at line (fork w args)) l l' ms path = path.0
  scope_is (statement at line (join handle)) l l' ms path = path.0
  scope_is (statement at line (print items)) l l' ms path = path.0
  scope_is (statement at line (assert test)) l l' ms path = path.0

  mutual
    passes_is : (s : Statements) (l : Locals) (ms : List Occurrence) → Through c l s ms → passes s ≡ true
    passes_is no_statements l ms path = refl
    passes_is (statements x rest) l ms path =
        let a = statement_passes_is x l path.0 path.1 path.3 in
        let b = passes_is rest path.0 path.2 path.4 in
        ap (λ d. cond d (passes rest) false) a ∙ b

    statement_passes_is : (x : Statement) (l l' : Locals) (ms : List Occurrence) → StatementThrough c l x l' ms
        → statement_passes x ≡ true
    statement_passes_is (statement at line form) l l' ms path = statement_form_passes_is form l l' ms path

    statement_form_passes_is : (a : StatementForm) (l l' : Locals) (ms : List Occurrence)
        → StatementFormThrough c l a l' ms → statement_form_passes a ≡ true
    statement_form_passes_is (bind w r) l l' ms path = refl
    statement_form_passes_is (assign w r) l l' ms path = refl
    statement_form_passes_is (assign_cell w index e) l l' ms path = refl
    statement_form_passes_is (choose arms) l l' ms path = refl
    statement_form_passes_is (choose_or arms last) l l' ms path =
        by path.1 (λ q. arms_pass_is arms l ms q) (λ q. passes_is last l ms q)
      where
        by : ArmsThrough c l arms ms ⊎ Through c l last ms → (ArmsThrough c l arms ms → arms_pass arms ≡ true)
            → (Through c l last ms → passes last ≡ true) → or (arms_pass arms) (passes last) ≡ true
        by (inl q) f g = or_left (arms_pass arms) (passes last) (f q)
        by (inr q) f g = or_right (arms_pass arms) (passes last) (g q)
    statement_form_passes_is (repeat test body) l l' ms path = refl
    statement_form_passes_is (call w args) l l' ms path = refl
    statement_form_passes_is (return e) l l' ms path = absurd path
    statement_form_passes_is (fork w args) l l' ms path = refl
    statement_form_passes_is (join handle) l l' ms path = refl
    statement_form_passes_is (print items) l l' ms path = refl
    statement_form_passes_is (assert test) l l' ms path = refl

    arms_pass_is : (all : Arms) (l : Locals) (ms : List Occurrence) → ArmsThrough c l all ms → arms_pass all ≡ true
    arms_pass_is no_arms l ms path = absurd path
    arms_pass_is (arm test body rest) l ms (inl path) =
        or_left (passes body) (arms_pass rest) (passes_is body l ms path)
    arms_pass_is (arm test body rest) l ms (inr path) =
        or_right (passes body) (arms_pass rest) (arms_pass_is rest l ms path)

  turns_end : (p : ℕ) (l : Locals) (body : Statements) (X : Name → List ℕ) (R : List ℕ)
      → ((n : Name) → Among (ahead n body []) p → Among (X n) p)
      → ((ms : List Occurrence) → Through c l body ms → Ends p ms X → Among R p)
      → (t : ℕ) (ms : List Occurrence) → Turns (λ xs. Through c l body xs) t ms → Ends p ms X → Among R p
  turns_end p l body X R up go zero ms e h = absurd (ends_none p ms X e h)
  turns_end p l body X R up go (suc t) ms turn h =
      by (ends_split p turn.0 turn.1 X X more (subst (λ y. Ends p y X) turn.4 h))
      (turns_end p l body X R up go t turn.1 turn.3)
    where
      more : (n : Name) → Meets n p turn.1 (X n) → Among (X n) p
      more n m = on (among_split (ahead n body []) (X n) p
          (turns_ahead c n p l body (X n) (λ xs q f. statements_ahead c body l n p [] xs q (inl f)) t turn.1 turn.3 m))
        where
          on : Among (ahead n body []) p ⊎ Among (X n) p → Among (X n) p
          on (inl a) = up n a
          on (inr b) = b

      by : Ends p turn.0 X ⊎ Ends p turn.1 X → (Ends p turn.1 X → Among R p) → Among R p
      by (inl a) rest = go turn.0 turn.2 a
      by (inr b) rest = rest b

  behind_end : (x : Statement) (rest : Statements) (l l' : Locals) (K : Name → List ℕ) (p : ℕ) (ms : List Occurrence)
      → StatementThrough c l x l' ms → Among (twice c l' rest K) p → Among (twice c l (statements x rest) K) p
  behind_end x rest l l' K p ms path h =
      right_among (statement_twice c l x (λ n. ahead n rest (K n)))
      (cond (statement_passes x) (twice c (locals_after c l x) rest K) []) p
      (subst (λ d. Among (cond d (twice c (locals_after c l x) rest K) []) p) (sym (statement_passes_is x l l' ms path))
      (subst (λ m. Among (twice c m rest K) p) (scope_is x l l' ms path) h))

  mutual
    statements_end : (s : Statements) (l : Locals) (K : Name → List ℕ) (p : ℕ) (ms : List Occurrence) → Through c l s ms
        → Ends p ms K → Among (twice c l s K) p
    statements_end no_statements l K p ms path h = absurd (ends_none p ms K path h)
    statements_end (statements x rest) l K p ms path h =
        by (ends_split p path.1 path.2 K (λ n. ahead n rest (K n))
        (λ n m. statements_ahead c rest path.0 n p (K n) path.2 path.4 m) (subst (λ y. Ends p y K) path.5 h))
        (statement_end x l path.0 (λ n. ahead n rest (K n)) p path.1 path.3)
        (statements_end rest path.0 K p path.2 path.4)
      where
        by : Ends p path.1 (λ n. ahead n rest (K n)) ⊎ Ends p path.2 K
            → (Ends p path.1 (λ n. ahead n rest (K n)) → Among (statement_twice c l x (λ n. ahead n rest (K n))) p)
            → (Ends p path.2 K → Among (twice c path.0 rest K) p) → Among (twice c l (statements x rest) K) p
        by (inl a) f g =
            left_among (statement_twice c l x (λ n. ahead n rest (K n)))
            (cond (statement_passes x) (twice c (locals_after c l x) rest K) []) p (f a)
        by (inr b) f g = behind_end x rest l path.0 K p path.1 path.3 (g b)

    statement_end : (x : Statement) (l l' : Locals) (K : Name → List ℕ) (p : ℕ) (ms : List Occurrence)
        → StatementThrough c l x l' ms → Ends p ms K → Among (statement_twice c l x K) p
    statement_end (statement at line form) l l' K p ms path h = statement_form_end form l l' K p ms path h

    statement_form_end : (a : StatementForm) (l l' : Locals) (K : Name → List ℕ) (p : ℕ) (ms : List Occurrence)
        → StatementFormThrough c l a l' ms → Ends p ms K → Among (statement_form_twice c l a K) p
    statement_form_end (bind w r) l l' K p ms path h = right_side_ends p l r w.text K (subst (λ y. Ends p y K) path.1 h)
    statement_form_end (assign w r) l l' K p ms path h =
        right_side_ends p l r w.text K (subst (λ y. Ends p y K) path.1 h)
    statement_form_end (assign_cell w index e) l l' K p ms path h = absurd (ends_none p ms K path.1 h)
    statement_form_end (choose arms) l l' K p ms path h = by path.1 (λ q. arms_end arms l K p ms q h)
      where
        by : ArmsThrough c l arms ms ⊎ (ms ≡ []) → (ArmsThrough c l arms ms → Among (arms_twice c l arms K) p)
            → Among (arms_twice c l arms K) p
        by (inl q) f = f q
        by (inr e) f = absurd (ends_none p ms K e h)
    statement_form_end (choose_or arms last) l l' K p ms path h =
        by path.1 (λ q. arms_end arms l K p ms q h) (λ q. statements_end last l K p ms q h)
      where
        by : ArmsThrough c l arms ms ⊎ Through c l last ms → (ArmsThrough c l arms ms → Among (arms_twice c l arms K) p)
            → (Through c l last ms → Among (twice c l last K) p) → Among (arms_twice c l arms K ++ twice c l last K) p
        by (inl q) f g = left_among (arms_twice c l arms K) (twice c l last K) p (f q)
        by (inr q) f g = right_among (arms_twice c l arms K) (twice c l last K) p (g q)
    statement_form_end (repeat test body) l l' K p ms path h =
        turns_end p l body (λ n. ahead n body [] ++ K n) (twice c l body (λ n. ahead n body [] ++ K n))
        (λ n a. left_among (ahead n body []) (K n) p a)
        (λ xs q e. statements_end body l (λ n. ahead n body [] ++ K n) p xs q e) path.1.0 ms path.1.1 (wider h)
      where
        wider : Ends p ms K → Ends p ms (λ n. ahead n body [] ++ K n)
        wider (inl a) = inl a
        wider (inr b) = inr (b.0, b.1, right_among (ahead b.0 body []) (K b.0) p b.2)
    statement_form_end (call w args) l l' K p ms path h =
        expressions_ends p l args [] K K (no_more p K) (subst (λ y. Ends p y K) path.1 h)
    statement_form_end (return e) l l' K p ms path h = absurd path
    statement_form_end (fork w args) l l' K p ms path h =
        expressions_ends p l args [] K K (no_more p K) (subst (λ y. Ends p y K) path.1 h)
    statement_form_end (join handle) l l' K p ms path h =
        one_end p l handle [] K K (no_more p K) (subst (λ y. Ends p y K) path.1 h)
    statement_form_end (print items) l l' K p ms path h = absurd (ends_none p ms K path.1 h)
    statement_form_end (assert test) l l' K p ms path h = absurd (ends_none p ms K path.1 h)

    arms_end : (all : Arms) (l : Locals) (K : Name → List ℕ) (p : ℕ) (ms : List Occurrence) → ArmsThrough c l all ms
        → Ends p ms K → Among (arms_twice c l all K) p
    arms_end no_arms l K p ms path h = absurd path
    arms_end (arm test body rest) l K p ms (inl path) h =
        left_among (twice c l body K) (arms_twice c l rest K) p (statements_end body l K p ms path h)
    arms_end (arm test body rest) l K p ms (inr path) h =
        right_among (twice c l body K) (arms_twice c l rest K) p (arms_end rest l K p ms path h)

  mutual
    statements_second : (s : Statements) (l : Locals) (K : Name → List ℕ) (p : ℕ) (ms : List Occurrence)
        → Inside c l s ms → TwiceAt p ms → Among (twice c l s K) p
    statements_second no_statements l K p ms path h = absurd (subst (TwiceAt p) path h)
    statements_second (statements x rest) l K p ms (inl e) h = absurd (subst (TwiceAt p) e h)
    statements_second (statements x rest) l K p ms (inr (inl path)) h =
        left_among (statement_twice c l x (λ n. ahead n rest (K n)))
        (cond (statement_passes x) (twice c (locals_after c l x) rest K) []) p
        (statement_second x l (λ n. ahead n rest (K n)) p ms path h)
    statements_second (statements x rest) l K p ms (inr (inr path)) h =
        by (twice_split p path.1 path.2 (subst (TwiceAt p) path.5 h)) (statements_second rest path.0 K p path.2 path.4)
      where
        first : Ends p path.1 (λ n. ahead n rest (K n)) → Among (twice c l (statements x rest) K) p
        first e = left_among (statement_twice c l x (λ n. ahead n rest (K n)))
            (cond (statement_passes x) (twice c (locals_after c l x) rest K) []) p
            (statement_end x l path.0 (λ n. ahead n rest (K n)) p path.1 path.3 e)

        by : TwiceAt p path.1 ⊎ (((n : Name) × LeftAt n path.1 × FoundAt n p path.2) ⊎ TwiceAt p path.2)
            → (TwiceAt p path.2 → Among (twice c path.0 rest K) p) → Among (twice c l (statements x rest) K) p
        by (inl a) go = first (inl a)
        by (inr (inl q)) go = first (inr (q.0, q.1, statements_inside c rest path.0 q.0 p (K q.0) path.2 path.4 q.2))
        by (inr (inr b)) go = behind_end x rest l path.0 K p path.1 path.3 (go b)

    statement_second : (x : Statement) (l : Locals) (K : Name → List ℕ) (p : ℕ) (ms : List Occurrence)
        → StatementInside c l x ms → TwiceAt p ms → Among (statement_twice c l x K) p
    statement_second (statement at line form) l K p ms path h = statement_form_second form l K p ms path h

    statement_form_second : (a : StatementForm) (l : Locals) (K : Name → List ℕ) (p : ℕ) (ms : List Occurrence)
        → StatementFormInside c l a ms → TwiceAt p ms → Among (statement_form_twice c l a K) p
    statement_form_second (bind w r) l K p ms path h = absurd path
    statement_form_second (assign w r) l K p ms path h = absurd path
    statement_form_second (assign_cell w index e) l K p ms path h = absurd path
    statement_form_second (choose arms) l K p ms path h = arms_second arms l K p ms path h
    statement_form_second (choose_or arms last) l K p ms (inl path) h =
        left_among (arms_twice c l arms K) (twice c l last K) p (arms_second arms l K p ms path h)
    statement_form_second (choose_or arms last) l K p ms (inr path) h =
        right_among (arms_twice c l arms K) (twice c l last K) p (statements_second last l K p ms path h)
    statement_form_second (repeat test body) l K p ms path h =
        by (twice_split p path.1 path.2 (subst (TwiceAt p) path.5 h))
        (statements_second body l (λ n. ahead n body [] ++ K n) p path.2 path.4)
      where
        first : Ends p path.1 (λ n. ahead n body [] ++ K n) → Among (twice c l body (λ n. ahead n body [] ++ K n)) p
        first = turns_end p l body (λ n. ahead n body [] ++ K n) (twice c l body (λ n. ahead n body [] ++ K n))
            (λ n a. left_among (ahead n body []) (K n) p a)
            (λ xs q e. statements_end body l (λ n. ahead n body [] ++ K n) p xs q e) path.0 path.1 path.3

        by : TwiceAt p path.1 ⊎ (((n : Name) × LeftAt n path.1 × FoundAt n p path.2) ⊎ TwiceAt p path.2)
            → (TwiceAt p path.2 → Among (twice c l body (λ n. ahead n body [] ++ K n)) p)
            → Among (twice c l body (λ n. ahead n body [] ++ K n)) p
        by (inl a) go = first (inl a)
        by (inr (inl q)) go = first (inr (
          q.0,
          q.1,
          left_among (ahead q.0 body []) (K q.0) p (statements_inside c body l q.0 p [] path.2 path.4 q.2),
        ))
        by (inr (inr b)) go = go b
    statement_form_second (call w args) l K p ms path h = absurd path
    statement_form_second (return None) l K p ms path h = absurd (subst (TwiceAt p) path h)
    statement_form_second (return (Some e)) l K p ms path h =
        absurd (expression_single p l e (subst (TwiceAt p) path h))
    statement_form_second (fork w args) l K p ms path h = absurd path
    statement_form_second (join handle) l K p ms path h = absurd path
    statement_form_second (print items) l K p ms path h = absurd path
    statement_form_second (assert test) l K p ms path h = absurd path

    arms_second : (all : Arms) (l : Locals) (K : Name → List ℕ) (p : ℕ) (ms : List Occurrence) → ArmsInside c l all ms
        → TwiceAt p ms → Among (arms_twice c l all K) p
    arms_second no_arms l K p ms path h = absurd path
    arms_second (arm test body rest) l K p ms (inl path) h =
        left_among (twice c l body K) (arms_twice c l rest K) p (statements_second body l K p ms path h)
    arms_second (arm test body rest) l K p ms (inr path) h =
        right_among (twice c l body K) (arms_twice c l rest K) p (arms_second rest l K p ms path h)

  -- each second use on a path is found
  pub all_found : (l : Locals) (body : Statements) (p : ℕ) → UsedTwice c l body p → Among (twice c l body (λ n. [])) p
  all_found l body p u =
      statements_second body l (λ n. []) p _ u.path
      (twice_at p u.before u.between u.behind u.first u.means u.second u.same_name u.unchanged u.place)
