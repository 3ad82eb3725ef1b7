-- A well-typed program that keeps the affine rule uses each handle once.
use Rattle.std.proofs.Common.{◌≡◌, ◌∙◌, ◌⊎◌, inl, inr, ℕ, zero, suc, Bool, true, false, cond, List, [], ◌∷◌, ◌++◌, Option, Some, None, refl, sym, ap, subst, true≢false, append_assoc}
use Rattle.rev_num.specs.declared.value.ValueKind.{ValueKind}
use Rattle.std.proofs.lemmas.Bool.{false_from_ne_true as not_true}
use Rattle.rev_syntax.specs.Trees.{PlacedName, Expression, placed, ExpressionForm, int, bool, no_rev, var, cell, apply, input, inputs, pick, unary, chain, Expressions, no_expressions, expression, RightSide, plain, called, forked, tried, Statement, statement, StatementForm, bind, assign, assign_cell, choose, choose_or, repeat, call, return, fork, join, print, assert, Statements, no_statements, statements, Arms, no_arms, arm, Declaration, fun, merge, shared, proc, ProgramTree}
use Rattle.name_tables.specs.Names.{Name, same}
use Rattle.name_tables.specs.Table.{find}
use Rattle.name_tables.proofs.Tables.{same_equal}
use Rattle.typed_programs.specs.Kinds.{Names, Locals}
use Rattle.typed_programs.specs.Scopes.{outside, within, with_params}
use Rattle.typed_programs.specs.Judgement.{StatementTyped, StatementFormTyped, StatementsTyped, ArmsTyped, DeclarationsTyped, ProgramTyped}
use Rattle.affine_check.specs.Live.{or, names_it, among, right_side_uses, without, live, live_statement, live_statement_form, live_arms, passes, statement_passes, statement_form_passes, arms_pass, IsRev, Free, PickFree, PicksFree, NameOnce, UsesOnce, RightSideOnce, NotStored, StatementsOnce, StatementOnce, StatementFormOnce, ArmsOnce}
use Rattle.affine_check.specs.Owned.{DeclarationsOnce, UsesHandlesOnce}
use Rattle.affine_check.specs.Affine.{Occurrence, use_of, gets, expression_occurrences, expressions_occurrences, right_side_occurrences, Turns, Through, StatementThrough, StatementFormThrough, ArmsThrough, Inside, StatementInside, StatementFormInside, ArmsInside, NoValue, rev_use, NameIn, PickIn, PicksIn, RightSideCopied, Behind, StatementFormBehind, Copied, StatementCopied, StatementFormCopied, ArmsCopied, StoresAt, Stored, StatementStored, StatementFormStored, ArmsStored, Breach, copied, stored, used_twice, BodyBreaks, DeclarationsBreak, IsAffine}

-- ---- what is met

or_split : (a b : Bool) → or a b ≡ true → (a ≡ true) ⊎ (b ≡ true)
or_split true b h = inl refl
or_split false b h = inr h

pub nil_right_side : {A : Type 0} (xs : List A) → xs ≡ xs ++ []
nil_right_side [] = refl
nil_right_side (x ∷ xs) = ap (λ ys. x ∷ ys) (nil_right_side xs)

-- the name is used before it gets a value
abbrev Found : Name → List Occurrence → Type 0
Found n ms = (before : List Occurrence) × (t : Option (Option ValueKind)) × (w : PlacedName)
    × (behind : List Occurrence) × (ms ≡ before ++ use_of t w ∷ behind) × (w.text ≡ n) × NoValue n before

pub no_values : (n : Name) (xs ys : List Occurrence) → NoValue n xs → NoValue n ys → NoValue n (xs ++ ys)
no_values n [] ys p q = q
no_values n (use_of t w ∷ xs) ys p q = no_values n xs ys p q
no_values n (gets m ∷ xs) ys p q = (p.0, no_values n xs ys p.1 q)

found_behind : (n : Name) (xs ys : List Occurrence) → NoValue n xs → Found n ys → Found n (xs ++ ys)
found_behind n xs ys p f = (
  xs ++ f.0,
  f.1,
  f.2,
  f.3,
  ap (λ zs. xs ++ zs) f.4 ∙ sym (append_assoc xs f.0 (use_of f.1 f.2 ∷ f.3)),
  f.5,
  no_values n xs f.0 p f.6,
)

pub expression_split : (l : Locals) (x : Expression) (later : List Occurrence)
    → expression_occurrences l x later ≡ expression_occurrences l x [] ++ later
expression_split l (placed at (int z)) later = refl
expression_split l (placed at (bool z)) later = refl
expression_split l (placed at no_rev) later = refl
expression_split l (placed at (var w)) later = refl
expression_split l (placed at (cell w index)) later = refl
expression_split l (placed at (apply w args)) later = refl
expression_split l (placed at (input i index)) later = refl
expression_split l (placed at (inputs i)) later = refl
expression_split l (placed at (pick test x y)) later = refl
expression_split l (placed at (unary op part)) later = refl
expression_split l (placed at (chain first rest)) later = refl

pub expression_no_value : (n : Name) (l : Locals) (x : Expression) → NoValue n (expression_occurrences l x [])
expression_no_value n l (placed at (int z)) = tt
expression_no_value n l (placed at (bool z)) = tt
expression_no_value n l (placed at no_rev) = tt
expression_no_value n l (placed at (var w)) = tt
expression_no_value n l (placed at (cell w index)) = tt
expression_no_value n l (placed at (apply w args)) = tt
expression_no_value n l (placed at (input i index)) = tt
expression_no_value n l (placed at (inputs i)) = tt
expression_no_value n l (placed at (pick test x y)) = tt
expression_no_value n l (placed at (unary op part)) = tt
expression_no_value n l (placed at (chain first rest)) = tt

expression_before : (n : Name) (l : Locals) (x : Expression) (later : List Occurrence) → NoValue n later
    → NoValue n (expression_occurrences l x later)
expression_before n l x later h =
    subst (NoValue n) (sym (expression_split l x later))
    (no_values n (expression_occurrences l x []) later (expression_no_value n l x) h)

pub expressions_before : (n : Name) (l : Locals) (xs : Expressions) (later : List Occurrence) → NoValue n later
    → NoValue n (expressions_occurrences l xs later)
expressions_before n l no_expressions later h = h
expressions_before n l (expression x xs) later h =
    expression_before n l x (expressions_occurrences l xs later) (expressions_before n l xs later h)

pub right_side_before : (n : Name) (l : Locals) (r : RightSide) (later : List Occurrence) → NoValue n later
    → NoValue n (right_side_occurrences l r later)
right_side_before n l (plain e) later h = h
right_side_before n l (called at w args) later h = expressions_before n l args later h
right_side_before n l (forked at w args) later h = expressions_before n l args later h
right_side_before n l (tried at handle) later h = expression_before n l handle later h

expression_found : (n : Name) (l : Locals) (x : Expression) (later : List Occurrence) → names_it n x ≡ true
    → Found n (expression_occurrences l x later)
expression_found n l (placed at (int z)) later h = absurd (true≢false (sym h))
expression_found n l (placed at (bool z)) later h = absurd (true≢false (sym h))
expression_found n l (placed at no_rev) later h = absurd (true≢false (sym h))
expression_found n l (placed at (var w)) later h = ([], find w.text l, w, later, refl, sym (same_equal n w.text h), tt)
expression_found n l (placed at (cell w index)) later h = absurd (true≢false (sym h))
expression_found n l (placed at (apply w args)) later h = absurd (true≢false (sym h))
expression_found n l (placed at (input i index)) later h = absurd (true≢false (sym h))
expression_found n l (placed at (inputs i)) later h = absurd (true≢false (sym h))
expression_found n l (placed at (pick test x y)) later h = absurd (true≢false (sym h))
expression_found n l (placed at (unary op part)) later h = absurd (true≢false (sym h))
expression_found n l (placed at (chain first rest)) later h = absurd (true≢false (sym h))

expressions_found : (n : Name) (l : Locals) (xs : Expressions) (later : List Occurrence) → among n xs ≡ true
    → Found n (expressions_occurrences l xs later)
expressions_found n l no_expressions later h = absurd (true≢false (sym h))
expressions_found n l (expression x xs) later h =
    by (or_split (names_it n x) (among n xs) h) (expressions_found n l xs later)
  where
    by : (names_it n x ≡ true) ⊎ (among n xs ≡ true)
        → (among n xs ≡ true → Found n (expressions_occurrences l xs later))
        → Found n (expression_occurrences l x (expressions_occurrences l xs later))
    by (inl e) rest = expression_found n l x (expressions_occurrences l xs later) e
    by (inr e) rest =
        subst (Found n) (sym (expression_split l x (expressions_occurrences l xs later)))
        (found_behind n (expression_occurrences l x []) (expressions_occurrences l xs later) (expression_no_value n l x)
        (rest e))

right_side_found : (n : Name) (l : Locals) (r : RightSide) (later : List Occurrence) → right_side_uses n r ≡ true
    → Found n (right_side_occurrences l r later)
right_side_found n l (plain e) later h = absurd (true≢false (sym h))
right_side_found n l (called at w args) later h = expressions_found n l args later h
right_side_found n l (forked at w args) later h = expressions_found n l args later h
right_side_found n l (tried at handle) later h = expression_found n l handle later h

-- ---- paths to what is live

abbrev Ahead : (List Occurrence → Type 0) → Name → Type 0
Ahead P n = (ms : List Occurrence) × P ms × Found n ms

abbrev Passing : (List Occurrence → Type 0) → Name → Type 0
Passing P n = (ms : List Occurrence) × P ms × NoValue n ms

module _ (c : Names) (result : Option ValueKind) where
  pub inside_nil : (l : Locals) (s : Statements) → Inside c l s []
  inside_nil l no_statements = refl
  inside_nil l (statements x rest) = inl refl

  -- a path through a statement and then inside the rest
  pub inside_rest : (l l' : Locals) (x : Statement) (rest : Statements) (ms ns : List Occurrence)
      → StatementThrough c l x l' ms → Inside c l' rest ns → Inside c l (statements x rest) (ms ++ ns)
  inside_rest l l' x rest ms ns p q = inr (inr (l', ms, ns, p, q, refl))

  pub inside_here : (l l' : Locals) (x : Statement) (rest : Statements) (ms : List Occurrence)
      → StatementThrough c l x l' ms → Inside c l (statements x rest) ms
  inside_here l l' x rest ms p = inr (inr (l', ms, [], p, inside_nil l' rest, nil_right_side ms))

  simple_live : (n : Name) (P : List Occurrence → Type 0) (Q : List Occurrence → Type 0) (a : Bool)
      (ms : List Occurrence) (later : Bool)
      → P ms → (a ≡ true → Found n ms) → NoValue n ms → or a later ≡ true
      → Ahead Q n ⊎ (Ahead P n ⊎ (Passing P n × (later ≡ true)))
  simple_live n P Q a ms later p found none h = by (or_split a later h)
    where
      by : (a ≡ true) ⊎ (later ≡ true) → Ahead Q n ⊎ (Ahead P n ⊎ (Passing P n × (later ≡ true)))
      by (inl e) = inr (inl (ms, p, found e))
      by (inr e) = inr (inr ((ms, p, none), e))

  -- a right side, and then the name w gets its value
  right_side_live : (n : Name) (l : Locals) (w : PlacedName) (r : RightSide) (P : List Occurrence → Type 0)
      (Q : List Occurrence → Type 0) (later : Bool)
      → P (right_side_occurrences l r (gets w.text ∷ []))
      → or (right_side_uses n r) (cond (same n w.text) false later) ≡ true
      → Ahead Q n ⊎ (Ahead P n ⊎ (Passing P n × (later ≡ true)))
  right_side_live n l w r P Q later p h = by (or_split (right_side_uses n r) (cond (same n w.text) false later) h)
    where
      on : (d : Bool) → same n w.text ≡ d → cond d false later ≡ true
          → Ahead Q n ⊎ (Ahead P n ⊎ (Passing P n × (later ≡ true)))
      on true e i = absurd (true≢false (sym i))
      on false e i = inr (inr
          ((right_side_occurrences l r (gets w.text ∷ []), p, right_side_before n l r (gets w.text ∷ []) (e, tt)), i))

      by : (right_side_uses n r ≡ true) ⊎ (cond (same n w.text) false later ≡ true)
          → Ahead Q n ⊎ (Ahead P n ⊎ (Passing P n × (later ≡ true)))
      by (inl e) = inr
          (inl (right_side_occurrences l r (gets w.text ∷ []), p, right_side_found n l r (gets w.text ∷ []) e))
      by (inr e) = on (same n w.text) refl e

  statements_join : (x : Statement) (rest : Statements) (l l' : Locals) (n : Name) (later : Bool)
      → Ahead (StatementInside c l x) n
      ⊎ (Ahead (StatementThrough c l x l') n ⊎ (Passing (StatementThrough c l x l') n × (live n rest later ≡ true)))
      → (live n rest later ≡ true → Ahead (Inside c l' rest) n ⊎ (Passing (Through c l' rest) n × (later ≡ true)))
      → Ahead (Inside c l (statements x rest)) n ⊎ (Passing (Through c l (statements x rest)) n × (later ≡ true))
  statements_join x rest l l' n later (inl a) go = inl (a.0, inr (inl a.1), a.2)
  statements_join x rest l l' n later (inr (inl a)) go = inl (a.0, inside_here l l' x rest a.0 a.1, a.2)
  statements_join x rest l l' n later (inr (inr p)) go = by (go p.1)
    where
      by : Ahead (Inside c l' rest) n ⊎ (Passing (Through c l' rest) n × (later ≡ true))
          → Ahead (Inside c l (statements x rest)) n ⊎ (Passing (Through c l (statements x rest)) n × (later ≡ true))
      by (inl a) = inl (p.0.0 ++ a.0, inside_rest l l' x rest p.0.0 a.0 p.0.1 a.1, found_behind n p.0.0 a.0 p.0.2 a.2)
      by (inr q) = inr
          ((p.0.0 ++ q.0.0, (l', p.0.0, q.0.0, p.0.1, q.0.1, refl), no_values n p.0.0 q.0.0 p.0.2 q.0.2), q.1)

  mutual
    statements_live : (s : Statements) (l : Locals) (n : Name) (later : Bool) → StatementsTyped c result l s
        → live n s later ≡ true → Ahead (Inside c l s) n ⊎ (Passing (Through c l s) n × (later ≡ true))
    statements_live no_statements l n later typed h = inr (([], refl, tt), h)
    statements_live (statements x rest) l n later typed h =
        statements_join x rest l typed.0 n later (statement_live x l typed.0 n (live n rest later) typed.1 h)
        (λ e. statements_live rest typed.0 n later typed.2 e)

    statement_live : (x : Statement) (l l' : Locals) (n : Name) (later : Bool) → StatementTyped c result l x l'
        → live_statement n x later ≡ true
        → Ahead (StatementInside c l x) n
        ⊎ (Ahead (StatementThrough c l x l') n ⊎ (Passing (StatementThrough c l x l') n × (later ≡ true)))
    statement_live (statement at line form) l l' n later typed h = statement_form_live form l l' n later typed h

    statement_form_live : (a : StatementForm) (l l' : Locals) (n : Name) (later : Bool)
        → StatementFormTyped c result l a l' → live_statement_form n a later ≡ true
        → Ahead (StatementFormInside c l a) n
        ⊎ (Ahead (StatementFormThrough c l a l') n ⊎ (Passing (StatementFormThrough c l a l') n × (later ≡ true)))
    statement_form_live (bind w r) l l' n later typed h =
        right_side_live n l w r (StatementFormThrough c l (bind w r) l') (StatementFormInside c l (bind w r)) later
        (typed.1, refl) h
    statement_form_live (assign w r) l l' n later typed h =
        right_side_live n l w r (StatementFormThrough c l (assign w r) l') (StatementFormInside c l (assign w r)) later
        (typed.1, refl) h
    statement_form_live (assign_cell w index e) l l' n later typed h = inr (inr (([], (typed.1, refl), tt), h))
    statement_form_live (choose arms) l l' n later typed h = by (arms_live arms l n later later typed.0 h)
      where
        by : Ahead (ArmsInside c l arms) n ⊎ ((Passing (ArmsThrough c l arms) n × (later ≡ true)) ⊎ (later ≡ true))
            → Ahead (StatementFormInside c l (choose arms)) n
            ⊎ (Ahead (StatementFormThrough c l (choose arms) l') n
            ⊎ (Passing (StatementFormThrough c l (choose arms) l') n × (later ≡ true)))
        by (inl a) = inl a
        by (inr (inl p)) = inr (inr ((p.0.0, (typed.1, inl p.0.1), p.0.2), p.1))
        by (inr (inr e)) = inr (inr (([], (typed.1, inr refl), tt), e))
    statement_form_live (choose_or arms last) l l' n later typed h =
        by (arms_live arms l n (live n last later) later typed.0.0 h) (λ e. statements_live last l n later typed.0.1 e)
      where
        on : Ahead (Inside c l last) n ⊎ (Passing (Through c l last) n × (later ≡ true))
            → Ahead (StatementFormInside c l (choose_or arms last)) n
            ⊎ (Ahead (StatementFormThrough c l (choose_or arms last) l') n
            ⊎ (Passing (StatementFormThrough c l (choose_or arms last) l') n × (later ≡ true)))
        on (inl a) = inl (a.0, inr a.1, a.2)
        on (inr p) = inr (inr ((p.0.0, (typed.1, inr p.0.1), p.0.2), p.1))

        by : Ahead (ArmsInside c l arms) n
            ⊎ ((Passing (ArmsThrough c l arms) n × (later ≡ true)) ⊎ (live n last later ≡ true))
            → (live n last later ≡ true → Ahead (Inside c l last) n ⊎ (Passing (Through c l last) n × (later ≡ true)))
            → Ahead (StatementFormInside c l (choose_or arms last)) n
            ⊎ (Ahead (StatementFormThrough c l (choose_or arms last) l') n
            ⊎ (Passing (StatementFormThrough c l (choose_or arms last) l') n × (later ≡ true)))
        by (inl a) last_live = inl (a.0, inl a.1, a.2)
        by (inr (inl p)) last_live = inr (inr ((p.0.0, (typed.1, inl p.0.1), p.0.2), p.1))
        by (inr (inr e)) last_live = on (last_live e)
    statement_form_live (repeat test body) l l' n later typed h =
        by (or_split (live n body false) later h) (λ e. statements_live body l n false typed.0.1 e)
      where
        on : Ahead (Inside c l body) n ⊎ (Passing (Through c l body) n × (false ≡ true))
            → Ahead (StatementFormInside c l (repeat test body)) n
            ⊎ (Ahead (StatementFormThrough c l (repeat test body) l') n
            ⊎ (Passing (StatementFormThrough c l (repeat test body) l') n × (later ≡ true)))
        on (inl a) = inl (a.0, (zero, [], a.0, refl, a.1, refl), a.2)
        on (inr p) = absurd (true≢false (sym p.1))

        by : (live n body false ≡ true) ⊎ (later ≡ true)
            → (live n body false ≡ true → Ahead (Inside c l body) n ⊎ (Passing (Through c l body) n × (false ≡ true)))
            → Ahead (StatementFormInside c l (repeat test body)) n
            ⊎ (Ahead (StatementFormThrough c l (repeat test body) l') n
            ⊎ (Passing (StatementFormThrough c l (repeat test body) l') n × (later ≡ true)))
        by (inl e) body_live = on (body_live e)
        by (inr e) body_live = inr (inr (([], (typed.1, (zero, refl)), tt), e))
    statement_form_live (call w args) l l' n later typed h =
        simple_live n (StatementFormThrough c l (call w args) l') (StatementFormInside c l (call w args)) (among n args)
        (expressions_occurrences l args []) later (typed.1, refl) (expressions_found n l args [])
        (expressions_before n l args [] tt) h
    statement_form_live (return None) l l' n later typed h = absurd (true≢false (sym h))
    statement_form_live (return (Some e)) l l' n later typed h =
        inl (expression_occurrences l e [], refl, expression_found n l e [] h)
    statement_form_live (fork w args) l l' n later typed h =
        simple_live n (StatementFormThrough c l (fork w args) l') (StatementFormInside c l (fork w args)) (among n args)
        (expressions_occurrences l args []) later (typed.1, refl) (expressions_found n l args [])
        (expressions_before n l args [] tt) h
    statement_form_live (join handle) l l' n later typed h =
        simple_live n (StatementFormThrough c l (join handle) l') (StatementFormInside c l (join handle))
        (names_it n handle) (expression_occurrences l handle []) later (typed.1, refl) (expression_found n l handle [])
        (expression_no_value n l handle) h
    statement_form_live (print items) l l' n later typed h = inr (inr (([], (typed.1, refl), tt), h))
    statement_form_live (assert test) l l' n later typed h = inr (inr (([], (typed.1, refl), tt), h))

    arms_live : (all : Arms) (l : Locals) (n : Name) (other later : Bool) → ArmsTyped c result l all
        → live_arms n all other later ≡ true
        → Ahead (ArmsInside c l all) n ⊎ ((Passing (ArmsThrough c l all) n × (later ≡ true)) ⊎ (other ≡ true))
    arms_live no_arms l n other later typed h = inr (inr h)
    arms_live (arm test body rest) l n other later typed h =
        by (or_split (live n body later) (live_arms n rest other later) h)
        (λ e. statements_live body l n later typed.1 e) (λ e. arms_live rest l n other later typed.2 e)
      where
        of_body : Ahead (Inside c l body) n ⊎ (Passing (Through c l body) n × (later ≡ true))
            → Ahead (ArmsInside c l (arm test body rest)) n
            ⊎ ((Passing (ArmsThrough c l (arm test body rest)) n × (later ≡ true)) ⊎ (other ≡ true))
        of_body (inl a) = inl (a.0, inl a.1, a.2)
        of_body (inr p) = inr (inl ((p.0.0, inl p.0.1, p.0.2), p.1))

        of_rest : Ahead (ArmsInside c l rest) n ⊎ ((Passing (ArmsThrough c l rest) n × (later ≡ true)) ⊎ (other ≡ true))
            → Ahead (ArmsInside c l (arm test body rest)) n
            ⊎ ((Passing (ArmsThrough c l (arm test body rest)) n × (later ≡ true)) ⊎ (other ≡ true))
        of_rest (inl a) = inl (a.0, inr a.1, a.2)
        of_rest (inr (inl p)) = inr (inl ((p.0.0, inr p.0.1, p.0.2), p.1))
        of_rest (inr (inr e)) = inr (inr e)

        by : (live n body later ≡ true) ⊎ (live_arms n rest other later ≡ true)
            → (live n body later ≡ true → Ahead (Inside c l body) n ⊎ (Passing (Through c l body) n × (later ≡ true)))
            → (live_arms n rest other later ≡ true
            → Ahead (ArmsInside c l rest) n ⊎ ((Passing (ArmsThrough c l rest) n × (later ≡ true)) ⊎ (other ≡ true)))
            → Ahead (ArmsInside c l (arm test body rest)) n
            ⊎ ((Passing (ArmsThrough c l (arm test body rest)) n × (later ≡ true)) ⊎ (other ≡ true))
        by (inl e) f g = of_body (f e)
        by (inr e) f g = of_rest (g e)

-- ---- a use behind a use

abbrev TwiceIn : List Occurrence → Type 0
TwiceIn ms =
    (before : List Occurrence) × (between : List Occurrence) × (behind : List Occurrence) × (first : PlacedName)
    × (t : Option (Option ValueKind)) × (second : PlacedName)
    × (ms ≡ before ++ (rev_use first ∷ (between ++ (use_of t second ∷ behind)))) × (second.text ≡ first.text)
    × NoValue first.text between

-- a rev local was used, and got no value since
abbrev LeftUsed : PlacedName → List Occurrence → Type 0
LeftUsed w ms =
    (before : List Occurrence) × (between : List Occurrence) × (ms ≡ before ++ rev_use w ∷ between)
    × NoValue w.text between

twice_join : (w : PlacedName) (ms ns : List Occurrence) → LeftUsed w ms → Found w.text ns → TwiceIn (ms ++ ns)
twice_join w ms ns u f = (
  u.0,
  u.1 ++ f.0,
  f.3,
  w,
  f.1,
  f.2,
  (λ i. u.2 i ++ f.4 i) ∙ append_assoc u.0 (rev_use w ∷ u.1) (f.0 ++ use_of f.1 f.2 ∷ f.3)
      ∙ ap (λ zs. u.0 ++ rev_use w ∷ zs) (sym (append_assoc u.1 f.0 (use_of f.1 f.2 ∷ f.3))),
  f.5,
  no_values w.text u.1 f.0 u.3 f.6,
)

left_join : (w : PlacedName) (ms ns : List Occurrence) → LeftUsed w ms → NoValue w.text ns → LeftUsed w (ms ++ ns)
left_join w ms ns u h =
    (u.0, u.1 ++ ns, ap (λ zs. zs ++ ns) u.2 ∙ append_assoc u.0 (rev_use w ∷ u.1) ns, no_values w.text u.1 ns u.3 h)

twice_behind : (ms ns : List Occurrence) → TwiceIn ns → TwiceIn (ms ++ ns)
twice_behind ms ns u = (
  ms ++ u.0,
  u.1,
  u.2,
  u.3,
  u.4,
  u.5,
  ap (λ zs. ms ++ zs) u.6 ∙ sym (append_assoc ms u.0 (rev_use u.3 ∷ (u.1 ++ (use_of u.4 u.5 ∷ u.2)))),
  u.7,
  u.8,
)

left_behind : (w : PlacedName) (ms ns : List Occurrence) → LeftUsed w ns → LeftUsed w (ms ++ ns)
left_behind w ms ns u = (ms ++ u.0, u.1, ap (λ zs. ms ++ zs) u.2 ∙ sym (append_assoc ms u.0 (rev_use w ∷ u.1)), u.3)

abbrev Never : (List Occurrence → Type 0) → Type 0
Never P = (ms : List Occurrence) → P ms → TwiceIn ms → ⊥

abbrev Leaves : (List Occurrence → Type 0) → (Name → Bool) → Type 0
Leaves P K = (ms : List Occurrence) → P ms → (w : PlacedName) → LeftUsed w ms → K w.text ≡ false

-- ---- copies and stores

free_expression_form : (l : Locals) (s : ExpressionForm) (at : ℕ) → ((p : ℕ) → NameIn l (placed at s) p → ⊥)
    → Free l (placed at s)
free_expression_form l (int z) at h = tt
free_expression_form l (bool z) at h = tt
free_expression_form l no_rev at h = tt
free_expression_form l (var w) at h = λ is. h w.at (is, refl)
free_expression_form l (cell w index) at h = tt
free_expression_form l (apply w args) at h = tt
free_expression_form l (input i index) at h = tt
free_expression_form l (inputs i) at h = tt
free_expression_form l (pick test x y) at h = tt
free_expression_form l (unary op part) at h = tt
free_expression_form l (chain first rest) at h = tt

mutual
  no_name : (l : Locals) (e : Expression) → ((p : ℕ) → NameIn l e p → ⊥) → Free l e × PickFree l e
  no_name l (placed at s) h = (free_expression_form l s at h, no_expression_form_name l s h)

  no_expression_form_name : (l : Locals) (s : ExpressionForm) → ((p : ℕ) → NameIn l (placed 0 s) p → ⊥) → PicksFree l s
  no_expression_form_name l (int z) h = tt
  no_expression_form_name l (bool z) h = tt
  no_expression_form_name l no_rev h = tt
  no_expression_form_name l (var w) h = tt
  no_expression_form_name l (cell w index) h = tt
  no_expression_form_name l (apply w args) h = tt
  no_expression_form_name l (input i index) h = tt
  no_expression_form_name l (inputs i) h = tt
  no_expression_form_name l (pick test x y) h =
      (no_name l x (λ p i. h p (inr (inl i))), no_name l y (λ p i. h p (inr (inr i))))
  no_expression_form_name l (unary op part) h = tt
  no_expression_form_name l (chain first rest) h = tt

no_pick : (l : Locals) (e : Expression) → ((p : ℕ) → PickIn l e p → ⊥) → PickFree l e
no_pick l (placed at (int z)) h = tt
no_pick l (placed at (bool z)) h = tt
no_pick l (placed at no_rev) h = tt
no_pick l (placed at (var w)) h = tt
no_pick l (placed at (cell w index)) h = tt
no_pick l (placed at (apply w args)) h = tt
no_pick l (placed at (input i index)) h = tt
no_pick l (placed at (inputs i)) h = tt
no_pick l (placed at (pick test x y)) h =
    (no_name l x (λ p i. h p (inr (inl i))), no_name l y (λ p i. h p (inr (inr i))))
no_pick l (placed at (unary op part)) h = tt
no_pick l (placed at (chain first rest)) h = tt

not_stored : (c : Names) (w : PlacedName) → ((p : ℕ) → StoresAt c w p → ⊥) → NotStored c w
not_stored c w h holder e i = h w.at ((holder, e, i), refl)

-- ---- uses

name_once : (l : Locals) (x : Expression) (K : Name → Bool)
    → ((at : ℕ) (w : PlacedName) → x ≡ placed at (var w) → IsRev l w → K w.text ≡ false) → NameOnce l x K
name_once l (placed at (int z)) K h = tt
name_once l (placed at (bool z)) K h = tt
name_once l (placed at no_rev) K h = tt
name_once l (placed at (var w)) K h = λ is. h at w refl is
name_once l (placed at (cell w index)) K h = tt
name_once l (placed at (apply w args)) K h = tt
name_once l (placed at (input i index)) K h = tt
name_once l (placed at (inputs i)) K h = tt
name_once l (placed at (pick test x y)) K h = tt
name_once l (placed at (unary op part)) K h = tt
name_once l (placed at (chain first rest)) K h = tt

uses_once : (l : Locals) (xs : Expressions) (later : List Occurrence) (K : Name → Bool) (before whole : List Occurrence)
    → whole ≡ before ++ expressions_occurrences l xs later → ((p : ℕ) → PicksIn l xs p → ⊥) → (TwiceIn whole → ⊥)
    → ((w : PlacedName) (ms : List Occurrence) (ys : Expressions)
    → whole ≡ ms ++ rev_use w ∷ expressions_occurrences l ys later → K w.text ≡ false)
    → UsesOnce l xs K
uses_once l no_expressions later K before whole e picks never leaves = tt
uses_once l (expression x xs) later K before whole e picks never leaves = (
  (no_pick l x (λ p i. picks p (inl i)), name_once l x (λ n. or (among n xs) (K n)) here),
  uses_once l xs later K (before ++ expression_occurrences l x []) whole
      (e ∙ ap (λ zs. before ++ zs) (expression_split l x (expressions_occurrences l xs later))
      ∙ sym (append_assoc before (expression_occurrences l x []) (expressions_occurrences l xs later)))
      (λ p i. picks p (inr i)) never leaves,
)
  where
    here : (at : ℕ) (w : PlacedName) → x ≡ placed at (var w) → IsRev l w → or (among w.text xs) (K w.text) ≡ false
    here at w is rev = not_true (or (among w.text xs) (K w.text)) (λ h. by (or_split (among w.text xs) (K w.text) h))
      where
        path : whole ≡ before ++ rev_use w ∷ expressions_occurrences l xs later
        path = e ∙ ap (λ y. before ++ expression_occurrences l y (expressions_occurrences l xs later)) is
            ∙ ap (λ t. before ++ use_of t w ∷ expressions_occurrences l xs later) rev

        by : (among w.text xs ≡ true) ⊎ (K w.text ≡ true) → ⊥
        by (inl i) =
            let f = expressions_found w.text l xs later i in
            never (before, f.0, f.3, w, f.1, f.2, path ∙ ap (λ zs. before ++ rev_use w ∷ zs) f.4, f.5, f.6)
        by (inr i) = true≢false (sym i ∙ leaves w before xs path)

module _ (c : Names) (result : Option ValueKind) where
  -- arguments of a statement with no left side
  args_once : (l : Locals) (xs : Expressions) (K : Name → Bool) (P : List Occurrence → Type 0)
      → P (expressions_occurrences l xs []) → ((p : ℕ) → PicksIn l xs p → ⊥) → Never P → Leaves P K → UsesOnce l xs K
  args_once l xs K P p picks never leaves =
      uses_once l xs [] K [] (expressions_occurrences l xs []) refl picks
      (λ t. never (expressions_occurrences l xs []) p t) (λ w ms ys e. leaves (expressions_occurrences l xs []) p w
      (ms, expressions_occurrences l ys [], e, expressions_before w.text l ys [] tt))

  -- arguments of a right side, behind which this name gets a value
  args_given : (l : Locals) (xs : Expressions) (n : Name) (K : Name → Bool) (P : List Occurrence → Type 0)
      → P (expressions_occurrences l xs (gets n ∷ [])) → ((p : ℕ) → PicksIn l xs p → ⊥) → Never P → Leaves P K
      → UsesOnce l xs (without K n)
  args_given l xs n K P p picks never leaves =
      uses_once l xs (gets n ∷ []) (without K n) [] (expressions_occurrences l xs (gets n ∷ [])) refl picks
      (λ t. never (expressions_occurrences l xs (gets n ∷ [])) p t) (λ w ms ys e. by w ms ys e (same w.text n) refl)
    where
      by : (w : PlacedName) (ms : List Occurrence) (ys : Expressions)
          → expressions_occurrences l xs (gets n ∷ []) ≡ ms ++ rev_use w ∷ expressions_occurrences l ys (gets n ∷ [])
          → (d : Bool) → same w.text n ≡ d → cond d false (K w.text) ≡ false
      by w ms ys e true i = refl
      by w ms ys e false i = leaves (expressions_occurrences l xs (gets n ∷ [])) p w
          (ms, expressions_occurrences l ys (gets n ∷ []), e, expressions_before w.text l ys (gets n ∷ []) (i, tt))

  right_side_once : (l : Locals) (r : RightSide) (n : Name) (K : Name → Bool) (P : List Occurrence → Type 0)
      → P (right_side_occurrences l r (gets n ∷ [])) → ((p : ℕ) → RightSideCopied l r p → ⊥) → Never P → Leaves P K
      → RightSideOnce l r (without K n)
  right_side_once l (plain e) n K P p free never leaves = no_name l e free
  right_side_once l (called at w args) n K P p free never leaves = args_given l args n K P p free never leaves
  right_side_once l (forked at w args) n K P p free never leaves = args_given l args n K P p free never leaves
  right_side_once l (tried at handle) n K P p free never leaves =
      (args_given l (expression handle no_expressions) n K P p (λ q i. only (free q) i) never leaves).0
    where
      only : {A : Type 0} → (A → ⊥) → A ⊎ ⊥ → ⊥
      only f (inl a) = f a
      only f (inr b) = b

  statement_form_behind : (a : StatementForm) (l l' : Locals) → StatementFormTyped c result l a l'
      → StatementFormBehind c l a l'
  statement_form_behind (bind w r) l l' typed = typed.1
  statement_form_behind (assign w r) l l' typed = typed.1
  statement_form_behind (assign_cell w index e) l l' typed = typed.1
  statement_form_behind (choose arms) l l' typed = typed.1
  statement_form_behind (choose_or arms last) l l' typed = typed.1
  statement_form_behind (repeat test body) l l' typed = typed.1
  statement_form_behind (call w args) l l' typed = typed.1
  statement_form_behind (return e) l l' typed = typed.1
  statement_form_behind (fork w args) l l' typed = typed.1
  statement_form_behind (join handle) l l' typed = typed.1
  statement_form_behind (print items) l l' typed = typed.1
  statement_form_behind (assert test) l l' typed = typed.1

  statement_behind : (x : Statement) (l l' : Locals) → StatementTyped c result l x l' → Behind c l x l'
  statement_behind (statement at line form) l l' typed = statement_form_behind form l l' typed

  -- ---- a path through

  mutual
    pub statements_pass : (s : Statements) (l : Locals) → StatementsTyped c result l s → passes s ≡ true
        → (ms : List Occurrence) × Through c l s ms
    statements_pass no_statements l typed h = ([], refl)
    statements_pass (statements x rest) l typed h =
        by (statement_passes x) refl h (λ e. statement_pass x l typed.0 typed.1 e)
        (λ e. statements_pass rest typed.0 typed.2 e)
      where
        by : (d : Bool) → statement_passes x ≡ d → cond d (passes rest) false ≡ true
            → (statement_passes x ≡ true → (ms : List Occurrence) × StatementThrough c l x typed.0 ms)
            → (passes rest ≡ true → (ms : List Occurrence) × Through c typed.0 rest ms)
            → (ms : List Occurrence) × Through c l (statements x rest) ms
        by true e i f g = let a = f e in let b = g i in (a.0 ++ b.0, (typed.0, a.0, b.0, a.1, b.1, refl))
        by false e i f g = absurd (true≢false (sym i))

    pub statement_pass : (x : Statement) (l l' : Locals) → StatementTyped c result l x l' → statement_passes x ≡ true
        → (ms : List Occurrence) × StatementThrough c l x l' ms
    statement_pass (statement at line form) l l' typed h = statement_form_pass form l l' typed h

    statement_form_pass : (a : StatementForm) (l l' : Locals) → StatementFormTyped c result l a l'
        → statement_form_passes a ≡ true → (ms : List Occurrence) × StatementFormThrough c l a l' ms
    statement_form_pass (bind w r) l l' typed h = (right_side_occurrences l r (gets w.text ∷ []), (typed.1, refl))
    statement_form_pass (assign w r) l l' typed h = (right_side_occurrences l r (gets w.text ∷ []), (typed.1, refl))
    statement_form_pass (assign_cell w index e) l l' typed h = ([], (typed.1, refl))
    statement_form_pass (choose arms) l l' typed h = ([], (typed.1, inr refl))
    statement_form_pass (choose_or arms last) l l' typed h =
        by (or_split (arms_pass arms) (passes last) h) (λ e. arms_passed arms l typed.0.0 e)
        (λ e. statements_pass last l typed.0.1 e)
      where
        by : (arms_pass arms ≡ true) ⊎ (passes last ≡ true)
            → (arms_pass arms ≡ true → (ms : List Occurrence) × ArmsThrough c l arms ms)
            → (passes last ≡ true → (ms : List Occurrence) × Through c l last ms)
            → (ms : List Occurrence) × StatementFormThrough c l (choose_or arms last) l' ms
        by (inl e) f g = let a = f e in (a.0, (typed.1, inl a.1))
        by (inr e) f g = let a = g e in (a.0, (typed.1, inr a.1))
    statement_form_pass (repeat test body) l l' typed h = ([], (typed.1, (zero, refl)))
    statement_form_pass (call w args) l l' typed h = (expressions_occurrences l args [], (typed.1, refl))
    statement_form_pass (return e) l l' typed h = absurd (true≢false (sym h))
    statement_form_pass (fork w args) l l' typed h = (expressions_occurrences l args [], (typed.1, refl))
    statement_form_pass (join handle) l l' typed h = (expression_occurrences l handle [], (typed.1, refl))
    statement_form_pass (print items) l l' typed h = ([], (typed.1, refl))
    statement_form_pass (assert test) l l' typed h = ([], (typed.1, refl))

    arms_passed : (all : Arms) (l : Locals) → ArmsTyped c result l all → arms_pass all ≡ true
        → (ms : List Occurrence) × ArmsThrough c l all ms
    arms_passed no_arms l typed h = absurd (true≢false (sym h))
    arms_passed (arm test body rest) l typed h =
        by (or_split (passes body) (arms_pass rest) h) (λ e. statements_pass body l typed.1 e)
        (λ e. arms_passed rest l typed.2 e)
      where
        by : (passes body ≡ true) ⊎ (arms_pass rest ≡ true)
            → (passes body ≡ true → (ms : List Occurrence) × Through c l body ms)
            → (arms_pass rest ≡ true → (ms : List Occurrence) × ArmsThrough c l rest ms)
            → (ms : List Occurrence) × ArmsThrough c l (arm test body rest) ms
        by (inl e) f g = let a = f e in (a.0, inl a.1)
        by (inr e) f g = let a = g e in (a.0, inr a.1)

  -- ---- statements

  -- what a statement leaves used is not live behind it
  leaves_rest : (x : Statement) (rest : Statements) (l l' : Locals) (K : Name → Bool) → StatementsTyped c result l' rest
      → Never (Inside c l (statements x rest)) → Leaves (Through c l (statements x rest)) K
      → Leaves (StatementThrough c l x l') (λ n. live n rest (K n))
  leaves_rest x rest l l' K typed never leaves ms p w left =
      not_true (live w.text rest (K w.text)) (λ h. by (statements_live c result rest l' w.text (K w.text) typed h))
    where
      by : Ahead (Inside c l' rest) w.text ⊎ (Passing (Through c l' rest) w.text × (K w.text ≡ true)) → ⊥
      by (inl a) = never (ms ++ a.0) (inside_rest c result l l' x rest ms a.0 p a.1) (twice_join w ms a.0 left a.2)
      by (inr q) = true≢false
          (sym q.1 ∙ leaves (ms ++ q.0.0) (l', ms, q.0.0, p, q.0.1, refl) w (left_join w ms q.0.0 left q.0.2))

  -- and what a turn leaves used is not used by the next
  leaves_turn : (test : Expression) (body : Statements) (l l' : Locals) (K : Name → Bool) → l' ≡ l
      → StatementsTyped c result l body → Never (StatementFormInside c l (repeat test body))
      → Leaves (StatementFormThrough c l (repeat test body) l') K
      → Leaves (Through c l body) (λ n. or (live n body false) (K n))
  leaves_turn test body l l' K same typed never leaves ms p w left =
      not_true (or (live w.text body false) (K w.text)) (λ h. by (or_split (live w.text body false) (K w.text) h))
    where
      turn : Turns (λ xs. Through c l body xs) (suc zero) ms
      turn = (ms, [], p, refl, nil_right_side ms)

      on : Ahead (Inside c l body) w.text ⊎ (Passing (Through c l body) w.text × (false ≡ true)) → ⊥
      on (inl a) = never (ms ++ a.0) (suc zero, ms, a.0, turn, a.1, refl) (twice_join w ms a.0 left a.2)
      on (inr q) = true≢false (sym q.1)

      by : (live w.text body false ≡ true) ⊎ (K w.text ≡ true) → ⊥
      by (inl e) = on (statements_live c result body l w.text false typed e)
      by (inr e) = true≢false (sym e ∙ leaves ms (same, (suc zero, turn)) w left)

  mutual
    statements_once : (s : Statements) (l : Locals) (K : Name → Bool) → StatementsTyped c result l s
        → ((p : ℕ) → Copied c l s p → ⊥) → ((p : ℕ) → Stored c s p → ⊥) → Never (Inside c l s)
        → Leaves (Through c l s) K → StatementsOnce c result l s K
    statements_once no_statements l K typed copies stores never leaves = tt
    statements_once (statements x rest) l K typed copies stores never leaves = (
      typed.0,
      typed.1,
      statement_once x l typed.0 (λ n. live n rest (K n)) typed.1 (λ p i. copies p (inl i)) (λ p i. stores p (inl i))
          (λ ms p t. never ms (inr (inl p)) t) (λ ms p t. never ms (inside_here c result l typed.0 x rest ms p) t)
          (leaves_rest x rest l typed.0 K typed.2 never leaves),
      λ e. let m = statement_pass x l typed.0 typed.1 e in
          statements_once rest typed.0 K typed.2
          (λ p i. copies p (inr (typed.0, statement_behind x l typed.0 typed.1, i))) (λ p i. stores p (inr i))
          (λ ms p t. never (m.0 ++ ms) (inside_rest c result l typed.0 x rest m.0 ms m.1 p) (twice_behind m.0 ms t))
          (λ ms p w left. leaves (m.0 ++ ms) (typed.0, m.0, ms, m.1, p, refl) w (left_behind w m.0 ms left)),
    )

    statement_once : (x : Statement) (l l' : Locals) (K : Name → Bool) → StatementTyped c result l x l'
        → ((p : ℕ) → StatementCopied c l x p → ⊥) → ((p : ℕ) → StatementStored c x p → ⊥)
        → Never (StatementInside c l x) → Never (StatementThrough c l x l') → Leaves (StatementThrough c l x l') K
        → StatementOnce c result l x K
    statement_once (statement at line form) l l' K typed copies stores inside never leaves =
        statement_form_once form l l' K typed copies stores inside never leaves

    statement_form_once : (a : StatementForm) (l l' : Locals) (K : Name → Bool) → StatementFormTyped c result l a l'
        → ((p : ℕ) → StatementFormCopied c l a p → ⊥) → ((p : ℕ) → StatementFormStored c a p → ⊥)
        → Never (StatementFormInside c l a) → Never (StatementFormThrough c l a l')
        → Leaves (StatementFormThrough c l a l') K → StatementFormOnce c result l a K
    statement_form_once (bind w r) l l' K typed copies stores inside never leaves =
        right_side_once l r w.text K (StatementFormThrough c l (bind w r) l') (typed.1, refl) copies never leaves
    statement_form_once (assign w r) l l' K typed copies stores inside never leaves = (
      not_stored c w stores,
      right_side_once l r w.text K (StatementFormThrough c l (assign w r) l') (typed.1, refl) copies never leaves,
    )
    statement_form_once (assign_cell w index e) l l' K typed copies stores inside never leaves = not_stored c w stores
    statement_form_once (choose arms) l l' K typed copies stores inside never leaves =
        arms_once arms l K typed.0 copies stores inside (λ ms p w left. leaves ms (typed.1, inl p) w left)
    statement_form_once (choose_or arms last) l l' K typed copies stores inside never leaves = (
      arms_once arms l K typed.0.0 (λ p i. copies p (inl i)) (λ p i. stores p (inl i)) (λ ms p t. inside ms (inl p) t)
          (λ ms p w left. leaves ms (typed.1, inl p) w left),
      statements_once last l K typed.0.1 (λ p i. copies p (inr i)) (λ p i. stores p (inr i))
          (λ ms p t. inside ms (inr p) t) (λ ms p w left. leaves ms (typed.1, inr p) w left),
    )
    statement_form_once (repeat test body) l l' K typed copies stores inside never leaves =
        statements_once body l (λ n. or (live n body false) (K n)) typed.0.1 (λ p i. copies p (inr i)) stores
        (λ ms p t. inside ms (zero, [], ms, refl, p, refl) t)
        (leaves_turn test body l l' K typed.1 typed.0.1 inside leaves)
    statement_form_once (call w args) l l' K typed copies stores inside never leaves =
        args_once l args K (StatementFormThrough c l (call w args) l') (typed.1, refl) copies never leaves
    statement_form_once (return None) l l' K typed copies stores inside never leaves = tt
    statement_form_once (return (Some e)) l l' K typed copies stores inside never leaves = no_pick l e copies
    statement_form_once (fork w args) l l' K typed copies stores inside never leaves =
        args_once l args K (StatementFormThrough c l (fork w args) l') (typed.1, refl) copies never leaves
    statement_form_once (join handle) l l' K typed copies stores inside never leaves =
        (args_once l (expression handle no_expressions) K (StatementFormThrough c l (join handle) l') (typed.1, refl)
        (λ p i. only (copies p) i) never leaves).0
      where
        only : {A : Type 0} → (A → ⊥) → A ⊎ ⊥ → ⊥
        only f (inl a) = f a
        only f (inr b) = b
    statement_form_once (print items) l l' K typed copies stores inside never leaves = tt
    statement_form_once (assert test) l l' K typed copies stores inside never leaves = tt

    arms_once : (all : Arms) (l : Locals) (K : Name → Bool) → ArmsTyped c result l all
        → ((p : ℕ) → ArmsCopied c l all p → ⊥) → ((p : ℕ) → ArmsStored c all p → ⊥) → Never (ArmsInside c l all)
        → Leaves (ArmsThrough c l all) K → ArmsOnce c result l all K
    arms_once no_arms l K typed copies stores inside leaves = tt
    arms_once (arm test body rest) l K typed copies stores inside leaves = (
      statements_once body l K typed.1 (λ p i. copies p (inr (inl i))) (λ p i. stores p (inl i))
          (λ ms p t. inside ms (inl p) t) (λ ms p w left. leaves ms (inl p) w left),
      arms_once rest l K typed.2 (λ p i. copies p (inr (inr i))) (λ p i. stores p (inr i))
          (λ ms p t. inside ms (inr p) t) (λ ms p w left. leaves ms (inr p) w left),
    )

-- ---- programs

body_once : (c : Names) (result : Option ValueKind) (l : Locals) (body : Statements) → StatementsTyped c result l body
    → ((b : Breach) (at : ℕ) → BodyBreaks c l body b at → ⊥) → StatementsOnce c result l body (λ n. false)
body_once c result l body typed keeps =
    statements_once c result body l (λ n. false) typed (keeps copied) (keeps stored)
    (λ ms p t. keeps used_twice t.5.at (record {
      before = t.0;
      between = t.1;
      behind = t.2;
      first = t.3;
      means = t.4;
      second = t.5;
      path = subst (Inside c l body) t.6 p;
      same_name = t.7;
      unchanged = t.8;
      place = refl;
    }))
    (λ ms p w left. refl)

declarations_once : (c inner : Names) (before es : List Declaration) → DeclarationsTyped c inner before es
    → ((b : Breach) (at : ℕ) → DeclarationsBreak c es b at → ⊥) → DeclarationsOnce c es
declarations_once c inner before [] typed keeps = tt
declarations_once c inner before (fun w ps r body ∷ es) typed keeps =
    declarations_once c inner (fun w ps r body ∷ before) es typed.1 keeps
declarations_once c inner before (merge w m j r body ∷ es) typed keeps =
    declarations_once c inner (merge w m j r body ∷ before) es typed.1 keeps
declarations_once c inner before (shared x ∷ es) typed keeps =
    declarations_once c inner (shared x ∷ before) es typed.1 keeps
declarations_once c inner before (proc w ps r body ∷ es) typed keeps = (
  body_once c r (with_params [] ps) body typed.0.body (λ b at i. keeps b at (inl i)),
  declarations_once c inner (proc w ps r body ∷ before) es typed.1 (λ b at i. keeps b at (inr i)),
)

-- a well-typed program that keeps the affine rule uses each handle once
pub affine_once : (p : ProgramTree) → ProgramTyped p → IsAffine p → UsesHandlesOnce p
affine_once p typed affine = record {
  declarations =
      declarations_once (outside p.declarations) (within p.declarations) [] p.declarations typed.declarations
      (λ b at i. affine b at (inl i));
  main = body_once (outside p.declarations) None [] p.main typed.main (λ b at i. affine b at (inr i));
}
