-- In a typed program both uses of a second use mean a rev local.
use Rattle.std.proofs.Common.{◌≡◌, ◌∙◌, ◌⊎◌, inl, inr, ℕ, zero, suc, ◌+◌, Bool, true, false, Option, Some, None, List, [], ◌∷◌, ◌++◌, refl, sym, ap, subst}
use Rattle.std.specs.Prelude.{if◌then◌else◌}
use Rattle.rev_num.specs.declared.value.ValueKind.{ValueKind}
use Rattle.rev_num.specs.declared.value.ValueKind.TheVariants as k
use Rattle.rev_syntax.specs.Trees.{PlacedName, Parameter, Expression, placed, int, bool, no_rev, var, cell, apply, input, inputs, pick, unary, chain, Expressions, no_expressions, expression, RightSide, plain, called, forked, tried, Statement, statement, StatementForm, bind, assign, assign_cell, choose, choose_or, repeat, call, return, fork, join, print, assert, Statements, no_statements, statements, Arms, no_arms, arm, Declaration, fun, merge, shared, proc, ProgramTree}
use Rattle.name_tables.specs.Names.{Name, same}
use Rattle.name_tables.specs.Table.{find, added}
use Rattle.name_tables.proofs.Tables.{same_equal, find-added, or_else}
use Rattle.typed_programs.specs.declared.names.Holder.{Holder}
use Rattle.typed_programs.specs.Kinds.{Names, Locals}
use Rattle.typed_programs.specs.Typing.{HasKind, ScalarHas, ArgsHave}
use Rattle.typed_programs.specs.Judgement.{RightSideHas, ReturnTyped, StatementTyped, StatementFormTyped, StatementsTyped, ArmsTyped, DeclarationsTyped, ProgramTyped}
use Rattle.typed_programs.specs.Scopes.{outside, within, with_params}
use Rattle.typed_programs.proofs.Scopes.{statement_scope}
use Rattle.affine_check.specs.Affine.{Occurrence, use_of, gets, expression_occurrences, expressions_occurrences, right_side_occurrences, value_occurrences, Turns, Through, StatementThrough, StatementFormThrough, ArmsThrough, Inside, StatementInside, StatementFormInside, ArmsInside, NoValue, rev_use}
use Rattle.affine_check.specs.Laws.{MeansHandle, DeclarationsMeanHandles, SecondUsesMeanHandles}
use Rattle.affine_check.proofs.Exact.{LeftAt, left_split, right_side_none, scope_is}

-- ---- lists

-- each use of the name before it gets a value means a rev local
abbrev MeansRev : Name → List Occurrence → Type 0
MeansRev n [] = Unit {0}
MeansRev n (use_of t w ∷ ms) = (w.text ≡ n → t ≡ Some (Some k.Rev)) × MeansRev n ms
MeansRev n (gets m ∷ ms) = same n m ≡ false → MeansRev n ms

-- that holds behind each use of a rev local, of its name
abbrev AllMean : List Occurrence → Type 0
AllMean [] = Unit {0}
AllMean (use_of t w ∷ ms) = (t ≡ Some (Some k.Rev) → MeansRev w.text ms) × AllMean ms
AllMean (gets m ∷ ms) = AllMean ms

rev_append : (n : Name) (xs ys : List Occurrence) → MeansRev n xs → (NoValue n xs → MeansRev n ys)
    → MeansRev n (xs ++ ys)
rev_append n [] ys h more = more tt
rev_append n (use_of t w ∷ xs) ys h more = (h.0, rev_append n xs ys h.1 more)
rev_append n (gets m ∷ xs) ys h more = λ d. rev_append n xs ys (h d) (λ v. more (d, v))

all_append : (xs ys : List Occurrence) → AllMean xs → ((n : Name) → LeftAt n xs → MeansRev n ys) → AllMean ys
    → AllMean (xs ++ ys)
all_append [] ys h cross last = last
all_append (use_of t w ∷ xs) ys h cross last = (
  λ e. rev_append w.text xs ys (h.0 e) (λ v. cross w.text (inl (e, refl, v))),
  all_append xs ys h.1 (λ n q. cross n (inr q)) last,
)
all_append (gets m ∷ xs) ys h cross last = all_append xs ys h (λ n q. cross n q) last

all_behind : (xs ys : List Occurrence) → AllMean (xs ++ ys) → AllMean ys
all_behind [] ys h = h
all_behind (use_of t w ∷ xs) ys h = all_behind xs ys h.1
all_behind (gets m ∷ xs) ys h = all_behind xs ys h

rev_behind : (n : Name) (xs ys : List Occurrence) → NoValue n xs → MeansRev n (xs ++ ys) → MeansRev n ys
rev_behind n [] ys none h = h
rev_behind n (use_of t w ∷ xs) ys none h = rev_behind n xs ys none h.1
rev_behind n (gets m ∷ xs) ys none h = rev_behind n xs ys none.1 (h none.0)

second_means : (before between behind : List Occurrence) (first : PlacedName) (t : Option (Option ValueKind))
    (second : PlacedName)
    → AllMean (before ++ (rev_use first ∷ (between ++ (use_of t second ∷ behind)))) → second.text ≡ first.text
    → NoValue first.text between → t ≡ Some (Some k.Rev)
second_means before between behind first t second h e none =
    (rev_behind first.text between (use_of t second ∷ behind) none
    ((all_behind before (rev_use first ∷ (between ++ (use_of t second ∷ behind))) h).0 refl)).0
    e

one_of : {P Q A : Type 0} → P ⊎ Q → (P → A) → (Q → A) → A
one_of (inl p) f g = f p
one_of (inr q) f g = g q

-- ---- names and scopes

pub kept : (n w : Name) (l : Locals) (x : Option ValueKind) (m : Option ValueKind) → find n l ≡ Some m
    → find n (added l w x) ≡ Some m
kept n w l x m h = find-added n w x l ∙ ap (λ o. or_else o (if same n w then Some x else None)) h

pub still_free : (n w : Name) (l : Locals) (x : Option ValueKind) → same n w ≡ false → find n l ≡ None
    → find n (added l w x) ≡ None
still_free n w l x d h = find-added n w x l ∙ (λ i. or_else (h i) (if d i then Some x else None))

module _ (c : Names) where
  -- the name is that of a rev local, or of nothing
  abbrev Known : Name → Locals → Type 0
  Known n l = (find n l ≡ Some (Some k.Rev)) ⊎ ((find n l ≡ None) × (c.shared n ≡ None))

  was_known : (n w : Name) (l : Locals) (x : Option ValueKind) → find w l ≡ None → c.shared w ≡ None
      → Known n (added l w x) → Known n l
  was_known n w l x new bare known = by (same n w) refl (find n l) refl known
    where
      by : (d : Bool) → same n w ≡ d → (o : Option (Option ValueKind)) → find n l ≡ o → Known n (added l w x)
          → Known n l
      by true e o f h = (let name = same_equal n w e in inr (ap (λ m. find m l) name ∙ new, ap c.shared name ∙ bare))
      by false e None f (inl h) = absurd (let clash : None ≡ Some (Some k.Rev) = sym (still_free n w l x e f) ∙ h in cc)
      by false e None f (inr h) = inr (f, h.1)
      by false e (Some m) f (inl h) = inl (f ∙ sym (kept n w l x m f) ∙ h)
      by false e (Some m) f (inr h) = absurd (let clash : Some m ≡ None = sym (kept n w l x m f) ∙ h.0 in cc)

  known_on : (x : Statement) (n : Name) (l l' : Locals) (ms : List Occurrence) → StatementThrough c l x l' ms
      → NoValue n ms → Known n l → Known n l'
  known_on (statement at line (bind w r)) n l l' ms path none (inl h) =
      inl (ap (find n) path.0.2 ∙ kept n w.text l (Some path.0.0) (Some k.Rev) h)
  known_on (statement at line (bind w r)) n l l' ms path none (inr h) =
      inr (
        ap (find n) path.0.2
            ∙ still_free n w.text l (Some path.0.0)
            (right_side_none n l r (gets w.text ∷ []) (subst (NoValue n) path.1 none)).0 h.0,
        h.1,
      )
  known_on (statement at line (assign w r)) n l l' ms path none known = subst (Known n) (sym path.0) known
  known_on (statement at line (assign_cell w index e)) n l l' ms path none known = subst (Known n) (sym path.0) known
  known_on (statement at line (choose arms)) n l l' ms path none known = subst (Known n) (sym path.0) known
  known_on (statement at line (choose_or arms last)) n l l' ms path none known = subst (Known n) (sym path.0) known
  known_on (statement at line (repeat test body)) n l l' ms path none known = subst (Known n) (sym path.0) known
  known_on (statement at line (call w args)) n l l' ms path none known = subst (Known n) (sym path.0) known
  known_on (statement at line (return e)) n l l' ms path none known = absurd path
  known_on (statement at line (fork w args)) n l l' ms path none known = subst (Known n) (sym path.0) known
  known_on (statement at line (join handle)) n l l' ms path none known = subst (Known n) (sym path.0) known
  known_on (statement at line (print items)) n l l' ms path none known = subst (Known n) (sym path.0) known
  known_on (statement at line (assert test)) n l l' ms path none known = subst (Known n) (sym path.0) known

  known_back : (x : Statement) (result : Option ValueKind) (n : Name) (l l' : Locals) → StatementTyped c result l x l'
      → Known n l' → Known n l
  known_back (statement at line (bind w r)) result n l l' typed known =
      was_known n w.text l (Some typed.1.0) typed.0.0 typed.0.1 (subst (Known n) typed.1.2 known)
  known_back (statement at line (assign w r)) result n l l' typed known = subst (Known n) typed.1 known
  known_back (statement at line (assign_cell w index e)) result n l l' typed known = subst (Known n) typed.1 known
  known_back (statement at line (choose arms)) result n l l' typed known = subst (Known n) typed.1 known
  known_back (statement at line (choose_or arms last)) result n l l' typed known = subst (Known n) typed.1 known
  known_back (statement at line (repeat test body)) result n l l' typed known = subst (Known n) typed.1 known
  known_back (statement at line (call w args)) result n l l' typed known = subst (Known n) typed.1 known
  known_back (statement at line (return e)) result n l l' typed known = subst (Known n) typed.1 known
  known_back (statement at line (fork w args)) result n l l' typed known = subst (Known n) typed.1 known
  known_back (statement at line (join handle)) result n l l' typed known = subst (Known n) typed.1 known
  known_back (statement at line (print items)) result n l l' typed known = subst (Known n) typed.1 known
  known_back (statement at line (assert test)) result n l l' typed known = subst (Known n) typed.1 known

  -- what is typed behind a statement, where a path leads
  typed_on : (x : Statement) (rest : Statements) (result : Option ValueKind) (l : Locals)
      → StatementsTyped c result l (statements x rest) → (l' : Locals) (ms : List Occurrence)
      → StatementThrough c l x l' ms
      → StatementTyped c result l x l' × StatementsTyped c result l' rest
  typed_on x rest result l typed l' ms path =
      let e : typed.0 ≡ l' = statement_scope c result l typed.0 x typed.1 ∙ sym (scope_is c x l l' ms path) in
      (subst (λ m. StatementTyped c result l x m) e typed.1, subst (λ m. StatementsTyped c result m rest) e typed.2)

  -- ---- what a statement uses

  module _ (l : Locals) (P : List Occurrence → Type 0)
      (step : (w : PlacedName) (t : ValueKind) (ms : List Occurrence) → ScalarHas (find w.text l) (c.shared w.text) t
      → P ms → P (use_of (find w.text l) w ∷ ms)) where
    by_use : (x : Expression) (t : ValueKind) → HasKind c l x t → (later : List Occurrence) → P later
        → P (expression_occurrences l x later)
    by_use (placed at (int z)) t has later p = p
    by_use (placed at (bool z)) t has later p = p
    by_use (placed at no_rev) t has later p = p
    by_use (placed at (var w)) t has later p = step w t later has p
    by_use (placed at (cell w index)) t has later p = p
    by_use (placed at (apply w args)) t has later p = p
    by_use (placed at (input i index)) t has later p = p
    by_use (placed at (inputs i)) t has later p = p
    by_use (placed at (pick test x y)) t has later p = p
    by_use (placed at (unary op e)) t has later p = p
    by_use (placed at (chain first rest)) t has later p = p

    by_args : (ps : List Parameter) (xs : Expressions) (i : ℕ) → ArgsHave c l ps i xs → (later : List Occurrence)
        → P later → P (expressions_occurrences l xs later)
    by_args ps no_expressions i have later p = p
    by_args ps (expression x xs) i have later p =
        by_use x have.0.0 have.0.1 (expressions_occurrences l xs later) (by_args ps xs (i + 1) have.1 later p)

    by_right : (r : RightSide) (t : ValueKind) → RightSideHas c l r t → (later : List Occurrence) → P later
        → P (right_side_occurrences l r later)
    by_right (plain e) t has later p = p
    by_right (called at w args) t has later p = by_args _ args 0 has.1.2 later p
    by_right (forked at w args) t has later p = by_args _ args 0 has.1.1.2 later p
    by_right (tried at handle) t has later p = by_use handle k.Rev has.1 later p

    by_value : (result : Option ValueKind) (e : Option Expression) → ReturnTyped c l result e → P []
        → P (value_occurrences l e)
    by_value None None has p = p
    by_value None (Some e) has p = absurd has
    by_value (Some t) None has p = p
    by_value (Some t) (Some e) has p = by_use e t has [] p

  rev_step : (n : Name) (l : Locals) → Known n l → (w : PlacedName) (t : ValueKind) (ms : List Occurrence)
      → ScalarHas (find w.text l) (c.shared w.text) t → MeansRev n ms → MeansRev n (use_of (find w.text l) w ∷ ms)
  rev_step n l known w t ms has p = (λ e. means known e, p)
    where
      means : Known n l → w.text ≡ n → find w.text l ≡ Some (Some k.Rev)
      means (inl h) e = ap (λ m. find m l) e ∙ h
      means (inr f) e =
          absurd (let Q : Option (Option ValueKind) → Option Holder → Type 0 = λ o h. ScalarHas o h t in
          subst (λ h. Q None h) (ap c.shared e ∙ f.1)
          (subst (λ o. Q o (c.shared w.text)) (ap (λ m. find m l) e ∙ f.0) has))

  -- all uses, and the further ones of a name that is that of a rev local
  abbrev Both : Locals → List Occurrence → Type 0
  Both l ms = AllMean ms × ((n : Name) → find n l ≡ Some (Some k.Rev) → MeansRev n ms)

  all_step : (l : Locals) (w : PlacedName) (t : ValueKind) (ms : List Occurrence)
      → ScalarHas (find w.text l) (c.shared w.text) t → Both l ms → Both l (use_of (find w.text l) w ∷ ms)
  all_step l w t ms has p = ((λ e. p.1 w.text e, p.0), λ n h. (λ e. ap (λ m. find m l) e ∙ h, p.1 n h))

  abbrev Leaves : Name → Locals → List Occurrence → Type 0
  Leaves n l ms = LeftAt n ms → find n l ≡ Some (Some k.Rev)

  left_step : (n : Name) (l : Locals) (w : PlacedName) (t : ValueKind) (ms : List Occurrence)
      → ScalarHas (find w.text l) (c.shared w.text) t → Leaves n l ms → Leaves n l (use_of (find w.text l) w ∷ ms)
  left_step n l w t ms has p (inl q) = ap (λ m. find m l) (sym q.1) ∙ q.0
  left_step n l w t ms has p (inr q) = p q

  -- ---- a name that is known means a rev local where it is used

  rev_turns : (n : Name) (l : Locals) (body : Statements)
      → ((ms : List Occurrence) → Through c l body ms → MeansRev n ms) → (t : ℕ) (ms : List Occurrence)
      → Turns (λ xs. Through c l body xs) t ms → MeansRev n ms
  rev_turns n l body go zero ms e = subst (MeansRev n) (sym e) tt
  rev_turns n l body go (suc t) ms turn =
      subst (MeansRev n) (sym turn.4)
      (rev_append n turn.0 turn.1 (go turn.0 turn.2) (λ v. rev_turns n l body go t turn.1 turn.3))

  mutual
    rev_through : (s : Statements) (result : Option ValueKind) (l : Locals) (n : Name) (ms : List Occurrence)
        → StatementsTyped c result l s → Known n l → Through c l s ms → MeansRev n ms
    rev_through no_statements result l n ms typed known path = subst (MeansRev n) (sym path) tt
    rev_through (statements x rest) result l n ms typed known path =
        let on = typed_on x rest result l typed path.0 path.1 path.3 in
        subst (MeansRev n) (sym path.5)
        (rev_append n path.1 path.2 (rev_statement x result l path.0 path.0 n path.1 on.0 known path.3)
        (λ v. rev_through rest result path.0 n path.2 on.1 (known_on x n l path.0 path.1 path.3 v known) path.4))

    rev_statement : (x : Statement) (result : Option ValueKind) (l l' m : Locals) (n : Name) (ms : List Occurrence)
        → StatementTyped c result l x m → Known n l → StatementThrough c l x l' ms → MeansRev n ms
    rev_statement (statement at line form) result l l' m n ms typed known path =
        rev_form form result l l' m n ms typed known path

    rev_form : (a : StatementForm) (result : Option ValueKind) (l l' m : Locals) (n : Name) (ms : List Occurrence)
        → StatementFormTyped c result l a m → Known n l → StatementFormThrough c l a l' ms → MeansRev n ms
    rev_form (bind w r) result l l' m n ms typed known path =
        subst (MeansRev n) (sym path.1)
        (by_right l (MeansRev n) (rev_step n l known) r typed.1.0 typed.1.1 (gets w.text ∷ []) (λ d. tt))
    rev_form (assign w r) result l l' m n ms typed known path =
        subst (MeansRev n) (sym path.1)
        (by_right l (MeansRev n) (rev_step n l known) r typed.0.0 typed.0.2 (gets w.text ∷ []) (λ d. tt))
    rev_form (assign_cell w index e) result l l' m n ms typed known path = subst (MeansRev n) (sym path.1) tt
    rev_form (choose arms) result l l' m n ms typed known path =
        one_of path.1 (λ q. rev_arms arms result l n ms typed.0 known q) (λ e. subst (MeansRev n) (sym e) tt)
    rev_form (choose_or arms last) result l l' m n ms typed known path =
        one_of path.1 (λ q. rev_arms arms result l n ms typed.0.0 known q)
        (λ q. rev_through last result l n ms typed.0.1 known q)
    rev_form (repeat test body) result l l' m n ms typed known path =
        rev_turns n l body (λ xs q. rev_through body result l n xs typed.0.1 known q) path.1.0 ms path.1.1
    rev_form (call w args) result l l' m n ms typed known path =
        subst (MeansRev n) (sym path.1) (by_args l (MeansRev n) (rev_step n l known) _ args 0 typed.0.1.2 [] tt)
    rev_form (return e) result l l' m n ms typed known path = absurd path
    rev_form (fork w args) result l l' m n ms typed known path =
        subst (MeansRev n) (sym path.1) (by_args l (MeansRev n) (rev_step n l known) _ args 0 typed.0.1.2 [] tt)
    rev_form (join handle) result l l' m n ms typed known path =
        subst (MeansRev n) (sym path.1) (by_use l (MeansRev n) (rev_step n l known) handle k.Rev typed.0 [] tt)
    rev_form (print items) result l l' m n ms typed known path = subst (MeansRev n) (sym path.1) tt
    rev_form (assert test) result l l' m n ms typed known path = subst (MeansRev n) (sym path.1) tt

    rev_arms : (all : Arms) (result : Option ValueKind) (l : Locals) (n : Name) (ms : List Occurrence)
        → ArmsTyped c result l all → Known n l → ArmsThrough c l all ms → MeansRev n ms
    rev_arms no_arms result l n ms typed known path = absurd path
    rev_arms (arm test body rest) result l n ms typed known (inl path) =
        rev_through body result l n ms typed.1 known path
    rev_arms (arm test body rest) result l n ms typed known (inr path) = rev_arms rest result l n ms typed.2 known path

  mutual
    rev_inside : (s : Statements) (result : Option ValueKind) (l : Locals) (n : Name) (ms : List Occurrence)
        → StatementsTyped c result l s → Known n l → Inside c l s ms → MeansRev n ms
    rev_inside no_statements result l n ms typed known path = subst (MeansRev n) (sym path) tt
    rev_inside (statements x rest) result l n ms typed known (inl e) = subst (MeansRev n) (sym e) tt
    rev_inside (statements x rest) result l n ms typed known (inr (inl path)) =
        rev_in_statement x result l typed.0 n ms typed.1 known path
    rev_inside (statements x rest) result l n ms typed known (inr (inr path)) =
        let on = typed_on x rest result l typed path.0 path.1 path.3 in
        subst (MeansRev n) (sym path.5)
        (rev_append n path.1 path.2 (rev_statement x result l path.0 path.0 n path.1 on.0 known path.3)
        (λ v. rev_inside rest result path.0 n path.2 on.1 (known_on x n l path.0 path.1 path.3 v known) path.4))

    rev_in_statement : (x : Statement) (result : Option ValueKind) (l m : Locals) (n : Name) (ms : List Occurrence)
        → StatementTyped c result l x m → Known n l → StatementInside c l x ms → MeansRev n ms
    rev_in_statement (statement at line form) result l m n ms typed known path =
        rev_in_form form result l m n ms typed known path

    rev_in_form : (a : StatementForm) (result : Option ValueKind) (l m : Locals) (n : Name) (ms : List Occurrence)
        → StatementFormTyped c result l a m → Known n l → StatementFormInside c l a ms → MeansRev n ms
    rev_in_form (bind w r) result l m n ms typed known path = absurd path
    rev_in_form (assign w r) result l m n ms typed known path = absurd path
    rev_in_form (assign_cell w index e) result l m n ms typed known path = absurd path
    rev_in_form (choose arms) result l m n ms typed known path = rev_in_arms arms result l n ms typed.0 known path
    rev_in_form (choose_or arms last) result l m n ms typed known path =
        one_of path (λ q. rev_in_arms arms result l n ms typed.0.0 known q)
        (λ q. rev_inside last result l n ms typed.0.1 known q)
    rev_in_form (repeat test body) result l m n ms typed known path =
        subst (MeansRev n) (sym path.5)
        (rev_append n path.1 path.2
        (rev_turns n l body (λ xs q. rev_through body result l n xs typed.0.1 known q) path.0 path.1 path.3)
        (λ v. rev_inside body result l n path.2 typed.0.1 known path.4))
    rev_in_form (call w args) result l m n ms typed known path = absurd path
    rev_in_form (return e) result l m n ms typed known path =
        subst (MeansRev n) (sym path) (by_value l (MeansRev n) (rev_step n l known) result e typed.0 tt)
    rev_in_form (fork w args) result l m n ms typed known path = absurd path
    rev_in_form (join handle) result l m n ms typed known path = absurd path
    rev_in_form (print items) result l m n ms typed known path = absurd path
    rev_in_form (assert test) result l m n ms typed known path = absurd path

    rev_in_arms : (all : Arms) (result : Option ValueKind) (l : Locals) (n : Name) (ms : List Occurrence)
        → ArmsTyped c result l all → Known n l → ArmsInside c l all ms → MeansRev n ms
    rev_in_arms no_arms result l n ms typed known path = absurd path
    rev_in_arms (arm test body rest) result l n ms typed known (inl path) =
        rev_inside body result l n ms typed.1 known path
    rev_in_arms (arm test body rest) result l n ms typed known (inr path) =
        rev_in_arms rest result l n ms typed.2 known path

  -- ---- a name that a block uses is known before it

  left_turns : (n : Name) (l : Locals) (body : Statements)
      → ((ms : List Occurrence) → Through c l body ms → LeftAt n ms → Known n l) → (t : ℕ) (ms : List Occurrence)
      → Turns (λ xs. Through c l body xs) t ms → LeftAt n ms → Known n l
  left_turns n l body go zero ms e h = absurd (subst (LeftAt n) e h)
  left_turns n l body go (suc t) ms turn h =
      one_of (left_split n turn.0 turn.1 (subst (LeftAt n) turn.4 h)) (λ q. go turn.0 turn.2 q.0)
      (λ q. left_turns n l body go t turn.1 turn.3 q)

  mutual
    left_through : (s : Statements) (result : Option ValueKind) (l : Locals) (n : Name) (ms : List Occurrence)
        → StatementsTyped c result l s → Through c l s ms → LeftAt n ms → Known n l
    left_through no_statements result l n ms typed path h = absurd (subst (LeftAt n) path h)
    left_through (statements x rest) result l n ms typed path h =
        let on = typed_on x rest result l typed path.0 path.1 path.3 in
        one_of (left_split n path.1 path.2 (subst (LeftAt n) path.5 h))
        (λ q. left_statement x result l path.0 path.0 n path.1 on.0 path.3 q.0)
        (λ q. known_back x result n l path.0 on.0 (left_through rest result path.0 n path.2 on.1 path.4 q))

    left_statement : (x : Statement) (result : Option ValueKind) (l l' m : Locals) (n : Name) (ms : List Occurrence)
        → StatementTyped c result l x m → StatementThrough c l x l' ms → LeftAt n ms → Known n l
    left_statement (statement at line form) result l l' m n ms typed path h =
        left_form form result l l' m n ms typed path h

    left_form : (a : StatementForm) (result : Option ValueKind) (l l' m : Locals) (n : Name) (ms : List Occurrence)
        → StatementFormTyped c result l a m → StatementFormThrough c l a l' ms → LeftAt n ms → Known n l
    left_form (bind w r) result l l' m n ms typed path h =
        inl (by_right l (Leaves n l) (left_step n l) r typed.1.0 typed.1.1 (gets w.text ∷ []) (λ q. absurd q)
        (subst (LeftAt n) path.1 h))
    left_form (assign w r) result l l' m n ms typed path h =
        inl (by_right l (Leaves n l) (left_step n l) r typed.0.0 typed.0.2 (gets w.text ∷ []) (λ q. absurd q)
        (subst (LeftAt n) path.1 h))
    left_form (assign_cell w index e) result l l' m n ms typed path h = absurd (subst (LeftAt n) path.1 h)
    left_form (choose arms) result l l' m n ms typed path h =
        one_of path.1 (λ q. left_arms arms result l n ms typed.0 q h) (λ e. absurd (subst (LeftAt n) e h))
    left_form (choose_or arms last) result l l' m n ms typed path h =
        one_of path.1 (λ q. left_arms arms result l n ms typed.0.0 q h)
        (λ q. left_through last result l n ms typed.0.1 q h)
    left_form (repeat test body) result l l' m n ms typed path h =
        left_turns n l body (λ xs q i. left_through body result l n xs typed.0.1 q i) path.1.0 ms path.1.1 h
    left_form (call w args) result l l' m n ms typed path h =
        inl (by_args l (Leaves n l) (left_step n l) _ args 0 typed.0.1.2 [] (λ q. absurd q) (subst (LeftAt n) path.1 h))
    left_form (return e) result l l' m n ms typed path h = absurd path
    left_form (fork w args) result l l' m n ms typed path h =
        inl (by_args l (Leaves n l) (left_step n l) _ args 0 typed.0.1.2 [] (λ q. absurd q) (subst (LeftAt n) path.1 h))
    left_form (join handle) result l l' m n ms typed path h =
        inl (by_use l (Leaves n l) (left_step n l) handle k.Rev typed.0 [] (λ q. absurd q) (subst (LeftAt n) path.1 h))
    left_form (print items) result l l' m n ms typed path h = absurd (subst (LeftAt n) path.1 h)
    left_form (assert test) result l l' m n ms typed path h = absurd (subst (LeftAt n) path.1 h)

    left_arms : (all : Arms) (result : Option ValueKind) (l : Locals) (n : Name) (ms : List Occurrence)
        → ArmsTyped c result l all → ArmsThrough c l all ms → LeftAt n ms → Known n l
    left_arms no_arms result l n ms typed path h = absurd path
    left_arms (arm test body rest) result l n ms typed (inl path) h = left_through body result l n ms typed.1 path h
    left_arms (arm test body rest) result l n ms typed (inr path) h = left_arms rest result l n ms typed.2 path h

  -- and behind the statement that uses it
  left_end : (x : Statement) (result : Option ValueKind) (l l' : Locals) (n : Name) (ms : List Occurrence)
      → StatementTyped c result l x l' → StatementThrough c l x l' ms → LeftAt n ms → Known n l'
  left_end (statement at line (bind w r)) result l l' n ms typed path h =
      let q = by_right l (Leaves n l) (left_step n l) r typed.1.0 typed.1.1 (gets w.text ∷ []) (λ q. absurd q)
      (subst (LeftAt n) path.1 h) in
      inl (ap (find n) typed.1.2 ∙ kept n w.text l (Some typed.1.0) (Some k.Rev) q)
  left_end (statement at line (assign w r)) result l l' n ms typed path h =
      subst (Known n) (sym typed.1) (left_form (assign w r) result l l' l' n ms typed path h)
  left_end (statement at line (assign_cell w index e)) result l l' n ms typed path h =
      subst (Known n) (sym typed.1) (left_form (assign_cell w index e) result l l' l' n ms typed path h)
  left_end (statement at line (choose arms)) result l l' n ms typed path h =
      subst (Known n) (sym typed.1) (left_form (choose arms) result l l' l' n ms typed path h)
  left_end (statement at line (choose_or arms last)) result l l' n ms typed path h =
      subst (Known n) (sym typed.1) (left_form (choose_or arms last) result l l' l' n ms typed path h)
  left_end (statement at line (repeat test body)) result l l' n ms typed path h =
      subst (Known n) (sym typed.1) (left_form (repeat test body) result l l' l' n ms typed path h)
  left_end (statement at line (call w args)) result l l' n ms typed path h =
      subst (Known n) (sym typed.1) (left_form (call w args) result l l' l' n ms typed path h)
  left_end (statement at line (return e)) result l l' n ms typed path h = absurd path
  left_end (statement at line (fork w args)) result l l' n ms typed path h =
      subst (Known n) (sym typed.1) (left_form (fork w args) result l l' l' n ms typed path h)
  left_end (statement at line (join handle)) result l l' n ms typed path h =
      subst (Known n) (sym typed.1) (left_form (join handle) result l l' l' n ms typed path h)
  left_end (statement at line (print items)) result l l' n ms typed path h =
      subst (Known n) (sym typed.1) (left_form (print items) result l l' l' n ms typed path h)
  left_end (statement at line (assert test)) result l l' n ms typed path h =
      subst (Known n) (sym typed.1) (left_form (assert test) result l l' l' n ms typed path h)

  -- ---- all second uses

  all_turns : (result : Option ValueKind) (l : Locals) (body : Statements) → StatementsTyped c result l body
      → ((ms : List Occurrence) → Through c l body ms → AllMean ms) → (t : ℕ) (ms : List Occurrence)
      → Turns (λ xs. Through c l body xs) t ms → AllMean ms
  all_turns result l body typed go zero ms e = subst AllMean (sym e) tt
  all_turns result l body typed go (suc t) ms turn =
      subst AllMean (sym turn.4) (all_append turn.0 turn.1 (go turn.0 turn.2)
      (λ n q.
      let known = left_through body result l n turn.0 typed turn.2 q in
      rev_turns n l body (λ xs p. rev_through body result l n xs typed known p) t turn.1 turn.3)
      (all_turns result l body typed go t turn.1 turn.3))

  mutual
    all_through : (s : Statements) (result : Option ValueKind) (l : Locals) (ms : List Occurrence)
        → StatementsTyped c result l s → Through c l s ms → AllMean ms
    all_through no_statements result l ms typed path = subst AllMean (sym path) tt
    all_through (statements x rest) result l ms typed path =
        let on = typed_on x rest result l typed path.0 path.1 path.3 in
        subst AllMean (sym path.5) (all_append path.1 path.2 (all_statement x result l path.0 path.0 path.1 on.0 path.3)
        (λ n q. rev_through rest result path.0 n path.2 on.1 (left_end x result l path.0 n path.1 on.0 path.3 q) path.4)
        (all_through rest result path.0 path.2 on.1 path.4))

    all_statement : (x : Statement) (result : Option ValueKind) (l l' m : Locals) (ms : List Occurrence)
        → StatementTyped c result l x m → StatementThrough c l x l' ms → AllMean ms
    all_statement (statement at line form) result l l' m ms typed path = all_form form result l l' m ms typed path

    all_form : (a : StatementForm) (result : Option ValueKind) (l l' m : Locals) (ms : List Occurrence)
        → StatementFormTyped c result l a m → StatementFormThrough c l a l' ms → AllMean ms
    all_form (bind w r) result l l' m ms typed path =
        subst AllMean (sym path.1)
        (by_right l (Both l) (all_step l) r typed.1.0 typed.1.1 (gets w.text ∷ []) (tt, λ n h d. tt)).0
    all_form (assign w r) result l l' m ms typed path =
        subst AllMean (sym path.1)
        (by_right l (Both l) (all_step l) r typed.0.0 typed.0.2 (gets w.text ∷ []) (tt, λ n h d. tt)).0
    all_form (assign_cell w index e) result l l' m ms typed path = subst AllMean (sym path.1) tt
    all_form (choose arms) result l l' m ms typed path =
        one_of path.1 (λ q. all_arms arms result l ms typed.0 q) (λ e. subst AllMean (sym e) tt)
    all_form (choose_or arms last) result l l' m ms typed path =
        one_of path.1 (λ q. all_arms arms result l ms typed.0.0 q) (λ q. all_through last result l ms typed.0.1 q)
    all_form (repeat test body) result l l' m ms typed path =
        all_turns result l body typed.0.1 (λ xs q. all_through body result l xs typed.0.1 q) path.1.0 ms path.1.1
    all_form (call w args) result l l' m ms typed path =
        subst AllMean (sym path.1) (by_args l (Both l) (all_step l) _ args 0 typed.0.1.2 [] (tt, λ n h. tt)).0
    all_form (return e) result l l' m ms typed path = absurd path
    all_form (fork w args) result l l' m ms typed path =
        subst AllMean (sym path.1) (by_args l (Both l) (all_step l) _ args 0 typed.0.1.2 [] (tt, λ n h. tt)).0
    all_form (join handle) result l l' m ms typed path =
        subst AllMean (sym path.1) (by_use l (Both l) (all_step l) handle k.Rev typed.0 [] (tt, λ n h. tt)).0
    all_form (print items) result l l' m ms typed path = subst AllMean (sym path.1) tt
    all_form (assert test) result l l' m ms typed path = subst AllMean (sym path.1) tt

    all_arms : (all : Arms) (result : Option ValueKind) (l : Locals) (ms : List Occurrence) → ArmsTyped c result l all
        → ArmsThrough c l all ms → AllMean ms
    all_arms no_arms result l ms typed path = absurd path
    all_arms (arm test body rest) result l ms typed (inl path) = all_through body result l ms typed.1 path
    all_arms (arm test body rest) result l ms typed (inr path) = all_arms rest result l ms typed.2 path

  mutual
    all_inside : (s : Statements) (result : Option ValueKind) (l : Locals) (ms : List Occurrence)
        → StatementsTyped c result l s → Inside c l s ms → AllMean ms
    all_inside no_statements result l ms typed path = subst AllMean (sym path) tt
    all_inside (statements x rest) result l ms typed (inl e) = subst AllMean (sym e) tt
    all_inside (statements x rest) result l ms typed (inr (inl path)) =
        all_in_statement x result l typed.0 ms typed.1 path
    all_inside (statements x rest) result l ms typed (inr (inr path)) =
        let on = typed_on x rest result l typed path.0 path.1 path.3 in
        subst AllMean (sym path.5) (all_append path.1 path.2 (all_statement x result l path.0 path.0 path.1 on.0 path.3)
        (λ n q. rev_inside rest result path.0 n path.2 on.1 (left_end x result l path.0 n path.1 on.0 path.3 q) path.4)
        (all_inside rest result path.0 path.2 on.1 path.4))

    all_in_statement : (x : Statement) (result : Option ValueKind) (l m : Locals) (ms : List Occurrence)
        → StatementTyped c result l x m → StatementInside c l x ms → AllMean ms
    all_in_statement (statement at line form) result l m ms typed path = all_in_form form result l m ms typed path

    all_in_form : (a : StatementForm) (result : Option ValueKind) (l m : Locals) (ms : List Occurrence)
        → StatementFormTyped c result l a m → StatementFormInside c l a ms → AllMean ms
    all_in_form (bind w r) result l m ms typed path = absurd path
    all_in_form (assign w r) result l m ms typed path = absurd path
    all_in_form (assign_cell w index e) result l m ms typed path = absurd path
    all_in_form (choose arms) result l m ms typed path = all_in_arms arms result l ms typed.0 path
    all_in_form (choose_or arms last) result l m ms typed path =
        one_of path (λ q. all_in_arms arms result l ms typed.0.0 q) (λ q. all_inside last result l ms typed.0.1 q)
    all_in_form (repeat test body) result l m ms typed path =
        subst AllMean (sym path.5)
        (all_append path.1 path.2
        (all_turns result l body typed.0.1 (λ xs q. all_through body result l xs typed.0.1 q) path.0 path.1 path.3)
        (λ n q. rev_inside body result l n path.2 typed.0.1
        (left_turns n l body (λ xs p i. left_through body result l n xs typed.0.1 p i) path.0 path.1 path.3 q) path.4)
        (all_inside body result l path.2 typed.0.1 path.4))
    all_in_form (call w args) result l m ms typed path = absurd path
    all_in_form (return e) result l m ms typed path =
        subst AllMean (sym path) (by_value l (Both l) (all_step l) result e typed.0 (tt, λ n h. tt)).0
    all_in_form (fork w args) result l m ms typed path = absurd path
    all_in_form (join handle) result l m ms typed path = absurd path
    all_in_form (print items) result l m ms typed path = absurd path
    all_in_form (assert test) result l m ms typed path = absurd path

    all_in_arms : (all : Arms) (result : Option ValueKind) (l : Locals) (ms : List Occurrence)
        → ArmsTyped c result l all → ArmsInside c l all ms → AllMean ms
    all_in_arms no_arms result l ms typed path = absurd path
    all_in_arms (arm test body rest) result l ms typed (inl path) = all_inside body result l ms typed.1 path
    all_in_arms (arm test body rest) result l ms typed (inr path) = all_in_arms rest result l ms typed.2 path

-- ---- programs

body_means : (c : Names) (result : Option ValueKind) (l : Locals) (body : Statements) → StatementsTyped c result l body
    → MeansHandle c l body
body_means c result l body typed at u =
    second_means u.before u.between u.behind u.first u.means u.second (all_inside c body result l _ typed u.path)
    u.same_name u.unchanged

declarations_mean : (c inner : Names) (before es : List Declaration) → DeclarationsTyped c inner before es
    → DeclarationsMeanHandles c es
declarations_mean c inner before [] typed = tt
declarations_mean c inner before (fun w ps r body ∷ es) typed =
    declarations_mean c inner (fun w ps r body ∷ before) es typed.1
declarations_mean c inner before (merge w m j r body ∷ es) typed =
    declarations_mean c inner (merge w m j r body ∷ before) es typed.1
declarations_mean c inner before (shared x ∷ es) typed = declarations_mean c inner (shared x ∷ before) es typed.1
declarations_mean c inner before (proc w ps r body ∷ es) typed = (
  body_means c r (with_params [] ps) body typed.0.body,
  declarations_mean c inner (proc w ps r body ∷ before) es typed.1,
)

pub uses_mean : (x : ProgramTree) → ProgramTyped x → SecondUsesMeanHandles x
uses_mean x typed =
    let c = outside x.declarations in (
      declarations_mean c (within x.declarations) [] x.declarations typed.declarations,
      body_means c None [] x.main typed.main,
    )
