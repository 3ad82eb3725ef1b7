-- The applications of a program are those of the list by which the funs are expanded.
use Rattle.std.proofs.Common.{◌≡◌, inl, inr, ℕ, ◌+◌, Some, None, List, [], ◌∷◌, ◌++◌, map, length, refl, sym, subst, arith}
use Rattle.rev_syntax.specs.Trees.{PlacedName, Expression, placed, ExpressionForm, Expressions, Links, int, bool, no_rev, var, cell, apply, input, inputs, pick, unary, chain, no_expressions, expression, no_links, link, RightSide, plain, called, forked, tried, PrintItem, text, shown, Statement, statement, StatementForm, bind, assign, assign_cell, choose, choose_or, repeat, call, return, fork, join, print, assert, Statements, no_statements, statements, Arms, no_arms, arm, Declaration, fun, merge, shared, proc, ProgramTree}
use Rattle.typed_programs.specs.FunRules.{Use, count, expression_uses, expression_form_uses, expressions_uses, links_uses, right_side_uses, items_uses, statement_uses, statement_form_uses, statements_uses, arms_uses, declaration_uses, declarations_uses, uses_in}
use Rattle.typed_programs.specs.Least.{Among}
use Rattle.typed_programs.proofs.Firsts.{right_among as at_end}
use Rattle.static_rules.specs.Places.{IsBehind, Site, ArmOf, first_arm, later_arm, Lies, in_proc, in_main, next, in_arm, in_else, Stands, expressions_of, parts_of, right_side_expressions, item_expressions, arm_expressions, statement_form_expressions, arms_of, links_of}
use Rattle.static_rules.specs.Funs.{Inside, itself, deeper, Applies, of_fun, of_merge, of_statement}
use Rattle.static_rules.proofs.Blocks.{among_at, behind_by, behind_of, further, longer, no_arm}
use Rattle.static_rules.proofs.Decls.{++-nil, in_front}

-- ---- lists

-- an item of a list
pub record Has {A : Type 0} (xs : List A) (x : A) : Type 0 where
  pub it : Among xs x

pub has_front : {A : Type 0} (xs ys : List A) (x : A) → Has xs x → Has (xs ++ ys) x
has_front xs ys x h = record { it = in_front xs ys x h.it }

pub has_end : {A : Type 0} (xs ys : List A) (x : A) → Has ys x → Has (xs ++ ys) x
has_end xs ys x h = record { it = at_end xs ys x h.it }

-- all applications of a list are such
abbrev AllUse : (Use → Type 0) → List Use → Type 0
AllUse P us = (u : Use) → Among us u → P u

none_use : (P : Use → Type 0) → AllUse P []
none_use P u m = absurd m

both_use : (P : Use → Type 0) (xs ys : List Use) → AllUse P xs → AllUse P ys → AllUse P (xs ++ ys)
both_use P [] ys a b u m = b u m
both_use P (x ∷ xs) ys a b u (inl is) = a u (inl is)
both_use P (x ∷ xs) ys a b u (inr m) = both_use P xs ys (λ v n. a v (inr n)) b u m

cons_use : (P : Use → Type 0) (x : Use) (xs : List Use) → P x → AllUse P xs → AllUse P (x ∷ xs)
cons_use P x xs a b u (inl is) = subst P is a
cons_use P x xs a b u (inr m) = b u m

-- ---- each application of the list stands in the program

-- an application that stands in an expression
record IsIn (n : ℕ) (e : Expression) (u : Use) : Type 0 where
  at : ℕ
  args : Expressions
  inside : Inside e (placed at (apply u.name args))
  counted : count args ≡ u.args
  number : n ≡ u.within

mutual
  expression_in : (n : ℕ) (e x : Expression) → Inside e x → AllUse (IsIn n e) (expression_uses n x)
  expression_in n e (placed at s) i = form_in n e at s i

  form_in : (n : ℕ) (e : Expression) (at : ℕ) (s : ExpressionForm) → Inside e (placed at s)
      → AllUse (IsIn n e) (expression_form_uses n s)
  form_in n e at (int z) i = none_use (IsIn n e)
  form_in n e at (bool b) i = none_use (IsIn n e)
  form_in n e at no_rev i = none_use (IsIn n e)
  form_in n e at (var w) i = none_use (IsIn n e)
  form_in n e at (inputs at') i = none_use (IsIn n e)
  form_in n e at (cell w index) i = expression_in n e index (deeper i (inl refl))
  form_in n e at (apply w args) i =
      cons_use (IsIn n e) _ _ (record { at = at; args = args; inside = i; counted = refl; number = refl })
      (list_in n e args (λ x a. deeper i a))
  form_in n e at (input at' index) i = expression_in n e index (deeper i (inl refl))
  form_in n e at (pick test a b) i =
      both_use (IsIn n e) _ _
      (both_use (IsIn n e) _ _ (expression_in n e test (deeper i (inl refl)))
      (expression_in n e a (deeper i (inr (inl refl)))))
      (expression_in n e b (deeper i (inr (inr (inl refl)))))
  form_in n e at (unary op part) i = expression_in n e part (deeper i (inl refl))
  form_in n e at (chain first rest) i =
      both_use (IsIn n e) _ _ (expression_in n e first (deeper i (inl refl)))
      (chain_in n e rest (λ x a. deeper i (inr a)))

  list_in : (n : ℕ) (e : Expression) (xs : Expressions) → ((x : Expression) → Among (expressions_of xs) x → Inside e x)
      → AllUse (IsIn n e) (expressions_uses n xs)
  list_in n e no_expressions h = none_use (IsIn n e)
  list_in n e (expression x xs) h =
      both_use (IsIn n e) _ _ (expression_in n e x (h x (inl refl))) (list_in n e xs (λ y m. h y (inr m)))

  chain_in : (n : ℕ) (e : Expression) (ls : Links)
      → ((x : Expression) → Among (map (λ l. l.1) (links_of ls)) x → Inside e x) → AllUse (IsIn n e) (links_uses n ls)
  chain_in n e no_links h = none_use (IsIn n e)
  chain_in n e (link op x rest) h =
      both_use (IsIn n e) _ _ (expression_in n e x (h x (inl refl))) (chain_in n e rest (λ y m. h y (inr m)))

module _ (p : ProgramTree) where
  -- an application of the program
  pub record IsApplied (u : Use) : Type 0 where
    pub args : Expressions
    pub applies : Applies p u.within u.name args
    pub counted : count args ≡ u.args

  abbrev all : ℕ
  all = length p.declarations

  abbrev Fine : List Use → Type 0
  Fine us = AllUse IsApplied us

  both : (xs ys : List Use) → Fine xs → Fine ys → Fine (xs ++ ys)
  both = both_use IsApplied

  applied : (n : ℕ) (e : Expression)
      → ((w : PlacedName) (args : Expressions) (at : ℕ) → Inside e (placed at (apply w args)) → Applies p n w args)
      → Fine (expression_uses n e)
  applied n e h u m =
      let g = expression_in n e e itself u m in
      record {
        args = g.args;
        applies = subst (λ k. Applies p k u.name g.args) g.number (h u.name g.args g.at g.inside);
        counted = g.counted;
      }

  -- the expressions of a form are fine
  abbrev FormFine : StatementForm → Type 0
  FormFine form = (e : Expression) → Among (statement_form_expressions form) e → Fine (expression_uses all e)

  form_fine : (i : Site) (form : StatementForm) → Stands p i form → FormFine form
  form_fine i form st e m = applied all e (λ w args at inside. of_statement st m inside)

  fine_list : (xs : Expressions) → ((e : Expression) → Among (expressions_of xs) e → Fine (expression_uses all e))
      → Fine (expressions_uses all xs)
  fine_list no_expressions h = none_use IsApplied
  fine_list (expression x xs) h = both _ _ (h x (inl refl)) (fine_list xs (λ y m. h y (inr m)))

  fine_items : (xs : List PrintItem) → ((e : Expression) → Among (item_expressions xs) e → Fine (expression_uses all e))
      → Fine (items_uses all xs)
  fine_items [] h = none_use IsApplied
  fine_items (text at bytes ∷ xs) h = fine_items xs h
  fine_items (shown x ∷ xs) h = both _ _ (h x (inl refl)) (fine_items xs (λ y m. h y (inr m)))

  fine_right_side : (x : RightSide)
      → ((e : Expression) → Among (right_side_expressions x) e → Fine (expression_uses all e))
      → Fine (right_side_uses all x)
  fine_right_side (plain e) h = h e (inl refl)
  fine_right_side (called at w args) h = fine_list args h
  fine_right_side (forked at w args) h = fine_list args h
  fine_right_side (tried at e) h = h e (inl refl)

  mutual
    fine_statements : (ss : Statements) (i : Site) → Lies p i ss → Fine (statements_uses all ss)
    fine_statements no_statements i o = none_use IsApplied
    fine_statements (statements x rest) i o = both _ _ (fine_statement x rest i o) (fine_statements rest _ (next o))

    fine_statement : (x : Statement) (rest : Statements) (i : Site) → Lies p i (statements x rest)
        → Fine (statement_uses all x)
    fine_statement (statement at line form) rest i o =
        fine_form form i (record { at = at; line = line; rest = rest; lies = o })

    fine_form : (form : StatementForm) (i : Site) → Stands p i form → Fine (statement_form_uses all form)
    fine_form (bind w x) i st = fine_right_side x (form_fine i (bind w x) st)
    fine_form (assign w x) i st = fine_right_side x (form_fine i (assign w x) st)
    fine_form (assign_cell w x e) i st =
        let h = form_fine i (assign_cell w x e) st in both _ _ (h x (inl refl)) (h e (inr (inl refl)))
    fine_form (choose arms) i st = fine_arms arms (form_fine i (choose arms) st) (λ m t b a. (_, in_arm st.lies a))
    fine_form (choose_or arms last) i st =
        both _ _ (fine_arms arms (form_fine i (choose_or arms last) st) (λ m t b a. (_, in_arm st.lies a)))
        (fine_statements last _ (in_else st.lies))
    fine_form (repeat test body) i st =
        both _ _ (form_fine i (repeat test body) st test (inl refl))
        (fine_statements body _ (in_arm st.lies (first_arm test body no_arms)))
    fine_form (call w args) i st = fine_list args (form_fine i (call w args) st)
    fine_form (return None) i st = none_use IsApplied
    fine_form (return (Some e)) i st = form_fine i (return (Some e)) st e (inl refl)
    fine_form (fork w args) i st = fine_list args (form_fine i (fork w args) st)
    fine_form (join e) i st = form_fine i (join e) st e (inl refl)
    fine_form (print xs) i st = fine_items xs (form_fine i (print xs) st)
    fine_form (assert e) i st = form_fine i (assert e) st e (inl refl)

    fine_arms : (arms : Arms) → ((e : Expression) → Among (arm_expressions arms) e → Fine (expression_uses all e))
        → ((m : ℕ) (t : Expression) (b : Statements) → ArmOf arms m t b → (i : Site) × Lies p i b)
        → Fine (arms_uses all arms)
    fine_arms no_arms h g = none_use IsApplied
    fine_arms (arm test body rest) h g =
        let o = g 0 test body (first_arm test body rest) in
        both _ _ (both _ _ (h test (inl refl)) (fine_statements body o.0 o.1))
        (fine_arms rest (λ e m. h e (inr m)) (λ m t b a. g _ t b (later_arm test body a)))

  fine_declaration : (before : List Declaration) (e : Declaration) → IsBehind before e p.declarations
      → Fine (declaration_uses all (length before) e)
  fine_declaration before (fun f ps r body) b = applied (length before) body (λ w args at inside. of_fun b inside)
  fine_declaration before (merge f m j r body) b = applied (length before) body (λ w args at inside. of_merge b inside)
  fine_declaration before (shared x) b = none_use IsApplied
  fine_declaration before (proc w ps r body) b =
      fine_statements body _ (in_proc (record { among = among_at before _ p.declarations b }))

  fine_declarations : (before es : List Declaration) (d : ℕ) → d ≡ length before → p.declarations ≡ before ++ es
      → Fine (declarations_uses all d es)
  fine_declarations before [] d is e = none_use IsApplied
  fine_declarations before (x ∷ es) d is e =
      both _ _ (subst (λ k. Fine (declaration_uses all k x)) (sym is)
      (fine_declaration before x (behind_by before x es p.declarations e)))
      (fine_declarations (before ++ x ∷ []) es (d + 1) (let h = longer before x in omega arith)
      (further p.declarations before x es e))

  pub each_applied : (u : Use) → Among (uses_in p) u → IsApplied u
  each_applied = both _ _ (fine_declarations [] p.declarations 0 refl refl) (fine_statements p.main _ in_main)

-- ---- each application of the program is in the list

-- the applications of one list are in another
abbrev In : List Use → List Use → Type 0
In xs ys = (u : Use) → Has xs u → Has ys u

same_uses : (n : ℕ) (x y : Expression) → x ≡ y → In (expression_uses n y) (expression_uses n x)
same_uses n x y is u h = subst (λ e. Has (expression_uses n e) u) (sym is) h

uses_in_list : (n : ℕ) (xs : Expressions) (x : Expression) → Among (expressions_of xs) x
    → In (expression_uses n x) (expressions_uses n xs)
uses_in_list n no_expressions x m u h = absurd m
uses_in_list n (expression y xs) x (inl is) u h = has_front _ _ u (same_uses n y x is u h)
uses_in_list n (expression y xs) x (inr m) u h = has_end (expression_uses n y) _ u (uses_in_list n xs x m u h)

uses_in_chain : (n : ℕ) (ls : Links) (x : Expression) → Among (map (λ l. l.1) (links_of ls)) x
    → In (expression_uses n x) (links_uses n ls)
uses_in_chain n no_links x m u h = absurd m
uses_in_chain n (link op y rest) x (inl is) u h = has_front _ _ u (same_uses n y x is u h)
uses_in_chain n (link op y rest) x (inr m) u h = has_end (expression_uses n y) _ u (uses_in_chain n rest x m u h)

uses_in_part : (n : ℕ) (s : ExpressionForm) (x : Expression) → Among (parts_of s) x
    → In (expression_uses n x) (expression_form_uses n s)
uses_in_part n (int z) x m u h = absurd m
uses_in_part n (bool b) x m u h = absurd m
uses_in_part n no_rev x m u h = absurd m
uses_in_part n (var w) x m u h = absurd m
uses_in_part n (inputs at) x m u h = absurd m
uses_in_part n (cell w y) x (inl is) u h = same_uses n y x is u h
uses_in_part n (cell w y) x (inr m) u h = absurd m
uses_in_part n (apply w args) x m u h =
    has_end (record { name = w; args = count args; within = n } ∷ []) _ u (uses_in_list n args x m u h)
uses_in_part n (input at y) x (inl is) u h = same_uses n y x is u h
uses_in_part n (input at y) x (inr m) u h = absurd m
uses_in_part n (pick t a b) x (inl is) u h =
    has_front _ _ u (has_front _ (expression_uses n a) u (same_uses n t x is u h))
uses_in_part n (pick t a b) x (inr (inl is)) u h =
    has_front _ _ u (has_end (expression_uses n t) _ u (same_uses n a x is u h))
uses_in_part n (pick t a b) x (inr (inr (inl is))) u h =
    has_end (expression_uses n t ++ expression_uses n a) _ u (same_uses n b x is u h)
uses_in_part n (pick t a b) x (inr (inr (inr m))) u h = absurd m
uses_in_part n (unary op y) x (inl is) u h = same_uses n y x is u h
uses_in_part n (unary op y) x (inr m) u h = absurd m
uses_in_part n (chain y rest) x (inl is) u h = has_front _ _ u (same_uses n y x is u h)
uses_in_part n (chain y rest) x (inr m) u h = has_end (expression_uses n y) _ u (uses_in_chain n rest x m u h)

uses_inside : (n : ℕ) (e : Expression) {x : Expression} → Inside e x → In (expression_uses n x) (expression_uses n e)
uses_inside n e itself u h = h
uses_inside n e (deeper {at = at} {s = s} {x = x} i m) u h = uses_inside n e i u (uses_in_part n s x m u h)

-- the application itself
use_inside : (n : ℕ) (e : Expression) (at : ℕ) (w : PlacedName) (args : Expressions)
    → Inside e (placed at (apply w args))
    → Has (expression_uses n e) (record { name = w; args = count args; within = n })
use_inside n e at w args i = uses_inside n e i _ (record { it = inl refl })

uses_in_items : (n : ℕ) (xs : List PrintItem) (x : Expression) → Among (item_expressions xs) x
    → In (expression_uses n x) (items_uses n xs)
uses_in_items n [] x m u h = absurd m
uses_in_items n (text at bytes ∷ xs) x m u h = uses_in_items n xs x m u h
uses_in_items n (shown y ∷ xs) x (inl is) u h = has_front _ _ u (same_uses n y x is u h)
uses_in_items n (shown y ∷ xs) x (inr m) u h = has_end (expression_uses n y) _ u (uses_in_items n xs x m u h)

uses_in_right_side : (n : ℕ) (r : RightSide) (x : Expression) → Among (right_side_expressions r) x
    → In (expression_uses n x) (right_side_uses n r)
uses_in_right_side n (plain y) x (inl is) u h = same_uses n y x is u h
uses_in_right_side n (plain y) x (inr m) u h = absurd m
uses_in_right_side n (called at w args) x m u h = uses_in_list n args x m u h
uses_in_right_side n (forked at w args) x m u h = uses_in_list n args x m u h
uses_in_right_side n (tried at y) x (inl is) u h = same_uses n y x is u h
uses_in_right_side n (tried at y) x (inr m) u h = absurd m

uses_in_tests : (n : ℕ) (arms : Arms) (x : Expression) → Among (arm_expressions arms) x
    → In (expression_uses n x) (arms_uses n arms)
uses_in_tests n no_arms x m u h = absurd m
uses_in_tests n (arm t body rest) x (inl is) u h =
    has_front _ _ u (has_front _ (statements_uses n body) u (same_uses n t x is u h))
uses_in_tests n (arm t body rest) x (inr m) u h =
    has_end (expression_uses n t ++ statements_uses n body) _ u (uses_in_tests n rest x m u h)

uses_in_form : (n : ℕ) (form : StatementForm) (x : Expression) → Among (statement_form_expressions form) x
    → In (expression_uses n x) (statement_form_uses n form)
uses_in_form n (bind w r) x m u h = uses_in_right_side n r x m u h
uses_in_form n (assign w r) x m u h = uses_in_right_side n r x m u h
uses_in_form n (assign_cell w i e) x (inl is) u h = has_front _ _ u (same_uses n i x is u h)
uses_in_form n (assign_cell w i e) x (inr (inl is)) u h = has_end (expression_uses n i) _ u (same_uses n e x is u h)
uses_in_form n (assign_cell w i e) x (inr (inr m)) u h = absurd m
uses_in_form n (choose arms) x m u h = uses_in_tests n arms x m u h
uses_in_form n (choose_or arms last) x m u h = has_front _ _ u (uses_in_tests n arms x m u h)
uses_in_form n (repeat t body) x (inl is) u h = has_front _ _ u (same_uses n t x is u h)
uses_in_form n (repeat t body) x (inr m) u h = absurd m
uses_in_form n (call w args) x m u h = uses_in_list n args x m u h
uses_in_form n (return None) x m u h = absurd m
uses_in_form n (return (Some y)) x (inl is) u h = same_uses n y x is u h
uses_in_form n (return (Some y)) x (inr m) u h = absurd m
uses_in_form n (fork w args) x m u h = uses_in_list n args x m u h
uses_in_form n (join y) x (inl is) u h = same_uses n y x is u h
uses_in_form n (join y) x (inr m) u h = absurd m
uses_in_form n (print xs) x m u h = uses_in_items n xs x m u h
uses_in_form n (assert y) x (inl is) u h = same_uses n y x is u h
uses_in_form n (assert y) x (inr m) u h = absurd m

uses_in_arm : (n : ℕ) {arms : Arms} {m : ℕ} {t : Expression} {b : Statements} → ArmOf arms m t b
    → In (statements_uses n b) (arms_uses n arms)
uses_in_arm n (first_arm t b rest) u h = has_front _ (arms_uses n rest) u (has_end (expression_uses n t) _ u h)
uses_in_arm n (later_arm t' s {rest = rest} a) u h =
    has_end (expression_uses n t' ++ statements_uses n s) (arms_uses n rest) u (uses_in_arm n a u h)

uses_in_block : (n : ℕ) (form : StatementForm) {m : ℕ} {t : Expression} {b : Statements} → ArmOf (arms_of form) m t b
    → In (statements_uses n b) (statement_form_uses n form)
uses_in_block n (choose arms) a u h = uses_in_arm n a u h
uses_in_block n (choose_or arms last) a u h = has_front _ _ u (uses_in_arm n a u h)
uses_in_block n (repeat t body) a u h =
    subst (λ xs. Has xs u) (++-nil (expression_uses n t ++ statements_uses n body)) (uses_in_arm n a u h)
uses_in_block n (bind w x) a u h = absurd (no_arm a)
uses_in_block n (assign w x) a u h = absurd (no_arm a)
uses_in_block n (assign_cell w i e) a u h = absurd (no_arm a)
uses_in_block n (call w args) a u h = absurd (no_arm a)
uses_in_block n (return e) a u h = absurd (no_arm a)
uses_in_block n (fork w args) a u h = absurd (no_arm a)
uses_in_block n (join e) a u h = absurd (no_arm a)
uses_in_block n (print xs) a u h = absurd (no_arm a)
uses_in_block n (assert e) a u h = absurd (no_arm a)

uses_behind : (n d : ℕ) (before : List Declaration) (e : Declaration) (rest : List Declaration)
    → In (declaration_uses n (d + length before) e) (declarations_uses n d (before ++ e ∷ rest))
uses_behind n d [] e rest u h =
    has_front _ _ u (subst (λ k. Has (declaration_uses n k e) u) (let z : d + 0 ≡ d = omega arith in z) h)
uses_behind n d (x ∷ before) e rest u h =
    has_end (declaration_uses n d x) _ u (uses_behind n (d + 1) before e rest u
    (subst (λ k. Has (declaration_uses n k e) u)
    (let z : d + length (x ∷ before) ≡ d + 1 + length before = omega arith in z) h))

module _ (p : ProgramTree) where
  abbrev every : ℕ
  every = length p.declarations

  uses_at : (before : List Declaration) (e : Declaration) → IsBehind before e p.declarations
      → In (declaration_uses every (length before) e) (uses_in p)
  uses_at before e b u h =
      has_front _ _ u
      (subst (λ es. Has (declarations_uses every 0 es) u) (sym b.parts) (uses_behind every 0 before e b.rest u
      (subst (λ k. Has (declaration_uses every k e) u) (let z : length before ≡ 0 + length before = omega arith in z)
      h)))

  uses_of_block : {i : Site} {ss : Statements} → Lies p i ss → In (statements_uses every ss) (uses_in p)
  uses_of_block (in_proc {w = w} {ps = ps} {r = r} {body = body} d) u h =
      let g = behind_of p.declarations (proc w ps r body) d.among in uses_at g.0 (proc w ps r body) g.1 u h
  uses_of_block in_main u h = has_end _ _ u h
  uses_of_block (next {s = s} {rest = rest} o) u h = uses_of_block o u (has_end (statement_uses every s) _ u h)
  uses_of_block (in_arm {at = at} {line = line} {form = form} {rest = rest} o a) u h =
      uses_of_block o u (has_front _ _ u (uses_in_block every form a u h))
  uses_of_block (in_else {at = at} {line = line} {arms = arms} {last = last} {rest = rest} o) u h =
      uses_of_block o u (has_front _ _ u (has_end (arms_uses every arms) _ u h))

  pub use_applied : {n : ℕ} {w : PlacedName} {args : Expressions} → Applies p n w args
      → Has (uses_in p) (record { name = w; args = count args; within = n })
  use_applied (of_fun {before = before} {f = f} {ps = ps} {r = r} {body = body} {at = at} {w = w} {args = args} b i) =
      uses_at before (fun f ps r body) b _ (use_inside (length before) body at w args i)
  use_applied
      (of_merge {before = before} {f = f} {m = m} {j = j} {r = r} {body = body} {at = at} {w = w} {args = args} b i) =
      uses_at before (merge f m j r body) b _ (use_inside (length before) body at w args i)
  use_applied (of_statement {form = form} {e = e} {at = at} {w = w} {args = args} st m i) =
      uses_of_block st.lies _ (has_front _ _ _ (uses_in_form every form e m _ (use_inside every e at w args i)))
