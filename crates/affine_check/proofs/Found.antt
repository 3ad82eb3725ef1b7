-- The checker finds the copies and the stores, and besides them what the trails of handles have.
use Rattle.std.proofs.Common.{◌≡◌, ◌∙◌, ℕ, Bool, true, false, cond, ◌&&◌, ◌||◌, Option, Some, None, List, [], ◌∷◌, ◌++◌, refl, sym, ap, arith}
use Rattle.rev_num.specs.declared.value.ValueKind.{ValueKind}
use Rattle.rev_num.specs.declared.value.ValueKind.TheVariants as k
use Rattle.rev_syntax.specs.Trees.{PlacedName, Expression, placed, ExpressionForm, int, bool, no_rev, var, cell, apply, input, inputs, pick, unary, chain, Expressions, no_expressions, expression, Links, no_links, link, RightSide, plain, called, forked, tried, PrintItem, text, shown, Statement, statement, StatementForm, bind, assign, assign_cell, choose, choose_or, repeat, call, return, fork, join, print, assert, Statements, no_statements, statements, Arms, no_arms, arm}
use Rattle.name_tables.specs.Table.{find}
use Rattle.typed_programs.specs.declared.names.Holder.{Holder}
use Rattle.typed_programs.specs.Kinds.{Names, Locals}
use Rattle.typed_programs.specs.Scopes.{locals_after, bound}
use Rattle.affine_check.specs.Live.{statement_passes}
use Rattle.affine_check.specs.SecondUses.{if_rev}
use Rattle.affine_check.specs.Places.{if_stores, names_in, expression_form_names, expressions_names, links_names, pick_names, expression_form_pick_names, expressions_pick_names, links_pick_names, right_side_copies, items_copies, value_copies, copies, statement_copies, statement_form_copies, arms_copies, name_stores, stores, statement_stores, statement_form_stores, arms_stores}
use Rattle.affine_check.specs.declared.fault.AffineFault.TheVariants.{Copied, Stored}
use Rattle.affine_check.specs.Walk.{Fault, both, when, is_handle, copied, copied_form, copied_args, copied_links, copied_right, copied_value, copied_items, stored_in, stored, misused, broken_statement, broken_form, broken_in, broken_arms}
use Rattle.affine_check.proofs.Bounds.{or-assoc, or-false, upto, meets, any, any-append, meets-both}

module _ (last_place last_rank : ℕ) where
  abbrev found_at : Fault → Bool
  found_at f = meets last_place last_rank f

  abbrev pub copy : List ℕ → Bool
  copy ps = any last_place last_rank (λ at. Copied at) ps

  abbrev pub store : List ℕ → Bool
  store ps = any last_place last_rank (λ at. Stored at) ps

  copy-append : (xs ys : List ℕ) → copy (xs ++ ys) ≡ (copy xs || copy ys)
  copy-append xs ys = any-append last_place last_rank (λ at. Copied at) xs ys

  store-append : (xs ys : List ℕ) → store (xs ++ ys) ≡ (store xs || store ys)
  store-append xs ys = any-append last_place last_rank (λ at. Stored at) xs ys

  -- ---- expressions

  name_copied : (m : Option (Option ValueKind)) (at : ℕ)
      → found_at (cond (is_handle m) (Some (Copied at)) None) ≡ copy (if_rev m (at ∷ []))
  name_copied None at = refl
  name_copied (Some None) at = refl
  name_copied (Some (Some k.Int)) at = refl
  name_copied (Some (Some k.Bool)) at = refl
  name_copied (Some (Some k.Rev)) at = sym (or-false (upto last_place last_rank (Copied at)))

  after : (f : Fault) (a : Fault) (b c : Bool) → found_at a ≡ b → (found_at (both f a) || c) ≡ (found_at f || (b || c))
  after f a b c e =
      ap (λ d. d || c) (meets-both last_place last_rank f a ∙ ap (λ d. found_at f || d) e) ∙ or-assoc (found_at f) b c

  parts : (l : Locals) (test x y : Expression) → found_at (copied l true test) ≡ copy (names_in l test)
      → found_at (copied l true x) ≡ copy (names_in l x) → found_at (copied l true y) ≡ copy (names_in l y)
      → found_at (both (copied l true test) (both (copied l true x) (copied l true y)))
      ≡ copy (names_in l test ++ (names_in l x ++ names_in l y))
  parts l test x y p q r =
      meets-both last_place last_rank (copied l true test) (both (copied l true x) (copied l true y))
      ∙ ap (λ b. found_at (copied l true test) || b)
      (meets-both last_place last_rank (copied l true x) (copied l true y))
      ∙ (λ i. p i || (q i || r i))
      ∙ ap (λ b. copy (names_in l test) || b) (sym (copy-append (names_in l x) (names_in l y)))
      ∙ sym (copy-append (names_in l test) (names_in l x ++ names_in l y))

  mutual
    names : (l : Locals) (x : Expression) → found_at (copied l true x) ≡ copy (names_in l x)
    names l (placed at s) = form_names l s

    form_names : (l : Locals) (x : ExpressionForm) → found_at (copied_form l true x) ≡ copy (expression_form_names l x)
    form_names l (int z) = refl
    form_names l (bool x) = refl
    form_names l no_rev = refl
    form_names l (var w) = name_copied (find w.text l) w.at
    form_names l (cell w index) = names l index
    form_names l (apply w args) = args_names l None args
    form_names l (input at index) = names l index
    form_names l (inputs at) = refl
    form_names l (pick test x y) = parts l test x y (names l test) (names l x) (names l y)
    form_names l (unary op e) = names l e
    form_names l (chain first rest) =
        links_names_found l (copied l true first) rest ∙ ap (λ b. b || copy (links_names l rest)) (names l first)
        ∙ sym (copy-append (names_in l first) (links_names l rest))

    args_names : (l : Locals) (f : Fault) (xs : Expressions)
        → found_at (copied_args l true f xs) ≡ (found_at f || copy (expressions_names l xs))
    args_names l f no_expressions = sym (or-false (found_at f))
    args_names l f (expression x xs) =
        args_names l (both f (copied l true x)) xs
        ∙ after f (copied l true x) (copy (names_in l x)) (copy (expressions_names l xs)) (names l x)
        ∙ ap (λ b. found_at f || b) (sym (copy-append (names_in l x) (expressions_names l xs)))

    links_names_found : (l : Locals) (f : Fault) (xs : Links)
        → found_at (copied_links l true f xs) ≡ (found_at f || copy (links_names l xs))
    links_names_found l f no_links = sym (or-false (found_at f))
    links_names_found l f (link op x rest) =
        links_names_found l (both f (copied l true x)) rest
        ∙ after f (copied l true x) (copy (names_in l x)) (copy (links_names l rest)) (names l x)
        ∙ ap (λ b. found_at f || b) (sym (copy-append (names_in l x) (links_names l rest)))

  mutual
    picks : (l : Locals) (x : Expression) → found_at (copied l false x) ≡ copy (pick_names l x)
    picks l (placed at s) = form_picks l s

    form_picks : (l : Locals) (x : ExpressionForm)
        → found_at (copied_form l false x) ≡ copy (expression_form_pick_names l x)
    form_picks l (int z) = refl
    form_picks l (bool x) = refl
    form_picks l no_rev = refl
    form_picks l (var w) = refl
    form_picks l (cell w index) = picks l index
    form_picks l (apply w args) = args_picks l None args
    form_picks l (input at index) = picks l index
    form_picks l (inputs at) = refl
    form_picks l (pick test x y) = parts l test x y (names l test) (names l x) (names l y)
    form_picks l (unary op e) = picks l e
    form_picks l (chain first rest) =
        links_picks l (copied l false first) rest ∙ ap (λ b. b || copy (links_pick_names l rest)) (picks l first)
        ∙ sym (copy-append (pick_names l first) (links_pick_names l rest))

    args_picks : (l : Locals) (f : Fault) (xs : Expressions)
        → found_at (copied_args l false f xs) ≡ (found_at f || copy (expressions_pick_names l xs))
    args_picks l f no_expressions = sym (or-false (found_at f))
    args_picks l f (expression x xs) =
        args_picks l (both f (copied l false x)) xs
        ∙ after f (copied l false x) (copy (pick_names l x)) (copy (expressions_pick_names l xs)) (picks l x)
        ∙ ap (λ b. found_at f || b) (sym (copy-append (pick_names l x) (expressions_pick_names l xs)))

    links_picks : (l : Locals) (f : Fault) (xs : Links)
        → found_at (copied_links l false f xs) ≡ (found_at f || copy (links_pick_names l xs))
    links_picks l f no_links = sym (or-false (found_at f))
    links_picks l f (link op x rest) =
        links_picks l (both f (copied l false x)) rest
        ∙ after f (copied l false x) (copy (pick_names l x)) (copy (links_pick_names l rest)) (picks l x)
        ∙ ap (λ b. found_at f || b) (sym (copy-append (pick_names l x) (links_pick_names l rest)))

  rights : (l : Locals) (r : RightSide) → found_at (copied_right l r) ≡ copy (right_side_copies l r)
  rights l (plain e) = names l e
  rights l (called at w args) = args_picks l None args
  rights l (forked at w args) = args_picks l None args
  rights l (tried at handle) = picks l handle

  values : (l : Locals) (e : Option Expression) → found_at (copied_value l e) ≡ copy (value_copies l e)
  values l None = refl
  values l (Some e) = picks l e

  items_found : (l : Locals) (f : Fault) (xs : List PrintItem)
      → found_at (copied_items l f xs) ≡ (found_at f || copy (items_copies l xs))
  items_found l f [] = sym (or-false (found_at f))
  items_found l f (text at bytes ∷ xs) =
      items_found l (both f None) xs
      ∙ ap (λ b. b || copy (items_copies l xs)) (meets-both last_place last_rank f None ∙ or-false (found_at f))
  items_found l f (shown e ∷ xs) =
      items_found l (both f (copied l false e)) xs
      ∙ after f (copied l false e) (copy (pick_names l e)) (copy (items_copies l xs)) (picks l e)
      ∙ ap (λ b. found_at f || b) (sym (copy-append (pick_names l e) (items_copies l xs)))

  store_found : (w : PlacedName) (m : Option Holder) → found_at (stored_in w m) ≡ store (if_stores m (w.at ∷ []))
  store_found w None = refl
  store_found w (Some h) = by h.kind
    where
      by : (a : ValueKind)
          → found_at (when (is_handle (Some (Some a))) (Stored w.at)) ≡ store (if_rev (Some (Some a)) (w.at ∷ []))
      by k.Int = refl
      by k.Bool = refl
      by k.Rev = sym (or-false (upto last_place last_rank (Stored w.at)))

  -- ---- statements

  -- what the trails of the handles find that are bound in statements
  abbrev mutual
    pub handles : Names → Locals → Bool → Statements → Bool
    handles c l first no_statements = false
    handles c l first (statements x rest) =
        handles_statement c l first rest x || handles c (locals_after c l x) (first && statement_passes x) rest

    pub handles_statement : Names → Locals → Bool → Statements → Statement → Bool
    handles_statement c l first rest (statement at line form) = handles_form c l first rest form

    pub handles_form : Names → Locals → Bool → Statements → StatementForm → Bool
    handles_form c l first rest (bind w r) = found_at (misused first (find w.text (bound c l w r)) w.text rest)
    handles_form c l first rest (assign w r) = false
    handles_form c l first rest (assign_cell w index e) = false
    handles_form c l first rest (choose arms) = handles_arms c l first arms
    handles_form c l first rest (choose_or arms last) = handles_arms c l first arms || handles c l first last
    handles_form c l first rest (repeat test body) = handles c l first body
    handles_form c l first rest (call w args) = false
    handles_form c l first rest (return e) = false
    handles_form c l first rest (fork w args) = false
    handles_form c l first rest (join handle) = false
    handles_form c l first rest (print items) = false
    handles_form c l first rest (assert test) = false

    pub handles_arms : Names → Locals → Bool → Arms → Bool
    handles_arms c l first no_arms = false
    handles_arms c l first (arm test body rest) = handles c l first body || handles_arms c l first rest

  only : (a : Bool) → a ≡ ((a || false) || false)
  only a = grind arith

  -- found, and copies, stores and handles of two parts
  two : (a b s t h g : Bool) → (((a || s) || h) || ((b || t) || g)) ≡ (((a || b) || (s || t)) || (h || g))
  two a b s t h g = grind arith

  behind : (f a s h b t g : Bool)
      → ((f || ((a || s) || h)) || ((b || t) || g)) ≡ (f || (((a || b) || (s || t)) || (h || g)))
  behind f a s h b t g = grind arith

  mutual
    pub broken_is : (c : Names) (l : Locals) (first : Bool) (f : Fault) (xs : Statements)
        → found_at (broken_in c l first f xs)
        ≡ (found_at f || ((copy (copies c l xs) || store (stores c xs)) || handles c l first xs))
    broken_is c l first f no_statements = sym (or-false (found_at f))
    broken_is c l first f (statements x rest) =
        broken_is c (locals_after c l x) (first && statement_passes x) (both f (broken_statement c l first rest x)) rest
        ∙ ap (λ b.
        b
        || ((copy (copies c (locals_after c l x) rest) || store (stores c rest))
        || handles c (locals_after c l x) (first && statement_passes x) rest))
        (meets-both last_place last_rank f (broken_statement c l first rest x)
        ∙ ap (λ b. found_at f || b) (statement_is c l first rest x))
        ∙ behind (found_at f) (copy (statement_copies c l x)) (store (statement_stores c x))
        (handles_statement c l first rest x) (copy (copies c (locals_after c l x) rest)) (store (stores c rest))
        (handles c (locals_after c l x) (first && statement_passes x) rest)
        ∙ (λ i. found_at f
        || ((sym (copy-append (statement_copies c l x) (copies c (locals_after c l x) rest)) i
        || sym (store-append (statement_stores c x) (stores c rest)) i)
        || (handles_statement c l first rest x || handles c (locals_after c l x) (first && statement_passes x) rest)))

    statement_is : (c : Names) (l : Locals) (first : Bool) (rest : Statements) (x : Statement)
        → found_at (broken_statement c l first rest x)
        ≡ ((copy (statement_copies c l x) || store (statement_stores c x)) || handles_statement c l first rest x)
    statement_is c l first rest (statement at line form) = form_is c l first rest form

    form_is : (c : Names) (l : Locals) (first : Bool) (rest : Statements) (x : StatementForm)
        → found_at (broken_form c l first rest x)
        ≡ ((copy (statement_form_copies c l x) || store (statement_form_stores c x)) || handles_form c l first rest x)
    form_is c l first rest (bind w r) =
        meets-both last_place last_rank (copied_right l r) (misused first (find w.text (bound c l w r)) w.text rest)
        ∙ ap (λ b. b || found_at (misused first (find w.text (bound c l w r)) w.text rest))
        (rights l r ∙ sym (or-false (copy (right_side_copies l r))))
    form_is c l first rest (assign w r) =
        meets-both last_place last_rank (stored c w) (copied_right l r)
        ∙ (λ i. store_found w (c.shared w.text) i || rights l r i)
        ∙ swap (store (name_stores c w)) (copy (right_side_copies l r))
      where
        swap : (s a : Bool) → (s || a) ≡ ((a || s) || false)
        swap s a = grind arith
    form_is c l first rest (assign_cell w index e) =
        meets-both last_place last_rank (stored c w) (both (copied l false index) (copied l false e))
        ∙ (λ i. store_found w (c.shared w.text) i
        || meets-both last_place last_rank (copied l false index) (copied l false e) i)
        ∙ (λ i. store (name_stores c w) || (picks l index i || picks l e i))
        ∙ ap (λ b. store (name_stores c w) || b) (sym (copy-append (pick_names l index) (pick_names l e)))
        ∙ swap (store (name_stores c w)) (copy (pick_names l index ++ pick_names l e))
      where
        swap : (s a : Bool) → (s || a) ≡ ((a || s) || false)
        swap s a = grind arith
    form_is c l first rest (choose arms) = arms_are c l first None arms
    form_is c l first rest (choose_or arms last) =
        meets-both last_place last_rank (broken_arms c l first None arms) (broken_in c l first None last)
        ∙ (λ i. arms_are c l first None arms i || broken_is c l first None last i)
        ∙ two (copy (arms_copies c l arms)) (copy (copies c l last)) (store (arms_stores c arms))
        (store (stores c last)) (handles_arms c l first arms) (handles c l first last)
        ∙ (λ i. (sym (copy-append (arms_copies c l arms) (copies c l last)) i
        || sym (store-append (arms_stores c arms) (stores c last)) i)
        || (handles_arms c l first arms || handles c l first last))
    form_is c l first rest (repeat test body) =
        meets-both last_place last_rank (copied l false test) (broken_in c l first None body)
        ∙ (λ i. picks l test i || broken_is c l first None body i)
        ∙ regroup (copy (pick_names l test)) (copy (copies c l body)) (store (stores c body)) (handles c l first body)
        ∙ ap (λ b. (b || store (stores c body)) || handles c l first body)
        (sym (copy-append (pick_names l test) (copies c l body)))
      where
        regroup : (a b s h : Bool) → (a || ((b || s) || h)) ≡ (((a || b) || s) || h)
        regroup a b s h = grind arith
    form_is c l first rest (call w args) = args_picks l None args ∙ only (copy (expressions_pick_names l args))
    form_is c l first rest (return e) = values l e ∙ only (copy (value_copies l e))
    form_is c l first rest (fork w args) = args_picks l None args ∙ only (copy (expressions_pick_names l args))
    form_is c l first rest (join handle) = picks l handle ∙ only (copy (pick_names l handle))
    form_is c l first rest (print items) = items_found l None items ∙ only (copy (items_copies l items))
    form_is c l first rest (assert test) = picks l test ∙ only (copy (pick_names l test))

    arms_are : (c : Names) (l : Locals) (first : Bool) (f : Fault) (xs : Arms)
        → found_at (broken_arms c l first f xs)
        ≡ (found_at f || ((copy (arms_copies c l xs) || store (arms_stores c xs)) || handles_arms c l first xs))
    arms_are c l first f no_arms = sym (or-false (found_at f))
    arms_are c l first f (arm test body rest) =
        arms_are c l first (both f (both (copied l false test) (broken_in c l first None body))) rest
        ∙ ap (λ b. b || ((copy (arms_copies c l rest) || store (arms_stores c rest)) || handles_arms c l first rest))
        (meets-both last_place last_rank f (both (copied l false test) (broken_in c l first None body))
        ∙ ap (λ b. found_at f || b)
        (meets-both last_place last_rank (copied l false test) (broken_in c l first None body)
        ∙ (λ i. picks l test i || broken_is c l first None body i)
        ∙ regroup (copy (pick_names l test)) (copy (copies c l body)) (store (stores c body)) (handles c l first body)))
        ∙ behind (found_at f) (copy (pick_names l test) || copy (copies c l body)) (store (stores c body))
        (handles c l first body) (copy (arms_copies c l rest)) (store (arms_stores c rest))
        (handles_arms c l first rest)
        ∙ (λ i. found_at f
        || ((whole i || sym (store-append (stores c body) (arms_stores c rest)) i)
        || (handles c l first body || handles_arms c l first rest)))
      where
        regroup : (a b s h : Bool) → (a || ((b || s) || h)) ≡ (((a || b) || s) || h)
        regroup a b s h = grind arith

        whole : ((copy (pick_names l test) || copy (copies c l body)) || copy (arms_copies c l rest))
            ≡ copy (pick_names l test ++ (copies c l body ++ arms_copies c l rest))
        whole = or-assoc (copy (pick_names l test)) (copy (copies c l body)) (copy (arms_copies c l rest))
            ∙ ap (λ b. copy (pick_names l test) || b) (sym (copy-append (copies c l body) (arms_copies c l rest)))
            ∙ sym (copy-append (pick_names l test) (copies c l body ++ arms_copies c l rest))
