-- The trail of a handle finds the second uses and the uses in a loop.
use Rattle.std.proofs.Common.{◌≡◌, ◌∙◌, ℕ, Bool, true, false, cond, ◌&&◌, ◌||◌, Option, Some, None, List, [], ◌∷◌, ◌++◌, refl, sym, ap, arith, append_assoc}
use Rattle.std.specs.Prelude.{if◌then◌else◌}
use Rattle.rev_syntax.specs.Trees.{PlacedName, Expression, placed, int, bool, no_rev, var, cell, apply, input, inputs, pick, unary, chain, Expressions, no_expressions, expression, RightSide, plain, called, forked, tried, Statement, statement, StatementForm, bind, assign, assign_cell, choose, choose_or, repeat, call, return, fork, join, print, assert, Statements, no_statements, statements, Arms, no_arms, arm}
use Rattle.name_tables.specs.Names.{Name, same}
use Rattle.affine_check.specs.Live.{or, passes, statement_passes, statement_form_passes, arms_pass}
use Rattle.affine_check.specs.SecondUses.{expression_places, expressions_places, right_side_places, value_places, ahead, statement_ahead, statement_form_ahead, arms_ahead}
use Rattle.affine_check.specs.declared.fault.AffineFault.TheVariants.{UsedTwice, InLoop}
use Rattle.affine_check.specs.declared.trail.Trail.{Trail}
use Rattle.affine_check.specs.Walk.{Fault, both, when, start, used_at, renewed, ended, met, turning, turned, named, trail_args, trail_right, trail_value, trail_gets, trail, trail_statement, trail_form, trail_arms}
use Rattle.affine_check.proofs.Bounds.{or-assoc, or-false, upto, meets, any, any-append, meets-both, meets-when}

-- ---- tests

is_or : (a b : Bool) → or a b ≡ (a || b)
is_or true b = refl
is_or false b = refl

and-true : (a : Bool) → (a && true) ≡ a
and-true true = refl
and-true false = refl

no_step : (f u r l : Bool) → (f || (u && l)) ≡ ((f || false) || ((r && false) || (u && l)))
no_step f u r l = grind arith

use_step : (f u r l i s g : Bool)
    → ((f || ((u && s) || (i && g))) || ((u || r) && l)) ≡ ((f || (i && g)) || ((r && l) || (u && (s || l))))
use_step f u r l i s g = grind arith

ahead_step : (a o s l : Bool) → ((a || (o && s)) || (o && l)) ≡ (a || (o && (s || l)))
ahead_step a o s l = grind arith

value_step : (f u r : Bool) → (f || false) ≡ ((f || false) || ((r && false) || (u && false)))
value_step f u r = grind arith

ended_step : (f u r i s g : Bool)
    → ((f || ((u && s) || (i && g))) || false) ≡ ((f || (i && g)) || ((r && false) || (u && (s || false))))
ended_step f u r i s g = grind arith

then_step : (f l m r p g h b : Bool)
    → (((f || l) || ((r && g) || b)) || (m || ((r && p) && h))) ≡ ((f || (l || m)) || ((r && (g || (p && h))) || b))
then_step f l m r p g h b = grind arith

then_first : (su m rh bu : Bool) → ((su || m) || (rh || bu)) ≡ ((su || bu) || (m || rh))
then_first su m rh bu = grind arith

met_step : (f g u w l : Bool) → ((f || g) || ((u || w) && l)) ≡ ((f || (u && l)) || (g || (w && l)))
met_step f g u w l = grind arith

arm_ahead : (t o a b : Bool) → ((t || (o && a)) || (t || (o && b))) ≡ (t || (o && (a || b)))
arm_ahead t o a b = grind arith

arm_found : (f l m r g h u a b : Bool)
    → (((f || l) || ((r && g) || (u && a))) || ((f || m) || ((r && h) || (u && b))))
    ≡ ((f || (l || m)) || ((r && (g || h)) || (u && (a || b))))
arm_found f l m r g h u a b = grind arith

turn_first : (m iu a tu l : Bool) → ((m || (iu && a)) || ((tu || iu) && l)) ≡ ((m || (iu && (a || l))) || (tu && l))
turn_first m iu a tu l = grind arith

turn_then : (x y tu a io l : Bool)
    → ((x || (y || (tu && (a || (io && (a || l)))))) || (tu && l)) ≡ (x || (y || (tu && (a || l))))
turn_then x y tu a io l = grind arith

turn_ahead : (t o a l : Bool) → ((t || (o && a)) || (o && l)) ≡ (t || (o && (a || l)))
turn_ahead t o a l = grind arith

-- ---- what a handle's name meets

-- the places of a use, if there is one
abbrev pub places_of : Option ℕ → List ℕ
places_of None = []
places_of (Some at) = at ∷ []

pub named-places : (n : Name) (x : Expression) → expression_places n x ≡ places_of (named n x)
named-places n (placed at (int z)) = refl
named-places n (placed at (bool z)) = refl
named-places n (placed at no_rev) = refl
named-places n (placed at (var w)) = by (same n w.text)
  where
    by : (d : Bool) → (if d then w.at ∷ [] else []) ≡ places_of (if d then Some w.at else None)
    by true = refl
    by false = refl
named-places n (placed at (cell w index)) = refl
named-places n (placed at (apply w args)) = refl
named-places n (placed at (input i index)) = refl
named-places n (placed at (inputs i)) = refl
named-places n (placed at (pick test x y)) = refl
named-places n (placed at (unary op e)) = refl
named-places n (placed at (chain first rest)) = refl

module _ (last_place last_rank : ℕ) where
  abbrev pub second : List ℕ → Bool
  second ps = any last_place last_rank (λ at. UsedTwice at) ps

  abbrev pub found_at : Fault → Bool
  found_at f = meets last_place last_rank f

  second-append : (xs ys : List ℕ) → second (xs ++ ys) ≡ (second xs || second ys)
  second-append xs ys = any-append last_place last_rank (λ at. UsedTwice at) xs ys

  found_if : (b : Bool) (f : Fault) → found_at (cond b f None) ≡ (b && found_at f)
  found_if true f = refl
  found_if false f = refl

  module _ (n : Name) where
    -- ---- what uses of the name can follow a use of it, and which stand in a loop

    abbrev pub after_use : Option ℕ → List ℕ → Bool
    after_use None later = false
    after_use (Some at) later = second later

    abbrev pub again_args : Expressions → List ℕ → Bool
    again_args no_expressions later = false
    again_args (expression x xs) later = after_use (named n x) (expressions_places n xs ++ later) || again_args xs later

    abbrev pub again_right : RightSide → List ℕ → Bool
    again_right (plain e) later = false
    again_right (called at w args) later = again_args args later
    again_right (forked at w args) later = again_args args later
    again_right (tried at handle) later = after_use (named n handle) later

    abbrev mutual
      pub again : Statements → List ℕ → Bool
      again no_statements later = false
      again (statements x rest) later =
          again_statement x (ahead n rest later) || (statement_passes x && again rest later)

      pub again_statement : Statement → List ℕ → Bool
      again_statement (statement at line form) later = again_form form later

      pub again_form : StatementForm → List ℕ → Bool
      again_form (bind w r) later = again_right r (if same n w.text then [] else later)
      again_form (assign w r) later = again_right r (if same n w.text then [] else later)
      again_form (assign_cell w index e) later = false
      again_form (choose arms) later = again_arms arms false later
      again_form (choose_or arms last) later = again_arms arms (again last later) later
      again_form (repeat test body) later = again body (ahead n body [] ++ later)
      again_form (call w args) later = again_args args later
      again_form (return e) later = false
      again_form (fork w args) later = again_args args later
      again_form (join handle) later = after_use (named n handle) later
      again_form (print items) later = false
      again_form (assert test) later = false

      pub again_arms : Arms → Bool → List ℕ → Bool
      again_arms no_arms other later = other
      again_arms (arm test body rest) other later = again body later || again_arms rest other later

    abbrev pub in_loop : Bool → Option ℕ → Bool
    in_loop inside None = false
    in_loop inside (Some at) = inside && upto last_place last_rank (InLoop at)

    abbrev pub loops_args : Bool → Expressions → Bool
    loops_args inside no_expressions = false
    loops_args inside (expression x xs) = in_loop inside (named n x) || loops_args inside xs

    abbrev pub loops_right : Bool → RightSide → Bool
    loops_right inside (plain e) = false
    loops_right inside (called at w args) = loops_args inside args
    loops_right inside (forked at w args) = loops_args inside args
    loops_right inside (tried at handle) = in_loop inside (named n handle)

    abbrev pub loops_value : Bool → Option Expression → Bool
    loops_value inside None = false
    loops_value inside (Some e) = in_loop inside (named n e)

    abbrev mutual
      pub loops : Bool → Statements → Bool
      loops inside no_statements = false
      loops inside (statements x rest) = loops_statement inside x || loops inside rest

      pub loops_statement : Bool → Statement → Bool
      loops_statement inside (statement at line form) = loops_form inside form

      pub loops_form : Bool → StatementForm → Bool
      loops_form inside (bind w r) = loops_right inside r
      loops_form inside (assign w r) = loops_right inside r
      loops_form inside (assign_cell w index e) = false
      loops_form inside (choose arms) = loops_arms inside arms false
      loops_form inside (choose_or arms last) = loops_arms inside arms (loops inside last)
      loops_form inside (repeat test body) = loops true body
      loops_form inside (call w args) = loops_args inside args
      loops_form inside (return e) = loops_value inside e
      loops_form inside (fork w args) = loops_args inside args
      loops_form inside (join handle) = in_loop inside (named n handle)
      loops_form inside (print items) = false
      loops_form inside (assert test) = false

      pub loops_arms : Bool → Arms → Bool → Bool
      loops_arms inside no_arms other = other
      loops_arms inside (arm test body rest) other = loops inside body || loops_arms inside rest other

    -- ---- a trail from one place to another

    -- a second use so far, or behind, where these places use the name
    abbrev pub twice_by : Trail → List ℕ → Bool
    twice_by t later = found_at t.found || (t.used && second later)

    abbrev pub ahead_by : Trail → List ℕ → Bool
    ahead_by t later = found_at t.ahead || (t.unchanged && second later)

    abbrev found_from : Trail → Bool → Bool → List ℕ → Bool
    found_from t loop again ahead = (found_at t.found || loop) || ((t.reached && again) || (t.used && second ahead))

    abbrev ahead_from : Trail → List ℕ → Bool
    ahead_from t ahead = found_at t.ahead || (t.unchanged && second ahead)

    -- The second trail stands behind something that some path passes, with these uses ahead of it, these second uses
    -- and uses in a loop.
    pub record Goes (t u : Trail) (pass : Bool) (aheads : List ℕ → List ℕ) (agains : List ℕ → Bool)
        (loop : Bool) : Type 0 where
      pub reached : u.reached ≡ (t.reached && pass)
      pub found : (later : List ℕ) → twice_by u later ≡ found_from t loop (agains later) (aheads later)
      pub ahead : (later : List ℕ) → ahead_by u later ≡ ahead_from t (aheads later)

    stays : (t : Trail) → Goes t t true (λ later. later) (λ later. false) false
    stays t = record {
      reached = sym (and-true t.reached);
      found = λ later. no_step (found_at t.found) t.used t.reached (second later);
      ahead = λ later. refl;
    }

    uses : (inside : Bool) (o : Option ℕ) (t : Trail)
        → Goes t (used_at inside o t) true (λ later. places_of o ++ later) (λ later. after_use o later)
        (in_loop inside o)
    uses inside None t = stays t
    uses inside (Some at) t = record {
      reached = sym (and-true t.reached);
      found = λ later.
          ap (λ b. b || ((t.used || t.reached) && second later))
          (meets-both last_place last_rank t.found (both (when t.used (UsedTwice at)) (when inside (InLoop at)))
          ∙ ap (λ b. found_at t.found || b)
          (meets-both last_place last_rank (when t.used (UsedTwice at)) (when inside (InLoop at))
          ∙ (λ i. meets-when last_place last_rank t.used (UsedTwice at) i
          || meets-when last_place last_rank inside (InLoop at) i)))
          ∙ use_step (found_at t.found) t.used t.reached (second later) inside
          (upto last_place last_rank (UsedTwice at)) (upto last_place last_rank (InLoop at));
      ahead = λ later.
          ap (λ b. b || (t.unchanged && second later))
          (meets-both last_place last_rank t.ahead (when t.unchanged (UsedTwice at))
          ∙ ap (λ b. found_at t.ahead || b) (meets-when last_place last_rank t.unchanged (UsedTwice at)))
          ∙ ahead_step (found_at t.ahead) t.unchanged (upto last_place last_rank (UsedTwice at)) (second later);
    }

    gets_by : (d : Bool) (t : Trail)
        → Goes t (if d then renewed t else t) true (λ later. if d then [] else later) (λ later. false) false
    gets_by false t = stays t
    gets_by true t = record {
      reached = sym (and-true t.reached);
      found = λ later. value_step (found_at t.found) t.used t.reached;
      ahead = λ later. ahead_none (found_at t.ahead) t.unchanged;
    }
      where
        ahead_none : (a o : Bool) → (a || false) ≡ (a || (o && false))
        ahead_none a o = grind arith

    -- behind a use and a `return`
    returns_by : (inside : Bool) (o : Option ℕ) (t : Trail)
        → Goes t (ended (used_at inside o t)) false (λ later. places_of o) (λ later. false) (in_loop inside o)
    returns_by inside None t = record {
      reached = and-false t.reached;
      found = λ later. value_step (found_at t.found) t.used t.reached;
      ahead = λ later. ahead_none (found_at t.ahead) t.unchanged;
    }
      where
        and-false : (a : Bool) → false ≡ (a && false)
        and-false a = grind arith

        ahead_none : (a o : Bool) → (a || false) ≡ (a || (o && false))
        ahead_none a o = grind arith
    returns_by inside (Some at) t = record {
      reached = and-false t.reached;
      found = λ later.
          ap (λ b. b || false)
          (meets-both last_place last_rank t.found (both (when t.used (UsedTwice at)) (when inside (InLoop at)))
          ∙ ap (λ b. found_at t.found || b)
          (meets-both last_place last_rank (when t.used (UsedTwice at)) (when inside (InLoop at))
          ∙ (λ i. meets-when last_place last_rank t.used (UsedTwice at) i
          || meets-when last_place last_rank inside (InLoop at) i)))
          ∙ ended_step (found_at t.found) t.used t.reached inside (upto last_place last_rank (UsedTwice at))
          (upto last_place last_rank (InLoop at));
      ahead = λ later.
          ap (λ b. b || false)
          (meets-both last_place last_rank t.ahead (when t.unchanged (UsedTwice at))
          ∙ ap (λ b. found_at t.ahead || b) (meets-when last_place last_rank t.unchanged (UsedTwice at)))
          ∙ ahead_end (found_at t.ahead) t.unchanged (upto last_place last_rank (UsedTwice at));
    }
      where
        and-false : (a : Bool) → false ≡ (a && false)
        and-false a = grind arith

        ahead_end : (a o s : Bool) → ((a || (o && s)) || false) ≡ (a || (o && (s || false)))
        ahead_end a o s = grind arith

    -- one behind another
    next : {t u w : Trail} {p q : Bool} {a b : List ℕ → List ℕ} {g h : List ℕ → Bool} {l m : Bool} → Goes t u p a g l
        → Goes u w q b h m → Goes t w (p && q) (λ later. a (b later)) (λ later. g (b later) || (p && h later)) (l || m)
    next {t} {u} {w} {p} {q} {a} {b} {g} {h} {l} {m} x y = record {
      reached = y.reached ∙ ap (λ r. r && q) x.reached ∙ and-assoc t.reached p q;
      found = λ later.
          y.found later
          ∙ ap (λ r. (found_at u.found || m) || ((r && h later) || (u.used && second (b later)))) x.reached
          ∙ then_first (found_at u.found) m ((t.reached && p) && h later) (u.used && second (b later))
          ∙ ap (λ c. c || (m || ((t.reached && p) && h later))) (x.found (b later))
          ∙ then_step (found_at t.found) l m t.reached p (g (b later)) (h later) (t.used && second (a (b later)));
      ahead = λ later. y.ahead later ∙ x.ahead (b later);
    }
      where
        and-assoc : (a b c : Bool) → ((a && b) && c) ≡ (a && (b && c))
        and-assoc a b c = grind arith

    alike : {t u : Trail} {p q : Bool} {a b : List ℕ → List ℕ} {g h : List ℕ → Bool} {l m : Bool} → Goes t u p a g l
        → p ≡ q → ((later : List ℕ) → a later ≡ b later) → ((later : List ℕ) → g later ≡ h later) → l ≡ m
        → Goes t u q b h m
    alike {t} x e f k d = record {
      reached = x.reached ∙ ap (λ r. t.reached && r) e;
      found = λ later. x.found later ∙ (λ i. found_from t (d i) (k later i) (f later i));
      ahead = λ later. x.ahead later ∙ ap (λ r. ahead_from t r) (f later);
    }

    -- ---- expressions

    use_goes : (inside : Bool) (x : Expression) (t : Trail)
        → Goes t (used_at inside (named n x) t) true (λ later. expression_places n x ++ later)
        (λ later. after_use (named n x) later) (in_loop inside (named n x))
    use_goes inside x t =
        alike (uses inside (named n x) t) refl (λ later. ap (λ ps. ps ++ later) (sym (named-places n x)))
        (λ later. refl) refl

    args_go : (inside : Bool) (xs : Expressions) (t : Trail)
        → Goes t (trail_args n inside t xs) true (λ later. expressions_places n xs ++ later) (again_args xs)
        (loops_args inside xs)
    args_go inside no_expressions t = stays t
    args_go inside (expression x xs) t =
        alike (next (use_goes inside x t) (args_go inside xs (used_at inside (named n x) t))) refl
        (λ later. sym (append_assoc (expression_places n x) (expressions_places n xs) later)) (λ later. refl) refl

    right_goes : (inside : Bool) (r : RightSide) (t : Trail)
        → Goes t (trail_right n inside t r) true (λ later. right_side_places n r ++ later) (again_right r)
        (loops_right inside r)
    right_goes inside (plain e) t = stays t
    right_goes inside (called at w args) t = args_go inside args t
    right_goes inside (forked at w args) t = args_go inside args t
    right_goes inside (tried at handle) t = use_goes inside handle t

    value_goes : (inside : Bool) (e : Option Expression) (t : Trail)
        → Goes t (ended (trail_value n inside t e)) false (λ later. value_places n e) (λ later. false)
        (loops_value inside e)
    value_goes inside None t = returns_by inside None t
    value_goes inside (Some e) t =
        alike (returns_by inside (named n e) t) refl (λ later. sym (named-places n e)) (λ later. refl) refl

    bind_goes : (inside : Bool) (w : PlacedName) (r : RightSide) (t : Trail)
        → Goes t (trail_gets n w (trail_right n inside t r)) true
        (λ later. right_side_places n r ++ (if same n w.text then [] else later))
        (λ later. again_right r (if same n w.text then [] else later)) (loops_right inside r)
    bind_goes inside w r t =
        alike (next (right_goes inside r t) (gets_by (same n w.text) (trail_right n inside t r))) refl (λ later. refl)
        (λ later. or-false _) (or-false _)

    -- ---- where paths meet

    met_found : (t u : Trail) (later : List ℕ) → twice_by (met t u) later ≡ (twice_by t later || twice_by u later)
    met_found t u later =
        ap (λ b. b || ((t.used || u.used) && second later)) (meets-both last_place last_rank t.found u.found)
        ∙ met_step (found_at t.found) (found_at u.found) t.used u.used (second later)

    met_ahead : (t u : Trail) (later : List ℕ) → ahead_by (met t u) later ≡ (ahead_by t later || ahead_by u later)
    met_ahead t u later =
        ap (λ b. b || ((t.unchanged || u.unchanged) && second later)) (meets-both last_place last_rank t.ahead u.ahead)
        ∙ met_step (found_at t.ahead) (found_at u.ahead) t.unchanged u.unchanged (second later)

    -- the first turn of a loop says what all say
    loop_goes : (body : Statements) (t turn : Trail)
        → Goes (turning t) turn (passes body) (ahead n body) (again body) (loops true body)
        → Goes t (turned t turn) true (λ later. ahead n body [] ++ later)
        (λ later. again body (ahead n body [] ++ later)) (loops true body)
    loop_goes body t turn x = record {
      reached = sym (and-true t.reached);
      found = λ later.
          ap (λ b. b || ((t.used || turn.used) && second later))
          (meets-both last_place last_rank turn.found (cond turn.used turn.ahead None)
          ∙ ap (λ b. found_at turn.found || b) (found_if turn.used turn.ahead ∙ ap (λ b. turn.used && b) whole))
          ∙ turn_first (found_at turn.found) turn.used (second (ahead n body [])) t.used (second later)
          ∙ ap (λ b. (found_at turn.found || (turn.used && b)) || (t.used && second later))
          (sym (second-append (ahead n body []) later))
          ∙ ap (λ b. b || (t.used && second later))
          (x.found (ahead n body [] ++ later)
          ∙ ap (λ b.
          (found_at t.found || loops true body)
          || ((t.reached && again body (ahead n body [] ++ later)) || (t.used && b)))
          (more later))
          ∙ turn_then (found_at t.found || loops true body) (t.reached && again body (ahead n body [] ++ later)) t.used
          (second (ahead n body [])) turn.unchanged (second later)
          ∙ ap (λ b.
          (found_at t.found || loops true body)
          || ((t.reached && again body (ahead n body [] ++ later)) || (t.used && b)))
          (sym (second-append (ahead n body []) later));
      ahead = λ later.
          ap (λ b. b || (t.unchanged && second later))
          (meets-both last_place last_rank t.ahead (cond t.unchanged turn.ahead None)
          ∙ ap (λ b. found_at t.ahead || b) (found_if t.unchanged turn.ahead ∙ ap (λ b. t.unchanged && b) whole))
          ∙ turn_ahead (found_at t.ahead) t.unchanged (second (ahead n body [])) (second later)
          ∙ ap (λ b. found_at t.ahead || (t.unchanged && b)) (sym (second-append (ahead n body []) later));
    }
      where
        no_more : (a o : Bool) → a ≡ (a || (o && false))
        no_more a o = grind arith

        -- what is ahead of a turn
        whole : found_at turn.ahead ≡ second (ahead n body [])
        whole = no_more (found_at turn.ahead) turn.unchanged ∙ x.ahead []

        more : (later : List ℕ)
            → second (ahead n body (ahead n body [] ++ later))
            ≡ (second (ahead n body []) || (turn.unchanged && (second (ahead n body []) || second later)))
        more later = sym (x.ahead (ahead n body [] ++ later))
            ∙ (λ i. whole i || (turn.unchanged && second-append (ahead n body []) later i))

    -- ---- statements

    is_and : (a b : Bool) → cond a b false ≡ (a && b)
    is_and true b = refl
    is_and false b = refl

    mutual
      pub statements_go : (inside : Bool) (xs : Statements) (t : Trail)
          → Goes t (trail n inside t xs) (passes xs) (ahead n xs) (again xs) (loops inside xs)
      statements_go inside no_statements t = stays t
      statements_go inside (statements x rest) t =
          alike (next (statement_goes inside x t) (statements_go inside rest (trail_statement n inside t x)))
          (sym (is_and (statement_passes x) (passes rest))) (λ later. refl) (λ later. refl) refl

      pub statement_goes : (inside : Bool) (x : Statement) (t : Trail)
          → Goes t (trail_statement n inside t x) (statement_passes x) (statement_ahead n x) (again_statement x)
          (loops_statement inside x)
      statement_goes inside (statement at line form) t = form_goes inside form t

      form_goes : (inside : Bool) (form : StatementForm) (t : Trail)
          → Goes t (trail_form n inside t form) (statement_form_passes form) (statement_form_ahead n form)
          (again_form form) (loops_form inside form)
      form_goes inside (bind w r) t = bind_goes inside w r t
      form_goes inside (assign w r) t = bind_goes inside w r t
      form_goes inside (assign_cell w index e) t = stays t
      form_goes inside (choose arms) t = record {
        reached = arms_reached inside arms t (start false) t.reached ∙ either t.reached (arms_pass arms);
        found = λ later.
            met_found (trail_arms n inside t (start false) arms) t later
            ∙ arms_found inside arms t (start false) later false false later (twice_by t later)
            (no_step (found_at t.found) t.used t.reached (second later));
        ahead = λ later.
            met_ahead (trail_arms n inside t (start false) arms) t later
            ∙ arms_go_ahead inside arms t (start false) later later (ahead_by t later) refl;
      }
        where
          either : (r p : Bool) → ((false || (r && p)) || r) ≡ (r && true)
          either r p = grind arith
      form_goes inside (choose_or arms last) t =
          let x = statements_go inside last t in record {
            reached = arms_reached inside arms t (start false) (trail n inside t last).reached
                ∙ ap (λ b. (false || (t.reached && arms_pass arms)) || b) x.reached
                ∙ either t.reached (arms_pass arms) (passes last)
                ∙ ap (λ b. t.reached && b) (sym (is_or (arms_pass arms) (passes last)));
            found = λ later.
                met_found (trail_arms n inside t (start false) arms) (trail n inside t last) later
                ∙ arms_found inside arms t (start false) later (loops inside last) (again last later)
                (ahead n last later) (twice_by (trail n inside t last) later) (x.found later);
            ahead = λ later.
                met_ahead (trail_arms n inside t (start false) arms) (trail n inside t last) later
                ∙ arms_go_ahead inside arms t (start false) later (ahead n last later)
                (ahead_by (trail n inside t last) later) (x.ahead later);
          }
        where
          either : (r p q : Bool) → ((false || (r && p)) || (r && q)) ≡ (r && (p || q))
          either r p q = grind arith
      form_goes inside (repeat test body) t =
          loop_goes body t (trail n true (turning t) body) (statements_go true body (turning t))
      form_goes inside (call w args) t = args_go inside args t
      form_goes inside (return e) t = value_goes inside e t
      form_goes inside (fork w args) t = args_go inside args t
      form_goes inside (join handle) t = use_goes inside handle t
      form_goes inside (print items) t = stays t
      form_goes inside (assert test) t = stays t

      arms_reached : (inside : Bool) (arms : Arms) (t u : Trail) (other : Bool)
          → ((trail_arms n inside t u arms).reached || other) ≡ ((u.reached || (t.reached && arms_pass arms)) || other)
      arms_reached inside no_arms t u other = none u.reached t.reached other
        where
          none : (a r b : Bool) → (a || b) ≡ ((a || (r && false)) || b)
          none a r b = grind arith
      arms_reached inside (arm test body rest) t u other =
          arms_reached inside rest t (met u (trail n inside t body)) other
          ∙ ap (λ b. ((u.reached || b) || (t.reached && arms_pass rest)) || other)
          ((statements_go inside body t).reached)
          ∙ ap (λ b. b || other) (more u.reached t.reached (passes body) (arms_pass rest)
          ∙ ap (λ b. u.reached || (t.reached && b)) (sym (is_or (passes body) (arms_pass rest))))
        where
          more : (a r p q : Bool) → ((a || (r && p)) || (r && q)) ≡ (a || (r && (p || q)))
          more a r p q = grind arith

      arms_found : (inside : Bool) (arms : Arms) (t u : Trail) (later : List ℕ) (loop again : Bool) (others : List ℕ)
          (other : Bool)
          → other ≡ found_from t loop again others
          → (twice_by (trail_arms n inside t u arms) later || other)
          ≡ (twice_by u later
          || found_from t (loops_arms inside arms loop) (again_arms arms again later) (arms_ahead n arms others later))
      arms_found inside no_arms t u later loop again others other e = ap (λ b. twice_by u later || b) e
      arms_found inside (arm test body rest) t u later loop again_ others other e =
          arms_found inside rest t (met u (trail n inside t body)) later loop again_ others other e
          ∙ ap (λ b.
          b
          || found_from t (loops_arms inside rest loop) (again_arms rest again_ later) (arms_ahead n rest others later))
          (met_found u (trail n inside t body) later
          ∙ ap (λ b. twice_by u later || b) ((statements_go inside body t).found later))
          ∙ or-assoc (twice_by u later) (found_from t (loops inside body) (again body later) (ahead n body later))
          (found_from t (loops_arms inside rest loop) (again_arms rest again_ later) (arms_ahead n rest others later))
          ∙ ap (λ b. twice_by u later || b)
          (arm_found (found_at t.found) (loops inside body) (loops_arms inside rest loop) t.reached (again body later)
          (again_arms rest again_ later) t.used (second (ahead n body later)) (second (arms_ahead n rest others later))
          ∙ ap (λ b.
          (found_at t.found || (loops inside body || loops_arms inside rest loop))
          || ((t.reached && (again body later || again_arms rest again_ later)) || (t.used && b)))
          (sym (second-append (ahead n body later) (arms_ahead n rest others later))))

      arms_go_ahead : (inside : Bool) (arms : Arms) (t u : Trail) (later others : List ℕ) (other : Bool)
          → other ≡ ahead_from t others
          → (ahead_by (trail_arms n inside t u arms) later || other)
          ≡ (ahead_by u later || ahead_from t (arms_ahead n arms others later))
      arms_go_ahead inside no_arms t u later others other e = ap (λ b. ahead_by u later || b) e
      arms_go_ahead inside (arm test body rest) t u later others other e =
          arms_go_ahead inside rest t (met u (trail n inside t body)) later others other e
          ∙ ap (λ b. b || ahead_from t (arms_ahead n rest others later))
          (met_ahead u (trail n inside t body) later
          ∙ ap (λ b. ahead_by u later || b) ((statements_go inside body t).ahead later))
          ∙ or-assoc (ahead_by u later) (ahead_from t (ahead n body later))
          (ahead_from t (arms_ahead n rest others later))
          ∙ ap (λ b. ahead_by u later || b)
          (arm_ahead (found_at t.ahead) t.unchanged (second (ahead n body later))
          (second (arms_ahead n rest others later))
          ∙ ap (λ b. found_at t.ahead || (t.unchanged && b))
          (sym (second-append (ahead n body later) (arms_ahead n rest others later))))

    -- from a handle's first value, to which a path comes or none, to the end of its block, with no use behind it
    pub misuse : (first : Bool) (xs : Statements) (later : List ℕ) → second later ≡ false
        → found_at (trail n false (start first) xs).found ≡ (loops false xs || (first && again xs later))
    misuse first xs later none =
        rest_none (found_at (trail n false (start first) xs).found) (trail n false (start first) xs).used (second later)
        none
        ∙ (statements_go false xs (start first)).found later ∙ last (loops false xs) (first && again xs later)
      where
        rest_none : (f used l : Bool) → l ≡ false → f ≡ (f || (used && l))
        rest_none f used l h = grind arith

        last : (l g : Bool) → (l || (g || false)) ≡ (l || g)
        last l g = grind arith
