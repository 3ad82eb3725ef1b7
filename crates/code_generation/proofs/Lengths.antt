-- Code has as many instructions as its size says, and so many locals and layouts come of statements as are counted.
use Rattle.std.proofs.Common.{◌≡◌, ℕ, ◌+◌, Bool, true, false, Option, Some, None, List, [], ◌∷◌, ◌++◌, length, refl, arith, length-append}
use Rattle.rev_syntax.specs.Trees.{Expression, placed, ExpressionForm, Expressions, Links, int, bool, no_rev, var, cell, apply, input, inputs, pick, unary, chain, no_expressions, expression, no_links, link, RightSide, plain, called, forked, tried, PrintItem, text, shown, Statement, statement, StatementForm, bind, assign, assign_cell, choose, choose_or, repeat, call, return, fork, join, print, assert, Statements, no_statements, statements, Arms, no_arms, arm}
use Rattle.rev_syntax.specs.declared.tree.BinaryOp.{BinaryOp}
use Rattle.rev_syntax.specs.declared.tree.BinaryOp.TheVariants as b
use Rattle.typed_programs.specs.Kinds.{Names, Locals}
use Rattle.typed_programs.specs.Scopes.{locals_after}
use Rattle.typed_programs.specs.Limits.{statement_lets, statement_form_lets, statements_lets, arms_lets}
use Rattle.rev_code.specs.declared.code.Instr.{Instr}
use Rattle.rev_code.specs.declared.code.Instr.TheVariants as i
use Rattle.code_generation.specs.Numbers.{Numbers, Scope, scope_after}
use Rattle.code_generation.specs.Expressions.{expression_size, form_size, expressions_size, links_size, link_size, link_code, pick_yes, pick_no, pick_end, expression_code, form_code, expressions_code, links_code}
use Rattle.code_generation.specs.Sizes.{right_side_size, items_size, returned_size, dropped_size, leap_size, statement_size, statement_form_size, statements_size, arms_size, statement_prints, statement_form_prints, statements_prints, arms_prints}
use Rattle.code_generation.specs.Statements.{Spot, ahead, behind_statement, behind_arms, right_side_code, items_code, returned_code, dropped, leap, in_arm, next_arm, statement_code, statement_form_code, statements_code, arms_code}
use Rattle.code_generation.specs.Prints.{statement_kinds, statement_form_kinds, statements_kinds, arms_kinds, statement_texts, statements_texts, arms_texts, statement_layouts, statement_form_layouts, statements_layouts, arms_layouts}

module _ {A : Type 0} where
  pub two : (xs ys : List A) (m n : ℕ) → length xs ≡ m → length ys ≡ n → length (xs ++ ys) ≡ m + n
  two xs ys m n p q = let r = length-append xs ys in omega (arith, r, p, q)

  -- with one behind
  pub and_one : (xs : List A) (y : A) (m : ℕ) → length xs ≡ m → length (xs ++ y ∷ []) ≡ m + 1
  and_one xs y m p = let r = length-append xs (y ∷ []) in omega (arith, r, p)

  -- with one between
  pub around : (xs ys : List A) (y : A) (m n : ℕ) → length xs ≡ m → length ys ≡ n → length (xs ++ y ∷ ys) ≡ m + 1 + n
  around xs ys y m n p q = let r = length-append xs (y ∷ ys) in omega (arith, r, p, q)

-- ---- expressions

pub link_length : (op : BinaryOp) (size : ℕ) (code : ℕ → List Instr) (at : ℕ) → ((p : ℕ) → length (code p) ≡ size)
    → length (link_code op size code at) ≡ link_size op size
link_length b.And size code at h =
    let r = length-append (code (at + 1)) (i.Jump (at + size + 3) ∷ i.PushBool false ∷ []) in
    let z = h (at + 1) in
    omega (arith, r, z)
link_length b.Or size code at h =
    let r = length-append (code (at + 1)) (i.Jump (at + size + 3) ∷ i.PushBool true ∷ []) in
    let z = h (at + 1) in
    omega (arith, r, z)
link_length b.Add size code at h = and_one (code at) _ size (h at)
link_length b.Sub size code at h = and_one (code at) _ size (h at)
link_length b.Mul size code at h = and_one (code at) _ size (h at)
link_length b.Div size code at h = and_one (code at) _ size (h at)
link_length b.Rem size code at h = and_one (code at) _ size (h at)
link_length b.Eq size code at h = and_one (code at) _ size (h at)
link_length b.Ne size code at h = and_one (code at) _ size (h at)
link_length b.Lt size code at h = and_one (code at) _ size (h at)
link_length b.Le size code at h = and_one (code at) _ size (h at)
link_length b.Gt size code at h = and_one (code at) _ size (h at)
link_length b.Ge size code at h = and_one (code at) _ size (h at)

module _ (n : Numbers) (scope : Scope) where
  mutual
    pub expression_length : (e : Expression) (at : ℕ) → length (expression_code n scope e at) ≡ expression_size e
    expression_length (placed p form) at = form_length form at

    form_length : (form : ExpressionForm) (at : ℕ) → length (form_code n scope form at) ≡ form_size form
    form_length (int z) at = refl
    form_length (bool x) at = refl
    form_length no_rev at = refl
    form_length (var w) at = refl
    form_length (cell w index) at =
        and_one (expression_code n scope index at) _ (expression_size index) (expression_length index at)
    form_length (apply w args) at =
        and_one (expressions_code n scope args at) _ (expressions_size args) (expressions_length args at)
    form_length (input p index) at =
        and_one (expression_code n scope index at) _ (expression_size index) (expression_length index at)
    form_length (inputs p) at = refl
    form_length (pick test x y) at =
        let p = around (expression_code n scope test at) (expression_code n scope x (pick_yes at test))
        (i.JumpIfFalse (pick_no at test x)) (expression_size test) (expression_size x) (expression_length test at)
        (expression_length x (pick_yes at test)) in
        around (expression_code n scope test at ++ i.JumpIfFalse (pick_no at test x)
        ∷ expression_code n scope x (pick_yes at test))
        (expression_code n scope y (pick_no at test x)) (i.Jump (pick_end at test x y))
        (expression_size test + 1 + expression_size x) (expression_size y) p (expression_length y (pick_no at test x))
    form_length (unary op e) at = and_one (expression_code n scope e at) _ (expression_size e) (expression_length e at)
    form_length (chain first rest) at =
        two (expression_code n scope first at) (links_code n scope rest (at + expression_size first))
        (expression_size first) (links_size rest) (expression_length first at)
        (links_length rest (at + expression_size first))

    pub expressions_length : (es : Expressions) (at : ℕ) → length (expressions_code n scope es at) ≡ expressions_size es
    expressions_length no_expressions at = refl
    expressions_length (expression e rest) at =
        two (expression_code n scope e at) (expressions_code n scope rest (at + expression_size e)) (expression_size e)
        (expressions_size rest) (expression_length e at) (expressions_length rest (at + expression_size e))

    pub links_length : (ls : Links) (at : ℕ) → length (links_code n scope ls at) ≡ links_size ls
    links_length no_links at = refl
    links_length (link op e rest) at =
        two (link_code op (expression_size e) (λ place. expression_code n scope e place) at)
        (links_code n scope rest (at + link_size op (expression_size e))) (link_size op (expression_size e))
        (links_size rest)
        (link_length op (expression_size e) (λ place. expression_code n scope e place) at (λ p. expression_length e p))
        (links_length rest (at + link_size op (expression_size e)))

  -- ---- parts of statements

  pub right_side_length : (r : RightSide) (at : ℕ) → length (right_side_code n scope r at) ≡ right_side_size r
  right_side_length (plain e) at = expression_length e at
  right_side_length (called p w args) at =
      and_one (expressions_code n scope args at) _ (expressions_size args) (expressions_length args at)
  right_side_length (forked p w args) at =
      and_one (expressions_code n scope args at) _ (expressions_size args) (expressions_length args at)
  right_side_length (tried p handle) at =
      and_one (expression_code n scope handle at) _ (expression_size handle) (expression_length handle at)

  pub items_length : (items : List PrintItem) (at : ℕ) → length (items_code n scope items at) ≡ items_size items
  items_length [] at = refl
  items_length (text p bytes ∷ items) at = items_length items at
  items_length (shown e ∷ items) at =
      two (expression_code n scope e at) (items_code n scope items (at + expression_size e)) (expression_size e)
      (items_size items) (expression_length e at) (items_length items (at + expression_size e))

  pub returned_length : (e : Option Expression) (at : ℕ) → length (returned_code n scope e at) ≡ returned_size e
  returned_length None at = refl
  returned_length (Some e) at = and_one (expression_code n scope e at) _ (expression_size e) (expression_length e at)

pub dropped_length : (gives : Bool) → length (dropped gives) ≡ dropped_size gives
dropped_length true = refl
dropped_length false = refl

pub leap_length : (has_last : Bool) (rest : Arms) (end : ℕ) → length (leap has_last rest end) ≡ leap_size has_last rest
leap_length true no_arms end = refl
leap_length false no_arms end = refl
leap_length true (arm test body rest) end = refl
leap_length false (arm test body rest) end = refl

-- ---- statements

module _ (n : Numbers) where
  mutual
    pub statement_length : (scope : Scope) (x : Statement) (s : Spot)
        → length (statement_code n scope x s) ≡ statement_size n x
    statement_length scope (statement p line form) s =
        let h = statement_form_length scope form s.at (ahead s 1) in omega (arith, h)

    statement_form_length : (scope : Scope) (form : StatementForm) (head : ℕ) (s : Spot)
        → length (statement_form_code n scope form head s) ≡ statement_form_size n form
    statement_form_length scope (bind w r) head s =
        and_one (right_side_code n scope r s.at) _ (right_side_size r) (right_side_length n scope r s.at)
    statement_form_length scope (assign w r) head s =
        and_one (right_side_code n scope r s.at) _ (right_side_size r) (right_side_length n scope r s.at)
    statement_form_length scope (assign_cell w index e) head s =
        let at : ℕ = s.at + expression_size index + 1 in
        let p = around (expression_code n scope index s.at) (expression_code n scope e at) (i.CheckCell (n.var w.text))
        (expression_size index) (expression_size e) (expression_length n scope index s.at)
        (expression_length n scope e at) in
        and_one (expression_code n scope index s.at ++ i.CheckCell (n.var w.text) ∷ expression_code n scope e at)
        (i.StoreCell (n.var w.text)) (expression_size index + 1 + expression_size e) p
    statement_form_length scope (choose arms) head s = arms_length scope false arms (s.at + arms_size n false arms) s
    statement_form_length scope (choose_or arms last) head s =
        two (arms_code n scope true arms (s.at + arms_size n true arms + statements_size n last) s)
        (statements_code n scope last (behind_arms n s true arms)) (arms_size n true arms) (statements_size n last)
        (arms_length scope true arms (s.at + arms_size n true arms + statements_size n last) s)
        (statements_length scope last (behind_arms n s true arms))
    statement_form_length scope (repeat test body) head s =
        let leave : Instr = i.JumpIfFalse (s.at + expression_size test + 1 + statements_size n body + 1) in
        let p = around (expression_code n scope test s.at) (statements_code n scope body (in_arm s test)) leave
        (expression_size test) (statements_size n body) (expression_length n scope test s.at)
        (statements_length scope body (in_arm s test)) in
        and_one (expression_code n scope test s.at ++ leave ∷ statements_code n scope body (in_arm s test))
        (i.Jump head) (expression_size test + 1 + statements_size n body) p
    statement_form_length scope (call w args) head s =
        around (expressions_code n scope args s.at) (dropped (n.gives w.text)) (i.Call (n.proc w.text))
        (expressions_size args) (dropped_size (n.gives w.text)) (expressions_length n scope args s.at)
        (dropped_length (n.gives w.text))
    statement_form_length scope (return e) head s = returned_length n scope e s.at
    statement_form_length scope (fork w args) head s =
        two (expressions_code n scope args s.at) (i.Fork (n.proc w.text) ∷ i.Pop ∷ []) (expressions_size args) 2
        (expressions_length n scope args s.at) refl
    statement_form_length scope (join e) head s =
        and_one (expression_code n scope e s.at) _ (expression_size e) (expression_length n scope e s.at)
    statement_form_length scope (print items) head s =
        and_one (items_code n scope items s.at) _ (items_size items) (items_length n scope items s.at)
    statement_form_length scope (assert e) head s =
        and_one (expression_code n scope e s.at) _ (expression_size e) (expression_length n scope e s.at)

    pub statements_length : (scope : Scope) (xs : Statements) (s : Spot)
        → length (statements_code n scope xs s) ≡ statements_size n xs
    statements_length scope no_statements s = refl
    statements_length scope (statements x rest) s =
        two (statement_code n scope x s) (statements_code n (scope_after scope s.local x) rest (behind_statement n s x))
        (statement_size n x) (statements_size n rest)
        (statement_length scope x s)
        (statements_length (scope_after scope s.local x) rest (behind_statement n s x))

    pub arms_length : (scope : Scope) (has_last : Bool) (arms : Arms) (end : ℕ) (s : Spot)
        → length (arms_code n scope has_last arms end s) ≡ arms_size n has_last arms
    arms_length scope has_last no_arms end s = refl
    arms_length scope has_last (arm test body rest) end s =
        let next : Spot = next_arm n s has_last test body rest in
        let tested : List Instr =
        expression_code n scope test s.at ++ i.JumpIfFalse next.at ∷ statements_code n scope body (in_arm s test) in
        let p = around (expression_code n scope test s.at) (statements_code n scope body (in_arm s test))
        (i.JumpIfFalse next.at) (expression_size test) (statements_size n body) (expression_length n scope test s.at)
        (statements_length scope body (in_arm s test)) in
        let q = two tested (leap has_last rest end) (expression_size test + 1 + statements_size n body)
        (leap_size has_last rest) p (leap_length has_last rest end) in
        two (tested ++ leap has_last rest end) (arms_code n scope has_last rest end next)
        (expression_size test + 1 + statements_size n body + leap_size has_last rest) (arms_size n has_last rest) q
        (arms_length scope has_last rest end next)

-- ---- tables

module _ (c : Names) where
  mutual
    pub statement_locals : (l : Locals) (x : Statement) → length (statement_kinds c l x) ≡ statement_lets x
    statement_locals l (statement p line form) = form_locals l form

    form_locals : (l : Locals) (form : StatementForm)
        → length (statement_form_kinds c l form) ≡ statement_form_lets form
    form_locals l (bind w r) = refl
    form_locals l (choose arms) = arms_locals l arms
    form_locals l (choose_or arms last) =
        two (arms_kinds c l arms) (statements_kinds c l last) (arms_lets arms) (statements_lets last)
        (arms_locals l arms) (statements_locals l last)
    form_locals l (repeat test body) = statements_locals l body
    form_locals l (assign w r) = refl
    form_locals l (assign_cell w index e) = refl
    form_locals l (call w args) = refl
    form_locals l (return e) = refl
    form_locals l (fork w args) = refl
    form_locals l (join e) = refl
    form_locals l (print items) = refl
    form_locals l (assert e) = refl

    pub statements_locals : (l : Locals) (xs : Statements) → length (statements_kinds c l xs) ≡ statements_lets xs
    statements_locals l no_statements = refl
    statements_locals l (statements x rest) =
        two (statement_kinds c l x) (statements_kinds c (locals_after c l x) rest) (statement_lets x)
        (statements_lets rest) (statement_locals l x) (statements_locals (locals_after c l x) rest)

    pub arms_locals : (l : Locals) (arms : Arms) → length (arms_kinds c l arms) ≡ arms_lets arms
    arms_locals l no_arms = refl
    arms_locals l (arm test body rest) =
        two (statements_kinds c l body) (arms_kinds c l rest) (statements_lets body) (arms_lets rest)
        (statements_locals l body) (arms_locals l rest)

  mutual
    pub statement_prints_length : (l : Locals) (k : ℕ) (x : Statement)
        → length (statement_layouts c l k x) ≡ statement_prints x
    statement_prints_length l k (statement p line form) = form_prints_length l k form

    form_prints_length : (l : Locals) (k : ℕ) (form : StatementForm)
        → length (statement_form_layouts c l k form) ≡ statement_form_prints form
    form_prints_length l k (print items) = refl
    form_prints_length l k (choose arms) = arms_prints_length l k arms
    form_prints_length l k (choose_or arms last) =
        two (arms_layouts c l k arms) (statements_layouts c l (k + length (arms_texts arms)) last) (arms_prints arms)
        (statements_prints last) (arms_prints_length l k arms)
        (statements_prints_length l (k + length (arms_texts arms)) last)
    form_prints_length l k (repeat test body) = statements_prints_length l k body
    form_prints_length l k (bind w r) = refl
    form_prints_length l k (assign w r) = refl
    form_prints_length l k (assign_cell w index e) = refl
    form_prints_length l k (call w args) = refl
    form_prints_length l k (return e) = refl
    form_prints_length l k (fork w args) = refl
    form_prints_length l k (join e) = refl
    form_prints_length l k (assert e) = refl

    pub statements_prints_length : (l : Locals) (k : ℕ) (xs : Statements)
        → length (statements_layouts c l k xs) ≡ statements_prints xs
    statements_prints_length l k no_statements = refl
    statements_prints_length l k (statements x rest) =
        two (statement_layouts c l k x)
        (statements_layouts c (locals_after c l x) (k + length (statement_texts x)) rest) (statement_prints x)
        (statements_prints rest) (statement_prints_length l k x)
        (statements_prints_length (locals_after c l x) (k + length (statement_texts x)) rest)

    pub arms_prints_length : (l : Locals) (k : ℕ) (arms : Arms) → length (arms_layouts c l k arms) ≡ arms_prints arms
    arms_prints_length l k no_arms = refl
    arms_prints_length l k (arm test body rest) =
        two (statements_layouts c l k body) (arms_layouts c l (k + length (statements_texts body)) rest)
        (statements_prints body) (arms_prints rest) (statements_prints_length l k body)
        (arms_prints_length l (k + length (statements_texts body)) rest)
