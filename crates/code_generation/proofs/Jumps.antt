-- Jumps of code lead forward, up to its end, or back to a Charge.
use Rattle.std.proofs.Common.{inl, inr, ◌≡◌, ◌<◌, ◌≤◌, ℕ, suc, ◌+◌, Bool, true, false, Option, Some, None, List, [], ◌∷◌, ◌++◌, length, refl, sym, ap, subst, arith, true≢false}
use Rattle.std.specs.Prelude.{slice_get}
use Rattle.rev_syntax.specs.Trees.{PlacedName, Expression, placed, ExpressionForm, Expressions, Links, int, bool, no_rev, var, cell, apply, input, inputs, pick, unary, chain, no_expressions, expression, no_links, link, RightSide, plain, called, forked, tried, PrintItem, text, shown, Statement, statement, StatementForm, bind, assign, assign_cell, choose, choose_or, repeat, call, return, fork, join, print, assert, Statements, no_statements, statements, Arms, no_arms, arm}
use Rattle.rev_syntax.specs.declared.tree.UnaryOp.{UnaryOp}
use Rattle.rev_syntax.specs.declared.tree.UnaryOp.TheVariants as u
use Rattle.rev_syntax.specs.declared.tree.BinaryOp.{BinaryOp}
use Rattle.rev_syntax.specs.declared.tree.BinaryOp.TheVariants as b
use Rattle.name_tables.specs.Table.{find}
use Rattle.rev_code.specs.declared.code.Instr.{Instr}
use Rattle.rev_code.specs.declared.code.Instr.TheVariants as i
use Rattle.code_rules.specs.Pass.{target, is_charge}
use Rattle.code_generation.specs.Numbers.{Numbers, Scope, scope_after}
use Rattle.code_generation.specs.Expressions.{expression_size, form_size, expressions_size, links_size, link_size, load, unary_code, link_code, pick_yes, pick_no, pick_end, expression_code, form_code, expressions_code, links_code}
use Rattle.code_generation.specs.Sizes.{right_side_size, items_size, returned_size, leap_size, statement_size, statement_form_size, statements_size, arms_size}
use Rattle.code_generation.specs.Statements.{Spot, ahead, behind_statement, behind_arms, store, right_side_code, items_code, returned_code, dropped, leap, in_arm, next_arm, statement_code, statement_form_code, statements_code, arms_code}
use Rattle.code_generation.specs.Generated.{is_return, ends_in_return}
use Rattle.code_generation.specs.Stands.{HasAt, ChargeAt, Leads, AllLead}
use Rattle.code_generation.proofs.Standing.{parts_stand, around_stands, parts_lead, around_leads, one_leads}
use Rattle.code_generation.proofs.Lengths.{two, around, expression_length, expressions_length, link_length, right_side_length, items_length, leap_length, statement_length, statements_length, arms_length}

nothing : Unit {0}
nothing = tt

unary_target : (op : UnaryOp) → target (unary_code op) ≡ None
unary_target u.Neg = refl
unary_target u.Not = refl

load_target : (n : Numbers) (w : PlacedName) (o : Option ℕ) → target (load n w o) ≡ None
load_target n w (Some local) = refl
load_target n w None = refl

store_target : (n : Numbers) (w : PlacedName) (o : Option ℕ) → target (store n w o) ≡ None
store_target n w (Some local) = refl
store_target n w None = refl

module _ (back : ℕ → Type 0) (last : ℕ) where
  -- a jump forward
  forward : (at to : ℕ) → at < to → to ≤ last → Leads back last at (Some to)
  forward at to h k = inl (h, k)

  link_leads : (op : BinaryOp) (size : ℕ) (code : ℕ → List Instr) (at : ℕ) → ((p : ℕ) → length (code p) ≡ size)
      → at + link_size op size ≤ last → ((p : ℕ) → p + size ≤ last → AllLead back last p (code p))
      → AllLead back last at (link_code op size code at)
  link_leads b.And size code at len h f = short (i.Jump (at + size + 3) ∷ i.PushBool false ∷ [])
      (forward (suc at + size) (at + size + 3) (omega arith) (omega (arith, h)), (nothing, nothing))
    where
      short : (ends : List Instr) → AllLead back last (suc at + size) ends
          → AllLead back last at (i.JumpIfFalse (at + 1 + size + 1) ∷ code (at + 1) ++ ends)
      short ends g = (
        forward at (at + 1 + size + 1) (omega arith) (omega (arith, h)),
        parts_lead back last (code (at + 1)) ends (suc at) size (len (at + 1))
            (subst (λ p. AllLead back last p (code (at + 1))) (let z : at + 1 ≡ suc at = omega arith in z)
            (f (at + 1) (omega (arith, h))))
            g,
      )
  link_leads b.Or size code at len h f = short (i.Jump (at + size + 3) ∷ i.PushBool true ∷ [])
      (forward (suc at + size) (at + size + 3) (omega arith) (omega (arith, h)), (nothing, nothing))
    where
      short : (ends : List Instr) → AllLead back last (suc at + size) ends
          → AllLead back last at (i.JumpIfTrue (at + 1 + size + 1) ∷ code (at + 1) ++ ends)
      short ends g = (
        forward at (at + 1 + size + 1) (omega arith) (omega (arith, h)),
        parts_lead back last (code (at + 1)) ends (suc at) size (len (at + 1))
            (subst (λ p. AllLead back last p (code (at + 1))) (let z : at + 1 ≡ suc at = omega arith in z)
            (f (at + 1) (omega (arith, h))))
            g,
      )
  link_leads b.Add size code at len h f =
      one_leads back last (code at) i.Add at size (len at) refl (f at (omega (arith, h)))
  link_leads b.Sub size code at len h f =
      one_leads back last (code at) i.Sub at size (len at) refl (f at (omega (arith, h)))
  link_leads b.Mul size code at len h f =
      one_leads back last (code at) i.Mul at size (len at) refl (f at (omega (arith, h)))
  link_leads b.Div size code at len h f =
      one_leads back last (code at) i.Div at size (len at) refl (f at (omega (arith, h)))
  link_leads b.Rem size code at len h f =
      one_leads back last (code at) i.Rem at size (len at) refl (f at (omega (arith, h)))
  link_leads b.Eq size code at len h f =
      one_leads back last (code at) i.Eq at size (len at) refl (f at (omega (arith, h)))
  link_leads b.Ne size code at len h f =
      one_leads back last (code at) i.Ne at size (len at) refl (f at (omega (arith, h)))
  link_leads b.Lt size code at len h f =
      one_leads back last (code at) i.Lt at size (len at) refl (f at (omega (arith, h)))
  link_leads b.Le size code at len h f =
      one_leads back last (code at) i.Le at size (len at) refl (f at (omega (arith, h)))
  link_leads b.Gt size code at len h f =
      one_leads back last (code at) i.Gt at size (len at) refl (f at (omega (arith, h)))
  link_leads b.Ge size code at len h f =
      one_leads back last (code at) i.Ge at size (len at) refl (f at (omega (arith, h)))

  module _ (n : Numbers) (scope : Scope) where
    mutual
      pub expression_leads : (e : Expression) (at : ℕ) → at + expression_size e ≤ last
          → AllLead back last at (expression_code n scope e at)
      expression_leads (placed p form) at h = form_leads form at h

      form_leads : (form : ExpressionForm) (at : ℕ) → at + form_size form ≤ last
          → AllLead back last at (form_code n scope form at)
      form_leads (int z) at h = (nothing, nothing)
      form_leads (bool x) at h = (nothing, nothing)
      form_leads no_rev at h = (nothing, nothing)
      form_leads (var w) at h =
          one_leads back last [] (load n w (find w.text scope)) at 0 refl (load_target n w (find w.text scope)) nothing
      form_leads (cell w index) at h =
          one_leads back last (expression_code n scope index at) (i.LoadCell (n.var w.text)) at (expression_size index)
          (expression_length n scope index at) refl (expression_leads index at (omega (arith, h)))
      form_leads (apply w args) at h =
          one_leads back last (expressions_code n scope args at) (i.Apply (n.fun w.text)) at (expressions_size args)
          (expressions_length n scope args at) refl (expressions_lead args at (omega (arith, h)))
      form_leads (input p index) at h =
          one_leads back last (expression_code n scope index at) i.LoadInput at (expression_size index)
          (expression_length n scope index at) refl (expression_leads index at (omega (arith, h)))
      form_leads (inputs p) at h = (nothing, nothing)
      form_leads (pick test x y) at h =
          let tested : List Instr =
          expression_code n scope test at ++ i.JumpIfFalse (pick_no at test x)
          ∷ expression_code n scope x (pick_yes at test) in
          let size =
          around (expression_code n scope test at) (expression_code n scope x (pick_yes at test))
          (i.JumpIfFalse (pick_no at test x)) (expression_size test) (expression_size x)
          (expression_length n scope test at) (expression_length n scope x (pick_yes at test)) in
          let first =
          around_leads back last (expression_code n scope test at) (expression_code n scope x (pick_yes at test))
          (i.JumpIfFalse (pick_no at test x)) at (expression_size test) (pick_yes at test)
          (expression_length n scope test at) refl
          (expression_leads test at (omega (arith, h)))
          (forward (at + expression_size test) (pick_no at test x) (omega arith) (omega (arith, h)))
          (expression_leads x (pick_yes at test) (omega (arith, h))) in
          around_leads back last tested (expression_code n scope y (pick_no at test x)) (i.Jump (pick_end at test x y))
          at (expression_size test + 1 + expression_size x) (pick_no at test x) size
          (let z : pick_no at test x ≡ at + (expression_size test + 1 + expression_size x) + 1 = omega arith in z)
          first
          (forward (at + (expression_size test + 1 + expression_size x)) (pick_end at test x y) (omega arith)
          (omega (arith, h)))
          (expression_leads y (pick_no at test x) (omega (arith, h)))
      form_leads (unary op e) at h =
          one_leads back last (expression_code n scope e at) (unary_code op) at (expression_size e)
          (expression_length n scope e at) (unary_target op) (expression_leads e at (omega (arith, h)))
      form_leads (chain first rest) at h =
          parts_lead back last (expression_code n scope first at) (links_code n scope rest (at + expression_size first))
          at (expression_size first) (expression_length n scope first at)
          (expression_leads first at (omega (arith, h)))
          (links_lead rest (at + expression_size first) (omega (arith, h)))

      pub expressions_lead : (es : Expressions) (at : ℕ) → at + expressions_size es ≤ last
          → AllLead back last at (expressions_code n scope es at)
      expressions_lead no_expressions at h = nothing
      expressions_lead (expression e rest) at h =
          parts_lead back last (expression_code n scope e at) (expressions_code n scope rest (at + expression_size e))
          at (expression_size e) (expression_length n scope e at)
          (expression_leads e at (omega (arith, h)))
          (expressions_lead rest (at + expression_size e) (omega (arith, h)))

      links_lead : (ls : Links) (at : ℕ) → at + links_size ls ≤ last → AllLead back last at (links_code n scope ls at)
      links_lead no_links at h = nothing
      links_lead (link op e rest) at h =
          parts_lead back last (link_code op (expression_size e) (λ place. expression_code n scope e place) at)
          (links_code n scope rest (at + link_size op (expression_size e))) at (link_size op (expression_size e))
          (link_length op (expression_size e) (λ place. expression_code n scope e place) at
          (λ p. expression_length n scope e p))
          (link_leads op (expression_size e) (λ place. expression_code n scope e place) at
          (λ p. expression_length n scope e p) (omega (arith, h)) (λ p q. expression_leads e p q))
          (links_lead rest (at + link_size op (expression_size e)) (omega (arith, h)))

    -- ---- parts of statements

    right_side_leads : (r : RightSide) (at : ℕ) → at + right_side_size r ≤ last
        → AllLead back last at (right_side_code n scope r at)
    right_side_leads (plain e) at h = expression_leads e at h
    right_side_leads (called p w args) at h =
        one_leads back last (expressions_code n scope args at) (i.Call (n.proc w.text)) at (expressions_size args)
        (expressions_length n scope args at) refl (expressions_lead args at (omega (arith, h)))
    right_side_leads (forked p w args) at h =
        one_leads back last (expressions_code n scope args at) (i.Fork (n.proc w.text)) at (expressions_size args)
        (expressions_length n scope args at) refl (expressions_lead args at (omega (arith, h)))
    right_side_leads (tried p e) at h =
        one_leads back last (expression_code n scope e at) i.TryJoin at (expression_size e)
        (expression_length n scope e at) refl (expression_leads e at (omega (arith, h)))

    items_lead : (items : List PrintItem) (at : ℕ) → at + items_size items ≤ last
        → AllLead back last at (items_code n scope items at)
    items_lead [] at h = nothing
    items_lead (text p bytes ∷ items) at h = items_lead items at h
    items_lead (shown e ∷ items) at h =
        parts_lead back last (expression_code n scope e at) (items_code n scope items (at + expression_size e)) at
        (expression_size e) (expression_length n scope e at)
        (expression_leads e at (omega (arith, h)))
        (items_lead items (at + expression_size e) (omega (arith, h)))

    -- a Return may stand at the last place
    returned_leads : (e : Option Expression) (at : ℕ) → at + returned_size e ≤ suc last
        → AllLead back last at (returned_code n scope e at)
    returned_leads None at h = (nothing, nothing)
    returned_leads (Some e) at h =
        one_leads back last (expression_code n scope e at) i.Return at (expression_size e)
        (expression_length n scope e at) refl (expression_leads e at (omega (arith, h)))

  dropped_leads : (gives : Bool) (at : ℕ) → AllLead back last at (dropped gives)
  dropped_leads true at = (nothing, nothing)
  dropped_leads false at = nothing

  leap_leads : (has_last : Bool) (rest : Arms) (end at : ℕ) → at + leap_size has_last rest ≤ end → end ≤ last
      → AllLead back last at (leap has_last rest end)
  leap_leads true no_arms end at h k = (forward at end (omega (arith, h)) k, nothing)
  leap_leads false no_arms end at h k = nothing
  leap_leads true (arm test body rest) end at h k = (forward at end (omega (arith, h)) k, nothing)
  leap_leads false (arm test body rest) end at h k = (forward at end (omega (arith, h)) k, nothing)

-- ---- statements

some_size : (n : Numbers) (x : Statement) → 1 ≤ statement_size n x
some_size n (statement p line form) = omega arith

module _ (whole : List Instr) (last : ℕ) (n : Numbers) where
  Back : ℕ → Type 0
  Back to = ChargeAt whole to

  charge_at : (at line : ℕ) → slice_get whole at ≡ Some (i.Charge line) → ChargeAt whole at
  charge_at at line h = ap is_charge h

  mutual
    pub statement_leads : (scope : Scope) (x : Statement) (s : Spot) → HasAt whole s.at (statement_code n scope x s)
        → s.at + statement_size n x ≤ last → AllLead (ChargeAt whole) last s.at (statement_code n scope x s)
    statement_leads scope (statement p line form) s here h =
        let e : suc s.at ≡ s.at + 1 = omega arith in (
          nothing,
          subst (λ p. AllLead (ChargeAt whole) last p (statement_form_code n scope form s.at (ahead s 1))) (sym e)
              (statement_form_leads scope form s.at (ahead s 1) (charge_at s.at line here.0)
              (subst (λ p. HasAt whole p (statement_form_code n scope form s.at (ahead s 1))) e here.1)
              (omega (arith, h))),
        )

    statement_form_leads : (scope : Scope) (form : StatementForm) (head : ℕ) (s : Spot) → ChargeAt whole head
        → HasAt whole s.at (statement_form_code n scope form head s) → s.at + statement_form_size n form ≤ last
        → AllLead (ChargeAt whole) last s.at (statement_form_code n scope form head s)
    statement_form_leads scope (bind w r) head s c here h =
        one_leads (ChargeAt whole) last (right_side_code n scope r s.at) (i.StoreLocal s.local) s.at (right_side_size r)
        (right_side_length n scope r s.at) refl
        (right_side_leads (ChargeAt whole) last n scope r s.at (omega (arith, h)))
    statement_form_leads scope (assign w r) head s c here h =
        one_leads (ChargeAt whole) last (right_side_code n scope r s.at) (store n w (find w.text scope)) s.at
        (right_side_size r) (right_side_length n scope r s.at) (store_target n w (find w.text scope))
        (right_side_leads (ChargeAt whole) last n scope r s.at (omega (arith, h)))
    statement_form_leads scope (assign_cell w index e) head s c here h =
        let at : ℕ = s.at + expression_size index + 1 in
        let p = around (expression_code n scope index s.at) (expression_code n scope e at) (i.CheckCell (n.var w.text))
        (expression_size index) (expression_size e) (expression_length n scope index s.at)
        (expression_length n scope e at) in
        one_leads (ChargeAt whole) last
        (expression_code n scope index s.at ++ i.CheckCell (n.var w.text) ∷ expression_code n scope e at)
        (i.StoreCell (n.var w.text)) s.at (expression_size index + 1 + expression_size e) p refl
        (around_leads (ChargeAt whole) last (expression_code n scope index s.at) (expression_code n scope e at)
        (i.CheckCell (n.var w.text)) s.at (expression_size index) at (expression_length n scope index s.at) refl
        (expression_leads (ChargeAt whole) last n scope index s.at (omega (arith, h)))
        nothing
        (expression_leads (ChargeAt whole) last n scope e at (omega (arith, h))))
    statement_form_leads scope (choose arms) head s c here h =
        arms_lead scope false arms (s.at + arms_size n false arms) s here (omega arith) (omega (arith, h))
    statement_form_leads scope (choose_or arms xs) head s c here h =
        let end : ℕ = s.at + arms_size n true arms + statements_size n xs in
        let size = arms_length n scope true arms end s in
        let parts =
        parts_stand whole (arms_code n scope true arms end s) (statements_code n scope xs (behind_arms n s true arms))
        s.at (arms_size n true arms) size here in
        parts_lead (ChargeAt whole) last (arms_code n scope true arms end s)
        (statements_code n scope xs (behind_arms n s true arms)) s.at (arms_size n true arms) size
        (arms_lead scope true arms end s parts.0 (omega arith) (omega (arith, h)))
        (statements_lead scope xs (behind_arms n s true arms) parts.1 (omega (arith, h)))
    statement_form_leads scope (repeat test body) head s c here h =
        let leave : Instr = i.JumpIfFalse (s.at + expression_size test + 1 + statements_size n body + 1) in
        let turn : List Instr =
        expression_code n scope test s.at ++ leave ∷ statements_code n scope body (in_arm s test) in
        let size =
        around (expression_code n scope test s.at) (statements_code n scope body (in_arm s test)) leave
        (expression_size test) (statements_size n body) (expression_length n scope test s.at)
        (statements_length n scope body (in_arm s test)) in
        let next : s.at + (expression_size test + 1) ≡ s.at + expression_size test + 1 = omega arith in
        let parts =
        parts_stand whole turn (i.Jump head ∷ []) s.at (expression_size test + 1 + statements_size n body) size here in
        let inner =
        around_stands whole (expression_code n scope test s.at) (statements_code n scope body (in_arm s test)) leave
        s.at (expression_size test) (s.at + (expression_size test + 1)) (expression_length n scope test s.at) next
        parts.0 in
        parts_lead (ChargeAt whole) last turn (i.Jump head ∷ []) s.at
        (expression_size test + 1 + statements_size n body) size
        (around_leads (ChargeAt whole) last (expression_code n scope test s.at)
        (statements_code n scope body (in_arm s test)) leave s.at (expression_size test)
        (s.at + (expression_size test + 1)) (expression_length n scope test s.at) next
        (expression_leads (ChargeAt whole) last n scope test s.at (omega (arith, h)))
        (forward (ChargeAt whole) last (s.at + expression_size test)
        (s.at + expression_size test + 1 + statements_size n body + 1) (omega arith) (omega (arith, h)))
        (statements_lead scope body (in_arm s test) inner.1.1 (omega (arith, h))))
        (inr c, nothing)
    statement_form_leads scope (call w args) head s c here h =
        around_leads (ChargeAt whole) last (expressions_code n scope args s.at) (dropped (n.gives w.text))
        (i.Call (n.proc w.text)) s.at (expressions_size args) (s.at + expressions_size args + 1)
        (expressions_length n scope args s.at) refl
        (expressions_lead (ChargeAt whole) last n scope args s.at (omega (arith, h)))
        nothing
        (dropped_leads (ChargeAt whole) last (n.gives w.text) (s.at + expressions_size args + 1))
    statement_form_leads scope (return e) head s c here h =
        returned_leads (ChargeAt whole) last n scope e s.at (omega (arith, h))
    statement_form_leads scope (fork w args) head s c here h =
        parts_lead (ChargeAt whole) last (expressions_code n scope args s.at) (i.Fork (n.proc w.text) ∷ i.Pop ∷ []) s.at
        (expressions_size args) (expressions_length n scope args s.at)
        (expressions_lead (ChargeAt whole) last n scope args s.at (omega (arith, h)))
        (nothing, (nothing, nothing))
    statement_form_leads scope (join e) head s c here h =
        one_leads (ChargeAt whole) last (expression_code n scope e s.at) i.Join s.at (expression_size e)
        (expression_length n scope e s.at) refl
        (expression_leads (ChargeAt whole) last n scope e s.at (omega (arith, h)))
    statement_form_leads scope (print items) head s c here h =
        one_leads (ChargeAt whole) last (items_code n scope items s.at) (i.Print s.layout) s.at (items_size items)
        (items_length n scope items s.at) refl (items_lead (ChargeAt whole) last n scope items s.at (omega (arith, h)))
    statement_form_leads scope (assert e) head s c here h =
        one_leads (ChargeAt whole) last (expression_code n scope e s.at) i.Assert s.at (expression_size e)
        (expression_length n scope e s.at) refl
        (expression_leads (ChargeAt whole) last n scope e s.at (omega (arith, h)))

    pub statements_lead : (scope : Scope) (xs : Statements) (s : Spot) → HasAt whole s.at (statements_code n scope xs s)
        → s.at + statements_size n xs ≤ last → AllLead (ChargeAt whole) last s.at (statements_code n scope xs s)
    statements_lead scope no_statements s here h = nothing
    statements_lead scope (statements x rest) s here h =
        let behind : Spot = behind_statement n s x in
        let more : List Instr = statements_code n (scope_after scope s.local x) rest behind in
        let parts =
        parts_stand whole (statement_code n scope x s) more s.at (statement_size n x) (statement_length n scope x s)
        here in
        parts_lead (ChargeAt whole) last (statement_code n scope x s) more s.at (statement_size n x)
        (statement_length n scope x s)
        (statement_leads scope x s parts.0 (omega (arith, h)))
        (statements_lead (scope_after scope s.local x) rest behind parts.1 (omega (arith, h)))

    arms_lead : (scope : Scope) (has_last : Bool) (arms : Arms) (end : ℕ) (s : Spot)
        → HasAt whole s.at (arms_code n scope has_last arms end s) → s.at + arms_size n has_last arms ≤ end → end ≤ last
        → AllLead (ChargeAt whole) last s.at (arms_code n scope has_last arms end s)
    arms_lead scope has_last no_arms end s here h k = nothing
    arms_lead scope has_last (arm test body rest) end s here h k =
        let next : Spot = next_arm n s has_last test body rest in
        let first : ℕ = expression_size test + 1 + statements_size n body in
        let tested : List Instr =
        expression_code n scope test s.at ++ i.JumpIfFalse next.at ∷ statements_code n scope body (in_arm s test) in
        let size =
        around (expression_code n scope test s.at) (statements_code n scope body (in_arm s test))
        (i.JumpIfFalse next.at) (expression_size test) (statements_size n body) (expression_length n scope test s.at)
        (statements_length n scope body (in_arm s test)) in
        let both =
        two tested (leap has_last rest end) first (leap_size has_last rest) size (leap_length has_last rest end) in
        let inside : s.at + (expression_size test + 1) ≡ s.at + expression_size test + 1 = omega arith in
        let there : s.at + (first + leap_size has_last rest) ≡ next.at = omega arith in
        let outer =
        parts_stand whole (tested ++ leap has_last rest end) (arms_code n scope has_last rest end next) s.at
        (first + leap_size has_last rest) both here in
        let front = parts_stand whole tested (leap has_last rest end) s.at first size outer.0 in
        let inner =
        around_stands whole (expression_code n scope test s.at) (statements_code n scope body (in_arm s test))
        (i.JumpIfFalse next.at) s.at (expression_size test) (s.at + (expression_size test + 1))
        (expression_length n scope test s.at) inside front.0 in
        parts_lead (ChargeAt whole) last (tested ++ leap has_last rest end) (arms_code n scope has_last rest end next)
        s.at (first + leap_size has_last rest) both
        (parts_lead (ChargeAt whole) last tested (leap has_last rest end) s.at first size
        (around_leads (ChargeAt whole) last (expression_code n scope test s.at)
        (statements_code n scope body (in_arm s test)) (i.JumpIfFalse next.at) s.at (expression_size test)
        (s.at + (expression_size test + 1)) (expression_length n scope test s.at) inside
        (expression_leads (ChargeAt whole) last n scope test s.at (omega (arith, h, k)))
        (forward (ChargeAt whole) last (s.at + expression_size test) next.at (omega arith) (omega (arith, h, k)))
        (statements_lead scope body (in_arm s test) inner.1.1 (omega (arith, h, k))))
        (leap_leads (ChargeAt whole) last has_last rest end (s.at + first) (omega (arith, h)) k))
        (subst (λ p. AllLead (ChargeAt whole) last p (arms_code n scope has_last rest end next)) (sym there)
        (arms_lead scope has_last rest end next
        (subst (λ p. HasAt whole p (arms_code n scope has_last rest end next)) there outer.1) (omega (arith, h)) k))

  -- ---- behind a last `return` nothing has to stand

  last_leads : (scope : Scope) (form : StatementForm) (s : Spot) (head : ℕ) → is_return form ≡ true
      → s.at + statement_form_size n form ≤ suc last
      → AllLead (ChargeAt whole) last s.at (statement_form_code n scope form head s)
  last_leads scope (return e) s head r h = returned_leads (ChargeAt whole) last n scope e s.at h
  last_leads scope (bind w e) s head r h = absurd (true≢false (sym r))
  last_leads scope (assign w e) s head r h = absurd (true≢false (sym r))
  last_leads scope (assign_cell w index e) s head r h = absurd (true≢false (sym r))
  last_leads scope (choose arms) s head r h = absurd (true≢false (sym r))
  last_leads scope (choose_or arms xs) s head r h = absurd (true≢false (sym r))
  last_leads scope (repeat test body) s head r h = absurd (true≢false (sym r))
  last_leads scope (call w args) s head r h = absurd (true≢false (sym r))
  last_leads scope (fork w args) s head r h = absurd (true≢false (sym r))
  last_leads scope (join e) s head r h = absurd (true≢false (sym r))
  last_leads scope (print items) s head r h = absurd (true≢false (sym r))
  last_leads scope (assert e) s head r h = absurd (true≢false (sym r))

  pub returning_leads : (scope : Scope) (xs : Statements) (s : Spot) → ends_in_return xs ≡ true
      → HasAt whole s.at (statements_code n scope xs s) → s.at + statements_size n xs ≤ suc last
      → AllLead (ChargeAt whole) last s.at (statements_code n scope xs s)
  returning_leads scope no_statements s r here h = nothing
  returning_leads scope (statements (statement p line form) no_statements) s r here h =
      let x : Statement = statement p line form in
      let e : s.at + 1 ≡ suc s.at = omega arith in
      parts_lead (ChargeAt whole) last (statement_code n scope x s) [] s.at (statement_size n x)
      (statement_length n scope x s) (
        nothing,
        subst (λ p. AllLead (ChargeAt whole) last p (statement_form_code n scope form s.at (ahead s 1))) e
            (last_leads scope form (ahead s 1) s.at r (omega (arith, h))),
      )
      nothing
  returning_leads scope (statements x (statements y rest)) s r here h =
      let behind : Spot = behind_statement n s x in
      let more : List Instr = statements_code n (scope_after scope s.local x) (statements y rest) behind in
      let parts =
      parts_stand whole (statement_code n scope x s) more s.at (statement_size n x) (statement_length n scope x s)
      here in
      let some = some_size n y in
      parts_lead (ChargeAt whole) last (statement_code n scope x s) more s.at (statement_size n x)
      (statement_length n scope x s)
      (statement_leads scope x s parts.0 (omega (arith, h, some)))
      (returning_leads (scope_after scope s.local x) (statements y rest) behind r parts.1 (omega (arith, h)))
