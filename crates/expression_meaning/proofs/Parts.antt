-- The names in scope go on behind a statement.
use Rattle.std.proofs.Common.{◌≡◌, ◌∙◌, ◌<◌, ◌≤◌, ℕ, suc, ◌+◌, Bool, true, false, Option, Some, None, List, refl, sym, ap, subst, arith}
use Rattle.std.specs.Prelude.{slice_get, if◌then◌else◌}
use Rattle.rev_num.specs.declared.value.ValueKind.{ValueKind}
use Rattle.rev_syntax.specs.Trees.{Statement, statement, bind, assign, assign_cell, choose, choose_or, repeat, call, return, fork, join, print, assert}
use Rattle.name_tables.specs.Names.{Name, same}
use Rattle.name_tables.specs.Table.{find, added}
use Rattle.name_tables.proofs.Tables.{same_equal, or_else, or_else-none, find-added}
use Rattle.typed_programs.specs.Kinds.{Names, Locals}
use Rattle.typed_programs.specs.Judgement.{StatementTyped}
use Rattle.typed_programs.specs.Limits.{statement_lets}
use Rattle.typed_programs.proofs.Scopes.{right_side_is}
use Rattle.code_generation.specs.Numbers.{Scope, scope_after}
use Rattle.code_generation.specs.Prints.{statement_kinds}
use Rattle.code_generation.specs.Stands.{HasItems}
use Rattle.expression_meaning.specs.Places.{IsWithin, AreNames}

-- ---- scopes

pub within_self : (l : Scope) → IsWithin l l
within_self l name m h = h

pub within_trans : (l m n : Scope) → IsWithin l m → IsWithin m n → IsWithin l n
within_trans l m n p q name t h = q name t (p name t h)

within_added : (l : Scope) (w : Name) (t : ℕ) → IsWithin l (added l w t)
within_added l w t name u h = find-added name w t l ∙ ap (λ o. or_else o (if same name w then Some t else None)) h

-- a statement forgets no name
pub statement_within : (scope : Scope) (next : ℕ) (x : Statement) → IsWithin scope (scope_after scope next x)
statement_within scope next (statement at line (bind w r)) = within_added scope w.text next
statement_within scope next (statement at line (assign w r)) = within_self scope
statement_within scope next (statement at line (assign_cell w i e)) = within_self scope
statement_within scope next (statement at line (choose arms)) = within_self scope
statement_within scope next (statement at line (choose_or arms last)) = within_self scope
statement_within scope next (statement at line (repeat test body)) = within_self scope
statement_within scope next (statement at line (call w args)) = within_self scope
statement_within scope next (statement at line (return e)) = within_self scope
statement_within scope next (statement at line (fork w args)) = within_self scope
statement_within scope next (statement at line (join e)) = within_self scope
statement_within scope next (statement at line (print items)) = within_self scope
statement_within scope next (statement at line (assert e)) = within_self scope

module _ (kinds : List ValueKind) where
  -- the next local has a greater number
  pub names_later : (scope : Scope) (l : Locals) (m n : ℕ) → m ≤ n → AreNames kinds scope l m → AreNames kinds scope l n
  names_later scope l m n le are = record {
    local = are.local;
    kind = are.kind;
    below = λ name j h. (let z = are.below name j h in omega (arith, z, le));
    apart = are.apart;
  }

  -- a name without a kind has no number
  pub names_none : (scope : Scope) (l : Locals) (next : ℕ) (name : Name) → AreNames kinds scope l next
      → find name l ≡ None → find name scope ≡ None
  names_none scope l next name are h = by (find name scope) refl
    where
      by : (o : Option ℕ) → find name scope ≡ o → find name scope ≡ None
      by None e = e
      by (Some m) e = absurd (let d = are.kind name m e in let z : None ≡ Some (Some d.0) = sym h ∙ d.1 in cc)

  -- a new name
  pub names_added : (scope : Scope) (l : Locals) (next : ℕ) (w : Name) (t : ValueKind) → AreNames kinds scope l next
      → find w l ≡ None → slice_get kinds next ≡ Some t
      → AreNames kinds (added scope w next) (added l w (Some t)) (suc next)
  names_added scope l next w t are new here = record { local = local; kind = kind; below = below; apart = apart }
    where
      gone : find w scope ≡ None
      gone = names_none scope l next w are new

      -- the number of a name: the new one, or as before
      is_new : (name : Name) → same name w ≡ true → find name (added scope w next) ≡ Some next
      is_new name e =
          find-added name w next scope ∙ ap (λ d. or_else (find name scope) (if d then Some next else None)) e
          ∙ ap (λ o. or_else o (Some next)) (ap (λ y. find y scope) (same_equal name w e) ∙ gone)

      is_old : (name : Name) → same name w ≡ false → find name (added scope w next) ≡ find name scope
      is_old name e =
          find-added name w next scope ∙ ap (λ d. or_else (find name scope) (if d then Some next else None)) e
          ∙ or_else-none (find name scope)

      kind_new : (name : Name) → same name w ≡ true → find name (added l w (Some t)) ≡ Some (Some t)
      kind_new name e =
          find-added name w (Some t) l ∙ ap (λ d. or_else (find name l) (if d then Some (Some t) else None)) e
          ∙ ap (λ o. or_else o (Some (Some t))) (ap (λ y. find y l) (same_equal name w e) ∙ new)

      kind_old : (name : Name) → same name w ≡ false → find name (added l w (Some t)) ≡ find name l
      kind_old name e =
          find-added name w (Some t) l ∙ ap (λ d. or_else (find name l) (if d then Some (Some t) else None)) e
          ∙ or_else-none (find name l)

      local : (name : Name) (u : Option ValueKind) → find name (added l w (Some t)) ≡ Some u
          → (m : ℕ) × (find name (added scope w next) ≡ Some m)
      local name u h = by (same name w) refl
        where
          by : (d : Bool) → same name w ≡ d → (m : ℕ) × (find name (added scope w next) ≡ Some m)
          by true e = (next, is_new name e)
          by false e = let q = are.local name u (sym (kind_old name e) ∙ h) in (q.0, is_old name e ∙ q.1)

      kind : (name : Name) (m : ℕ) → find name (added scope w next) ≡ Some m
          → (u : ValueKind) × (find name (added l w (Some t)) ≡ Some (Some u)) × (slice_get kinds m ≡ Some u)
      kind name m h = by (same name w) refl
        where
          by : (d : Bool) → same name w ≡ d
              → (u : ValueKind) × (find name (added l w (Some t)) ≡ Some (Some u)) × (slice_get kinds m ≡ Some u)
          by true e = (
            t,
            kind_new name e,
            ap (slice_get kinds) (let z : Some m ≡ Some next = sym h ∙ is_new name e in let q : m ≡ next = cc in q)
                ∙ here,
          )
          by false e = let q = are.kind name m (sym (is_old name e) ∙ h) in (q.0, kind_old name e ∙ q.1, q.2)

      below : (name : Name) (m : ℕ) → find name (added scope w next) ≡ Some m → m < suc next
      below name m h = by (same name w) refl
        where
          by : (d : Bool) → same name w ≡ d → m < suc next
          by true e = let z : Some m ≡ Some next = sym h ∙ is_new name e in let q : m ≡ next = cc in omega (arith, q)
          by false e = let q = are.below name m (sym (is_old name e) ∙ h) in omega (arith, q)

      apart : (name other : Name) (m : ℕ) → find name (added scope w next) ≡ Some m
          → find other (added scope w next) ≡ Some m → name ≡ other
      apart name other m h j = by (same name w) (same other w) refl refl
        where
          less : (y : Name) → same y w ≡ false → find y (added scope w next) ≡ Some m → m < next
          less y e q = are.below y m (sym (is_old y e) ∙ q)

          by : (d f : Bool) → same name w ≡ d → same other w ≡ f → name ≡ other
          by true true e q = same_equal name w e ∙ sym (same_equal other w q)
          by true false e q =
              absurd (let z : Some m ≡ Some next = sym h ∙ is_new name e in
              let y : m ≡ next = cc in
              let x = less other q j in
              omega (arith, x, y))
          by false true e q =
              absurd (let z : Some m ≡ Some next = sym j ∙ is_new other q in
              let y : m ≡ next = cc in
              let x = less name e h in
              omega (arith, x, y))
          by false false e q = are.apart name other m (sym (is_old name e) ∙ h) (sym (is_old other q) ∙ j)

  names_same : (scope : Scope) (l after : Locals) (next n : ℕ) → AreNames kinds scope l next → after ≡ l
      → AreNames kinds scope after (next + n)
  names_same scope l after next n are e =
      subst (λ y. AreNames kinds scope y (next + n)) (sym e) (names_later scope l next (next + n) (omega arith) are)

  -- behind a statement
  pub names_after : (c : Names) (result : Option ValueKind) (scope : Scope) (l : Locals) (next : ℕ) (x : Statement)
      (after : Locals)
      → AreNames kinds scope l next → StatementTyped c result l x after → HasItems kinds next (statement_kinds c l x)
      → AreNames kinds (scope_after scope next x) after (next + statement_lets x)
  names_after c result scope l next (statement at line (bind w r)) after are h has =
      let kind = right_side_is c l r h.1.0 h.1.1 in
      let here : slice_get kinds next ≡ Some h.1.0 =
      has.0 ∙ ap (λ o. Some (Rattle.code_rules.specs.Shapes.kind_or_int o)) kind in
      subst (λ n. AreNames kinds (added scope w.text next) after n) (let z : suc next ≡ next + 1 = omega arith in z)
      (subst (λ y. AreNames kinds (added scope w.text next) y (suc next)) (sym h.1.2)
      (names_added scope l next w.text h.1.0 are h.0.0 here))
  names_after c result scope l next (statement at line (assign w r)) after are h has =
      names_same scope l after next _ are h.1
  names_after c result scope l next (statement at line (assign_cell w i e)) after are h has =
      names_same scope l after next _ are h.1
  names_after c result scope l next (statement at line (choose arms)) after are h has =
      names_same scope l after next _ are h.1
  names_after c result scope l next (statement at line (choose_or arms last)) after are h has =
      names_same scope l after next _ are h.1
  names_after c result scope l next (statement at line (repeat test body)) after are h has =
      names_same scope l after next _ are h.1
  names_after c result scope l next (statement at line (call w args)) after are h has =
      names_same scope l after next _ are h.1
  names_after c result scope l next (statement at line (return e)) after are h has =
      names_same scope l after next _ are h.1
  names_after c result scope l next (statement at line (fork w args)) after are h has =
      names_same scope l after next _ are h.1
  names_after c result scope l next (statement at line (join e)) after are h has =
      names_same scope l after next _ are h.1
  names_after c result scope l next (statement at line (print items)) after are h has =
      names_same scope l after next _ are h.1
  names_after c result scope l next (statement at line (assert e)) after are h has =
      names_same scope l after next _ are h.1
