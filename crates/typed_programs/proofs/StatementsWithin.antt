-- A body breaks no limit exactly where its counts are within the limits.
use Rattle.std.proofs.Common.{◌≡◌, ◌∙◌, ◌≢◌, ℕ, ◌+◌, ◌-◌, ◌<◌, cond, nat_eq, Option, List, [], ◌∷◌, ◌++◌, refl, length, arith}
use Rattle.rev_num.specs.declared.value.ValueKind.{ValueKind}
use Rattle.rev_num.specs.declared.value.ValueKind.TheVariants as k
use Rattle.rev_syntax.specs.Trees.{PrintItem, text, shown, Statement, statement, StatementForm, bind, assign, assign_cell, choose, choose_or, repeat, call, return, fork, join, print, assert, Statements, no_statements, statements, Arms, no_arms, arm}
use Rattle.name_tables.specs.Table.{find}
use Rattle.rev_report.specs.declared.limit.Limit.{Limit}
use Rattle.rev_report.specs.declared.limit.Limit.TheVariants as limits
use Rattle.typed_programs.specs.declared.fault.TypeFault.{TypeFault}
use Rattle.rev_report.specs.Limits.{first_past}
use Rattle.typed_programs.specs.Kinds.{Names, Locals, kind_in, expression_place, item_place}
use Rattle.typed_programs.specs.Rules as r
use Rattle.typed_programs.proofs.Lists.{parts, failed, unequal}
use Rattle.typed_programs.proofs.Typings.{All, one, app}
use Rattle.typed_programs.specs.Statements as s
use Rattle.typed_programs.specs.Scopes as scopes
use Rattle.typed_programs.specs.Limits.{statement_lets, statement_form_lets, statements_lets, arms_lets, StatementPrints, StatementFormPrints, StatementsPrint, ArmsPrint}
use Rattle.typed_programs.proofs.StatementsFaults.{ListHolds, StatementHolds, StatementFormHolds, StatementsHold, ArmsHold}

-- ---- how many locals are left

none_used : (n : ℕ) → n ≡ n - 0
none_used n = omega arith

both_used : (n m a b : ℕ) → m ≡ n - a → m - b ≡ n - (a + b)
both_used n m a b e = omega arith

mutual
  statement_left : (n : ℕ) (x : Statement) → s.left_after n x ≡ n - statement_lets x
  statement_left n (statement at line form) = statement_form_left n form

  statement_form_left : (n : ℕ) (x : StatementForm) → s.left_statement_form n x ≡ n - statement_form_lets x
  statement_form_left n (bind w x) = refl
  statement_form_left n (choose arms) = arms_left n arms
  statement_form_left n (choose_or arms last) =
      statements_left (s.left_arms n arms) last
      ∙ both_used n (s.left_arms n arms) (arms_lets arms) (statements_lets last) (arms_left n arms)
  statement_form_left n (repeat test body) = statements_left n body
  statement_form_left n (assign w x) = none_used n
  statement_form_left n (assign_cell w index e) = none_used n
  statement_form_left n (call w args) = none_used n
  statement_form_left n (return e) = none_used n
  statement_form_left n (fork w args) = none_used n
  statement_form_left n (join e) = none_used n
  statement_form_left n (print items) = none_used n
  statement_form_left n (assert e) = none_used n

  pub statements_left : (n : ℕ) (ss : Statements) → s.left_statements n ss ≡ n - statements_lets ss
  statements_left n no_statements = none_used n
  statements_left n (statements x rest) =
      statements_left (s.left_after n x) rest
      ∙ both_used n (s.left_after n x) (statement_lets x) (statements_lets rest) (statement_left n x)

  arms_left : (n : ℕ) (xs : Arms) → s.left_arms n xs ≡ n - arms_lets xs
  arms_left n no_arms = none_used n
  arms_left n (arm test body rest) =
      arms_left (s.left_statements n body) rest
      ∙ both_used n (s.left_statements n body) (statements_lets body) (arms_lets rest) (statements_left n body)

-- of what is used in two parts
first_part : (a b n : ℕ) → a + b < n → a < n
first_part a b n h = omega arith

second_part : (a b n m : ℕ) → m ≡ n - a → a + b < n → b < m
second_part a b n m e h = omega arith

joined : (a b n m : ℕ) → m ≡ n - a → a < n → b < m → a + b < n
joined a b n m e h g = omega arith

some_left : (a n m : ℕ) → m ≡ n - a → a < n → 0 < m
some_left a n m e h = omega arith

-- ---- within the limits none is broken

abbrev pub Never : TypeFault → Type 0
Never f = ⊥

more_left : (n left : ℕ) → n + 1 < left → left ≡ 1 → ⊥
more_left n left h e = omega arith

pub list_never : {A : Type 0} (what : Limit) (place : A → ℕ) (left : ℕ) (xs : List A) → length xs < left
    → ListHolds Never what place left xs
list_never what place left [] h = tt
list_never what place left (x ∷ xs) h = (
  λ e. more_left (length xs) left (let g : length xs + 1 < left = omega arith in g) e,
  list_never what place (left - 1) xs (let g : length xs < left - 1 = omega arith in g),
)

mutual
  statement_never : (left : ℕ) (x : Statement) → statement_lets x < left → StatementPrints x
      → StatementHolds Never left x
  statement_never left (statement at line form) h g = statement_form_never left form h g

  statement_form_never : (left : ℕ) (x : StatementForm) → statement_form_lets x < left → StatementFormPrints x
      → StatementFormHolds Never left x
  statement_form_never left (bind w x) h g = λ e. more_left 0 left h e
  statement_form_never left (choose arms) h g = arms_never left arms h g
  statement_form_never left (choose_or arms last) h g = (
    arms_never left arms (first_part (arms_lets arms) (statements_lets last) left h) g.0,
    statements_never (s.left_arms left arms) last
        (second_part (arms_lets arms) (statements_lets last) left (s.left_arms left arms) (arms_left left arms) h) g.1,
  )
  statement_form_never left (repeat test body) h g = statements_never left body h g
  statement_form_never left (print items) h g =
      list_never limits.Items item_place (first_past limits.Items) items
      (let f : length items < first_past limits.Items = omega arith in f)
  statement_form_never left (assign w x) h g = tt
  statement_form_never left (assign_cell w index e) h g = tt
  statement_form_never left (call w args) h g = tt
  statement_form_never left (return e) h g = tt
  statement_form_never left (fork w args) h g = tt
  statement_form_never left (join e) h g = tt
  statement_form_never left (assert e) h g = tt

  pub statements_never : (left : ℕ) (ss : Statements) → statements_lets ss < left → StatementsPrint ss
      → StatementsHold Never left ss
  statements_never left no_statements h g = tt
  statements_never left (statements x rest) h g = (
    statement_never left x (first_part (statement_lets x) (statements_lets rest) left h) g.0,
    statements_never (s.left_after left x) rest
        (second_part (statement_lets x) (statements_lets rest) left (s.left_after left x) (statement_left left x) h)
        g.1,
  )

  arms_never : (left : ℕ) (xs : Arms) → arms_lets xs < left → ArmsPrint xs → ArmsHold Never left xs
  arms_never left no_arms h g = tt
  arms_never left (arm test body rest) h g = (
    statements_never left body (first_part (statements_lets body) (arms_lets rest) left h) g.0,
    arms_never (s.left_statements left body) rest
        (second_part (statements_lets body) (arms_lets rest) left (s.left_statements left body)
        (statements_left left body) h)
        g.1,
  )

-- ---- where none is broken, the counts are within the limits

pub not_last : (left : ℕ) (f : TypeFault) → cond (nat_eq left 1) (f ∷ []) [] ≡ [] → left ≢ 1
not_last left f h = unequal left 1 (failed (nat_eq left 1) f h)

pub one_less : (left : ℕ) → left ≢ 1 → 0 < left → 0 < left - 1
one_less left n h = omega arith

pub one_more : (n left : ℕ) → 0 < left → n < left - 1 → n + 1 < left
one_more n left h g = omega arith

item_left : (c : Names) (l : Locals) (left : ℕ) (x : PrintItem) → s.item_by [] one app c l left x ≡ [] → left ≢ 1
item_left c l left (text at bytes) h = not_last left _ h
item_left c l left (shown e) h =
    not_last left _
    (parts (r.broken_in_expression [] one app c l e ++ r.not_rev [] one app (expression_place e) (kind_in c l e)) _ h).1

items_within : (c : Names) (l : Locals) (left : ℕ) (found : All) (xs : List PrintItem)
    → s.items_by [] one app c l left found xs ≡ [] → (found ≡ []) × (0 < left → length xs < left)
items_within c l left found [] h = (h, λ g. g)
items_within c l left found (x ∷ xs) h =
    let rest = items_within c l (left - 1) (found ++ s.item_by [] one app c l left x) xs h in
    let here = parts found _ rest.0 in
    let more = item_left c l left x here.1 in (
      here.0,
      λ g. let e : length xs + 1 < left = one_more (length xs) left g (rest.1 (one_less left more g)) in omega arith,
    )

mutual
  statement_within : (c : Names) (result : Option ValueKind) (l : Locals) (left : ℕ) (x : Statement)
      → s.broken_in_statement [] one app c result l left x ≡ [] → 0 < left
      → (statement_lets x < left) × StatementPrints x
  statement_within c result l left (statement at line form) h g = statement_form_within c result l left at form h g

  statement_form_within : (c : Names) (result : Option ValueKind) (l : Locals) (left at : ℕ) (x : StatementForm)
      → s.broken_in_statement_form [] one app c result l left at x ≡ [] → 0 < left
      → (statement_form_lets x < left) × StatementFormPrints x
  statement_form_within c result l left at (bind w x) h g =
      let both = parts (r.broken_in_right_side [] one app c l x) _ h in
      let last = parts (s.new_local [] one app w (find w.text l) (c.shared w.text)) _ both.1 in
      let n = not_last left _ last.1 in
      (omega arith, tt)
  statement_form_within c result l left at (choose arms) h g = (arms_within c result l left [] arms h).1 g
  statement_form_within c result l left at (choose_or arms last) h g =
      let both = parts (s.broken_in_arms [] one app c result l left [] arms) _ h in
      let first = (arms_within c result l left [] arms both.0).1 g in
      let rest =
      (statements_within c result l (s.left_arms left arms) [] last both.1).1
      (some_left (arms_lets arms) left (s.left_arms left arms) (arms_left left arms) first.0) in (
        joined (arms_lets arms) (statements_lets last) left (s.left_arms left arms) (arms_left left arms) first.0
            rest.0,
        (first.1, rest.1),
      )
  statement_form_within c result l left at (repeat test body) h g =
      (statements_within c result l left [] body (parts (r.part_by [] one app c l test k.Bool) _ h).1).1 g
  statement_form_within c result l left at (print items) h g = (
    g,
    (let e : length items < first_past limits.Items =
        (items_within c l (first_past limits.Items) [] items h).1 (omega arith) in
        omega arith),
  )
  statement_form_within c result l left at (assign w x) h g = (g, tt)
  statement_form_within c result l left at (assign_cell w index e) h g = (g, tt)
  statement_form_within c result l left at (call w args) h g = (g, tt)
  statement_form_within c result l left at (return e) h g = (g, tt)
  statement_form_within c result l left at (fork w args) h g = (g, tt)
  statement_form_within c result l left at (join e) h g = (g, tt)
  statement_form_within c result l left at (assert e) h g = (g, tt)

  pub statements_within : (c : Names) (result : Option ValueKind) (l : Locals) (left : ℕ) (found : All)
      (ss : Statements)
      → s.broken_in_statements [] one app c result l left found ss ≡ []
      → (found ≡ []) × (0 < left → (statements_lets ss < left) × StatementsPrint ss)
  statements_within c result l left found no_statements h = (h, λ g. (g, tt))
  statements_within c result l left found (statements x rest) h =
      let more =
      statements_within c result (scopes.locals_after c l x) (s.left_after left x)
      (found ++ s.broken_in_statement [] one app c result l left x) rest h in
      let here = parts found _ more.0 in (
        here.0,
        λ g.
            let first = statement_within c result l left x here.1 g in
            let last =
            more.1 (some_left (statement_lets x) left (s.left_after left x) (statement_left left x) first.0) in (
              joined (statement_lets x) (statements_lets rest) left (s.left_after left x) (statement_left left x)
                  first.0 last.0,
              (first.1, last.1),
            ),
      )

  arms_within : (c : Names) (result : Option ValueKind) (l : Locals) (left : ℕ) (found : All) (xs : Arms)
      → s.broken_in_arms [] one app c result l left found xs ≡ []
      → (found ≡ []) × (0 < left → (arms_lets xs < left) × ArmsPrint xs)
  arms_within c result l left found no_arms h = (h, λ g. (g, tt))
  arms_within c result l left found (arm test body rest) h =
      let more =
      arms_within c result l (s.left_statements left body)
      (found ++ (r.part_by [] one app c l test k.Bool ++ s.broken_in_statements [] one app c result l left [] body))
      rest h in
      let here = parts found _ more.0 in
      let both = parts (r.part_by [] one app c l test k.Bool) _ here.1 in (
        here.0,
        λ g.
            let first = (statements_within c result l left [] body both.1).1 g in
            let last =
            more.1
            (some_left (statements_lets body) left (s.left_statements left body) (statements_left left body)
            first.0) in (
              joined (statements_lets body) (arms_lets rest) left (s.left_statements left body)
                  (statements_left left body) first.0 last.0,
              (first.1, last.1),
            ),
      )
