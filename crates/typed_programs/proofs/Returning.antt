-- The blocks that return.
use Rattle.std.proofs.Common.{◌≡◌, ◌⊎◌, ℕ, inl, inr, Bool, true, false, cond, refl, sym, subst, true≢false}
use Rattle.rev_syntax.specs.Trees.{Statement, statement, StatementForm, bind, assign, assign_cell, choose, choose_or, repeat, call, return, fork, join, print, assert, Statements, no_statements, statements, Arms, no_arms, arm}
use Rattle.typed_programs.specs.Statements.{statement_returns, statement_form_returns, statements_return, arms_return, returns}
use Rattle.typed_programs.specs.Judgement.{Ends, by_return, by_if, behind, AllEnd, no_more, one_more}
use Rattle.rev_num.proofs.Lists.{false_no as never}

pub both_true : (x y : Bool) → cond x y false ≡ true → (x ≡ true) × (y ≡ true)
both_true true y h = (refl, h)
both_true false y h = absurd (true≢false (sym h))

is_both : (x y : Bool) → x ≡ true → y ≡ true → cond x y false ≡ true
is_both true y a b = b
is_both false y a b = absurd (true≢false (sym a))

some_end : (ss : Statements) → Ends ss ⊎ ((ss ≡ no_statements) × (false ≡ true)) → Ends ss
some_end ss (inl e) = e
some_end ss (inr h) = never h.1

mutual
  statements_end : (b : Bool) (ss : Statements) → statements_return b ss ≡ true
      → Ends ss ⊎ ((ss ≡ no_statements) × (b ≡ true))
  statements_end b no_statements h = inr (refl, h)
  statements_end b (statements x rest) h = elim (statements_end (statement_returns x) rest h) [
    | inl e ↦ inl (behind e)
    | inr g ↦ inl (subst (λ z. Ends (statements x z)) (sym g.0) (statement_end x g.1))
  ]

  statement_end : (x : Statement) → statement_returns x ≡ true → Ends (statements x no_statements)
  statement_end (statement at line form) h = statement_form_end at line form h

  statement_form_end : (at line : ℕ) (form : StatementForm) → statement_form_returns form ≡ true
      → Ends (statements (statement at line form) no_statements)
  statement_form_end at line (return e) h = by_return
  statement_form_end at line (choose_or arms last) h =
      let g = both_true (arms_return true arms) (statements_return false last) h in
      by_if (arms_end true arms g.0).1 (some_end last (statements_end false last g.1))
  statement_form_end at line (choose arms) h = never h
  statement_form_end at line (bind w x) h = never h
  statement_form_end at line (assign w x) h = never h
  statement_form_end at line (assign_cell w i e) h = never h
  statement_form_end at line (repeat test body) h = never h
  statement_form_end at line (call w args) h = never h
  statement_form_end at line (fork w args) h = never h
  statement_form_end at line (join e) h = never h
  statement_form_end at line (print xs) h = never h
  statement_form_end at line (assert e) h = never h

  arms_end : (b : Bool) (arms : Arms) → arms_return b arms ≡ true → (b ≡ true) × AllEnd arms
  arms_end b no_arms h = (h, no_more)
  arms_end b (arm test body rest) h =
      let g = arms_end (cond b (statements_return false body) false) rest h in
      let e = both_true b (statements_return false body) g.0 in
      (e.0, one_more (some_end body (statements_end false body e.1)) g.1)

mutual
  ends_by : {ss : Statements} → Ends ss → (b : Bool) → statements_return b ss ≡ true
  ends_by by_return b = refl
  ends_by (by_if {arms = arms} {last = last} a e) b =
      is_both (arms_return true arms) (statements_return false last) (all_by a true refl) (ends_by e false)
  ends_by (behind {s = s} e) b = ends_by e (statement_returns s)

  all_by : {arms : Arms} → AllEnd arms → (b : Bool) → b ≡ true → arms_return b arms ≡ true
  all_by no_more b h = h
  all_by (one_more {body = body} {rest = rest} e a) b h =
      all_by a (cond b (statements_return false body) false)
      (is_both b (statements_return false body) h (ends_by e false))

pub ends_return : (ss : Statements) → Ends ss → returns ss ≡ true
ends_return ss e = ends_by e false

pub returns_end : (ss : Statements) → returns ss ≡ true → Ends ss
returns_end ss h = some_end ss (statements_end false ss h)

pub not_ending : (ss : Statements) → (Ends ss → ⊥) → returns ss ≡ false
not_ending ss n = by (returns ss) refl
  where
    by : (b : Bool) → returns ss ≡ b → b ≡ false
    by true h = absurd (n (returns_end ss h))
    by false h = refl

pub none_end : Ends no_statements → ⊥
none_end e = true≢false (sym (ends_return no_statements e))
