-- Two expressions are equal exactly where the test says so.
use Rattle.std.proofs.Common.{◌≡◌, subst, ap, sym, ◌∙◌, refl, ℕ, ℤ, pos, negsuc, Bool, true, false, ◌&&◌, nat_eq, eq-eqb, if◌then◌else◌}
use Rattle.rev_num.specs.Value.{same_number, same_truth}
use Rattle.rev_num.proofs.Lists.{false_no}
use Rattle.rev_syntax.proofs.Lists.{same-number, same-self}
use Rattle.rev_syntax.specs.Trees.{PlacedName, Expression, placed, ExpressionForm, Expressions, Links, int, bool, no_rev, var, cell, apply, input, inputs, pick, unary, chain, no_expressions, expression, no_links, link}
use Rattle.rev_syntax.specs.declared.tree.UnaryOp.{UnaryOp}
use Rattle.rev_syntax.specs.declared.tree.UnaryOp.TheVariants as u
use Rattle.rev_syntax.specs.declared.tree.BinaryOp.{BinaryOp}
use Rattle.rev_syntax.specs.declared.tree.BinaryOp.TheVariants as b
use Rattle.name_tables.specs.Names.{same}
use Rattle.name_tables.proofs.Tables.{same_equal}
use Rattle.merge_kernels.specs.Equal.{op_number, same_unary, same_name, equal, equal_form, equal_all, equal_links}

both_true : (p q : Bool) → p && q ≡ true → (p ≡ true) × (q ≡ true)
both_true true q h = (refl, h)
both_true false q h = false_no h

true_both : (p q : Bool) → p ≡ true → q ≡ true → p && q ≡ true
true_both p q h k = (λ i. h i && k i)

self : (n : ℕ) → nat_eq n n ≡ true
self n = eq-eqb n n refl

number_is : (m n : ℤ) → same_number m n ≡ true → m ≡ n
number_is (pos m) (pos n) h = ap pos (same-number m n h)
number_is (pos m) (negsuc n) h = false_no h
number_is (negsuc m) (pos n) h = false_no h
number_is (negsuc m) (negsuc n) h = ap negsuc (same-number m n h)

number_self : (m : ℤ) → same_number m m ≡ true
number_self (pos m) = self m
number_self (negsuc m) = self m

truth_is : (d e : Bool) → same_truth d e ≡ true → d ≡ e
truth_is true true h = refl
truth_is true false h = false_no h
truth_is false true h = false_no h
truth_is false false h = refl

truth_self : (d : Bool) → same_truth d d ≡ true
truth_self true = refl
truth_self false = refl

op_of : ℕ → BinaryOp
op_of n =
    if nat_eq n 0 then b.Add else
    if nat_eq n 1 then b.Sub else
    if nat_eq n 2 then b.Mul else
    if nat_eq n 3 then b.Div else
    if nat_eq n 4 then b.Rem else
    if nat_eq n 5 then b.Eq else
    if nat_eq n 6 then b.Ne else
    if nat_eq n 7 then b.Lt else
    if nat_eq n 8 then b.Le else
    if nat_eq n 9 then b.Gt else
    if nat_eq n 10 then b.Ge else
    if nat_eq n 11 then b.And else
    b.Or

op_back : (op : BinaryOp) → op_of (op_number op) ≡ op
unfolding op_of
op_back b.Add = refl
op_back b.Sub = refl
op_back b.Mul = refl
op_back b.Div = refl
op_back b.Rem = refl
op_back b.Eq = refl
op_back b.Ne = refl
op_back b.Lt = refl
op_back b.Le = refl
op_back b.Gt = refl
op_back b.Ge = refl
op_back b.And = refl
op_back b.Or = refl

op_is : (op oq : BinaryOp) → nat_eq (op_number op) (op_number oq) ≡ true → op ≡ oq
op_is op oq h = sym (op_back op) ∙ ap op_of (same-number (op_number op) (op_number oq) h) ∙ op_back oq

unary_is : (op oq : UnaryOp) → same_unary op oq ≡ true → op ≡ oq
unary_is u.Neg u.Neg h = refl
unary_is u.Neg u.Not h = false_no h
unary_is u.Not u.Neg h = false_no h
unary_is u.Not u.Not h = refl

unary_self : (op : UnaryOp) → same_unary op op ≡ true
unary_self u.Neg = refl
unary_self u.Not = refl

name_is : (v w : PlacedName) → same_name v w ≡ true → v ≡ w
name_is v w h =
    let k = both_true (nat_eq v.at w.at) (same v.text w.text) h in
    λ i. record { at = same-number v.at w.at k.0 i; text = same_equal v.text w.text k.1 i }

name_self : (v : PlacedName) → same_name v v ≡ true
name_self v = true_both _ _ (self v.at) (same-self v.text)

mutual
  pub equal_is : (x y : Expression) → equal x y ≡ true → x ≡ y
  equal_is (placed a s) (placed c t) h =
      let k = both_true (nat_eq a c) (equal_form s t) h in
      λ i. placed (same-number a c k.0 i) (form_is s t k.1 i)

  form_is : (s t : ExpressionForm) → equal_form s t ≡ true → s ≡ t
  form_is (int m) (int n) h = ap int (number_is m n h)
  form_is (bool d) (bool e) h = ap bool (truth_is d e h)
  form_is no_rev no_rev h = refl
  form_is (var v) (var w) h = ap var (name_is v w h)
  form_is (cell v x) (cell w y) h =
      let k = both_true (same_name v w) (equal x y) h in λ i. cell (name_is v w k.0 i) (equal_is x y k.1 i)
  form_is (apply v xs) (apply w ys) h =
      let k = both_true (same_name v w) (equal_all xs ys) h in λ i. apply (name_is v w k.0 i) (all_is xs ys k.1 i)
  form_is (input a x) (input c y) h =
      let k = both_true (nat_eq a c) (equal x y) h in λ i. input (same-number a c k.0 i) (equal_is x y k.1 i)
  form_is (inputs a) (inputs c) h = ap inputs (same-number a c h)
  form_is (pick x y z) (pick x' y' z') h =
      let k = both_true (equal x x') (equal y y' && equal z z') h in
      let l = both_true (equal y y') (equal z z') k.1 in
      λ i. pick (equal_is x x' k.0 i) (equal_is y y' l.0 i) (equal_is z z' l.1 i)
  form_is (unary op x) (unary oq y) h =
      let k = both_true (same_unary op oq) (equal x y) h in λ i. unary (unary_is op oq k.0 i) (equal_is x y k.1 i)
  form_is (chain x ls) (chain y ms) h =
      let k = both_true (equal x y) (equal_links ls ms) h in λ i. chain (equal_is x y k.0 i) (links_is ls ms k.1 i)
  form_is s t h = false_no h

  all_is : (xs ys : Expressions) → equal_all xs ys ≡ true → xs ≡ ys
  all_is no_expressions no_expressions h = refl
  all_is (expression x xs) (expression y ys) h =
      let k = both_true (equal x y) (equal_all xs ys) h in λ i. expression (equal_is x y k.0 i) (all_is xs ys k.1 i)
  all_is xs ys h = false_no h

  links_is : (ls ms : Links) → equal_links ls ms ≡ true → ls ≡ ms
  links_is no_links no_links h = refl
  links_is (link op x ls) (link oq y ms) h =
      let k = both_true (nat_eq (op_number op) (op_number oq)) (equal x y && equal_links ls ms) h in
      let l = both_true (equal x y) (equal_links ls ms) k.1 in
      λ i. link (op_is op oq k.0 i) (equal_is x y l.0 i) (links_is ls ms l.1 i)
  links_is ls ms h = false_no h

mutual
  pub equal_self : (x : Expression) → equal x x ≡ true
  equal_self (placed a s) = true_both _ _ (self a) (form_self s)

  form_self : (s : ExpressionForm) → equal_form s s ≡ true
  form_self (int m) = number_self m
  form_self (bool d) = truth_self d
  form_self no_rev = refl
  form_self (var v) = name_self v
  form_self (cell v x) = true_both _ _ (name_self v) (equal_self x)
  form_self (apply v xs) = true_both _ _ (name_self v) (all_self xs)
  form_self (input a x) = true_both _ _ (self a) (equal_self x)
  form_self (inputs a) = self a
  form_self (pick x y z) = true_both _ _ (equal_self x) (true_both _ _ (equal_self y) (equal_self z))
  form_self (unary op x) = true_both _ _ (unary_self op) (equal_self x)
  form_self (chain x ls) = true_both _ _ (equal_self x) (links_self ls)

  all_self : (xs : Expressions) → equal_all xs xs ≡ true
  all_self no_expressions = refl
  all_self (expression x xs) = true_both _ _ (equal_self x) (all_self xs)

  links_self : (ls : Links) → equal_links ls ls ≡ true
  links_self no_links = refl
  links_self (link op x ls) = true_both _ _ (self (op_number op)) (true_both _ _ (equal_self x) (links_self ls))

-- the test tells
pub told : (x y : Expression) (r : Bool) → r ≡ equal x y → (r ≡ true → x ≡ y) × (x ≡ y → r ≡ true)
told x y r h = (λ k. equal_is x y (sym h ∙ k), λ e. h ∙ subst (λ z. equal x z ≡ true) e (equal_self x))
