-- The faults of an expression, from where it stands and back.
use Rattle.std.proofs.Common.{◌≡◌, inl, inr, ℕ, zero, suc, ◌+◌, true, false, Option, Some, List, [], ◌∷◌, ◌++◌, map, length, slice_get, refl, sym, ap, subst, arith}
use Rattle.std.specs.List.{zip}
use Rattle.rev_num.specs.declared.value.ValueKind.{ValueKind}
use Rattle.rev_num.specs.declared.value.ValueKind.TheVariants as k
use Rattle.rev_syntax.specs.Trees.{PlacedName, Parameter, Expression, placed, ExpressionForm, Expressions, Links, int, bool, no_rev, var, cell, apply, input, inputs, pick, unary, chain, no_expressions, expression, no_links, link, ProgramTree}
use Rattle.rev_syntax.specs.declared.tree.BinaryOp.{BinaryOp}
use Rattle.typed_programs.specs.FunRules.{count}
use Rattle.typed_programs.specs.Least.{Among}
use Rattle.name_tables.specs.Table.{find}
use Rattle.typed_programs.specs.Kinds.{Names, Locals, kind_in, operand_kind, expression_place}
use Rattle.typed_programs.specs.Rules as r
use Rattle.typed_programs.proofs.Typings.{All, one, app}
use Rattle.typed_programs.proofs.StatementsFaults.{AllAre, all_none, all_both, all_when}
use Rattle.static_rules.specs.Places.{Occurs, in_part, Uses, read, read_cell, Wanted, fun_argument, at_index, at_position, picked_by, picked_last, operand, on_left, on_right, compared, NoHandle, compared_first, expressions_of, links_of, parts_of}
use Rattle.static_rules.specs.Breaks.{Breaks, unknown_variable, other_kind, is_handle, other_use, input_inside, inputs_inside}
use Rattle.static_rules.proofs.Gathers.{Is, In, in_left, in_right_side, not_some, some_is, given_by, all_wants, all_alike, all_not_rev, all_fits, all_left, all_right_side, all_scalar, all_array}

-- an argument that is given for a parameter has its number
pub given : (xs : List Expression) (ps : List Parameter) (i : ℕ) (e : Expression) (q : Parameter)
    → slice_get xs i ≡ Some e → slice_get ps i ≡ Some q → Among (zip xs ps) (e, q)
given [] ps i e q a b = absurd (not_some e a)
given (x ∷ xs) [] i e q a b = absurd (not_some q b)
given (x ∷ xs) (p ∷ ps) zero e q a b = inl (λ j. (some_is x e a j, some_is p q b j))
given (x ∷ xs) (p ∷ ps) (suc i) e q a b = inr (given xs ps i e q a b)

pub given_at : (xs : List Expression) (ps : List Parameter) (e : Expression) (q : Parameter) → Among (zip xs ps) (e, q)
    → (i : ℕ) × (slice_get xs i ≡ Some e) × (slice_get ps i ≡ Some q)
given_at [] ps e q m = absurd m
given_at (x ∷ xs) [] e q m = absurd m
given_at (x ∷ xs) (p ∷ ps) e q (inl is) =
    (0, ap (λ (y : Expression × Parameter). Some y.0) is, ap (λ (y : Expression × Parameter). Some y.1) is)
given_at (x ∷ xs) (p ∷ ps) e q (inr m) = let g = given_at xs ps e q m in (suc g.0, g.1, g.2)

pub counts : (args : Expressions) → length (expressions_of args) ≡ count args
counts no_expressions = refl
counts (expression x xs) = let rest = counts xs in omega (arith, rest)

from_zero : (n : ℕ) → n + 0 ≡ n
from_zero n = omega arith

from_next : (n i : ℕ) → n + 1 + i ≡ n + suc i
from_next n i = omega arith

-- ---- all that an expression breaks

module _ (p : ProgramTree) where
  pub wanted_all : (c : Names) (l : Locals) (e : Expression) (t : ValueKind) → Wanted p c l e t
      → AllAre (Breaks p) (r.wants [] one app (expression_place e) (kind_in c l e) t)
  wanted_all c l e t w = all_wants (Breaks p) (expression_place e) (kind_in c l e) t (λ u q n. other_kind w q n)

  pub handle_all : (c : Names) (l : Locals) (e : Expression) → NoHandle p c l e
      → AllAre (Breaks p) (r.not_rev [] one app (expression_place e) (kind_in c l e))
  handle_all c l e h = all_not_rev (Breaks p) (expression_place e) (kind_in c l e) (λ q. is_handle h q)

  pub scalar_all : (c : Names) (l : Locals) (w : PlacedName) → Uses p c l w false
      → AllAre (Breaks p) (r.scalar_use [] one app w (find w.text l) (c.shared w.text))
  scalar_all c l w u =
      all_scalar (Breaks p) w (find w.text l) (c.shared w.text) (λ a b. unknown_variable u (a, b))
      (λ a e n. other_use u e n)

  pub array_all : (c : Names) (l : Locals) (w : PlacedName) → Uses p c l w true
      → AllAre (Breaks p) (r.array_use [] one app w (find w.text l) (c.shared w.text))
  array_all c l w u =
      all_array (Breaks p) w (find w.text l) (c.shared w.text) (λ a b. unknown_variable u (a, b))
      (λ a e n. other_use u e n)

  first_all : (c : Names) (l : Locals) (at : ℕ) (e : Expression) (rest : Links)
      → Occurs p c l (placed at (chain e rest))
      → AllAre (Breaks p) (r.first_operand [] one app rest (expression_place e) (kind_in c l e))
  first_all c l at e no_links o = all_none (Breaks p)
  first_all c l at e (link op x rest) o =
      all_left (Breaks p) op (expression_place e) (kind_in c l e) (λ t h. wanted_all c l e t (on_left o h))
      (λ h. handle_all c l e (compared_first o h))

  operand_all : (c : Names) (l : Locals) (at : ℕ) (x : Expression) (rest : Links) (op : BinaryOp) (e : Expression)
      → Occurs p c l (placed at (chain x rest)) → Among (links_of rest) (op, e)
      → AllAre (Breaks p) (r.right_operand [] one app op (kind_in c l x) (expression_place e) (kind_in c l e))
  operand_all c l at x rest op e o m =
      all_right_side (Breaks p) op (kind_in c l x) (expression_place e) (kind_in c l e)
      (λ t h. wanted_all c l e t (on_right op o m h))
      (λ h. all_alike (Breaks p) (expression_place e) (kind_in c l x) (kind_in c l e)
      (λ t u a b n. other_kind (compared op o m h a) b n))

  apply_wanted : (c : Names) (l : Locals) (at : ℕ) (w : PlacedName) (args : Expressions)
      → Occurs p c l (placed at (apply w args))
      → (i : ℕ) (e : Expression) (q : Parameter) → slice_get (expressions_of args) i ≡ Some e
      → slice_get (r.params_of [] one app (c.funs w.text)) (0 + i) ≡ Some q → Wanted p c l e q.kind
  apply_wanted c l at w args o i e q a d =
      let n : 0 + i ≡ i = omega arith in
      let g = given_by (c.funs w.text) i q
      (subst (λ j. slice_get (r.params_of [] one app (c.funs w.text)) j ≡ Some q) n d) in
      fun_argument {f = g.0} q o g.1 (given (expressions_of args) g.0.params i e q a g.2)

  mutual
    pub expression_all : (c : Names) (l : Locals) (e : Expression) → Occurs p c l e
        → AllAre (Breaks p) (r.broken_in_expression [] one app c l e)
    expression_all c l (placed at s) o = expression_form_all c l at s o

    expression_form_all : (c : Names) (l : Locals) (at : ℕ) (s : ExpressionForm) → Occurs p c l (placed at s)
        → AllAre (Breaks p) (r.broken_in_expression_form [] one app c l s)
    expression_form_all c l at (int n) o = all_none (Breaks p)
    expression_form_all c l at (bool x) o = all_none (Breaks p)
    expression_form_all c l at no_rev o = all_none (Breaks p)
    expression_form_all c l at (var w) o = scalar_all c l w (read o)
    expression_form_all c l at (cell w i) o =
        all_both (Breaks p) _ _ (array_all c l w (read_cell o))
        (all_both (Breaks p) _ _ (expression_all c l i (in_part o (inl refl))) (wanted_all c l i k.Int (at_index o)))
    expression_form_all c l at (apply w args) o =
        args_all c l (r.params_of [] one app (c.funs w.text)) 0 [] args (all_none (Breaks p)) (λ e m. in_part o m)
        (apply_wanted c l at w args o)
    expression_form_all c l at (input at' i) o =
        all_both (Breaks p) _ _ (all_when (Breaks p) c.inside _ (λ h. input_inside o h))
        (all_both (Breaks p) _ _ (expression_all c l i (in_part o (inl refl))) (wanted_all c l i k.Int (at_position o)))
    expression_form_all c l at (inputs at') o = all_when (Breaks p) c.inside _ (λ h. inputs_inside o h)
    expression_form_all c l at (pick e x y) o =
        all_both (Breaks p) _ _
        (all_both (Breaks p) _ _ (expression_all c l e (in_part o (inl refl))) (wanted_all c l e k.Bool (picked_by o)))
        (all_both (Breaks p) _ _ (all_both (Breaks p) _ _ (expression_all c l x (in_part o (inr (inl refl))))
        (expression_all c l y (in_part o (inr (inr (inl refl))))))
        (all_alike (Breaks p) (expression_place y) (kind_in c l x) (kind_in c l y)
        (λ t u a b n. other_kind (picked_last o a) b n)))
    expression_form_all c l at (unary op e) o =
        all_both (Breaks p) _ _ (expression_all c l e (in_part o (inl refl)))
        (wanted_all c l e (operand_kind op) (operand o))
    expression_form_all c l at (chain x rest) o =
        links_all c l (kind_in c l x) _ rest
        (all_both (Breaks p) _ _ (expression_all c l x (in_part o (inl refl))) (first_all c l at x rest o))
        (λ e m. in_part o (inr m)) (λ op e m. operand_all c l at x rest op e o m)

    pub args_all : (c : Names) (l : Locals) (ps : List Parameter) (n : ℕ) (found : All) (ts : Expressions)
        → AllAre (Breaks p) found
        → ((e : Expression) → Among (expressions_of ts) e → Occurs p c l e)
        → ((i : ℕ) (e : Expression) (q : Parameter) → slice_get (expressions_of ts) i ≡ Some e
        → slice_get ps (n + i) ≡ Some q → Wanted p c l e q.kind)
        → AllAre (Breaks p) (r.args_by [] one app c l ps n found ts)
    args_all c l ps n found no_expressions h o w = h
    args_all c l ps n found (expression x xs) h o w =
        args_all c l ps (n + 1) _ xs
        (all_both (Breaks p) _ _ h (all_both (Breaks p) _ _ (expression_all c l x (o x (inl refl)))
        (all_fits (Breaks p) (expression_place x) (kind_in c l x) (slice_get ps n)
        (λ q e. wanted_all c l x q.kind (w 0 x q refl (subst (λ j. slice_get ps j ≡ Some q) (sym (from_zero n)) e))))))
        (λ e m. o e (inr m)) (λ i e q a d. w (suc i) e q a (subst (λ j. slice_get ps j ≡ Some q) (from_next n i) d))

    links_all : (c : Names) (l : Locals) (left : Option ValueKind) (found : All) (ls : Links) → AllAre (Breaks p) found
        → ((e : Expression) → Among (map (λ l. l.1) (links_of ls)) e → Occurs p c l e)
        → ((op : BinaryOp) (e : Expression) → Among (links_of ls) (op, e)
        → AllAre (Breaks p) (r.right_operand [] one app op left (expression_place e) (kind_in c l e)))
        → AllAre (Breaks p) (r.broken_in_links [] one app c l left found ls)
    links_all c l left found no_links h o w = h
    links_all c l left found (link op x rest) h o w =
        links_all c l left _ rest
        (all_both (Breaks p) _ _ h
        (all_both (Breaks p) _ _ (expression_all c l x (o x (inl refl))) (w op x (inl refl))))
        (λ e m. o e (inr m)) (λ op' e m. w op' e (inr m))

-- ---- what the parts break is among what the whole breaks

pub args_found : (c : Names) (l : Locals) (ps : List Parameter) (n : ℕ) (found : All) (ts : Expressions)
    → In found (r.args_by [] one app c l ps n found ts)
args_found c l ps n found no_expressions f m = m
args_found c l ps n found (expression x xs) f m = args_found c l ps (n + 1) _ xs f (in_left found _ f m)

pub arg_in : (c : Names) (l : Locals) (ps : List Parameter) (n : ℕ) (found : All) (ts : Expressions) (i : ℕ)
    (e : Expression)
    → slice_get (expressions_of ts) i ≡ Some e
    → In (r.arg_by [] one app c l ps (n + i) e) (r.args_by [] one app c l ps n found ts)
arg_in c l ps n found no_expressions i e h f m = absurd (not_some e h)
arg_in c l ps n found (expression x xs) zero e h f m =
    args_found c l ps (n + 1) _ xs f (in_right_side found _ f
    (subst (λ j. Is (r.arg_by [] one app c l ps j x) f) (from_zero n)
    (subst (λ y. Is (r.arg_by [] one app c l ps (n + 0) y) f) (sym (some_is x e h)) m)))
arg_in c l ps n found (expression x xs) (suc i) e h f m =
    arg_in c l ps (n + 1) _ xs i e h f (subst (λ j. Is (r.arg_by [] one app c l ps j e) f) (sym (from_next n i)) m)

-- the number of an element
pub number_of : {A : Type 0} (xs : List A) (x : A) → Among xs x → (i : ℕ) × (slice_get xs i ≡ Some x)
number_of [] x m = absurd m
number_of (y ∷ ys) x (inl is) = (0, ap Some is)
number_of (y ∷ ys) x (inr m) = let g = number_of ys x m in (suc g.0, g.1)

pub arg_expression_in : (c : Names) (l : Locals) (ps : List Parameter) (n : ℕ) (found : All) (ts : Expressions)
    (e : Expression)
    → Among (expressions_of ts) e
    → In (r.broken_in_expression [] one app c l e) (r.args_by [] one app c l ps n found ts)
arg_expression_in c l ps n found ts e m f d =
    let g = number_of (expressions_of ts) e m in arg_in c l ps n found ts g.0 e g.1 f (in_left _ _ f d)

pub links_found : (c : Names) (l : Locals) (left : Option ValueKind) (ls : Links) (found : All)
    → In found (r.broken_in_links [] one app c l left found ls)
links_found c l left no_links found f m = m
links_found c l left (link op x rest) found f m = links_found c l left rest _ f (in_left found _ f m)

-- what a link breaks
abbrev pub link_by : Names → Locals → Option ValueKind → BinaryOp × Expression → All
link_by c l left y =
    r.broken_in_expression [] one app c l y.1
    ++ r.right_operand [] one app y.0 left (expression_place y.1) (kind_in c l y.1)

pub link_in : (c : Names) (l : Locals) (left : Option ValueKind) (ls : Links) (found : All) (y : BinaryOp × Expression)
    → Among (links_of ls) y
    → In (link_by c l left y) (r.broken_in_links [] one app c l left found ls)
link_in c l left no_links found y m f d = absurd m
link_in c l left (link op x rest) found y (inl is) f d =
    links_found c l left rest _ f (in_right_side found _ f (subst (λ z. Is (link_by c l left z) f) (sym is) d))
link_in c l left (link op x rest) found y (inr m) f d = link_in c l left rest _ y m f d

link_of_expression : (ls : Links) (e : Expression) → Among (map (λ l. l.1) (links_of ls)) e
    → (op : BinaryOp) × Among (links_of ls) (op, e)
link_of_expression no_links e m = absurd m
link_of_expression (link op x rest) e (inl is) = (op, inl (λ i. (op, is i)))
link_of_expression (link op x rest) e (inr m) = let g = link_of_expression rest e m in (g.0, inr g.1)

-- ---- the part itself

pub same_expression : (c : Names) (l : Locals) (x e : Expression) → x ≡ e
    → In (r.broken_in_expression [] one app c l e) (r.broken_in_expression [] one app c l x)
same_expression c l x e is f m = subst (λ y. Is (r.broken_in_expression [] one app c l y) f) (sym is) m

pub part_in : (c : Names) (l : Locals) (s : ExpressionForm) (e : Expression) → Among (parts_of s) e
    → In (r.broken_in_expression [] one app c l e) (r.broken_in_expression_form [] one app c l s)
part_in c l (int n) e m f d = absurd m
part_in c l (bool x) e m f d = absurd m
part_in c l no_rev e m f d = absurd m
part_in c l (var w) e m f d = absurd m
part_in c l (inputs at) e m f d = absurd m
part_in c l (cell w i) e (inl is) f d = in_right_side _ _ f (in_left _ _ f (same_expression c l i e is f d))
part_in c l (cell w i) e (inr m) f d = absurd m
part_in c l (apply w args) e m f d = arg_expression_in c l _ 0 [] args e m f d
part_in c l (input at i) e (inl is) f d = in_right_side _ _ f (in_left _ _ f (same_expression c l i e is f d))
part_in c l (input at i) e (inr m) f d = absurd m
part_in c l (pick t x y) e (inl is) f d = in_left _ _ f (in_left _ _ f (same_expression c l t e is f d))
part_in c l (pick t x y) e (inr (inl is)) f d =
    in_right_side _ _ f (in_left _ _ f (in_left _ _ f (same_expression c l x e is f d)))
part_in c l (pick t x y) e (inr (inr (inl is))) f d =
    in_right_side _ _ f (in_left _ _ f (in_right_side _ _ f (same_expression c l y e is f d)))
part_in c l (pick t x y) e (inr (inr (inr m))) f d = absurd m
part_in c l (unary op x) e (inl is) f d = in_left _ _ f (same_expression c l x e is f d)
part_in c l (unary op x) e (inr m) f d = absurd m
part_in c l (chain x rest) e (inl is) f d = links_found c l _ rest _ f (in_left _ _ f (same_expression c l x e is f d))
part_in c l (chain x rest) e (inr m) f d =
    let g = link_of_expression rest e m in link_in c l _ rest _ (g.0, e) g.1 f (in_left _ _ f d)
