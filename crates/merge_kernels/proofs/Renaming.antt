-- A renamed expression has the same value.
use Rattle.std.proofs.Common.{◌≡◌, subst, refl, Bool, true, false, if◌then◌else◌, [], ◌∷◌, Option, Some, None}
use Rattle.rev_num.specs.declared.value.Value.{Value}
use Rattle.rev_num.specs.declared.value.Value.TheVariants as v
use Rattle.rev_syntax.specs.Trees.{Expression, placed, ExpressionForm, Links, int, bool, no_rev, var, cell, apply, input, inputs, pick, unary, chain, no_links, link}
use Rattle.rev_syntax.specs.declared.tree.UnaryOp.{UnaryOp}
use Rattle.rev_syntax.specs.declared.tree.BinaryOp.{BinaryOp}
use Rattle.name_tables.specs.Names.{same}
use Rattle.typed_programs.specs.Value.{Answer, Funs, Env, and_then, inside, funs_of, value_by, chained, linked, short, reversed, read, truth_of}
use Rattle.merge_kernels.specs.Terms.{bare, parameter, main_name, join_name, root_name, params, value_of}
use Rattle.merge_kernels.specs.Closing.{Names, with_part, with_three, with_links, with_link, renamed, renamed_form, renamed_links}
use Rattle.merge_kernels.specs.Values.{KeepsValue}

module _ (fs : Funs) (n : Names) (a b c : Value) where
  abbrev env : Env
  env = inside (n.main ∷ n.join ∷ n.root ∷ []) (a ∷ b ∷ c ∷ [])

  abbrev own : Env
  own = inside params (a ∷ b ∷ c ∷ [])

  -- the value, where there is a renamed expression
  abbrev Is : Option Expression → Answer → Type 0
  Is None x = Unit {0}
  Is (Some t) x = x ≡ value_by (funs_of []) own t

  abbrev AreLinks : Option Links → (Value → Answer) → Type 0
  AreLinks None f = Unit {0}
  AreLinks (Some ls) f = (x : Value) → f x ≡ chained (funs_of []) own x ls

  of_name : (p q r : Bool)
      → Is (if p then Some (parameter root_name) else if q then Some (parameter join_name) else if r
      then Some (parameter main_name) else None)
      (read (if p then Some c else if q then Some b else if r then Some a else None) (env.shared []))
  of_name true q r = refl
  of_name false true r = refl
  of_name false false true = refl
  of_name false false false = tt

  part_is : (op : UnaryOp) (o : Option Expression) (x : Answer) → Is o x
      → Is (with_part op o) (and_then x (reversed op))
  part_is op None x h = tt
  part_is op (Some t) x h = λ i. and_then (h i) (reversed op)

  three_is : (o p q : Option Expression) (x y z : Answer) → Is o x → Is p y → Is q z
      → Is (with_three o p q) (and_then x (λ v. if truth_of v then y else z))
  three_is (Some s) (Some t) (Some u) x y z h k l = λ i. and_then (h i) (λ v. if truth_of v then k i else l i)
  three_is None p q x y z h k l = tt
  three_is (Some s) None q x y z h k l = tt
  three_is (Some s) (Some t) None x y z h k l = tt

  links_is : (o : Option Expression) (r : Option Links) (x : Answer) (f : Value → Answer) → Is o x → AreLinks r f
      → Is (with_links o r) (and_then x f)
  links_is (Some s) (Some ls) x f h k = λ i. and_then (h i) (λ y. k y i)
  links_is None r x f h k = tt
  links_is (Some s) None x f h k = tt

  link_is : (op : BinaryOp) (o : Option Expression) (r : Option Links) (x : Answer) (f : Value → Answer) → Is o x
      → AreLinks r f → AreLinks (with_link op o r) (λ y. and_then (linked op y x (short op y)) f)
  link_is op (Some s) (Some ls) x f h k = λ y. λ i. and_then (linked op y (h i) (short op y)) (λ z. k z i)
  link_is op None r x f h k = tt
  link_is op (Some s) None x f h k = tt

  mutual
    expression_is : (e : Expression) → Is (renamed n e) (value_by fs env e)
    expression_is (placed at s) = form_is s

    form_is : (s : ExpressionForm) → Is (renamed_form n s) (value_by fs env (bare s))
    form_is (int z) = refl
    form_is (bool x) = refl
    form_is no_rev = tt
    form_is (var w) = of_name (same w.text n.root) (same w.text n.join) (same w.text n.main)
    form_is (cell w index) = tt
    form_is (apply w args) = tt
    form_is (input at index) = tt
    form_is (inputs at) = tt
    form_is (pick test x y) =
        three_is (renamed n test) (renamed n x) (renamed n y) (value_by fs env test) (value_by fs env x)
        (value_by fs env y) (expression_is test) (expression_is x) (expression_is y)
    form_is (unary op part) = part_is op _ _ (expression_is part)
    form_is (chain first rest) = links_is _ _ _ (λ x. chained fs env x rest) (expression_is first) (rest_is rest)

    rest_is : (ls : Links) → AreLinks (renamed_links n ls) (λ x. chained fs env x ls)
    rest_is no_links = λ x. refl
    rest_is (link op part rest) = link_is op _ _ _ (λ x. chained fs env x rest) (expression_is part) (rest_is rest)

pub keeps_value : KeepsValue
unfolding value_of
keeps_value fs n e t is main join root =
    subst (λ o.
    Is fs n (v.Int main) (v.Int join) (v.Int root) o (value_by fs (env fs n (v.Int main) (v.Int join) (v.Int root)) e))
    is
    (expression_is fs n (v.Int main) (v.Int join) (v.Int root) e)
