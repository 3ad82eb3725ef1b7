-- What is checked has the kind that the rules give, and no other.
use Rattle.std.proofs.Common.{◌≡◌, ◌∙◌, ◌≢◌, ℕ, ◌+◌, Bool, true, false, if◌then◌else◌, Option, Some, None, List, [], ◌∷◌, ◌++◌, refl, sym, ap, subst, slice_get, length}
use Rattle.rev_num.specs.declared.value.ValueKind.{ValueKind}
use Rattle.rev_num.specs.declared.value.ValueKind.TheVariants as k
use Rattle.rev_num.specs.Value.{same_kind}
use Rattle.rev_num.proofs.SameKinds.{same_kind_is}
use Rattle.rev_syntax.specs.Trees.{PlacedName, Parameter, Expression, placed, ExpressionForm, Expressions, Links, int, bool, no_rev, var, cell, apply, input, inputs, pick, unary, chain, no_expressions, expression, no_links, link}
use Rattle.rev_syntax.specs.declared.tree.BinaryOp.{BinaryOp}
use Rattle.rev_syntax.specs.declared.tree.BinaryOp.TheVariants as b
use Rattle.typed_programs.specs.FunRules.{count}
use Rattle.name_tables.specs.Table.{find}
use Rattle.typed_programs.specs.declared.fault.TypeFault.{TypeFault}
use Rattle.typed_programs.specs.declared.fault.TypeFault.TheVariants.{WrongType}
use Rattle.typed_programs.specs.declared.names.Holder.{Holder}
use Rattle.typed_programs.specs.Kinds.{Callee, Names, Locals, name_kind, result_of, kind_in, expression_form_kind, links_kind, operand_kind, expression_place}
use Rattle.typed_programs.specs.Rules as r
use Rattle.typed_programs.proofs.Lists.{parts, whole, held, failed}
use Rattle.typed_programs.specs.Typing.{ScalarHas, ArrayHas, TakesLeft, TakesRightSide, TakesFirst, IsOfKind, HasKind, ExpressionFormHas, ArgsHave, LinksHave}
use Rattle.typed_programs.specs.KindLaws.{AllKinded, IsKnown, Applies, ExpressionFormApplies, ExpressionsApply, LinksApply, HasLink, Sound, Complete, Only}

abbrev pub All : Type 0
All = List TypeFault

abbrev pub one : TypeFault → All
one f = f ∷ []

abbrev pub app : All → All → All
app xs ys = xs ++ ys

-- ---- kinds that are wanted

pub wanted_is : (at : ℕ) (found : Option ValueKind) (t w : ValueKind) → found ≡ Some t
    → r.wants [] one app at found w ≡ [] → t ≡ w
wanted_is at found t w e h = same_kind_is t w (held (same_kind t w) _ (subst (λ f. r.wants [] one app at f w ≡ []) e h))

wants_self : (at : ℕ) (t : ValueKind) → r.wants [] one app at (Some t) t ≡ []
wants_self at k.Int = refl
wants_self at k.Bool = refl
wants_self at k.Rev = refl

pub wants_nothing : (at : ℕ) (found : Option ValueKind) (t : ValueKind) → found ≡ Some t
    → r.wants [] one app at found t ≡ []
wants_nothing at found t e = ap (λ f. r.wants [] one app at f t) e ∙ wants_self at t

pub no_handle : (at : ℕ) (found : Option ValueKind) (t : ValueKind) → found ≡ Some t
    → r.not_rev [] one app at found ≡ [] → t ≢ k.Rev
no_handle at found k.Int e h p = absurd (let q : k.Int ≡ k.Rev = p in cc)
no_handle at found k.Bool e h p = absurd (let q : k.Bool ≡ k.Rev = p in cc)
no_handle at found k.Rev e h p =
    let q : r.not_rev [] one app at (Some k.Rev) ≡ [] = subst (λ f. r.not_rev [] one app at f ≡ []) e h in cc

pub handle_not : (at : ℕ) (t : ValueKind) → t ≢ k.Rev → r.not_rev [] one app at (Some t) ≡ []
handle_not at k.Int n = refl
handle_not at k.Bool n = refl
handle_not at k.Rev n = absurd (n refl)

pub alike_is : (at : ℕ) (left found : Option ValueKind) (w t : ValueKind) → left ≡ Some w → found ≡ Some t
    → r.alike [] one app at left found ≡ [] → t ≡ w
alike_is at left found w t p q h = wanted_is at found t w q (subst (λ x. r.alike [] one app at x found ≡ []) p h)

pub alike_nothing : (at : ℕ) (left found : Option ValueKind) (t : ValueKind) → left ≡ Some t → found ≡ Some t
    → r.alike [] one app at left found ≡ []
alike_nothing at left found t p q = ap (λ x. r.alike [] one app at x found) p ∙ wants_nothing at found t q

-- ---- operators

left_takes : (op : BinaryOp) (at : ℕ) (found : Option ValueKind) (t : ValueKind) → found ≡ Some t
    → r.left_operand [] one app op at found ≡ [] → TakesLeft op t
left_takes b.Add at found t e h = wanted_is at found t k.Int e h
left_takes b.Sub at found t e h = wanted_is at found t k.Int e h
left_takes b.Mul at found t e h = wanted_is at found t k.Int e h
left_takes b.Div at found t e h = wanted_is at found t k.Int e h
left_takes b.Rem at found t e h = wanted_is at found t k.Int e h
left_takes b.Eq at found t e h = no_handle at found t e h
left_takes b.Ne at found t e h = no_handle at found t e h
left_takes b.Lt at found t e h = wanted_is at found t k.Int e h
left_takes b.Le at found t e h = wanted_is at found t k.Int e h
left_takes b.Gt at found t e h = wanted_is at found t k.Int e h
left_takes b.Ge at found t e h = wanted_is at found t k.Int e h
left_takes b.And at found t e h = wanted_is at found t k.Bool e h
left_takes b.Or at found t e h = wanted_is at found t k.Bool e h

pub wants_of : (at : ℕ) (found : Option ValueKind) (t w : ValueKind) → found ≡ Some t → t ≡ w
    → r.wants [] one app at found w ≡ []
wants_of at found t w e p = wants_nothing at found w (e ∙ ap Some p)

left_taken : (op : BinaryOp) (at : ℕ) (found : Option ValueKind) (t : ValueKind) → found ≡ Some t → TakesLeft op t
    → r.left_operand [] one app op at found ≡ []
left_taken b.Add at found t e h = wants_of at found t k.Int e h
left_taken b.Sub at found t e h = wants_of at found t k.Int e h
left_taken b.Mul at found t e h = wants_of at found t k.Int e h
left_taken b.Div at found t e h = wants_of at found t k.Int e h
left_taken b.Rem at found t e h = wants_of at found t k.Int e h
left_taken b.Eq at found t e h = ap (λ f. r.not_rev [] one app at f) e ∙ handle_not at t h
left_taken b.Ne at found t e h = ap (λ f. r.not_rev [] one app at f) e ∙ handle_not at t h
left_taken b.Lt at found t e h = wants_of at found t k.Int e h
left_taken b.Le at found t e h = wants_of at found t k.Int e h
left_taken b.Gt at found t e h = wants_of at found t k.Int e h
left_taken b.Ge at found t e h = wants_of at found t k.Int e h
left_taken b.And at found t e h = wants_of at found t k.Bool e h
left_taken b.Or at found t e h = wants_of at found t k.Bool e h

ordered_takes : (left : Option ValueKind) (at : ℕ) (found : Option ValueKind) (w t : ValueKind) → left ≡ Some w
    → found ≡ Some t
    → r.wants [] one app at found k.Int ++ r.alike [] one app at left found ≡ [] → (t ≡ k.Int) × (t ≡ w)
ordered_takes left at found w t p q h =
    let both = parts (r.wants [] one app at found k.Int) (r.alike [] one app at left found) h in
    (wanted_is at found t k.Int q both.0, alike_is at left found w t p q both.1)

right_side_takes : (op : BinaryOp) (left : Option ValueKind) (at : ℕ) (found : Option ValueKind) (w t : ValueKind)
    → left ≡ Some w → found ≡ Some t
    → r.right_operand [] one app op left at found ≡ [] → TakesRightSide op w t
right_side_takes b.Add left at found w t p q h = wanted_is at found t k.Int q h
right_side_takes b.Sub left at found w t p q h = wanted_is at found t k.Int q h
right_side_takes b.Mul left at found w t p q h = wanted_is at found t k.Int q h
right_side_takes b.Div left at found w t p q h = wanted_is at found t k.Int q h
right_side_takes b.Rem left at found w t p q h = wanted_is at found t k.Int q h
right_side_takes b.Eq left at found w t p q h = alike_is at left found w t p q h
right_side_takes b.Ne left at found w t p q h = alike_is at left found w t p q h
right_side_takes b.Lt left at found w t p q h = ordered_takes left at found w t p q h
right_side_takes b.Le left at found w t p q h = ordered_takes left at found w t p q h
right_side_takes b.Gt left at found w t p q h = ordered_takes left at found w t p q h
right_side_takes b.Ge left at found w t p q h = ordered_takes left at found w t p q h
right_side_takes b.And left at found w t p q h = wanted_is at found t k.Bool q h
right_side_takes b.Or left at found w t p q h = wanted_is at found t k.Bool q h

pub alike_of : (at : ℕ) (left found : Option ValueKind) (w t : ValueKind) → left ≡ Some w → found ≡ Some t → t ≡ w
    → r.alike [] one app at left found ≡ []
alike_of at left found w t p q e = alike_nothing at left found w p (q ∙ ap Some e)

ordered_taken : (left : Option ValueKind) (at : ℕ) (found : Option ValueKind) (w t : ValueKind) → left ≡ Some w
    → found ≡ Some t → (t ≡ k.Int) × (t ≡ w)
    → r.wants [] one app at found k.Int ++ r.alike [] one app at left found ≡ []
ordered_taken left at found w t p q h = whole _ _ (wants_of at found t k.Int q h.0) (alike_of at left found w t p q h.1)

right_side_taken : (op : BinaryOp) (left : Option ValueKind) (at : ℕ) (found : Option ValueKind) (w t : ValueKind)
    → left ≡ Some w → found ≡ Some t
    → TakesRightSide op w t → r.right_operand [] one app op left at found ≡ []
right_side_taken b.Add left at found w t p q h = wants_of at found t k.Int q h
right_side_taken b.Sub left at found w t p q h = wants_of at found t k.Int q h
right_side_taken b.Mul left at found w t p q h = wants_of at found t k.Int q h
right_side_taken b.Div left at found w t p q h = wants_of at found t k.Int q h
right_side_taken b.Rem left at found w t p q h = wants_of at found t k.Int q h
right_side_taken b.Eq left at found w t p q h = alike_of at left found w t p q h
right_side_taken b.Ne left at found w t p q h = alike_of at left found w t p q h
right_side_taken b.Lt left at found w t p q h = ordered_taken left at found w t p q h
right_side_taken b.Le left at found w t p q h = ordered_taken left at found w t p q h
right_side_taken b.Gt left at found w t p q h = ordered_taken left at found w t p q h
right_side_taken b.Ge left at found w t p q h = ordered_taken left at found w t p q h
right_side_taken b.And left at found w t p q h = wants_of at found t k.Bool q h
right_side_taken b.Or left at found w t p q h = wants_of at found t k.Bool q h

-- ---- names

pub scalar_sound : (n : PlacedName) (l : Option (Option ValueKind)) (o : Option Holder) → l ≢ Some None
    → r.scalar_use [] one app n l o ≡ []
    → (t : ValueKind) × (name_kind l o ≡ Some t) × ScalarHas l o t
scalar_sound n (Some (Some t)) o kinded h = (t, refl, refl)
scalar_sound n (Some None) o kinded h = absurd (kinded refl)
scalar_sound n None (Some x) kinded h = (x.kind, refl, (failed x.array _ h, refl))
scalar_sound n None None kinded h = absurd (let e : r.scalar_use [] one app n None None ≡ [] = h in cc)

pub array_sound : (n : PlacedName) (l : Option (Option ValueKind)) (o : Option Holder)
    → r.array_use [] one app n l o ≡ []
    → (t : ValueKind) × (name_kind l o ≡ Some t) × ArrayHas l o t
array_sound n (Some found) o h = absurd (let e : r.array_use [] one app n (Some found) o ≡ [] = h in cc)
array_sound n None (Some x) h = (x.kind, refl, (held x.array _ h, refl))
array_sound n None None h = absurd (let e : r.array_use [] one app n None None ≡ [] = h in cc)

pub scalar_complete : (n : PlacedName) (l : Option (Option ValueKind)) (o : Option Holder) (t : ValueKind)
    → ScalarHas l o t → (r.scalar_use [] one app n l o ≡ []) × (name_kind l o ≡ Some t)
scalar_complete n (Some found) o t h = (refl, h)
scalar_complete n None (Some x) t h = (ap (λ a. if a then one (WrongType n.at) else []) h.0, ap Some h.1)
scalar_complete n None None t h = absurd h

pub array_complete : (n : PlacedName) (l : Option (Option ValueKind)) (o : Option Holder) (t : ValueKind)
    → ArrayHas l o t → (r.array_use [] one app n l o ≡ []) × (name_kind l o ≡ Some t)
array_complete n (Some found) o t h = absurd h
array_complete n None (Some x) t h = (ap (λ a. if a then [] else one (WrongType n.at)) h.0, ap Some h.1)
array_complete n None None t h = absurd h

fits_of : (at : ℕ) (found : Option ValueKind) (t : ValueKind) (p : Option Parameter) → found ≡ Some t
    → r.fits [] one app at found p ≡ [] → IsOfKind p t
fits_of at found t None e h = tt
fits_of at found t (Some p) e h = wanted_is at found t p.kind e h

fits_nothing : (at : ℕ) (found : Option ValueKind) (t : ValueKind) (p : Option Parameter) → found ≡ Some t
    → IsOfKind p t → r.fits [] one app at found p ≡ []
fits_nothing at found t None e h = refl
fits_nothing at found t (Some p) e h = wants_of at found t p.kind e h

input_sound : (inside : Bool) (at : ℕ) → r.input_use [] one app inside at ≡ [] → inside ≡ false
input_sound false at h = refl
input_sound true at h = absurd (let e : r.input_use [] one app true at ≡ [] = h in cc)

first_takes : (rest : Links) (at : ℕ) (found : Option ValueKind) (t : ValueKind) → HasLink rest → found ≡ Some t
    → r.first_operand [] one app rest at found ≡ [] → TakesFirst rest t
first_takes no_links at found t n e h = absurd n
first_takes (link op x rest) at found t n e h = left_takes op at found t e h

first_taken : (rest : Links) (at : ℕ) (found : Option ValueKind) (t : ValueKind) → found ≡ Some t → TakesFirst rest t
    → r.first_operand [] one app rest at found ≡ []
first_taken no_links at found t e h = absurd h
first_taken (link op x rest) at found t e h = left_taken op at found t e h

links_kind_of : (rest : Links) → HasLink rest → (t : ValueKind) × (links_kind rest ≡ Some t)
links_kind_of no_links n = absurd n
links_kind_of (link op x rest) n = (_, refl)

known_callee : (f : Option Callee) (n : ℕ) → IsKnown n f
    → (g : Callee) × (f ≡ Some g) × (n ≡ length g.params) × ((t : ValueKind) × (g.result ≡ Some t))
known_callee None n h = absurd h
known_callee (Some g) n h = (g, refl, h.0, h.1)

-- ---- what breaks no rule has a kind

abbrev pub Kinded : Names → Locals → Expression → Type 0
Kinded c l e = (t : ValueKind) × (kind_in c l e ≡ Some t) × HasKind c l e t

pub has_wanted : (c : Names) (l : Locals) (e : Expression) (w : ValueKind) → Kinded c l e
    → r.wants [] one app (expression_place e) (kind_in c l e) w ≡ [] → HasKind c l e w
has_wanted c l e w h p = subst (λ t. HasKind c l e t) (wanted_is (expression_place e) (kind_in c l e) h.0 w h.1 p) h.2

mutual
  expression_sound : (c : Names) (l : Locals) (e : Expression) → AllKinded l → Applies c e
      → r.broken_in_expression [] one app c l e ≡ [] → Kinded c l e
  expression_sound c l (placed at s) a p h = expression_form_sound c l s a p h

  expression_form_sound : (c : Names) (l : Locals) (s : ExpressionForm) → AllKinded l → ExpressionFormApplies c s
      → r.broken_in_expression_form [] one app c l s ≡ []
      → (t : ValueKind) × (expression_form_kind c l s ≡ Some t) × ExpressionFormHas c l s t
  expression_form_sound c l (int n) a p h = (k.Int, refl, refl)
  expression_form_sound c l (bool x) a p h = (k.Bool, refl, refl)
  expression_form_sound c l no_rev a p h = (k.Rev, refl, refl)
  expression_form_sound c l (var n) a p h = scalar_sound n (find n.text l) (c.shared n.text) (a n.text) h
  expression_form_sound c l (cell n index) a p h =
      let named = parts (r.array_use [] one app n (find n.text l) (c.shared n.text)) _ h in
      let part = parts (r.broken_in_expression [] one app c l index) _ named.1 in
      let array = array_sound n (find n.text l) (c.shared n.text) named.0 in
      (array.0, array.1, (array.2, has_wanted c l index k.Int (expression_sound c l index a p part.0) part.1))
  expression_form_sound c l (apply n args) a p h =
      let f = known_callee (c.funs n.text) (count args) p.0 in
      let same : r.params_of [] one app (c.funs n.text) ≡ f.0.params = ap (λ x. r.params_of [] one app x) f.1 in
      let rest =
      args_sound c l f.0.params 0 [] args a p.1 (subst (λ ps. r.args_by [] one app c l ps 0 [] args ≡ []) same h) in
      (f.3.0, ap result_of f.1 ∙ f.3.1, (f.0, f.1, f.3.1, f.2, rest.1))
  expression_form_sound c l (input at index) a p h =
      let named = parts (r.input_use [] one app c.inside at) _ h in
      let part = parts (r.broken_in_expression [] one app c l index) _ named.1 in (
        k.Int,
        refl,
        (
          refl,
          input_sound c.inside at named.0,
          has_wanted c l index k.Int (expression_sound c l index a p part.0) part.1,
        ),
      )
  expression_form_sound c l (inputs at) a p h = (k.Int, refl, (refl, input_sound c.inside at h))
  expression_form_sound c l (pick x y z) a p h =
      let first =
      parts (r.broken_in_expression [] one app c l x ++ r.wants [] one app (expression_place x) (kind_in c l x) k.Bool)
      _ h in
      let test = parts (r.broken_in_expression [] one app c l x) _ first.0 in
      let second =
      parts (r.broken_in_expression [] one app c l y ++ r.broken_in_expression [] one app c l z) _ first.1 in
      let arms = parts (r.broken_in_expression [] one app c l y) _ second.0 in
      let yes = expression_sound c l y a p.1 arms.0 in
      let no = expression_sound c l z a p.2 arms.1 in
      let same = alike_is (expression_place z) (kind_in c l y) (kind_in c l z) yes.0 no.0 yes.1 no.1 second.1 in (
        yes.0,
        yes.1,
        (
          has_wanted c l x k.Bool (expression_sound c l x a p.0 test.0) test.1,
          yes.2,
          subst (λ t. HasKind c l z t) same no.2,
        ),
      )
  expression_form_sound c l (unary op e) a p h =
      let part = parts (r.broken_in_expression [] one app c l e) _ h in
      (operand_kind op, refl, (refl, has_wanted c l e (operand_kind op) (expression_sound c l e a p part.0) part.1))
  expression_form_sound c l (chain e rest) a p h =
      let all =
      links_sound c l (kind_in c l e)
      (r.broken_in_expression [] one app c l e ++ r.first_operand [] one app rest (expression_place e) (kind_in c l e))
      rest a p.2 h in
      let head = parts (r.broken_in_expression [] one app c l e) _ all.0 in
      let left = expression_sound c l e a p.0 head.0 in
      let given = links_kind_of rest p.1 in (
        given.0,
        given.1,
        (
          left.0,
          left.2,
          first_takes rest (expression_place e) (kind_in c l e) left.0 p.1 left.1 head.1,
          all.1 left.0 left.1,
          given.1,
        ),
      )

  pub args_sound : (c : Names) (l : Locals) (ps : List Parameter) (n : ℕ) (found : All) (ts : Expressions) → AllKinded l
      → ExpressionsApply c ts → r.args_by [] one app c l ps n found ts ≡ []
      → (found ≡ []) × ArgsHave c l ps n ts
  args_sound c l ps n found no_expressions a p h = (h, tt)
  args_sound c l ps n found (expression x xs) a p h =
      let rest =
      args_sound c l ps (n + 1)
      (found
      ++ (r.broken_in_expression [] one app c l x
      ++ r.fits [] one app (expression_place x) (kind_in c l x) (slice_get ps n)))
      xs a p.1 h in
      let here = parts found _ rest.0 in
      let part = parts (r.broken_in_expression [] one app c l x) _ here.1 in
      let x' = expression_sound c l x a p.0 part.0 in
      (here.0, ((x'.0, x'.2, fits_of (expression_place x) (kind_in c l x) x'.0 (slice_get ps n) x'.1 part.1), rest.1))

  links_sound : (c : Names) (l : Locals) (left : Option ValueKind) (found : All) (ls : Links) → AllKinded l
      → LinksApply c ls → r.broken_in_links [] one app c l left found ls ≡ []
      → (found ≡ []) × ((w : ValueKind) → left ≡ Some w → LinksHave c l w ls)
  links_sound c l left found no_links a p h = (h, λ w e. tt)
  links_sound c l left found (link op x rest) a p h =
      let more =
      links_sound c l left (found
      ++ (r.broken_in_expression [] one app c l x
      ++ r.right_operand [] one app op left (expression_place x) (kind_in c l x)))
      rest a p.1 h in
      let here = parts found _ more.0 in
      let part = parts (r.broken_in_expression [] one app c l x) _ here.1 in
      let x' = expression_sound c l x a p.0 part.0 in (
        here.0,
        λ w e. (
          (x'.0, x'.2, right_side_takes op left (expression_place x) (kind_in c l x) w x'.0 e x'.1 part.1),
          more.1 w e,
        ),
      )

pub sound : Sound
sound c l e a p h = expression_sound c l e a p h

-- ---- what has a kind breaks no rule

mutual
  expression_complete : (c : Names) (l : Locals) (e : Expression) (t : ValueKind) → HasKind c l e t
      → (r.broken_in_expression [] one app c l e ≡ []) × (kind_in c l e ≡ Some t)
  expression_complete c l (placed at s) t h = expression_form_complete c l s t h

  expression_form_complete : (c : Names) (l : Locals) (s : ExpressionForm) (t : ValueKind) → ExpressionFormHas c l s t
      → (r.broken_in_expression_form [] one app c l s ≡ []) × (expression_form_kind c l s ≡ Some t)
  expression_form_complete c l (int n) t h = (refl, ap Some (sym h))
  expression_form_complete c l (bool x) t h = (refl, ap Some (sym h))
  expression_form_complete c l no_rev t h = (refl, ap Some (sym h))
  expression_form_complete c l (var n) t h = scalar_complete n (find n.text l) (c.shared n.text) t h
  expression_form_complete c l (cell n index) t h =
      let array = array_complete n (find n.text l) (c.shared n.text) t h.0 in
      let i = expression_complete c l index k.Int h.1 in (
        whole _ _ array.0 (whole _ _ i.0 (wants_nothing (expression_place index) (kind_in c l index) k.Int i.1)),
        array.1,
      )
  expression_form_complete c l (apply n args) t h = (
    ap (λ f. r.args_by [] one app c l (r.params_of [] one app f) 0 [] args) h.1
        ∙ args_complete c l h.0.params 0 [] args refl h.4,
    ap result_of h.1 ∙ h.2,
  )
  expression_form_complete c l (input at index) t h =
      let i = expression_complete c l index k.Int h.2 in (
        whole _ _ (ap (λ x. r.input_use [] one app x at) h.1)
            (whole _ _ i.0 (wants_nothing (expression_place index) (kind_in c l index) k.Int i.1)),
        ap Some (sym h.0),
      )
  expression_form_complete c l (inputs at) t h = (ap (λ x. r.input_use [] one app x at) h.1, ap Some (sym h.0))
  expression_form_complete c l (pick x y z) t h =
      let test = expression_complete c l x k.Bool h.0 in
      let yes = expression_complete c l y t h.1 in
      let no = expression_complete c l z t h.2 in (
        whole _ _ (whole _ _ test.0 (wants_nothing (expression_place x) (kind_in c l x) k.Bool test.1))
            (whole _ _ (whole _ _ yes.0 no.0)
            (alike_nothing (expression_place z) (kind_in c l y) (kind_in c l z) t yes.1 no.1)),
        yes.1,
      )
  expression_form_complete c l (unary op e) t h =
      let i = expression_complete c l e (operand_kind op) h.1 in
      (whole _ _ i.0 (wants_nothing (expression_place e) (kind_in c l e) (operand_kind op) i.1), ap Some (sym h.0))
  expression_form_complete c l (chain e rest) t h =
      let left = expression_complete c l e h.0 h.1 in (
        links_complete c l (kind_in c l e) h.0 _ rest left.1
            (whole _ _ left.0 (first_taken rest (expression_place e) (kind_in c l e) h.0 left.1 h.2)) h.3,
        h.4,
      )

  pub args_complete : (c : Names) (l : Locals) (ps : List Parameter) (n : ℕ) (found : All) (ts : Expressions)
      → found ≡ [] → ArgsHave c l ps n ts → r.args_by [] one app c l ps n found ts ≡ []
  args_complete c l ps n found no_expressions p h = p
  args_complete c l ps n found (expression x xs) p h =
      let i = expression_complete c l x h.0.0 h.0.1 in
      args_complete c l ps (n + 1) _ xs
      (whole _ _ p (whole _ _ i.0 (fits_nothing (expression_place x) (kind_in c l x) h.0.0 (slice_get ps n) i.1 h.0.2)))
      h.1

  links_complete : (c : Names) (l : Locals) (left : Option ValueKind) (w : ValueKind) (found : All) (ls : Links)
      → left ≡ Some w → found ≡ [] → LinksHave c l w ls → r.broken_in_links [] one app c l left found ls ≡ []
  links_complete c l left w found no_links e p h = p
  links_complete c l left w found (link op x rest) e p h =
      let i = expression_complete c l x h.0.0 h.0.1 in
      links_complete c l left w _ rest e
      (whole _ _ p (whole _ _ i.0 (right_side_taken op left (expression_place x) (kind_in c l x) w h.0.0 e i.1 h.0.2)))
      h.1

pub complete : Complete
complete c l e t h = expression_complete c l e t h

some_same : (t u : ValueKind) → Some t ≡ Some u → t ≡ u
some_same t u h = cc

pub only : Only
only c l e t u p q = some_same t u (sym (complete c l e t p).1 ∙ (complete c l e u q).1)
