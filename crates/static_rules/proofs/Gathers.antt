-- What holds of all faults of a list, and what is among them, for the tests that the rules are made of.
use Rattle.std.proofs.Common.{◌≡◌, ◌∙◌, ◌≢◌, inl, inr, ℕ, Bool, true, false, cond, Option, Some, None, [], ◌∷◌, ◌++◌, slice_get, refl, sym, ap, subst, true≢false}
use Rattle.rev_num.specs.declared.value.ValueKind.{ValueKind}
use Rattle.rev_num.specs.declared.value.ValueKind.TheVariants as k
use Rattle.rev_num.specs.Value.{same_kind}
use Rattle.rev_num.proofs.SameKinds.{same_kind_is, same_kind_self}
use Rattle.rev_syntax.specs.Trees.{PlacedName, Parameter}
use Rattle.rev_syntax.specs.declared.tree.BinaryOp.{BinaryOp}
use Rattle.rev_syntax.specs.declared.tree.BinaryOp.TheVariants as b
use Rattle.typed_programs.specs.Least.{Among}
use Rattle.typed_programs.proofs.Firsts.{left_among, right_among, among_split}
use Rattle.typed_programs.specs.declared.fault.TypeFault.{TypeFault}
use Rattle.typed_programs.specs.declared.fault.TypeFault.TheVariants.{UnknownName, WrongType}
use Rattle.typed_programs.specs.declared.names.Holder.{Holder}
use Rattle.typed_programs.specs.Kinds.{Callee, operands, compares}
use Rattle.typed_programs.specs.Rules as r
use Rattle.typed_programs.proofs.Typings.{All, one, app}
use Rattle.typed_programs.proofs.StatementsFaults.{AllAre, all_none, all_both, all_when}
use Rattle.static_rules.specs.Breaks.{array_named}
pub use Rattle.rev_num.proofs.Options.{some_same as some_is}

-- ---- lists within lists

-- a fault of a list
pub record Is (xs : All) (f : TypeFault) : Type 0 where
  pub it : Among xs f

abbrev pub In : All → All → Type 0
In xs ys = (f : TypeFault) → Is xs f → Is ys f

pub here : (f : TypeFault) → Is (f ∷ []) f
here f = record { it = inl refl }

pub in_left : (xs ys : All) (f : TypeFault) → Is xs f → Is (xs ++ ys) f
in_left xs ys f m = record { it = left_among xs ys f m.it }

pub in_right_side : (xs ys : All) (f : TypeFault) → Is ys f → Is (xs ++ ys) f
in_right_side xs ys f m = record { it = right_among xs ys f m.it }

pub in_app : (xs xs' ys : All) → In xs xs' → In (xs ++ ys) (xs' ++ ys)
in_app xs xs' ys a f m = elim (among_split xs ys f m.it) [
  | inl b ↦ in_left xs' ys f (a f (record { it = b }))
  | inr b ↦ in_right_side xs' ys f (record { it = b })
]

pub in_when : (x : Bool) (g : TypeFault) → x ≡ true → Is (cond x (g ∷ []) []) g
in_when true g h = here g
in_when false g h = absurd (true≢false (sym h))

pub in_unless : (x : Bool) (g : TypeFault) → x ≡ false → Is (cond x [] (g ∷ [])) g
in_unless false g h = here g
in_unless true g h = absurd (true≢false h)

-- ---- kinds

pub differ : (a t : ValueKind) → same_kind a t ≡ false → a ≢ t
differ a t h e = true≢false (sym (ap (λ x. same_kind x t) e ∙ same_kind_self t) ∙ h)

pub alike_kinds : (a t : ValueKind) → a ≡ t → same_kind a t ≡ true
alike_kinds a t e = ap (λ x. same_kind x t) e ∙ same_kind_self t

pub not_alike : (a t : ValueKind) → a ≢ t → same_kind a t ≡ false
not_alike a t n = by (same_kind a t) refl
  where
    by : (x : Bool) → same_kind a t ≡ x → x ≡ false
    by true e = absurd (n (same_kind_is a t e))
    by false e = refl

pub not_some : {A : Type 0} (x : A) → None ≡ Some x → ⊥
not_some x e = cc

pub not_none : {A : Type 0} (x : A) → Some x ≡ None → ⊥
not_none x e = cc

pub in_wants : (at : ℕ) (found : Option ValueKind) (t u : ValueKind) → found ≡ Some u → u ≢ t
    → Is (r.wants [] one app at found t) (WrongType at)
in_wants at None t u e n = absurd (not_some u e)
in_wants at (Some x) t u e n = in_unless (same_kind x t) _ (not_alike x t (λ q. n (sym (some_is x u e) ∙ q)))

pub in_alike : (at : ℕ) (left found : Option ValueKind) (t u : ValueKind) → left ≡ Some t → found ≡ Some u → u ≢ t
    → Is (r.alike [] one app at left found) (WrongType at)
in_alike at left found t u p q n =
    subst (λ o. Is (r.alike [] one app at o found) (WrongType at)) (sym p) (in_wants at found t u q n)

pub in_not_rev : (at : ℕ) (found : Option ValueKind) → found ≡ Some k.Rev
    → Is (r.not_rev [] one app at found) (WrongType at)
in_not_rev at found e = subst (λ o. Is (r.not_rev [] one app at o) (WrongType at)) (sym e) (here (WrongType at))

-- the kind that is wanted
wants_same : (at : ℕ) (found : Option ValueKind) (t u : ValueKind) → Some u ≡ Some t
    → In (r.wants [] one app at found t) (r.wants [] one app at found u)
wants_same at found t u e f m = subst (λ x. Is (r.wants [] one app at found x) f) (sym (some_is u t e)) m

pub in_left_operand : (op : BinaryOp) (at : ℕ) (found : Option ValueKind) (t : ValueKind) → operands op ≡ Some t
    → In (r.wants [] one app at found t) (r.left_operand [] one app op at found)
in_left_operand b.Add at found t e = wants_same at found t k.Int e
in_left_operand b.Sub at found t e = wants_same at found t k.Int e
in_left_operand b.Mul at found t e = wants_same at found t k.Int e
in_left_operand b.Div at found t e = wants_same at found t k.Int e
in_left_operand b.Rem at found t e = wants_same at found t k.Int e
in_left_operand b.Eq at found t e = absurd (not_some t e)
in_left_operand b.Ne at found t e = absurd (not_some t e)
in_left_operand b.Lt at found t e = wants_same at found t k.Int e
in_left_operand b.Le at found t e = wants_same at found t k.Int e
in_left_operand b.Gt at found t e = wants_same at found t k.Int e
in_left_operand b.Ge at found t e = wants_same at found t k.Int e
in_left_operand b.And at found t e = wants_same at found t k.Bool e
in_left_operand b.Or at found t e = wants_same at found t k.Bool e

pub in_left_handle : (op : BinaryOp) (at : ℕ) (found : Option ValueKind) → operands op ≡ None
    → In (r.not_rev [] one app at found) (r.left_operand [] one app op at found)
in_left_handle b.Add at found e = absurd (not_none k.Int e)
in_left_handle b.Sub at found e = absurd (not_none k.Int e)
in_left_handle b.Mul at found e = absurd (not_none k.Int e)
in_left_handle b.Div at found e = absurd (not_none k.Int e)
in_left_handle b.Rem at found e = absurd (not_none k.Int e)
in_left_handle b.Eq at found e = λ f m. m
in_left_handle b.Ne at found e = λ f m. m
in_left_handle b.Lt at found e = absurd (not_none k.Int e)
in_left_handle b.Le at found e = absurd (not_none k.Int e)
in_left_handle b.Gt at found e = absurd (not_none k.Int e)
in_left_handle b.Ge at found e = absurd (not_none k.Int e)
in_left_handle b.And at found e = absurd (not_none k.Bool e)
in_left_handle b.Or at found e = absurd (not_none k.Bool e)

wants_first : (at : ℕ) (left found : Option ValueKind) (t : ValueKind) → Some k.Int ≡ Some t
    → In (r.wants [] one app at found t) (r.wants [] one app at found k.Int ++ r.alike [] one app at left found)
wants_first at left found t e f m = in_left _ _ f (wants_same at found t k.Int e f m)

pub in_right_side_operand : (op : BinaryOp) (left : Option ValueKind) (at : ℕ) (found : Option ValueKind)
    (t : ValueKind)
    → operands op ≡ Some t
    → In (r.wants [] one app at found t) (r.right_operand [] one app op left at found)
in_right_side_operand b.Add left at found t e = wants_same at found t k.Int e
in_right_side_operand b.Sub left at found t e = wants_same at found t k.Int e
in_right_side_operand b.Mul left at found t e = wants_same at found t k.Int e
in_right_side_operand b.Div left at found t e = wants_same at found t k.Int e
in_right_side_operand b.Rem left at found t e = wants_same at found t k.Int e
in_right_side_operand b.Eq left at found t e = absurd (not_some t e)
in_right_side_operand b.Ne left at found t e = absurd (not_some t e)
in_right_side_operand b.Lt left at found t e = wants_first at left found t e
in_right_side_operand b.Le left at found t e = wants_first at left found t e
in_right_side_operand b.Gt left at found t e = wants_first at left found t e
in_right_side_operand b.Ge left at found t e = wants_first at left found t e
in_right_side_operand b.And left at found t e = wants_same at found t k.Bool e
in_right_side_operand b.Or left at found t e = wants_same at found t k.Bool e

pub in_right_side_alike : (op : BinaryOp) (left : Option ValueKind) (at : ℕ) (found : Option ValueKind)
    → compares op ≡ true
    → In (r.alike [] one app at left found) (r.right_operand [] one app op left at found)
in_right_side_alike b.Add left at found e = absurd (true≢false (sym e))
in_right_side_alike b.Sub left at found e = absurd (true≢false (sym e))
in_right_side_alike b.Mul left at found e = absurd (true≢false (sym e))
in_right_side_alike b.Div left at found e = absurd (true≢false (sym e))
in_right_side_alike b.Rem left at found e = absurd (true≢false (sym e))
in_right_side_alike b.Eq left at found e = λ f m. m
in_right_side_alike b.Ne left at found e = λ f m. m
in_right_side_alike b.Lt left at found e = λ f m. in_right_side _ _ f m
in_right_side_alike b.Le left at found e = λ f m. in_right_side _ _ f m
in_right_side_alike b.Gt left at found e = λ f m. in_right_side _ _ f m
in_right_side_alike b.Ge left at found e = λ f m. in_right_side _ _ f m
in_right_side_alike b.And left at found e = absurd (true≢false (sym e))
in_right_side_alike b.Or left at found e = absurd (true≢false (sym e))

-- ---- names

pub in_scalar_unknown : (w : PlacedName) (o : Option (Option ValueKind)) (h : Option Holder) → o ≡ None → h ≡ None
    → Is (r.scalar_use [] one app w o h) (UnknownName w.at)
in_scalar_unknown w None None p q = here (UnknownName w.at)
in_scalar_unknown w None (Some h) p q = absurd (not_none h q)
in_scalar_unknown w (Some x) h p q = absurd (not_none x p)

pub in_array_unknown : (w : PlacedName) (o : Option (Option ValueKind)) (h : Option Holder) → o ≡ None → h ≡ None
    → Is (r.array_use [] one app w o h) (UnknownName w.at)
in_array_unknown w None None p q = here (UnknownName w.at)
in_array_unknown w None (Some h) p q = absurd (not_none h q)
in_array_unknown w (Some x) h p q = absurd (not_none x p)

bool_other : (a x y : Bool) → x ≡ a → a ≢ true → x ≡ false
bool_other a true y e n = absurd (n (sym e))
bool_other a false y e n = refl

bool_this : (a x : Bool) → x ≡ a → a ≢ false → x ≡ true
bool_this a true e n = refl
bool_this a false e n = absurd (n (sym e))

pub in_scalar_other : (w : PlacedName) (o : Option (Option ValueKind)) (h : Option Holder) (a : Bool)
    → array_named o h ≡ Some a → a ≢ false → Is (r.scalar_use [] one app w o h) (WrongType w.at)
in_scalar_other w None None a e n = absurd (not_some a e)
in_scalar_other w None (Some h) a e n = in_when h.array _ (bool_this a h.array (some_is h.array a e) n)
in_scalar_other w (Some x) h a e n = absurd (n (sym (some_is false a e)))

pub in_array_other : (w : PlacedName) (o : Option (Option ValueKind)) (h : Option Holder) (a : Bool)
    → array_named o h ≡ Some a → a ≢ true → Is (r.array_use [] one app w o h) (WrongType w.at)
in_array_other w None None a e n = absurd (not_some a e)
in_array_other w None (Some h) a e n = in_unless h.array _ (bool_other a h.array true (some_is h.array a e) n)
in_array_other w (Some x) h a e n = here (WrongType w.at)

-- ---- parameters of what a name means

pub given_by : (o : Option Callee) (i : ℕ) (q : Parameter) → slice_get (r.params_of [] one app o) i ≡ Some q
    → (f : Callee) × (o ≡ Some f) × (slice_get f.params i ≡ Some q)
given_by None i q e = absurd (not_some q e)
given_by (Some f) i q e = (f, refl, e)

-- ---- what holds of all

module _ (P : TypeFault → Type 0) where
  pub all_one : (g : TypeFault) → P g → AllAre P (g ∷ [])
  all_one g h f (inl is) = subst P is h
  all_one g h f (inr m) = absurd m

  pub all_unless : (x : Bool) (g : TypeFault) → (x ≡ false → P g) → AllAre P (cond x [] (g ∷ []))
  all_unless true g h f m = absurd m
  all_unless false g h f (inl is) = subst P is (h refl)
  all_unless false g h f (inr m) = absurd m

  pub all_wants : (at : ℕ) (found : Option ValueKind) (t : ValueKind)
      → ((u : ValueKind) → found ≡ Some u → u ≢ t → P (WrongType at)) → AllAre P (r.wants [] one app at found t)
  all_wants at None t h = all_none P
  all_wants at (Some u) t h = all_unless (same_kind u t) _ (λ e. h u refl (differ u t e))

  pub all_alike : (at : ℕ) (left found : Option ValueKind)
      → ((t u : ValueKind) → left ≡ Some t → found ≡ Some u → u ≢ t → P (WrongType at))
      → AllAre P (r.alike [] one app at left found)
  all_alike at None found h = all_none P
  all_alike at (Some t) found h = all_wants at found t (λ u e n. h t u refl e n)

  pub all_not_rev : (at : ℕ) (found : Option ValueKind) → (found ≡ Some k.Rev → P (WrongType at))
      → AllAre P (r.not_rev [] one app at found)
  all_not_rev at None h = all_none P
  all_not_rev at (Some k.Int) h = all_none P
  all_not_rev at (Some k.Bool) h = all_none P
  all_not_rev at (Some k.Rev) h = all_one _ (h refl)

  pub all_fits : (at : ℕ) (found : Option ValueKind) (o : Option Parameter)
      → ((q : Parameter) → o ≡ Some q → AllAre P (r.wants [] one app at found q.kind))
      → AllAre P (r.fits [] one app at found o)
  all_fits at found None h = all_none P
  all_fits at found (Some q) h = h q refl

  pub all_left : (op : BinaryOp) (at : ℕ) (found : Option ValueKind)
      → ((t : ValueKind) → operands op ≡ Some t → AllAre P (r.wants [] one app at found t))
      → (operands op ≡ None → AllAre P (r.not_rev [] one app at found))
      → AllAre P (r.left_operand [] one app op at found)
  all_left b.Add at found h g = h k.Int refl
  all_left b.Sub at found h g = h k.Int refl
  all_left b.Mul at found h g = h k.Int refl
  all_left b.Div at found h g = h k.Int refl
  all_left b.Rem at found h g = h k.Int refl
  all_left b.Eq at found h g = g refl
  all_left b.Ne at found h g = g refl
  all_left b.Lt at found h g = h k.Int refl
  all_left b.Le at found h g = h k.Int refl
  all_left b.Gt at found h g = h k.Int refl
  all_left b.Ge at found h g = h k.Int refl
  all_left b.And at found h g = h k.Bool refl
  all_left b.Or at found h g = h k.Bool refl

  pub all_right_side : (op : BinaryOp) (left : Option ValueKind) (at : ℕ) (found : Option ValueKind)
      → ((t : ValueKind) → operands op ≡ Some t → AllAre P (r.wants [] one app at found t))
      → (compares op ≡ true → AllAre P (r.alike [] one app at left found))
      → AllAre P (r.right_operand [] one app op left at found)
  all_right_side b.Add left at found h g = h k.Int refl
  all_right_side b.Sub left at found h g = h k.Int refl
  all_right_side b.Mul left at found h g = h k.Int refl
  all_right_side b.Div left at found h g = h k.Int refl
  all_right_side b.Rem left at found h g = h k.Int refl
  all_right_side b.Eq left at found h g = g refl
  all_right_side b.Ne left at found h g = g refl
  all_right_side b.Lt left at found h g = all_both P _ _ (h k.Int refl) (g refl)
  all_right_side b.Le left at found h g = all_both P _ _ (h k.Int refl) (g refl)
  all_right_side b.Gt left at found h g = all_both P _ _ (h k.Int refl) (g refl)
  all_right_side b.Ge left at found h g = all_both P _ _ (h k.Int refl) (g refl)
  all_right_side b.And left at found h g = h k.Bool refl
  all_right_side b.Or left at found h g = h k.Bool refl

  pub all_scalar : (w : PlacedName) (o : Option (Option ValueKind)) (h : Option Holder)
      → (o ≡ None → h ≡ None → P (UnknownName w.at))
      → ((a : Bool) → array_named o h ≡ Some a → a ≢ false → P (WrongType w.at))
      → AllAre P (r.scalar_use [] one app w o h)
  all_scalar w (Some x) h u g = all_none P
  all_scalar w None (Some h) u g = all_when P h.array _ (λ e. g h.array refl (λ q. true≢false (sym e ∙ q)))
  all_scalar w None None u g = all_one _ (u refl refl)

  pub all_array : (w : PlacedName) (o : Option (Option ValueKind)) (h : Option Holder)
      → (o ≡ None → h ≡ None → P (UnknownName w.at))
      → ((a : Bool) → array_named o h ≡ Some a → a ≢ true → P (WrongType w.at))
      → AllAre P (r.array_use [] one app w o h)
  all_array w (Some x) h u g = all_one _ (g false refl (λ q. true≢false (sym q)))
  all_array w None (Some h) u g = all_unless h.array _ (λ e. g h.array refl (λ q. true≢false (sym q ∙ e)))
  all_array w None None u g = all_one _ (u refl refl)
