-- Instructions on the words of values are operators on values.
use Rattle.std.proofs.Common.{◌≡◌, ◌∙◌, ℕ, zero, suc, ℤ, Bool, true, false, not, ◌&&◌, List, [], ◌∷◌, ◌++◌, length, map, reverse, take, drop, Some, None, Result, Ok, Err, refl, sym, ap, arith, append_assoc}
use Rattle.std.specs.Prelude.{if◌then◌else◌}
use Rattle.std.proofs.lemmas.List.{length-reverse, reverse-append, reverse-reverse}
use Rattle.rev_num.specs.Path.{Path}
use Rattle.rev_num.specs.declared.value.Value.{Value}
use Rattle.rev_num.specs.declared.value.Value.TheVariants as v
use Rattle.rev_num.specs.declared.value.ValueKind.{ValueKind}
use Rattle.rev_num.specs.declared.value.ValueKind.TheVariants as k
use Rattle.rev_num.specs.declared.value.NumFault.{NumFault}
use Rattle.rev_num.specs.declared.value.NumFault.TheVariants as fault
use Rattle.rev_num.specs.Value.{kind_of, same_kind, same_number, same_truth}
use Rattle.rev_num.proofs.SameKinds.{same_kind_self}
use Rattle.rev_syntax.specs.Trees.{Parameter}
use Rattle.rev_syntax.specs.declared.tree.UnaryOp.{UnaryOp}
use Rattle.rev_syntax.specs.declared.tree.UnaryOp.TheVariants as u
use Rattle.rev_syntax.specs.declared.tree.BinaryOp.{BinaryOp}
use Rattle.rev_syntax.specs.declared.tree.BinaryOp.TheVariants as b
use Rattle.typed_programs.specs.Value as value
use Rattle.typed_programs.specs.Value.{Answer, operated, reversed}
use Rattle.typed_programs.specs.Kinds.{operand_kind, given_kind}
use Rattle.typed_programs.specs.Typing.{TakesLeft, TakesRightSide}
use Rattle.rev_code.specs.declared.code.Instr.{Instr}
use Rattle.rev_code.specs.declared.code.Instr.TheVariants as i
use Rattle.rev_code.specs.declared.code.CodeBlock.{CodeBlock}
use Rattle.rev_code.specs.Words as w
use Rattle.rev_code.specs.Words.{Word, bool, fits}
use Rattle.rev_code.specs.State.{State, Setting}
use Rattle.rev_code.specs.Step as r
use Rattle.rev_code.specs.Step.{Comes, on, traps, act, arguments}
use Rattle.code_generation.specs.Expressions.{unary_code}
use Rattle.code_generation.specs.Generated.{kinds_of}
use Rattle.expression_meaning.specs.Agrees.{word, IsOfKind, ArgsAre, pushed}

pub as_int : (x : Value) → kind_of x ≡ k.Int → (z : ℤ) × (x ≡ v.Int z)
as_int (v.Int z) h = (z, refl)
as_int (v.Bool z) h = absurd (let q : k.Bool ≡ k.Int = h in cc)
as_int (v.Rev z) h = absurd (let q : k.Rev ≡ k.Int = h in cc)

pub as_bool : (x : Value) → kind_of x ≡ k.Bool → (z : Bool) × (x ≡ v.Bool z)
as_bool (v.Bool z) h = (z, refl)
as_bool (v.Int z) h = absurd (let q : k.Int ≡ k.Bool = h in cc)
as_bool (v.Rev z) h = absurd (let q : k.Rev ≡ k.Bool = h in cc)

-- what an answer comes to, in place of the words that were taken
abbrev pub came : State Path → List (Word Path) → Answer → Comes Path
came c rest (Ok x) = on c (word x ∷ rest)
came c rest (Err e) = traps c e

number_came : (c : State Path) (rest : List (Word Path)) (o : Result ℤ NumFault)
    → r.number c rest o ≡ came c rest (value.number o)
number_came c rest (Ok z) = refl
number_came c rest (Err fault.Overflow) = refl
number_came c rest (Err fault.ZeroDivisor) = refl

number_kind : (o : Result ℤ NumFault) → IsOfKind k.Int (value.number o)
number_kind (Ok z) = refl
number_kind (Err fault.Overflow) = tt
number_kind (Err fault.ZeroDivisor) = tt

not_is : (d : Bool) → not d ≡ Rattle.std.specs.Prelude.not d
not_is true = refl
not_is false = refl

-- ---- operators

-- the instruction of an operator that takes both operands
abbrev pub sign : BinaryOp → Instr
sign b.Add = i.Add
sign b.Sub = i.Sub
sign b.Mul = i.Mul
sign b.Div = i.Div
sign b.Rem = i.Rem
sign b.Eq = i.Eq
sign b.Ne = i.Ne
sign b.Lt = i.Lt
sign b.Le = i.Le
sign b.Gt = i.Gt
sign b.Ge = i.Ge
sign b.And = i.Pop
sign b.Or = i.Pop

abbrev pub TakesBoth : BinaryOp → Type 0
TakesBoth b.And = ⊥
TakesBoth b.Or = ⊥
TakesBoth op = Unit {0}

module _ (s : Setting Path) (bl : CodeBlock) (c : State Path) (rest : List (Word Path)) where
  -- the state has both operands on its stack
  abbrev pub Works : BinaryOp → Value → Value → Type 0
  Works op x y =
      (act s bl (record c { stack = word y ∷ word x ∷ rest }) (sign op)
      ≡ came (record c { stack = word y ∷ word x ∷ rest }) rest (operated op x y))
      × IsOfKind (given_kind op) (operated op x y)

  ints : (op : BinaryOp) (x y : Value) → kind_of x ≡ k.Int → kind_of y ≡ k.Int
      → ((m n : ℤ) → Works op (v.Int m) (v.Int n)) → Works op x y
  ints op (v.Int m) (v.Int n) p q f = f m n
  ints op (v.Int m) (v.Bool n) p q f = absurd (let z : k.Bool ≡ k.Int = q in cc)
  ints op (v.Int m) (v.Rev n) p q f = absurd (let z : k.Rev ≡ k.Int = q in cc)
  ints op (v.Bool m) y p q f = absurd (let z : k.Bool ≡ k.Int = p in cc)
  ints op (v.Rev m) y p q f = absurd (let z : k.Rev ≡ k.Int = p in cc)

  bools : (op : BinaryOp) (x y : Value) → kind_of x ≡ k.Bool → kind_of y ≡ k.Bool
      → ((m n : Bool) → Works op (v.Bool m) (v.Bool n)) → Works op x y
  bools op (v.Bool m) (v.Bool n) p q f = f m n
  bools op (v.Bool m) (v.Int n) p q f = absurd (let z : k.Int ≡ k.Bool = q in cc)
  bools op (v.Bool m) (v.Rev n) p q f = absurd (let z : k.Rev ≡ k.Bool = q in cc)
  bools op (v.Int m) y p q f = absurd (let z : k.Int ≡ k.Bool = p in cc)
  bools op (v.Rev m) y p q f = absurd (let z : k.Rev ≡ k.Bool = p in cc)

  flags : (words : List (Word Path)) (d q : Bool) → d ≡ q
      → on (record c { stack = words }) (bool d ∷ rest) ≡ on (record c { stack = words }) (bool q ∷ rest)
  flags words d q h = ap (λ z. on (record c { stack = words }) (bool z ∷ rest)) h

  pub operate : (op : BinaryOp) (left t : ValueKind) (x y : Value) → TakesBoth op → TakesLeft op left
      → TakesRightSide op left t → kind_of x ≡ left → kind_of y ≡ t → Works op x y
  operate b.Add left t x y z h q p f = ints b.Add x y (p ∙ h) (f ∙ q) (λ m n. (number_came _ rest _, number_kind _))
  operate b.Sub left t x y z h q p f = ints b.Sub x y (p ∙ h) (f ∙ q) (λ m n. (number_came _ rest _, number_kind _))
  operate b.Mul left t x y z h q p f = ints b.Mul x y (p ∙ h) (f ∙ q) (λ m n. (number_came _ rest _, number_kind _))
  operate b.Div left t x y z h q p f = ints b.Div x y (p ∙ h) (f ∙ q) (λ m n. (number_came _ rest _, number_kind _))
  operate b.Rem left t x y z h q p f = ints b.Rem x y (p ∙ h) (f ∙ q) (λ m n. (number_came _ rest _, number_kind _))
  operate b.Lt left t x y z h q p f = ints b.Lt x y (p ∙ h) (f ∙ q.0) (λ m n. (refl, refl))
  operate b.Le left t x y z h q p f = ints b.Le x y (p ∙ h) (f ∙ q.0) (λ m n. (refl, refl))
  operate b.Gt left t x y z h q p f = ints b.Gt x y (p ∙ h) (f ∙ q.0) (λ m n. (refl, refl))
  operate b.Ge left t x y z h q p f = ints b.Ge x y (p ∙ h) (f ∙ q.0) (λ m n. (refl, refl))
  operate b.Eq k.Int t x y z h q p f = ints b.Eq x y p (f ∙ q) (λ m n. (refl, refl))
  operate b.Eq k.Bool t x y z h q p f = bools b.Eq x y p (f ∙ q) (λ m n. (refl, refl))
  operate b.Eq k.Rev t x y z h q p f = absurd (h refl)
  operate b.Ne k.Int t x y z h q p f = ints b.Ne x y p (f ∙ q)
      (λ m n. (flags (word (v.Int n) ∷ word (v.Int m) ∷ rest) _ _ (not_is (same_number m n)), refl))
  operate b.Ne k.Bool t x y z h q p f = bools b.Ne x y p (f ∙ q)
      (λ m n. (flags (word (v.Bool n) ∷ word (v.Bool m) ∷ rest) _ _ (not_is (same_truth m n)), refl))
  operate b.Ne k.Rev t x y z h q p f = absurd (h refl)
  operate b.And left t x y z h q p f = absurd z
  operate b.Or left t x y z h q p f = absurd z

  abbrev pub Turns : UnaryOp → Value → Type 0
  Turns op x =
      (act s bl (record c { stack = word x ∷ rest }) (unary_code op)
      ≡ came (record c { stack = word x ∷ rest }) rest (reversed op x))
      × IsOfKind (operand_kind op) (reversed op x)

  pub turn : (op : UnaryOp) (x : Value) → kind_of x ≡ operand_kind op → Turns op x
  turn u.Neg (v.Int z) p = (number_came _ rest _, number_kind _)
  turn u.Neg (v.Bool z) p = absurd (let q : k.Bool ≡ k.Int = p in cc)
  turn u.Neg (v.Rev z) p = absurd (let q : k.Rev ≡ k.Int = p in cc)
  turn u.Not (v.Bool z) p = (flags (word (v.Bool z) ∷ rest) _ _ (not_is z), refl)
  turn u.Not (v.Int z) p = absurd (let q : k.Int ≡ k.Bool = p in cc)
  turn u.Not (v.Rev z) p = absurd (let q : k.Rev ≡ k.Bool = p in cc)

-- ---- arguments

words : List Value → List (Word Path)
words xs = map word xs

module _ {A : Type 0} where
  take_of : (xs ys : List A) (n : ℕ) → n ≡ length xs → take n (xs ++ ys) ≡ xs
  take_of [] ys zero h = refl
  take_of [] ys (suc n) h = absurd (omega (arith, h))
  take_of (x ∷ xs) ys zero h = absurd (omega (arith, h))
  take_of (x ∷ xs) ys (suc n) h = ap (λ z. x ∷ z) (take_of xs ys n (omega (arith, h)))

  drop_of : (xs ys : List A) (n : ℕ) → n ≡ length xs → drop n (xs ++ ys) ≡ ys
  drop_of [] ys zero h = refl
  drop_of [] ys (suc n) h = absurd (omega (arith, h))
  drop_of (x ∷ xs) ys zero h = absurd (omega (arith, h))
  drop_of (x ∷ xs) ys (suc n) h = drop_of xs ys n (omega (arith, h))

  reverse_cons : (x : A) (xs : List A) → reverse (x ∷ xs) ≡ reverse xs ++ x ∷ []
  reverse_cons x xs = reverse-append (x ∷ []) xs

pushed_is : (xs : List Value) (stack : List (Word Path)) → pushed xs stack ≡ reverse (map word xs) ++ stack
pushed_is [] stack = refl
pushed_is (x ∷ xs) stack =
    pushed_is xs (word x ∷ stack)
    ∙ sym (append_assoc (reverse (map word xs)) (word x ∷ []) stack)
    ∙ ap (λ z. z ++ stack) (sym (reverse_cons (word x) (map word xs)))

pub args_length : (ps : List Parameter) (xs : List Value) → ArgsAre ps xs → length (kinds_of ps) ≡ length (map word xs)
args_length [] [] h = refl
args_length [] (x ∷ xs) h = absurd h
args_length (p ∷ ps) [] h = absurd h
args_length (p ∷ ps) (x ∷ xs) h = ap suc (args_length ps xs h.1)

pub word_kind : (x : Value) → w.kind_of (word x) ≡ kind_of x
word_kind (v.Int z) = refl
word_kind (v.Bool z) = refl
word_kind (v.Rev z) = refl

both : (d q : Bool) → d ≡ true → q ≡ true → d && q ≡ true
both true q h e = e
both false q h e = absurd (let z : false ≡ true = h in cc)

pub args_fit : (ps : List Parameter) (xs : List Value) → ArgsAre ps xs → fits (kinds_of ps) (map word xs) ≡ true
args_fit [] [] h = refl
args_fit [] (x ∷ xs) h = absurd h
args_fit (p ∷ ps) [] h = absurd h
args_fit (p ∷ ps) (x ∷ xs) h =
    both (same_kind p.kind (w.kind_of (word x))) (fits (kinds_of ps) (map word xs))
    (ap (same_kind p.kind) (word_kind x ∙ h.0) ∙ same_kind_self p.kind) (args_fit ps xs h.1)

-- the arguments are found, in the order in which they were pushed
pub found : (ps : List Parameter) (xs : List Value) (stack : List (Word Path)) → ArgsAre ps xs
    → arguments (kinds_of ps) (pushed xs stack) ≡ Some (map word xs)
found ps xs stack h =
    let count : length (kinds_of ps) ≡ length (reverse (map word xs)) =
    args_length ps xs h ∙ sym (length-reverse (map word xs)) in
    let taken : reverse (take (length (kinds_of ps)) (pushed xs stack)) ≡ map word xs
    = ap (λ z. reverse (take (length (kinds_of ps)) z)) (pushed_is xs stack)
    ∙ ap reverse (take_of (reverse (map word xs)) stack (length (kinds_of ps)) count)
    ∙ reverse-reverse (map word xs) in
    ap (λ z. if fits (kinds_of ps) z then Some z else None) taken
    ∙ ap (λ d. if d then Some (map word xs) else None) (args_fit ps xs h)

pub left_below : (xs : List Value) (stack : List (Word Path)) → drop (length (map word xs)) (pushed xs stack) ≡ stack
left_below xs stack =
    ap (drop (length (map word xs))) (pushed_is xs stack)
    ∙ drop_of (reverse (map word xs)) stack (length (map word xs)) (sym (length-reverse (map word xs)))
