-- Equations of the parser of declarations, one for each way that a function of it goes.
use Rattle.std.proofs.Common.{◌≡◌, ◌≢◌, ℕ, zero, suc, Bool, true, false, cond, ◌&&◌, ◌||◌, List, [], ◌∷◌, ◌++◌, length, Option, Some, None, refl, sym, ap, ◌∙◌}
use Rattle.rev_num.specs.declared.value.ValueKind.{ValueKind}
use Rattle.rev_syntax.specs.declared.token.Token.{Token}
use Rattle.rev_syntax.specs.declared.token.TokenKind.{TokenKind}
use Rattle.rev_syntax.specs.declared.token.TokenKind.TheVariants as k
use Rattle.rev_syntax.specs.Trees as t
use Rattle.rev_syntax.specs.Trees.{PlacedName, Statements, Parameter, ArraySize, Declaration, ProgramTree}
use Rattle.rev_expressions.specs.Form.{nothing, level, both}
use Rattle.rev_expressions.specs.Outcome.{Outcome, Read, Failed, Parser, and_then, after, next, Unexpected, TooDeep}
use Rattle.rev_expressions.specs.Reader.{begins, first, nullable, passes, next_kind, is_next, read}
use Rattle.rev_syntax.specs.declared.token.Fixed.{Fixed}
use Rattle.rev_syntax.specs.declared.token.Fixed.TheVariants as s
use Rattle.rev_expressions.specs.Classes.{Class, is_same}
use Rattle.rev_expressions.specs.Grammar.{alphabet, Rule, Inner, Value, Cells, Params, Names, sign, place, behind, listed, listing, name, expr}
use Rattle.rev_expressions.specs.Statements.{block}
use Rattle.rev_expressions.specs.Declarations.{KindAt, optional, kind, constant, cells, size, first_value, param, params, names, formal, head, meaning, fun_form, merge_form, variable, shared_of, versioned_form, cumulative_form, proc_form, declaration, declarations, program, inner}
use Rattle.rev_expressions.specs.Parse.{parse, inside}
use Rattle.rev_expressions.specs.Lists.{more_of, more_listed}
use Rattle.rev_expressions.proofs.Turns.{same_outcome}
use Rattle.rev_expressions.proofs.Lists.{listed_is, all_is, all_end, all_stop, all_go}
use Rattle.rev_expressions.proofs.Expressions.{K, by_kind, by_next, at_kind, inside_none, inside_go}
use Rattle.rev_parse.specs.Pieces.{plain, declaration_begins, number, count, negative_of, three_names, result_kind}
use Rattle.rev_expressions.specs.Classes as class

-- ---- parts behind each other

then_assoc : {A B C : Type 0} (o : Outcome Token A) (f : A → Parser Token B) (g : B → Parser Token C)
    → and_then (and_then o f) g ≡ and_then o (λ a rest. and_then (f a rest) g)
then_assoc (Read a rest) f g = refl
then_assoc (Failed e rest) f g = refl

or_false : (a : Bool) → a || false ≡ a
or_false true = refl
or_false false = refl

or_never : (a b : Bool) → a || (b && false) ≡ a
or_never true b = refl
or_never false true = refl
or_never false false = refl

-- ---- by the first word

abbrev Starts : {A : Type 0} → Rule A → Class → Type 0
Starts F s = (k : Class) → first alphabet F k ≡ is_same s k

starts_next : {A : Type 0} (F : Rule A) (s : Class) → Starts F s → (ts : List Token)
    → begins alphabet F ts ≡ is_next alphabet s ts
starts_next F s h ts = by_kind_of (next_kind alphabet ts)
  where
    by_kind_of : (o : Option Class) → passes alphabet (first alphabet F) o ≡ passes alphabet (is_same s) o
    by_kind_of None = refl
    by_kind_of (Some k) = h k

behind_starts : {A B : Type 0} (f : Unit {0} → A → B) (s : Fixed) (F : Rule A)
    → Starts (both f (sign s) F) (class.fixed s)
behind_starts f s F k = or_false (is_same (class.fixed s) k)

some_starts : {A : Type 0} (F : Rule A) (s : Class) → Starts F s
    → Starts (both (λ a x. Some a) F (nothing {A = Unit {0}} tt)) s
some_starts F s h k = or_never (first alphabet F k) (nullable alphabet F) ∙ h k

module _ (bytes : List ℕ) (n : ℕ) where
  level_no : {A : Type 0} (s : Fixed) (i : Inner) (f : Value i → A) (ts : List Token)
      → is_next alphabet (class.fixed s) ts ≡ false
      → parse bytes n (level (class.fixed s) i (λ x. f)) ts ≡ Failed Unexpected ts
  unfolding read
  level_no s i f [] e = refl
  level_no s i f (x ∷ ts) e = ap (λ b. cond b (inside bytes n i f (x ∷ ts)) (Failed Unexpected (x ∷ ts))) e

  level_yes : {A : Type 0} (s : Fixed) (i : Inner) (f : Value i → A) (ts : List Token)
      → is_next alphabet (class.fixed s) ts ≡ true
      → parse bytes n (level (class.fixed s) i (λ x. f)) ts ≡ inside bytes n i f ts
  unfolding read
  level_yes s i f [] e = absurd cc
  level_yes s i f (x ∷ ts) e = ap (λ b. cond b (inside bytes n i f (x ∷ ts)) (Failed Unexpected (x ∷ ts))) e

  level_deep : {A : Type 0} (s : Fixed) (i : Inner) (f : Value i → A) (ts : List Token)
      → is_next alphabet (class.fixed s) ts ≡ true → n ≡ 0
      → parse bytes n (level (class.fixed s) i (λ x. f)) ts ≡ Failed TooDeep ts
  level_deep s i f ts e z = level_yes s i f ts e ∙ inside_none bytes n i f ts z

  level_go : (s : Fixed) (i : Inner) (m : ℕ) (ts : List Token) → is_next alphabet (class.fixed s) ts ≡ true → n ≡ suc m
      → parse bytes n (level (class.fixed s) i (λ x y. y)) ts ≡ parse bytes m (inner bytes i) (after ts)
  level_go s i m ts e z =
      level_yes s i (λ y. y) ts e ∙ inside_go bytes n i (λ y. y) m ts z
      ∙ same_outcome (parse bytes m (inner bytes i) (after ts))

  behind_read : {A B : Type 0} (f : Unit {0} → A → B) (s : Fixed) (F : Rule A) (ts : List Token)
      → is_next alphabet (class.fixed s) ts ≡ true
      → parse bytes n (both f (sign s) F) ts ≡ and_then (parse bytes n F (after ts)) (λ a rest. Read (f tt a) rest)
  unfolding read
  behind_read f s F [] e = absurd cc
  behind_read f s F (x ∷ ts) e =
      ap (λ b. and_then (cond b (Read tt ts) (Failed Unexpected (x ∷ ts)))
      (λ y rest. and_then (parse bytes n F rest) (λ a rest2. Read (f y a) rest2)))
      e

  optional_no : {A : Type 0} (F : Rule A) (s : Class) → Starts F s → (ts : List Token) → is_next alphabet s ts ≡ false
      → parse bytes n (optional F) ts ≡ Read None ts
  unfolding read
  optional_no F s h ts e =
      ap (λ b. cond b (parse bytes n (both (λ a x. Some a) F (nothing {A = Unit {0}} tt)) ts) (Read None ts))
      (starts_next (both (λ a x. Some a) F (nothing {A = Unit {0}} tt)) s (some_starts F s h) ts ∙ e)

  optional_yes : {A : Type 0} (F : Rule A) (s : Class) → Starts F s → (ts : List Token) → is_next alphabet s ts ≡ true
      → parse bytes n (optional F) ts ≡ and_then (parse bytes n F ts) (λ a rest. Read (Some a) rest)
  unfolding read
  optional_yes F s h ts e =
      ap (λ b. cond b (parse bytes n (both (λ a x. Some a) F (nothing {A = Unit {0}} tt)) ts) (Read None ts))
      (starts_next (both (λ a x. Some a) F (nothing {A = Unit {0}} tt)) s (some_starts F s h) ts ∙ e)

  -- ---- rules that open no level

  first_value_any : (ts : List Token) → parse bytes n first_value ts ≡ plain first_value ts
  unfolding read first_value constant
  first_value_any ts = refl

  cells_any : (ts : List Token) → parse bytes n cells ts ≡ plain cells ts
  unfolding read cells
  cells_any ts = refl

pub cells_are : (ts : List Token)
    → plain cells ts ≡ and_then (plain count ts) (λ c rest. and_then (K s.CloseBracket rest) (λ x rest2. Read c rest2))
unfolding read cells count
cells_are ts = refl

-- ---- optional parts

pub first_value_no : (ts : List Token) → is_next alphabet (class.fixed s.Assign) ts ≡ false
    → plain first_value ts ≡ Read None ts
unfolding first_value
first_value_no ts e =
    optional_no [] 0 (behind s.Assign constant) (class.fixed s.Assign) (behind_starts (λ x a. a) s.Assign constant) ts e

pub first_value_yes : (ts : List Token) → is_next alphabet (class.fixed s.Assign) ts ≡ true
    → plain first_value ts ≡ and_then (plain constant (after ts)) (λ c rest. Read (Some c) rest)
unfolding first_value
first_value_yes ts e =
    optional_yes [] 0 (behind s.Assign constant) (class.fixed s.Assign) (behind_starts (λ x a. a) s.Assign constant) ts
    e
    ∙ ap (λ o. and_then o (λ c rest. Read (Some c) rest))
    (behind_read [] 0 (λ x a. a) s.Assign constant ts e ∙ same_outcome (plain constant (after ts)))

pub ruleset first_value_cases = (first_value_no, first_value_yes)

abbrev colon_kind : Rule ValueKind
colon_kind = both {B = KindAt} (λ x k. k.1) (sign s.Colon) kind

pub result_kind_no : (ts : List Token) → is_next alphabet (class.fixed s.Colon) ts ≡ false
    → plain result_kind ts ≡ Read None ts
unfolding result_kind
result_kind_no ts e =
    optional_no [] 0 colon_kind (class.fixed s.Colon) (behind_starts {A = KindAt} (λ x k. k.1) s.Colon kind) ts e

pub result_kind_yes : (ts : List Token) → is_next alphabet (class.fixed s.Colon) ts ≡ true
    → plain result_kind ts ≡ and_then (plain kind (after ts)) (λ k rest. Read (Some k.1) rest)
unfolding result_kind
result_kind_yes ts e =
    optional_yes [] 0 colon_kind (class.fixed s.Colon) (behind_starts {A = KindAt} (λ x k. k.1) s.Colon kind) ts e
    ∙ ap (λ o. and_then o (λ c rest. Read (Some c) rest)) (behind_read [] 0 {A = KindAt} (λ x k. k.1) s.Colon kind ts e)
    ∙ then_assoc (plain kind (after ts)) (λ k rest. Read k.1 rest) (λ c rest. Read (Some c) rest)

pub ruleset result_kind_cases = (result_kind_no, result_kind_yes)

abbrev bracket : Rule ArraySize
bracket = level (class.fixed s.OpenBracket) Cells (λ x c. c)

bracket_starts : Starts bracket (class.fixed s.OpenBracket)
bracket_starts k = refl

module _ (bytes : List ℕ) (n : ℕ) where
  pub size_no : (ts : List Token) → is_next alphabet (class.fixed s.OpenBracket) ts ≡ false
      → parse bytes n size ts ≡ Read None ts
  unfolding size
  size_no ts e = optional_no bytes n bracket (class.fixed s.OpenBracket) bracket_starts ts e

  pub size_deep : (ts : List Token) → is_next alphabet (class.fixed s.OpenBracket) ts ≡ true → n ≡ 0
      → parse bytes n size ts ≡ Failed TooDeep ts
  unfolding size
  size_deep ts e z =
      optional_yes bytes n bracket (class.fixed s.OpenBracket) bracket_starts ts e
      ∙ ap (λ o. and_then o (λ c rest. Read (Some c) rest)) (level_deep bytes n s.OpenBracket Cells (λ c. c) ts e z)

  pub size_go : (m : ℕ) (ts : List Token) → is_next alphabet (class.fixed s.OpenBracket) ts ≡ true → n ≡ suc m
      → parse bytes n size ts ≡ and_then (plain cells (after ts)) (λ c rest. Read (Some c) rest)
  unfolding size inner
  size_go m ts e z =
      optional_yes bytes n bracket (class.fixed s.OpenBracket) bracket_starts ts e
      ∙ ap (λ o. and_then o (λ c rest. Read (Some c) rest))
      (level_go bytes n s.OpenBracket Cells m ts e z ∙ cells_any bytes m (after ts))

pub ruleset size_cases = (size_no, size_deep, size_go)

-- the bytes of the text do not matter to a size
size_any : (bytes : List ℕ) (n : ℕ) (ts : List Token) → parse bytes n size ts ≡ parse [] n size ts
size_any bytes n ts = by_next_token (is_next alphabet (class.fixed s.OpenBracket) ts) refl
  where
    by_levels : (k : ℕ) → n ≡ k → is_next alphabet (class.fixed s.OpenBracket) ts ≡ true
        → parse bytes n size ts ≡ parse [] n size ts
    by_levels zero z e = size_deep bytes n ts e z ∙ sym (size_deep [] n ts e z)
    by_levels (suc m) z e = size_go bytes n m ts e z ∙ sym (size_go [] n m ts e z)

    by_next_token : (b : Bool) → is_next alphabet (class.fixed s.OpenBracket) ts ≡ b
        → parse bytes n size ts ≡ parse [] n size ts
    by_next_token true e = by_levels n refl e
    by_next_token false e = size_no bytes n ts e ∙ sym (size_no [] n ts e)

-- ---- constants

pub constant_minus : (x : Token) (ts : List Token) → next ts ≡ Some x → x.kind ≡ (k.Fixed s.Minus)
    → plain constant ts ≡ negative_of x.start (plain number (after ts))
unfolding read constant number
constant_minus x ts is h =
    by_next (λ ts. plain constant ts ≡ negative_of x.start (plain number (after ts))) x ts is
    (λ rest. by_kind (λ x. plain constant (x ∷ rest) ≡ negative_of x.start (plain number rest)) x (k.Fixed s.Minus) h
    refl)

module _ (bytes : List ℕ) (n : ℕ) where
  abbrev parameter_of : PlacedName → KindAt → Parameter
  parameter_of w k = record { name = w; kind_at = k.0; kind = k.1 }

  -- ---- parameters and names

  pub param_is : (ts : List Token)
      → parse bytes n (param bytes) ts
      ≡ and_then (parse bytes n (name bytes) ts)
      (λ w r1. and_then (K s.Colon r1) (λ x r2. and_then (plain kind r2) (λ k r3. Read (parameter_of w k) r3)))
  unfolding read param kind
  param_is ts = simp then_assoc

  name_first : Starts (listed (param bytes)) class.name
  unfolding param name
  name_first k = or_false (is_same class.name k || false) ∙ or_false (is_same class.name k)

  params_begin : (ts : List Token) → begins alphabet (listed (param bytes)) ts ≡ is_next alphabet class.name ts
  params_begin ts = starts_next (listed (param bytes)) class.name name_first ts

  pub params_no : (ts : List Token) → is_next alphabet class.name ts ≡ false
      → parse bytes n (listing (param bytes)) ts ≡ Read [] ts
  unfolding read
  params_no ts e = ap (λ b. cond b (parse bytes n (listed (param bytes)) ts) (Read [] ts)) (params_begin ts ∙ e)

  pub params_yes : (ts : List Token) → is_next alphabet class.name ts ≡ true
      → parse bytes n (listing (param bytes)) ts
      ≡ and_then (parse bytes n (param bytes) ts)
      (λ a rest. more_listed bytes n (param bytes) (length rest) (a ∷ []) rest)
  unfolding read
  params_yes ts e =
      ap (λ b. cond b (parse bytes n (listed (param bytes)) ts) (Read [] ts)) (params_begin ts ∙ e)
      ∙ listed_is bytes n (param bytes) ts

  pub params_are : (ts : List Token)
      → parse bytes n (params bytes) ts
      ≡ and_then (parse bytes n (listing (param bytes)) ts)
      (λ ps rest. and_then (K s.CloseParen rest) (λ x rest2. Read ps rest2))
  unfolding read params
  params_are ts = refl

  pub formal_no : (ts : List Token) → is_next alphabet (class.fixed s.OpenParen) ts ≡ false
      → parse bytes n (formal bytes) ts ≡ Failed Unexpected ts
  unfolding formal
  formal_no ts e = level_no bytes n s.OpenParen Params (λ ps. ps) ts e

  pub formal_deep : (ts : List Token) → is_next alphabet (class.fixed s.OpenParen) ts ≡ true → n ≡ 0
      → parse bytes n (formal bytes) ts ≡ Failed TooDeep ts
  unfolding formal
  formal_deep ts e z = level_deep bytes n s.OpenParen Params (λ ps. ps) ts e z

  pub formal_go : (m : ℕ) (ts : List Token) → is_next alphabet (class.fixed s.OpenParen) ts ≡ true → n ≡ suc m
      → parse bytes n (formal bytes) ts ≡ parse bytes m (params bytes) (after ts)
  unfolding formal inner
  formal_go m ts e z = level_go bytes n s.OpenParen Params m ts e z

  abbrev three : PlacedName → PlacedName → PlacedName → PlacedName × PlacedName × PlacedName
  three a b c = (a, b, c)

  pub names_are : (ts : List Token) → parse bytes n (names bytes) ts ≡
      and_then (parse bytes n (name bytes) ts)
      (λ a r1. and_then (K s.Comma r1)
      (λ x r2. and_then (parse bytes n (name bytes) r2)
      (λ b r3. and_then (K s.Comma r3)
      (λ y r4. and_then (parse bytes n (name bytes) r4)
      (λ c r5. and_then (K s.CloseParen r5) (λ z r6. Read (three a b c) r6))))))
  unfolding read names
  names_are ts = simp then_assoc

  pub three_no : (ts : List Token) → is_next alphabet (class.fixed s.OpenParen) ts ≡ false
      → parse bytes n three_names ts ≡ Failed Unexpected ts
  unfolding three_names
  three_no ts e = level_no bytes n s.OpenParen Names (λ ns. ns) ts e

  pub three_deep : (ts : List Token) → is_next alphabet (class.fixed s.OpenParen) ts ≡ true → n ≡ 0
      → parse bytes n three_names ts ≡ Failed TooDeep ts
  unfolding three_names
  three_deep ts e z = level_deep bytes n s.OpenParen Names (λ ns. ns) ts e z

  pub three_go : (m : ℕ) (ts : List Token) → is_next alphabet (class.fixed s.OpenParen) ts ≡ true → n ≡ suc m
      → parse bytes n three_names ts ≡ parse bytes m (names bytes) (after ts)
  unfolding three_names inner
  three_go m ts e z = level_go bytes n s.OpenParen Names m ts e z

  -- ---- behind the first word

  abbrev heading_of : PlacedName → List Parameter → PlacedName × List Parameter
  heading_of w ps = (w, ps)

  pub head_is : (ts : List Token)
      → parse bytes n (head bytes) ts
      ≡ and_then (parse bytes n (name bytes) ts)
      (λ w r1. and_then (parse bytes n (formal bytes) r1) (λ ps r2. Read (heading_of w ps) r2))
  unfolding read head
  head_is ts = refl

  pub meaning_is : (ts : List Token)
      → parse bytes n (meaning bytes) ts
      ≡ and_then (K s.Assign ts)
      (λ x r1. and_then (parse bytes n (expr bytes) r1) (λ e r2. and_then (K s.Semicolon r2) (λ y r3. Read e r3)))
  unfolding read meaning
  meaning_is ts = simp then_assoc

  pub fun_is : (ts : List Token)
      → parse bytes n (fun_form bytes) ts
      ≡ and_then (parse bytes n (head bytes) ts)
      (λ h r1. and_then (K s.Colon r1)
      (λ x r2. and_then (plain kind r2)
      (λ k r3. and_then (parse bytes n (meaning bytes) r3) (λ e r4. Read (t.fun h.0 h.1 k.1 e) r4))))
  unfolding read fun_form kind
  fun_is ts = simp then_assoc

  pub merge_is : (ts : List Token)
      → parse bytes n (merge_form bytes) ts
      ≡ and_then (parse bytes n (name bytes) ts)
      (λ w r1. and_then (parse bytes n three_names r1)
      (λ ns r2. and_then (parse bytes n (meaning bytes) r2) (λ e r3. Read (t.merge w ns.0 ns.1 ns.2 e) r3)))
  unfolding read merge_form three_names
  merge_is ts = simp then_assoc

  abbrev typed_of : PlacedName → KindAt → Option ArraySize → PlacedName × KindAt × Option ArraySize
  typed_of w k c = (w, k, c)

  pub variable_is : (ts : List Token)
      → parse bytes n (variable bytes) ts
      ≡ and_then (parse bytes n (name bytes) ts)
      (λ w r1. and_then (K s.Colon r1)
      (λ x r2. and_then (plain kind r2) (λ k r3. and_then (parse [] n size r3) (λ c r4. Read (typed_of w k c) r4))))
  unfolding read variable kind
  variable_is ts = simp (then_assoc, size_any bytes n)

  pub versioned_is : (ts : List Token)
      → parse bytes n (versioned_form bytes) ts
      ≡ and_then (parse bytes n (variable bytes) ts)
      (λ x r1. and_then (plain first_value r1)
      (λ c r2. and_then (K s.Semicolon r2) (λ y r3. Read (shared_of [] x None c) r3)))
  unfolding read versioned_form
  versioned_is ts = simp (then_assoc, first_value_any bytes n)

  pub cumulative_is : (ts : List Token)
      → parse bytes n (cumulative_form bytes) ts
      ≡ and_then (parse bytes n (variable bytes) ts)
      (λ x r1. and_then (K s.By r1)
      (λ z r2. and_then (parse bytes n (name bytes) r2)
      (λ w r3. and_then (plain first_value r3)
      (λ c r4. and_then (K s.Semicolon r4) (λ y r5. Read (shared_of [] x (Some w) c) r5)))))
  unfolding read cumulative_form
  cumulative_is ts = simp (then_assoc, first_value_any bytes n)

  pub proc_is : (ts : List Token)
      → parse bytes n (proc_form bytes) ts
      ≡ and_then (parse bytes n (head bytes) ts)
      (λ h r1. and_then (plain result_kind r1)
      (λ k r2. and_then (parse bytes n block r2) (λ b r3. Read (t.proc h.0 h.1 k b) r3)))
  unfolding read proc_form result_kind kind
  proc_is ts = simp then_assoc

  -- ---- declarations

  module _ (x : Token) (ts : List Token) (is : next ts ≡ Some x) where
    pub declaration_fun : x.kind ≡ (k.Fixed s.Fun)
        → parse bytes n (declaration bytes) ts ≡ parse bytes n (fun_form bytes) (after ts)
    unfolding read declaration
    declaration_fun h =
        by_next (λ ts. parse bytes n (declaration bytes) ts ≡ parse bytes n (fun_form bytes) (after ts)) x ts is
        (λ rest. by_kind (λ x. parse bytes n (declaration bytes) (x ∷ rest) ≡ parse bytes n (fun_form bytes) rest) x
        (k.Fixed s.Fun) h (same_outcome (parse bytes n (fun_form bytes) rest)))

    pub declaration_merge : x.kind ≡ (k.Fixed s.Merge)
        → parse bytes n (declaration bytes) ts ≡ parse bytes n (merge_form bytes) (after ts)
    unfolding read declaration
    declaration_merge h =
        by_next (λ ts. parse bytes n (declaration bytes) ts ≡ parse bytes n (merge_form bytes) (after ts)) x ts is
        (λ rest. by_kind (λ x. parse bytes n (declaration bytes) (x ∷ rest) ≡ parse bytes n (merge_form bytes) rest) x
        (k.Fixed s.Merge) h (same_outcome (parse bytes n (merge_form bytes) rest)))

    pub declaration_versioned : x.kind ≡ (k.Fixed s.Versioned)
        → parse bytes n (declaration bytes) ts ≡ parse bytes n (versioned_form bytes) (after ts)
    unfolding read declaration
    declaration_versioned h =
        by_next (λ ts. parse bytes n (declaration bytes) ts ≡ parse bytes n (versioned_form bytes) (after ts)) x ts is
        (λ rest. by_kind (λ x. parse bytes n (declaration bytes) (x ∷ rest) ≡ parse bytes n (versioned_form bytes) rest)
        x (k.Fixed s.Versioned) h (same_outcome (parse bytes n (versioned_form bytes) rest)))

    pub declaration_cumulative : x.kind ≡ (k.Fixed s.Cumulative)
        → parse bytes n (declaration bytes) ts ≡ parse bytes n (cumulative_form bytes) (after ts)
    unfolding read declaration
    declaration_cumulative h =
        by_next (λ ts. parse bytes n (declaration bytes) ts ≡ parse bytes n (cumulative_form bytes) (after ts)) x ts is
        (λ rest. by_kind
        (λ x. parse bytes n (declaration bytes) (x ∷ rest) ≡ parse bytes n (cumulative_form bytes) rest) x
        (k.Fixed s.Cumulative) h (same_outcome (parse bytes n (cumulative_form bytes) rest)))

    pub declaration_proc : x.kind ≡ (k.Fixed s.Proc)
        → parse bytes n (declaration bytes) ts ≡ parse bytes n (proc_form bytes) (after ts)
    unfolding read declaration
    declaration_proc h =
        by_next (λ ts. parse bytes n (declaration bytes) ts ≡ parse bytes n (proc_form bytes) (after ts)) x ts is
        (λ rest. by_kind (λ x. parse bytes n (declaration bytes) (x ∷ rest) ≡ parse bytes n (proc_form bytes) rest) x
        (k.Fixed s.Proc) h (same_outcome (parse bytes n (proc_form bytes) rest)))

    declaration_at : (rest : List Token) (kd : TokenKind) → kd ≢ (k.Fixed s.Fun) → kd ≢ (k.Fixed s.Merge)
        → kd ≢ (k.Fixed s.Versioned) → kd ≢ (k.Fixed s.Cumulative) → kd ≢ (k.Fixed s.Proc)
        → parse bytes n (declaration bytes) (at_kind kd x ∷ rest) ≡ Failed Unexpected (at_kind kd x ∷ rest)
    unfolding read declaration
    declaration_at rest (k.Fixed s.Fun) a b c d e = absurd (a refl)
    declaration_at rest (k.Fixed s.Merge) a b c d e = absurd (b refl)
    declaration_at rest (k.Fixed s.Versioned) a b c d e = absurd (c refl)
    declaration_at rest (k.Fixed s.Cumulative) a b c d e = absurd (d refl)
    declaration_at rest (k.Fixed s.Proc) a b c d e = absurd (e refl)
    declaration_at rest _ a b c d e = refl

    pub declaration_else : x.kind ≢ (k.Fixed s.Fun) → x.kind ≢ (k.Fixed s.Merge) → x.kind ≢ (k.Fixed s.Versioned)
        → x.kind ≢ (k.Fixed s.Cumulative) → x.kind ≢ (k.Fixed s.Proc)
        → parse bytes n (declaration bytes) ts ≡ Failed Unexpected ts
    declaration_else a b c d e =
        by_next (λ ts. parse bytes n (declaration bytes) ts ≡ Failed Unexpected ts) x ts is
        (λ rest. declaration_at rest x.kind a b c d e)

  pub declaration_end : (ts : List Token) → next ts ≡ None → parse bytes n (declaration bytes) ts ≡ Failed Unexpected ts
  unfolding read declaration
  declaration_end [] e = refl
  declaration_end (x ∷ ts) e = absurd cc

  declaration_any : (ts : List Token) → begins alphabet (declaration bytes) ts ≡ declaration_begins ts
  unfolding declaration
  declaration_any ts = refl

  pub declarations_are : (ts : List Token)
      → parse bytes n (declarations bytes) ts ≡ more_of bytes n (declaration bytes) (length ts) [] ts
  unfolding declarations
  declarations_are ts = all_is bytes n (declaration bytes) ts

  pub declarations_end : (j : ℕ) (found : List Declaration) (ts : List Token) → j ≡ 0
      → more_of bytes n (declaration bytes) j found ts ≡ Read found ts
  declarations_end = all_end bytes n (declaration bytes)

  pub declarations_stop : (j : ℕ) (found : List Declaration) (ts : List Token) → declaration_begins ts ≡ false
      → more_of bytes n (declaration bytes) j found ts ≡ Read found ts
  declarations_stop j found ts e = all_stop bytes n (declaration bytes) j found ts (declaration_any ts ∙ e)

  pub declarations_go : (j i : ℕ) (found : List Declaration) (ts : List Token) → j ≡ suc i
      → declaration_begins ts ≡ true
      → more_of bytes n (declaration bytes) j found ts
      ≡ and_then (parse bytes n (declaration bytes) ts)
      (λ a rest. more_of bytes n (declaration bytes) i (found ++ a ∷ []) rest)
  declarations_go j i found ts z e = all_go bytes n (declaration bytes) j i found ts z (declaration_any ts ∙ e)

  -- ---- the program

  abbrev whole_of : List Declaration → ℕ → Statements → ProgramTree
  whole_of ds at b = record { declarations = ds; main_at = at; main = b }

  pub program_is : (ts : List Token)
      → parse bytes n (program bytes) ts
      ≡ and_then (parse bytes n (declarations bytes) ts)
      (λ ds r1.
      and_then (plain (place s.Main) r1)
      (λ at r2. and_then (parse bytes n block r2) (λ b r3. Read (whole_of ds at b) r3)))
  unfolding read program
  program_is ts = simp then_assoc

pub ruleset formal_cases = (formal_no, formal_deep, formal_go)

pub ruleset three_names_cases = (three_no, three_deep, three_go)

pub ruleset declaration_turns = (declarations_end, declarations_stop, declarations_are)
