-- Loops over what was read and written.
use Rattle.std.proofs.Common.{◌≡◌, ◌∙◌, ◌⊎◌, inl, inr, ℕ, zero, suc, ◌+◌, ◌<◌, ◌≤◌, true, false, ℤ, List, [], ◌∷◌, ◌++◌, append_assoc, append-nil, length, drop, take, get_or, Option, Some, refl, sym, ap, subst, arith}
use Rattle.std.proofs.lemmas.List.{drop_all, drop_more}
use Rattle.std.proofs.lemmas.Option.{get_or_from_slice_get}
use Rattle.std.specs.Prelude.{is_some, slice_get}
use Rattle.rev_num.specs.Path.{Path}
use Rattle.rev_num.specs.declared.value.ValueKind.{ValueKind}
use Rattle.rev_num.specs.declared.value.Value.{Value}
use Rattle.rev_num.proofs.Options.{some_eq}
use Rattle.rev_code.specs.declared.code.CodeVar.{CodeVar}
use Rattle.code_machine.specs.Outcome.{value_of}
use Rattle.leg_run.specs.Standing.{word_as}
use Rattle.version_map.specs.declared.end.Written.{Written}
use Rattle.rev_record.specs.declared.entry.Given.{Given}
use Rattle.rev_record.specs.declared.entry.KeptValue.{KeptValue}
use Rattle.rev_record.specs.Standing.{Has, given}
use Rattle.rev_record.specs.Words.{AreOver, HasGiven, HasRead, IsOver, args_of, kept_at, value_at}
use Rattle.rev_record.proofs.Lists.{has_before, has_either, has_last}

-- ---- which come before

earlier : (n i : ℕ) → i < n + 1 → (i < n) ⊎ (i ≡ n)
earlier zero zero h = inr refl
earlier zero (suc i) h = absurd (omega (arith, h))
earlier (suc n) zero h = inl (omega arith)
earlier (suc n) (suc i) h = by (earlier n i (omega (arith, h)))
  where
    by : (i < n) ⊎ (i ≡ n) → (suc i < suc n) ⊎ (suc i ≡ suc n)
    by (inl k) = inl (omega (arith, k))
    by (inr k) = inr (ap suc k)

-- a property of those before, and of one more
pub all_more : {A : Type 0} (P : A → Type 0) (xs : List A) (n : ℕ) (x : A) → n < length xs → x ≡ get_or xs n x → P x
    → ((i : ℕ) (y : A) → i < n → slice_get xs i ≡ Some y → P y) → (i : ℕ) (y : A) → i < n + 1 → slice_get xs i ≡ Some y
    → P y
all_more P xs n x less is here so_far i y small e = by (earlier n i small)
  where
    by : (i < n) ⊎ (i ≡ n) → P y
    by (inl k) = so_far i y k e
    by (inr k) = subst P (is ∙ get_or_from_slice_get xs n y x (subst (λ z. slice_get xs z ≡ Some y) k e)) here

-- ---- what was read

module _ (noted : ℕ → Option ℕ) (inputs : List ℤ) (n : ℕ) (read : List Given) (h : HasGiven noted inputs n read) where
  pub given_none : is_some (noted n) ≡ false → HasGiven noted inputs (n + 1) read
  given_none off = record {
    all = λ m z small on1 e. by m z on1 e (earlier n m small);
    only = λ x i. (let k = h.only x i in let s = k.0 in (omega (arith, s), k.1, k.2));
  }
    where
      by : (m : ℕ) (z : ℤ) → is_some (noted m) ≡ true → slice_get inputs m ≡ Some z → (m < n) ⊎ (m ≡ n)
          → Has read (given m z)
      by m z on1 e (inl k) = h.all m z k on1 e
      by m z on1 e (inr k) = absurd (let clash : true ≡ false = sym on1 ∙ ap (λ y. is_some (noted y)) k ∙ off in cc)

  given_next : (z : ℤ) → slice_get inputs n ≡ Some z → is_some (noted n) ≡ true
      → HasGiven noted inputs (n + 1) (read ++ given n z ∷ [])
  given_next z is on1 = record {
    all = λ m y small on e. by m y on e (earlier n m small);
    only = λ x i. then_only x (has_either read (given n z) x i);
  }
    where
      by : (m : ℕ) (y : ℤ) → is_some (noted m) ≡ true → slice_get inputs m ≡ Some y → (m < n) ⊎ (m ≡ n)
          → Has (read ++ given n z ∷ []) (given m y)
      by m y on e (inl k) = has_before read (given n z ∷ []) (given m y) (h.all m y k on e)
      by m y on e (inr k) =
          let same : y ≡ z = some_eq (sym e ∙ ap (slice_get inputs) k ∙ is) in
          subst (Has (read ++ given n z ∷ [])) (λ j. given (sym k j) (sym same j)) (has_last read (given n z))

      then_only : (x : Given) → Has read x ⊎ (x ≡ given n z)
          → (x.position < n + 1) × (is_some (noted x.position) ≡ true) × (slice_get inputs x.position ≡ Some x.number)
      then_only x (inl i) = let k = h.only x i in let s = k.0 in (omega (arith, s), k.1, k.2)
      then_only x (inr e) =
          let at = ap (λ (y : Given). y.position) e in
          let number = ap (λ (y : Given). y.number) e in (
            omega (arith, at),
            ap (λ y. is_some (noted y)) at ∙ on1,
            ap (slice_get inputs) at ∙ is ∙ ap Some (sym number),
          )

  pub given_more : (one : Given) → one.position ≡ n → slice_get inputs n ≡ Some one.number → is_some (noted n) ≡ true
      → HasGiven noted inputs (n + 1) (read ++ one ∷ [])
  given_more one place is on1 =
      let same : given n one.number ≡ one = λ j. record { position = sym place j; number = one.number } in
      subst (λ z. HasGiven noted inputs (n + 1) (read ++ z ∷ [])) same (given_next one.number is on1)

module _ (path : ℕ → Path) (vars : List CodeVar) (noted : ℕ → Option ℕ) (base : List ℕ) (n : ℕ) (read : List KeptValue)
    (h : HasRead path vars noted base n read) where
  pub read_none : is_some (noted n) ≡ false → HasRead path vars noted base (n + 1) read
  read_none off = record {
    all = λ l w small on1 e. by l w on1 e (earlier n l small);
    only = λ x i. (let k = h.only x i in let s = k.1 in (k.0, omega (arith, s), k.2, k.3, k.4));
  }
    where
      by : (l w : ℕ) → is_some (noted l) ≡ true → slice_get base l ≡ Some w → (l < n) ⊎ (l ≡ n)
          → Has read (kept_at path vars l w)
      by l w on1 e (inl k) = h.all l w k on1 e
      by l w on1 e (inr k) = absurd (let clash : true ≡ false = sym on1 ∙ ap (λ y. is_some (noted y)) k ∙ off in cc)

  pub read_more : (w : ℕ) → slice_get base n ≡ Some w → is_some (noted n) ≡ true → (one : KeptValue)
      → one ≡ kept_at path vars n w → HasRead path vars noted base (n + 1) (read ++ one ∷ [])
  read_more w is on1 one made = subst (λ y. HasRead path vars noted base (n + 1) (read ++ y ∷ [])) (sym made) (record {
    all = λ l u small on e. by l u on e (earlier n l small);
    only = λ x i. then_only x (has_either read (kept_at path vars n w) x i);
  })
    where
      by : (l u : ℕ) → is_some (noted l) ≡ true → slice_get base l ≡ Some u → (l < n) ⊎ (l ≡ n)
          → Has (read ++ kept_at path vars n w ∷ []) (kept_at path vars l u)
      by l u on e (inl k) = has_before read (kept_at path vars n w ∷ []) (kept_at path vars l u) (h.all l u k on e)
      by l u on e (inr k) =
          let same : u ≡ w = some_eq (sym e ∙ ap (slice_get base) k ∙ is) in
          subst (Has (read ++ kept_at path vars n w ∷ [])) (λ j. kept_at path vars (sym k j) (sym same j))
          (has_last read (kept_at path vars n w))

      then_only : (x : KeptValue) → Has read x ⊎ (x ≡ kept_at path vars n w)
          → (u : ℕ) × (x.location < n + 1) × (is_some (noted x.location) ≡ true) × (slice_get base x.location ≡ Some u)
          × (x.value ≡ value_at path vars x.location u)
      then_only x (inl i) = let k = h.only x i in let s = k.1 in (k.0, omega (arith, s), k.2, k.3, k.4)
      then_only x (inr e) =
          let at = ap (λ (y : KeptValue). y.location) e in (
            w,
            omega (arith, at),
            ap (λ y. is_some (noted y)) at ∙ on1,
            ap (slice_get base) at ∙ is,
            ap (λ (y : KeptValue). y.value) e ∙ ap (λ l. value_at path vars l w) (sym at),
          )

-- ---- arguments

pub args_more : (path : ℕ → Path) (kinds : List ValueKind) (words : List ℕ) (n : ℕ) (kind : ValueKind) (word : ℕ)
    (out new : List Value) (whole : List Value)
    → n < length words → length words ≤ length kinds → kind ≡ get_or kinds n kind → word ≡ get_or words n word
    → new ≡ out ++ value_of path (word_as kind word) ∷ []
    → out ++ args_of path (drop n kinds) (drop n words) ≡ whole
    → new ++ args_of path (drop (n + 1) kinds) (drop (n + 1) words) ≡ whole
args_more path kinds words n kind word out new whole less few k w pushed so_far =
    let a : drop n kinds ≡ kind ∷ drop (n + 1) kinds =
    drop_more kinds n kind (omega (arith, less, few)) ∙ ap (λ z. z ∷ drop (n + 1) kinds) (sym k) in
    let b : drop n words ≡ word ∷ drop (n + 1) words =
    drop_more words n word less ∙ ap (λ z. z ∷ drop (n + 1) words) (sym w) in
    let one = value_of path (word_as kind word) in
    let rest = args_of path (drop (n + 1) kinds) (drop (n + 1) words) in
    let split : args_of path (drop n kinds) (drop n words) ≡ one ∷ rest = λ j. args_of path (a j) (b j) in
    ap (λ l. l ++ rest) pushed ∙ append_assoc out (one ∷ []) rest ∙ ap (λ l. out ++ l) (sym split) ∙ so_far

no_words : (path : ℕ → Path) (kinds : List ValueKind) → args_of path kinds [] ≡ []
no_words path [] = refl
no_words path (k ∷ kinds) = refl

pub args_done : (path : ℕ → Path) (kinds : List ValueKind) (words : List ℕ) (n : ℕ) (out whole : List Value)
    → length words ≤ n
    → out ++ args_of path (drop n kinds) (drop n words) ≡ whole → out ≡ whole
args_done path kinds words n out whole few so_far =
    sym (append-nil out)
    ∙ ap (λ l. out ++ l) (sym (ap (args_of path (drop n kinds)) (drop_all n words few) ∙ no_words path (drop n kinds)))
    ∙ so_far

-- ---- writes

over_more : (t : List Path) (base : List ℕ) (ks : List KeptValue) (ws : List Written) (k : KeptValue) (w : Written)
    → AreOver t base ks ws → IsOver t base k w → AreOver t base (ks ++ k ∷ []) (ws ++ w ∷ [])
over_more t base [] [] k w a o = (o, tt)
over_more t base [] (x ∷ ws) k w a o = absurd a
over_more t base (x ∷ ks) [] k w a o = absurd a
over_more t base (x ∷ ks) (y ∷ ws) k w a o = (a.0, over_more t base ks ws k w a.1 o)

take_one : {A : Type 0} (xs : List A) (n : ℕ) (d : A) → n < length xs
    → take (n + 1) xs ≡ take n xs ++ get_or xs n d ∷ []
take_one [] n d less = absurd (omega (arith, less))
take_one (x ∷ xs) zero d less = refl
take_one (x ∷ xs) (suc n) d less =
    ap (λ m. take m (x ∷ xs)) (let e : suc n + 1 ≡ suc (n + 1) = omega arith in e)
    ∙ ap (λ l. x ∷ l) (take_one xs n d (omega (arith, less)))

take_every : {A : Type 0} (xs : List A) (n : ℕ) → length xs ≤ n → take n xs ≡ xs
take_every [] zero few = refl
take_every [] (suc n) few = refl
take_every (x ∷ xs) zero few = absurd (omega (arith, few))
take_every (x ∷ xs) (suc n) few = ap (λ l. x ∷ l) (take_every xs n (omega (arith, few)))

pub over_one : (t : List Path) (base : List ℕ) (written : List KeptValue) (n : ℕ) (k : KeptValue)
    (out new : List Written)
    (w : Written)
    → n < length written → k ≡ get_or written n k
    → IsOver t base k w → new ≡ out ++ w ∷ [] → AreOver t base (take n written) out
    → AreOver t base (take (n + 1) written) new
over_one t base written n k out new w less is o pushed so_far =
    let split : take n written ++ k ∷ [] ≡ take (n + 1) written =
    ap (λ z. take n written ++ z ∷ []) is ∙ sym (take_one written n k less) in
    let both : AreOver t base (take n written ++ k ∷ []) (out ++ w ∷ []) =
    over_more t base (take n written) out k w so_far o in
    subst (AreOver t base (take (n + 1) written)) (sym pushed)
    (subst (λ z. AreOver t base z (out ++ w ∷ [])) split both)

pub over_all : (t : List Path) (base : List ℕ) (written : List KeptValue) (n : ℕ) (out : List Written)
    → length written ≤ n
    → AreOver t base (take n written) out → AreOver t base written out
over_all t base written n out few a = subst (λ z. AreOver t base z out) (take_every written n few) a
