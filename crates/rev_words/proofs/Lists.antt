-- The text of a list of numbers is read exactly where the grammar has it.
use Rattle.std.proofs.Common.{◌≡◌, ◌∙◌, sym, ap, subst, ℕ, ◌<◌, ◌≤◌, true, false, List, [], ◌∷◌, length, refl, arith, rules, inl, inr}
use Rattle.std.specs.Prelude.{ℤ, Option, Some, None, All, nat_le, ◌==◌, option_and_then, option_map}
use Rattle.std.specs.List.{join_with_byte, slice_split}
use Rattle.std.proofs.lemmas.List.Elements.{All-cons}
use Rattle.std.proofs.lemmas.List.Splits.{join_with_byte-slice_split, slice_split_at, slice_split_none}
use Rattle.rev_num.specs.Decimal.{IsDecimal, decimal_in}
use Rattle.rev_num.proofs.Decimals.{decimal_in-is, is-decimal_in}
use Rattle.rev_words.specs.Numbers.{AreDecimals, AreNumbers, ListsAreExact, few_numbers_in, list_in, numbers_in}
use Rattle.rev_words.proofs.Schedules.{few_is, join_some, no_comma}

none_is : {A : Type 0} {x : A} → None ≡ Some x → ⊥
none_is h = cc

-- ---- one number

whole : (bytes : List ℕ) (n : ℤ) → IsDecimal bytes n → All (λ b. (b == 44) ≡ false) bytes
whole bytes n (inl h) = no_comma bytes h.digits
whole bytes n (inr h) =
    subst (All (λ b. (b == 44) ≡ false)) (sym h.minus)
    (All-cons (λ b. (b == 44) ≡ false) 45 h.behind refl (no_comma h.behind h.digits))

some_byte : (bytes : List ℕ) (n : ℤ) → IsDecimal bytes n → 0 < length bytes
some_byte bytes n (inl h) = h.digits.some
some_byte bytes n (inr h) = subst (λ b. 0 < length b) (sym h.minus) (omega arith)

-- ---- the numbers

are_read : (parts : List (List ℕ)) (ns : List ℤ) → numbers_in parts ≡ Some ns → AreDecimals parts ns
are_read [] ns h = let is : ns ≡ [] = grind (arith, rules) in subst (AreDecimals []) (sym is) tt
are_read (bytes ∷ parts) ns h = go (decimal_in bytes) refl (numbers_in parts) refl (are_read parts) h
  where
    go : (o : Option ℤ) → decimal_in bytes ≡ o → (r : Option (List ℤ)) → numbers_in parts ≡ r
        → ((ms : List ℤ) → numbers_in parts ≡ Some ms → AreDecimals parts ms)
        → option_and_then (λ m. option_map (λ ms. m ∷ ms) r) o ≡ Some ns → AreDecimals (bytes ∷ parts) ns
    go None first r rest later is = absurd (none_is is)
    go (Some m) first None rest later is = absurd (none_is is)
    go (Some m) first (Some ms) rest later is =
        let both : ns ≡ m ∷ ms = grind (arith, rules) in
        subst (AreDecimals (bytes ∷ parts)) (sym both) (decimal_in-is bytes m first, later ms rest)

read_all : (numerals : List (List ℕ)) (ns : List ℤ) → AreDecimals numerals ns → numbers_in numerals ≡ Some ns
read_all [] [] are = refl
read_all [] (n ∷ ns) are = absurd are
read_all (bytes ∷ rest) [] are = absurd are
read_all (bytes ∷ rest) (n ∷ ns) are =
    let first = is-decimal_in bytes n are.0.0 are.0.1 in
    let later = read_all rest ns are.1 in rw (first, later)

as_many : (numerals : List (List ℕ)) (ns : List ℤ) → AreDecimals numerals ns → length ns ≡ length numerals
as_many [] [] are = refl
as_many [] (n ∷ ns) are = absurd are
as_many (bytes ∷ rest) [] are = absurd are
as_many (bytes ∷ rest) (n ∷ ns) are = let later = as_many rest ns are.1 in omega (arith, later)

-- ---- the parts

split_join : (bytes : List ℕ) (rest : List (List ℕ)) (ns : List ℤ) → AreDecimals (bytes ∷ rest) ns
    → slice_split (λ b. b == 44) (join_with_byte 44 (bytes ∷ rest)) ≡ bytes ∷ rest
split_join bytes rest [] are = absurd are
split_join bytes [] (n ∷ ns) are = slice_split_none (λ b. b == 44) bytes (whole bytes n are.0.1)
split_join bytes (next ∷ rest) (n ∷ ns) are =
    slice_split_at (λ b. b == 44) bytes 44 (join_with_byte 44 (next ∷ rest)) (whole bytes n are.0.1) refl
    ∙ ap (λ ps. bytes ∷ ps) (split_join next rest ns are.1)

-- ---- the whole

pub numbers_are : (text : List ℕ) (ns : List ℤ) → list_in text ≡ Some ns → AreNumbers text ns
numbers_are [] ns h =
    let is : ns ≡ [] = grind (arith, rules) in
    record {
      numerals = [];
      joined = refl;
      decimals = subst (AreDecimals []) (sym is) tt;
      few = subst (λ l. length l ≤ 1024) (sym is) (omega arith);
    }
numbers_are (c ∷ cs) ns h =
    let parts = slice_split (λ b. b == 44) (c ∷ cs) in
    let few = few_is (nat_le (length parts) 1024) (numbers_in parts) ns h in
    let are = are_read parts ns few.1 in
    let bound : length parts ≤ 1024 = grind (arith, rules, few.0) in
    record {
      numerals = parts;
      joined = sym (join_with_byte-slice_split 44 (c ∷ cs));
      decimals = are;
      few = omega (arith, as_many parts ns are, bound);
    }

list_some : (text : List ℕ) → 0 < length text → list_in text ≡ few_numbers_in (slice_split (λ b. b == 44) text)
list_some [] some = absurd (omega arith)
list_some (c ∷ cs) some = refl

-- what the numerals with commas between them are read as
joined_read : (numerals : List (List ℕ)) (ns : List ℤ) → AreDecimals numerals ns → length ns ≤ 1024
    → list_in (join_with_byte 44 numerals) ≡ Some ns
joined_read [] [] are few = refl
joined_read [] (n ∷ ns) are few = absurd are
joined_read (bytes ∷ rest) [] are few = absurd are
joined_read (bytes ∷ rest) (n ∷ ns) are few =
    let bound : nat_le (length (bytes ∷ rest)) 1024 ≡ true =
    grind (arith, rules, few, as_many (bytes ∷ rest) (n ∷ ns) are) in
    let read : few_numbers_in (bytes ∷ rest) ≡ Some (n ∷ ns) = rw bound (read_all (bytes ∷ rest) (n ∷ ns) are) in
    list_some (join_with_byte 44 (bytes ∷ rest)) (join_some bytes rest (some_byte bytes n are.0.1))
    ∙ ap few_numbers_in (split_join bytes rest (n ∷ ns) are)
    ∙ read

numbers_read : (text : List ℕ) (ns : List ℤ) → AreNumbers text ns → list_in text ≡ Some ns
numbers_read text ns h = ap list_in h.joined ∙ joined_read h.numerals ns h.decimals h.few

pub exact : ListsAreExact
exact = λ text ns. (numbers_are text ns, numbers_read text ns)
