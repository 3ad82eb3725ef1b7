-- What was written is read again: field by field.
use Rattle.std.proofs.Common.{◌≡◌, ◌∙◌, ℕ, ◌-◌, ◌^◌, ◌<◌, true, if◌then◌else◌, List, [], ◌∷◌, ◌++◌, length, take, drop, Option, Some, refl, sym, ap, append_assoc, arith, nat_le}
use Rattle.std.proofs.lemmas.Grind.{common_steps}
use Rattle.std.proofs.lemmas.Nat.{from_be_bytes-to_be_bytes_2, from_be_bytes-to_be_bytes_4, from_be_bytes-to_be_bytes_8}
use Rattle.std.proofs.lemmas.List.{append-nil}
use Rattle.std.specs.Int.{w16, w32, w64, to_be_bytes, from_be_bytes}
use Rattle.std.specs.List.{flat_map}
use Rattle.code_file.specs.declared.fault.ReadFault.TheVariants as fault
use Rattle.code_file.specs.Fields.{Reading, Got, Failed, Field, and_then, go_on, give, bytes_of, number_8, number_16, number_32, number_64, tested, test_by, or_bad, more}

-- the field reads these bytes as this value, whatever stands behind them
pub record Reads {A : Type 0} (r : Field A) (a : A) (bytes : List ℕ) : Type 0 where
  pub back : (whole : ℕ) (rest : List ℕ) → r whole (bytes ++ rest) ≡ Got a rest

take_front : (bytes rest : List ℕ) → take (length bytes) (bytes ++ rest) ≡ bytes
take_front [] rest = refl
take_front (b ∷ bytes) rest = ap (λ x. b ∷ x) (take_front bytes rest)

drop_front : (bytes rest : List ℕ) → drop (length bytes) (bytes ++ rest) ≡ rest
drop_front [] rest = refl
drop_front (b ∷ bytes) rest = drop_front bytes rest

long_enough : (bytes rest : List ℕ) → nat_le (length bytes) (length (bytes ++ rest)) ≡ true
long_enough bytes rest = grind (arith, common_steps)

-- a field of so many bytes that are decoded
pub decoded : {A : Type 0} (decode : List ℕ → A) (cut : Reading A) (bytes rest : List ℕ) (w : ℕ) → length bytes ≡ w →
    (if nat_le w (length (bytes ++ rest)) then Got (decode (take w (bytes ++ rest))) (drop w (bytes ++ rest)) else cut)
    ≡ Got (decode bytes) rest
decoded decode cut bytes rest w e =
    ap (λ n. if nat_le n (length (bytes ++ rest)) then Got (decode (take n (bytes ++ rest))) (drop n (bytes ++ rest))
    else cut)
    (sym e)
    ∙ ap
    (λ b. if b then Got (decode (take (length bytes) (bytes ++ rest))) (drop (length bytes) (bytes ++ rest)) else cut)
    (long_enough bytes rest)
    ∙ ap (λ x. Got (decode x) (drop (length bytes) (bytes ++ rest))) (take_front bytes rest)
    ∙ ap (λ x. Got (decode bytes) x) (drop_front bytes rest)

pub bytes_read : (bytes : List ℕ) → Reads (bytes_of (length bytes)) bytes bytes
bytes_read bytes =
    record { back = λ whole rest. decoded (λ x. x) (Failed (fault.Truncated whole)) bytes rest (length bytes) refl }

pub read_8 : (n : ℕ) → Reads number_8 n (n ∷ [])
read_8 n = record { back = λ whole rest. refl }

length_16 : (n : ℕ) → length (to_be_bytes w16 n) ≡ 2
length_16 n = refl

length_32 : (n : ℕ) → length (to_be_bytes w32 n) ≡ 4
length_32 n = refl

length_64 : (n : ℕ) → length (to_be_bytes w64 n) ≡ 8
length_64 n = refl

pub read_16 : (n : ℕ) → n < 65536 → Reads number_16 n (to_be_bytes w16 n)
read_16 n fits = record {
  back = λ whole rest.
      decoded (from_be_bytes w16) (Failed (fault.Truncated whole)) (to_be_bytes w16 n) rest 2 (length_16 n)
      ∙ ap (λ x. Got x rest) (from_be_bytes-to_be_bytes_2 n (let h : n < 2 ^ 16 = omega arith in h));
}

pub read_32 : (n : ℕ) → n < 4294967296 → Reads number_32 n (to_be_bytes w32 n)
read_32 n fits = record {
  back = λ whole rest.
      decoded (from_be_bytes w32) (Failed (fault.Truncated whole)) (to_be_bytes w32 n) rest 4 (length_32 n)
      ∙ ap (λ x. Got x rest) (from_be_bytes-to_be_bytes_4 n (let h : n < 2 ^ 32 = omega arith in h));
}

pub read_64 : (n : ℕ) → n < 18446744073709551616 → Reads number_64 n (to_be_bytes w64 n)
read_64 n fits = record {
  back = λ whole rest.
      decoded (from_be_bytes w64) (Failed (fault.Truncated whole)) (to_be_bytes w64 n) rest 8 (length_64 n)
      ∙ ap (λ x. Got x rest) (from_be_bytes-to_be_bytes_8 n (let h : n < 2 ^ 64 = omega arith in h));
}

pub give_read : {A : Type 0} (a : A) → Reads (give a) a []
give_read a = record { back = λ whole rest. refl }

pub tested_read : {A B : Type 0} (test : A → Option B) (r : Field A) (a : A) (b : B) (bytes : List ℕ) →
    Reads r a bytes → test a ≡ Some b → Reads (tested test r) b bytes
unfolding tested
tested_read test r a b bytes h e = record {
  back = λ whole rest.
      ap (test_by test (whole - length (bytes ++ rest))) (h.back whole rest)
      ∙ ap (λ o. or_bad (whole - length (bytes ++ rest)) o rest) e;
}

pub then_read : {A B : Type 0} (r : Field A) (k : A → Field B) (a : A) (b : B) (bytes behind : List ℕ) →
    Reads r a bytes → Reads (k a) b behind → Reads (and_then r k) b (bytes ++ behind)
unfolding and_then
then_read r k a b bytes behind h g = record {
  back = λ whole rest.
      ap (λ x. go_on (r whole x) k whole) (append_assoc bytes behind rest)
      ∙ ap (λ x. go_on x k whole) (h.back whole (behind ++ rest))
      ∙ g.back whole rest;
}

-- parts, each of which is read behind those before it
pub more_read : {A : Type 0} (part : List A → Field A) (bytes : A → List ℕ) (all done xs : List A) → all ≡ done ++ xs →
    ((pre : List A) (x : A) (post : List A) → all ≡ pre ++ (x ∷ post) → Reads (part pre) x (bytes x)) →
    Reads (more (length xs) part done) all (flat_map bytes xs)
unfolding more
more_read part bytes all done [] e each =
    record { back = λ whole rest. ap (λ x. Got x rest) (sym (e ∙ append-nil done)) }
more_read part bytes all done (x ∷ xs) e each = record {
  back = λ whole rest.
      ap (λ y. go_on (part done whole y) (λ a. more (length xs) part (done ++ (a ∷ []))) whole)
      (append_assoc (bytes x) (flat_map bytes xs) rest)
      ∙ ap (λ y. go_on y (λ a. more (length xs) part (done ++ (a ∷ []))) whole)
      ((each done x xs e).back whole (flat_map bytes xs ++ rest))
      ∙ (more_read part bytes all (done ++ (x ∷ [])) xs (e ∙ sym (append_assoc done (x ∷ []) xs)) each).back whole rest;
}
