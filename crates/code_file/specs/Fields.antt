-- How one field of a file is read, and the fields after it. A field has a width in bytes that what stands before it
-- fixes. Where fewer bytes are left than that, the file is cut short, whatever they are; where the bytes are none of
-- the field's values, the fault stands at its first byte.
use Rattle.std.specs.Prelude.{◌≡◌, ℕ, zero, suc, ◌-◌, if◌then◌else◌, List, [], ◌∷◌, ◌++◌, length, take, drop, nat_le, Option, Some, None, Result, Ok, Err, ◌≢◌}
use Rattle.std.specs.Int.{w16, w32, w64, from_be_bytes}
use Rattle.code_file.specs.declared.fault.ReadFault.{ReadFault}
use Rattle.code_file.specs.declared.fault.ReadFault.TheVariants as fault

-- a value and the bytes behind it, or the first fault
pub data Reading (A : Type 0) : Type 0 where
  Got : A → List ℕ → Reading A
  Failed : ReadFault → Reading A

-- what is read of the bytes that are left of a file of so many
abbrev pub Field : Type 0 → Type 0
Field A = (whole : ℕ) → List ℕ → Reading A

abbrev pub go_on : {A B : Type 0} → Reading A → (A → Field B) → ℕ → Reading B
go_on (Got a rest) k whole = k a whole rest
go_on (Failed f) k whole = Failed f

-- one field, and then what its value says
unfoldable pub and_then : {A B : Type 0} → Field A → (A → Field B) → Field B
and_then r k whole bytes = go_on (r whole bytes) k whole

infixl 10 ◌>>=◌
abbrev pub ◌>>=◌ : {A B : Type 0} → Field A → (A → Field B) → Field B
r >>= k = and_then r k

-- no bytes
abbrev pub give : {A : Type 0} → A → Field A
give a whole bytes = Got a bytes

-- a field of so many bytes
abbrev pub bytes_of : ℕ → Field (List ℕ)
bytes_of n whole bytes =
    if nat_le n (length bytes) then Got (take n bytes) (drop n bytes) else Failed (fault.Truncated whole)

-- numbers, big-endian
abbrev pub number_8 : Field ℕ
number_8 whole [] = Failed (fault.Truncated whole)
number_8 whole (b ∷ rest) = Got b rest

abbrev pub number_16 : Field ℕ
number_16 whole bytes =
    if nat_le 2 (length bytes) then Got (from_be_bytes w16 (take 2 bytes)) (drop 2 bytes)
    else Failed (fault.Truncated whole)

abbrev pub number_32 : Field ℕ
number_32 whole bytes =
    if nat_le 4 (length bytes) then Got (from_be_bytes w32 (take 4 bytes)) (drop 4 bytes)
    else Failed (fault.Truncated whole)

abbrev pub number_64 : Field ℕ
number_64 whole bytes =
    if nat_le 8 (length bytes) then Got (from_be_bytes w64 (take 8 bytes)) (drop 8 bytes)
    else Failed (fault.Truncated whole)

-- the value that the bytes of a field stand for, if they stand for one
abbrev pub or_bad : {A : Type 0} → (at : ℕ) → Option A → List ℕ → Reading A
or_bad at (Some a) rest = Got a rest
or_bad at None rest = Failed (fault.BadField at)

abbrev pub test_by : {A B : Type 0} → (A → Option B) → (at : ℕ) → Reading A → Reading B
test_by test at (Got a rest) = or_bad at (test a) rest
test_by test at (Failed f) = Failed f

unfoldable pub tested : {A B : Type 0} → (A → Option B) → Field A → Field B
tested test r whole bytes = test_by test (whole - length bytes) (r whole bytes)

-- so many parts, each of which may depend on those before it
unfoldable pub more : {A : Type 0} → ℕ → (List A → Field A) → List A → Field (List A)
more zero part done whole bytes = Got done bytes
more (suc n) part done whole bytes = go_on (part done whole bytes) (λ a. more n part (done ++ (a ∷ []))) whole

-- what a function answers that reads: the value, and the bytes behind it are left; or the first fault. Where memory
-- runs out nothing is said
abbrev pub FollowsBy : {R A : Type 0} → Reading A → Result R ReadFault → (R → A) → List ℕ → Type 0
FollowsBy r (Ok a) view rest = r ≡ Got (view a) rest
FollowsBy r (Err e) view rest = e ≢ fault.OutOfMemory → r ≡ Failed e

abbrev pub Follows : {A : Type 0} → Reading A → Result A ReadFault → List ℕ → Type 0
Follows r result rest = FollowsBy r result (λ a. a) rest
