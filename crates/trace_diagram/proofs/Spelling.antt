-- Prefixes and numbers are read exactly.
use Rattle.std.proofs.Common.{◌≡◌, ◌∙◌, sym, ap, subst, ℕ, ◌<◌, ◌^◌, ◌+◌, true, false, ℤ, List, ◌++◌, length, take, drop}
use Rattle.std.specs.Prelude.{nat_eq, Option, Some, None, MatchOption, Result, Ok}
use Rattle.std.specs.Cmp.Lexicographic.{pointwise}
use Rattle.std.specs.Fmt.{decimal, signed_decimal}
use Rattle.std.specs.Str.{IsUtf8}
use Rattle.std.specs.Str.Parse.{ParsesUnsigned}
use Rattle.std.proofs.Math.Seq.{take-append_seam}
use Rattle.std.proofs.lemmas.List.{take-append-drop}
use Rattle.std.proofs.lemmas.Bool.{true≢false}
use Rattle.std.proofs.lemmas.Fmt.{parse-decimal, IsAscii-decimal}
use Rattle.std.proofs.lemmas.Str.{IsUtf8-from_ascii}
use Rattle.rev_num.specs.Arith.{fits_i64}
use Rattle.rev_num.specs.Decimal.{decimal_in}
use Rattle.rev_num.proofs.Decimals.{decimal_in-signed_decimal}
use Rattle.rev_num.proofs.PostOrder.{same_refl, same-eq}
use Rattle.trace_diagram.specs.Reading.{LacksPrefix}

-- ---- prefixes

pub is_behind : (bytes prefix rest : List ℕ) → pointwise nat_eq (take (length prefix) bytes) prefix ≡ true
    → rest ≡ drop (length prefix) bytes → bytes ≡ prefix ++ rest
is_behind bytes prefix rest same is =
    let front : take (length prefix) bytes ≡ prefix = same-eq (take (length prefix) bytes) prefix same in
    sym (take-append-drop (length prefix) bytes) ∙ (λ i. front i ++ sym is i)

pub lacks : (bytes prefix : List ℕ) → pointwise nat_eq (take (length prefix) bytes) prefix ≡ false
    → LacksPrefix bytes prefix
lacks bytes prefix other rest is =
    let front : take (length prefix) bytes ≡ prefix = ap (take (length prefix)) is ∙ take-append_seam prefix rest in
    true≢false (sym (subst (λ t. pointwise nat_eq t prefix ≡ true) (sym front) (same_refl prefix)) ∙ other)

pub stripped : {A : Type 0} (o : Option A) (now : A → List ℕ) (bytes prefix : List ℕ)
    → MatchOption o (pointwise nat_eq (take (length prefix) bytes) prefix ≡ false)
    (λ x. (pointwise nat_eq (take (length prefix) bytes) prefix ≡ true) × (now x ≡ drop (length prefix) bytes)
    × (length (now x) + length prefix ≡ length bytes))
    → MatchOption o (LacksPrefix bytes prefix) (λ x. bytes ≡ prefix ++ now x)
stripped None now bytes prefix h = lacks bytes prefix h
stripped (Some x) now bytes prefix h = is_behind bytes prefix (now x) h.0 h.1

-- ---- numbers

pub decimal_is_text : (n : ℕ) (bytes : List ℕ) → n < 2 ^ 64 → decimal n ≡ bytes → IsUtf8 bytes
decimal_is_text n bytes small is = subst IsUtf8 is (IsUtf8-from_ascii (decimal n) (IsAscii-decimal n small))

-- where parse gives this number, no other is spelled so
pub parsed : {E : Type 0} (n : ℕ) (bytes : List ℕ) (r : Result ℕ E) → ParsesUnsigned 64 10 bytes r → n < 2 ^ 64
    → decimal n ≡ bytes → r ≡ Ok n
parsed n bytes r h small is = parse-decimal 64 n bytes r small small (sym is) h

pub read_as : (n : ℤ) (bytes : List ℕ) → fits_i64 n ≡ true → signed_decimal n ≡ bytes → decimal_in bytes ≡ Some n
read_as n bytes fits is = subst (λ b. decimal_in b ≡ Some n) is (decimal_in-signed_decimal n fits)
