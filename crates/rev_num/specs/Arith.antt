-- Arithmetic on signed numbers of 64 bits: the exact result, or why there is none.
use Rattle.std.specs.Prelude.{zero, ◌^◌, Bool, ℤ, pos, negsuc, ◌+ℤ◌, ◌-ℤ◌, ◌*ℤ◌, neg_ℤ, int_div, int_rem, nat_lt, if◌then◌else◌, Result, Ok, Err}
use Rattle.rev_num.specs.declared.value.NumFault.{NumFault}
use Rattle.rev_num.specs.declared.value.NumFault.TheVariants.{Overflow, ZeroDivisor}

-- whether 64 bits hold the number
abbrev pub fits_i64 : ℤ → Bool
fits_i64 (pos n) = nat_lt n (2 ^ 63)
fits_i64 (negsuc n) = nat_lt n (2 ^ 63)

-- the number, if 64 bits hold it
abbrev pub checked : ℤ → Result ℤ NumFault
checked z = if fits_i64 z then Ok z else Err Overflow

abbrev pub sum_of : ℤ → ℤ → Result ℤ NumFault
sum_of a b = checked (a +ℤ b)

abbrev pub difference_of : ℤ → ℤ → Result ℤ NumFault
difference_of a b = checked (a -ℤ b)

abbrev pub product_of : ℤ → ℤ → Result ℤ NumFault
product_of a b = checked (a *ℤ b)

abbrev pub negation_of : ℤ → Result ℤ NumFault
negation_of a = checked (neg_ℤ a)

-- a result of dividing a by b, which exists where b is not 0 and the quotient fits
abbrev pub divided : ℤ → ℤ → ℤ → Result ℤ NumFault
divided a (pos zero) z = Err ZeroDivisor
divided a b z = if fits_i64 (int_div a b) then Ok z else Err Overflow

-- the quotient, rounded toward zero
abbrev pub quotient_of : ℤ → ℤ → Result ℤ NumFault
quotient_of a b = divided a b (int_div a b)

-- what is left, with the sign of the dividend
abbrev pub remainder_of : ℤ → ℤ → Result ℤ NumFault
remainder_of a b = divided a b (int_rem a b)
