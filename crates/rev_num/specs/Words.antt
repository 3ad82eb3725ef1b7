-- The 64 bits of a signed number, read as a number without sign, and back.
use Rattle.std.specs.Prelude.{ℕ, ◌-◌, ◌^◌, ℤ, pos, negsuc, nat_lt, if◌then◌else◌}

-- a number below 0 stands 2 ^ 64 higher
abbrev pub word_of : ℤ → ℕ
word_of (pos n) = n
word_of (negsuc n) = 2 ^ 64 - 1 - n

-- a word from 2 ^ 63 on stands for the number 2 ^ 64 lower
abbrev pub int_of : ℕ → ℤ
int_of w = if nat_lt w (2 ^ 63) then pos w else negsuc (2 ^ 64 - 1 - w)
