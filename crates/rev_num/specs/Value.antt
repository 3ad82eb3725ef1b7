-- The kinds of values, and whether two are the same.
--   kind_of       the kind of a value
--   same_kind     whether two kinds are the same
--   same_number   whether two numbers are the same
--   same_truth    whether two truth values are the same
use Rattle.std.specs.Prelude.{ℤ, pos, negsuc, Bool, true, false, not, nat_eq}
use Rattle.rev_num.specs.declared.value.Value.{Value}
use Rattle.rev_num.specs.declared.value.Value.TheVariants as value
use Rattle.rev_num.specs.declared.value.ValueKind.{ValueKind}
use Rattle.rev_num.specs.declared.value.ValueKind.TheVariants as kind

abbrev pub kind_of : Value → ValueKind
kind_of (value.Int n) = kind.Int
kind_of (value.Bool b) = kind.Bool
kind_of (value.Rev path) = kind.Rev

abbrev pub same_kind : ValueKind → ValueKind → Bool
same_kind kind.Int kind.Int = true
same_kind kind.Int kind.Bool = false
same_kind kind.Int kind.Rev = false
same_kind kind.Bool kind.Int = false
same_kind kind.Bool kind.Bool = true
same_kind kind.Bool kind.Rev = false
same_kind kind.Rev kind.Int = false
same_kind kind.Rev kind.Bool = false
same_kind kind.Rev kind.Rev = true

abbrev pub same_number : ℤ → ℤ → Bool
same_number (pos m) (pos n) = nat_eq m n
same_number (pos m) (negsuc n) = false
same_number (negsuc m) (pos n) = false
same_number (negsuc m) (negsuc n) = nat_eq m n

abbrev pub same_truth : Bool → Bool → Bool
same_truth true b = b
same_truth false b = not b
