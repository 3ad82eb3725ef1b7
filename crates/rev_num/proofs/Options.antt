-- What follows of an Option that is equal to another, for the crates above.
use Rattle.std.proofs.Common.{◌≡◌, Option, Some, None}

pub none_some : {P : Type 0} {A : Type 0} {x : A} → ◌≡◌ {A = Option A} None (Some x) → P
none_some e = absurd cc

pub some_eq : {A : Type 0} {x y : A} → ◌≡◌ {A = Option A} (Some x) (Some y) → x ≡ y
some_eq e = cc

-- the same, told of which two
pub some_same : {A : Type 0} (x y : A) → ◌≡◌ {A = Option A} (Some x) (Some y) → x ≡ y
some_same x y e = cc
