-- The same kinds of values are equal, for the crates above.
use Rattle.std.proofs.Common.{◌≡◌, true, refl, sym, true≢false}
use Rattle.rev_num.specs.declared.value.ValueKind.{ValueKind}
use Rattle.rev_num.specs.declared.value.ValueKind.TheVariants as k
use Rattle.rev_num.specs.Value.{same_kind}

pub same_kind_self : (x : ValueKind) → same_kind x x ≡ true
same_kind_self k.Int = refl
same_kind_self k.Bool = refl
same_kind_self k.Rev = refl

pub same_kind_is : (x y : ValueKind) → same_kind x y ≡ true → x ≡ y
same_kind_is k.Int k.Int h = refl
same_kind_is k.Bool k.Bool h = refl
same_kind_is k.Rev k.Rev h = refl
same_kind_is k.Int k.Bool h = absurd (true≢false (sym h))
same_kind_is k.Int k.Rev h = absurd (true≢false (sym h))
same_kind_is k.Bool k.Int h = absurd (true≢false (sym h))
same_kind_is k.Bool k.Rev h = absurd (true≢false (sym h))
same_kind_is k.Rev k.Int h = absurd (true≢false (sym h))
same_kind_is k.Rev k.Bool h = absurd (true≢false (sym h))
