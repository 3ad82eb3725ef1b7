-- Two reserved words or signs are one where they are spelled alike.
use Rattle.std.proofs.Common.{◌≡◌, Bool, true, false, refl, sym, ap, ◌∙◌, true≢false}
use denote.Enum.Bare.{sameb, true_same, false_same}
use Rattle.rev_syntax.specs.contracts.token.Fixed.{the_type}
use Rattle.rev_syntax.specs.declared.token.Fixed.{Fixed}
use Rattle.rev_syntax.specs.declared.token.Fixed.TheVariants as s
use Rattle.rev_syntax.specs.Words.{spelling, has_spelling}
use Rattle.rev_syntax.proofs.FixedWords.{one-spelling}

own : (f : Fixed) → has_spelling (spelling f) f ≡ true
own s.Fun = refl
own _ = refl

by_spelling : (f g : Fixed) (b : Bool) → has_spelling (spelling g) f ≡ b → sameb the_type f g ≡ b
by_spelling f g true h = true_same the_type f g (one-spelling g f h)
by_spelling f g false h =
    false_same the_type tt f g
    (λ e. true≢false (sym (own g) ∙ sym (ap (λ (x : Fixed). has_spelling (spelling g) x) e) ∙ h))

pub same_words : (f g : Fixed) → sameb the_type f g ≡ has_spelling (spelling g) f
same_words f g = by_spelling f g (has_spelling (spelling g) f) refl
