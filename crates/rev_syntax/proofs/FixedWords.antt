-- The list of fixed words and signs has them all, and no two of them are spelled alike.
use Rattle.std.proofs.Common.{◌≡◌, Bool, true, refl, sym, ap, subst}
use Rattle.std.specs.List.{list_all, list_any}
use Rattle.std.specs.Cmp.Lexicographic.{same_text}
use Rattle.rev_syntax.specs.declared.token.Fixed.{Fixed}
use Rattle.rev_syntax.specs.declared.token.Fixed.TheVariants as s
use Rattle.rev_syntax.specs.declared.token.TokenKind.TheVariants as k
use Rattle.rev_syntax.specs.declared.token.PieceKind.{PieceKind}
use Rattle.rev_syntax.specs.declared.token.PieceKind.TheVariants as piece
use Rattle.rev_syntax.specs.Words.{spelling, fixed, has_spelling}
use Rattle.rev_syntax.proofs.Lists.{any-both}
use Rattle.rev_syntax.proofs.PieceKinds.{one-kind}

listed : (f : Fixed) → list_any (has_spelling (spelling f)) fixed ≡ true
listed s.Fun = refl
listed _ = refl

abbrev fixed-in : PieceKind → Fixed
fixed-in (piece.Token (k.Fixed f)) = f
fixed-in _ = s.Fun

pub one-spelling : (f g : Fixed) → has_spelling (spelling f) g ≡ true → g ≡ f
one-spelling f g h =
    let same = same_text (spelling g) (spelling f) (sym h) in
    ap fixed-in (one-kind (piece.Token (k.Fixed g)) (piece.Token (k.Fixed f)) (spelling f) (sym same) refl)

-- what a test finds of each in the list, it finds of each
pub each-fixed : (p : Fixed → Bool) → list_all p fixed ≡ true → (f : Fixed) → p f ≡ true
each-fixed p h f =
    let a = any-both p (has_spelling (spelling f)) fixed h (listed f) in
    subst (λ (g : Fixed). p g ≡ true) (one-spelling f a.0 a.1) a.2
