-- A token of each class.
use Rattle.std.specs.Prelude.{◌≡◌, true, pos, refl}
use Rattle.rev_syntax.specs.declared.token.Token.{Token}
use Rattle.rev_syntax.specs.declared.token.TokenKind.TheVariants as k
use Rattle.rev_syntax.specs.declared.token.Fixed.{Fixed}
use Rattle.rev_syntax.specs.declared.token.Fixed.TheVariants as s
use Rattle.rev_expressions.specs.Classes.{Class, class_of, is_same}
use Rattle.rev_expressions.specs.Classes as class

same : (f : Fixed) → is_same (class.fixed f) (class.fixed f) ≡ true
same s.Fun = refl
same _ = refl

pub sample : (c : Class) → (t : Token) × (is_same c (class_of t.kind) ≡ true)
sample class.name = (record { kind = k.Name; start = 0; end = 0 }, refl)
sample class.number = (record { kind = k.Int (pos 0); start = 0; end = 0 }, refl)
sample class.text = (record { kind = k.Text; start = 0; end = 0 }, refl)
sample (class.fixed f) = (record { kind = k.Fixed f; start = 0; end = 0 }, same f)
