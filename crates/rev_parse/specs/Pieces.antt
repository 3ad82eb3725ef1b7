-- The pieces of declarations, and what is asked of the numbers of a text.
use Rattle.std.specs.Prelude.{◌≤ℤ◌, ℕ, ℤ, pos, neg_ℤ, Bool, List, [], map, Option, option_map}
use Rattle.std.specs.List.{All}
use Rattle.rev_num.specs.declared.value.ValueKind.{ValueKind}
use Rattle.rev_num.specs.declared.value.Value.TheVariants as v
use Rattle.rev_syntax.specs.declared.token.Token.{Token}
use Rattle.rev_syntax.specs.declared.tree.Param.{Param}
use Rattle.rev_syntax.specs.Trees.{PlacedName, Parameter, Constant, ArraySize}
use Rattle.rev_syntax.specs.View as view
use Rattle.rev_expressions.specs.Form.{token, level, both}
use Rattle.rev_expressions.specs.Outcome.{Outcome, Parser, Read, and_then}
use Rattle.rev_expressions.specs.Reader.{begins}
use Rattle.rev_syntax.specs.declared.token.Fixed.TheVariants as s
use Rattle.rev_expressions.specs.Source.{int_of}
use Rattle.rev_expressions.specs.Grammar.{alphabet, Rule, Names, sign}
use Rattle.rev_expressions.specs.Declarations as d
use Rattle.rev_expressions.specs.Declarations.{optional}
use Rattle.rev_expressions.specs.Parse.{parse}
use Rattle.rev_parse.specs.declared.declaration.KindAt.{KindAt}
use Rattle.rev_parse.specs.declared.declaration.Heading.{Heading}
use Rattle.rev_parse.specs.declared.declaration.Typed.{Typed}
use Rattle.rev_parse.specs.declared.declaration.Versions.{Versions}
use Rattle.rev_expressions.specs.Classes as class

-- No number of the tokens is negative: a text has none, since a sign is a token of its own.
unfoldable pub AreNatural : List Token → Type 0
AreNatural ts = All (λ t. pos 0 ≤ℤ int_of t.kind) ts

-- what a rule reads in which no level is opened
abbrev pub plain : {A : Type 0} → Rule A → Parser Token A
plain F ts = parse [] 0 F ts

-- whether a declaration comes, which no bytes of the text decide
abbrev pub declaration_begins : List Token → Bool
declaration_begins ts = begins alphabet (d.declaration []) ts

-- a number of cells
unfoldable pub count : Rule ArraySize
count = token class.number (λ x. record { at = x.start; cells = int_of x.kind })

-- a number, and the constant that it is behind a minus sign at this place
unfoldable pub number : Rule ℤ
number = token class.number (λ x. int_of x.kind)

abbrev pub negative : ℕ → ℤ → Constant
negative at n = record { at = at; value = v.Int (neg_ℤ n) }

abbrev pub negative_of : ℕ → Outcome Token ℤ → Outcome Token Constant
negative_of at o = and_then o (λ n rest. Read (negative at n) rest)

-- the names of a merge with their opening sign
unfoldable pub three_names : Rule (PlacedName × PlacedName × PlacedName)
three_names = level (class.fixed s.OpenParen) Names (λ x ns. ns)

-- [ ":" kind ]
unfoldable pub result_kind : Rule (Option ValueKind)
result_kind = optional (both {B = d.KindAt} (λ x k. k.1) (sign s.Colon) d.kind)

-- ---- as what the pieces are seen

abbrev pub kind_at : KindAt → d.KindAt
kind_at k = (k.at, k.kind)

abbrev pub parameters : List Param → List Parameter
parameters ps = map view.parameter ps

abbrev pub heading : Heading → PlacedName × List Parameter
heading h = (view.placed_name h.name, parameters h.params.items)

abbrev pub typed : Typed → PlacedName × d.KindAt × Option ArraySize
typed x = (view.placed_name x.name, kind_at x.kind, option_map view.array_size x.size)

abbrev pub versions : Versions → PlacedName × PlacedName × PlacedName
versions x = (view.placed_name x.main, view.placed_name x.join, view.placed_name x.root)
