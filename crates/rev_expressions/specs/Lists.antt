-- What is still to be read of a rule that is repeated.
use Rattle.std.specs.Prelude.{ℕ, List, length}
use Rattle.rev_syntax.specs.declared.token.Token.{Token}
use Rattle.rev_syntax.specs.declared.token.Fixed.TheVariants as s
use Rattle.rev_expressions.specs.Outcome.{Parser}
use Rattle.rev_expressions.specs.Reader.{begins, repeat}
use Rattle.rev_expressions.specs.Grammar.{alphabet, Rule, behind, never}
use Rattle.rev_expressions.specs.Parse.{parse}

-- the rule as often as it comes, at most so often, behind those that were found
abbrev pub more_of : List ℕ → ℕ → {A : Type 0} → Rule A → ℕ → List A → Parser Token (List A)
more_of bytes n F = repeat alphabet (parse bytes n F) never (begins alphabet F)

-- the same with a comma before each
abbrev pub more_listed : List ℕ → ℕ → {A : Type 0} → Rule A → ℕ → List A → Parser Token (List A)
more_listed bytes n F = more_of bytes n (behind s.Comma F)

-- all that are left of them, behind those that were found
abbrev pub more_behind : List ℕ → ℕ → {A : Type 0} → Rule A → List A → Parser Token (List A)
more_behind bytes n F found ts = more_listed bytes n F (length ts) found ts
