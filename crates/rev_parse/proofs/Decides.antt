-- The next token decides the grammar.
use Rattle.std.proofs.Common.{◌≡◌, ◌||◌, not, Bool, true, false, List, ℕ, refl}
use Rattle.std.specs.List.{list_all}
use Rattle.rev_expressions.specs.Exact.{extends, is_decided, is_plain, Decided}
use Rattle.rev_expressions.specs.Classes.{classes}
use Rattle.rev_expressions.specs.Grammar.{alphabet, Inner, Operand, Parens, Index, Arguments, Parts, Body, Params, Names, Cells}
use Rattle.rev_expressions.specs.Declarations.{program, inner}
use Rattle.rev_expressions.proofs.WholeGrammar.{whole_grammar}
use Rattle.rev_parse.specs.Instance.{going_on, Choices, decided}
use Rattle.rev_parse.proofs.Complete.{complete}

module _ (bytes : List ℕ) where
  rules_decided : (i : Inner) → is_decided alphabet going_on classes (inner bytes i) ≡ true
  unfolding whole_grammar
  rules_decided Operand = refl
  rules_decided Parens = refl
  rules_decided Index = refl
  rules_decided Arguments = refl
  rules_decided Parts = refl
  rules_decided Body = refl
  rules_decided Params = refl
  rules_decided Names = refl
  rules_decided Cells = refl

  rules_plain : (i : Inner) → is_plain alphabet going_on (inner bytes i) ≡ true
  unfolding whole_grammar
  rules_plain Operand = refl
  rules_plain Parens = refl
  rules_plain Index = refl
  rules_plain Arguments = refl
  rules_plain Parts = refl
  rules_plain Body = refl
  rules_plain Params = refl
  rules_plain Names = refl
  rules_plain Cells = refl

  -- an inner rule goes on with no other kinds
  extends_only : (i : Inner)
      → list_all (λ k. not (extends alphabet going_on (inner bytes i) k) || going_on i k) classes ≡ true
  unfolding whole_grammar
  extends_only Operand = refl
  extends_only Parens = refl
  extends_only Index = refl
  extends_only Arguments = refl
  extends_only Parts = refl
  extends_only Body = refl
  extends_only Params = refl
  extends_only Names = refl
  extends_only Cells = refl

  implied : (a b : Bool) → not a || b ≡ true → a ≡ true → b ≡ true
  implied true b e h = e
  implied false b e h = absurd cc

  pub program_decided : is_decided alphabet going_on classes (program bytes) ≡ true
  unfolding whole_grammar
  program_decided = refl

  pub choices : Choices bytes
  choices = record {
    complete = complete;
    decided = rules_decided;
    extended = λ i k h.
        implied (extends alphabet going_on (inner bytes i) k) (going_on i k)
        (complete (λ k. not (extends alphabet going_on (inner bytes i) k) || going_on i k) (extends_only i) k) h;
    plain = rules_plain;
    whole = program_decided;
  }

  pub grammar_decided : Decided alphabet (inner bytes) going_on classes
  grammar_decided = decided bytes choices
