-- The grammar of the language as one of those that the next token decides.
--   going_on      the classes of tokens with which an inner rule is gone on with
--   Choices       each choice of the grammar over a text is decided by the next token
--   decided       so the next token decides the grammar
--   IsExactHere   what the theory of grammars says of the parser of this grammar
use Rattle.std.specs.Prelude.{◌≡◌, ℕ, Bool, true, false, List, ◌||◌}
use Rattle.std.specs.List.{list_all}
use Rattle.rev_syntax.specs.declared.token.Fixed.TheVariants as s
use Rattle.rev_syntax.specs.declared.token.Token.{Token}
use Rattle.rev_expressions.specs.Exact.{extends, is_decided, is_plain, Decided}
use Rattle.rev_expressions.specs.Theorem.{Verdict}
use Rattle.rev_expressions.specs.Classes.{Class, is_same, classes}
use Rattle.rev_expressions.specs.Classes as class
use Rattle.rev_expressions.specs.Grammar.{alphabet, Inner, Operand}
use Rattle.rev_expressions.specs.Declarations.{inner, program}
use Rattle.rev_expressions.specs.Parse.{parse}
use Rattle.rev_parse.specs.Samples.{sample}

-- a unary expression goes on with an index or arguments behind a name, the others end with a closing sign
abbrev pub going_on : Inner → Class → Bool
going_on Operand k = is_same (class.fixed s.OpenBracket) k || is_same (class.fixed s.OpenParen) k
going_on _ k = false

-- The list of classes has them all; the next token decides each choice of the inner rules, each of
-- which goes on with the classes above alone and derives some tokens with no level in it; and it
-- decides each choice of the rule for a whole program.
pub record Choices (bytes : List ℕ) : Type 0 where
  pub complete : (p : Class → Bool) → list_all p classes ≡ true → (k : Class) → p k ≡ true
  pub decided : (i : Inner) → is_decided alphabet going_on classes (inner bytes i) ≡ true
  pub extended :
      (i : Inner) (k : Class) →
      extends alphabet going_on (inner bytes i) k ≡ true → going_on i k ≡ true
  pub plain : (i : Inner) → is_plain alphabet going_on (inner bytes i) ≡ true
  pub whole : is_decided alphabet going_on classes (program bytes) ≡ true

abbrev pub decided : (bytes : List ℕ) → Choices bytes → Decided alphabet (inner bytes) going_on classes
decided bytes c = record {
  complete = c.complete;
  sample = sample;
  decided = c.decided;
  extended = c.extended;
  plain = c.plain;
}

-- For every text, every number of levels and all tokens, the parser answers the one program, or the
-- first place where no program of any nesting goes on, or the first token that opens a level too many.
abbrev pub IsExactHere : Type 0
IsExactHere =
    (bytes : List ℕ) (levels : ℕ) (ts : List Token) →
    Verdict alphabet (inner bytes) (program bytes) levels ts (parse bytes levels (program bytes) ts)
