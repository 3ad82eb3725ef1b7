-- The tokens of a text have a verdict: what the parser answers.
use Rattle.std.proofs.Common.{ℕ, List, [], ◌∷◌, drop, refl}
use Rattle.rev_syntax.specs.Trees.{ProgramTree}
use Rattle.rev_syntax.specs.declared.token.Token.{Token}
use Rattle.rev_expressions.specs.Outcome.{Outcome, Read, Failed, Unexpected, TooDeep}
use Rattle.rev_expressions.specs.Theorem as theorem
use Rattle.rev_expressions.proofs.Whole as whole
use Rattle.rev_expressions.specs.Classes.{classes}
use Rattle.rev_expressions.specs.Grammar.{alphabet}
use Rattle.rev_expressions.specs.Declarations.{inner, program}
use Rattle.rev_expressions.specs.Parse.{parse}
use Rattle.rev_parse.specs.Verdicts.{most_levels, place_of, Verdict, tree, unexpected, too_deep, IsVerdict, SomeVerdict}
use Rattle.rev_parse.specs.Instance.{going_on}
use Rattle.rev_parse.proofs.Decides.{grammar_decided, program_decided}

module _ (bytes : List ℕ) (ts : List Token) where
  abbrev IsSaid : Outcome Token ProgramTree → Type 0
  IsSaid = theorem.Verdict alphabet (inner bytes) (program bytes) most_levels ts

  of_answer : (o : Outcome Token ProgramTree) → IsSaid o → (v : Verdict) × IsVerdict bytes ts v
  of_answer (Read p []) h = (tree p, h)
  of_answer (Read p (t ∷ rest)) h = (unexpected (place_of bytes (drop h.0 ts)), (h.0, h.1, refl))
  of_answer (Failed Unexpected rest) h = (unexpected (place_of bytes (drop h.0 ts)), (h.0, h.1, refl))
  of_answer (Failed TooDeep rest) h = (too_deep (place_of bytes (drop h.0 ts)), (h.0, h.1, refl))

  here : (v : Verdict) × IsVerdict bytes ts v
  here = of_answer (parse bytes most_levels (program bytes) ts)
      (whole.verdict alphabet (inner bytes) going_on classes (grammar_decided bytes) (program bytes)
      (program_decided bytes) most_levels ts)

pub some_verdict : SomeVerdict
some_verdict bytes ts = here bytes ts
