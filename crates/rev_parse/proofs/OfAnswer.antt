-- What the parser's answer says of all tokens of a text.
use Rattle.std.proofs.Common.{◌≡◌, ◌≢◌, ℕ, List, [], ◌∷◌, length, drop, Ok, Err, Result, refl, sym, ap, ◌∙◌, subst, arith}
use Rattle.rev_syntax.specs.Trees.{ProgramTree}
use Rattle.rev_syntax.specs.declared.token.Token.{Token}
use Rattle.rev_expressions.specs.Outcome.{Outcome, Read, Failed, Unexpected, TooDeep}
use Rattle.rev_expressions.specs.Theorem as theorem
use Rattle.rev_expressions.proofs.Whole as whole
use Rattle.rev_syntax.specs.View.{program as view}
use Rattle.rev_syntax.specs.declared.tree.Program.{Program}
use Rattle.rev_expressions.specs.declared.cursor.TreeFault.{TreeFault}
use Rattle.rev_expressions.specs.declared.cursor.TreeFault.TheVariants as f
use Rattle.rev_expressions.specs.Reads.{Reads, stop_of}
use Rattle.rev_expressions.specs.Classes.{classes}
use Rattle.rev_expressions.specs.Grammar.{alphabet}
use Rattle.rev_expressions.specs.Declarations.{inner, program}
use Rattle.rev_expressions.specs.Parse.{parse}
use Rattle.rev_parse.specs.SmallTree.{IsSmallTree}
use Rattle.rev_parse.specs.Verdicts.{most_levels, IsProgram, IsUnexpected, IsTooDeep, At, place_of}
use Rattle.rev_parse.specs.Instance.{going_on}
use Rattle.rev_parse.proofs.Decides.{grammar_decided, program_decided}
use Rattle.rev_parse.proofs.SmallPrograms.{program_small}

module _ (bytes : List ℕ) (ts : List Token) where
  abbrev Verdict : Outcome Token ProgramTree → Type 0
  Verdict = theorem.Verdict alphabet (inner bytes) (program bytes) most_levels ts

  verdict : (o : Outcome Token ProgramTree) → parse bytes most_levels (program bytes) ts ≡ o → Verdict o
  verdict o e =
      subst Verdict e (whole.verdict alphabet (inner bytes) going_on classes (grammar_decided bytes) (program bytes)
      (program_decided bytes) most_levels ts)

  at_rest : {IsFault : ℕ → Type 0} (rest : List Token) (at : ℕ) → at ≡ place_of bytes rest
      → ((n : ℕ) × IsFault n × (drop n ts ≡ rest)) → At IsFault bytes ts at
  at_rest rest at e f = (f.0, f.1, e ∙ ap (place_of bytes) (sym f.2))

  pub whole_program : (p : ProgramTree) (rest : List Token) → parse bytes most_levels (program bytes) ts ≡ Read p rest
      → length rest ≡ 0 → IsProgram bytes ts p
  whole_program p [] e none = verdict (Read p []) e
  whole_program p (t ∷ rest) e none = absurd (omega arith)

  pub more_left : (p : ProgramTree) (rest : List Token) (at : ℕ)
      → parse bytes most_levels (program bytes) ts ≡ Read p rest → length rest ≢ 0 → at ≡ place_of bytes rest
      → At (IsUnexpected bytes ts) bytes ts at
  more_left p [] at e some is = absurd (some refl)
  more_left p (t ∷ rest) at e some is = at_rest (t ∷ rest) at is (verdict (Read p (t ∷ rest)) e)

  pub unexpected : (rest : List Token) (at : ℕ) → parse bytes most_levels (program bytes) ts ≡ Failed Unexpected rest
      → at ≡ place_of bytes rest → At (IsUnexpected bytes ts) bytes ts at
  unexpected rest at e is = at_rest rest at is (verdict (Failed Unexpected rest) e)

  pub too_deep : (rest : List Token) (at : ℕ) → parse bytes most_levels (program bytes) ts ≡ Failed TooDeep rest
      → at ≡ place_of bytes rest → At (IsTooDeep bytes ts) bytes ts at
  too_deep rest at e is = at_rest rest at is (verdict (Failed TooDeep rest) e)

-- ---- the same of the result of the code, which reads these bytes

module _ (bytes b : List ℕ) (ts : List Token) (same : b ≡ bytes) (r : Result Program TreeFault) (rest : List Token)
    (h : Reads (parse b most_levels (program b) ts) view r rest) where
  here : Reads (parse bytes most_levels (program bytes) ts) view r rest
  here = subst (λ b. Reads (parse b most_levels (program b) ts) view r rest) same h

  read_is : (p : Program) → r ≡ Ok p → parse bytes most_levels (program bytes) ts ≡ Read (view p) rest
  read_is p is = subst (λ r. Reads (parse bytes most_levels (program bytes) ts) view r rest) is here

  failed_is : (x : TreeFault) → r ≡ Err x → x ≢ f.OutOfMemory
      → parse bytes most_levels (program bytes) ts ≡ Failed (stop_of x) rest
  failed_is x is known =
      let k : x ≢ f.OutOfMemory → parse bytes most_levels (program bytes) ts ≡ Failed (stop_of x) rest =
      subst (λ r. Reads (parse bytes most_levels (program bytes) ts) view r rest) is here in
      k known

  pub ok_only : (p : Program) → r ≡ Ok p → length rest ≡ 0 → IsProgram bytes ts (view p) × IsSmallTree bytes ts (view p)
  ok_only p is none =
      let program = whole_program bytes ts (view p) rest (read_is p is) none in
      (program, program_small bytes ts (view p) program)

  pub ok_more : (p : Program) (at : ℕ) → r ≡ Ok p → length rest ≢ 0 → at ≡ place_of bytes rest
      → At (IsUnexpected bytes ts) bytes ts at
  ok_more p at is some e = more_left bytes ts (view p) rest at (read_is p is) some e

  pub err_unexpected : (at : ℕ) → r ≡ Err f.Unexpected → at ≡ place_of bytes rest
      → At (IsUnexpected bytes ts) bytes ts at
  err_unexpected at is e = unexpected bytes ts rest at (failed_is f.Unexpected is (λ e. cc)) e

  pub err_too_deep : (at : ℕ) → r ≡ Err f.TooDeep → at ≡ place_of bytes rest → At (IsTooDeep bytes ts) bytes ts at
  err_too_deep at is e = too_deep bytes ts rest at (failed_is f.TooDeep is (λ e. cc)) e
