-- Which texts are programs, said of all texts of a form.
--
-- `IsProgramText`: the text is a program that keeps all rules; `LoadMakesPrograms`: that of `load` is
-- one; `NoProgramBeginsATrace`: no program has a line with which a trace begins.
use Rattle.std.specs.Prelude.{ℕ, ◌≤◌, List}
use Rattle.rev_words.specs.Load.{load_text}
use Rattle.rev_syntax.specs.Tokens.{IsTokens}
use Rattle.rev_syntax.specs.Trees.{ProgramTree}
use Rattle.rev_syntax.specs.declared.token.Token.{Token}
use Rattle.rev_parse.specs.Verdicts.{IsProgram}
use Rattle.typed_programs.specs.Accepted.{IsWellTyped}
use Rattle.static_rules.specs.Funs.{KeepsFunRules}
use Rattle.trace_diagram.specs.Dividing.{IsCutAt}

-- the text has tokens, which are one tree, and the tree keeps the rules on funs and is well typed
pub record IsProgramText (text : List ℕ) : Type 0 where
  pub tokens : List Token
  pub cut : IsTokens text tokens
  pub tree : ProgramTree
  pub parsed : IsProgram text tokens tree
  pub funs : KeepsFunRules tree
  pub typed : IsWellTyped tree

-- for each seed, and each size that the words may have
abbrev pub LoadMakesPrograms : Type 0
LoadMakesPrograms = (seed size : ℕ) → 1 ≤ size → size ≤ 500 → IsProgramText (load_text seed size)

-- where the tokens of a text are a tree, no trace begins behind whole lines of it
abbrev pub NoProgramBeginsATrace : Type 0
NoProgramBeginsATrace =
    (text : List ℕ) (ts : List Token) (p : ProgramTree) → IsTokens text ts → IsProgram text ts p
    → (front back : List ℕ) → IsCutAt text front back → ⊥
