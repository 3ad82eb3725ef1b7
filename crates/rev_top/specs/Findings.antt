-- What the front end finds of a text.
--
-- `Finding`: the five cases, each with what is found; `HasVerdict`: the tokens of a text have a verdict;
-- `IsFinding`: a case holds of a text; `IsReady`: what the laws on kinds ask of a program; `FrontEnd`: the law.
use Rattle.std.specs.Prelude.{◌≡◌, ◌↔◌, ◌≤◌, ℕ, List, [], length, Ok}
use Rattle.rev_syntax.specs.Trees.{ProgramTree}
use Rattle.rev_syntax.specs.Small.{IsSmall}
use Rattle.rev_syntax.specs.Tokens.{IsTokens, IsFirstFault}
use Rattle.rev_syntax.specs.declared.token.Token.{Token}
use Rattle.rev_syntax.specs.declared.scan.LexFault.{LexFault}
use Rattle.rev_parse.specs.Verdicts.{Verdict, tree, unexpected, too_deep, IsVerdict}
use Rattle.typed_programs.specs.FunRules as funs
use Rattle.typed_programs.specs.declared.fun_fault.MergeFault.{MergeFault}
use Rattle.typed_programs.specs.declared.fault.TypeFault.{TypeFault}
use Rattle.typed_programs.specs.Accepted.{IsWellTyped}
use Rattle.typed_programs.specs.Program.{faults}
use Rattle.static_rules.specs.Funs.{IsFirstBrokenFun, KeepsFunRules}
use Rattle.static_rules.specs.Breaks.{IsFirstBroken}
use Rattle.mode_reports.specs.declared.sizes.TheConstants.{SOURCE_LIMIT as source_limit}
use Rattle.mode_reports.specs.Texts.{Checks}

-- a text is at fault in its tokens, in its syntax, in its funs or in another static rule, or it is accepted
pub data Finding : Type 0 where
  lexical : LexFault → Finding
  syntax : Verdict → Finding
  of_funs : ProgramTree → MergeFault → Finding
  of_rules : ProgramTree → TypeFault → Finding
  accepted : ProgramTree → Finding

-- the text has tokens, and they have this verdict
pub record HasVerdict (text : List ℕ) (v : Verdict) : Type 0 where
  pub tokens : List Token
  pub cut : IsTokens text tokens
  pub verdict : IsVerdict text tokens v

-- the verdict is a fault
abbrev pub IsSyntaxFault : Verdict → Type 0
IsSyntaxFault (tree p) = ⊥
IsSyntaxFault (unexpected at) = Unit {0}
IsSyntaxFault (too_deep at) = Unit {0}

abbrev pub IsFinding : List ℕ → Finding → Type 0
IsFinding text (lexical f) = IsFirstFault text f
IsFinding text (syntax v) = HasVerdict text v × IsSyntaxFault v
IsFinding text (of_funs p f) = HasVerdict text (tree p) × IsFirstBrokenFun p f
IsFinding text (of_rules p f) = HasVerdict text (tree p) × KeepsFunRules p × IsFirstBroken p f
IsFinding text (accepted p) = HasVerdict text (tree p) × KeepsFunRules p × IsWellTyped p

-- a small program without a fault, of which the laws on kinds speak
pub record IsReady (p : ProgramTree) : Type 0 where
  pub small : IsSmall p
  pub funs : funs.fun_faults p ≡ []
  pub rules : faults p ≡ []

-- one case holds of a text, and no other; what is accepted is what the top call takes as a program,
-- and it meets the premise of the laws on kinds
pub record HasOneFinding (text : List ℕ) : Type 0 where
  pub finding : Finding
  pub found : IsFinding text finding
  pub only : (a b : Finding) → IsFinding text a → IsFinding text b → a ≡ b
  pub same : (p : ProgramTree) → Checks text (Ok p) ↔ IsFinding text (accepted p)
  pub ready : (p : ProgramTree) → IsFinding text (accepted p) → IsReady p

abbrev pub FrontEnd : Type 0
FrontEnd = (text : List ℕ) → length text ≤ source_limit → HasOneFinding text
