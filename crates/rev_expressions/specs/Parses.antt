-- What a parsing function promises, of the text and of the cursor before and after.
--   ParsesBy: what a parser reads
--   Parses: what a rule of the grammar reads
use Rattle.std.specs.Prelude.{ℕ, List, Result}
use Rattle.rev_syntax.specs.declared.token.Token.{Token}
use Rattle.rev_expressions.specs.Outcome.{Parser}
use Rattle.rev_expressions.specs.declared.cursor.Cursor.{Cursor}
use Rattle.rev_expressions.specs.declared.cursor.TreeFault.{TreeFault}
use Rattle.rev_expressions.specs.declared.source.SourceText.{SourceText}
use Rattle.rev_expressions.specs.Grammar.{Rule}
use Rattle.rev_expressions.specs.Parse.{parse}
use Rattle.rev_expressions.specs.Reads.{Reads}

-- The answer is what the parser reads, of this text, where so many levels may be opened: from the
-- tokens that the first cursor has left, to those that the second one has.
abbrev pub ParsesBy :
    {R A : Type 0} → (List ℕ → ℕ → Parser Token A) → SourceText → ℕ → Cursor → (R → A) →
    Result R TreeFault → Cursor → Type 0
ParsesBy p text n from view result to =
    Reads (p text.bytes.now n from.rest.now) view result to.rest.now

-- the same of what a rule reads
abbrev pub Parses :
    {R A : Type 0} → (List ℕ → Rule A) → SourceText → ℕ → Cursor → (R → A) → Result R TreeFault →
    Cursor → Type 0
Parses rule text n from view result to =
    Reads (parse text.bytes.now n (rule text.bytes.now) from.rest.now) view result to.rest.now
