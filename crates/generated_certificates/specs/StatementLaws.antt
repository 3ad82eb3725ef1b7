-- The notes of the code of typed statements are a certificate of it.
use Rattle.std.specs.Prelude.{◌≡◌, ℕ, ◌+◌, true, Option, List}
use Rattle.rev_num.specs.declared.value.ValueKind.{ValueKind}
use Rattle.rev_syntax.specs.Trees.{Statements}
use Rattle.rev_syntax.specs.Small.{statements_small}
use Rattle.typed_programs.specs.Kinds.{Names, Locals}
use Rattle.typed_programs.specs.Judgement.{StatementsTyped}
use Rattle.typed_programs.specs.Limits.{StatementsPrint}
use Rattle.rev_code.specs.declared.code.Code.{Code}
use Rattle.rev_code.specs.declared.code.CodeBlock.{CodeBlock}
use Rattle.code_rules.specs.Pass.{Note, entry, most_words}
use Rattle.code_soundness.specs.Certificate.{Fits}
use Rattle.code_generation.specs.Numbers.{Numbers, Scope}
use Rattle.code_generation.specs.Sizes.{statements_size}
use Rattle.code_generation.specs.Statements.{Spot, statements_code}
use Rattle.code_generation.specs.Stands.{HasAt, HasItems}
use Rattle.generated_certificates.specs.Items.{noted}
use Rattle.generated_certificates.specs.Means.{NamesMean}
use Rattle.generated_certificates.specs.RulesKept.{IsWithin, AllKept}
use Rattle.generated_certificates.specs.Statements.{statements_notes}
use Rattle.generated_certificates.specs.Bodies.{BodyMeans, Tables}

-- Typed statements of a small tree, whose prints have few items, stand in a block with their notes,
-- and nothing is on the stack behind them; names mean there what they mean in the program, and the
-- tables have their kinds and layouts. Then each of their instructions keeps the rules.
abbrev pub StatementsAreCertified : Type 0
StatementsAreCertified =
    (code : Code) (k : ℕ) (b : CodeBlock) (n : Numbers) (c : Names) (result : Option ValueKind)
    → IsWithin b most_words → BodyMeans code k b n c → b.result ≡ result
    → (l : Locals) (scope : Scope) → NamesMean code b n c l scope
    → (ns : List Note) (xs : Statements) (texts : ℕ) (s : Spot)
    → StatementsTyped c result l xs → statements_small xs ≡ true → StatementsPrint xs
    → Tables code b c l texts xs s
    → HasAt b.instrs s.at (statements_code n scope xs s)
    → HasItems ns s.at (statements_notes c n l xs)
    → Fits entry (noted ns (s.at + statements_size n xs))
    → AllKept code k b (noted ns) most_words s.at (statements_code n scope xs s)
