-- What stands when the code of a statement with no block is written behind its Charge.
use Rattle.std.specs.Prelude.{ℕ, ◌+◌, ◌<◌, ◌^◌, List, [], ◌++◌, length}
use Rattle.rev_syntax.specs.Trees.{PrintItem, text, shown, StatementForm}
use Rattle.rev_code.specs.declared.code.Instr.{Instr}
use Rattle.code_generation.specs.Numbers.{Numbers, Scope}
use Rattle.code_generation.specs.Expressions.{expression_size, expression_code}
use Rattle.code_generation.specs.Sizes.{statement_form_size}
use Rattle.code_generation.specs.Statements.{statement_form_code}

-- behind this code, where the next `let` and the next layout have these numbers
abbrev pub with_form : Numbers → Scope → StatementForm → (local layout : ℕ) → List Instr → List Instr
with_form n scope form local layout code =
    code ++ statement_form_code n scope form 0 (record { at = length code; local = local; layout = layout })

-- all places behind this code and a statement's are numbers of 32 bits
abbrev pub HasRoom : Numbers → StatementForm → List Instr → Type 0
HasRoom n form code = length code + statement_form_size n form < 2 ^ 32

-- of one item of a print
abbrev pub item_size : PrintItem → ℕ
item_size (text p bytes) = 0
item_size (shown e) = expression_size e

abbrev pub item_code : Numbers → Scope → PrintItem → (at : ℕ) → List Instr
item_code n scope (text p bytes) at = []
item_code n scope (shown e) at = expression_code n scope e at
