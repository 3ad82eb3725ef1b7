-- The notes of blocks.
use Rattle.std.specs.Prelude.{if◌then◌else◌, Option, Some, None, List, [], ◌∷◌, ◌++◌}
use Rattle.rev_num.specs.declared.value.ValueKind.{ValueKind}
use Rattle.rev_syntax.specs.Trees.{Parameter, Expression, Statements}
use Rattle.typed_programs.specs.Kinds.{Names, Locals}
use Rattle.typed_programs.specs.Scopes.{with_params}
use Rattle.code_rules.specs.Pass.{Note, entry}
use Rattle.code_generation.specs.Numbers.{Numbers}
use Rattle.code_generation.specs.Generated.{ends_in_return}
use Rattle.generated_certificates.specs.Items.{push}
use Rattle.generated_certificates.specs.Expressions.{word_kind, expression_notes}
use Rattle.generated_certificates.specs.Statements.{statements_notes}

-- of the body of a fun or merge and its Return
abbrev pub value_notes : Names → Locals → Expression → List Note
value_notes c l body = expression_notes c l body entry ++ push (word_kind c l body) entry ∷ []

-- of what stands behind the statements of a body
abbrev pub end_notes : Option ValueKind → Statements → List Note
end_notes None body = entry ∷ []
end_notes (Some kind) body = if ends_in_return body then [] else entry ∷ push kind entry ∷ []

abbrev pub body_notes : Names → Numbers → List Parameter → Option ValueKind → Statements → List Note
body_notes c n ps result body =
    statements_notes c n (with_params [] ps) body ++ end_notes result body
