-- The code of a well-typed program has no fault.
use Rattle.std.proofs.Common.{◌≡◌, None}
use Rattle.rev_syntax.specs.View.{program as whole}
use Rattle.typed_programs.specs.declared.typed.Typed.{Typed}
use Rattle.code_rules.specs.Verdict.{first_fault}
use Rattle.code_generation.specs.Generated.{code_of}
use Rattle.generated_blocks.proofs.Accepted.{code_accepted}

pub accepted : (t : Typed) → first_fault (code_of (whole t.expanded.program)) ≡ None
accepted t = code_accepted (whole t.expanded.program)
    (record { small = t.expanded.small; funs = t.expanded.keeps_rules; rules = t.well_typed })
