-- Behind its parameters a body means what it means in the program.
use Rattle.std.proofs.Common.{ℕ, suc, List, [], ◌∷◌, Some}
use Rattle.rev_syntax.specs.Trees.{Parameter}
use Rattle.name_tables.specs.Table.{added}
use Rattle.typed_programs.specs.Kinds.{Names, Locals}
use Rattle.typed_programs.specs.Judgement.{ParamsNew}
use Rattle.typed_programs.specs.Scopes as scopes
use Rattle.rev_code.specs.declared.code.Code.{Code}
use Rattle.rev_code.specs.declared.code.CodeBlock.{CodeBlock}
use Rattle.code_generation.specs.Numbers.{Numbers, Scope, with_params}
use Rattle.code_generation.specs.Generated.{kinds_of}
use Rattle.code_generation.specs.Stands.{HasItems}
use Rattle.generated_certificates.specs.Means.{NamesMean}
use Rattle.generated_certificates.proofs.Scopes.{name_bound}

pub params_mean : (code : Code) (b : CodeBlock) (n : Numbers) (c : Names) (ps : List Parameter) (m : ℕ) (l : Locals)
    (scope : Scope)
    → ParamsNew c l ps → HasItems b.locals m (kinds_of ps) → NamesMean code b n c l scope
    → NamesMean code b n c (scopes.with_params l ps) (with_params scope m ps)
params_mean code b n c [] m l scope new here means = means
params_mean code b n c (p ∷ ps) m l scope new here means =
    params_mean code b n c ps (suc m) (added l p.name.text (Some p.kind)) (added scope p.name.text m) new.1 here.1
    (name_bound code b n c l scope p.name.text p.kind m means new.0.0 here.0)
