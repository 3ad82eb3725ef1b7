-- Answers of statement_law: by recursion each statement's notes lead from its stack and locals to the next one's.
use Rattle.generated_certificates.proofs.Bodies.{statements_kept}
use Rattle.generated_certificates.proofs.statements.statement_law.Goals as goal

pub returns : goal.returns
returns c = λ code k b n names result w bm res l scope m ns xs texts s ty sm pr tables here there next.
    statements_kept code k b n names result w bm res ns l scope xs texts s m ty sm pr tables.0 tables.1 here there next
