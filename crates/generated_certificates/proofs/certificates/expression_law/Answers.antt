-- Answers of expression_law: by recursion each part's notes begin where those before it leave the stack.
use Rattle.generated_certificates.proofs.Expressions.{expressions_certified}
use Rattle.generated_certificates.proofs.certificates.expression_law.Goals as goal

pub returns : goal.returns
returns c = λ code at_block bl deepest n names l scope w m ns e t at note kind formed applies here there low fits.
    expressions_certified code at_block bl deepest n names l scope w m ns e t at note kind formed applies here there low
    fits
