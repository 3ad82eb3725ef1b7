-- Answers of same: whether the bodies are the same tells whether the definitions are equal, in both directions.
use Rattle.merge_kernels.specs.Terms.{definition}
use Rattle.merge_kernels.proofs.Equality.{told}
use Rattle.merge_kernels.proofs.equal.same.Goals as goal

pub returns-clause-equal : goal.returns-clause-equal
returns-clause-equal c =
    (told (definition c.args.a.now) (definition c.args.b.now) c.same_term.result c.same_term.ensures).0

pub returns-clause-all : goal.returns-clause-all
returns-clause-all c =
    (told (definition c.args.a.now) (definition c.args.b.now) c.same_term.result c.same_term.ensures).1
