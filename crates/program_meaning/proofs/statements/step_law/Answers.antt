-- Answers of step_law: one lemma, by the tables and links of the program's code, runs each form of statement.
use Rattle.program_meaning.proofs.Forms.{step_runs}
use Rattle.program_meaning.proofs.Starts.{linked}
use Rattle.program_meaning.specs.StatementLaws.{tables}
use Rattle.program_meaning.proofs.statements.step_law.Goals as goal

pub returns : goal.returns
returns c = λ s well p l f fs c stands phase kinded.
    step_runs s (tables s) (linked s well) p l f fs c stands phase kinded
