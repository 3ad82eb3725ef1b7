-- Answers of left_side_law: one lemma, by the code's tables and links, resumes the left side with the word.
use Rattle.program_meaning.proofs.Resume.{resume}
use Rattle.program_meaning.proofs.Starts.{linked}
use Rattle.program_meaning.specs.StatementLaws.{tables}
use Rattle.program_meaning.proofs.statements.left_side_law.Goals as goal

pub returns : goal.returns
returns c = λ s well l left given x f fs c ws behind carries.
    (let d = resume s (tables s) (linked s well) l left given x f fs c ws behind carries in
    record { c = d.c; on = d.on; few = d.few; stands = d.stand })
