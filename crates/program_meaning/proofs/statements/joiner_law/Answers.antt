-- Answers of joiner_law: one lemma, by the tables and links of the program's code, leads to the state behind the join.
use Rattle.program_meaning.proofs.BehindJoins.{goes_on_behind}
use Rattle.program_meaning.proofs.Starts.{linked}
use Rattle.program_meaning.specs.StatementLaws.{tables}
use Rattle.program_meaning.proofs.statements.joiner_law.Goals as goal

pub returns : goal.returns
returns c = λ s well l left q c at done joined past frames is shared.
    (let d = goes_on_behind s (tables s) (linked s well) l left q c at done joined past frames is shared in
    record { c = d.c; on = d.on; few = d.few; stands = d.stand })
