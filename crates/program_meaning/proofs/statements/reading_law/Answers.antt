-- Answers of reading_law: a related state is ready to be read, with its scope's locals, and reading is a lemma.
use Rattle.std.specs.Prelude.{None}
use Rattle.expression_meaning.proofs.Locals.{locals_within}
use Rattle.program_meaning.proofs.Reading.{Ready, reads}
use Rattle.program_meaning.proofs.Forms.{ready}
use Rattle.program_meaning.proofs.Starts.{linked}
use Rattle.program_meaning.specs.StatementLaws.{tables}
use Rattle.program_meaning.proofs.statements.reading_law.Goals as goal

pub returns : goal.returns
returns c = λ s well p l f fs c stands phase kinded scope ls next inside are.
    (let rd = ready s (tables s) (linked s well) p l f fs c stands phase kinded in
    let rd1 : Ready s (tables s) stands.block scope l f fs c = record {
      shared = rd.shared;
      frames = rd.frames;
      is = rd.is;
      locals = locals_within stands.block.locals scope stands.top.scope None f.locals c.locals inside rd.locals;
      kinded = rd.kinded;
      apart = rd.apart;
      phase = rd.phase;
      below = rd.below;
    } in
    reads s (tables s) (linked s well) stands.block scope ls next l f fs c rd1 are)
