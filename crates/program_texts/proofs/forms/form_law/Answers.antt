-- Answers of form_law: its clause, that a trace has the form of a trace text, is a lemma.
use Rattle.program_texts.proofs.Traces.{traces_have_form}
use Rattle.program_texts.proofs.forms.form_law.Goals as goal

pub returns : goal.returns
returns c = traces_have_form
