-- Answers of text_laws: two texts of a trace are both the one that its lines make, and what a part tells is a lemma.
use Rattle.std.proofs.Common.{◌∙◌, sym}
use Rattle.trace_diagram.proofs.OneText.{parts_are_told}
use Rattle.trace_diagram.proofs.laws.text_laws.Goals as goal

pub returns-clause-one : goal.returns-clause-one
returns-clause-one c = λ t a b one two. one.text ∙ sym two.text

pub returns-clause-parts : goal.returns-clause-parts
returns-clause-parts c = parts_are_told
