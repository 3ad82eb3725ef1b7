-- Answers of is_sign: a word or a sign is another one where both are spelled alike.
use Rattle.std.proofs.Common.{◌∙◌, sym, ap}
use Rattle.rev_expressions.specs.Classes.{class_of, fixed, is_same}
use Rattle.rev_expressions.proofs.Signs.{same_words}
use Rattle.rev_expressions.proofs.cursor.is_sign.Goals as goal

pub returns-in-Fixed : goal.returns-in-Fixed
returns-in-Fixed c =
    c.eq.ensures ∙ same_words c.args.sign c.in-Fixed.found
    ∙ ap (λ k. is_same (fixed c.args.sign) (class_of k)) (sym c.in-Fixed.is)
