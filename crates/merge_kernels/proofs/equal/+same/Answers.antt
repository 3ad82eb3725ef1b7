-- Answers of same: lists of links that are not equally long are not equal.
use Rattle.std.proofs.Common.{◌∙◌, sym, map}
use Rattle.std.proofs.lemmas.List.{length-map}
use Rattle.merge_kernels.specs.Terms.{term_link}
use Rattle.merge_kernels.proofs.Listed.{uneven}
use Rattle.merge_kernels.proofs.equal.+same.Goals as goal

pub same_links-returns-then-a-b : goal.same_links-returns-then-a-b
same_links-returns-then-a-b t c =
    let a = c.args.a.now in let b = c.args.b.now in
    sym (uneven (map term_link a) (map term_link b)
    (λ e. c.if-a-b.true (sym (length-map a term_link) ∙ e ∙ length-map b term_link)))
