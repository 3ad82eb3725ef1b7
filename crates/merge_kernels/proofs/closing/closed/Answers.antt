-- Answers of closed: the merge's number leads to its declaration, whose term, or none, is that of the merge.
use Rattle.std.proofs.Common.{◌≡◌, ◌∙◌, ap, subst, IfOk, option_map, option_and_then}
use Rattle.rev_syntax.specs.View.{declaration, program as whole}
use Rattle.merge_kernels.specs.Terms.{definition}
use Rattle.merge_kernels.specs.Merges.{term_in, term_of}
use Rattle.merge_kernels.proofs.MergeTerms.{declared_term, listed}
use Rattle.merge_kernels.proofs.closing.closed.Goals as goal

pub returns-in-Some : goal.returns-in-Some
returns-in-Some c =
    let p = whole c.args.expanded.now.program in
    let at = listed c.args.expanded.now c.as_slice-merges.result.now c.args.merge c.as_slice-merges.ensures
    c.requires in
    let is : term_in (declaration c.in-Some.decl.now) ≡ term_of p c.args.merge =
    ap (option_and_then term_in) c.in-Some.ensures ∙ declared_term p c.args.merge _ at in
    subst (λ t. IfOk c.definition_in.result (λ o. option_map definition o ≡ t)) is c.definition_in.ensures

pub returns-in-None : goal.returns-in-None
returns-in-None c =
    let p = whole c.args.expanded.now.program in
    let at = listed c.args.expanded.now c.as_slice-merges.result.now c.args.merge c.as_slice-merges.ensures
    c.requires in
    ap (option_and_then term_in) c.in-None.ensures ∙ declared_term p c.args.merge _ at
