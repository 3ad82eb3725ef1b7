-- Answers of sum: first the sum and then the difference faults where the definition's does, or gives its number.
use Rattle.std.proofs.Common.{rules, ◌≡◌, ◌∙◌, ap, sym, Ok, Err, w64, SFits}
use Rattle.std.proofs.lemmas.Int.{to_z-of_z}
use Rattle.rev_num.specs.Arith.{sum_of, difference_of}
use Rattle.merge_kernels.proofs.ThreeValues.{sum_is, then_minus}
use Rattle.merge_kernels.proofs.three.sum.Goals as goal

pub returns-in-Ok : goal.returns-in-Ok
returns-in-Ok c =
    let mm = to_z-of_z w64 c.args.main c.ranges.main in let jj = to_z-of_z w64 c.args.join c.ranges.join in
    let rr = to_z-of_z w64 c.args.root c.ranges.root in
    let fits : SFits w64 c.in-Ok.both = search rules in
    let bb = to_z-of_z w64 c.in-Ok.both fits in
    let e : sum_of c.args.main c.args.join ≡ Ok c.in-Ok.both =
    sym (λ i. sum_of (mm i) (jj i)) ∙ sym c.add.ensures ∙ c.in-Ok.is in
    c.sub.ensures ∙ (λ i. difference_of (bb i) (rr i)) ∙ ap (λ o. then_minus o c.args.root) (sym e)
    ∙ sym (sum_is c.args.main c.args.join c.args.root)

pub returns-in-Err : goal.returns-in-Err
returns-in-Err c =
    let mm = to_z-of_z w64 c.args.main c.ranges.main in let jj = to_z-of_z w64 c.args.join c.ranges.join in
    let e : sum_of c.args.main c.args.join ≡ Err c.in-Err.fault =
    sym (λ i. sum_of (mm i) (jj i)) ∙ sym c.add.ensures ∙ c.in-Err.is in
    ap (λ o. then_minus o c.args.root) (sym e) ∙ sym (sum_is c.args.main c.args.join c.args.root)
