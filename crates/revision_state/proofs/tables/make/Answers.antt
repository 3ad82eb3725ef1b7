-- Answers of make: the three tables are as they are asked to be, and the merge of a location is one that is declared.
use Rattle.std.proofs.Common.{ap, sym, ◌∙◌, length, slice_get, arith}
use Rattle.std.proofs.lemmas.List.{length-map}
use Rattle.rev_syntax.specs.View.{program as whole}
use Rattle.revision_state.proofs.Merges.{merge_known}
use Rattle.revision_state.proofs.tables.make.Goals as goal

pub invariant_of-result : goal.invariant_of-result
invariant_of-result c =
    let p = whole c.args.typed.now.expanded.program in
    record {
      variables_found = c.requires.variables;
      procedures_found = c.requires.procedures;
      merges_listed = c.requires.merges;
      merges_known = λ k n h.
          let lt = merge_known p k n (sym (ap (λ t. slice_get t k) c.requires.merges) ∙ h) in
          let e = simp length-map at (ap length c.args.typed.now.expanded.merges_listed) in
          omega arith;
    }
