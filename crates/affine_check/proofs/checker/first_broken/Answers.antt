-- Answers of first_broken: under the tables of its declarations the names of a program mean what they do outside.
use Rattle.std.proofs.Common.{◌∙◌, ap, map, refl, false}
use Rattle.std.proofs.lemmas.Result.{IfOk-weaker}
use Rattle.rev_syntax.specs.View.{declaration, program as whole}
use Rattle.rev_kinds.specs.declared.names.Checker.{Checker}
use Rattle.affine_check.specs.Walk.{broken_under}
use Rattle.affine_check.proofs.Decided.{program_names}
use Rattle.affine_check.proofs.checker.first_broken.Goals as goal

pub returns : goal.returns
returns c =
    let p = whole c.args.p.now in
    let checker : Checker = record {
      shared = record { ref_ptr = (0, 0); now = c.in_ok-tables.tables.shared };
      procs = record { ref_ptr = (0, 0); now = c.in_ok-tables.tables.procs };
      funs = record { ref_ptr = (0, 0); now = c.in_ok-tables.tables.funs };
      inside = false;
    } in
    let names = program_names p checker (ap (λ ds. map declaration ds) c.deref.ensures.value) refl
    c.in_ok-tables.ensures.shared c.in_ok-tables.ensures.procs c.in_ok-tables.ensures.funs in
    IfOk-weaker c.broken_under.result _ _ (λ f h. h ∙ ap (λ n. broken_under n p) names) c.broken_under.ensures
