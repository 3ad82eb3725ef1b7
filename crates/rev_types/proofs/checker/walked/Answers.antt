-- Answers of walked: declarations and main are walked under the tables of names, so the first fault is the program's.
use Rattle.std.proofs.Common.{ap, map, refl, true, false}
use Rattle.rev_syntax.specs.View.{declaration, program as whole}
use Rattle.rev_kinds.specs.declared.names.Checker.{Checker}
use Rattle.rev_types.proofs.Named.{program_found}
use Rattle.rev_types.proofs.checker.walked.Goals as goal

pub returns-clause-fault : goal.returns-clause-fault
returns-clause-fault c =
    let outer : Checker = record {
      shared = record { ref_ptr = (0, 0); now = c.in_ok-names.names.shared };
      procs = record { ref_ptr = (0, 0); now = c.in_ok-names.names.procs };
      funs = record { ref_ptr = (0, 0); now = c.in_ok-names.names.funs };
      inside = false;
    } in
    let inner : Checker = record outer { inside = true } in
    program_found (whole c.args.p.now) outer inner
    (ap (λ ds. map declaration ds) c.deref-decls.ensures.value) c.new-body.ensures.locals c.new-body.ensures.left
    refl c.in_ok-names.ensures.shared c.in_ok-names.ensures.procs c.in_ok-names.ensures.funs
    refl c.in_ok-names.ensures.procs c.in_ok-names.ensures.funs
    c.in_ok-declared.ensures.fault c.in_ok-main.ensures.fault c.first.ensures
