-- Answers of make_typed: a program without a fault is well typed and laid out, so the tables list what it declares.
use Rattle.std.proofs.Common.{◌∙◌}
use Rattle.rev_syntax.specs.View.{program as whole}
use Rattle.typed_programs.specs.Layout.{IsLaidOut}
use Rattle.typed_programs.proofs.Accepting.{kept_typed}
use Rattle.typed_programs.proofs.Layouts.{laid_out}
use Rattle.rev_types.proofs.typed.make_typed.Goals as goal

pub invariant_of-result : goal.invariant_of-result
invariant_of-result c =
    let well =
    kept_typed (whole c.args.expanded.program) c.args.expanded.keeps_rules c.requires.keeps c.args.expanded.small in
    let laid : IsLaidOut (whole c.args.expanded.program) = laid_out (whole c.args.expanded.program) well.within in
    record {
      well_typed = c.requires.keeps;
      shared_listed = c.from_vec.ensures ∙ c.requires.shared ∙ laid.variables;
      procs_listed = c.from_vec-2.ensures ∙ c.requires.procs ∙ laid.procedures;
      located = c.requires.locations ∙ laid.locations;
    }
