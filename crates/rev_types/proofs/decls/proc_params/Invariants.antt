-- Loops of proc_params: the fault, the locals and the room so far, taken through those left, are those of all.
use Rattle.std.proofs.Common.{◌≡◌, drop, map, None}
use Rattle.rev_syntax.specs.View.{parameter}
use Rattle.rev_report.specs.declared.limit.Limit.TheVariants as limits
use Rattle.rev_report.specs.Limits.{first_past}
use Rattle.rev_kinds.specs.Walk.{names_of}
use Rattle.typed_programs.specs.Program as program
use Rattle.typed_programs.specs.Scopes as scopes
use Rattle.rev_types.specs.Walk as rule
use Rattle.rev_types.proofs.decls.proc_params.Given as goal

abbrev pub invariant-loop-param : goal.invariant-loop-param
invariant-loop-param l = record {
  found : rule.proc_params (names_of l.outer) l.body.locals l.left l.body.left l.found
      (map parameter (drop l.param-index l.params))
      ≡ rule.proc_params (names_of l.outer) l.initial.body.locals (first_past limits.Parameters) l.initial.body.left
      None (map parameter l.params);
  locals : scopes.with_params l.body.locals (map parameter (drop l.param-index l.params))
      ≡ scopes.with_params l.initial.body.locals (map parameter l.params);
  left : program.left_params l.body.left (map parameter (drop l.param-index l.params))
      ≡ program.left_params l.initial.body.left (map parameter l.params);
}
