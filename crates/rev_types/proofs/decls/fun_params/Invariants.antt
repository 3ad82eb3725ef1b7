-- Loops of fun_params: the fault and the locals so far, taken through the parameters left, are those of all.
use Rattle.std.proofs.Common.{◌≡◌, drop, map, None}
use Rattle.rev_syntax.specs.View.{parameter}
use Rattle.rev_report.specs.declared.limit.Limit.TheVariants as limits
use Rattle.rev_report.specs.Limits.{first_past}
use Rattle.typed_programs.specs.Scopes as scopes
use Rattle.rev_types.specs.Walk as rule
use Rattle.rev_types.proofs.decls.fun_params.Given as goal

abbrev pub invariant-loop-param : goal.invariant-loop-param
invariant-loop-param l = record {
  found : rule.fun_params l.locals l.left l.found (map parameter (drop l.param-index l.params))
      ≡ rule.fun_params l.initial.locals (first_past limits.Parameters) None (map parameter l.params);
  locals : scopes.with_params l.locals (map parameter (drop l.param-index l.params))
      ≡ scopes.with_params l.initial.locals (map parameter l.params);
}
