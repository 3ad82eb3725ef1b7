-- The locals of a fun or a merge, as the values of names.
use Rattle.std.specs.Prelude.{map, Option}
use Rattle.rev_num.specs.declared.value.Value.{Value}
use Rattle.rev_syntax.specs.View.{parameter}
use Rattle.name_tables.specs.Names.{Name}
use Rattle.typed_programs.specs.Definitions.{names_of}
use Rattle.typed_programs.specs.Value.{bind, bind_all, nothing}
use Rattle.rev_evaluator.specs.Seen.{seen}
use Rattle.rev_evaluator.specs.declared.locals.Locals.{Locals, fold-Locals}
use Rattle.rev_evaluator.specs.declared.locals.Locals.TheOpen.{Locals-F}

abbrev pub locals_step : Locals-F (Name → Option Value) → Name → Option Value
locals_step Locals-F.Empty = nothing
locals_step (Locals-F.Bound name value rest) = bind rest.now name.now (seen value)
locals_step (Locals-F.Passed params values rest) =
    bind_all rest.now (names_of (map parameter params.now)) (map seen values.now)

abbrev pub local : Locals → Name → Option Value
local = fold-Locals (Name → Option Value) locals_step
