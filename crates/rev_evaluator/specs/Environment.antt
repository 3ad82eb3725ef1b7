-- What an expression reads: an environment, or inside a fun or a merge its parameters alone.
use Rattle.typed_programs.specs.Value.{Env, closed}
use Rattle.rev_evaluator.specs.Locals.{local}
use Rattle.rev_evaluator.specs.declared.environment.Reads.{Reads}
use Rattle.rev_evaluator.specs.declared.environment.Reads.TheVariants.{Outside, Inside}

-- where the state outside of funs and merges has this environment
abbrev pub reads : {E : Type 0} → (E → Env) → Reads E → Env
reads env (Outside e) = env e.now
reads env (Inside locals) = closed (local locals.now)
