-- What a statement works out has no cause of a merge.
use Rattle.std.proofs.Common.{ℕ, ℤ, pos, negsuc, List, [], ◌∷◌, Option, Some, None, Ok}
use Rattle.std.specs.Prelude.{nat_lt, if◌then◌else◌}
use Rattle.rev_num.specs.declared.outcome.Cause.{Cause}
use Rattle.rev_num.specs.declared.outcome.Cause.TheVariants as cause
use Rattle.rev_syntax.specs.Trees.{Expression, Expressions, PrintItem, text, shown, Statements, Arms, no_arms, arm}
use Rattle.name_tables.specs.Names.{Name}
use Rattle.typed_programs.specs.Value.{and_then, truth_of, number_of, funs_of}
use Rattle.typed_programs.specs.Definitions.{funs_in}
use Rattle.typed_programs.specs.Layout.{SharedVariable, variables}
use Rattle.rev_report.specs.Outcome.{value_text}
use Rattle.revision_calculus.specs.Program.{variable_named, Setting}
use Rattle.revision_calculus.specs.State.{Local}
use Rattle.revision_calculus.specs.Evaluation.{read_shared, env, eval, evals, location_of, cell_location}
use Rattle.revision_calculus.specs.Step.{select, item_text, item_texts}
use Rattle.revision_calculus.specs.KeptBySteps.{IsFaultBelow}
use Rattle.revision_calculus.proofs.Causes.{OfErr, any_inputs, any_all, any_bodies, then_err, cond_err, cell_err, value_err, values_err, funs_err}

abbrev pub IsPlain : Cause → Type 0
IsPlain (cause.Merge n f) = ⊥
IsPlain cause.Overflow = Unit {0}
IsPlain cause.ZeroDivisor = Unit {0}
IsPlain cause.Index = Unit {0}
IsPlain cause.Assert = Unit {0}
IsPlain cause.JoinNone = Unit {0}
IsPlain cause.CallDepth = Unit {0}
IsPlain cause.Spent = Unit {0}

pub plain_below : (count : ℕ) (c : Cause) → IsPlain c → IsFaultBelow count c
plain_below count (cause.Merge n f) plain = absurd plain
plain_below count cause.Overflow plain = tt
plain_below count cause.ZeroDivisor plain = tt
plain_below count cause.Index plain = tt
plain_below count cause.Assert plain = tt
plain_below count cause.JoinNone plain = tt
plain_below count cause.CallDepth plain = tt
plain_below count cause.Spent plain = tt

module _ (s : Setting) (l : Local) where
  pub eval_plain : (e : Expression) → OfErr IsPlain (eval s l e)
  eval_plain e =
      value_err IsPlain tt tt (Unit {0}) (λ i. tt) (funs_of (funs_in s.program)) (env s l)
      (funs_err IsPlain tt tt (Unit {0}) (λ i. tt) (funs_in s.program) (any_bodies (Unit {0}) tt (funs_in s.program)))
      (λ name z. cell_err IsPlain tt (read_shared (variable_named (variables s.program) name) l.locations) z) e
      (any_inputs (Unit {0}) tt e)

  pub evals_plain : (es : Expressions) → OfErr IsPlain (evals s l es)
  evals_plain es =
      values_err IsPlain tt tt (Unit {0}) (λ i. tt) (funs_of (funs_in s.program)) (env s l)
      (funs_err IsPlain tt tt (Unit {0}) (λ i. tt) (funs_in s.program) (any_bodies (Unit {0}) tt (funs_in s.program)))
      (λ name z. cell_err IsPlain tt (read_shared (variable_named (variables s.program) name) l.locations) z) es
      (any_all (Unit {0}) tt es)

  location_plain : (o : Option SharedVariable) (i : ℤ) → OfErr IsPlain (location_of o i)
  location_plain None i = tt
  location_plain (Some x) (negsuc i) = tt
  location_plain (Some x) (pos i) = cond_err IsPlain (nat_lt i x.info.cells) _ _ tt tt

  pub cell_plain : (name : Name) (index : Expression)
      → OfErr IsPlain (and_then (eval s l index) (λ i. cell_location s name (number_of i)))
  cell_plain name index =
      then_err IsPlain (eval s l index) _ (eval_plain index)
      (λ i. location_plain (variable_named (variables s.program) name) (number_of i))

  pub taken_plain : (arms : Arms) (last : Statements) → OfErr IsPlain (select s l arms last)
  taken_plain no_arms last = tt
  taken_plain (arm test block arms) last =
      let later = taken_plain arms last in
      then_err IsPlain (eval s l test) (λ x. if truth_of x then Ok block else select s l arms last) (eval_plain test)
      (λ x. cond_err IsPlain (truth_of x) (Ok block) (select s l arms last) tt later)

  item_plain : (i : PrintItem) → OfErr IsPlain (item_text s l i)
  item_plain (text at bytes) = tt
  item_plain (shown e) = then_err IsPlain (eval s l e) (λ x. Ok (value_text x)) (eval_plain e) (λ x. tt)

  pub items_plain : (is : List PrintItem) → OfErr IsPlain (item_texts s l is)
  items_plain [] = tt
  items_plain (i ∷ is) =
      let later = items_plain is in
      then_err IsPlain (item_text s l i) (λ x. and_then (item_texts s l is) (λ xs. Ok (x ∷ xs))) (item_plain i)
      (λ x. then_err IsPlain (item_texts s l is) (λ xs. Ok (x ∷ xs)) later (λ xs. tt))
