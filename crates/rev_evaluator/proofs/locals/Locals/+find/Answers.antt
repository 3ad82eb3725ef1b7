-- Answers of Locals::find: a name among what was passed is found there, and any other is looked for behind it.
use Rattle.std.proofs.Common.{◌∙◌, ap, sym, map}
use Rattle.rev_syntax.specs.View.{parameter}
use Rattle.typed_programs.specs.Definitions.{names_of}
use Rattle.rev_evaluator.specs.Locals.{local}
use Rattle.rev_evaluator.specs.Seen.{seen}
use Rattle.rev_evaluator.proofs.Bindings.{found_behind, found_passed}
use Rattle.rev_evaluator.proofs.Bindings.{local-Passed}
use Rattle.rev_evaluator.proofs.locals.Locals.+find.Goals as goal

pub returns-in-Some : goal.returns-in-Some
returns-in-Some t c =
    found_passed (local c.in-Passed.rest.now) (names_of (map parameter c.in-Passed.params.now))
    (map seen c.in-Passed.values.now) c.args.name.now _ c.in-Some.ensures
    ∙ ap (λ l. l c.args.name.now) (sym (local-Passed c.in-Passed.params c.in-Passed.values c.in-Passed.rest))
    ∙ ap (λ l. local l c.args.name.now) (sym c.in-Passed.is)

pub returns-in-None : goal.returns-in-None
returns-in-None t c =
    found_behind (local c.in-Passed.rest.now) (names_of (map parameter c.in-Passed.params.now))
    (map seen c.in-Passed.values.now) c.args.name.now _ c.in-None.ensures c.find-in-None.ensures
    ∙ ap (λ l. l c.args.name.now) (sym (local-Passed c.in-Passed.params c.in-Passed.values c.in-Passed.rest))
    ∙ ap (λ l. local l c.args.name.now) (sym c.in-Passed.is)
