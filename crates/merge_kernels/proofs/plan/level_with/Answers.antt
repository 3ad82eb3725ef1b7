-- Answers of level_with: a row that is alike goes before those behind it where the first ones have one choice.
use Rattle.std.proofs.Common.{rules, ◌≡◌, ◌∙◌, ◌+◌, ◌*◌, ap, sym, true, get_or, None, arith}
use Rattle.std.proofs.lemmas.Option.{slice_get-get_or}
use Rattle.merge_kernels.specs.Plans.{the_choice, choice_at}
use Rattle.merge_kernels.proofs.LevelRows.{more_alike}
use Rattle.merge_kernels.proofs.plan.level_with.Goals as goal

pub returns-then-eq-clause-level : goal.returns-then-eq-clause-level
returns-then-eq-clause-level c = λ some.
    let choices = c.args.choices.now in
    let start = 64 * c.args.row in
    let level : c.is_level.result ≡ true = search rules in
    let behind = c.requires.behind (omega (arith, c.if-behind-gt0.true)) in
    let one : get_or choices start None ≡ get_or choices (start + 64) None = search rules in
    let same : choice_at choices start ≡ choice_at choices (start + 64) =
    ap the_choice (slice_get-get_or choices start None (omega (arith, behind.0)))
    ∙ (one ∙ sym (ap the_choice
    (slice_get-get_or choices (start + 64) None (omega (arith, behind.0, c.if-behind-gt0.true))))) in
    more_alike choices start 64 c.args.behind (c.is_level.ensures level)
    behind same
