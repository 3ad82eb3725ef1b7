-- Answers of Stated::new: the places are those of a checked program's variables, which are few enough to be numbered.
use Rattle.std.proofs.Common.{◌<◌, ◌^◌, [], length, map, ap, subst, sym, ◌∙◌}
use Rattle.rev_syntax.specs.View.{program as whole}
use Rattle.rev_report.specs.Outcome.{place_of}
use Rattle.typed_programs.specs.Layout.{variables}
use Rattle.revision_calculus.specs.Outcome.{show_all}
use Rattle.stated_parts.proofs.Accepted.{few_places}
use Rattle.stated_parts.proofs.stated.Stated.new.Goals as goal

pub numbers_of-requires : goal.numbers_of-requires
numbers_of-requires c =
    let placed =
    c.deref.ensures.value ∙ c.in_ok-places.ensures
    ∙ ap (λ y. map (λ x. place_of x.name x.cell) (show_all (variables (whole y.expanded.program)) []))
    c.typed.ensures in
    subst (λ l. length l < 2 ^ 32) (sym placed) (few_places c.in_ok-setting.setting)
