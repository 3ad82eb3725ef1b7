-- Answers of path_of: each forker comes before its child, and the place of the child ends the path of the forker.
use Rattle.std.proofs.Common.{◌++◌, ◌∙◌, reverse, ap, sym}
use Rattle.code_runs.specs.Births.{path_in}
use Rattle.code_runs.proofs.Naming.{forker_before, path_more, path_none, place_more}
use Rattle.code_runs.proofs.paths.path_of.Goals as goal

pub loop-birth-smaller : goal.loop-birth-smaller
loop-birth-smaller c =
    forker_before c.args.births.now c.requires.0 c.requires.1 c.loop-birth.at c.in-Some.birth
    (sym c.forked_as.ensures ∙ c.in-Some.is)

pub loop-birth-preserved : goal.loop-birth-preserved
loop-birth-preserved c = λ paths names.
    let q = path_in paths c.in-Some.birth.forker in
    let more = c.loop-birth.places.items in
    place_more q more c.push.new.self.items c.in-Some.birth.place (c.in_ok-push.ensures).items
    ∙ ap (λ p. p ++ reverse more)
    (sym (path_more c.args.births.now paths names c.loop-birth.at c.in-Some.birth
    (sym c.forked_as.ensures ∙ c.in-Some.is)))
    ∙ c.loop-birth.invariant paths names

pub returns : goal.returns
returns c = λ paths names.
    c.from_numbers.ensures ∙ c.reverse.ensures.items
    ∙ ap (λ p. p ++ reverse c.loop-birth.places.items)
    (sym (path_none c.args.births.now paths names c.loop-birth.at (sym c.forked_as.ensures ∙ c.in_default.is)))
    ∙ c.loop-birth.invariant paths names
