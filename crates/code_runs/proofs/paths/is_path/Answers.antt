-- `is_path`: from the last number of a path to its first.
use Rattle.std.proofs.Common.{◌∙◌, take, sym, ap, arith}
use Rattle.std.specs.Prelude.{◌&&◌, ◌-◌}
use Rattle.rev_num.specs.Path.{same}
use Rattle.code_runs.specs.Births.{path_in}
use Rattle.code_runs.proofs.Naming.{forker_before, path_more, path_none, same_none}
use Rattle.code_runs.proofs.paths.is_path.Goals as goal

pub returns-then-not-ends_with : goal.returns-then-not-ends_with
returns-then-not-ends_with c = λ paths names.
    let q = path_in paths c.in-Some.birth.forker in
    let more =
    path_more c.args.births.now paths names c.loop-birth.at c.in-Some.birth (sym c.forked_as.ensures ∙ c.in-Some.is) in
    sym (ap (λ b. b && same q (take (c.loop-birth.count - 1) c.args.places.now)) c.if-not-ends_with.true)
    ∙ sym (c.ends_with.ensures.same q)
    ∙ sym (ap (λ p. same p (take c.loop-birth.count c.args.places.now)) more)
    ∙ c.loop-birth.invariant.same paths names

pub loop-birth-smaller : goal.loop-birth-smaller
loop-birth-smaller c =
    forker_before c.args.births.now c.requires.0 c.requires.1 c.loop-birth.at c.in-Some.birth
    (sym c.forked_as.ensures ∙ c.in-Some.is)

pub loop-birth-preserved : goal.loop-birth-preserved
loop-birth-preserved c = record {
  short = let h = c.loop-birth.invariant.short in omega (arith, h);
  same = λ paths names.
      let q = path_in paths c.in-Some.birth.forker in
      let more =
      path_more c.args.births.now paths names c.loop-birth.at c.in-Some.birth
      (sym c.forked_as.ensures ∙ c.in-Some.is) in
      sym (ap (λ b. b && same q (take (c.loop-birth.count - 1) c.args.places.now)) c.if-not-ends_with.false)
      ∙ sym (c.ends_with.ensures.same q)
      ∙ sym (ap (λ p. same p (take c.loop-birth.count c.args.places.now)) more)
      ∙ c.loop-birth.invariant.same paths names;
}

pub returns : goal.returns
returns c = λ paths names.
    sym (same_none c.args.places.now c.loop-birth.count c.loop-birth.invariant.short)
    ∙ sym (ap (λ p. same p (take c.loop-birth.count c.args.places.now))
    (path_none c.args.births.now paths names c.loop-birth.at (sym c.forked_as.ensures ∙ c.in_default.is)))
    ∙ c.loop-birth.invariant.same paths names
