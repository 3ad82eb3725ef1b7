-- `locations_read`: one location after another.
use Rattle.std.proofs.Common.{◌∙◌, ◌+◌, ap, arith, sym, subst}
use Rattle.std.proofs.lemmas.Option.{slice_get-get_or}
use Rattle.std.specs.Prelude.{is_some}
use Rattle.version_map.specs.Deltas.{at}
use Rattle.code_runs.specs.Births.{path_in}
use Rattle.rev_record.specs.Words.{HasRead}
use Rattle.rev_record.proofs.Loops.{read_more, read_none}
use Rattle.rev_record.proofs.reads.locations_read.Goals as goal
use Rattle.rev_record.proofs.reads.locations_read.Goals.{then-is_some+in_ok-one+in_ok-push, else-is_some}

pub loop-location-preserved : goal.loop-location-preserved
loop-location-preserved c = elim c.if-is_some.branch [
  | then-is_some+in_ok-one+in_ok-push w ↦ λ paths names.
      let less = c.loop-location-test.true in
      let many = c.locations-location-end.ensures in
      let long = c.requires.many in
      subst (HasRead (path_in paths) c.args.variables.now (at c.args.noted.now) c.args.base.now
      (c.loop-location.location + 1))
      (sym (ap (λ v. v.items) w.read-is ∙ (w.in_ok-push.ensures).items))
      (read_more (path_in paths) c.args.variables.now (at c.args.noted.now) c.args.base.now c.loop-location.location
      c.loop-location.read.items (c.loop-location.invariant paths names)
      _ (slice_get-get_or c.args.base.now c.loop-location.location _ (omega (arith, less, many, long)))
      (sym (ap is_some c.get.ensures) ∙ sym c.is_some.ensures ∙ w.if-is_some.true) w.in_ok-one.one
      (w.in_ok-one.ensures paths names))
  | else-is_some w ↦ λ paths names.
      subst (HasRead (path_in paths) c.args.variables.now (at c.args.noted.now) c.args.base.now
      (c.loop-location.location + 1))
      (sym (ap (λ v. v.items) w.read-is))
      (read_none (path_in paths) c.args.variables.now (at c.args.noted.now) c.args.base.now c.loop-location.location
      c.loop-location.read.items (c.loop-location.invariant paths names)
      (sym (ap is_some c.get.ensures) ∙ sym c.is_some.ensures ∙ w.if-is_some.false))
]
