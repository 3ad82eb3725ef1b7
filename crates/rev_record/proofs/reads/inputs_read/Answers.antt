-- `inputs_read`: one position after another.
use Rattle.std.proofs.Common.{◌∙◌, ◌+◌, ap, sym, subst}
use Rattle.std.specs.Prelude.{is_some}
use Rattle.version_map.specs.Deltas.{at}
use Rattle.rev_record.specs.Words.{HasGiven}
use Rattle.rev_record.proofs.Loops.{given_more, given_none}
use Rattle.rev_record.proofs.reads.inputs_read.Goals as goal
use Rattle.rev_record.proofs.reads.inputs_read.Goals.{then-is_some+in_ok-push, else-is_some}

pub loop-position-preserved : goal.loop-position-preserved
loop-position-preserved c = elim c.if-is_some.branch [
  | then-is_some+in_ok-push w ↦
      subst (HasGiven (at c.args.noted.now) c.args.inputs.now (c.loop-position.position + 1))
      (sym (ap (λ v. v.items) w.read-is ∙ (w.in_ok-push.ensures).items))
      (given_more (at c.args.noted.now) c.args.inputs.now c.loop-position.position c.loop-position.read.items
      c.loop-position.invariant
      w.given_at-one.result w.given_at-one.ensures.position w.given_at-one.ensures.number
      (sym (ap is_some c.get.ensures) ∙ sym c.is_some.ensures ∙ w.if-is_some.true))
  | else-is_some w ↦
      subst (HasGiven (at c.args.noted.now) c.args.inputs.now (c.loop-position.position + 1))
      (sym (ap (λ v. v.items) w.read-is))
      (given_none (at c.args.noted.now) c.args.inputs.now c.loop-position.position c.loop-position.read.items
      c.loop-position.invariant
      (sym (ap is_some c.get.ensures) ∙ sym c.is_some.ensures ∙ w.if-is_some.false))
]
