-- Answers of meet_trapped: a TryJoin drops the trap and goes on, and a Join takes it, by the case of the joiner.
use Rattle.std.proofs.Common.{◌∙◌, true, false, sym, subst}
use Rattle.code_machine.specs.Local.{end_of}
use Rattle.rev_vm.specs.Meaning.{IsEnd}
use Rattle.rev_code.specs.Events as events
use Rattle.code_world.specs.LegOutcomes.{meets}
use Rattle.code_world.proofs.Coming.{inherits, is_trapped}
use Rattle.code_world.proofs.advance.meet_trapped.Goals as goal

pub dropped-requires : goal.dropped-requires
dropped-requires c = sym c.is_try.ensures ∙ c.if-is_try.true

pub trapped-requires : goal.trapped-requires
trapped-requires c = sym c.is_try.ensures ∙ c.if-is_try.false

pub returns-then-is_try : goal.returns-then-is_try
returns-then-is_try c = λ g s j v stands end fin.
    let t = is_trapped j v g end c.args.trap fin in (
      events.past_join s true false c.args.at.on,
      inherits g c.args.at s j true t.0 (sym c.is_try.ensures ∙ c.if-is_try.true) t.1,
      c.dropped.ensures.state g s stands,
    )

pub returns-else-is_try : goal.returns-else-is_try
returns-else-is_try c = λ g s j v stands end fin.
    let t = is_trapped j v g end c.args.trap fin in
    subst (IsEnd g (end_of (meets g c.args.at s j))) (sym c.retire.ensures.end)
    (subst (λ l. IsEnd g (end_of l) c.trapped.result.end)
    (sym (inherits g c.args.at s j false t.0 (sym c.is_try.ensures ∙ c.if-is_try.false) t.1))
    (c.trapped.ensures.end g s t.0 stands t.2))
