-- Answers of AtJoin::trapped: it stops with the joiner's writes, text and fuel, and with the trap's cause and line.
use Rattle.std.proofs.Common.{◌∙◌, Some, sym, ap, subst}
use Rattle.code_soundness.specs.Typed.{location_kinds}
use Rattle.code_machine.specs.Local.{trapped, written_from}
use Rattle.code_machine.specs.Joining.{origin_of}
use Rattle.rev_vm.specs.Meaning.{AreWritten, IsPhase}
use Rattle.rev_vm.proofs.Joins.{its_writes}
use Rattle.rev_vm.proofs.join.AtJoin.trapped.Goals as goal

pub returns-clause-end : goal.returns-clause-end
returns-clause-end t c = λ g s u h k. record {
  written = subst (AreWritten (location_kinds g.code.vars) (written_from 0 s.locations))
      (sym c.stop_in_room.ensures.written)
      (its_writes g s h (sym c.args.self.revision.value.memory.written ∙ h.stands.size));
  text = c.stop_in_room.ensures.text ∙ sym h.stands.stands.text;
  fuel = c.stop_in_room.ensures.fuel ∙ h.stands.stands.here.run.fuel;
  phase = subst
      (IsPhase (trapped (record { cause = u.cause; line = u.line; origin = Some (origin_of c.args.self.on u.origin) })))
      (sym c.stop_in_room.ensures.finish)
      (record {
        cause = k.cause;
        line = k.line;
        origin = ap Some (c.first_of-first.ensures ∙ ap (origin_of c.args.self.on) k.origin);
      });
}
