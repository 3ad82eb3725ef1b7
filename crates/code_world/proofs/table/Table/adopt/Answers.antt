-- `Table::adopt`: an end in the place of a running revision.
use Rattle.std.proofs.Common.{◌∙◌, sym, ap, subst}
use Rattle.revision_machine.specs.Numbered.{put_number}
use Rattle.code_world.specs.declared.slot.WorldSlot.TheVariants as slot
use Rattle.code_world.specs.Answers.{Answers}
use Rattle.code_world.specs.Turns.{ends_with}
use Rattle.code_world.proofs.AdoptedEnds.{adopted}
use Rattle.code_world.proofs.Touching.{ends_touch, others_put, touches_so}
use Rattle.code_world.proofs.table.Table.adopt.Goals as goal

pub returns : goal.returns
returns c =
    let slots =
    c.put.ensures.now
    ∙ ap (λ ss. put_number ss c.args.number (slot.Ended c.args.end)) c.take_runner-runner.ensures.now in
    record {
      answer = λ g w good ends.
          subst (λ z. Answers g w c.args.number z c.put.new.self) (sym c.answer_of-answer.ensures)
          (adopted g c.args.self.now w good c.args.number c.args.end ends c.take_runner-runner.result
          c.take_runner-runner.ensures.was c.put.new.self slots
          (c.put.ensures.births ∙ c.take_runner-runner.ensures.births));
      touches = touches_so c.args.self.now c.put.new.self c.args.number (ends_with c.args.end.finish)
          c.answer_of-answer.result c.answer_of-answer.ensures
          (ends_touch c.args.self.now c.put.new.self c.args.number c.args.end.finish
          (others_put c.args.self.now.slots.items c.put.new.self.slots.items c.args.number slot.Taken
          (slot.Ended c.args.end) slots));
    }
