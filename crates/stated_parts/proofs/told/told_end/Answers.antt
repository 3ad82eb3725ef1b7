-- Answers of told_end: the trap, the writes of the slots, the text and the fuel are those that the part tells.
use Rattle.std.proofs.Common.{◌∙◌, ap, option_map, refl, subst, sym}
use Rattle.revision_state.specs.Views.{given}
use Rattle.revision_state.specs.Ends.{phase_of}
use Rattle.stated_parts.specs.Told.{AreSlots}
use Rattle.stated_parts.proofs.Accepted.{accepted}
use Rattle.stated_parts.proofs.Telling.{tells_end}
use Rattle.stated_parts.proofs.told.told_end.Goals as goal

pub returns : goal.returns
returns c =
    let t = c.args.stated.now.setting in
    let cs = c.as_slice.result.now in
    let are = subst (λ o. AreSlots (given t) cs (option_map (λ v. v.items) o)) c.in-Some-2.is c.in_ok-slots.ensures in
    tells_end (given t) (accepted t) c.args.part.now _ cs c.in-Some-2.slots.items c.as_slice.ensures are
    c.in_ok-written_in.ensures (c.in_ok-from_slice.ensures.items ∙ c.as_slice-2.ensures) refl
    (sym c.in_ok-trap.ensures ∙ ap (option_map phase_of) c.in-Some.is)
