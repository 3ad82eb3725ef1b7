-- Answers of AtJoin::text: the joiner stands for the state, so its bytes are the text of the state.
use Rattle.std.proofs.Common.{◌∙◌, sym}
use Rattle.rev_vm.proofs.Boxes.{same_join}
use Rattle.rev_vm.proofs.join.AtJoin.text.Goals as goal

pub returns : goal.returns
returns t c = λ g s h.
    c.as_slice.ensures.value
    ∙ sym (same_join (sym c.deref.ensures) g c.args.self.now.is_try c.args.self.now.on s
    h).stands.stands.text
