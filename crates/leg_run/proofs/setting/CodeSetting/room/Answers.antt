-- Answers of CodeSetting::room: the setting's rooms serve the blocks, so the one at the block's place is enough.
use Rattle.std.proofs.Common.{◌≡◌, ◌∙◌, ◌<◌, length, sym, ap, subst}
use Rattle.std.specs.Prelude.{slice_get}
use Rattle.code_soundness.proofs.Lists.{some_eq, some_within}
use Rattle.fun_run.specs.Rooms.{IsRoom}
use Rattle.leg_run.proofs.setting.CodeSetting.room.Goals as goal

pub room_at-requires : goal.room_at-requires
room_at-requires c =
    let h = c.args.self.now.roomy c.args.n c.requires.0 c.requires.1 in
    subst (λ xs. c.args.n < length xs) (sym c.as_slice.ensures.value)
    (some_within c.args.self.now.rooms.items c.args.n h.room h.is)

pub returns : goal.returns
returns c = λ b is.
    let h = c.args.self.now.roomy c.args.n b is in
    let e : h.room ≡ c.room_at.result =
    some_eq (sym h.is ∙ ap (λ xs. slice_get xs c.args.n) (sym c.as_slice.ensures.value) ∙ c.room_at.ensures) in
    subst (IsRoom c.args.self.now.code c.args.n b) e h.enough
