-- Answers of rooms_of: a block applies blocks before it alone, so their rooms and its own locals give its room.
use Rattle.std.proofs.Common.{◌∙◌, ◌++◌, ◌∷◌, [], List, ℕ, length, ap, sym, arith}
use Rattle.std.specs.Prelude.{slice_get}
use Rattle.code_soundness.proofs.Basics.{some_within}
use Rattle.fun_run.specs.Rooms.{room_of}
use Rattle.fun_run.proofs.Limits.{few_locals, one_room, room_there}
use Rattle.fun_run.proofs.rooms.rooms_of.Goals as goal

pub room_for-room-requires : goal.room_for-room-requires
room_for-room-requires c =
    let v = c.loop-n.invariant in
    let at = ap (λ xs. slice_get xs c.loop-n.n) (sym v.blocks) ∙ c.block_in.ensures in
    few_locals c.args.code.now c.requires c.loop-n.n c.block_in.result.now at

pub loop-n-preserved : goal.loop-n-preserved
loop-n-preserved c =
    let v = c.loop-n.invariant in
    let at = ap (λ xs. slice_get xs c.loop-n.n) (sym v.blocks) ∙ c.block_in.ensures in
    let room =
    c.room_for-room.ensures ∙ ap (λ (rs : List ℕ). room_of rs c.block_in.result.now) c.as_slice.ensures.value in
    let items = c.in_ok-push.ensures.items ∙ ap (λ (r : ℕ). c.loop-n.rooms.items ++ r ∷ []) room in
    let o = one_room c.args.code.now c.loop-n.rooms.items c.push.new.self.items c.loop-n.n _ c.block_in.result.now
    v.many v.each at
    (room_there c.args.code.now c.requires c.loop-n.n c.block_in.result.now at c.loop-n.rooms.items v.each) items in
    record { blocks = v.blocks; many = o.0; each = o.1 }

pub returns : goal.returns
returns c = λ n b is.
    let v = c.loop-n.invariant in
    let w = some_within c.args.code.now.blocks n b is in
    let t = c.loop-n-test.false in
    let s = ap (λ xs. length xs) v.blocks in
    v.each n b (omega (arith, w, t, s)) is
