-- Answers of begin_with: the block's room holds its first frame, and memory for all locations has no write.
use Rattle.code_soundness.proofs.Accepting.{no_fault_accepted}
use Rattle.rev_vm.proofs.starting.begin_with.Goals as goal

pub first_frame-requires-clause-room : goal.first_frame-requires-clause-room
first_frame-requires-clause-room c = (c.room-room.ensures c.block-b.result.now c.block-b.ensures).frame

pub location_count-count-requires : goal.location_count-count-requires
location_count-count-requires c = no_fault_accepted c.code.result.now c.code.ensures.faultless

pub returns-clause-run : goal.returns-clause-run
returns-clause-run c = record {
  body = c.block-b.result.now;
  is = c.block-b.ensures;
  room = c.room-room.result;
  enough = c.room-room.ensures c.block-b.result.now c.block-b.ensures;
  first = c.in_ok-run.ensures;
}
