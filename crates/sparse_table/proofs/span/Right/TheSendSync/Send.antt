-- The right to give memory back may go to another thread where the allocator may.
use denote.RattleType.{RattleType}
use denote.Param.Send.{IsSend, Frees}
use Rattle.core.specs.declared.alloc.Allocator.{Ghosts}
use Rattle.sparse_table.specs.contracts.span.Right.{the_row}
use Rattle.sparse_table.proofs.Rights.{right_send}

pub send : (A : RattleType) (g : Ghosts A.Denot) → IsSend A → Frees g g.dealloc_token → IsSend (the_row A g)
send A g s f = right_send A g f
