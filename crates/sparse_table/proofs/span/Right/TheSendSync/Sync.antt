-- Threads may share a `&` to the right to give memory back where the allocator may go to another.
use denote.RattleType.{RattleType}
use denote.Param.Send.{IsSend, IsSync, Frees, part_keyless}
use Rattle.core.specs.declared.alloc.Allocator.{Ghosts}
use Rattle.sparse_table.specs.contracts.span.Right.{the_row}
use Rattle.sparse_table.proofs.Rights.{right_send}

pub sync : (A : RattleType) (g : Ghosts A.Denot) → IsSend A → Frees g g.dealloc_token → IsSync (the_row A g)
sync A g s f = record { shared = λ d b o ν q. part_keyless (the_row A g) (right_send A g f) q d b o }
