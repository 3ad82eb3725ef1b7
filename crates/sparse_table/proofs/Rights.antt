-- The right to give memory back may go to another thread.
use denote.RattleType.{RattleType}
use denote.Param.Send.{IsSend, Frees}
use Rattle.core.specs.declared.alloc.Allocator.{Ghosts}
use Rattle.sparse_table.specs.Owned.{words_ty}
use Rattle.sparse_table.specs.contracts.span.Right.{the_row}

pub right_send : (A : RattleType) (g : Ghosts A.Denot) → Frees g g.dealloc_token → IsSend (the_row A g)
right_send A g f = record {
  owned = λ d vs. ((λ vss. (tt, ((λ uss. (tt, tt)), tt))), f.frees d.heap (words_ty d.len) d.at);
  leaving = λ k x vs. tt;
}
