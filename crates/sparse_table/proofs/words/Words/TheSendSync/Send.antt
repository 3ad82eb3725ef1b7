-- The words may go to another thread: what they own names no thread.
use denote.RattleType.{RattleType}
use denote.Param.Send.{IsSend}
use Rattle.sparse_table.specs.declared.words.WordRule.{Ghosts}
use Rattle.sparse_table.specs.contracts.words.Words.{the_row}
use Rattle.sparse_table.proofs.Sent.{owns_keyless}

pub send : (V K P : RattleType) (g : Ghosts P.Denot V.Denot K.Denot) → IsSend (the_row V K P g)
send V K P g = record {
  owned = λ d vs. (
    (λ vss. (tt, (tt, ((λ uss. (tt, tt)), tt)))),
    owns_keyless V.coded.code d.id
        (g.holds d.key) d.ptr,
  );
  leaving = λ k f vs. tt;
}
