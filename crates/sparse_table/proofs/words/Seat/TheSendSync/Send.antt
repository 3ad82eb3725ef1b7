-- A seat may go to another thread: what it owns names no thread.
use denote.RattleType.{RattleType}
use denote.Param.Send.{IsSend}
use Rattle.sparse_table.specs.contracts.words.Seat.{the_row}
use Rattle.sparse_table.proofs.Sent.{seat_keyless}

pub send : (V : RattleType) → IsSend (the_row V)
send V = record {
  owned = λ d vs. (
    (λ vss. (tt, ((λ uss. (tt, tt)), tt))),
    seat_keyless V.coded.code d.words d.id
        d.view,
  );
  leaving = λ k f vs. tt;
}
