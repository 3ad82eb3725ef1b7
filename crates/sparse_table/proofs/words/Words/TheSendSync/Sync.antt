-- Threads may share a `&` to the words: what it holds names no thread.
use denote.RattleType.{RattleType}
use denote.Param.Send.{IsSync, sendable}
use Rattle.sparse_table.specs.declared.words.WordRule.{Ghosts}
use Rattle.sparse_table.specs.contracts.words.Words.{the_row, the_type}
use denote.Struct.Struct.{Struct}
use denote.Struct.Owning.{shape}
use Rattle.sparse_table.proofs.Sent.{shares_keyless}

pub sync : (V K P : RattleType) (g : Ghosts P.Denot V.Denot K.Denot) → IsSync (the_row V K P g)
sync V K P g = let fields : IsSync (Struct (shape (the_type V K P g))) = search sendable depth 20 in
    record {
      shared = λ d b o ν. (
        fields.shared (d.ptr, (tt, tt)) b o ν,
        shares_keyless V.coded.code d.id
            (g.holds d.key) d.ptr ν,
      );
    }
