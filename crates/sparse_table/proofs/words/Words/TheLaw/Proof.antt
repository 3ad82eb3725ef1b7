-- A `&` to the words holds their invariant and a share of their token. Assumes `Logic`.
use Rattle.std.proofs.Common.{[], ◌∷◌}
use denote.Struct.Tuple.{Tuple}
use denote.RattleType.{RattleType}
use denote.Param.Laws.{Laws}
use denote.Param.Shared.{copy_shared}
use denote.Struct.Field.{RawPtr-field}
use denote.Struct.Laws.{RawPtr-copy, field_copy}
use denote.Struct.Lending.{of_Lends}
use Rattle.core.specs.contracts.marker.PhantomData as P
use Rattle.sparse_table.specs.declared.words.WordRule.{Ghosts}
use Rattle.sparse_table.specs.contracts.words.Words as C
use Rattle.sparse_table.proofs.words.Words.TheLaw.Statement.{statement}
use Rattle.sparse_table.proofs.Shown.{shown_laws, lends_shown}

pub shares : (U X Y : RattleType) (g : Ghosts Y.Denot U.Denot X.Denot) (L' : Laws U) (K : Laws X) (L'' : Laws Y)
    → statement U X Y g L' K L''
shares U X Y g L' K L'' = let Both = Tuple (Y ∷ U ∷ X ∷ []) in of_Lends (C.struct U X Y g)
    (C.the_codes U.Denot X.Denot Y.Denot U.coded X.coded Y.coded (P.the_row Both).coded) (C.the_heap U X Y g)
    (C.the_lent U X Y g)
    (λ d p. shown_laws U.coded (g.holds d.key) d.ptr d.id)
    (copy_shared RawPtr-field RawPtr-copy, (copy_shared (P.the_field Both) (field_copy (P.the_type Both) tt), tt))
    (λ M 𝓤 𝓛 d p. lends_shown U.coded (g.holds d.key) d.ptr d.id 𝓛 (C.the_row U X Y g).lives)
